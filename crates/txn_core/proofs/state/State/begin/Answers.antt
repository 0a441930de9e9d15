use Rattle.std.proofs.Common.{◌≡◌, ◌++◌, ◌∷◌, [], List, ap, ◌∙◌, sym, subst}
use Rattle.versions.specs.declared.turn.Turn.{Turn}
use Rattle.versions.specs.declared.turn.TurnKind.TheVariants.{Began}
use Rattle.versions.specs.Databases.{Database}
use Rattle.versions.specs.Turns.{changes_by}
use Rattle.txn_core.specs.Courses.{Course}
use Rattle.txn_core.specs.Outcomes.{turn_on}
use Rattle.txn_core.specs.Since.{IsCourse}
use Rattle.txn_core.proofs.Stepped.{told_turn, begun}
use Rattle.txn_core.proofs.state.State.begin.Goals as goal

pub invariant_of-self-2 : goal.invariant_of-self-2
unfolding changes_by
invariant_of-self-2 c =
    let now = c.self.inside.current in
    let number_is = c.number-number.ensures.value ∙ ap (λ (d : Database). d.number) c.version.ensures in
    let told = told_turn c.self.inside.turns.items c.add_turn.new.turns.items c.args.session (Began c.number-number.result) (Began now.number) c.new.result now c.in_ok-add_turn.ensures.added (ap Began number_is) c.new.ensures in
    subst (λ (ts : List Turn). IsCourse c.self.inside.first ts now) (sym told) (begun c.args.session c.self.inside.first c.self.inside.turns.items now c.self.invariant)

pub returns-clause-turn : goal.returns-clause-turn
unfolding changes_by
returns-clause-turn c =
    let now = c.self.inside.current in
    let number_is = c.number-number.ensures.value ∙ ap (λ (d : Database). d.number) c.version.ensures in
    let told = told_turn c.self.inside.turns.items c.add_turn.new.turns.items c.args.session (Began c.number-number.result) (Began now.number) c.new.result now c.in_ok-add_turn.ensures.added (ap Began number_is) c.new.ensures in
    subst (λ (s : Course). c.add_turn.new.turns.items ≡ s.turns ++ turn_on c.args.session (Began s.current.number) s.current ∷ []) c.self.view_is told
