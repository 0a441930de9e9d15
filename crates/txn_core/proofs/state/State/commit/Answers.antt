use Rattle.std.proofs.Common.{◌≡◌, ℕ, suc, ◌++◌, ◌∷◌, [], ap, ap₂, ◌∙◌, sym, subst}
use Rattle.versions.specs.declared.turn.TurnKind.TheVariants.{Committed}
use Rattle.versions.specs.Changes.{ops_changes}
use Rattle.versions.specs.Databases.{Database, IsDatabase}
use Rattle.versions.specs.Operations.{OpsFit, rank_ops, with_ops}
use Rattle.versions.specs.Turns.{after_turn}
use Rattle.txn_core.specs.Courses.{Course, IsPast}
use Rattle.txn_core.specs.Outcomes.{turn_on, conflict_on, commit_kind, commit_answer}
use Rattle.txn_core.specs.declared.outcome.Committed.TheVariants as commit
use Rattle.txn_core.proofs.Clashing.{still_fit}
use Rattle.txn_core.proofs.Taken.{conflict_answer, conflict_turn, conflict_current, conflict_course, made_answer, made_turn, made_current, made_course, since_past}
use Rattle.txn_core.proofs.state.State.commit.Goals as goal

pub invariant_of-self-in-Some : goal.invariant_of-self-in-Some
invariant_of-self-in-Some c =
    conflict_course c.self.inside.first c.self.inside.turns.items c.add_turn.new.turns.items c.args.session c.self.inside.current c.in-Some.table c.in-Some.number c.new.result c.self.invariant c.in_ok-add_turn-in-Some.ensures.added c.new.ensures

pub make_commit-requires-clause-fit : goal.make_commit-requires-clause-fit
make_commit-requires-clause-fit c =
    let now = c.self.inside.current in
    let since_is = c.number-since.ensures.value ∙ ap (λ (d : Database). d.number) c.version.ensures in
    let none = sym (ap₂ (λ (d : Database) (n : ℕ). conflict_on d n c.args.ending.touched.now) c.version-2.ensures since_is) ∙ sym c.first_conflict.ensures.conflict ∙ c.in-None.is in
    let past = subst (λ (s : Course). IsPast s c.args.ending.base.now) (sym c.self.view_is) c.requires.base in
    subst (λ (d : Database). OpsFit (rank_ops c.args.ending.ops.now) d) (sym c.version-in-None.ensures)
    (still_fit (rank_ops c.args.ending.ops.now) c.args.ending.base.now now c.args.ending.touched.now
    (subst (λ (d : Database). IsDatabase d) c.version.ensures c.number-since.ensures.database)
    (subst (λ (d : Database). IsDatabase d) c.version-2.ensures c.first_conflict.ensures.database)
    (since_past c.self.inside.first c.self.inside.turns.items now c.args.ending.base.now past.taken past.within past.leads c.self.invariant) none c.requires.touched c.requires.fit)

pub invariant_of-self-in-None : goal.invariant_of-self-in-None
invariant_of-self-in-None c =
    let now = c.self.inside.current in
    let made = c.in_ok-made-in-None.made in
    made_course c.self.inside.first c.self.inside.turns.items c.add_turn-in-None.new.turns.items c.args.session now made.version c.args.ending.ops.now made.what made.changes
    (subst (λ (d : Database). IsDatabase d) c.version-2.ensures c.first_conflict.ensures.database) c.self.invariant c.in_ok-add_turn-in-None.ensures.added
    (c.in_ok-made-in-None.ensures.what ∙ ap (λ (d : Database). Committed (suc d.number) c.args.ending.ops.now) c.version-in-None.ensures)
    (c.in_ok-made-in-None.ensures.changes ∙ ap (ops_changes (rank_ops c.args.ending.ops.now)) c.version-in-None.ensures)
    (c.in_ok-made-in-None.ensures.version ∙ ap (with_ops (rank_ops c.args.ending.ops.now)) c.version-in-None.ensures)

pub returns-in_ok-add_turn-in-Some-clause-answer : goal.returns-in_ok-add_turn-in-Some-clause-answer
returns-in_ok-add_turn-in-Some-clause-answer c =
    let now = c.self.inside.current in
    let since_is = c.number-since.ensures.value ∙ ap (λ (d : Database). d.number) c.version.ensures in
    let found = sym (ap₂ (λ (d : Database) (n : ℕ). conflict_on d n c.args.ending.touched.now) c.version-2.ensures since_is) ∙ sym c.first_conflict.ensures.conflict ∙ c.in-Some.is in
    subst (λ (s : Course). commit.Conflict c.in-Some.table c.in-Some.number ≡ commit_answer s.current c.args.ending.base.now.number c.args.ending.touched.now) c.self.view_is
    (conflict_answer now c.args.ending.base.now.number c.args.ending.touched.now c.in-Some.table c.in-Some.number found)

pub returns-in_ok-add_turn-in-Some-clause-turn : goal.returns-in_ok-add_turn-in-Some-clause-turn
returns-in_ok-add_turn-in-Some-clause-turn c =
    let now = c.self.inside.current in
    let since_is = c.number-since.ensures.value ∙ ap (λ (d : Database). d.number) c.version.ensures in
    let found = sym (ap₂ (λ (d : Database) (n : ℕ). conflict_on d n c.args.ending.touched.now) c.version-2.ensures since_is) ∙ sym c.first_conflict.ensures.conflict ∙ c.in-Some.is in
    subst (λ (s : Course). c.add_turn.new.turns.items ≡ s.turns ++ turn_on c.args.session (commit_kind s.current c.args.ending.base.now.number c.args.ending.touched.now c.args.ending.ops.now) s.current ∷ []) c.self.view_is
    (conflict_turn c.self.inside.turns.items c.add_turn.new.turns.items c.args.session now c.args.ending.base.now.number c.args.ending.touched.now c.args.ending.ops.now c.in-Some.table c.in-Some.number c.new.result c.in_ok-add_turn-in-Some.ensures.added c.new.ensures found)

pub returns-in_ok-add_turn-in-Some-clause-current : goal.returns-in_ok-add_turn-in-Some-clause-current
returns-in_ok-add_turn-in-Some-clause-current c =
    let now = c.self.inside.current in
    let since_is = c.number-since.ensures.value ∙ ap (λ (d : Database). d.number) c.version.ensures in
    let found = sym (ap₂ (λ (d : Database) (n : ℕ). conflict_on d n c.args.ending.touched.now) c.version-2.ensures since_is) ∙ sym c.first_conflict.ensures.conflict ∙ c.in-Some.is in
    subst (λ (s : Course). now ≡ after_turn (commit_kind s.current c.args.ending.base.now.number c.args.ending.touched.now c.args.ending.ops.now) s.current) c.self.view_is
    (conflict_current now c.args.ending.base.now.number c.args.ending.touched.now c.args.ending.ops.now c.in-Some.table c.in-Some.number found)

pub returns-in_ok-add_turn-in-None-clause-answer : goal.returns-in_ok-add_turn-in-None-clause-answer
returns-in_ok-add_turn-in-None-clause-answer c =
    let now = c.self.inside.current in
    let since_is = c.number-since.ensures.value ∙ ap (λ (d : Database). d.number) c.version.ensures in
    let none = sym (ap₂ (λ (d : Database) (n : ℕ). conflict_on d n c.args.ending.touched.now) c.version-2.ensures since_is) ∙ sym c.first_conflict.ensures.conflict ∙ c.in-None.is in
    subst (λ (s : Course). commit.Committed c.in_ok-made-in-None.made.number ≡ commit_answer s.current c.args.ending.base.now.number c.args.ending.touched.now) c.self.view_is
    (made_answer now c.args.ending.base.now.number c.args.ending.touched.now c.in_ok-made-in-None.made.number none (c.in_ok-made-in-None.ensures.number ∙ ap (λ (d : Database). suc d.number) c.version-in-None.ensures))

pub returns-in_ok-add_turn-in-None-clause-turn : goal.returns-in_ok-add_turn-in-None-clause-turn
returns-in_ok-add_turn-in-None-clause-turn c =
    let now = c.self.inside.current in
    let since_is = c.number-since.ensures.value ∙ ap (λ (d : Database). d.number) c.version.ensures in
    let none = sym (ap₂ (λ (d : Database) (n : ℕ). conflict_on d n c.args.ending.touched.now) c.version-2.ensures since_is) ∙ sym c.first_conflict.ensures.conflict ∙ c.in-None.is in
    let made = c.in_ok-made-in-None.made in
    subst (λ (s : Course). c.add_turn-in-None.new.turns.items ≡ s.turns ++ turn_on c.args.session (commit_kind s.current c.args.ending.base.now.number c.args.ending.touched.now c.args.ending.ops.now) s.current ∷ []) c.self.view_is
    (made_turn c.self.inside.turns.items c.add_turn-in-None.new.turns.items c.args.session now c.args.ending.base.now.number c.args.ending.touched.now c.args.ending.ops.now made.what made.changes c.in_ok-add_turn-in-None.ensures.added
    (c.in_ok-made-in-None.ensures.what ∙ ap (λ (d : Database). Committed (suc d.number) c.args.ending.ops.now) c.version-in-None.ensures)
    (c.in_ok-made-in-None.ensures.changes ∙ ap (ops_changes (rank_ops c.args.ending.ops.now)) c.version-in-None.ensures) none)

pub returns-in_ok-add_turn-in-None-clause-current : goal.returns-in_ok-add_turn-in-None-clause-current
returns-in_ok-add_turn-in-None-clause-current c =
    let now = c.self.inside.current in
    let since_is = c.number-since.ensures.value ∙ ap (λ (d : Database). d.number) c.version.ensures in
    let none = sym (ap₂ (λ (d : Database) (n : ℕ). conflict_on d n c.args.ending.touched.now) c.version-2.ensures since_is) ∙ sym c.first_conflict.ensures.conflict ∙ c.in-None.is in
    subst (λ (s : Course). c.in_ok-made-in-None.made.version ≡ after_turn (commit_kind s.current c.args.ending.base.now.number c.args.ending.touched.now c.args.ending.ops.now) s.current) c.self.view_is
    (made_current now c.in_ok-made-in-None.made.version c.args.ending.base.now.number c.args.ending.touched.now c.args.ending.ops.now (c.in_ok-made-in-None.ensures.version ∙ ap (with_ops (rank_ops c.args.ending.ops.now)) c.version-in-None.ensures) none)
