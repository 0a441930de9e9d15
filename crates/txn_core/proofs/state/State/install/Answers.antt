use Rattle.std.proofs.Common.{◌≡◌, suc, ◌<◌, ◌≤◌, ◌++◌, ◌∷◌, [], max, ap, ◌∙◌, sym, subst, arith}
use Rattle.enc_table.specs.declared.stamps.Stamps.{Stamps}
use Rattle.versions.specs.declared.turn.TurnKind.TheVariants.{Installed}
use Rattle.versions.specs.Changes.{install_changes}
use Rattle.versions.specs.Databases.{Database, IsDatabase, stamps_at}
use Rattle.versions.specs.Newer.{last_change}
use Rattle.versions.specs.Operations.{HasColumn, with_install}
use Rattle.versions.specs.Turns.{after_turn}
use Rattle.txn_core.specs.Courses.{Course, IsPast}
use Rattle.txn_core.specs.Outcomes.{turn_on, install_kind, install_answer, changed_by}
use Rattle.txn_core.specs.declared.outcome.Installed.TheVariants as install
use Rattle.txn_core.proofs.Clashing.{column_stays}
use Rattle.txn_core.proofs.Taken.{since_past, is_fresh, stale_answer, stale_turn, stale_current, stale_course, laid_answer, laid_turn, laid_current, laid_course}
use Rattle.txn_core.proofs.state.State.install.Goals as goal

pub invariant_of-self-then-since-number : goal.invariant_of-self-then-since-number
invariant_of-self-then-since-number c =
    stale_course c.self.inside.first c.self.inside.turns.items c.add_turn.new.turns.items c.args.session c.self.inside.current c.args.table c.max-number.result c.new.result c.self.invariant c.in_ok-add_turn.ensures.added c.new.ensures

pub returns-then-since-number-clause-answer : goal.returns-then-since-number-clause-answer
unfolding changed_by last_change
returns-then-since-number-clause-answer c =
    let now = c.self.inside.current in
    let since_is = c.number-since.ensures.value ∙ ap (λ (d : Database). d.number) c.version.ensures in
    let number_is = c.max-number.ensures ∙ ap (λ (s : Stamps). max s.written s.laid) (c.stamps_of-stamps.ensures.stamps ∙ ap (λ (d : Database). stamps_at d.stamps c.args.table.0) c.version-2.ensures) in
    let newer : c.args.base.now.number < c.max-number.result = omega (arith, since_is, c.if-since-number.true) in
    subst (λ (s : Course). install.Stale c.args.table c.max-number.result ≡ install_answer s.current c.args.base.now.number c.args.table) c.self.view_is
    (stale_answer now c.args.base.now.number c.args.table c.max-number.result number_is newer)

pub returns-then-since-number-clause-turn : goal.returns-then-since-number-clause-turn
unfolding changed_by last_change
returns-then-since-number-clause-turn c =
    let now = c.self.inside.current in
    let since_is = c.number-since.ensures.value ∙ ap (λ (d : Database). d.number) c.version.ensures in
    let number_is = c.max-number.ensures ∙ ap (λ (s : Stamps). max s.written s.laid) (c.stamps_of-stamps.ensures.stamps ∙ ap (λ (d : Database). stamps_at d.stamps c.args.table.0) c.version-2.ensures) in
    let newer : c.args.base.now.number < c.max-number.result = omega (arith, since_is, c.if-since-number.true) in
    subst (λ (s : Course). c.add_turn.new.turns.items ≡ s.turns ++ turn_on c.args.session (install_kind s.current c.args.base.now.number c.args.table c.args.column) s.current ∷ []) c.self.view_is
    (stale_turn c.self.inside.turns.items c.add_turn.new.turns.items c.args.session now c.args.base.now.number c.args.table c.args.column c.max-number.result c.new.result c.in_ok-add_turn.ensures.added c.new.ensures number_is newer)

pub returns-then-since-number-clause-current : goal.returns-then-since-number-clause-current
unfolding changed_by last_change
returns-then-since-number-clause-current c =
    let now = c.self.inside.current in
    let since_is = c.number-since.ensures.value ∙ ap (λ (d : Database). d.number) c.version.ensures in
    let number_is = c.max-number.ensures ∙ ap (λ (s : Stamps). max s.written s.laid) (c.stamps_of-stamps.ensures.stamps ∙ ap (λ (d : Database). stamps_at d.stamps c.args.table.0) c.version-2.ensures) in
    let newer : c.args.base.now.number < c.max-number.result = omega (arith, since_is, c.if-since-number.true) in
    subst (λ (s : Course). now ≡ after_turn (install_kind s.current c.args.base.now.number c.args.table c.args.column) s.current) c.self.view_is
    (stale_current now c.args.base.now.number c.args.table c.args.column c.max-number.result number_is newer)

pub make_install-requires-clause-there : goal.make_install-requires-clause-there
unfolding changed_by last_change
make_install-requires-clause-there c =
    let since_is = c.number-since.ensures.value ∙ ap (λ (d : Database). d.number) c.version.ensures in
    let number_is = c.max-number.ensures ∙ ap (λ (s : Stamps). max s.written s.laid) (c.stamps_of-stamps.ensures.stamps ∙ ap (λ (d : Database). stamps_at d.stamps c.args.table.0) c.version-2.ensures) in
    let fresh : c.max-number.result ≤ c.args.base.now.number = omega (arith, since_is, c.if-since-number.false) in
    let past = subst (λ (s : Course). IsPast s c.args.base.now) (sym c.self.view_is) c.requires.base in
    subst (λ (d : Database). HasColumn c.args.table.0 c.args.column.0 d) (sym c.version-3.ensures)
    (column_stays c.args.base.now c.self.inside.current c.args.table c.args.column.0
    (since_past c.self.inside.first c.self.inside.turns.items c.self.inside.current c.args.base.now past.taken past.within past.leads c.self.invariant)
    (is_fresh c.self.inside.current c.args.base.now.number c.args.table c.max-number.result number_is fresh) c.requires.there)

pub invariant_of-self-2 : goal.invariant_of-self-2
invariant_of-self-2 c =
    let now = c.self.inside.current in
    let made = c.in_ok-made.made in
    laid_course c.self.inside.first c.self.inside.turns.items c.add_turn-2.new.turns.items c.args.session now made.version c.args.table c.args.column made.what made.changes
    (subst (λ (d : Database). IsDatabase d) c.version-2.ensures c.stamps_of-stamps.ensures.database) c.self.invariant c.in_ok-add_turn-2.ensures.added
    (c.in_ok-made.ensures.what ∙ ap (λ (d : Database). Installed (suc d.number) c.args.table c.args.column) c.version-3.ensures)
    (c.in_ok-made.ensures.changes ∙ ap (install_changes c.args.table.0 c.args.column.0) c.version-3.ensures)
    (c.in_ok-made.ensures.version ∙ ap (with_install c.args.table.0 c.args.column.0) c.version-3.ensures)

pub returns-clause-answer : goal.returns-clause-answer
unfolding changed_by last_change
returns-clause-answer c =
    let now = c.self.inside.current in
    let since_is = c.number-since.ensures.value ∙ ap (λ (d : Database). d.number) c.version.ensures in
    let number_is = c.max-number.ensures ∙ ap (λ (s : Stamps). max s.written s.laid) (c.stamps_of-stamps.ensures.stamps ∙ ap (λ (d : Database). stamps_at d.stamps c.args.table.0) c.version-2.ensures) in
    let fresh : c.max-number.result ≤ c.args.base.now.number = omega (arith, since_is, c.if-since-number.false) in
    subst (λ (s : Course). install.Installed c.in_ok-made.made.number ≡ install_answer s.current c.args.base.now.number c.args.table) c.self.view_is
    (laid_answer now c.args.base.now.number c.args.table c.max-number.result c.in_ok-made.made.number number_is fresh (c.in_ok-made.ensures.number ∙ ap (λ (d : Database). suc d.number) c.version-3.ensures))

pub returns-clause-turn : goal.returns-clause-turn
unfolding changed_by last_change
returns-clause-turn c =
    let now = c.self.inside.current in
    let since_is = c.number-since.ensures.value ∙ ap (λ (d : Database). d.number) c.version.ensures in
    let number_is = c.max-number.ensures ∙ ap (λ (s : Stamps). max s.written s.laid) (c.stamps_of-stamps.ensures.stamps ∙ ap (λ (d : Database). stamps_at d.stamps c.args.table.0) c.version-2.ensures) in
    let fresh : c.max-number.result ≤ c.args.base.now.number = omega (arith, since_is, c.if-since-number.false) in
    let made = c.in_ok-made.made in
    subst (λ (s : Course). c.add_turn-2.new.turns.items ≡ s.turns ++ turn_on c.args.session (install_kind s.current c.args.base.now.number c.args.table c.args.column) s.current ∷ []) c.self.view_is
    (laid_turn c.self.inside.turns.items c.add_turn-2.new.turns.items c.args.session now c.args.base.now.number c.args.table c.args.column c.max-number.result made.what made.changes c.in_ok-add_turn-2.ensures.added
    (c.in_ok-made.ensures.what ∙ ap (λ (d : Database). Installed (suc d.number) c.args.table c.args.column) c.version-3.ensures)
    (c.in_ok-made.ensures.changes ∙ ap (install_changes c.args.table.0 c.args.column.0) c.version-3.ensures) number_is fresh)

pub returns-clause-current : goal.returns-clause-current
unfolding changed_by last_change
returns-clause-current c =
    let now = c.self.inside.current in
    let since_is = c.number-since.ensures.value ∙ ap (λ (d : Database). d.number) c.version.ensures in
    let number_is = c.max-number.ensures ∙ ap (λ (s : Stamps). max s.written s.laid) (c.stamps_of-stamps.ensures.stamps ∙ ap (λ (d : Database). stamps_at d.stamps c.args.table.0) c.version-2.ensures) in
    let fresh : c.max-number.result ≤ c.args.base.now.number = omega (arith, since_is, c.if-since-number.false) in
    subst (λ (s : Course). c.in_ok-made.made.version ≡ after_turn (install_kind s.current c.args.base.now.number c.args.table c.args.column) s.current) c.self.view_is
    (laid_current now c.in_ok-made.made.version c.args.base.now.number c.args.table c.args.column c.max-number.result (c.in_ok-made.ensures.version ∙ ap (with_install c.args.table.0 c.args.column.0) c.version-3.ensures) number_is fresh)
