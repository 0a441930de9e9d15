use Rattle.std.proofs.Common.{◌∙◌, sym, subst}
use Rattle.versions.specs.Operations.{HasColumn}
use Rattle.server_conn.specs.Connections.{install}
use Rattle.txn_core.specs.Courses.{IsPast}
use Rattle.txn_core.specs.Outcomes.{install_kind}
use Rattle.step_core.proofs.Turned.{not-true, some-held, is-held, has-column, can-install, can-be-stale, install-told, stale-told, install-same, turn-same, current-same}
use Rattle.step_core.proofs.turning.install_on.Goals as goal

pub unreachable-requires : goal.unreachable-requires
unreachable-requires c = not-true (c.in-None.ensures.there.1 (some-held c.args.conn.now.conn c.requires.0 (install c.args.table c.args.column) c.requires.1))

pub install-requires-clause-base : goal.install-requires-clause-base
install-requires-clause-base c = subst (IsPast c.args.state.now) (sym (c.in-Some.ensures.base c.requires.0 (is-held c.args.conn.now.conn c.requires.0 (install c.args.table c.args.column) c.requires.1))) c.requires.2

pub install-requires-clause-there : goal.install-requires-clause-there
install-requires-clause-there c =
    subst (HasColumn c.args.table.0 c.args.column.0) (sym (c.in-Some.ensures.base c.requires.0 (is-held c.args.conn.now.conn c.requires.0 (install c.args.table c.args.column) c.requires.1)))
    (has-column c.args.conn.now.conn c.requires.0 c.args.table c.args.column c.requires.1 c.in-Some.ensures.due)

pub returns-in-Installed-clause-ends : goal.returns-in-Installed-clause-ends
returns-in-Installed-clause-ends c = can-install c.args.conn.now.conn c.requires.0 c.args.table c.args.column c.requires.1

pub returns-in-Installed-clause-tells : goal.returns-in-Installed-clause-tells
returns-in-Installed-clause-tells c = λ h is.
    install-told c.args.state.now.current c.in-Some.ending.base.now h c.args.table c.args.column c.in-Installed.number
    (c.in-Some.ensures.base h (is-held c.args.conn.now.conn h (install c.args.table c.args.column) is)) (sym c.in-Installed.is ∙ c.in_ok-number-in-Some.ensures.answer)

pub returns-in-Installed-clause-turn : goal.returns-in-Installed-clause-turn
returns-in-Installed-clause-turn c = λ h is.
    turn-same c.args.session c.args.state.now c.install.new.self.turns
    (install_kind c.args.state.now.current c.in-Some.ending.base.now.number c.args.table c.args.column) (install_kind c.args.state.now.current h.base.number c.args.table c.args.column)
    (install-same c.args.state.now.current c.in-Some.ending.base.now h c.args.table c.args.column (c.in-Some.ensures.base h (is-held c.args.conn.now.conn h (install c.args.table c.args.column) is)))
    c.in_ok-number-in-Some.ensures.turn

pub returns-in-Installed-clause-current : goal.returns-in-Installed-clause-current
returns-in-Installed-clause-current c = λ h is.
    current-same c.args.state.now c.install.new.self.current
    (install_kind c.args.state.now.current c.in-Some.ending.base.now.number c.args.table c.args.column) (install_kind c.args.state.now.current h.base.number c.args.table c.args.column)
    (install-same c.args.state.now.current c.in-Some.ending.base.now h c.args.table c.args.column (c.in-Some.ensures.base h (is-held c.args.conn.now.conn h (install c.args.table c.args.column) is)))
    c.in_ok-number-in-Some.ensures.current

pub returns-in-Stale-clause-ends : goal.returns-in-Stale-clause-ends
returns-in-Stale-clause-ends c = can-be-stale c.args.conn.now.conn c.requires.0 c.args.table c.args.column c.in-Stale.table.0 c.requires.1

pub returns-in-Stale-clause-tells : goal.returns-in-Stale-clause-tells
returns-in-Stale-clause-tells c = λ h is.
    stale-told c.args.state.now.current c.in-Some.ending.base.now h c.args.table c.args.column c.in-Stale.table c.in-Stale.number
    (c.in-Some.ensures.base h (is-held c.args.conn.now.conn h (install c.args.table c.args.column) is)) (sym c.in-Stale.is ∙ c.in_ok-number-in-Some.ensures.answer)

pub returns-in-Stale-clause-turn : goal.returns-in-Stale-clause-turn
returns-in-Stale-clause-turn c = λ h is.
    turn-same c.args.session c.args.state.now c.install.new.self.turns
    (install_kind c.args.state.now.current c.in-Some.ending.base.now.number c.args.table c.args.column) (install_kind c.args.state.now.current h.base.number c.args.table c.args.column)
    (install-same c.args.state.now.current c.in-Some.ending.base.now h c.args.table c.args.column (c.in-Some.ensures.base h (is-held c.args.conn.now.conn h (install c.args.table c.args.column) is)))
    c.in_ok-number-in-Some.ensures.turn

pub returns-in-Stale-clause-current : goal.returns-in-Stale-clause-current
returns-in-Stale-clause-current c = λ h is.
    current-same c.args.state.now c.install.new.self.current
    (install_kind c.args.state.now.current c.in-Some.ending.base.now.number c.args.table c.args.column) (install_kind c.args.state.now.current h.base.number c.args.table c.args.column)
    (install-same c.args.state.now.current c.in-Some.ending.base.now h c.args.table c.args.column (c.in-Some.ensures.base h (is-held c.args.conn.now.conn h (install c.args.table c.args.column) is)))
    c.in_ok-number-in-Some.ensures.current
