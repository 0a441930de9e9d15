use Rattle.std.proofs.Common.{◌∙◌, ◌<◌, List, length, sym, subst}
use Rattle.versions.specs.declared.op.Op.{Op}
use Rattle.server_conn.specs.Connections.{commit}
use Rattle.txn_core.specs.Courses.{IsPast}
use Rattle.txn_core.specs.Outcomes.{commit_kind}
use Rattle.step_core.proofs.Turned.{not-true, some-held, is-held, has-ops, touched-as, can-commit, can-conflict, commit-told, conflict-told, commit-same, turn-same, current-same}
use Rattle.step_core.proofs.turning.commit_on.Goals as goal

pub unreachable-requires : goal.unreachable-requires
unreachable-requires c = not-true (c.in-None.ensures.there.1 (some-held c.args.conn.now.conn c.requires.0 commit c.requires.1))

pub commit-requires-clause-base : goal.commit-requires-clause-base
commit-requires-clause-base c = subst (IsPast c.args.state.now) (sym (c.in-Some.ensures.base c.requires.0 (is-held c.args.conn.now.conn c.requires.0 commit c.requires.1))) c.requires.2

pub commit-requires-clause-some : goal.commit-requires-clause-some
commit-requires-clause-some c = subst (λ (l : List Op). 0 < length l) (sym (c.in-Some.ensures.ops c.requires.0 (is-held c.args.conn.now.conn c.requires.0 commit c.requires.1))) (has-ops c.args.conn.now.conn c.requires.0 c.requires.1 c.in-Some.ensures.due)

pub commit-requires-clause-touched : goal.commit-requires-clause-touched
commit-requires-clause-touched c =
    touched-as c.in-Some.ending.touched.now c.requires.0.touched c.in-Some.ending.ops.now c.requires.0.ops
    (c.in-Some.ensures.touched c.requires.0 (is-held c.args.conn.now.conn c.requires.0 commit c.requires.1)) (c.in-Some.ensures.ops c.requires.0 (is-held c.args.conn.now.conn c.requires.0 commit c.requires.1))
    (c.in-Some.ensures.fits c.requires.0 (is-held c.args.conn.now.conn c.requires.0 commit c.requires.1)).touches

pub returns-in-Committed-clause-ends : goal.returns-in-Committed-clause-ends
returns-in-Committed-clause-ends c = can-commit c.args.conn.now.conn c.requires.0 c.requires.1

pub returns-in-Committed-clause-tells : goal.returns-in-Committed-clause-tells
returns-in-Committed-clause-tells c = λ h is.
    commit-told c.args.state.now.current c.in-Some.ending.base.now h c.in-Some.ending.touched.now c.in-Committed.number
    (c.in-Some.ensures.base h (is-held c.args.conn.now.conn h commit is)) (c.in-Some.ensures.touched h (is-held c.args.conn.now.conn h commit is))
    (sym c.in-Committed.is ∙ c.in_ok-number-in-Some.ensures.answer)

pub returns-in-Committed-clause-turn : goal.returns-in-Committed-clause-turn
returns-in-Committed-clause-turn c = λ h is.
    turn-same c.args.session c.args.state.now c.commit.new.self.turns
    (commit_kind c.args.state.now.current c.in-Some.ending.base.now.number c.in-Some.ending.touched.now c.in-Some.ending.ops.now) (commit_kind c.args.state.now.current h.base.number h.touched h.ops)
    (commit-same c.args.state.now.current c.in-Some.ending.base.now h c.in-Some.ending.touched.now c.in-Some.ending.ops.now
    (c.in-Some.ensures.base h (is-held c.args.conn.now.conn h commit is)) (c.in-Some.ensures.touched h (is-held c.args.conn.now.conn h commit is)) (c.in-Some.ensures.ops h (is-held c.args.conn.now.conn h commit is)))
    c.in_ok-number-in-Some.ensures.turn

pub returns-in-Committed-clause-current : goal.returns-in-Committed-clause-current
returns-in-Committed-clause-current c = λ h is.
    current-same c.args.state.now c.commit.new.self.current
    (commit_kind c.args.state.now.current c.in-Some.ending.base.now.number c.in-Some.ending.touched.now c.in-Some.ending.ops.now) (commit_kind c.args.state.now.current h.base.number h.touched h.ops)
    (commit-same c.args.state.now.current c.in-Some.ending.base.now h c.in-Some.ending.touched.now c.in-Some.ending.ops.now
    (c.in-Some.ensures.base h (is-held c.args.conn.now.conn h commit is)) (c.in-Some.ensures.touched h (is-held c.args.conn.now.conn h commit is)) (c.in-Some.ensures.ops h (is-held c.args.conn.now.conn h commit is)))
    c.in_ok-number-in-Some.ensures.current

pub returns-in-Conflict-clause-ends : goal.returns-in-Conflict-clause-ends
returns-in-Conflict-clause-ends c = can-conflict c.args.conn.now.conn c.requires.0 c.in-Conflict.table.0 c.requires.1

pub returns-in-Conflict-clause-tells : goal.returns-in-Conflict-clause-tells
returns-in-Conflict-clause-tells c = λ h is.
    conflict-told c.args.state.now.current c.in-Some.ending.base.now h c.in-Some.ending.touched.now c.in-Conflict.table c.in-Conflict.number
    (c.in-Some.ensures.base h (is-held c.args.conn.now.conn h commit is)) (c.in-Some.ensures.touched h (is-held c.args.conn.now.conn h commit is))
    (sym c.in-Conflict.is ∙ c.in_ok-number-in-Some.ensures.answer)

pub returns-in-Conflict-clause-turn : goal.returns-in-Conflict-clause-turn
returns-in-Conflict-clause-turn c = λ h is.
    turn-same c.args.session c.args.state.now c.commit.new.self.turns
    (commit_kind c.args.state.now.current c.in-Some.ending.base.now.number c.in-Some.ending.touched.now c.in-Some.ending.ops.now) (commit_kind c.args.state.now.current h.base.number h.touched h.ops)
    (commit-same c.args.state.now.current c.in-Some.ending.base.now h c.in-Some.ending.touched.now c.in-Some.ending.ops.now
    (c.in-Some.ensures.base h (is-held c.args.conn.now.conn h commit is)) (c.in-Some.ensures.touched h (is-held c.args.conn.now.conn h commit is)) (c.in-Some.ensures.ops h (is-held c.args.conn.now.conn h commit is)))
    c.in_ok-number-in-Some.ensures.turn

pub returns-in-Conflict-clause-current : goal.returns-in-Conflict-clause-current
returns-in-Conflict-clause-current c = λ h is.
    current-same c.args.state.now c.commit.new.self.current
    (commit_kind c.args.state.now.current c.in-Some.ending.base.now.number c.in-Some.ending.touched.now c.in-Some.ending.ops.now) (commit_kind c.args.state.now.current h.base.number h.touched h.ops)
    (commit-same c.args.state.now.current c.in-Some.ending.base.now h c.in-Some.ending.touched.now c.in-Some.ending.ops.now
    (c.in-Some.ensures.base h (is-held c.args.conn.now.conn h commit is)) (c.in-Some.ensures.touched h (is-held c.args.conn.now.conn h commit is)) (c.in-Some.ensures.ops h (is-held c.args.conn.now.conn h commit is)))
    c.in_ok-number-in-Some.ensures.current
