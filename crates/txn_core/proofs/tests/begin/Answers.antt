use Rattle.std.proofs.Common.{sym, subst}
use Rattle.versions.specs.Databases.{Database}
use Rattle.txn_core.specs.Courses.{IsPast}
use Rattle.txn_core.proofs.Pasts.{past_now, past_later}
use Rattle.txn_core.proofs.tests.begin.Goals as goal

pub returns-clause-past : goal.returns-clause-past
returns-clause-past c =
    subst (λ (d : Database). IsPast c.begin.new.self d) (sym c.in_ok-snapshot.ensures.snapshot) (past_now c.args.state.now c.begin.new.self _ c.in_ok-snapshot.ensures.replays c.in_ok-snapshot.ensures.first c.in_ok-snapshot.ensures.turn)

pub returns-clause-later : goal.returns-clause-later
returns-clause-later c = λ past h. past_later c.args.state.now c.begin.new.self _ past c.in_ok-snapshot.ensures.first c.in_ok-snapshot.ensures.turn h
