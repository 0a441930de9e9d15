use Rattle.std.proofs.Common.{◌≡◌, ◌∙◌, ap}
use Rattle.plain_db.specs.TakingBack.{all_undone}
use Rattle.plain_db.proofs.TryLemmas.{trying-start, way-answerable, trying-more, trying-stops, trying-ends}
use Rattle.plain_db.proofs.trying.try_acts.Goals as goal

pub acts-init : goal.acts-init
unfolding all_undone
acts-init c = (
  trying-start c.args.db.now c.args.acts.now c.start-tried.result c.requires.numbered (c.start-tried.ensures c.args.db.now),
  ap (λ l. all_undone l c.args.db.now) c.new-undos.ensures.items,
)

pub try_one-requires : goal.try_one-requires
try_one-requires c =
    way-answerable c.args.db.now c.args.acts.now c.acts.i c.acts.db c.index-acts-i.result c.acts.invariant.0.way c.requires.fit c.acts-test.true c.index-acts-i.is

pub returns-in-Some-clause-goes : goal.returns-in-Some-clause-goes
returns-in-Some-clause-goes c =
    trying-stops c.args.db.now c.args.acts.now c.acts.i c.acts.db c.acts.tried c.try_one.new.tried c.index-acts-i.result c.in-Some.t c.acts.invariant.0 c.acts-test.true c.index-acts-i.is
    (rw c.in-Some.is at (c.in_ok-full.ensures.goes c.acts.invariant.0.way.work c.acts.invariant.0.shows c.acts.invariant.0.way.copy))

pub returns-in-Some-clause-back : goal.returns-in-Some-clause-back
returns-in-Some-clause-back c = c.in_ok-full.ensures.back ∙ c.acts.invariant.1

pub acts-preserved : goal.acts-preserved
acts-preserved c = (
  trying-more c.args.db.now c.args.acts.now c.acts.i c.acts.db c.try_one.new.db c.acts.tried c.try_one.new.tried c.index-acts-i.result c.acts.invariant.0 c.acts-test.true c.index-acts-i.is
      c.in_ok-full.ensures.left
      (rw c.in_default.is at (c.in_ok-full.ensures.goes c.acts.invariant.0.way.work c.acts.invariant.0.shows c.acts.invariant.0.way.copy)),
  c.in_ok-full.ensures.back ∙ c.acts.invariant.1,
)

pub returns-clause-goes : goal.returns-clause-goes
returns-clause-goes c = trying-ends c.args.db.now c.args.acts.now c.acts.i c.acts.db c.acts.tried c.acts.invariant.0 c.acts-test.false

pub returns-clause-back : goal.returns-clause-back
returns-clause-back c = c.acts.invariant.1
