use Rattle.std.proofs.Common.{◌∙◌, sym}
use Rattle.plain_db.proofs.TryLemmas.{way-start, way-answerable, way-more, way-stops, way-ends}
use Rattle.plain_db.proofs.trying.redo_all.Goals as goal

pub acts-init : goal.acts-init
acts-init c = way-start c.args.db.now c.args.acts.now c.requires.numbered

pub redo_one-requires : goal.redo_one-requires
redo_one-requires c =
    way-answerable c.args.db.now c.args.acts.now c.acts.i c.acts.db c.index-acts-i.result c.acts.invariant c.requires.fit c.acts-test.true c.index-acts-i.is

pub returns-then-branch : goal.returns-then-branch
returns-then-branch c =
    way-stops c.args.db.now c.args.acts.now c.acts.i c.acts.db c.redo_one.new.db c.index-acts-i.result c.acts.invariant c.acts-test.true c.index-acts-i.is
    c.in_ok-redo_one.ensures.left (sym c.if-branch.true ∙ c.in_ok-redo_one.ensures.full)

pub acts-preserved : goal.acts-preserved
acts-preserved c =
    way-more c.args.db.now c.args.acts.now c.acts.i c.acts.db c.redo_one.new.db c.index-acts-i.result c.acts.invariant c.acts-test.true c.index-acts-i.is
    c.in_ok-redo_one.ensures.left (sym c.if-branch.false ∙ c.in_ok-redo_one.ensures.full)

pub returns : goal.returns
returns c = way-ends c.args.db.now c.args.acts.now c.acts.i c.acts.db c.acts.invariant c.acts-test.false
