use Rattle.std.proofs.Common.{◌∙◌, sym, subst}
use Rattle.plain_db.specs.declared.state.Place.{Place}
use Rattle.std.proofs.lemmas.Result.{on_ok_weaker}
use Rattle.plain_db.specs.Running.{SettledBy}
use Rattle.plain_db.proofs.TurningLemmas.{turned-at, turned-ready, turned-settled}
use Rattle.plain_db.proofs.turning.turn_at.Goals as goal

pub returns-then-is_ready : goal.returns-then-is_ready
returns-then-is_ready c = λ d.
    on_ok_weaker c.begin.result (λ began.
    turned-at c.args.script.now c.args.state.now c.begin.new.state c.args.s c.args.k c.index-as_slice-k.result c.requires.here
    (rw c.as_slice.ensures at c.index-as_slice-k.is)
    (turned-ready c.args.script.now c.args.state.now c.begin.new.state c.args.s c.args.k c.index-as_slice-k.result.ended c.index-as_slice-k.result.standing
    (sym c.is_ready.ensures ∙ c.if-is_ready.true) began) d)
    c.begin.ensures

pub returns-else-is_ready : goal.returns-else-is_ready
returns-else-is_ready c = λ d.
    on_ok_weaker c.settle.result (λ settled.
    turned-at c.args.script.now c.args.state.now c.settle.new.state c.args.s c.args.k c.index-as_slice-k.result c.requires.here
    (rw c.as_slice.ensures at c.index-as_slice-k.is)
    (turned-settled c.args.script.now c.args.state.now c.settle.new.state c.args.s c.args.k c.index-as_slice-k.result.ended c.index-as_slice-k.result.standing
    (sym c.is_ready.ensures ∙ c.if-is_ready.false)
    (subst (λ (p : Place). SettledBy c.args.script.now p.standing c.args.state.now c.settle.new.state c.args.s c.args.k p.ended) (sym (rw c.as_slice.ensures at c.index-as_slice-k.is)) settled)) d)
    (c.settle.ensures c.index-as_slice-k.result)
