use Rattle.std.proofs.Common.{◌≡◌, ◌∙◌, ap, sym, Bool}
use Rattle.std.proofs.lemmas.Result.{on_ok_weaker}
use Rattle.proxy.specs.Party.{noted}
use Rattle.proxy.proofs.turning.note.Goals as goal

pub returns-then-keep-clause-log : goal.returns-then-keep-clause-log
returns-then-keep-clause-log c =
    on_ok_weaker c.write_down.result
    (λ log r w. log r w ∙ ap (λ (b : Bool). noted b c.args.log.now (record { request = r; reply = c.args.got.now })) (sym c.if-keep.true))
    c.write_down.ensures.log

pub returns-clause-log : goal.returns-clause-log
unfolding noted
returns-clause-log c r w = ap (λ (b : Bool). noted b c.args.log.now (record { request = r; reply = c.args.got.now })) (sym c.if-keep.false)
