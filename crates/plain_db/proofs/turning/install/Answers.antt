use Rattle.std.proofs.Common.{◌∙◌, ap, sym, ◌+◌, [], arith}
use Rattle.std.proofs.lemmas.Result.{on_ok_weaker}
use Rattle.std.proofs.lemmas.Bool.{lt-ltb, le-ltb}
use Rattle.workload.specs.declared.script.End.TheVariants as end
use Rattle.plain_db.specs.Running.{ended_state, installed_state}
use Rattle.plain_db.proofs.TurningLemmas.{installed-by}
use Rattle.plain_db.proofs.turning.install.Goals as goal

pub returns-then-base-newer : goal.returns-then-base-newer
unfolding installed_state
returns-then-base-newer c =
    rw (sym c.last_change_of-newer.ensures, lt-ltb c.args.base c.last_change_of-newer.result c.if-base-newer.true) (
    on_ok_weaker c.end_txn.result (λ done.
    done
    ∙ ap (λ answers. ended_state c.args.state.now c.args.s c.args.k c.args.ended c.args.base (end.Stale c.args.t c.last_change_of-newer.result) answers) c.new.ensures
    ∙ ap (λ n. ended_state c.args.state.now c.args.s c.args.k c.args.ended c.args.base (end.Stale c.args.t n) []) c.last_change_of-newer.ensures)
    c.end_txn.ensures)

pub returns : goal.returns
returns c =
    rw (sym c.last_change_of-newer.ensures, le-ltb c.args.base c.last_change_of-newer.result c.if-base-newer.false) (
    on_ok_weaker c.end_txn-2.result (λ done.
    installed-by c.args.state.now c.end_txn-2.new.state c.args.s c.args.k c.args.ended (c.args.state.now.version + 1) c.args.base c.replace_at.new.items c.args.t c.new-2.result
    (omega arith) c.replace_at.ensures.left c.new-2.ensures done)
    c.end_txn-2.ensures)
