use Rattle.std.proofs.Common.{◌≡◌, ◌∙◌, ap, length, get_or, List, [], arith}
use Rattle.mope_base.specs.declared.numbers.SessionNo.{SessionNo}
use Rattle.workload.specs.declared.script.Piece.{Piece}
use Rattle.plain_db.proofs.StateLemmas.{state-fits, state-tables, version-count, place-count, script-valid, pieces-fit}
use Rattle.plain_db.proofs.RunningLemmas.{on_ok_settled, script-read}
use Rattle.plain_db.proofs.running.settle_session.Goals as goal

pub bounds-as_slice-k : goal.bounds-as_slice-k
bounds-as_slice-k c = rw c.as_slice.ensures c.requires.here

pub settle-requires-clause-here : goal.settle-requires-clause-here
settle-requires-clause-here c =
    omega (arith, c.requires.here, place-count c.args.w.now c.args.state.now c.requires.reached.0 c.requires.reached.1 c.requires.reached.2)

pub settle-requires-clause-fits : goal.settle-requires-clause-fits
settle-requires-clause-fits c =
    state-fits c.args.w.now c.args.state.now c.requires.reached.0 c.requires.valid c.requires.reached.1 c.requires.reached.2
    (omega (
      arith,
      c.as_slice-taken.type_inv.1,
      ap (λ (l : List SessionNo). length l) c.as_slice-taken.ensures,
      version-count c.args.w.now c.args.state.now c.requires.reached.0 c.requires.reached.1 c.requires.reached.2,
    ))

pub settle-requires-clause-fit : goal.settle-requires-clause-fit
settle-requires-clause-fit c =
    rw (c.as_slice-2.ensures ∙ script-read c.args.w.now c.as_slice.result.now c.args.k c.index-as_slice-k.result c.as_slice.ensures c.index-as_slice-k.is c.requires.here)
    (pieces-fit c.args.w.now.tables (length c.args.state.now.current.tables) _
    (state-tables c.args.w.now c.args.state.now c.requires.reached.0 c.requires.reached.1 c.requires.reached.2)
    (script-valid c.args.w.now c.args.k c.requires.valid).valid)

pub returns : goal.returns
returns c = λ r shows reached.
    let script : c.as_slice-2.result.now ≡ get_or c.args.w.now.sessions c.args.k [] =
    c.as_slice-2.ensures ∙ script-read c.args.w.now c.as_slice.result.now c.args.k c.index-as_slice-k.result c.as_slice.ensures c.index-as_slice-k.is c.requires.here in
    on_ok_settled c.settle.result c.args.w.now c.args.state.now c.settle.new.state r c.args.s c.args.k shows reached c.requires.session
    (omega (arith, c.requires.here, place-count c.args.w.now c.args.state.now c.requires.reached.0 c.requires.reached.1 c.requires.reached.2))
    (rw script at c.settle.ensures)
