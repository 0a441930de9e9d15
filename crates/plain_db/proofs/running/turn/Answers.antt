use Rattle.std.proofs.Common.{◌≡◌, ◌∙◌, ap, length, get_or, List, [], arith}
use Rattle.mope_base.specs.declared.numbers.SessionNo.{SessionNo}
use Rattle.workload.specs.declared.script.Piece.{Piece}
use Rattle.plain_db.proofs.RunningLemmas.{on_ok_turned}
use Rattle.plain_db.proofs.StateLemmas.{state-fits, state-tables, version-count, place-count, script-valid, pieces-fit}
use Rattle.plain_db.proofs.RunningLemmas.{skipped, script-read}
use Rattle.plain_db.proofs.running.turn.Goals as goal

pub bounds-as_slice-k : goal.bounds-as_slice-k
bounds-as_slice-k c =
    rw c.as_slice.ensures
    (omega (arith, c.in-Some.ensures.1, place-count c.args.w.now c.args.state.now c.requires.reached.0 c.requires.reached.1 c.requires.reached.2))

pub turn_at-requires-clause-fits : goal.turn_at-requires-clause-fits
turn_at-requires-clause-fits c =
    state-fits c.args.w.now c.args.state.now c.requires.reached.0 c.requires.valid c.requires.reached.1 c.requires.reached.2
    (omega (
      arith,
      c.as_slice-taken.type_inv.1,
      ap (λ (l : List SessionNo). length l) c.as_slice-taken.ensures,
      version-count c.args.w.now c.args.state.now c.requires.reached.0 c.requires.reached.1 c.requires.reached.2,
    ))

pub turn_at-requires-clause-short : goal.turn_at-requires-clause-short
turn_at-requires-clause-short c =
    omega (
      arith,
      (script-valid c.args.w.now c.in-Some.k c.requires.valid).few_pieces,
      ap (λ (l : List Piece). length l)
          (c.as_slice-in-Some.ensures ∙ script-read c.args.w.now c.as_slice.result.now c.in-Some.k c.index-as_slice-k.result c.as_slice.ensures c.index-as_slice-k.is
          (omega (arith, c.in-Some.ensures.1, place-count c.args.w.now c.args.state.now c.requires.reached.0 c.requires.reached.1 c.requires.reached.2))),
    )

pub turn_at-requires-clause-fit : goal.turn_at-requires-clause-fit
turn_at-requires-clause-fit c =
    rw (c.as_slice-in-Some.ensures ∙ script-read c.args.w.now c.as_slice.result.now c.in-Some.k c.index-as_slice-k.result c.as_slice.ensures c.index-as_slice-k.is
    (omega (arith, c.in-Some.ensures.1, place-count c.args.w.now c.args.state.now c.requires.reached.0 c.requires.reached.1 c.requires.reached.2)))
    (pieces-fit c.args.w.now.tables (length c.args.state.now.current.tables) _
    (state-tables c.args.w.now c.args.state.now c.requires.reached.0 c.requires.reached.1 c.requires.reached.2)
    (script-valid c.args.w.now c.in-Some.k c.requires.valid).valid)

pub returns-in-None : goal.returns-in-None
returns-in-None c = λ r shows reached. skipped c.args.w.now c.args.state.now r c.args.s shows (rw c.in-None.is at c.index_of.ensures)

pub returns-in-Some : goal.returns-in-Some
returns-in-Some c = λ r shows reached.
    let script : c.as_slice-in-Some.result.now ≡ get_or c.args.w.now.sessions c.in-Some.k [] =
    c.as_slice-in-Some.ensures ∙ script-read c.args.w.now c.as_slice.result.now c.in-Some.k c.index-as_slice-k.result c.as_slice.ensures c.index-as_slice-k.is
    (omega (arith, c.in-Some.ensures.1, place-count c.args.w.now c.args.state.now c.requires.reached.0 c.requires.reached.1 c.requires.reached.2)) in
    on_ok_turned c.turn_at.result c.args.w.now c.args.state.now c.turn_at.new.state r c.args.s c.in-Some.k shows reached c.in-Some.ensures.0 c.in-Some.ensures.1
    (rw script at c.turn_at.ensures)
