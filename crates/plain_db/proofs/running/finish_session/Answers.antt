use Rattle.std.proofs.Common.{◌≡◌, ◌∙◌, ap, subst, drop, get_or, List, [], ◌∷◌, length, ◌+◌, true, arith}
use Rattle.std.proofs.lemmas.List.{drop_more, drop_all}
use Rattle.workload.specs.declared.script.Piece.{Piece}
use Rattle.workload.specs.declared.script.Piece.TheVariants as piece
use Rattle.workload.specs.Run.{settled, take_turn, finished_session}
use Rattle.plain_db.specs.Reached.{by_turn, by_settling}
use Rattle.plain_db.proofs.ShowingLemmas.{no_place}
use Rattle.plain_db.proofs.StateLemmas.{place-count}
use Rattle.plain_db.proofs.RunningLemmas.{IsFinishing, script-read, finish-begin, finish-more, finish-end}
use Rattle.plain_db.proofs.running.finish_session.Goals as goal

pub ended_of-first-requires : goal.ended_of-first-requires
ended_of-first-requires c =
    omega (
      arith,
      c.requires.here,
      place-count c.args.w.now c.settle_session.new.state (settled c.requires.reached.0 c.args.s)
          (c.in_ok-settle_session.ensures c.requires.reached.0 c.requires.reached.1 c.requires.reached.2) (by_settling c.requires.reached.0 c.requires.reached.2 c.args.s),
    )

pub pieces-init : goal.pieces-init
pieces-init c = λ r shows reached.
    finish-begin c.args.w.now c.settle_session.new.state r c.args.s c.args.k c.ended_of-first.result (c.in_ok-settle_session.ensures r shows reached) reached
    c.requires.session c.requires.here (c.ended_of-first.ensures no_place)

pub turn-requires-clause-reached : goal.turn-requires-clause-reached
turn-requires-clause-reached c =
    let finishing = c.pieces.invariant c.requires.reached.0 c.requires.reached.1 c.requires.reached.2 in
    (finishing.now, finishing.shows, finishing.reached)

pub settle_session-requires-in-pieces-clause-reached : goal.settle_session-requires-in-pieces-clause-reached
settle_session-requires-in-pieces-clause-reached c =
    let finishing = c.pieces.invariant c.requires.reached.0 c.requires.reached.1 c.requires.reached.2 in
    (take_turn finishing.now c.args.s, c.in_ok-turn.ensures finishing.now finishing.shows finishing.reached, by_turn finishing.now finishing.reached c.args.s)

pub pieces-preserved : goal.pieces-preserved
pieces-preserved c = λ r shows reached.
    let script : List Piece = get_or c.args.w.now.sessions c.args.k [] in
    let read : c.as_slice-count.result.now ≡ script =
    c.as_slice-count.ensures ∙ script-read c.args.w.now c.as_slice.result.now c.args.k c.index-as_slice-k.result c.as_slice.ensures c.index-as_slice-k.is c.requires.here in
    let present : Piece = get_or script c.pieces.i (piece.Txn [] true) in
    let rest : drop c.pieces.i script ≡ present ∷ drop (c.pieces.i + 1) script =
    drop_more script c.pieces.i (piece.Txn [] true) (omega (arith, c.pieces-test.true, ap (λ (l : List Piece). length l) read)) in
    let finishing : IsFinishing c.args.w.now c.pieces.state c.args.s (present ∷ drop (c.pieces.i + 1) script) (finished_session r c.args.s) =
    subst (λ l. IsFinishing c.args.w.now c.pieces.state c.args.s l (finished_session r c.args.s)) rest (c.pieces.invariant r shows reached) in
    finish-more c.args.w.now c.pieces.state c.settle_session-in-pieces.new.state c.args.s present (drop (c.pieces.i + 1) script) (finished_session r c.args.s) finishing
    (c.in_ok-settle_session-2.ensures (take_turn finishing.now c.args.s) (c.in_ok-turn.ensures finishing.now finishing.shows finishing.reached)
    (by_turn finishing.now finishing.reached c.args.s))

pub returns : goal.returns
returns c = λ r shows reached.
    let script : List Piece = get_or c.args.w.now.sessions c.args.k [] in
    let read : c.as_slice-count.result.now ≡ script =
    c.as_slice-count.ensures ∙ script-read c.args.w.now c.as_slice.result.now c.args.k c.index-as_slice-k.result c.as_slice.ensures c.index-as_slice-k.is c.requires.here in
    finish-end c.args.w.now c.pieces.state c.args.s (drop c.pieces.i script) (finished_session r c.args.s)
    (drop_all c.pieces.i script (omega (arith, c.pieces-test.false, ap (λ (l : List Piece). length l) read)))
    (c.pieces.invariant r shows reached)
