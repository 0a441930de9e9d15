-- What a commit makes of the current version is what its statements make of it, done again.
use Rattle.std.proofs.Common.{◌≡◌, sym, ◌∙◌, ap, subst, ℕ, suc, ◌+◌, ◌-◌, List, [], ◌∷◌, ◌++◌, get_or, true, None, arith}
use Rattle.mope_base.specs.declared.numbers.SessionNo.{SessionNo}
use Rattle.workload.specs.declared.script.Piece.{Piece}
use Rattle.workload.specs.declared.script.Piece.TheVariants as piece
use Rattle.workload.specs.declared.script.Workload.{Workload}
use Rattle.workload.specs.Transaction.{Work, work_of}
use Rattle.workload.specs.Run.{Run, committing, version_of, position_at, names, lowest_newer, merged}
use Rattle.workload.specs.History.{piece_at, effect_on}
use Rattle.plain_db.specs.Running.{piece_after}
use Rattle.plain_db.proofs.TableOutcomes.{size}
use Rattle.plain_db.proofs.MergeLemmas.{RepeatsOn, repeats_on}
use Rattle.plain_db.proofs.StampLemmas.{none_newer}
use Rattle.plain_db.proofs.RunInvariant.{place_in, IsTried, Doing, SessionHolds, RunHolds}
use Rattle.plain_db.proofs.StoreLemmas.{size_current}
use Rattle.plain_db.proofs.BeginLemmas.{piece-here}

effect_here : (w : Workload) (r : Run) (s : SessionNo) (place base : ℕ) (work : Work) (rest : List Piece)
    → lowest_newer 0 r.stamps base work.touched ≡ None
    → position_at r.positions s.0 ≡ committing place base work rest → RunHolds w r
    → effect_on (piece_at w s place) r.current ≡ merged work.ops work.copy r.current
unfolding place_in Doing effect_on work_of
effect_here w r s place base work rest unfound here holds =
    let session : SessionHolds w r s.0 (committing place base work rest) = subst (λ q. SessionHolds w r s.0 q) here (holds.sessions s.0) in
    let tried : IsTried r base work rest session.pieces = session.doing in
    let present : Piece = piece.Txn tried.statements tried.rollback in
    let is : piece_at w s place ≡ present =
    piece-here w s session.finished present rest place (session.script ∙ ap (λ l. session.finished ++ l) tried.is) session.place in
    let sizes : size (version_of r base) ≡ size r.current = holds.store.sizes base ∙ sym (size_current w r holds.store) in
    let repeats : RepeatsOn work r.current tried.statements =
    repeats_on (version_of r base) r.current tried.statements work tried.tried sizes
    (λ i named. holds.store.unchanged i base
    (none_newer 0 r.stamps base work.touched unfound i (let same : i ≡ 0 + i = omega arith in ap (λ k. names work.touched k) (sym same) ∙ named))) in
    ap (λ p. effect_on p r.current) is ∙ ap (λ trial. (work_of trial).copy) repeats.goes ∙ repeats.makes

after_same : (w : Workload) (s : SessionNo) (k ended : ℕ) → s.0 ≡ suc k → piece_at w s (suc ended) ≡ piece_after (get_or w.sessions k []) ended
unfolding piece_at piece_after
after_same w s k ended session =
    let number : s.0 - 1 ≡ k = omega (arith, session) in
    let place : suc ended - 1 ≡ ended = omega arith in
    ap (λ n. get_or (get_or w.sessions n []) (suc ended - 1) (piece.Txn [] true)) number
    ∙ ap (λ n. get_or (get_or w.sessions k []) n (piece.Txn [] true)) place

pub commit-effect : (w : Workload) (r : Run) (s : SessionNo) (k ended base : ℕ) (work : Work) (rest : List Piece) → s.0 ≡ suc k
    → position_at r.positions s.0 ≡ committing (suc ended) base work rest → RunHolds w r
    → lowest_newer 0 r.stamps base work.touched ≡ None
    → effect_on (piece_after (get_or w.sessions k []) ended) r.current ≡ merged work.ops work.copy r.current
commit-effect w r s k ended base work rest session here holds unfound =
    ap (λ p. effect_on p r.current) (sym (after_same w s k ended session))
    ∙ effect_here w r s (suc ended) base work rest unfound here holds
