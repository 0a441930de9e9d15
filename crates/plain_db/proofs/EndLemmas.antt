-- A turn that ends a transaction keeps what holds of a run.
use Rattle.std.proofs.Common.{◌≡◌, refl, sym, ◌∙◌, ap, subst, ℕ, suc, ◌+◌, ◌*◌, ◌≤◌, true, false, List, [], ◌∷◌, ◌++◌, length, arith}
use Rattle.std.proofs.lemmas.List.{append_assoc, length_push}
use Rattle.workload.specs.declared.script.DoneTxn.{DoneTxn}
use Rattle.workload.specs.declared.script.Piece.{Piece}
use Rattle.workload.specs.declared.script.Workload.{Workload}
use Rattle.workload.specs.Run.{Run, Position, ready, number_of, position_at}
use Rattle.workload.specs.History.{number_got, rank_of, comes_before, places_of, places_from}
use Rattle.mope_base.specs.Lists.{Each}
use Rattle.plain_db.proofs.EachLemmas.{each-append, each-weaker}
use Rattle.plain_db.proofs.RankLemmas.{comes_before-true, Pairs, pairs-push, places-push_own, places_from-push}
use Rattle.plain_db.proofs.ChainLemmas.{count_of, count-append, rank-lower, rank-upper}
use Rattle.plain_db.proofs.RunInvariant.{TxnHolds, StoreHolds, place_in, base_in, Doing, IsBehind, SessionHolds, RunHolds, txn_later}
use Rattle.plain_db.proofs.StepLemmas.{is_over, length-with_position, Step, sessions_after, MakesVersion, once_more, none_more}

-- a transaction that its session, which stands at p, ends
pub record IsEndOf (r next : Run) (s : ℕ) (p : Position) (t : DoneTxn) : Type 0 where
  pub session : t.session.0 ≡ s
  pub place : t.place ≡ place_in p
  pub base : t.base ≡ base_in (number_of r) p
  pub makes : MakesVersion (number_got t.end) (number_of r) (number_of next)

-- it comes after those that the session has ended before
pairs_after : (w : Workload) (r next : Run) (s : ℕ) (p : Position) (t : DoneTxn) → RunHolds w r → SessionHolds w r s p
    → IsEndOf r next s p t → TxnHolds w next t → Pairs (r.done ++ t ∷ [])
unfolding rank_of
pairs_after w r next s p t holds session ends txn =
    let low : 2 * t.base ≤ rank_of t = rank-lower (number_got t.end) t.base (number_of next) txn.numbered in
    pairs-push r.done t holds.pairs
    (each-weaker (λ (x : DoneTxn). x.session.0 ≡ s → IsBehind (base_in (number_of r) p) (place_in p) x)
    (λ (x : DoneTxn). x.session.0 ≡ t.session.0 → comes_before x t ≡ true) r.done (λ x behind same.
    let b : IsBehind (base_in (number_of r) p) (place_in p) x = behind (same ∙ ends.session) in
    comes_before-true x t same (omega (arith, b.0, low, ends.base)) (omega (arith, b.1, ends.place))) session.behind)

-- the session stands before the next piece
session_after : (w : Workload) (r next : Run) (s : ℕ) (p : Position) (present : Piece) (rest : List Piece) (t : DoneTxn)
    (session : SessionHolds w r s p) → session.pieces ≡ present ∷ rest
    → Step r next s (ready (suc (place_in p)) rest) (t ∷ []) → IsEndOf r next s p t → base_in (number_of r) p ≤ number_of next → TxnHolds w next t
    → SessionHolds w next s (ready (suc (place_in p)) rest)
unfolding place_in base_in Doing rank_of Each
session_after w r next s p present rest t session pieces step ends within txn =
    let high : rank_of t ≤ 2 * number_of next = rank-upper (number_got t.end) t.base (number_of next) txn.numbered in
    let place : t.place ≡ 1 + length session.finished = omega (arith, ends.place, session.place) in
    record {
      finished = session.finished ++ present ∷ [];
      pieces = rest;
      script = session.script ∙ ap (λ l. session.finished ++ l) pieces ∙ sym (append_assoc session.finished (present ∷ []) rest);
      place = omega (arith, session.place, length_push session.finished present);
      places =
          ap (λ l. places_of s l) step.done
          ∙ places-push_own s r.done t ends.session
          ∙ ap (λ l. l ++ t.place ∷ []) session.places
          ∙ ap (λ n. places_from 1 session.finished ++ n ∷ []) place
          ∙ sym (places_from-push 1 session.finished present);
      behind =
          subst (λ l. Each (λ (x : DoneTxn). x.session.0 ≡ s → IsBehind (number_of next) (suc (place_in p)) x) l) (sym step.done)
          (each-append (λ (x : DoneTxn). x.session.0 ≡ s → IsBehind (number_of next) (suc (place_in p)) x) r.done (t ∷ [])
          (each-weaker (λ (x : DoneTxn). x.session.0 ≡ s → IsBehind (base_in (number_of r) p) (place_in p) x)
          (λ (x : DoneTxn). x.session.0 ≡ s → IsBehind (number_of next) (suc (place_in p)) x) r.done (λ x behind same.
          let b : IsBehind (base_in (number_of r) p) (place_in p) x = behind same in
          (omega (arith, b.0, within), omega (arith, b.1))) session.behind)
          (λ same. (high, omega (arith, ends.place)), tt));
      doing = refl;
    }

-- a turn that ends a transaction
pub ends : (w : Workload) (r next : Run) (s : ℕ) (p : Position) (present : Piece) (rest : List Piece) (t : DoneTxn)
    (session : SessionHolds w r s p) → session.pieces ≡ present ∷ rest
    → RunHolds w r → Step r next s (ready (suc (place_in p)) rest) (t ∷ [])
    → is_over (position_at r.positions s) ≡ false → base_in (number_of r) p ≤ number_of r
    → IsEndOf r next s p t → TxnHolds w next t → StoreHolds w next
    → RunHolds w next
unfolding Each count_of
ends w r next s p present rest t session pieces holds step here within is_end txn store =
    record {
      store = store;
      txns =
          subst (λ l. Each (TxnHolds w next) l) (sym step.done)
          (each-append (TxnHolds w next) r.done (t ∷ [])
          (each-weaker (TxnHolds w r) (TxnHolds w next) r.done (λ x h. txn_later w r next x step.later h) holds.txns) (txn, tt));
      once = λ n below.
          ap (λ l. count_of (suc n) l) step.done ∙ count-append (suc n) r.done (t ∷ [])
          ∙ once_more (number_got t.end) (number_of r) (number_of next) (λ k. count_of k r.done) is_end.makes holds.once holds.none n below;
      none = λ n above.
          ap (λ l. count_of n l) step.done ∙ count-append n r.done (t ∷ [])
          ∙ none_more (number_got t.end) (number_of r) (number_of next) (λ k. count_of k r.done) is_end.makes holds.none n above;
      pairs = subst Pairs (sym step.done) (pairs_after w r next s p t holds session is_end txn);
      size = ap length step.positions ∙ length-with_position r.positions s (ready (suc (place_in p)) rest) ∙ holds.size;
      sessions =
          sessions_after w r next s (ready (suc (place_in p)) rest) (t ∷ []) holds step here
          (session_after w r next s p present rest t session pieces step is_end (omega (arith, within, step.later.grows)) txn);
    }
