-- The rule holds at the start, and what it says at the end.
use Rattle.std.proofs.Common.{◌≡◌, ◌≢◌, ℕ, zero, suc, ◌<◌, ◌≤◌, eqb, List, [], ◌∷◌, Option, Some, None, unwrap_or, false, true≢false, sym, refl, ap, ◌∙◌, subst, ⊎_elim, arith, ne_eqb}
use mathlib.Core.Logic.{dite}
use mathlib.Core.Option.{some, some-injective, some-ne-none}
use mathlib.Core.List.{IsPrefix}
use native.Mathlib.Decide.{dec_le}
use lib.ListN.{get_elem?}
use Rattle.atomic_table.specs.Table.{State, opening, Final, Seen}
use Rattle.turn_book.specs.declared.view.View.{View}
use Rattle.turn_book.specs.declared.view.Stage.{Stage}
use Rattle.turn_book.specs.declared.view.Stage.TheVariants.{Idle, Waits, Turn, Spent}
use Rattle.turn_book.specs.Accounts.{items_of, Each, HasNumber}
use Rattle.turn_book.specs.Protocol.{Fate, stocked, borne, over, chosen, IsLive, tickets_at, tickets_of, Stands, Knows, shelf, AtHome, Kept, first_view}
use Rattle.turn_book.specs.Passes.{HasAll, Rests, has_turn}
use Rattle.turn_book.proofs.Totals.{total_some}
use Rattle.turn_book.proofs.Histories.{each_map, each_number}
use Rattle.turn_book.proofs.Turning.{kind_of, seat_of}

module _ {T I O : Type 0} (items : T → List I) (origin_of : T → O) (number : I → ℕ) where
  abbrev D : Type 0
  D = View I O

  abbrev fate_at_first : ℕ → Fate
  fate_at_first n = chosen (eqb n 0) (borne 0) (stocked 0)

  first_stands : (passes : ℕ) (o : O) → 0 < passes → Stands number passes [] o fate_at_first 0 (first_view o passes)
  first_stands passes o some_pass = record {
    same_origin = refl;
    seen = ([], refl);
    told = ([], refl);
    below = some_pass;
    bears = refl;
    mine = refl;
    ended = tt;
    stock_below = omega arith;
    stock = λ n from up. (ap (λ b. chosen b (borne 0) (stocked 0)) (ne_eqb n 0 (λ is. omega arith)), refl);
  }

  only_first : (Q : ℕ → D → Type 0) (v : D) → Q 0 v → (j : ℕ) (x : D) → get_elem? (v ∷ []) j ≡ some x → Q j x
  only_first Q v q zero x e = subst (Q 0) (some-injective v x e) q
  only_first Q v q (suc j) x e = absurd (some-ne-none x (sym e))

  pub opens : (passes : ℕ) (y : T) → 0 < passes → passes < 18446744073709551616 → items y ≡ []
      → Kept items origin_of number passes (opening (0 ∷ 0 ∷ 0 ∷ []) (Some y ∷ []) (first_view (origin_of y) passes))
  opens passes y some_pass few empty = record {
    history = [];
    origin = origin_of y;
    served = 0;
    drawn = 0;
    who = λ _. 0;
    fate = fate_at_first;
    value = Some y;
    words_are = refl;
    home_is = refl;
    tickets = refl;
    few = omega arith;
    at_home = (empty, refl);
    beyond = λ _ _. refl;
    live = only_first (λ j x. IsLive x.stage → Stands number passes [] (origin_of y) fate_at_first j x) (first_view (origin_of y) passes) (λ _. first_stands passes (origin_of y) some_pass);
    knows = only_first (λ j x. Knows [] 0 0 (λ _. 0) (Some y) j x.stage) (first_view (origin_of y) passes) tt;
  }

  -- a view that has a ticket is live
  has_ticket : (st : Stage I) → 0 < tickets_at st → IsLive st
  has_ticket Idle l = absurd (omega arith)
  has_ticket (Waits t) l = tt
  has_ticket (Turn t now) l = tt
  has_ticket Spent l = absurd (omega arith)

  module _ (passes : ℕ) where
    abbrev Rule : State (Option T) D → Type 0
    Rule = Kept items origin_of number passes

    -- where every other pass was joined, no other seat has a live pass
    alone : (s : State (Option T) D) (r : Rule s) (id : ℕ) (v : D) → get_elem? s.views id ≡ some v → IsLive v.stage → HasAll passes v
        → (j : ℕ) (x : D) → get_elem? s.views j ≡ some x → IsLive x.stage → j ≡ id
    alone s r id v at alive all j x there alive' = let mine = r.live id v at alive in let his = r.live j x there alive' in
        ⊎_elim (λ (own : x.number ≡ v.number). ap seat_of (sym his.bears ∙ (ap r.fate own ∙ mine.bears)))
        (λ rest. ⊎_elim
        (λ (gone : HasNumber x.number v.ended). let bad : 1 ≡ 2 = ap kind_of (sym his.bears ∙ each_number (λ n. r.fate n ≡ over) x.number v.ended (each_map _ _ (λ (p : ℕ × List I) k. k.0) v.ended mine.ended) gone) in absurd (omega arith))
        (λ (left : (v.stock_from ≤ x.number) × (x.number < v.stock_to)). let bad : 1 ≡ 0 = ap kind_of (sym his.bears ∙ (mine.stock x.number left.0 left.1).0) in absurd (omega arith))
        rest)
        (all x.number his.below)

    at_home_there : (s : State (Option T) D) (r : Rule s) (id : ℕ) (v : D) → get_elem? s.views id ≡ some v → v.stage ≡ Idle → HasAll passes v
        → (value : Option T) → AtHome items origin_of r.history r.origin r.served r.drawn value → (y : T) × (value ≡ Some y) × (items y ≡ r.history) × (origin_of y ≡ r.origin)
    at_home_there s r id v at idle all (Some y) k = (y, refl, k.0, k.1)
    at_home_there s r id v at idle all None k = let less : r.served < r.drawn = k in let c = r.tickets in
        let held = total_some tickets_of s.views (omega arith) in
        let same = alone s r id v at (subst IsLive (sym idle) tt) all held.0 held.1 held.2 (has_ticket held.1.stage held.3) in
        let is : held.1 ≡ v = some-injective held.1 v (sym held.2 ∙ (ap (get_elem? s.views) same ∙ at)) in
        let none_there : tickets_of held.1 ≡ 0 = ap tickets_of is ∙ ap tickets_at idle in let more : 0 < tickets_of held.1 = held.3 in absurd (omega arith)

    -- What a closing pass knows of the value
    abbrev pub Closes : D → T → Type 0
    Closes v y = (v.origin ≡ Some (origin_of y)) × IsPrefix v.seen (items y) × (items_of number v.number (items y) ≡ v.mine) × Each (λ e. items_of number e.0 (items y) ≡ e.1) v.ended
        × ((n : ℕ) → n ≢ v.number → ¬ (HasNumber n v.ended) → items_of number n (items y) ≡ [])

    pub closes : (id : ℕ) (v : D) (ws : List ℕ) (xs : List (Option T)) → v.stage ≡ Idle → HasAll passes v → Final (Seen Rule id v) ws xs
        → (y : T) × (get_elem? xs 0 ≡ some (Some y)) × Closes v y
    closes id v ws xs idle all final = let s = final.0 in let r = final.1.0 in let at = final.1.1 in
        let home = at_home_there s r id v at idle all r.value r.at_home in let y : T = home.0 in
        let stands = r.live id v at (subst IsLive (sym idle) tt) in
        let others : (n : ℕ) → n ≢ v.number → ¬ (HasNumber n v.ended) → items_of number n r.history ≡ [] = λ n apart gone. dite (dec_le passes n)
        (λ far. r.beyond n far)
        (λ near. ⊎_elim (λ (own : n ≡ v.number). absurd (apart own))
        (λ rest. ⊎_elim (λ (h : HasNumber n v.ended). absurd (gone h)) (λ (left : (v.stock_from ≤ n) × (n < v.stock_to)). (stands.stock n left.0 left.1).1) rest)
        (all n (omega (arith, near)))) in (
          y,
          final.4 0 (Some y) (ap (λ hs. get_elem? hs 0) r.home_is ∙ ap (λ (z : Option T). some (shelf z)) home.1),
          (
            stands.same_origin ∙ ap Some (sym home.3),
            subst (IsPrefix v.seen) (sym home.2) stands.seen,
            subst (λ (l : List I). items_of number v.number l ≡ v.mine) (sym home.2) stands.mine,
            subst (λ (l : List I). Each (λ e. items_of number e.0 l ≡ e.1) v.ended) (sym home.2) (each_map _ _ (λ (p : ℕ × List I) k. k.1) v.ended stands.ended),
            subst (λ (l : List I). (n : ℕ) → n ≢ v.number → ¬ (HasNumber n v.ended) → items_of number n l ≡ []) (sym home.2) others,
          ),
        )

    -- the value that was found in the slot is that one
    pub closed_value : (id : ℕ) (v : D) (ws : List ℕ) (xs : List (Option T)) (result : T) → v.stage ≡ Idle → HasAll passes v → Final (Seen Rule id v) ws xs → get_elem? xs 0 ≡ some (Some result) → Closes v result
    closed_value id v ws xs result idle all final found = let k = closes id v ws xs idle all final in
        let same : k.0 ≡ result = ap (λ (z : Option T). unwrap_or z result) (some-injective (Some k.0) (Some result) (sym k.1 ∙ found)) in subst (Closes v) same k.2

module _ {T I : Type 0} where
  -- a pass without the turn is idle, and holds nothing
  pub idle_at : (st : Stage I) (seen : List I) (out : List (ℕ × Option T)) → Rests st seen out → has_turn st ≡ false → (st ≡ Idle) × (out ≡ [])
  idle_at Idle seen out r e = (refl, r)
  idle_at (Waits t) seen out r e = absurd r
  idle_at (Turn t now) seen out r e = absurd (true≢false e)
  idle_at Spent seen out r e = absurd r
