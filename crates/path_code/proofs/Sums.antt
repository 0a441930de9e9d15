-- The sums of operations: of two lists, and of an insertion without a rebuild.
use Rattle.std.proofs.Common.{◌≡◌, ℕ, suc, zero, ◌+◌, ◌<◌, ◌≤◌, max, Bool, true, false, ◌||◌, eqb, List, [], ◌∷◌, ◌++◌, length, take, drop, map, get_or, insert, Option, Some, None, refl, ap, ap₂, ◌∙◌, sym, inl, inr, arith, eq-eqb, append-nil, length-take-le}
use Rattle.std.specs.List.{range_with_len}
use Rattle.std.proofs.lemmas.Bool.{cases_order, cases_lt}
use Rattle.std.proofs.lemmas.List.{take-map, drop-map}
use Rattle.std.proofs.lemmas.List.Edits.{get_or-insert_at, get_or-insert_below, get_or-insert_above, length-insert}
use Rattle.std.proofs.lemmas.List.FromFn.{length-range_with_len, length-map-range_with_len, get_or-map-range_with_len}
use Rattle.tree_model.specs.declared.Place.TheVariants.{Found, Gap}
use Rattle.tree_model.specs.Trees.{Tree, size, path}
use Rattle.tree_model.specs.Balance.{limit}
use Rattle.tree_model.specs.Items.{new_item}
use Rattle.tree_model.specs.Insertion.{insert_tree}
use Rattle.tree_model.specs.Columns.{Column, Operation, Add, add, apply, apply_all}
use Rattle.tree_model.specs.Sums.{origins, composed}
use Rattle.tree_model.specs.ColumnLaws.{Stays}
use Rattle.tree_model.proofs.Summed.{origins-append, origins-gap, apply_all-append}
use Rattle.tree_model.proofs.GraftPaths.{insert-stays}
use Rattle.path_code.specs.Codes.{code_of}
use Rattle.path_code.specs.Laws.{code_in}
use Rattle.path_code.specs.declared.moves.Recode.{Recode}
use Rattle.tree_model.specs.Carried.{is_origin}
use Rattle.path_code.specs.Sums.{item_code, unless, moved_codes, added_codes, dropped_codes, Sum, sum_by_origins, sum_of}

pub sum_of-append : {B : Type 0} (same_time : Bool) (earlier later : List (Operation B)) (c : Column B) → sum_of same_time (earlier ++ later) c ≡ sum_by_origins c.tree (apply_all same_time later (apply_all same_time earlier c)).tree (composed (origins same_time earlier c) (origins same_time later (apply_all same_time earlier c)))
unfolding sum_of
sum_of-append same_time earlier later c =
    ap (λ (d : Column _). sum_by_origins c.tree d.tree (origins same_time (earlier ++ later) c)) (apply_all-append same_time earlier later c)
    ∙ ap (λ (from : List (Option ℕ)). sum_by_origins c.tree (apply_all same_time later (apply_all same_time earlier c)).tree from) (origins-append same_time earlier later c)

-- ---- items that keep their codes

stays : {A B : Type 0} (t : Tree A) (u : Tree B) (k rank : ℕ) (rest : List Recode) → item_code t k ≡ item_code u rank → unless (eqb (item_code t k) (item_code u rank)) (record { old = item_code t k; new = item_code u rank }) rest ≡ rest
unfolding unless
stays t u k rank rest e = rw (eq-eqb (item_code t k) (item_code u rank) e) refl

-- no code moves where each item has the code of the item that it comes from
pub moved-none : {A B : Type 0} (t : Tree A) (u : Tree B) (rank : ℕ) (from : List (Option ℕ)) → ((i k : ℕ) → i < length from → get_or from i None ≡ Some k → item_code t k ≡ item_code u (rank + i)) → moved_codes t u rank from ≡ []
unfolding moved_codes
moved-none t u rank [] same = refl
moved-none t u rank (None ∷ from) same =
    moved-none t u (suc rank) from (λ i k h e. let next : rank + suc i ≡ suc rank + i = omega arith in same (suc i) k (omega arith) e ∙ ap (λ (n : ℕ). item_code u n) next)
moved-none t u rank (Some k ∷ from) same =
    let first : rank + 0 ≡ rank = omega arith in
    stays t u k rank (moved_codes t u (suc rank) from) (same 0 k (omega arith) refl ∙ ap (λ (n : ℕ). item_code u n) first)
    ∙ moved-none t u (suc rank) from (λ i j h e. let next : rank + suc i ≡ suc rank + i = omega arith in same (suc i) j (omega arith) e ∙ ap (λ (n : ℕ). item_code u n) next)

-- where each item comes from one, none is new
pub added-none : {B : Type 0} (u : Tree B) (rank : ℕ) (ks : List ℕ) (more : List (Option ℕ)) → added_codes u rank (map Some ks ++ more) ≡ added_codes u (rank + length ks) more
unfolding added_codes
added-none u rank [] more = let e : rank + 0 ≡ rank = omega arith in rw e refl
added-none u rank (k ∷ ks) more = let e : rank + suc (length ks) ≡ suc rank + length ks = omega arith in rw e (added-none u (suc rank) ks more)

-- an item that is found is an origin
pub is_origin-at : (from : List (Option ℕ)) (i k : ℕ) → i < length from → get_or from i None ≡ Some k → is_origin k from ≡ true
unfolding is_origin
is_origin-at [] i k h e = absurd (omega arith)
is_origin-at (None ∷ from) zero k h e = cc
is_origin-at (None ∷ from) (suc i) k h e = is_origin-at from i k (omega arith) e
is_origin-at (Some j ∷ from) zero k h e = let same : j ≡ k = cc in rw (eq-eqb j k same) refl
is_origin-at (Some j ∷ from) (suc i) k h e = rw (is_origin-at from i k (omega arith) e) (either (eqb j k))
  where
    either : (b : Bool) → b || true ≡ true
    either true = refl
    either false = refl

-- no code is given up where each of these ranks is an origin
pub dropped-none : {A : Type 0} (t : Tree A) (from : List (Option ℕ)) (first count : ℕ) → ((k : ℕ) → first ≤ k → k < first + count → is_origin k from ≡ true) → dropped_codes t from (range_with_len first count) ≡ []
unfolding dropped_codes unless
dropped-none t from first zero all = refl
dropped-none t from first (suc count) all = rw (all first (omega arith) (omega arith)) (dropped-none t from (first + 1) count (λ k le lt. all k (omega arith) (omega arith)))

-- ---- an insertion without a rebuild

-- the origins after a new item at a gap
gap_origins : ℕ → ℕ → List (Option ℕ)
gap_origins n rank = insert (map Some (range_with_len 0 n)) rank None

gap_origins-before : (n rank i : ℕ) → rank ≤ n → i < rank → get_or (gap_origins n rank) i None ≡ Some i
unfolding gap_origins
gap_origins-before n rank i h lt =
    let many = length-map-range_with_len Some 0 n in
    get_or-insert_below (map Some (range_with_len 0 n)) rank None None i lt (omega arith) ∙ get_or-map-range_with_len Some 0 n i i None (omega arith) (omega arith)

gap_origins-new : (n rank : ℕ) → rank ≤ n → get_or (gap_origins n rank) rank None ≡ None
unfolding gap_origins
gap_origins-new n rank h =
    let many = length-map-range_with_len Some 0 n in
    get_or-insert_at (map Some (range_with_len 0 n)) rank None None (omega arith)

gap_origins-after : (n rank i : ℕ) → rank ≤ i → i < n → get_or (gap_origins n rank) (suc i) None ≡ Some i
unfolding gap_origins
gap_origins-after n rank i le lt =
    let many = length-map-range_with_len Some 0 n in
    let next : suc i ≡ i + 1 = omega arith in
    ap (λ (k : ℕ). get_or (insert (map Some (range_with_len 0 n)) rank None) k None) next
    ∙ get_or-insert_above (map Some (range_with_len 0 n)) rank None None i le (omega arith)
    ∙ get_or-map-range_with_len Some 0 n i i None lt (omega arith)

length-gap_origins : (n rank : ℕ) → rank ≤ n → length (gap_origins n rank) ≡ suc n
unfolding gap_origins
length-gap_origins n rank h =
    let many = length-map-range_with_len Some 0 n in
    omega (arith, length-insert (map Some (range_with_len 0 n)) rank None)

-- the items keep their codes
codes-stay : {A : Type 0} (n rank : ℕ) (t u : Tree A) → size t ≡ n → rank ≤ n → Stays A rank t u → (i k : ℕ) → i < length (gap_origins n rank) → get_or (gap_origins n rank) i None ≡ Some k → item_code t k ≡ item_code u (0 + i)
unfolding item_code
codes-stay n rank t u many h stay zero k lt e =
    elim (cases_order 0 rank) [
      | inl here ↦ let none = gap_origins-new n rank h in let at : get_or (gap_origins n rank) 0 None ≡ None = ap (λ (i : ℕ). get_or (gap_origins n rank) i None) here ∙ none in cc
      | inr (inl before) ↦
          let same : k ≡ 0 = (let mine = gap_origins-before n rank 0 h before in cc) in
          ap (λ (j : ℕ). code_of (path t (Found j))) same ∙ ap code_of (sym (stay.left 0 before))
      | inr (inr after) ↦ absurd (omega arith)
    ]
codes-stay n rank t u many h stay (suc i) k lt e =
    let plus : 0 + suc i ≡ suc i = omega arith in
    let all = length-gap_origins n rank h in
    elim (cases_order (suc i) rank) [
      | inl here ↦ let none = gap_origins-new n rank h in let at : get_or (gap_origins n rank) (suc i) None ≡ None = ap (λ (j : ℕ). get_or (gap_origins n rank) j None) here ∙ none in cc
      | inr (inl before) ↦
          let same : k ≡ suc i = (let mine = gap_origins-before n rank (suc i) h before in cc) in
          ap (λ (j : ℕ). code_of (path t (Found j))) same ∙ ap code_of (sym (stay.left (suc i) before)) ∙ ap (λ (j : ℕ). code_of (path u (Found j))) (sym plus)
      | inr (inr after) ↦
          let same : k ≡ i = (let mine = gap_origins-after n rank i (omega arith) (omega arith) in cc) in
          ap (λ (j : ℕ). code_of (path t (Found j))) same ∙ ap code_of (sym (stay.right i (omega arith) (omega arith))) ∙ ap (λ (j : ℕ). code_of (path u (Found j))) (sym plus)
    ]

each_origin : (n rank k : ℕ) → rank ≤ n → k < n → is_origin k (gap_origins n rank) ≡ true
each_origin n rank k h lt =
    let all = length-gap_origins n rank h in
    elim (cases_lt k rank) [
      | inl before ↦ is_origin-at (gap_origins n rank) k k (omega arith) (gap_origins-before n rank k h before)
      | inr after ↦ is_origin-at (gap_origins n rank) (suc k) k (omega arith) (gap_origins-after n rank k after lt)
    ]

-- the one new item
added-gap : {A : Type 0} (u : Tree A) (n rank : ℕ) → rank ≤ n → added_codes u 0 (gap_origins n rank) ≡ item_code u rank ∷ []
unfolding gap_origins added_codes
added-gap u n rank h =
    let ranks = range_with_len 0 n in
    let front : length (take rank ranks) ≡ rank = length-take-le rank ranks (omega (arith, length-range_with_len 0 n)) in
    let at : 0 + length (take rank ranks) ≡ rank = omega arith in
    ap₂ (λ (xs ys : List (Option ℕ)). added_codes u 0 (xs ++ None ∷ ys)) (take-map Some rank ranks) (drop-map Some rank ranks)
    ∙ added-none u 0 (take rank ranks) (None ∷ map Some (drop rank ranks))
    ∙ ap (λ (k : ℕ). added_codes u k (None ∷ map Some (drop rank ranks))) at
    ∙ ap (λ (xs : List ℕ). item_code u rank ∷ xs) (ap (λ (xs : List (Option ℕ)). added_codes u (suc rank) xs) (sym (append-nil (map Some (drop rank ranks)))) ∙ added-none u (suc rank) (drop rank ranks) [])

three : (moved : List Recode) (dropped added dropped_is added_is : List ℕ) → moved ≡ [] → dropped ≡ dropped_is → added ≡ added_is → (let s : Sum = record { moved = moved; dropped = dropped; added = added } in s) ≡ (let s : Sum = record { moved = []; dropped = dropped_is; added = added_is } in s)
three moved dropped added dropped_is added_is a b c =
    ap (λ (m : List Recode). let s : Sum = record { moved = m; dropped = dropped; added = added } in s) a
    ∙ ap₂ (λ (d e : List ℕ). let s : Sum = record { moved = []; dropped = d; added = e } in s) b c

sum-stays : {A : Type 0} (rank : ℕ) (t u : Tree A) → rank ≤ size t → Stays A rank t u → sum_by_origins t u (gap_origins (size t) rank) ≡ record { moved = []; dropped = []; added = code_in t (Gap rank) ∷ [] }
unfolding sum_by_origins item_code
sum-stays rank t u h stay =
    three (moved_codes t u 0 (gap_origins (size t) rank)) (dropped_codes t (gap_origins (size t) rank) (range_with_len 0 (size t))) (added_codes u 0 (gap_origins (size t) rank)) [] (code_in t (Gap rank) ∷ [])
    (moved-none t u 0 (gap_origins (size t) rank) (codes-stay (size t) rank t u refl h stay))
    (dropped-none t (gap_origins (size t) rank) 0 (size t) (λ k le lt. each_origin (size t) rank k h (omega arith)))
    (added-gap u (size t) rank h ∙ ap (λ (n : ℕ). n ∷ []) (ap code_of stay.new))

pub sum_of-insert : {B : Type 0} (same_time : Bool) (rank : ℕ) (b : B) (c : Column B) → rank ≤ size c.tree → length (path c.tree (Gap rank)) ≤ limit (max c.most (suc (size c.tree))) → sum_of same_time (Add (Gap rank) b ∷ []) c ≡ record { moved = []; dropped = []; added = code_in c.tree (Gap rank) ∷ [] }
unfolding sum_of apply_all apply add gap_origins
sum_of-insert same_time rank b c h shallow =
    let after = insert_tree (max c.most (suc (size c.tree))) rank (new_item b) c.tree in
    ap (λ (from : List (Option ℕ)). sum_by_origins c.tree after from) (origins-gap same_time rank b c)
    ∙ sum-stays rank c.tree after h (insert-stays (max c.most (suc (size c.tree))) rank (new_item b) c.tree h shallow)
