-- The codes of a tree's items along its ways, and by their ranks.
use Rattle.std.proofs.Common.{◌≡◌, ℕ, suc, zero, ◌+◌, ◌<◌, List, [], ◌∷◌, ◌++◌, map, refl, ap, ap₂, ◌∙◌, sym, arith, append_assoc, append-nil}
use Rattle.std.specs.List.{range_with_len}
use Rattle.std.proofs.lemmas.List.{map-append}
use Rattle.tree_model.specs.declared.Side.{Side}
use Rattle.tree_model.specs.declared.Side.TheVariants.{Left, Right}
use Rattle.tree_model.specs.declared.Place.TheVariants.{Found}
use Rattle.tree_model.specs.Trees.{Tree, leaf, node, size, path}
use Rattle.tree_model.proofs.GraftPaths.{found-left, found-here, found-right}
use Rattle.path_code.specs.Codes.{code_of}
use Rattle.path_code.specs.Sums.{item_code}
use Rattle.code_changes.specs.Columns.{codes_of as codes_by_rank}
use Rattle.code_changes.specs.Removal.{codes_along}

split_range : (first m n : ℕ) → range_with_len first (m + suc n) ≡ range_with_len first m ++ (first + m) ∷ range_with_len (suc (first + m)) n
split_range first zero n =
    let e : zero + suc n ≡ suc n = omega arith in
    let f : first + zero ≡ first = omega arith in
    let g : suc first ≡ first + 1 = omega arith in
    rw (e, f, g) refl
split_range first (suc m) n =
    let e : suc m + suc n ≡ suc (m + suc n) = omega arith in
    let f : first + suc m ≡ first + 1 + m = omega arith in
    rw (e, f) (ap (λ (xs : List ℕ). first ∷ xs) (split_range (first + 1) m n))

map-split_range : (f : ℕ → ℕ) (first m n : ℕ) → map f (range_with_len first (m + suc n)) ≡ map f (range_with_len first m) ++ f (first + m) ∷ map f (range_with_len (suc (first + m)) n)
map-split_range f first m n = ap (λ (xs : List ℕ). map f xs) (split_range first m n) ∙ map-append f (range_with_len first m) ((first + m) ∷ range_with_len (suc (first + m)) n)

-- f tells the code of each item of a tree that stands at the end of a way
codes_along-ranked : {A : Type 0} (f : ℕ → ℕ) (first : ℕ) (way : List Side) (t : Tree A) → ((k : ℕ) → k < size t → f (first + k) ≡ code_of (way ++ path t (Found k))) → codes_along way t ≡ map f (range_with_len first (size t))
unfolding codes_along size
codes_along-ranked f first way leaf same = refl
codes_along-ranked {A} f first way (node l x r) same =
    let left = codes_along-ranked f first (way ++ Left ∷ []) l (λ k h.
    same k (omega arith)
    ∙ ap code_of (ap (λ (rest : List Side). way ++ rest) (found-left l x r k h) ∙ sym (append_assoc way (Left ∷ []) (path l (Found k))))) in
    let here : f (first + size l) ≡ code_of way =
    same (size l) (omega arith) ∙ ap code_of (ap (λ (rest : List Side). way ++ rest) (found-here l x r (size l) refl) ∙ append-nil way) in
    let right = codes_along-ranked f (suc (first + size l)) (way ++ Right ∷ []) r (λ k h.
    let next : suc (first + size l) + k ≡ first + (size l + suc k) = omega arith in
    ap f next
    ∙ same (size l + suc k) (omega arith)
    ∙ ap code_of (ap (λ (rest : List Side). way ++ rest) (found-right l x r (size l + suc k) k refl) ∙ sym (append_assoc way (Right ∷ []) (path r (Found k))))) in
    ap₂ (λ (xs ys : List ℕ). xs ++ code_of way ∷ ys) left right
    ∙ ap (λ (code : ℕ). map f (range_with_len first (size l)) ++ code ∷ map f (range_with_len (suc (first + size l)) (size r))) (sym here)
    ∙ sym (map-split_range f first (size l) (size r))

pub codes_along-by_rank : {A : Type 0} (t : Tree A) → codes_along [] t ≡ codes_by_rank t
unfolding codes_by_rank item_code
codes_along-by_rank t = codes_along-ranked (item_code t) 0 [] t (λ k h. let e : 0 + k ≡ k = omega arith in ap (item_code t) e)
