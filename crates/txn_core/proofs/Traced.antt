-- Columns with the same items, whatever the forms of their trees, trace each item alike.
use Rattle.std.proofs.Common.{◌≡◌, ℕ, suc, ◌+◌, Bool, true, false, List, [], ◌∷◌, ◌++◌, length, refl, ap, ap₂, ◌∙◌, sym, arith, subst, Option}
use Rattle.tree_model.specs.Trees.{Tree, leaf, node, inorder, size}
use Rattle.tree_model.specs.Items.{Item, AllLive}
use Rattle.tree_model.specs.Columns.{Column, items_of, Operation, apply, apply_all}
use Rattle.tree_model.specs.ColumnLaws.{SuitsMode}
use Rattle.tree_model.specs.Sums.{bodies, tag, tagged, tagged_column, blank, origins}
use Rattle.tree_model.proofs.Ways.{length-inorder}
use Rattle.tree_model.proofs.Suits.{SuitsMode-apply}
use Rattle.table_model.proofs.SameTables.{items-apply}

-- the items with their ranks, from a number on, in place of the bodies
tags : {B : Type 0} → ℕ → List (Item B) → List (Item (Option ℕ))
tags first [] = []
tags first (x ∷ xs) = tag first x ∷ tags (suc first) xs

tags-append : {B : Type 0} (first : ℕ) (xs ys : List (Item B)) → tags first (xs ++ ys) ≡ tags first xs ++ tags (first + length xs) ys
unfolding tags
tags-append first [] ys = ap (λ (n : ℕ). tags n ys) (let e : first ≡ first + 0 = omega arith in e)
tags-append first (x ∷ xs) ys =
    let e : suc first + length xs ≡ first + suc (length xs) = omega arith in
    ap (λ (rest : List (Item (Option ℕ))). tag first x ∷ rest) (tags-append (suc first) xs ys ∙ ap (λ (n : ℕ). tags (suc first) xs ++ tags n ys) e)

inorder-tagged : {B : Type 0} (first : ℕ) (t : Tree (Item B)) → inorder (tagged first t) ≡ tags first (inorder t)
unfolding tags tagged inorder
inorder-tagged first leaf = refl
inorder-tagged first (node l x r) =
    ap₂ (λ (xs ys : List (Item (Option ℕ))). xs ++ tag (first + size l) x ∷ ys) (inorder-tagged first l) (inorder-tagged (suc (first + size l)) r)
    ∙ ap (λ (n : ℕ). tags first (inorder l) ++ tag (first + n) x ∷ tags (suc (first + n)) (inorder r)) (sym (length-inorder l))
    ∙ sym (tags-append first (inorder l) (x ∷ inorder r))

items-tagged : {B : Type 0} (c : Column B) → items_of (tagged_column c) ≡ tags 0 (items_of c)
unfolding items_of tagged_column
items-tagged c = inorder-tagged 0 c.tree

length-tags : {B : Type 0} (first : ℕ) (xs : List (Item B)) → length (tags first xs) ≡ length xs
unfolding tags
length-tags first [] = refl
length-tags first (x ∷ xs) = ap suc (length-tags (suc first) xs)

size-tagged : {B : Type 0} (first : ℕ) (t : Tree (Item B)) → size (tagged first t) ≡ size t
size-tagged first t = sym (length-inorder (tagged first t)) ∙ ap length (inorder-tagged first t) ∙ length-tags first (inorder t) ∙ length-inorder t

live-tags : {B : Type 0} (first : ℕ) (xs : List (Item B)) → AllLive xs → AllLive (tags first xs)
unfolding tags tag AllLive
live-tags first [] live = tt
live-tags first (x ∷ xs) live = (live.0, live-tags (suc first) xs live.1)

suits-tagged : {B : Type 0} (same_time : Bool) (c : Column B) → SuitsMode same_time c → SuitsMode same_time (tagged_column c)
unfolding SuitsMode tagged_column
suits-tagged false c suits = suits ∙ sym (size-tagged 0 c.tree)
suits-tagged true c suits = subst AllLive (sym (items-tagged c)) (live-tags 0 (items_of c) suits)

items-apply_all : {B : Type 0} (same_time : Bool) (operations : List (Operation B)) (c d : Column B) → SuitsMode same_time c → SuitsMode same_time d → items_of c ≡ items_of d → items_of (apply_all same_time operations c) ≡ items_of (apply_all same_time operations d)
unfolding apply_all
items-apply_all same_time [] c d suits_c suits_d e = e
items-apply_all same_time (operation ∷ operations) c d suits_c suits_d e =
    items-apply_all same_time operations (apply same_time operation c) (apply same_time operation d)
    (SuitsMode-apply same_time operation c suits_c) (SuitsMode-apply same_time operation d suits_d)
    (items-apply same_time operation c d suits_c suits_d e)

pub origins-same : {B : Type 0} (same_time : Bool) (operations : List (Operation B)) (c d : Column B) → SuitsMode same_time c → SuitsMode same_time d → items_of c ≡ items_of d → origins same_time operations c ≡ origins same_time operations d
unfolding origins
origins-same same_time operations c d suits_c suits_d e =
    ap bodies
    (items-apply_all same_time (blank operations) (tagged_column c) (tagged_column d) (suits-tagged same_time c suits_c) (suits-tagged same_time d suits_d)
    (items-tagged c ∙ ap (tags 0) e ∙ sym (items-tagged d)))
