-- The sum of two lists of operations is the composition of their sums.
use Rattle.std.proofs.Common.{◌≡◌, ℕ, suc, zero, ◌+◌, ◌-◌, ◌<◌, Bool, List, [], ◌∷◌, ◌++◌, length, map, get_or, insert, Option, Some, None, refl, ap, ap₂, ◌∙◌, sym, arith}
use Rattle.std.specs.List.{range_with_len}
use Rattle.std.proofs.lemmas.List.{length-map, map-append, get_or_append_left, get_or-append_right}
use Rattle.tree_model.specs.declared.Place.TheVariants.{Gap}
use Rattle.tree_model.specs.Trees.{Tree, leaf, node, inorder, size, map_tree}
use Rattle.tree_model.specs.Items.{Item, new_item, map_item, add_item}
use Rattle.tree_model.specs.Columns.{Column, items_of, Operation, Add, Drop, Lay, apply, apply_all, map_column, map_operation}
use Rattle.tree_model.specs.Sums.{bodies, tag, tagged, tagged_column, blank, origins, through, composed}
use Rattle.tree_model.proofs.Ways.{length-inorder}
use Rattle.tree_model.proofs.Mapped.{size-map_tree, inorder-map_tree}
use Rattle.tree_model.proofs.Blind.{column, apply_all-map}
use Rattle.tree_model.proofs.Kept.{items-add}
use Rattle.tree_model.proofs.Changes.{map-insert}

-- ---- bodies

pub bodies-append : {B : Type 0} (xs ys : List (Item B)) → bodies (xs ++ ys) ≡ bodies xs ++ bodies ys
unfolding bodies
bodies-append {B} xs ys = map-append (λ (item : Item B). item.body) xs ys

pub length-bodies : {B : Type 0} (xs : List (Item B)) → length (bodies xs) ≡ length xs
unfolding bodies
length-bodies {B} xs = length-map xs (λ (item : Item B). item.body)

pub bodies-map : {B C : Type 0} (f : B → C) (xs : List (Item B)) → bodies (map (map_item f) xs) ≡ map f (bodies xs)
unfolding bodies map_item
bodies-map f [] = refl
bodies-map f (x ∷ xs) = ap (λ (ys : List _). f x.body ∷ ys) (bodies-map f xs)

bodies-node : {B : Type 0} (l : Tree (Item B)) (x : Item B) (r : Tree (Item B)) → bodies (inorder (node l x r)) ≡ bodies (inorder l) ++ x.body ∷ bodies (inorder r)
unfolding inorder bodies
bodies-node {B} l x r = map-append (λ (item : Item B). item.body) (inorder l) (x ∷ inorder r)

pub bodies-map_column : {B C : Type 0} (f : B → C) (c : Column B) → bodies (items_of (map_column f c)) ≡ map f (bodies (items_of c))
unfolding items_of map_column
bodies-map_column f c = ap bodies (inorder-map_tree (map_item f) c.tree) ∙ bodies-map f (inorder c.tree)

-- ---- ranks in place of bodies

-- the ranks don't depend on the bodies
tagged-map : {B C : Type 0} (f : B → C) (first : ℕ) (t : Tree (Item B)) → tagged first (map_tree (map_item f) t) ≡ tagged first t
unfolding tagged map_tree tag map_item
tagged-map f first leaf = refl
tagged-map f first (node l x r) =
    ap (λ (n : ℕ). node (tagged first (map_tree (map_item f) l)) (tag (first + n) x) (tagged (suc (first + n)) (map_tree (map_item f) r))) (size-map_tree (map_item f) l)
    ∙ ap₂ (λ (t u : Tree _). node t (tag (first + size l) x) u) (tagged-map f first l) (tagged-map f (suc (first + size l)) r)

tagged_column-map : {B C : Type 0} (f : B → C) (c : Column B) → tagged_column (map_column f c) ≡ tagged_column c
unfolding tagged_column map_column
tagged_column-map f c = ap (λ (t : Tree _). column t c.most) (tagged-map f 0 c.tree)

-- ---- other bodies in place of the ranks

leaf_tagged : {B C : Type 0} (f : Option ℕ → C) (g : B → C) (first : ℕ) → map_tree (map_item f) (tagged {B = B} first leaf) ≡ map_tree (map_item g) leaf
unfolding tagged map_tree
leaf_tagged f g first = refl

node_tagged : {B C : Type 0} (f : Option ℕ → C) (g : B → C) (first : ℕ) (l : Tree (Item B)) (x : Item B) (r : Tree (Item B)) → map_tree (map_item f) (tagged first l) ≡ map_tree (map_item g) l → f (Some (first + size l)) ≡ g x.body → map_tree (map_item f) (tagged (suc (first + size l)) r) ≡ map_tree (map_item g) r → map_tree (map_item f) (tagged first (node l x r)) ≡ map_tree (map_item g) (node l x r)
unfolding tagged map_tree tag map_item
node_tagged {B} {C} f g first l x r left here right =
    ap₂ (λ (t u : Tree (Item C)). node t (map_item f (tag (first + size l) x)) u) left right
    ∙ ap (λ (b : C). let y : Item C = record { body = b; count = x.count } in node (map_tree (map_item g) l) y (map_tree (map_item g) r)) here

size-node : {A : Type 0} (l : Tree A) (x : A) (r : Tree A) → size (node l x r) ≡ size l + suc (size r)
unfolding size
size-node l x r = refl

-- a body that f finds for each rank as g makes it of the body there
pub map-tagged : {B C : Type 0} (f : Option ℕ → C) (g : B → C) (d : B) (first : ℕ) (t : Tree (Item B)) → ((k : ℕ) → k < size t → f (Some (first + k)) ≡ g (get_or (bodies (inorder t)) k d)) → map_tree (map_item f) (tagged first t) ≡ map_tree (map_item g) t
map-tagged f g d first leaf same = leaf_tagged f g first
map-tagged {B} {C} f g d first (node l x r) same =
    let split = bodies-node l x r in
    let many = size-node l x r in
    let size_l : length (bodies (inorder l)) ≡ size l = length-bodies (inorder l) ∙ length-inorder l in
    let rest : List B = x.body ∷ bodies (inorder r) in
    let left = map-tagged f g d first l (λ k h.
    same k (omega arith)
    ∙ ap g (ap (λ (ys : List B). get_or ys k d) split ∙ get_or_append_left (bodies (inorder l)) rest d k (omega arith))) in
    let none : size l - size l ≡ 0 = omega arith in
    let here = same (size l) (omega arith)
    ∙ ap g (ap (λ (ys : List B). get_or ys (size l) d) split ∙ get_or-append_right (bodies (inorder l)) rest (size l) (size l) d size_l (omega arith) ∙ ap (λ (n : ℕ). get_or rest n d) none) in
    let right = map-tagged f g d (suc (first + size l)) r (λ k h.
    let e : suc (first + size l) + k ≡ first + (size l + suc k) = omega arith in
    let back : size l + suc k - size l ≡ suc k = omega arith in
    ap (λ (n : ℕ). f (Some n)) e
    ∙ same (size l + suc k) (omega arith)
    ∙ ap g (ap (λ (ys : List B). get_or ys (size l + suc k) d) split ∙ get_or-append_right (bodies (inorder l)) rest (size l) (size l + suc k) d size_l (omega arith) ∙ ap (λ (n : ℕ). get_or rest n d) back)) in
    node_tagged f g first l x r left here right

pub map_tree-same : {B : Type 0} (t : Tree (Item B)) → map_tree (map_item (λ (b : B). b)) t ≡ t
unfolding map_tree map_item
map_tree-same leaf = refl
map_tree-same (node l x r) = ap₂ (λ (t u : Tree _). node t x u) (map_tree-same l) (map_tree-same r)

-- the ranks looked up in a list of origins give the origins
through-tagged : (c : Column (Option ℕ)) → map_column (through (bodies (items_of c))) (tagged_column c) ≡ c
unfolding map_column tagged_column items_of through
through-tagged c =
    let zero_first = λ (k : ℕ). (let e : 0 + k ≡ k = omega arith in e) in
    ap (λ (t : Tree _). column t c.most)
    (map-tagged (through (bodies (inorder c.tree))) (λ (o : Option ℕ). o) None 0 c.tree (λ k h. ap (λ (n : ℕ). get_or (bodies (inorder c.tree)) n None) (zero_first k))
    ∙ map_tree-same c.tree)

-- ---- operations on other bodies

map_operation-twice : {A B C : Type 0} (f : B → C) (g : A → B) (operation : Operation A) → map_operation f (map_operation g operation) ≡ map_operation (λ (a : A). f (g a)) operation
unfolding map_operation
map_operation-twice f g (Add p b) = refl
map_operation-twice f g (Drop rank) = refl
map_operation-twice f g Lay = refl

pub map-twice : {A B C : Type 0} (f : B → C) (g : A → B) (operations : List (Operation A)) → map (map_operation f) (map (map_operation g) operations) ≡ map (map_operation (λ (a : A). f (g a))) operations
map-twice f g [] = refl
map-twice f g (operation ∷ operations) = ap₂ (λ (x : _) (xs : List _). x ∷ xs) (map_operation-twice f g operation) (map-twice f g operations)

pub apply_all-append : {B : Type 0} (same_time : Bool) (earlier later : List (Operation B)) (c : Column B) → apply_all same_time (earlier ++ later) c ≡ apply_all same_time later (apply_all same_time earlier c)
unfolding apply_all
apply_all-append same_time [] later c = refl
apply_all-append same_time (operation ∷ earlier) later c = apply_all-append same_time earlier later (apply same_time operation c)

abbrev none_of : (B : Type 0) → B → Option ℕ
none_of B b = None

blank-append : {B : Type 0} (earlier later : List (Operation B)) → blank (earlier ++ later) ≡ blank earlier ++ blank later
unfolding blank
blank-append {B} earlier later = map-append (map_operation (none_of B)) earlier later

blank-through : {B : Type 0} (earlier : List (Option ℕ)) (operations : List (Operation B)) → map (map_operation (through earlier)) (blank operations) ≡ blank operations
unfolding blank through
blank-through {B} earlier operations = map-twice (through earlier) (none_of B) operations

blank-zero : {B : Type 0} (operations : List (Operation B)) → map (map_operation (λ (o : Option ℕ). zero)) (blank operations) ≡ map (map_operation (λ (b : B). zero)) operations
unfolding blank
blank-zero {B} operations = map-twice (λ (o : Option ℕ). zero) (none_of B) operations

map-tagged_zero : {B : Type 0} (first : ℕ) (t : Tree (Item B)) → map_tree (map_item (λ (o : Option ℕ). zero)) (tagged first t) ≡ map_tree (map_item (λ (b : B). zero)) t
unfolding map_tree tagged map_item tag
map-tagged_zero first leaf = refl
map-tagged_zero {B} first (node l x r) =
    let y : Item ℕ = record { body = zero; count = x.count } in
    ap₂ (λ (t u : Tree (Item ℕ)). node t y u) (map-tagged_zero first l) (map-tagged_zero (suc (first + size l)) r)

pub map_column-tagged_zero : {B : Type 0} (c : Column B) → map_column (λ (o : Option ℕ). zero) (tagged_column c) ≡ map_column (λ (b : B). zero) c
unfolding map_column tagged_column
map_column-tagged_zero c = ap (λ (t : Tree _). column t c.most) (map-tagged_zero 0 c.tree)

-- the ranks after some operations, whether these were done on the bodies or on the ranks before
tagged-after : {B : Type 0} (same_time : Bool) (operations : List (Operation B)) (c : Column B) → tagged_column (apply_all same_time operations c) ≡ tagged_column (apply_all same_time (blank operations) (tagged_column c))
tagged-after {B} same_time operations c =
    let after = apply_all same_time operations c in
    let ranked = apply_all same_time (blank operations) (tagged_column c) in
    let erase = λ (b : B). zero in
    let erase_rank = λ (o : Option ℕ). zero in
    sym (tagged_column-map erase after)
    ∙ ap tagged_column (
    sym (apply_all-map erase same_time operations c)
    ∙ ap₂ (apply_all same_time) (sym (blank-zero operations)) (sym (map_column-tagged_zero c))
    ∙ apply_all-map erase_rank same_time (blank operations) (tagged_column c))
    ∙ tagged_column-map erase_rank ranked

-- ---- the laws

pub origins-append : {B : Type 0} (same_time : Bool) (earlier later : List (Operation B)) (c : Column B) → origins same_time (earlier ++ later) c ≡ composed (origins same_time earlier c) (origins same_time later (apply_all same_time earlier c))
unfolding origins composed
origins-append same_time earlier later c =
    let ranked = apply_all same_time (blank earlier) (tagged_column c) in
    let between = bodies (items_of ranked) in
    let after = apply_all same_time earlier c in
    ap (λ (o : List _). bodies (items_of (apply_all same_time o (tagged_column c)))) (blank-append earlier later)
    ∙ ap (λ (d : Column _). bodies (items_of d)) (apply_all-append same_time (blank earlier) (blank later) (tagged_column c))
    ∙ ap (λ (d : Column _). bodies (items_of (apply_all same_time (blank later) d))) (sym (through-tagged ranked))
    ∙ ap (λ (o : List _). bodies (items_of (apply_all same_time o (map_column (through between) (tagged_column ranked))))) (sym (blank-through between later))
    ∙ ap (λ (d : Column _). bodies (items_of d)) (apply_all-map (through between) same_time (blank later) (tagged_column ranked))
    ∙ bodies-map_column (through between) (apply_all same_time (blank later) (tagged_column ranked))
    ∙ ap (λ (d : Column _). map (through between) (bodies (items_of (apply_all same_time (blank later) d)))) (sym (tagged-after same_time earlier c))

-- ---- what origins tell

leaf_ranks : (B : Type 0) (first : ℕ) → bodies (inorder (tagged {B = B} first leaf)) ≡ map Some (range_with_len first (size {A = Item B} leaf))
unfolding tagged inorder bodies size
leaf_ranks B first = refl

node_ranks : {B : Type 0} (first : ℕ) (l : Tree (Item B)) (x : Item B) (r : Tree (Item B)) → bodies (inorder (tagged first (node l x r))) ≡ bodies (inorder (tagged first l)) ++ Some (first + size l) ∷ bodies (inorder (tagged (suc (first + size l)) r))
unfolding tagged tag
node_ranks first l x r = bodies-node (tagged first l) (tag (first + size l) x) (tagged (suc (first + size l)) r)

range-split : (first m n : ℕ) → range_with_len first (m + suc n) ≡ range_with_len first m ++ (first + m) ∷ range_with_len (suc (first + m)) n
range-split first zero n =
    let e : zero + suc n ≡ suc n = omega arith in
    let f : first + zero ≡ first = omega arith in
    let g : suc first ≡ first + 1 = omega arith in
    rw (e, f, g) refl
range-split first (suc m) n =
    let e : suc m + suc n ≡ suc (m + suc n) = omega arith in
    let f : first + suc m ≡ first + 1 + m = omega arith in
    rw (e, f) (ap (λ (xs : List ℕ). first ∷ xs) (range-split (first + 1) m n))

-- the ranks in place of the bodies, from left to right
bodies-tagged : {B : Type 0} (first : ℕ) (t : Tree (Item B)) → bodies (inorder (tagged first t)) ≡ map Some (range_with_len first (size t))
bodies-tagged {B} first leaf = leaf_ranks B first
bodies-tagged first (node l x r) =
    node_ranks first l x r
    ∙ ap₂ (λ (xs ys : List (Option ℕ)). xs ++ Some (first + size l) ∷ ys) (bodies-tagged first l) (bodies-tagged (suc (first + size l)) r)
    ∙ sym (ap (λ (xs : List ℕ). map Some xs) (ap (λ (n : ℕ). range_with_len first n) (size-node l x r) ∙ range-split first (size l) (size r)) ∙ map-append Some (range_with_len first (size l)) ((first + size l) ∷ range_with_len (suc (first + size l)) (size r)))

pub origins-nothing : {B : Type 0} (same_time : Bool) (c : Column B) → origins same_time [] c ≡ map Some (range_with_len 0 (size c.tree))
unfolding origins blank apply_all items_of tagged_column
origins-nothing same_time c = bodies-tagged 0 c.tree

pub bodies-insert : (rank : ℕ) (xs : List (Item (Option ℕ))) → bodies (insert xs rank (new_item None)) ≡ insert (bodies xs) rank None
unfolding bodies new_item
bodies-insert rank xs = map-insert (λ (item : Item (Option ℕ)). item.body) xs rank (new_item None)

-- the origins after a new item at a gap: each item's own rank, and none for the new one
pub origins-gap : {B : Type 0} (same_time : Bool) (rank : ℕ) (b : B) (c : Column B) → origins same_time (Add (Gap rank) b ∷ []) c ≡ insert (map Some (range_with_len 0 (size c.tree))) rank None
unfolding origins blank apply_all apply map_operation add_item
origins-gap same_time rank b c =
    ap bodies (items-add (Gap rank) None (tagged_column c))
    ∙ bodies-insert rank (items_of (tagged_column c))
    ∙ ap (λ (xs : List (Option ℕ)). insert xs rank None) (origins-nothing same_time c)

size-tagged : {B : Type 0} (first : ℕ) (t : Tree (Item B)) → size (tagged first t) ≡ size t
unfolding size tagged
size-tagged first leaf = refl
size-tagged first (node l x r) = ap₂ (λ (m n : ℕ). m + suc n) (size-tagged first l) (size-tagged (suc (first + size l)) r)

size-tagged_column : {B : Type 0} (c : Column B) → size (tagged_column c).tree ≡ size c.tree
unfolding tagged_column
size-tagged_column c = size-tagged 0 c.tree

-- there is an origin for each item after the operations
pub length-origins : {B : Type 0} (same_time : Bool) (operations : List (Operation B)) (c : Column B) → length (origins same_time operations c) ≡ size (apply_all same_time operations c).tree
unfolding origins items_of
length-origins same_time operations c =
    let ranked = apply_all same_time (blank operations) (tagged_column c) in
    let after = apply_all same_time operations c in
    length-bodies (inorder ranked.tree)
    ∙ length-inorder ranked.tree
    ∙ sym (size-tagged_column ranked)
    ∙ ap (λ (d : Column (Option ℕ)). size d.tree) (sym (tagged-after same_time operations c))
    ∙ size-tagged_column after

blank-map : {B C : Type 0} (f : B → C) (operations : List (Operation B)) → blank (map (map_operation f) operations) ≡ blank operations
unfolding blank
blank-map {B} {C} f operations = map-twice (none_of C) f operations

pub origins-map : {B C : Type 0} (f : B → C) (same_time : Bool) (operations : List (Operation B)) (c : Column B) → origins same_time (map (map_operation f) operations) (map_column f c) ≡ origins same_time operations c
unfolding origins
origins-map f same_time operations c =
    ap₂ (λ (os : List (Operation (Option ℕ))) (d : Column (Option ℕ)). bodies (items_of (apply_all same_time os d))) (blank-map f operations) (tagged_column-map f c)
