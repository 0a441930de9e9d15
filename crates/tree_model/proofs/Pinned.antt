-- An item that comes from a rank has the body of the item of that rank.
use Rattle.std.proofs.Common.{◌≡◌, ℕ, ◌+◌, Bool, List, [], ◌∷◌, map, get_or, Option, Some, None, refl, ap, ap₂, ◌∙◌, sym, arith}
use Rattle.std.proofs.Math.ListN.{get_or-map}
use Rattle.tree_model.specs.Trees.{Tree, leaf, node, inorder, map_tree}
use Rattle.tree_model.specs.Items.{Item, map_item}
use Rattle.tree_model.specs.Columns.{Column, items_of, Operation, Add, Drop, Lay, apply_all, map_column, map_operation}
use Rattle.tree_model.specs.Sums.{bodies, tagged_column, blank, origins}
use Rattle.tree_model.proofs.Blind.{column, apply_all-map}
use Rattle.tree_model.proofs.Summed.{bodies-map_column, map-tagged, map_tree-same, map-twice}

-- a body beside the rank that it comes from
abbrev Traced : Type 0 → Type 0
Traced B = Option ℕ × B

-- what is found at the rank, where there is one
found_at : {B : Type 0} → (ℕ → B) → B → Option ℕ → B
found_at found b None = b
found_at found b (Some rank) = found rank

pinned : {B : Type 0} → (ℕ → B) → Traced B → Traced B
pinned found p = (p.0, found_at found p.1 p.0)

traced : {B : Type 0} → (ℕ → B) → B → Option ℕ → Traced B
traced found d o = (o, found_at found d o)

fresh : {B : Type 0} → B → Traced B
fresh b = (None, b)

pinned-traced : {B : Type 0} (found : ℕ → B) (d : B) (o : Option ℕ) → pinned found (traced found d o) ≡ traced found d o
unfolding pinned traced found_at
pinned-traced found d None = refl
pinned-traced found d (Some rank) = refl

map_tree-alike : {A B C : Type 0} (f : B → C) (g : A → B) (h : A → C) (same : (a : A) → f (g a) ≡ h a) (t : Tree (Item A)) → map_tree (map_item f) (map_tree (map_item g) t) ≡ map_tree (map_item h) t
unfolding map_tree map_item
map_tree-alike f g h same leaf = refl
map_tree-alike {A} {B} {C} f g h same (node l x r) =
    ap₂ (λ (t u : Tree (Item C)). node t (map_item f (map_item g x)) u) (map_tree-alike f g h same l) (map_tree-alike f g h same r)
    ∙ ap (λ (b : C). let y : Item C = record { body = b; count = x.count } in node (map_tree (map_item h) l) y (map_tree (map_item h) r)) (same x.body)

map_column-alike : {A B C : Type 0} (f : B → C) (g : A → B) (h : A → C) (same : (a : A) → f (g a) ≡ h a) (c : Column A) → map_column f (map_column g c) ≡ map_column h c
unfolding map_column
map_column-alike f g h same c = ap (λ (t : Tree _). column t c.most) (map_tree-alike f g h same c.tree)

operations-same : {B : Type 0} (operations : List (Operation B)) → map (map_operation (λ (b : B). b)) operations ≡ operations
unfolding map_operation
operations-same [] = refl
operations-same (Add p b ∷ operations) = ap (λ (rest : List _). Add p b ∷ rest) (operations-same operations)
operations-same (Drop rank ∷ operations) = ap (λ (rest : List _). Drop rank ∷ rest) (operations-same operations)
operations-same (Lay ∷ operations) = ap (λ (rest : List _). Lay ∷ rest) (operations-same operations)

-- ---- the operations over bodies beside their ranks

start : {B : Type 0} → (ℕ → B) → B → Column B → Column (Traced B)
start found d c = map_column (traced found d) (tagged_column c)

start-pinned : {B : Type 0} (found : ℕ → B) (d : B) (c : Column B) → map_column (pinned found) (start found d c) ≡ start found d c
unfolding start
start-pinned found d c = map_column-alike (pinned found) (traced found d) (traced found d) (pinned-traced found d) (tagged_column c)

map_column-same : {B : Type 0} (c : Column B) → map_column (λ (b : B). b) c ≡ c
unfolding map_column
map_column-same c = ap (λ (t : Tree _). column t c.most) (map_tree-same c.tree)

start-ranks : {B : Type 0} (found : ℕ → B) (d : B) (c : Column B) → map_column (λ (p : Traced B). p.0) (start found d c) ≡ tagged_column c
unfolding start traced
start-ranks {B} found d c =
    map_column-alike (λ (p : Traced B). p.0) (traced found d) (λ (o : Option ℕ). o) (λ o. refl) (tagged_column c) ∙ map_column-same (tagged_column c)

found_bodies : {B : Type 0} (d : B) (c : Column B) → map_column (found_at (λ k. get_or (bodies (items_of c)) k d) d) (tagged_column c) ≡ c
unfolding map_column tagged_column items_of found_at
found_bodies {B} d c =
    ap (λ (t : Tree (Item B)). column t c.most)
    (map-tagged (found_at (λ (k : ℕ). get_or (bodies (inorder c.tree)) k d) d) (λ (b : B). b) d 0 c.tree (λ k h. let e : 0 + k ≡ k = omega arith in ap (λ (n : ℕ). get_or (bodies (inorder c.tree)) n d) e)
    ∙ map_tree-same c.tree)

start-bodies : {B : Type 0} (d : B) (c : Column B) → map_column (λ (p : Traced B). p.1) (start (λ k. get_or (bodies (items_of c)) k d) d c) ≡ c
unfolding start traced
start-bodies {B} d c =
    let found = λ (k : ℕ). get_or (bodies (items_of c)) k d in
    map_column-alike (λ (p : Traced B). p.1) (traced found d) (found_at found d) (λ o. refl) (tagged_column c)
    ∙ found_bodies d c

fresh-pinned : {B : Type 0} (found : ℕ → B) (operations : List (Operation B)) → map (map_operation (pinned found)) (map (map_operation fresh) operations) ≡ map (map_operation fresh) operations
unfolding fresh pinned found_at
fresh-pinned found operations = map-twice (pinned found) fresh operations

fresh-ranks : {B : Type 0} (operations : List (Operation B)) → map (map_operation (λ (p : Traced B). p.0)) (map (map_operation fresh) operations) ≡ blank operations
unfolding fresh blank
fresh-ranks {B} operations = map-twice (λ (p : Traced B). p.0) fresh operations

fresh-bodies : {B : Type 0} (operations : List (Operation B)) → map (map_operation (λ (p : Traced B). p.1)) (map (map_operation fresh) operations) ≡ operations
unfolding fresh
fresh-bodies {B} operations = map-twice (λ (p : Traced B). p.1) fresh operations ∙ operations-same operations

run : {B : Type 0} → Bool → List (Operation B) → Column B → B → Column (Traced B)
run same_time operations c d = apply_all same_time (map (map_operation fresh) operations) (start (λ k. get_or (bodies (items_of c)) k d) d c)

run-ranks : {B : Type 0} (same_time : Bool) (operations : List (Operation B)) (c : Column B) (d : B) → map (λ (p : Traced B). p.0) (bodies (items_of (run same_time operations c d))) ≡ origins same_time operations c
unfolding run origins
run-ranks {B} same_time operations c d =
    let found = λ (k : ℕ). get_or (bodies (items_of c)) k d in
    let rank_of = λ (p : Traced B). p.0 in
    sym (bodies-map_column rank_of (apply_all same_time (map (map_operation fresh) operations) (start found d c)))
    ∙ ap (λ (x : Column (Option ℕ)). bodies (items_of x)) (
    sym (apply_all-map rank_of same_time (map (map_operation fresh) operations) (start found d c))
    ∙ ap₂ (apply_all same_time) (fresh-ranks operations) (start-ranks found d c))

run-bodies : {B : Type 0} (same_time : Bool) (operations : List (Operation B)) (c : Column B) (d : B) → map (λ (p : Traced B). p.1) (bodies (items_of (run same_time operations c d))) ≡ bodies (items_of (apply_all same_time operations c))
unfolding run
run-bodies {B} same_time operations c d =
    let found = λ (k : ℕ). get_or (bodies (items_of c)) k d in
    let body_of = λ (p : Traced B). p.1 in
    sym (bodies-map_column body_of (apply_all same_time (map (map_operation fresh) operations) (start found d c)))
    ∙ ap (λ (x : Column B). bodies (items_of x)) (
    sym (apply_all-map body_of same_time (map (map_operation fresh) operations) (start found d c))
    ∙ ap₂ (apply_all same_time) (fresh-bodies operations) (start-bodies d c))

run-pinned : {B : Type 0} (same_time : Bool) (operations : List (Operation B)) (c : Column B) (d : B) → map (pinned (λ k. get_or (bodies (items_of c)) k d)) (bodies (items_of (run same_time operations c d))) ≡ bodies (items_of (run same_time operations c d))
unfolding run
run-pinned {B} same_time operations c d =
    let found = λ (k : ℕ). get_or (bodies (items_of c)) k d in
    sym (bodies-map_column (pinned found) (apply_all same_time (map (map_operation fresh) operations) (start found d c)))
    ∙ ap (λ (x : Column (Traced B)). bodies (items_of x)) (
    sym (apply_all-map (pinned found) same_time (map (map_operation fresh) operations) (start found d c))
    ∙ ap₂ (apply_all same_time) (fresh-pinned found operations) (start-pinned found d c))

-- a body that is pinned and has a rank is what is found there
by_rank : {B : Type 0} (found : ℕ → B) (p : Traced B) (from : ℕ) → pinned found p ≡ p → p.0 ≡ Some from → p.1 ≡ found from
unfolding pinned found_at
by_rank found p from fixed e = sym (ap (λ (q : Traced _). q.1) fixed) ∙ ap (λ (o : Option ℕ). found_at found p.1 o) e

pub origins-bodies : {B : Type 0} (same_time : Bool) (operations : List (Operation B)) (c : Column B) (rank from : ℕ) (d : B) → get_or (origins same_time operations c) rank None ≡ Some from → get_or (bodies (items_of (apply_all same_time operations c))) rank d ≡ get_or (bodies (items_of c)) from d
unfolding pinned found_at
origins-bodies {B} same_time operations c rank from d e =
    let found = λ (k : ℕ). get_or (bodies (items_of c)) k d in
    let pairs = bodies (items_of (run same_time operations c d)) in
    let nothing : Traced B = (None, d) in
    let pair : Traced B = get_or pairs rank nothing in
    let its_rank : pair.0 ≡ Some from = sym (get_or-map (λ (p : Traced B). p.0) pairs rank nothing) ∙ ap (λ (xs : List (Option ℕ)). get_or xs rank None) (run-ranks same_time operations c d) ∙ e in
    let fixed : pinned found pair ≡ pair = sym (get_or-map (pinned found) pairs rank nothing) ∙ ap (λ (xs : List (Traced B)). get_or xs rank nothing) (run-pinned same_time operations c d) in
    ap (λ (xs : List B). get_or xs rank d) (sym (run-bodies same_time operations c d))
    ∙ get_or-map (λ (p : Traced B). p.1) pairs rank nothing
    ∙ by_rank found pair from fixed its_rank
