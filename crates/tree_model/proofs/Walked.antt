-- The walk to a value's place: what hangs on the side to which it turns at an item has the value's place where the whole tree has it.
use Rattle.std.proofs.Common.{◌≡◌, ℕ, suc, ◌+◌, ◌<◌, ◌≤◌, true, false, ltb, List, [], ◌∷◌, ◌++◌, length, map, refl, ap, ◌∙◌, sym, subst, inl, inr, arith, lt-ltb, le-ltb, length-append, append-nil, append_assoc}
use Rattle.std.proofs.lemmas.Bool.{cases_order}
use Rattle.std.proofs.lemmas.List.{map-append, length-map}
use Rattle.tree_model.specs.declared.Side.{Side}
use Rattle.tree_model.specs.declared.Side.TheVariants.{Left, Right}
use Rattle.tree_model.specs.declared.Place.{Place}
use Rattle.tree_model.specs.declared.Place.TheVariants.{Found, Gap}
use Rattle.tree_model.specs.Trees.{Tree, leaf, node, inorder, size, height, IsPlaceOf, path, side_by, onward}
use Rattle.tree_model.specs.Places.{place, IsIncreasing, number}
use Rattle.tree_model.specs.Insertion.{child, tree_at}
use Rattle.tree_model.specs.Walks.{LiesOn, walk, place_in, way_to_value, LeadsTo, GoesToPlace}
use Rattle.tree_model.proofs.Ways.{number-le, length-inorder, path-leaf, path-left, path-here, path-right}
use Rattle.tree_model.proofs.Ordered.{IsPlaceOf-place}
use Rattle.tree_model.proofs.Parts.{item_at, gap_at}
use Rattle.tree_model.proofs.SplitPlaces.{IsIncreasing-before, IsIncreasing-after, after, place-before, place-after, place-middle, past-after, number-after}

-- ---- the way at a node

pub values-node : {A : Type 0} (v : A → ℕ) (l : Tree A) (y : A) (r : Tree A) → map v (inorder (node l y r)) ≡ map v (inorder l) ++ v y ∷ map v (inorder r)
unfolding inorder
values-node v l y r = map-append v (inorder l) (y ∷ inorder r)

pub length-values : {A : Type 0} (v : A → ℕ) (t : Tree A) → length (map v (inorder t)) ≡ size t
length-values v t = length-map (inorder t) v ∙ length-inorder t

pub IsPlaceOf-place_in : {A : Type 0} (v : A → ℕ) (t : Tree A) (x : ℕ) → IsIncreasing (map v (inorder t)) → IsPlaceOf (size t) (place_in v t x)
unfolding place_in
IsPlaceOf-place_in v t x up = subst (λ (n : ℕ). IsPlaceOf n (place (map v (inorder t)) x)) (length-values v t) (IsPlaceOf-place (map v (inorder t)) x up)

pub way-leaf : {A : Type 0} (v : A → ℕ) (x : ℕ) → way_to_value v leaf x ≡ []
unfolding way_to_value
way-leaf {A} v x = path-leaf A (place_in v leaf x)

pub way-here : {A : Type 0} (v : A → ℕ) (x : ℕ) (l : Tree A) (y : A) (r : Tree A) → IsIncreasing (map v (inorder (node l y r))) → x ≡ v y → way_to_value v (node l y r) x ≡ []
unfolding way_to_value place_in number
way-here v x l y r up e =
    let front = map v (inorder l) in
    let back = map v (inorder r) in
    let split = values-node v l y r in
    let at : place (map v (inorder (node l y r))) x ≡ Found (length front) = ap (λ (xs : List ℕ). place xs x) split ∙ place-middle x front (v y) back (sym e) (subst IsIncreasing split up) in
    ap (path (node l y r)) at ∙ path-here l y r (Found (length front)) (omega (arith, length-values v l))

-- what a turn to a side of a node gives
pub record Turned (A : Type 0) (v : A → ℕ) (x : ℕ) (t part : Tree A) (side : Side) : Type 0 where
  pub way : way_to_value v t x ≡ side ∷ way_to_value v part x
  pub increasing : IsIncreasing (map v (inorder part))
  pub lower : height part < height t

turn-left : {A : Type 0} (v : A → ℕ) (x : ℕ) (l : Tree A) (y : A) (r : Tree A) → IsIncreasing (map v (inorder (node l y r))) → x < v y → Turned A v x (node l y r) l Left
unfolding way_to_value place_in height
turn-left v x l y r up lt =
    let front = map v (inorder l) in
    let back = map v (inorder r) in
    let split = values-node v l y r in
    let up_here = subst IsIncreasing split up in
    let up_left = IsIncreasing-before front (v y ∷ back) up_here in
    let at : place (map v (inorder (node l y r))) x ≡ place front x = ap (λ (xs : List ℕ). place xs x) split ∙ place-before x front (v y) back lt up_here in
    let low = number-le (length front) (place front x) (IsPlaceOf-place front x up_left) in
    record {
      way = ap (path (node l y r)) at ∙ path-left l y r (place front x) (omega (arith, low, length-values v l));
      increasing = up_left;
      lower = omega arith;
    }

turn-right : {A : Type 0} (v : A → ℕ) (x : ℕ) (l : Tree A) (y : A) (r : Tree A) → IsIncreasing (map v (inorder (node l y r))) → v y < x → Turned A v x (node l y r) r Right
unfolding way_to_value place_in height
turn-right v x l y r up lt =
    let front = map v (inorder l) in
    let back = map v (inorder r) in
    let split = values-node v l y r in
    let up_here = subst IsIncreasing split up in
    let p = after (suc (size l)) (place back x) in
    let at : place (map v (inorder (node l y r))) x ≡ p = ap (λ (xs : List ℕ). place xs x) split ∙ place-after x front (v y) back lt up_here ∙ ap (λ (n : ℕ). after (suc n) (place back x)) (length-values v l) in
    let beyond = number-after (suc (size l)) (place back x) in
    record {
      way = ap (path (node l y r)) at
          ∙ path-right l y r p (omega (arith, beyond))
          ∙ ap (λ (q : Place). Right ∷ path r q) (past-after (suc (size l)) (place back x));
      increasing = IsIncreasing-after front (v y) back up_here;
      lower = omega arith;
    }

pub turn_to : {A : Type 0} (v : A → ℕ) (x : ℕ) (side : Side) (l : Tree A) (y : A) (r : Tree A) → IsIncreasing (map v (inorder (node l y r))) → LiesOn side x (v y) → Turned A v x (node l y r) (child side (node l y r)) side
unfolding LiesOn child
turn_to v x Left l y r up lies = turn-left v x l y r up lies
turn_to v x Right l y r up lies = turn-right v x l y r up lies

-- ---- the whole walk

walk_is : {A : Type 0} (v : A → ℕ) (t : Tree A) (x : ℕ) → IsIncreasing (map v (inorder t)) → walk v t x ≡ way_to_value v t x
unfolding walk side_by onward
walk_is v leaf x up = sym (way-leaf v x)
walk_is v (node l y r) x up =
    elim (cases_order x (v y)) [
      | inl same ↦
          let e : ltb x (v y) ≡ false = le-ltb x (v y) (omega arith) in
          let f : ltb (v y) x ≡ false = le-ltb (v y) x (omega arith) in
          rw (e, f) (sym (way-here v x l y r up same))
      | inr (inl lower) ↦
          let e : ltb x (v y) ≡ true = lt-ltb x (v y) lower in
          let turned = turn-left v x l y r up lower in
          rw e (ap (λ (way : List Side). Left ∷ way) (walk_is v l x turned.increasing) ∙ sym turned.way)
      | inr (inr higher) ↦
          let e : ltb x (v y) ≡ false = le-ltb x (v y) (omega arith) in
          let f : ltb (v y) x ≡ true = lt-ltb (v y) x higher in
          let turned = turn-right v x l y r up higher in
          rw (e, f) (ap (λ (way : List Side). Right ∷ way) (walk_is v r x turned.increasing) ∙ sym turned.way)
    ]

leads_to : {A : Type 0} (d : A) (t : Tree A) (p : Place) → IsPlaceOf (size t) p → LeadsTo d t (path t p) p
unfolding LeadsTo IsPlaceOf
leads_to d t (Found rank) h = item_at t rank d h
leads_to d t (Gap rank) h = gap_at t rank h

pub walk_goes_to_place : {A : Type 0} (v : A → ℕ) (t : Tree A) (x : ℕ) (d : A) → IsIncreasing (map v (inorder t)) → GoesToPlace A v t x d
unfolding way_to_value
walk_goes_to_place v t x d up =
    record {
      way_is = walk_is v t x up;
      leads = subst (λ (way : List Side). LeadsTo d t way (place_in v t x)) (sym (walk_is v t x up)) (leads_to d t (place_in v t x) (IsPlaceOf-place_in v t x up));
    }

-- ---- step by step

tree_at-turn : {A : Type 0} (walked : List Side) (side : Side) (t : Tree A) → tree_at (walked ++ side ∷ []) t ≡ child side (tree_at walked t)
unfolding tree_at
tree_at-turn [] side t = refl
tree_at-turn (first ∷ walked) side t = tree_at-turn walked side (child first t)

-- a node with this item
pub record HasRoot (A : Type 0) (u : Tree A) (y : A) : Type 0 where
  pub left : Tree A
  pub right : Tree A
  pub is : u ≡ node left y right

-- at the end of the way that was walked hangs a part of the tree, and the way on to the value's place is the way in this part
pub record Walked (A : Type 0) (v : A → ℕ) (x : ℕ) (t : Tree A) (walked : List Side) : Type 0 where
  pub increasing : IsIncreasing (map v (inorder (tree_at walked t)))
  pub onward : way_to_value v t x ≡ walked ++ way_to_value v (tree_at walked t) x
  pub short : length walked + height (tree_at walked t) ≤ height t

pub Walked-root : {A : Type 0} (v : A → ℕ) (x : ℕ) (t : Tree A) → IsIncreasing (map v (inorder t)) → Walked A v x t []
unfolding tree_at
Walked-root v x t up = record { increasing = up; onward = refl; short = omega arith }

pub Walked-turn : {A : Type 0} (v : A → ℕ) (x : ℕ) (t : Tree A) (walked : List Side) (side : Side) (y : A) → Walked A v x t walked → HasRoot A (tree_at walked t) y → LiesOn side x (v y) → Walked A v x t (walked ++ side ∷ [])
Walked-turn {A} v x t walked side y w root lies =
    let turned = turn_to v x side root.left y root.right (subst (λ (u : Tree A). IsIncreasing (map v (inorder u))) root.is w.increasing) lies in
    let part : tree_at (walked ++ side ∷ []) t ≡ child side (node root.left y root.right) = tree_at-turn walked side t ∙ ap (child side) root.is in
    let low : length walked + height (node root.left y root.right) ≤ height t = subst (λ (u : Tree A). length walked + height u ≤ height t) root.is w.short in
    let now = child side (node root.left y root.right) in
    let long = length-append walked (side ∷ []) in
    let short_now : length (walked ++ side ∷ []) + height now ≤ height t = omega (arith, low, turned.lower, long) in
    record {
      increasing = subst (λ (u : Tree A). IsIncreasing (map v (inorder u))) (sym part) turned.increasing;
      onward =
          w.onward
          ∙ ap (λ (u : Tree A). walked ++ way_to_value v u x) root.is
          ∙ ap (λ (more : List Side). walked ++ more) turned.way
          ∙ sym (append_assoc walked (side ∷ []) (way_to_value v now x))
          ∙ ap (λ (u : Tree A). (walked ++ side ∷ []) ++ way_to_value v u x) (sym part);
      short = subst (λ (u : Tree A). length (walked ++ side ∷ []) + height u ≤ height t) (sym part) short_now;
    }

-- at a node there is room for a step more
pub Walked-room : {A : Type 0} (v : A → ℕ) (x : ℕ) (t : Tree A) (walked : List Side) (y : A) → Walked A v x t walked → HasRoot A (tree_at walked t) y → length walked < height t
unfolding height
Walked-room {A} v x t walked y w root =
    let low : length walked + height (node root.left y root.right) ≤ height t = subst (λ (u : Tree A). length walked + height u ≤ height t) root.is w.short in
    omega arith

ends_there : {A : Type 0} (v : A → ℕ) (x : ℕ) (t u : Tree A) (walked : List Side) → Walked A v x t walked → tree_at walked t ≡ u → way_to_value v u x ≡ [] → walked ≡ way_to_value v t x
ends_there {A} v x t u walked w e last =
    sym (
    w.onward
    ∙ ap (λ (part : Tree A). walked ++ way_to_value v part x) e
    ∙ ap (λ (more : List Side). walked ++ more) last
    ∙ append-nil walked)

-- the walk ends at the value's item
pub Walked-here : {A : Type 0} (v : A → ℕ) (x : ℕ) (t : Tree A) (walked : List Side) (y : A) → Walked A v x t walked → HasRoot A (tree_at walked t) y → x ≡ v y → walked ≡ way_to_value v t x
Walked-here {A} v x t walked y w root e =
    let up = subst (λ (u : Tree A). IsIncreasing (map v (inorder u))) root.is w.increasing in
    ends_there v x t (node root.left y root.right) walked w root.is (way-here v x root.left y root.right up e)

-- or where nothing hangs
pub Walked-gap : {A : Type 0} (v : A → ℕ) (x : ℕ) (t : Tree A) (walked : List Side) → Walked A v x t walked → tree_at walked t ≡ leaf → walked ≡ way_to_value v t x
Walked-gap v x t walked w e = ends_there v x t leaf walked w e (way-leaf v x)
