-- The part so many steps down on the way to an item.
use Rattle.std.proofs.Common.{◌≡◌, ℕ, suc, zero, ◌+◌, ◌<◌, ◌≤◌, List, [], ◌∷◌, ◌++◌, take, reverse, refl, ap, ap₂, ◌∙◌, sym, subst, arith, append_assoc, append-nil}
use Rattle.std.proofs.lemmas.List.{reverse-append}
use Rattle.tree_model.specs.declared.Side.{Side}
use Rattle.tree_model.specs.declared.Side.TheVariants.{Left, Right}
use Rattle.tree_model.specs.declared.Place.TheVariants.{Found}
use Rattle.tree_model.specs.Trees.{Tree, leaf, node, size, height, path}
use Rattle.tree_model.specs.Items.{Item}
use Rattle.tree_model.specs.Insertion.{child, with_child, tree_at, put_at, sizes_along}
use Rattle.tree_model.specs.Parts.{beside, before}
use Rattle.tree_model.proofs.GraftPaths.{found-left, found-here, found-right}
use Rattle.mope_base.specs.declared.body.Body.{Body}
use Rattle.path_code.specs.Ways.{way}
use Rattle.ope_tree.specs.declared.nodes.Node.{Node}
use Rattle.ope_tree.specs.declared.settling.Part.{Part}
use Rattle.ope_tree.specs.Nodes.{tree_of, IsLink}
use Rattle.ope_tree.specs.Settling.{IsPartOf}

-- ---- the way there

take-none : (d : ℕ) → take {A = Side} d [] ≡ []
take-none zero = refl
take-none (suc d) = refl

pub along-none : {A : Type 0} (t : Tree A) (rank d : ℕ) → t ≡ leaf → take d (path t (Found rank)) ≡ []
unfolding path
along-none t rank d e = ap (λ (u : Tree _). take d (path u (Found rank))) e ∙ take-none d

pub along-zero : {A : Type 0} (d : ℕ) (xs : List A) → d ≡ 0 → take d xs ≡ []
along-zero d xs e = ap (λ (n : ℕ). take n xs) e

pub along-here : {A : Type 0} (l : Tree A) (x : A) (r t : Tree A) (rank d : ℕ) → t ≡ node l x r → rank ≡ size l → take d (path t (Found rank)) ≡ []
along-here l x r t rank d e h = ap (λ (u : Tree _). take d (path u (Found rank))) e ∙ ap (λ (w : List Side). take d w) (found-here l x r rank h) ∙ take-none d

pub path-left : {A : Type 0} (l : Tree A) (x : A) (r t : Tree A) (rank : ℕ) → t ≡ node l x r → rank < size l → path t (Found rank) ≡ Left ∷ path l (Found rank)
path-left l x r t rank e h = ap (λ (u : Tree _). path u (Found rank)) e ∙ found-left l x r rank h

pub path-right : {A : Type 0} (l : Tree A) (x : A) (r t : Tree A) (rank m : ℕ) → t ≡ node l x r → rank ≡ size l + suc m → path t (Found rank) ≡ Right ∷ path r (Found m)
path-right l x r t rank m e h = ap (λ (u : Tree _). path u (Found rank)) e ∙ found-right l x r rank m h

pub path-here : {A : Type 0} (l : Tree A) (x : A) (r t : Tree A) (rank : ℕ) → t ≡ node l x r → rank ≡ size l → path t (Found rank) ≡ []
path-here l x r t rank e h = ap (λ (u : Tree _). path u (Found rank)) e ∙ found-here l x r rank h

pub along-left : {A : Type 0} (l : Tree A) (x : A) (r t : Tree A) (rank d k : ℕ) → t ≡ node l x r → rank < size l → d ≡ suc k → take d (path t (Found rank)) ≡ Left ∷ take k (path l (Found rank))
along-left l x r t rank d k e h ed = ap₂ (λ (n : ℕ) (w : List Side). take n w) ed (path-left l x r t rank e h)

pub along-right : {A : Type 0} (l : Tree A) (x : A) (r t : Tree A) (rank m d k : ℕ) → t ≡ node l x r → rank ≡ size l + suc m → d ≡ suc k → take d (path t (Found rank)) ≡ Right ∷ take k (path r (Found m))
along-right l x r t rank m d k e h ed = ap₂ (λ (n : ℕ) (w : List Side). take n w) ed (path-right l x r t rank m e h)

-- ---- another tree there

pub put-whole : {A : Type 0} (along : List Side) (t u : Tree A) → along ≡ [] → put_at along t u ≡ u
unfolding put_at
put-whole along t u e = ap (λ (w : List Side). put_at w t u) e

pub put-left : {A : Type 0} (l : Tree A) (x : A) (r t u : Tree A) (along rest : List Side) → t ≡ node l x r → along ≡ Left ∷ rest → put_at along t u ≡ node (put_at rest l u) x r
unfolding put_at with_child child
put-left l x r t u along rest e ew = ap₂ (λ (w : List Side) (s : Tree _). put_at w s u) ew e

pub put-right : {A : Type 0} (l : Tree A) (x : A) (r t u : Tree A) (along rest : List Side) → t ≡ node l x r → along ≡ Right ∷ rest → put_at along t u ≡ node l x (put_at rest r u)
unfolding put_at with_child child
put-right l x r t u along rest e ew = ap₂ (λ (w : List Side) (s : Tree _). put_at w s u) ew e

-- ---- the tree there

pub at-left : {A : Type 0} (l : Tree A) (x : A) (r t : Tree A) (along rest : List Side) → t ≡ node l x r → along ≡ Left ∷ rest → tree_at along t ≡ tree_at rest l
unfolding tree_at child
at-left l x r t along rest e ew = ap₂ (λ (w : List Side) (s : Tree _). tree_at w s) ew e

pub at-right : {A : Type 0} (l : Tree A) (x : A) (r t : Tree A) (along rest : List Side) → t ≡ node l x r → along ≡ Right ∷ rest → tree_at along t ≡ tree_at rest r
unfolding tree_at child
at-right l x r t along rest e ew = ap₂ (λ (w : List Side) (s : Tree _). tree_at w s) ew e

-- ---- parts of parts

pub part_itself : (nodes : List Node) (part : Part) (along : List Side) → along ≡ [] → IsLink nodes part.link → part.path.len + height (tree_of nodes part.link) ≤ 63 → part.rank < size (tree_of nodes part.link) → IsPartOf nodes part part along
unfolding tree_at before
part_itself nodes part along e link short within =
    let P : List Side → Type 0 = λ w. IsPartOf nodes part part w in
    let here : IsPartOf nodes part part [] = record {
      link = link;
      tree = refl;
      path = sym (append-nil (way part.path));
      short = short;
      rank_is = omega arith;
      within = within;
    } in
    subst P (sym e) here

pub part_left : (nodes : List Node) (from inner part : Part) (x : Item Body) (r : Tree (Item Body)) (along rest : List Side) → along ≡ Left ∷ rest → tree_of nodes from.link ≡ node (tree_of nodes inner.link) x r → way inner.path ≡ way from.path ++ Left ∷ [] → inner.rank ≡ from.rank → IsPartOf nodes inner part rest → IsPartOf nodes from part along
unfolding tree_at before child beside
part_left nodes from inner part x r along rest e et ep er is =
    let P : List Side → Type 0 = λ w. IsPartOf nodes from part w in
    let here : IsPartOf nodes from part (Left ∷ rest) = record {
      link = is.link;
      tree = is.tree ∙ ap (λ (u : Tree (Item Body)). tree_at rest (child Left u)) (sym et);
      path = is.path ∙ ap (λ (w : List Side). w ++ rest) ep ∙ append_assoc (way from.path) (Left ∷ []) rest;
      short = is.short;
      rank_is = omega (arith, ap (λ (u : Tree (Item Body)). before (Left ∷ rest) u) et, is.rank_is, er);
      within = is.within;
    } in
    subst P (sym e) here

pub part_right : (nodes : List Node) (from inner part : Part) (l : Tree (Item Body)) (x : Item Body) (along rest : List Side) → along ≡ Right ∷ rest → tree_of nodes from.link ≡ node l x (tree_of nodes inner.link) → way inner.path ≡ way from.path ++ Right ∷ [] → from.rank ≡ size l + suc inner.rank → IsPartOf nodes inner part rest → IsPartOf nodes from part along
unfolding tree_at before child beside
part_right nodes from inner part l x along rest e et ep er is =
    let P : List Side → Type 0 = λ w. IsPartOf nodes from part w in
    let here : IsPartOf nodes from part (Right ∷ rest) = record {
      link = is.link;
      tree = is.tree ∙ ap (λ (u : Tree (Item Body)). tree_at rest (child Right u)) (sym et);
      path = is.path ∙ ap (λ (w : List Side). w ++ rest) ep ∙ append_assoc (way from.path) (Right ∷ []) rest;
      short = is.short;
      rank_is = omega (arith, ap (λ (u : Tree (Item Body)). before (Right ∷ rest) u) et, is.rank_is, er);
      within = is.within;
    } in
    subst P (sym e) here

-- ---- sizes of ancestors

pub sizes-none : {A : Type 0} (sizes : List ℕ) (along : List Side) (t : Tree A) → along ≡ [] → sizes ≡ sizes ++ reverse (sizes_along along t)
unfolding sizes_along
sizes-none sizes along t e = sym (ap (λ (w : List Side). sizes ++ reverse (sizes_along w t)) e ∙ append-nil sizes)

pub sizes-step : {A : Type 0} (old inner all : List ℕ) (n : ℕ) (side : Side) (along rest : List Side) (t c : Tree A) → along ≡ side ∷ rest → child side t ≡ c → n ≡ size t → inner ≡ old ++ reverse (sizes_along rest c) → all ≡ inner ++ n ∷ [] → all ≡ old ++ reverse (sizes_along along t)
unfolding sizes_along
sizes-step old inner all n side along rest t c e ec en ei ea =
    let below = sizes_along rest (child side t) in
    ea
    ∙ ap₂ (λ (xs : List ℕ) (m : ℕ). xs ++ m ∷ []) ei en
    ∙ ap (λ (u : Tree _). (old ++ reverse (sizes_along rest u)) ++ size t ∷ []) (sym ec)
    ∙ append_assoc old (reverse below) (size t ∷ [])
    ∙ ap (λ (xs : List ℕ). old ++ xs) (sym (reverse-append (size t ∷ []) below))
    ∙ ap (λ (w : List Side). old ++ reverse (sizes_along w t)) (sym e)
