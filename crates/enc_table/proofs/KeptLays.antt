-- A balanced tree for one of the columns.
use Rattle.std.proofs.Common.{◌≡◌, ◌≢◌, ℕ, suc, zero, ◌<◌, Bool, true, List, [], ◌∷◌, length, map, get_or, set, refl, ap, ap₂, ◌∙◌, sym, subst, inl, inr, arith}
use Rattle.std.proofs.lemmas.Bool.{cases_eq}
use Rattle.mope_base.specs.declared.body.Body.{Body}
use Rattle.tree_model.specs.Trees.{size}
use Rattle.tree_model.specs.Places.{holds}
use Rattle.tree_model.specs.Columns.{Column, Operation, Lay, apply_all}
use Rattle.tree_model.specs.Sums.{origins}
use Rattle.tree_model.specs.Carried.{carried}
use Rattle.tree_model.proofs.Ordered.{holds-cons_eq}
use Rattle.tree_model.proofs.RankLaws.{carried_of_nothing}
use Rattle.table_model.specs.Stores.{Shelf}
use Rattle.table_model.specs.Steps.{operate, kept_after, operated, only}
use Rattle.table_model.specs.Changes.{lay_column}
use Rattle.table_model.specs.Soundness.{kept_numbers, ranks_at, column_at}
use Rattle.table_model.specs.ShelfSoundness.{AllFull, SoundShelf, IsRanked}
use Rattle.table_model.proofs.Rows.{length-operate, held-cons}
use Rattle.table_model.proofs.ByIndex.{columns_follow, sound_has_ranks}
use Rattle.table_model.proofs.ShelfSoundOps.{operations_keep_shelf}
use Rattle.enc_table.specs.declared.columns.Column.{Column as Stored}
use Rattle.enc_table.specs.Stored.{stored_at, bodies_in, ranks_in, kept_in, trees_in, shelf_in}
use Rattle.enc_table.specs.Held.{IsHeld, HasBecome, IsLaid, followed}
use Rattle.enc_table.specs.Fields.{AreHeld}
use Rattle.enc_table.proofs.TableLists.{trees-at, length-trees, stored-set_other}
use Rattle.enc_table.proofs.KeptRows.{bodies_at, KeptIs, same-kept}
use Rattle.enc_table.proofs.KeptSteps.{Row, kept-held, numbers-after, bodies-after, columns-after, operated-kept, same-shelf}

only-same : (column : ℕ) (operations : List (Operation Body)) → get_or (only column operations) column [] ≡ operations
unfolding only
only-same zero operations = refl
only-same (suc column) operations = only-same column operations

only-other : (column i : ℕ) (operations : List (Operation Body)) → i ≢ column → get_or (only column operations) i [] ≡ []
unfolding only
only-other zero zero operations ne = absurd (ne refl)
only-other zero (suc i) operations ne = refl
only-other (suc column) zero operations ne = refl
only-other (suc column) (suc i) operations ne = only-other column i operations (λ e. ne (ap suc e))

carried-none : (same_time : Bool) (c : Column Body) (ranks : List ℕ) → ((rank : ℕ) → holds rank ranks ≡ true → rank < size c.tree) → map (carried (origins same_time [] c)) ranks ≡ ranks
carried-none same_time c [] within = refl
carried-none same_time c (rank ∷ ranks) within =
    ap₂ (λ (first : ℕ) (rest : List ℕ). first ∷ rest)
    ((carried_of_nothing same_time c rank (within rank (holds-cons_eq rank rank ranks refl))).carries refl)
    (carried-none same_time c ranks (λ other held. within other (held-cons other rank ranks held)))

apply-none : (same_time : Bool) (c : Column Body) → apply_all same_time [] c ≡ c
unfolding apply_all
apply-none same_time c = refl

unchanged : (same_time : Bool) (numbers : List ℕ) (c : Stored) → IsHeld numbers c → HasBecome numbers (apply_all same_time [] c.tree.column) (bodies_in c) (followed same_time [] c.tree.column (ranks_in c)) c
unchanged same_time numbers c held =
    record { held = held; column_is = sym (apply-none same_time c.tree.column); bodies_are = refl; ranks_are = sym (carried-none same_time c.tree.column (ranks_in c) held.coded.within) }

abbrev laid_steps : ℕ → List (List (Operation Body))
laid_steps column = only column (Lay ∷ [])

-- each column after its own list of operations
abbrev Become : Bool → List ℕ → List (Operation Body) → Stored → Stored → Type 0
Become same_time numbers operations c d = HasBecome numbers (apply_all same_time operations c.tree.column) (bodies_in c) (followed same_time operations c.tree.column (ranks_in c)) d

each-laid : (same_time : Bool) (numbers : List ℕ) (cs : List Stored) (column : ℕ) (d : Stored) (after : List Stored) → AreHeld numbers cs → after ≡ set cs column d → IsLaid same_time numbers (stored_at cs column) (stored_at after column) → (i : ℕ) → i < length cs
    → Become same_time numbers (get_or (laid_steps column) i []) (stored_at cs i) (stored_at after i)
each-laid same_time numbers cs column d after held others laid i h =
    elim (cases_eq i column) [
      | inl e ↦
          subst (λ (k : ℕ). Become same_time numbers (get_or (laid_steps column) k []) (stored_at cs k) (stored_at after k)) (sym e)
          (subst (λ (operations : List (Operation Body)). Become same_time numbers operations (stored_at cs column) (stored_at after column)) (sym (only-same column (Lay ∷ []))) laid.is)
      | inr ne ↦
          subst (λ (operations : List (Operation Body)). Become same_time numbers operations (stored_at cs i) (stored_at after i)) (sym (only-other column i (Lay ∷ []) ne))
          (subst (λ (c : Stored). Become same_time numbers [] (stored_at cs i) c) (sym (ap (λ (xs : List Stored). stored_at xs i) others ∙ stored-set_other cs column i d ne))
          (unchanged same_time numbers (stored_at cs i) (held.each i h)))
    ]

lay-operated : (same_time : Bool) (column : ℕ) (s : Shelf Body) → lay_column same_time column s ≡ operated same_time (laid_steps column) s
unfolding lay_column
lay-operated same_time column s = refl

operated-columns : (same_time : Bool) (column : ℕ) (s : Shelf Body) → (lay_column same_time column s).columns ≡ operate same_time (laid_steps column) s.columns
unfolding lay_column operated
operated-columns same_time column s = refl

lay-kept : (same_time : Bool) (column : ℕ) (s : Shelf Body) → (lay_column same_time column s).kept ≡ (operated same_time (laid_steps column) s).kept
unfolding lay_column
lay-kept same_time column s = refl

pub lay-next : (same_time : Bool) (column : ℕ) (s : Shelf Body) → (lay_column same_time column s).next ≡ s.next
unfolding lay_column operated
lay-next same_time column s = refl

pub lay-width : (same_time : Bool) (column : ℕ) (s : Shelf Body) → length (lay_column same_time column s).columns ≡ length s.columns
lay-width same_time column s = ap (λ (cs : List (Column Body)). length cs) (operated-columns same_time column s) ∙ length-operate same_time (laid_steps column) s.columns

pub held-laid : (same_time : Bool) (numbers : List ℕ) (cs : List Stored) (column : ℕ) (d : Stored) (after : List Stored) → AreHeld numbers cs → after ≡ set cs column d → IsLaid same_time numbers (stored_at cs column) (stored_at after column) → length after ≡ length cs → AreHeld numbers after
held-laid same_time numbers cs column d after held others laid many = record { each = λ i h. (each-laid same_time numbers cs column d after held others laid i (omega (arith, h, many))).held }

pub laid-shelf : (same_time : Bool) (limit next : ℕ) (numbers : List ℕ) (cs : List Stored) (column : ℕ) (d : Stored) (after : List Stored) → SoundShelf Body same_time limit (shelf_in numbers next cs) → AreHeld numbers cs
    → after ≡ set cs column d → IsLaid same_time numbers (stored_at cs column) (stored_at after column) → length after ≡ length cs
    → lay_column same_time column (shelf_in numbers next cs) ≡ shelf_in numbers next after
unfolding shelf_in
laid-shelf same_time limit next numbers cs column d after sound held others laid many =
    let s = shelf_in numbers next cs in
    let t = lay_column same_time column s in
    let steps = laid_steps column in
    let each = each-laid same_time numbers cs column d after held others laid in
    let before = kept-held numbers cs held in
    let now = kept-held numbers after (held-laid same_time numbers cs column d after held others laid many) in
    let trees : length (trees_in cs) ≡ length cs = length-trees cs in
    let result = (operations_keep_shelf same_time limit s sound).lays column in
    let width : length t.columns ≡ length cs = lay-width same_time column s ∙ trees in
    let ranked = (sound_has_ranks same_time limit s sound).ranked in
    let rows : t.kept ≡ kept_in numbers after =
    same-kept (length cs) t.kept (kept_in numbers after)
    (subst (λ (n : ℕ). AllFull n t.kept) width result.full)
    (subst (λ (n : ℕ). AllFull n (kept_in numbers after)) many now.width)
    (ap (λ (rs : List Row). kept_numbers rs) (lay-kept same_time column s ∙ operated-kept same_time steps s) ∙ numbers-after same_time steps s.columns s.kept ∙ before.numbers_are ∙ sym now.numbers_are)
    (λ i h.
    ap (λ (rs : List Row). ranks_at i rs) (lay-kept same_time column s)
    ∙ (columns_follow same_time steps s i ranked (omega (arith, h, trees))).ranks_are
    ∙ ap (λ (c : Column Body). map (carried (origins same_time (get_or steps i []) c)) (ranks_at i s.kept)) (trees-at cs i)
    ∙ ap (λ (ns : List ℕ). followed same_time (get_or steps i []) (stored_at cs i).tree.column ns) (before.ranks_are i h)
    ∙ sym (each i h).ranks_are
    ∙ sym (now.ranks_are i (omega (arith, h, many))))
    (λ i h.
    ap (λ (rs : List Row). bodies_at i rs) (lay-kept same_time column s ∙ operated-kept same_time steps s) ∙ bodies-after same_time steps s.columns i s.kept
    ∙ before.bodies_are i h
    ∙ sym (each i h).bodies_are
    ∙ sym (now.bodies_are i (omega (arith, h, many))))
    in
    let columns : t.columns ≡ trees_in after =
    operated-columns same_time column s
    ∙ columns-after same_time steps s after ranked (many ∙ sym trees)
    (λ i h. (each i (omega (arith, h, trees))).column_is ∙ sym (ap (λ (c : Column Body). apply_all same_time (get_or steps i []) c) (trees-at cs i)))
    in
    same-shelf t (kept_in numbers after) next (trees_in after) rows (lay-next same_time column s) columns
