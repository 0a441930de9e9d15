-- The tables of the next version, made one after the other.
use Rattle.std.proofs.Common.{◌≡◌, ℕ, suc, zero, ◌+◌, ◌≤◌, ◌<◌, List, [], ◌∷◌, ◌++◌, length, map, take, get_or, refl, ap, ap₂, sym, ◌∙◌, subst, arith, add-one, zero-add}
use Rattle.std.proofs.Math.Seq.{take-length}
use Rattle.std.proofs.lemmas.List.{length-map, map-append}
use Rattle.std.proofs.lemmas.List.FromFn.{length-map-range_with_len}
use Rattle.table_model.specs.Stores.{Shelf, empty_shelf}
use Rattle.table_model.specs.Operations.{shelf_at}
use Rattle.enc_table.specs.declared.stamps.Stamps.{Stamps}
use Rattle.versions.proofs.Listed.{tables-more}
use Rattle.std.specs.List.{range_with_len}
use Rattle.std.specs.Arc.{arc_value}
use Rattle.std.specs.declared.sync.Arc.{Arc}
use Rattle.mope_base.specs.declared.body.Body.{Body}
use Rattle.mope_base.specs.Lists.{Each}
use Rattle.tree_model.specs.Columns.{Operation}
use Rattle.enc_table.specs.Seen.{Seen, no_stamps}
use Rattle.versions.specs.declared.change.ColumnChange.{ColumnChange}
use Rattle.versions.specs.Databases.{Database, IsMember, table_at, stamps_at, database_of}
use Rattle.versions.specs.Changes.{column_changes, table_changes}
use Rattle.versions.specs.Inside.{tables_of}

-- so many tables of the next version are made, and what became of their codes is listed
pub record IsMade {Z : Type 0} (d made : Database) (steps : ℕ → List (List (Operation Body))) (count : ℕ) (shares : List (Arc Seen Z)) (changes : List ColumnChange) : Type 0 where
  pub seen : tables_of shares ≡ map (table_at made) (range_with_len 0 count)
  pub members : Each (IsMember d.same_time d.limit) (tables_of shares)
  pub listed : changes ≡ table_changes d.same_time steps 0 (take count d.shelves)

made-start : (d made : Database) (steps : ℕ → List (List (Operation Body))) → table_changes d.same_time steps 0 (take 0 d.shelves) ≡ []
unfolding table_changes
made-start d made steps = refl

pub made-starts : {Z : Type 0} (d made : Database) (steps : ℕ → List (List (Operation Body))) (shares : List (Arc Seen Z)) (changes : List ColumnChange) → shares ≡ [] → changes ≡ [] → IsMade {Z = Z} d made steps 0 shares changes
unfolding Each
made-starts {Z} d made steps shares changes e f =
    subst (λ (l : List (Arc Seen Z)). IsMade {Z = Z} d made steps 0 l changes) (sym e)
    (subst (λ (l : List ColumnChange). IsMade {Z = Z} d made steps 0 [] l) (sym f) (record { seen = refl; members = tt; listed = sym (made-start d made steps) }))

each-more : {A : Type 0} (P : A → Type 0) (xs : List A) (x : A) → Each P xs → P x → Each P (xs ++ x ∷ [])
unfolding Each
each-more P [] x each this = (this, tt)
each-more P (y ∷ xs) x each this = (each.0, each-more P xs x each.1 this)

range-more : (first n : ℕ) → range_with_len first (suc n) ≡ range_with_len first n ++ (first + n) ∷ []
range-more first zero = let e : first + 0 ≡ first = omega arith in ap (λ (k : ℕ). k ∷ []) (sym e)
range-more first (suc n) = let e : first + 1 + n ≡ first + suc n = omega arith in ap (λ (l : List ℕ). first ∷ l) (range-more (first + 1) n ∙ ap (λ (k : ℕ). range_with_len (first + 1) n ++ k ∷ []) e)

pub made-more : {Z : Type 0} (d made : Database) (steps : ℕ → List (List (Operation Body))) (count : ℕ) (shares : List (Arc Seen Z)) (changes more : List ColumnChange) (share : Arc Seen Z) → IsMade {Z = Z} d made steps count shares changes → count < length d.shelves
    → arc_value share ≡ table_at made count → IsMember d.same_time d.limit (arc_value share) → more ≡ changes ++ column_changes d.same_time count 0 (steps count) (shelf_at d.shelves count).columns
    → IsMade {Z = Z} d made steps (count + 1) (shares ++ share ∷ []) more
made-more {Z} d made steps count shares changes more share h within value member listed =
    let next : count + 1 ≡ suc count = add-one count in
    let appended : tables_of (shares ++ share ∷ []) ≡ tables_of shares ++ arc_value share ∷ [] = map-append arc_value shares (share ∷ []) in
    subst (λ (n : ℕ). IsMade {Z = Z} d made steps n (shares ++ share ∷ []) more) (sym next)
    (record {
      seen = appended ∙ ap₂ (λ (l : List Seen) (t : Seen). l ++ t ∷ []) h.seen value ∙ sym (map-append (table_at made) (range_with_len 0 count) (count ∷ [])) ∙ ap (map (table_at made)) (sym (range-more 0 count ∙ ap (λ (k : ℕ). range_with_len 0 count ++ k ∷ []) (zero-add count)));
      members = subst (Each (IsMember d.same_time d.limit)) (sym appended) (each-more (IsMember d.same_time d.limit) (tables_of shares) (arc_value share) h.members member);
      listed = listed ∙ ap (λ (l : List ColumnChange). l ++ column_changes d.same_time count 0 (steps count) (shelf_at d.shelves count).columns) h.listed
          ∙ sym (tables-more d.same_time steps 0 d.shelves count within ∙ ap (λ (k : ℕ). table_changes d.same_time steps 0 (take count d.shelves) ++ column_changes d.same_time k 0 (steps k) (shelf_at d.shelves count).columns) (zero-add count));
    })

pub made-few : {Z : Type 0} (d made : Database) (steps : ℕ → List (List (Operation Body))) (count : ℕ) (shares : List (Arc Seen Z)) (changes : List ColumnChange) → IsMade {Z = Z} d made steps count shares changes → count ≤ 16 → length shares ≤ 16
made-few d made steps count shares changes h few =
    omega (arith, few, sym (length-map shares arc_value) ∙ ap length h.seen ∙ length-map-range_with_len (table_at made) 0 count)

-- ---- all of them

read-all : {A B : Type 0} (f : A → B) (g : ℕ → A) (xs : List B) (first : ℕ) → ((i : ℕ) (d : B) → i < length xs → f (g (first + i)) ≡ get_or xs i d) → map f (map g (range_with_len first (length xs))) ≡ xs
read-all f g [] first each = refl
read-all f g (x ∷ xs) first each =
    let e : first + 0 ≡ first = omega arith in
    ap₂ (λ (y : _) (l : List _). y ∷ l) (ap (λ (k : ℕ). f (g k)) (sym e) ∙ each 0 x (omega arith))
    (read-all f g xs (first + 1) (λ i d h. let s : first + 1 + i ≡ first + suc i = omega arith in ap (λ (k : ℕ). f (g k)) s ∙ each (suc i) d (omega (arith, h))))

get_or-default : {A : Type 0} (xs : List A) (i : ℕ) (d e : A) → i < length xs → get_or xs i d ≡ get_or xs i e
get_or-default [] i d e h = absurd (omega (arith, h))
get_or-default (x ∷ xs) zero d e h = refl
get_or-default (x ∷ xs) (suc i) d e h = get_or-default xs i d e (omega (arith, h))

tables-shelves : (made : Database) → map (λ (t : Seen). t.shelf) (map (table_at made) (range_with_len 0 (length made.shelves))) ≡ made.shelves
unfolding table_at shelf_at
tables-shelves made = read-all (λ (t : Seen). t.shelf) (table_at made) made.shelves 0 (λ i d h. ap (λ (k : ℕ). get_or made.shelves k (empty_shelf Body 0)) (zero-add i) ∙ get_or-default made.shelves i (empty_shelf Body 0) d h)

tables-stamps : (made : Database) → map (λ (t : Seen). t.stamps) (map (table_at made) (range_with_len 0 (length made.stamps))) ≡ made.stamps
unfolding table_at stamps_at
tables-stamps made = read-all (λ (t : Seen). t.stamps) (table_at made) made.stamps 0 (λ i d h. ap (λ (k : ℕ). get_or made.stamps k no_stamps) (zero-add i) ∙ get_or-default made.stamps i no_stamps d h)

pub made-whole : {Z : Type 0} (d made : Database) (steps : ℕ → List (List (Operation Body))) (count : ℕ) (shares : List (Arc Seen Z)) (changes : List ColumnChange) → IsMade {Z = Z} d made steps count shares changes → count ≡ length made.shelves → count ≡ length made.stamps
    → database_of made.number made.same_time made.limit (tables_of shares) ≡ made
made-whole d made steps count shares changes h shelves stamps =
    let e : map (λ (t : Seen). t.shelf) (tables_of shares) ≡ made.shelves = ap (map (λ (t : Seen). t.shelf)) (h.seen ∙ ap (λ (n : ℕ). map (table_at made) (range_with_len 0 n)) shelves) ∙ tables-shelves made in
    let f : map (λ (t : Seen). t.stamps) (tables_of shares) ≡ made.stamps = ap (map (λ (t : Seen). t.stamps)) (h.seen ∙ ap (λ (n : ℕ). map (table_at made) (range_with_len 0 n)) stamps) ∙ tables-stamps made in
    ap₂ (λ (x : List (Shelf Body)) (y : List Stamps). let r : Database = record { number = made.number; same_time = made.same_time; limit = made.limit; shelves = x; stamps = y } in r) e f

pub made-listed : {Z : Type 0} (d made : Database) (steps : ℕ → List (List (Operation Body))) (count : ℕ) (shares : List (Arc Seen Z)) (changes : List ColumnChange) → IsMade {Z = Z} d made steps count shares changes → count ≡ length d.shelves → changes ≡ table_changes d.same_time steps 0 d.shelves
made-listed d made steps count shares changes h whole = h.listed ∙ ap (table_changes d.same_time steps 0) (ap (λ (n : ℕ). take n d.shelves) whole ∙ take-length d.shelves)
