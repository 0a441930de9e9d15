-- The tables of a transaction: its own ones over those of its version.
use Rattle.std.proofs.Common.{◌≡◌, ◌≢◌, ℕ, zero, suc, ◌<◌, ◌≤◌, Bool, true, false, List, [], ◌∷◌, ◌++◌, length, get_or, set, map, eqb, Option, Some, None, refl, ap, sym, subst, ◌∙◌, arith, inl, inr, ne_eqb}
use Rattle.std.proofs.lemmas.Bool.{cases_eq}
use Rattle.std.proofs.lemmas.List.{ext_get_or}
use Rattle.mope_base.specs.declared.body.Body.{Body}
use Rattle.mope_base.specs.Lists.{Each}
use Rattle.tree_model.specs.Items.{change_at}
use Rattle.tree_model.proofs.Changes.{length-change_at}
use Rattle.table_model.specs.Stores.{Shelf, empty_shelf}
use Rattle.table_model.specs.ShelfSoundness.{SoundShelf, AllSoundShelves}
use Rattle.table_model.specs.Operations.{shelf_at}
use Rattle.enc_table.specs.Seen.{Seen as Table, IsTable}
use Rattle.versions.specs.Databases.{Database, IsDatabase, IsMember, IsSmall, table_at}
use Rattle.versions.proofs.OpsOn.{changed-here, changed-other}
use Rattle.server_conn.specs.Inside.{own_or, laid_over, IsOwn, IsSameOwn}

pub length-laid : (own : List (Option Table)) (shelves : List (Shelf Body)) → length (laid_over own shelves) ≡ length shelves
unfolding laid_over
length-laid [] shelves = refl
length-laid (o ∷ own) [] = refl
length-laid (o ∷ own) (s ∷ shelves) = ap suc (length-laid own shelves)

pub laid-at : (own : List (Option Table)) (shelves : List (Shelf Body)) (i : ℕ) (d : Shelf Body) → i < length shelves → get_or (laid_over own shelves) i d ≡ own_or (get_or own i None) (get_or shelves i d)
unfolding laid_over own_or
laid-at [] shelves i d h = refl
laid-at (o ∷ own) [] i d h = absurd (omega (arith, h))
laid-at (o ∷ own) (s ∷ shelves) zero d h = refl
laid-at (o ∷ own) (s ∷ shelves) (suc i) d h = laid-at own shelves i d (omega (arith, h))

pub same-laid : (own others : List (Option Table)) (shelves : List (Shelf Body)) → IsSameOwn own others → laid_over others shelves ≡ laid_over own shelves
same-laid own others shelves same =
    let d = empty_shelf Body 0 in
    ext_get_or d (laid_over others shelves) (laid_over own shelves) (length-laid others shelves ∙ sym (length-laid own shelves))
    (λ k h.
    let within : k < length shelves = omega (arith, h, length-laid others shelves) in
    laid-at others shelves k d within ∙ ap (λ (o : Option Table). own_or o (get_or shelves k d)) (same.each k) ∙ sym (laid-at own shelves k d within))

-- one more place without an own table
pub more-own : (own : List (Option Table)) (i : ℕ) → get_or (own ++ None ∷ []) i None ≡ get_or own i None
more-own [] zero = refl
more-own [] (suc i) = refl
more-own (o ∷ own) zero = refl
more-own (o ∷ own) (suc i) = more-own own i

own-some : (o : Option Table) (own : Table) (s : Shelf Body) → o ≡ Some own → own_or o s ≡ own.shelf
unfolding own_or
own-some o own s is = ap (λ (p : Option Table). own_or p s) is

-- one of the tables is another, by its own
pub put-laid : (own others : List (Option Table)) (shelves : List (Shelf Body)) (table : ℕ) (after : Table) (f : Shelf Body → Shelf Body) → table < length shelves → ((i : ℕ) → i ≢ table → get_or others i None ≡ get_or own i None) → get_or others table None ≡ Some after
    → after.shelf ≡ f (shelf_at (laid_over own shelves) table) → laid_over others shelves ≡ change_at f (laid_over own shelves) table
unfolding shelf_at
put-laid own others shelves table after f there elsewhere here is =
    let d = empty_shelf Body 0 in
    ext_get_or d (laid_over others shelves) (change_at f (laid_over own shelves) table) (length-laid others shelves ∙ sym (length-change_at f (laid_over own shelves) table ∙ length-laid own shelves))
    (λ k h.
    let within : k < length shelves = omega (arith, h, length-laid others shelves) in
    let at : table < length (laid_over own shelves) = omega (arith, there, length-laid own shelves) in
    elim (cases_eq k table) [
      | inl same ↦
          subst (λ (i : ℕ). get_or (laid_over others shelves) i d ≡ get_or (change_at f (laid_over own shelves) table) i d) (sym same)
          (laid-at others shelves table d there ∙ own-some (get_or others table None) after (get_or shelves table d) here ∙ is
          ∙ sym (changed-here f (laid_over own shelves) table d at))
      | inr other ↦
          laid-at others shelves k d within ∙ ap (λ (o : Option Table). own_or o (get_or shelves k d)) (elsewhere k other) ∙ sym (laid-at own shelves k d within)
          ∙ sym (changed-other f (laid_over own shelves) table k d (ne_eqb table k (λ e. other (sym e))))
    ])

-- ---- what is true of the own tables

pub own-each : (same_time : Bool) (limit : ℕ) (own : List (Option Table)) (i : ℕ) → Each (IsOwn same_time limit) own → IsOwn same_time limit (get_or own i None)
unfolding Each IsOwn
own-each same_time limit [] i each = tt
own-each same_time limit (o ∷ own) zero each = each.0
own-each same_time limit (o ∷ own) (suc i) each = own-each same_time limit own i each.1

pub each-own : (same_time : Bool) (limit : ℕ) (own : List (Option Table)) → ((i : ℕ) → IsOwn same_time limit (get_or own i None)) → Each (IsOwn same_time limit) own
unfolding Each
each-own same_time limit [] at = tt
each-own same_time limit (o ∷ own) at = (at 0, each-own same_time limit own (λ i. at (suc i)))

pub own-member : (same_time : Bool) (limit : ℕ) (o : Option Table) (own : Table) → o ≡ Some own → IsOwn same_time limit o → IsMember same_time limit own
unfolding IsOwn
own-member same_time limit o own is held = subst (IsOwn same_time limit) is held

pub member-own : (same_time : Bool) (limit : ℕ) (o : Option Table) (own : Table) → o ≡ Some own → IsMember same_time limit own → IsOwn same_time limit o
unfolding IsOwn
member-own same_time limit o own is member = subst (IsOwn same_time limit) (sym is) member

-- ---- the version's tables

sound-at : (same_time : Bool) (limit : ℕ) (shelves : List (Shelf Body)) (i : ℕ) → AllSoundShelves same_time limit shelves → i < length shelves → SoundShelf Body same_time limit (shelf_at shelves i)
unfolding AllSoundShelves shelf_at
sound-at same_time limit [] i sound h = absurd (omega (arith, h))
sound-at same_time limit (s ∷ shelves) zero sound h = sound.0
sound-at same_time limit (s ∷ shelves) (suc i) sound h = sound-at same_time limit shelves i sound.1 (omega (arith, h))

small-at : (shelves : List (Shelf Body)) (i : ℕ) → Each IsSmall shelves → i < length shelves → IsSmall (shelf_at shelves i)
unfolding Each shelf_at
small-at [] i small h = absurd (omega (arith, h))
small-at (s ∷ shelves) zero small h = small.0
small-at (s ∷ shelves) (suc i) small h = small-at shelves i small.1 (omega (arith, h))

pub is-table : (d : Database) (i : ℕ) → IsDatabase d → i < length d.shelves → IsTable (table_at d i)
unfolding table_at
is-table d i database h =
    let small = small-at d.shelves i database.small h in
    record { sound = sound-at d.same_time d.limit d.shelves i database.sound h; some = small.some; narrow = small.narrow; low = database.low; numbers = small.numbers; gone = λ (e : false ≡ true). absurd (let no : false ≡ true = e in cc) }
