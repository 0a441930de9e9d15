-- The first version: tables without rows.
use Rattle.std.proofs.Common.{◌≡◌, ℕ, suc, ◌≤◌, Bool, List, [], ◌∷◌, length, map, refl, ap, arith}
use Rattle.std.specs.List.{All}
use Rattle.std.proofs.lemmas.List.{length-map}
use Rattle.mope_base.specs.declared.body.Body.{Body}
use Rattle.mope_base.specs.Lists.{Each}
use Rattle.tree_model.specs.Columns.{empty_column}
use Rattle.table_model.specs.Stores.{Shelf, empty_shelf}
use Rattle.table_model.proofs.ShelfSoundOps.{empty_shelf_is_sound}
use Rattle.enc_table.specs.Seen.{Seen, IsTable, new_table, no_stamps}
use Rattle.versions.specs.Databases.{IsMember, database_of, first_database}
use Rattle.versions.specs.Inside.{IsVersion}
use Rattle.std.proofs.Math.ListN.{length-replicate}

empty_table : (same_time : Bool) (limit width : ℕ) → 1 ≤ width → width ≤ 8 → limit ≤ 1048576 → IsTable (new_table width same_time limit)
unfolding new_table empty_shelf
empty_table same_time limit width some narrow low =
    let wide : length (empty_shelf Body width).columns ≡ width = length-replicate width (empty_column Body) in
    record {
      sound = empty_shelf_is_sound Body same_time limit width;
      some = omega (arith, wide);
      narrow = omega (arith, wide);
      low = low;
      numbers = omega arith;
      gone = λ spent. (cc);
    }

first-members : (same_time : Bool) (limit : ℕ) (widths : List ℕ) → limit ≤ 1048576 → All (λ width. (1 ≤ width) × (width ≤ 8)) widths → Each (IsMember same_time limit) (map (λ width. new_table width same_time limit) widths)
unfolding Each new_table
first-members same_time limit [] low all = tt
first-members same_time limit (width ∷ widths) low all =
    let h : (1 ≤ width) × (width ≤ 8) = all 0 width (omega arith) in (
      record { mode = refl; rows = refl; fresh = refl; table = empty_table same_time limit width h.0 h.1 low },
      first-members same_time limit widths low (λ k d within. all (suc k) d (omega arith)),
    )

pub first_inside : (same_time : Bool) (limit : ℕ) (widths : List ℕ) → length widths ≤ 16 → limit ≤ 1048576 → All (λ width. (1 ≤ width) × (width ≤ 8)) widths → IsVersion same_time limit (map (λ width. new_table width same_time limit) widths)
first_inside same_time limit widths few low all =
    record {
      few = omega (arith, length-map widths (λ width. new_table width same_time limit));
      low = low;
      members = first-members same_time limit widths low all;
    }

first-shelves : (same_time : Bool) (limit : ℕ) (widths : List ℕ) → map (λ (t : Seen). t.shelf) (map (λ width. new_table width same_time limit) widths) ≡ map (empty_shelf Body) widths
unfolding new_table
first-shelves same_time limit [] = refl
first-shelves same_time limit (width ∷ widths) = ap (λ (rest : List (Shelf Body)). empty_shelf Body width ∷ rest) (first-shelves same_time limit widths)

first-stamps : (same_time : Bool) (limit : ℕ) (widths : List ℕ) → map (λ (t : Seen). t.stamps) (map (λ width. new_table width same_time limit) widths) ≡ map (λ (_ : ℕ). no_stamps) widths
unfolding new_table
first-stamps same_time limit [] = refl
first-stamps same_time limit (width ∷ widths) = ap (λ (rest : List _). no_stamps ∷ rest) (first-stamps same_time limit widths)

pub first-is : (same_time : Bool) (limit : ℕ) (widths : List ℕ) → database_of 0 same_time limit (map (λ width. new_table width same_time limit) widths) ≡ first_database widths same_time limit
unfolding first_database
first-is same_time limit widths = rw (first-shelves same_time limit widths, first-stamps same_time limit widths)
