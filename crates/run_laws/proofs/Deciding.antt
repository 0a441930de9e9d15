-- What the server decides is what the world decides.
use Rattle.std.proofs.Common.{◌≡◌, ℕ, suc, Bool, true, false, ◌&&◌, ◌||◌, eqb, ltb, List, [], ◌∷◌, map, get_or, Option, refl, ap, ap₂, ◌∙◌}
use Rattle.std.proofs.Math.ListN.{get_or-map as get_or-map_all}
use Rattle.mope_base.specs.declared.body.Body.{Body}
use Rattle.mope_base.specs.declared.numbers.TableNo.{TableNo}
use Rattle.mope_base.specs.declared.numbers.SessionNo.{SessionNo}
use Rattle.tree_model.specs.Columns.{Column}
use Rattle.table_model.specs.Stores.{Row, Store, Shelf, map_kept, map_shelf, kept_of, shelf_of}
use Rattle.table_model.specs.Steps.{places_by}
use Rattle.table_model.specs.Soundness.{numbers_of, kept_numbers}
use Rattle.table_model.specs.Operations.{shelf_at}
use Rattle.value_cipher.specs.Cipher.{Cell, value_of, sealed, unseal_of}
use Rattle.enc_table.specs.declared.stamps.Stamps.{Stamps}
use Rattle.enc_table.specs.Seen.{no_stamps}
use Rattle.versions.specs.Databases.{Database, stamps_at}
use Rattle.versions.specs.Newer.{names as server_names, this_or as server_this_or, lowest_newer as server_newer, last_change as server_change}
use Rattle.versions.specs.Turns.{replay}
use Rattle.workload.specs.declared.script.Workload.{Workload}
use Rattle.workload.specs.Run.{Stamps as PlainStamps, unstamped, names, this_or, lowest_newer, last_change, stamps_of}
use Rattle.workload.specs.Validity.{IsValid}
use Rattle.run_laws.specs.Worlds.{RunSetting, first_version}
use Rattle.run_laws.specs.WorldRuns.{WorldRun, first_run, world_turns}
use Rattle.run_laws.specs.TurnLaws.{store_in}
use Rattle.run_laws.specs.DecisionLaws.{DecidesAs}
use Rattle.run_laws.proofs.WorldTables.{seen_stamps}
use Rattle.run_laws.proofs.Lasting.{Lasts, first-lasts}
use Rattle.run_laws.proofs.TurnCases.{turns-last}
use Rattle.run_laws.proofs.HonestTurns.{sealed_shelves, shelf-sealed, places-in}

names-same : (tables : List TableNo) (table : ℕ) → server_names tables table ≡ names tables table
unfolding server_names names
names-same [] table = refl
names-same (t ∷ tables) table = ap (λ (b : Bool). eqb t.0 table || b) (names-same tables table)

this-same : (b : Bool) (table stamp : ℕ) (other : Option (TableNo × ℕ)) → server_this_or b table stamp other ≡ this_or b table stamp other
unfolding server_this_or this_or
this-same true table stamp other = refl
this-same false table stamp other = refl

newer-same : (i : ℕ) (stamps : List PlainStamps) (base : ℕ) (touched : List TableNo) → server_newer i (map seen_stamps stamps) base touched ≡ lowest_newer i stamps base touched
unfolding server_newer lowest_newer seen_stamps
newer-same i [] base touched = refl
newer-same i (stamp ∷ stamps) base touched =
    this-same (server_names touched i && ltb base stamp.written) i stamp.written (server_newer (suc i) (map seen_stamps stamps) base touched)
    ∙ ap₂ (λ (b : Bool) (other : Option (TableNo × ℕ)). this_or (b && ltb base stamp.written) i stamp.written other) (names-same touched i) (newer-same (suc i) stamps base touched)

stamps-seen : (stamps : List PlainStamps) (table : ℕ) → stamps_at (map seen_stamps stamps) table ≡ seen_stamps (get_or stamps table unstamped)
unfolding stamps_at no_stamps unstamped seen_stamps
stamps-seen stamps table = get_or-map_all seen_stamps stamps table unstamped

change-same : (stamps : PlainStamps) → server_change (seen_stamps stamps) ≡ last_change stamps
unfolding server_change last_change seen_stamps
change-same stamps = refl

numbers-sealed : (f : Cell → Body) (cs : List (Column Cell)) (rows : List (Row Cell)) → kept_numbers (map (map_kept f) (map (kept_of value_of cs) rows)) ≡ numbers_of rows
unfolding kept_numbers numbers_of map_kept kept_of
numbers-sealed f cs [] = refl
numbers-sealed f cs (row ∷ rows) = ap (λ (rest : List ℕ). row.number ∷ rest) (numbers-sealed f cs rows)

rows-sealed : (key : List ℕ) (stores : List (Store Cell)) (table : ℕ) → kept_numbers (shelf_at (sealed_shelves key stores) table).kept ≡ numbers_of (store_in stores table).rows
unfolding map_shelf shelf_of
rows-sealed key stores table = ap (λ (s : Shelf Body). kept_numbers s.kept) (shelf-sealed key stores table) ∙ numbers-sealed (sealed key) (store_in stores table).columns (store_in stores table).rows

next-sealed : (key : List ℕ) (stores : List (Store Cell)) (table : ℕ) → (shelf_at (sealed_shelves key stores) table).next ≡ (store_in stores table).next
unfolding map_shelf shelf_of
next-sealed key stores table = ap (λ (s : Shelf Body). s.next) (shelf-sealed key stores table)

pub lasts-decides : (s : RunSetting) (w : Workload) (r : WorldRun) → Lasts s w r → DecidesAs s r (replay r.turns (first_version s w))
unfolding stamps_of sealed_shelves
lasts-decides s w r lasts =
    let d : Database = replay r.turns (first_version s w) in
    let stamps : d.stamps ≡ map seen_stamps r.plain.stamps = lasts.stands.stamps ∙ lasts.stamped in
    let shelves : d.shelves ≡ sealed_shelves s.key r.current.stores = lasts.stands.tables.same in
    record {
      conflict = λ base touched. ap (λ (l : List Stamps). server_newer 0 l base touched) stamps ∙ newer-same 0 r.plain.stamps base touched;
      stale = λ t. ap (λ (l : List Stamps). server_change (stamps_at l t.0)) stamps ∙ ap server_change (stamps-seen r.plain.stamps t.0) ∙ change-same (get_or r.plain.stamps t.0 unstamped);
      rows = λ table. ap (λ (l : List (Shelf Body)). kept_numbers (shelf_at l table).kept) shelves ∙ rows-sealed s.key r.current.stores table;
      next = λ table. ap (λ (l : List (Shelf Body)). (shelf_at l table).next) shelves ∙ next-sealed s.key r.current.stores table;
      places = λ table cells. ap (λ (l : List (Shelf Body)). places_by (unseal_of s.key) (shelf_at l table).columns (map (sealed s.key) cells)) shelves ∙ places-in s.key r.current.stores table cells;
    }

pub server_decides : (s : RunSetting) (w : Workload) → IsValid w → (turns : List SessionNo) → DecidesAs s (world_turns s (first_run s w) turns) (replay (world_turns s (first_run s w) turns).turns (first_version s w))
server_decides s w valid turns = lasts-decides s w (world_turns s (first_run s w) turns) (turns-last s w (first_run s w) turns valid (first-lasts s w))
