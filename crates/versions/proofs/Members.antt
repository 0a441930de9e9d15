-- What is true of the tables of a version, and of each of them.
use Rattle.std.proofs.Common.{◌≡◌, ℕ, suc, zero, ◌<◌, Bool, List, [], ◌∷◌, length, map, get_or, ap, ap₂, sym, ◌∙◌, arith, subst}
use Rattle.std.proofs.lemmas.List.{length-map, get_or-map}
use Rattle.std.specs.Arc.{arc_value}
use Rattle.std.specs.declared.sync.Arc.{Arc}
use Rattle.mope_base.specs.Lists.{Each}
use Rattle.table_model.specs.ShelfSoundness.{SoundShelf, AllSoundShelves}
use Rattle.table_model.specs.Operations.{shelf_at}
use Rattle.enc_table.specs.Seen.{Seen}
use Rattle.versions.specs.Databases.{IsMember, database_of, IsSmall, IsDatabase, stamps_at, table_at}
use Rattle.versions.specs.Inside.{IsVersion, tables_of}

pub all-sound : (same_time : Bool) (limit : ℕ) (tables : List Seen) → Each (IsMember same_time limit) tables → AllSoundShelves same_time limit (map (λ (t : Seen). t.shelf) tables)
unfolding Each AllSoundShelves
all-sound same_time limit [] members = tt
all-sound same_time limit (t ∷ tables) members =
    (subst (λ (b : Bool). SoundShelf _ b limit t.shelf) members.0.mode (subst (λ (n : ℕ). SoundShelf _ t.same_time n t.shelf) members.0.rows members.0.table.sound), all-sound same_time limit tables members.1)

pub all-small : (same_time : Bool) (limit : ℕ) (tables : List Seen) → Each (IsMember same_time limit) tables → Each IsSmall (map (λ (t : Seen). t.shelf) tables)
unfolding Each
all-small same_time limit [] members = tt
all-small same_time limit (t ∷ tables) members =
    (record { some = members.0.table.some; narrow = members.0.table.narrow; numbers = members.0.table.numbers }, all-small same_time limit tables members.1)

pub is_database : (number : ℕ) (same_time : Bool) (limit : ℕ) (tables : List Seen) → IsVersion same_time limit tables → IsDatabase (database_of number same_time limit tables)
is_database number same_time limit tables inside =
    record {
      few = omega (arith, inside.few, length-map tables (λ (t : Seen). t.shelf));
      stamped = length-map tables (λ (t : Seen). t.stamps) ∙ sym (length-map tables (λ (t : Seen). t.shelf));
      low = inside.low;
      sound = all-sound same_time limit tables inside.members;
      small = all-small same_time limit tables inside.members;
    }

-- one of the tables
pub member-at : (number : ℕ) (same_time : Bool) (limit : ℕ) (tables : List Seen) (table : ℕ) (d : Seen) → Each (IsMember same_time limit) tables → table < length tables → get_or tables table d ≡ table_at (database_of number same_time limit tables) table
unfolding Each table_at shelf_at stamps_at
member-at number same_time limit [] table d members h = absurd (omega (arith, h))
member-at number same_time limit (t ∷ tables) zero d members h =
    ap₂ (λ (b : Bool) (rest : ℕ × Bool). let r : Seen = record { shelf = t.shelf; same_time = b; limit = rest.0; stamps = t.stamps; spent = rest.1 } in r) members.0.mode
    (ap₂ (λ (n : ℕ) (s : Bool). let p : ℕ × Bool = (n, s) in p) members.0.rows members.0.fresh)
member-at number same_time limit (t ∷ tables) (suc table) d members h = member-at number same_time limit tables table d members.1 (omega (arith, h))

-- by the share that leads to it
pub shared-at : {Z : Type 0} (number : ℕ) (same_time : Bool) (limit : ℕ) (shares : List (Arc Seen Z)) (table : ℕ) (share : Arc Seen Z) → Each (IsMember same_time limit) (tables_of shares) → table < length shares → share ≡ get_or shares table share
    → arc_value share ≡ table_at (database_of number same_time limit (tables_of shares)) table
shared-at number same_time limit shares table share members h is =
    ap arc_value is
    ∙ sym (get_or-map arc_value shares table share (arc_value share) h)
    ∙ member-at number same_time limit (tables_of shares) table (arc_value share) members (omega (arith, h, length-map shares arc_value))

pub share-member : {Z : Type 0} (same_time : Bool) (limit : ℕ) (shares : List (Arc Seen Z)) (table : ℕ) (share : Arc Seen Z) → Each (IsMember same_time limit) (tables_of shares) → table < length shares → share ≡ get_or shares table share → IsMember same_time limit (arc_value share)
unfolding Each
share-member same_time limit [] table share members h is = absurd (omega (arith, h))
share-member same_time limit (x ∷ shares) zero share members h is = subst (IsMember same_time limit) (sym (ap arc_value is)) members.0
share-member same_time limit (x ∷ shares) (suc table) share members h is = share-member same_time limit shares table share members.1 (omega (arith, h)) is
