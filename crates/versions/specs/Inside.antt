-- What a version has inside.
use Rattle.std.specs.Prelude.{ℕ, ◌≤◌, Bool, List, length, map}
use Rattle.std.specs.Arc.{arc_value}
use Rattle.std.specs.declared.sync.Arc.{Arc}
use Rattle.mope_base.specs.Lists.{Each}
use Rattle.enc_table.specs.Seen.{Seen}
use Rattle.versions.specs.Databases.{IsMember}

-- the tables that the shares of them lead to
abbrev pub tables_of : {Z : Type 0} → List (Arc Seen Z) → List Seen
tables_of shares = map arc_value shares

-- at most 16 tables, all of one mode and limit, and none is spent
pub record IsVersion (same_time : Bool) (limit : ℕ) (tables : List Seen) : Type 0 where
  pub few : length tables ≤ 16
  pub low : limit ≤ 1048576
  pub members : Each (IsMember same_time limit) tables
