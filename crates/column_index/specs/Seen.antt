-- What contracts see of an index: its entries in order, and whether it is spent.
use Rattle.std.specs.Prelude.{◌≡◌, ℕ, Bool, true, false, List, [], refl}
use Rattle.std.specs.Coded.{Coded, code_by, coded×, coded_ℕ, coded_bool, coded_list}
use Rattle.column_index.specs.declared.entry.Entry.{Entry}
use Rattle.column_index.specs.Entries.{IsOrdered}

pub record Seen : Type 0 where
  pub entries : List Entry
  pub spent : Bool

-- an index of these entries
unfoldable pub index_of : List Entry → Seen
index_of entries = record { entries = entries; spent = false }

-- what is left after want of memory: no entries, and each later call that can answer want of memory does
unfoldable pub spent_index : Seen
spent_index = record { entries = []; spent = true }

-- what is true of every index
pub record IsSound (entries : List Entry) (spent : Bool) : Type 0 where
  pub ordered : IsOrdered entries
  pub gone : spent ≡ true → entries ≡ []

abbrev pub entry_code : Coded Entry
entry_code = code_by (ℕ × ℕ) (coded× coded_ℕ coded_ℕ) (λ e. (e.enc, e.row)) (λ p. record { enc = p.0; row = p.1 }) (λ _. refl)

abbrev pub seen_code : Coded Seen
seen_code = code_by (List Entry × Bool) (coded× (coded_list entry_code) coded_bool) (λ s. (s.entries, s.spent)) (λ p. record { entries = p.0; spent = p.1 }) (λ _. refl)
