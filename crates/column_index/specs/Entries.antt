-- The entries of an index, in increasing order by code and row.
use Rattle.std.specs.Prelude.{◌≡◌, ℕ, Bool, true, false, ◌||◌, ◌&&◌, ◌==◌, nat_lt, List, [], ◌∷◌, map, Option, Some, None}
use Rattle.std.specs.Bool.{if◌then◌else◌}
use Rattle.column_index.specs.declared.entry.Entry.{Entry}

-- an entry stands before another: by code, and by row where the codes are equal
unfoldable pub precedes : Entry → Entry → Bool
precedes e x = nat_lt e.enc x.enc || ((e.enc == x.enc) && nat_lt e.row x.row)

unfoldable pub is_same : Entry → Entry → Bool
is_same e x = (e.enc == x.enc) && (e.row == x.row)

-- whether what stands at a place is this entry
unfoldable pub is_entry : Entry → Option Entry → Bool
is_entry e None = false
is_entry e (Some x) = is_same e x

-- whether the entry is one of these
unfoldable pub holds_entry : Entry → List Entry → Bool
holds_entry e [] = false
holds_entry e (x ∷ xs) = is_same e x || holds_entry e xs

-- the entry stands before each of these
unfoldable pub PrecedesAll : Entry → List Entry → Type 0
PrecedesAll e [] = Unit {0}
PrecedesAll e (x ∷ xs) = (precedes e x ≡ true) × PrecedesAll e xs

-- each entry stands before those after it
unfoldable pub IsOrdered : List Entry → Type 0
IsOrdered [] = Unit {0}
IsOrdered (x ∷ xs) = PrecedesAll x xs × IsOrdered xs

-- with one more, before the first entry that it precedes
unfoldable pub put : Entry → List Entry → List Entry
put e [] = e ∷ []
put e (x ∷ xs) = (if precedes e x then e ∷ x ∷ xs else x ∷ put e xs)

-- without the first that is this one
unfoldable pub without : Entry → List Entry → List Entry
without e [] = []
without e (x ∷ xs) = (if is_same e x then xs else x ∷ without e xs)

-- the index as a function of the rows: their entries in order
unfoldable pub sorted : List Entry → List Entry
sorted [] = []
sorted (e ∷ es) = put e (sorted es)

-- the codes of entries
unfoldable pub codes_in : List Entry → List ℕ
codes_in es = map (λ e. e.enc) es
