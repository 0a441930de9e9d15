-- What contracts see of a state: the first version, the turns that were taken, the version that they led to, and the places for
-- further turns that are ready.
use Rattle.std.specs.Prelude.{◌≡◌, ℕ, ◌≤◌, true, List, [], ◌∷◌, length, take, refl}
use Rattle.std.specs.Coded.{Coded, code_by, coded×, coded_ℕ, coded_list}
use Rattle.mope_base.specs.declared.numbers.TableNo.{TableNo}
use Rattle.table_model.specs.Operations.{RankOp}
use Rattle.versions.specs.declared.turn.Turn.{Turn}
use Rattle.versions.specs.contracts.turn.Turn as turn
use Rattle.versions.specs.Databases.{Database, database_code}
use Rattle.versions.specs.Operations.{op_table}
use Rattle.versions.specs.Turns.{replay}
use Rattle.versions.specs.Newer.{names}

pub record Course : Type 0 where
  pub first : Database
  pub turns : List Turn
  pub current : Database
  pub spare : ℕ

-- a version was the current one at some time: so many of the turns lead to it
pub record IsPast (c : Course) (base : Database) : Type 0 where
  pub taken : ℕ
  pub within : taken ≤ length c.turns
  pub leads : base ≡ replay (take taken c.turns) c.first

-- each table that an operation is on is one of these
unfoldable pub AllTouched : {B : Type 0} → List TableNo → List (RankOp B) → Type 0
AllTouched touched [] = Unit {0}
AllTouched touched (op ∷ ops) = (names touched (op_table op) ≡ true) × AllTouched touched ops

-- the code of what is seen, by which proofs tell two states apart
abbrev pub course_code : Coded Course
course_code = code_by (Database × (List Turn × (Database × ℕ))) (coded× database_code (coded× (coded_list turn.the_row.coded) (coded× database_code coded_ℕ))) (λ c. (c.first, (c.turns, (c.current, c.spare)))) (λ p. record { first = p.0; turns = p.1.0; current = p.1.1.0; spare = p.1.1.1 }) (λ _. refl)
