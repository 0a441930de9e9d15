-- Turns, and the version that a list of them leads to.
use Rattle.std.specs.Prelude.{◌≡◌, suc, List, [], ◌∷◌}
use Rattle.versions.specs.declared.change.ColumnChange.{ColumnChange}
use Rattle.versions.specs.declared.turn.Turn.{Turn}
use Rattle.versions.specs.declared.turn.TurnKind.{TurnKind}
use Rattle.versions.specs.declared.turn.TurnKind.TheVariants.{Began, Committed, Conflict, Installed, Stale}
use Rattle.versions.specs.Databases.{Database}
use Rattle.versions.specs.Operations.{rank_ops, with_ops, with_install}
use Rattle.versions.specs.Changes.{ops_changes, install_changes}

-- the version after a turn: a commit and an install make a new one
unfoldable pub after_turn : TurnKind → Database → Database
after_turn (Began number) d = d
after_turn (Committed number ops) d = with_ops (rank_ops ops) d
after_turn (Conflict table number) d = d
after_turn (Installed number table column) d = with_install table.0 column.0 d
after_turn (Stale table number) d = d

-- the version that turns lead to from a first one
unfoldable pub replay : List Turn → Database → Database
replay [] d = d
replay (turn ∷ turns) d = replay turns (after_turn turn.what d)

-- ---- what a turn tells of the version on which it was taken

unfoldable pub changes_by : TurnKind → Database → List ColumnChange
changes_by (Began number) d = []
changes_by (Committed number ops) d = ops_changes (rank_ops ops) d
changes_by (Conflict table number) d = []
changes_by (Installed number table column) d = install_changes table.0 column.0 d
changes_by (Stale table number) d = []

unfoldable pub TellsNumber : TurnKind → Database → Type 0
TellsNumber (Began number) d = number ≡ d.number
TellsNumber (Committed number ops) d = number ≡ suc d.number
TellsNumber (Conflict table number) d = Unit {0}
TellsNumber (Installed number table column) d = number ≡ suc d.number
TellsNumber (Stale table number) d = Unit {0}

-- the number of the version that a begin found, or that a commit or an install made; and all that this one changed
pub record IsTold (turn : Turn) (d : Database) : Type 0 where
  pub number : TellsNumber turn.what d
  pub changes : turn.changes ≡ changes_by turn.what d

-- each on the version that those before it lead to
unfoldable pub AreTold : List Turn → Database → Type 0
AreTold [] d = Unit {0}
AreTold (turn ∷ turns) d = IsTold turn d × AreTold turns (after_turn turn.what d)

-- the version is what the turns lead to from the first one, and each of them tells what it did
pub record Replays (first : Database) (turns : List Turn) (current : Database) : Type 0 where
  pub told : AreTold turns first
  pub leads : current ≡ replay turns first
