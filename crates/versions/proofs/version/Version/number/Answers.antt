use Rattle.mope_base.specs.Modes.{is_same_time}
use Rattle.versions.specs.Inside.{tables_of}
use Rattle.versions.proofs.Members.{is_database}
use Rattle.versions.proofs.version.Version.number.Goals as goal

pub returns-clause-database : goal.returns-clause-database
returns-clause-database c = rw (← c.self.view_is) (is_database c.self.inside.number (is_same_time c.self.inside.mode) c.self.inside.limit (tables_of c.self.inside.tables.items) c.self.invariant)
