use Rattle.mope_base.specs.Modes.{is_same_time}
use Rattle.versions.specs.Inside.{tables_of}
use Rattle.versions.proofs.Members.{is_database, shared-at}
use Rattle.versions.proofs.version.Version.table.Goals as goal

pub returns-in-None-clause-database : goal.returns-in-None-clause-database
returns-in-None-clause-database c = rw (← c.self.view_is) (is_database c.self.inside.number (is_same_time c.self.inside.mode) c.self.inside.limit (tables_of c.self.inside.tables.items) c.self.invariant)

pub returns-in-Some-clause-database : goal.returns-in-Some-clause-database
returns-in-Some-clause-database c = rw (← c.self.view_is) (is_database c.self.inside.number (is_same_time c.self.inside.mode) c.self.inside.limit (tables_of c.self.inside.tables.items) c.self.invariant)

pub returns-in-Some-clause-value : goal.returns-in-Some-clause-value
returns-in-Some-clause-value c =
    let there = rw c.deref.ensures.value at c.in-Some.ensures.lookup in
    rw (c.deref-in-Some.ensures, ← c.self.view_is)
    (shared-at c.self.inside.number (is_same_time c.self.inside.mode) c.self.inside.limit c.self.inside.tables.items c.args.table.0 c.in-Some.found.now c.self.invariant.members there.3.0 there.1)
