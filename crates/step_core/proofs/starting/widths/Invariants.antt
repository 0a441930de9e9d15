use Rattle.std.proofs.Common.{◌≡◌, length, map, take}
use Rattle.workload.specs.declared.script.Decl.{Decl}
use Rattle.step_core.proofs.starting.widths.Given as goal

-- the widths of the tables so far
abbrev pub invariant-tables : goal.invariant-tables
invariant-tables l = l.widths.items ≡ map (λ (d : Decl). length d.columns) (take l.i l.tables)
