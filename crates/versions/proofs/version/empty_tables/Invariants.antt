use Rattle.std.proofs.Common.{◌≡◌, map, take}
use Rattle.mope_base.specs.Modes.{is_same_time}
use Rattle.enc_table.specs.Seen.{new_table}
use Rattle.versions.specs.Inside.{tables_of}
use Rattle.versions.proofs.version.empty_tables.Given as goal

abbrev pub invariant-tables : goal.invariant-tables
invariant-tables l = tables_of l.tables.items ≡ map (λ width. new_table width (is_same_time l.mode) l.limit) (take l.width-index l.columns)
