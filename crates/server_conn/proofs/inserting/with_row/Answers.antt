-- There is room, so the table isn't full.
use Rattle.std.proofs.Common.{◌∙◌, Err, ap, arith, inl, inr}
use Rattle.server_conn.proofs.inserting.with_row.Goals as goal

pub insert_row-requires-clause-placed : goal.insert_row-requires-clause-placed
insert_row-requires-clause-placed c = c.requires.placed

pub insert_row-requires-clause-wide : goal.insert_row-requires-clause-wide
insert_row-requires-clause-wide c = c.requires.wide

pub unreachable-requires : goal.unreachable-requires
unreachable-requires c =
    elim (c.insert_row.ensures.full.0 (c.in-Err-Full.is ∙ ap Err c.in-Err-Full.field-0-is)) [ inl few ↦ omega (arith, few, c.requires.room) | inr last ↦ omega (arith, last, c.requires.number) ]

pub unreachable-unreachable : goal.unreachable-unreachable
unreachable-unreachable c =
    elim (c.insert_row.ensures.full.0 (c.in-Err-Full.is ∙ ap Err c.in-Err-Full.field-0-is)) [ inl few ↦ omega (arith, few, c.requires.room) | inr last ↦ omega (arith, last, c.requires.number) ]

pub returns-in-Ok-clause-table : goal.returns-in-Ok-clause-table
returns-in-Ok-clause-table c = c.in-Ok.ensures.table

pub returns-in-Ok-clause-sound : goal.returns-in-Ok-clause-sound
returns-in-Ok-clause-sound c = c.columns-columns.ensures.table
