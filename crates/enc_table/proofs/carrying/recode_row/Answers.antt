use Rattle.std.proofs.Common.{refl, sym, ◌∙◌, arith, Some, ◌<◌, length}
use Rattle.std.specs.Option.{IsSome}
use Rattle.std.specs.List.{slice_get}
use Rattle.std.proofs.lemmas.Option.{slice_get_within, slice_get-get_or}
use Rattle.enc_table.specs.declared.cell.Cell.{Cell}
use Rattle.enc_table.proofs.Marking.{marked-absent, set-read}
use Rattle.enc_table.proofs.carrying.recode_row.Goals as goal

pub returns-in_default : goal.returns-in_default
returns-in_default c = sym (marked-absent c.args.number c.args.code c.args.numbers.now c.args.cells.now c.in_default.ensures)

pub unwrap-cell-requires : goal.unwrap-cell-requires
unwrap-cell-requires c =
    let d : Cell = record { body = record { nonce = 0; masked = 0 }; code = 0 } in
    let lt = slice_get_within c.args.numbers.now c.in-Some.position c.args.number c.in-Some.ensures in
    let within : c.in-Some.position < length c.args.cells.now = omega (arith, lt, c.requires.many) in
    let found = c.cell_at.ensures ∙ slice_get-get_or c.args.cells.now c.in-Some.position d within in
    rw found refl

pub set-requires : goal.set-requires
set-requires c =
    let lt = slice_get_within c.args.numbers.now c.in-Some.position c.args.number c.in-Some.ensures in
    omega (arith, lt, c.requires.many)

pub returns-in-Ok : goal.returns-in-Ok
returns-in-Ok c =
    c.in-Ok.ensures.ok ∙ set-read c.args.number c.args.code c.args.numbers.now c.args.cells.now c.in-Some.position c.unwrap-cell.result c.requires.rise c.requires.many c.in-Some.ensures (sym c.cell_at.ensures ∙ c.unwrap-cell.ensures)
