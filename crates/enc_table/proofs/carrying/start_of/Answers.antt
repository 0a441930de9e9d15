use Rattle.std.proofs.Common.{sym, ◌∙◌, arith}
use Rattle.column_index.proofs.Points.{below-length, starts_here}
use Rattle.enc_table.proofs.CodePlaces.{range_first}
use Rattle.enc_table.proofs.carrying.start_of.Goals as goal

pub returns-then-place-len : goal.returns-then-place-len
returns-then-place-len c = omega (arith, below-length c.args.code c.args.index.now.entries, c.len.ensures.count)

pub returns-then-entry-code : goal.returns-then-entry-code
returns-then-entry-code c = range_first c.args.code c.args.code _ c.range.result c.range.ensures.ends

pub returns : goal.returns
returns c = starts_here c.args.code c.args.index.now.entries c.args.place c.unwrap-entry.result c.len.ensures.ordered c.requires (sym c.unwrap-entry.ensures ∙ c.at.ensures) c.if-entry-code.false
