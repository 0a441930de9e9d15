use Rattle.std.proofs.Common.{◌≡◌, ◌≤◌, ◌∙◌, ap, sym, List, [], ◌++◌, get_or, append-nil, arith}
use Rattle.mope_base.specs.declared.numbers.ColNo.{ColNo}
use Rattle.sql_text.specs.declared.Name.{Name}
use Rattle.workload.specs.declared.script.Decl.{Decl}
use Rattle.report.specs.ViewText.{column_of}
use Rattle.report.proofs.changes.push_column_of.Goals as goal

-- what stands in the place of a column that isn't declared
abbrev unnamed : Name
unnamed = record { bytes = [] }

found : (d : Decl) (column : ColNo) (name : Name) → name ≡ get_or d.columns column.0 unnamed → column_of d column ≡ name.bytes
unfolding column_of
found d column name e = sym (ap (λ (n : Name). n.bytes) e)

pub returns-in-Some : goal.returns-in-Some
returns-in-Some c =
    let within : c.args.column.0 ≤ c.args.column.0 = omega arith in
    let at = c.in-Some.ensures.lookup.4 within unnamed ∙ ap (λ (names : List Name). get_or names c.args.column.0 unnamed) c.as_slice.ensures in
    rw (found c.args.declared.now c.args.column c.in-Some.name.now at) (rw c.as_slice-in-Some.ensures at c.push_bytes.ensures)

pub returns-in-None : goal.returns-in-None
unfolding column_of
returns-in-None c =
    let within : c.args.column.0 ≤ c.args.column.0 = omega arith in
    let at = c.in-None.ensures.lookup.4 within unnamed ∙ ap (λ (names : List Name). get_or names c.args.column.0 unnamed) c.as_slice.ensures in
    sym (append-nil c.args.text.now.items) ∙ ap (λ l. c.args.text.now.items ++ l) (ap (λ (n : Name). n.bytes) at)
