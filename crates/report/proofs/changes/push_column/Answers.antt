use Rattle.std.proofs.Common.{◌≡◌, ◌≤◌, ◌∙◌, ap, sym, List, [], ◌++◌, get_or, append-nil, arith}
use Rattle.mope_base.specs.declared.numbers.ColNo.{ColNo}
use Rattle.mope_base.specs.declared.numbers.TableNo.{TableNo}
use Rattle.workload.specs.declared.script.Decl.{Decl}
use Rattle.workload.specs.declared.script.Workload.{Workload}
use Rattle.report.specs.ViewText.{column_name, column_of}
use Rattle.report.proofs.changes.push_column.Goals as goal

-- what stands in the place of a table that isn't declared
abbrev undeclared : Decl
undeclared = record { name = record { bytes = [] }; columns = [] }

found : (w : Workload) (table : TableNo) (column : ColNo) (d : Decl) → d ≡ get_or w.tables table.0 undeclared → column_name w table column ≡ column_of d column
unfolding column_name
found w table column d e = sym (ap (λ (known : Decl). column_of known column) e)

pub returns-in-Some : goal.returns-in-Some
returns-in-Some c =
    let within : c.args.table.0 ≤ c.args.table.0 = omega arith in
    let at = c.in-Some.ensures.lookup.4 within undeclared ∙ ap (λ (tables : List Decl). get_or tables c.args.table.0 undeclared) c.as_slice.ensures in
    rw (found c.args.w.now c.args.table c.args.column c.in-Some.declared.now at) c.push_column_of.ensures

pub returns-in-None : goal.returns-in-None
unfolding column_name column_of
returns-in-None c =
    let within : c.args.table.0 ≤ c.args.table.0 = omega arith in
    let at = c.in-None.ensures.lookup.4 within undeclared ∙ ap (λ (tables : List Decl). get_or tables c.args.table.0 undeclared) c.as_slice.ensures in
    sym (append-nil c.args.text.now.items) ∙ ap (λ (d : Decl). c.args.text.now.items ++ column_of d c.args.column) at
