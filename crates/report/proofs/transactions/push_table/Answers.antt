use Rattle.std.proofs.Common.{◌≤◌, ◌∙◌, ap, sym, List, [], ◌++◌, get_or, append-nil, arith}
use Rattle.workload.specs.declared.script.Decl.{Decl}
use Rattle.workload.specs.Report.{name_of}
use Rattle.report.proofs.Appends.{twice}
use Rattle.report.proofs.transactions.push_table.Goals as goal

-- what stands in the place of a table that isn't declared
abbrev undeclared : Decl
undeclared = record { name = record { bytes = [] }; columns = [] }

pub returns-in_ok-push_bytes-2 : goal.returns-in_ok-push_bytes-2
unfolding name_of
returns-in_ok-push_bytes-2 c =
    let within : c.args.table.0 ≤ c.args.table.0 = omega arith in
    let at = c.in-Some.ensures.lookup.4 within undeclared ∙ ap (λ (tables : List Decl). get_or tables c.args.table.0 undeclared) c.as_slice.ensures in
    twice _ _ _ c.in_ok-push_bytes.ensures c.in_ok-push_bytes-2.ensures
    ∙ ap (λ name. c.args.text.now.items ++ (c.args.word.now ++ name)) (c.as_slice-in-Some.ensures ∙ ap (λ (d : Decl). d.name.bytes) at)

pub returns-in_default : goal.returns-in_default
unfolding name_of
returns-in_default c =
    let within : c.args.table.0 ≤ c.args.table.0 = omega arith in
    let at = c.in_default.ensures.lookup.4 within undeclared ∙ ap (λ (tables : List Decl). get_or tables c.args.table.0 undeclared) c.as_slice.ensures in
    c.in_ok-push_bytes.ensures
    ∙ ap (λ l. c.args.text.now.items ++ l) (sym (append-nil c.args.word.now) ∙ ap (λ name. c.args.word.now ++ name) (ap (λ (d : Decl). d.name.bytes) at))
