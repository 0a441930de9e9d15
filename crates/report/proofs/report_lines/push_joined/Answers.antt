use Rattle.std.proofs.Common.{ap, sym, ◌∙◌, ◌++◌, List, append-nil}
use Rattle.std.proofs.lemmas.List.{nil_from_length}
use Rattle.mope_base.specs.declared.numbers.SessionNo.{SessionNo}
use Rattle.workload.specs.Report.{joined}
use Rattle.report.proofs.Appends.{twice}
use Rattle.report.proofs.report_lines.push_joined.Goals as goal

pub returns-in_ok-push_after_commas-in-Some : goal.returns-in_ok-push_after_commas-in-Some
unfolding joined
returns-in_ok-push_after_commas-in-Some c =
    twice _ _ _ c.in_ok-push_number-in-Some.ensures c.in_ok-push_after_commas-in-Some.ensures
    ∙ ap (λ (s : List SessionNo). c.args.text.now.items ++ joined s) (sym c.in-Some.ensures.cases.0)

pub returns-in-None : goal.returns-in-None
unfolding joined
returns-in-None c =
    sym (append-nil c.args.text.now.items) ∙ ap (λ (s : List SessionNo). c.args.text.now.items ++ joined s) (sym (nil_from_length c.args.sessions.now c.in-None.ensures.cases))
