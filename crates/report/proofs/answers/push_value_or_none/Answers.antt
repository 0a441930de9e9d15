use Rattle.std.proofs.Common.{◌∙◌, ap, sym, ◌++◌, ◌∷◌, [], append_assoc}
use Rattle.std.specs.Fmt.{decimal}
use Rattle.workload.specs.Report.{line, value_or_none, value_text}
use Rattle.report.proofs.Appends.{twice}
use Rattle.report.proofs.answers.push_value_or_none.Goals as goal

pub returns-in_ok-push_numbered_line-in-Some : goal.returns-in_ok-push_numbered_line-in-Some
unfolding line value_or_none value_text
returns-in_ok-push_numbered_line-in-Some c =
    rw c.in-Some.is (
    twice _ _ _ c.in_ok-push_bytes.ensures c.in_ok-push_numbered_line-in-Some.ensures
    ∙ ap (λ l. c.args.text.now.items ++ l) (sym (append_assoc c.args.word.now (32 ∷ decimal c.in-Some.value) (10 ∷ []))))

pub returns-in_ok-push_bytes-in-None : goal.returns-in_ok-push_bytes-in-None
unfolding line value_or_none
returns-in_ok-push_bytes-in-None c =
    rw c.in-None.is (
    twice _ _ _ c.in_ok-push_bytes.ensures c.in_ok-push_bytes-in-None.ensures
    ∙ ap (λ l. c.args.text.now.items ++ l) (sym (append_assoc c.args.word.now (32 ∷ 110 ∷ 111 ∷ 110 ∷ 101 ∷ []) (10 ∷ []))))
