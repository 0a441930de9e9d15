use Rattle.std.proofs.Common.{◌∙◌, ap, None}
use Rattle.workload.specs.Run.{run, turns_taken}
use Rattle.report.specs.WholeText.{text_of}
use Rattle.report.proofs.ReportLaws.{plain_text-report}
use Rattle.mope_top.proofs.plain.plain_text.Goals as goal

pub returns : goal.returns
returns c =
    c.in_ok-text.ensures
    ∙ ap (λ l. text_of c.args.w.now l c.as_slice-2.result.now None) (c.as_slice.ensures ∙ c.in_ok-taken.ensures.turns)
    ∙ ap (λ l. text_of c.args.w.now (turns_taken (run c.args.w.now c.args.turns.now)) l None) (c.as_slice-2.ensures ∙ c.in_ok-taken.ensures.history)
    ∙ plain_text-report c.args.w.now c.args.turns.now
