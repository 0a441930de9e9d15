use Rattle.std.proofs.Common.{sym, subst, ◌∙◌, ℕ, List}
use Rattle.workload_file.specs.WorkloadFile.{IsWorkloadFile}
use Rattle.mope_top.proofs.Summaries.{never-bad}
use Rattle.mope_top.proofs.summing.text_of_drawing.Goals as goal

pub unreachable-requires : goal.unreachable-requires
unreachable-requires c =
    never-bad c.args.drawing c.in_ok-text.text c.in-Err-Bad.field-0-0 c.in-Err-Bad.field-0-1 c.requires.1 c.requires.3 c.in_ok-text.ensures
    (λ w file. sym c.in-Err-Bad.field-0-is ∙ c.in-Err-Bad.ensures.complete w (subst (λ (l : List ℕ). IsWorkloadFile l w) (sym c.as_slice.ensures) file))
