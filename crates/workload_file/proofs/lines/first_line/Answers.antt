use Rattle.workload_file.proofs.FileLemmas.{cut_given}
use Rattle.workload_file.proofs.lines.first_line.Goals as goal

pub returns-clause-cut : goal.returns-clause-cut
returns-clause-cut c =
    cut_given c.args.bytes.now c.split_at.result.0.now c.split_at.result.1.now c.behind_first.result.now c.line_size.result
    c.requires c.line_size.ensures.size c.split_at.ensures.front c.split_at.ensures.back c.behind_first.ensures
