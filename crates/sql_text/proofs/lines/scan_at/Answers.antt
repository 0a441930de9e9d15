use Rattle.sql_text.proofs.Driving.{seen_step}
use Rattle.sql_text.proofs.lines.scan_at.Goals as goal

pub returns : goal.returns
returns c = seen_step c.args.line.now c.args.at c.scan_token.result c.requires.within c.requires.begins (rw c.split_at.ensures.back at c.scan_token.ensures.exact) c.scan_token.ensures.some (rw c.split_at.ensures.back at c.scan_token.ensures.within)
