use Rattle.std.proofs.Common.{◌≡◌, ◌≤◌, ◌+◌, ◌*◌, map, drop}
use Rattle.sql_text.specs.Grammar.{cond_tokens}
use Rattle.sql_text.specs.Marked.{marked_len}
use Rattle.sql_text.proofs.ninth.marked_size.Given as goal

abbrev pub invariant-loop-cond : goal.invariant-loop-cond
invariant-loop-cond l = record { size : l.size + marked_len (map cond_tokens (drop l.cond-index l.conds)) ≡ marked_len (map cond_tokens l.conds); few : l.size ≤ 6 * l.cond-index }
