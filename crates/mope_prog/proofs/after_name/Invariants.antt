-- What was taken, and what is left.
use Rattle.std.proofs.Common.{◌≡◌, ◌++◌}
use Rattle.std.specs.Vec.Iter.{into_iter_items, into_iter_len}
use Rattle.mope_prog.proofs.after_name.Given as goal

abbrev pub invariant-words : goal.invariant-words
invariant-words l = l.words.items ++ into_iter_items l.rest ≡ into_iter_items l.initial.rest

abbrev pub decreases-words : goal.decreases-words
decreases-words l = into_iter_len l.rest
