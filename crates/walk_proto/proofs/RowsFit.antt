-- The bodies of Rows are counted in four bytes.
use Rattle.std.proofs.Common.{◌<◌, ◌^◌, ℕ, IsTrue}
use Rattle.std.proofs.lemmas.Bool.{and_parts, ltb-true}
use Rattle.walk_proto.specs.Rules.{is_rows}

pub rows_fit : (width count : ℕ) → IsTrue (is_rows width count) → count < 2 ^ 32
unfolding is_rows
rows_fit width count ok = ltb-true count (2 ^ 32) (and_parts _ _ ok).1
