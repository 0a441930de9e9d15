use Rattle.std.proofs.Common.{◌≡◌, ◌++◌, take}
use Rattle.std.specs.List.{flat_map}
use Rattle.walk_proto.specs.Spelling.{cond_bytes}
use Rattle.walk_proto.proofs.writing.put_conds.Given as goal

abbrev pub invariant-conds : goal.invariant-conds
invariant-conds l = l.out.items ≡ l.initial.out.items ++ flat_map cond_bytes (take l.column-index l.conds)
