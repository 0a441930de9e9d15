use Rattle.std.proofs.Common.{◌≡◌, ◌++◌, drop}
use Rattle.code_changes.specs.Compositions.{applied_both, moved_by, dropped_by}
use Rattle.summary.proofs.carrying.parts_of.Given as goal

abbrev pub invariant-codes : goal.invariant-codes
invariant-codes l =
    (l.moved.items ++ moved_by (applied_both l.change l.next) (drop l.at l.codes) ≡ moved_by (applied_both l.change l.next) l.codes)
    × (l.dropped.items ++ dropped_by (applied_both l.change l.next) (drop l.at l.codes) ≡ dropped_by (applied_both l.change l.next) l.codes)
