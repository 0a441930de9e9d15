use Rattle.std.proofs.Common.{ℕ, ◌+◌, ◌-◌, ◌≡◌, take, drop, ap, ◌∙◌, arith}
use Rattle.versions.proofs.Notes.{one_at-take, one_at-past}
use Rattle.versions.proofs.draft.one_at.Goals as goal

pub returns-then-place-changes : goal.returns-then-place-changes
returns-then-place-changes c =
    let one : c.args.place + 1 - c.args.place ≡ 1 = omega arith in
    ap (λ (n : ℕ). take n (drop c.args.place c.args.changes.now)) one ∙ one_at-take c.args.changes.now c.args.place

pub returns-else-place-changes : goal.returns-else-place-changes
returns-else-place-changes c = one_at-past c.args.changes.now c.args.place c.if-place-changes.false
