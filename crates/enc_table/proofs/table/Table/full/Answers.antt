-- The rows and the limit, the next number and 2^63.
use Rattle.std.proofs.Common.{◌≡◌, ◌≤◌, length, ap, inl, inr, arith}
use Rattle.std.proofs.lemmas.Bool.{le-leb, leb-true}
use Rattle.enc_table.specs.Seen.{Seen}
use Rattle.enc_table.proofs.TableSeen.{many-seen, next-seen}
use Rattle.enc_table.proofs.table.Table.full.Goals as goal

pub returns-then-self-len : goal.returns-then-self-len
returns-then-self-len c =
    let many : length c.self.inside.rows.numbers ≡ length c.args.self.now.shelf.kept = many-seen _ _ _ _ _ _ _ _ c.self.invariant c.self.view_is in
    let limit : c.self.inside.limit ≡ c.args.self.now.limit = ap (λ (u : Seen). u.limit) c.self.view_is in
    (λ _. inl (omega (arith, c.if-self-len.true, c.len.ensures, many, limit)), λ _. le-leb c.self.inside.limit c.len.result c.if-self-len.true)

pub returns-else-self-len : goal.returns-else-self-len
returns-else-self-len c =
    let many : length c.self.inside.rows.numbers ≡ length c.args.self.now.shelf.kept = many-seen _ _ _ _ _ _ _ _ c.self.invariant c.self.view_is in
    let limit : c.self.inside.limit ≡ c.args.self.now.limit = ap (λ (u : Seen). u.limit) c.self.view_is in
    let next : c.self.inside.next ≡ c.args.self.now.shelf.next = next-seen _ _ _ _ _ _ _ _ c.self.view_is in (
      λ h. inr (omega (arith, leb-true 9223372036854775808 c.self.inside.next h, next)),
      λ full. elim full [ inl few ↦ absurd (omega (arith, few, c.if-self-len.false, c.len.ensures, many, limit)) | inr big ↦ le-leb 9223372036854775808 c.self.inside.next (omega (arith, big, next)) ],
    )
