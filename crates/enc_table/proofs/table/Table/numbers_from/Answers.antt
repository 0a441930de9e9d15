-- The numbers of the shelf's rows are the stored ones.
use Rattle.std.proofs.Common.{◌≡◌, ◌<◌, ℕ, List, length, take, drop, ap, ◌∙◌, arith}
use Rattle.enc_table.proofs.TableSeen.{numbers-seen, many-seen}
use Rattle.enc_table.proofs.table.Table.numbers_from.Goals as goal

pub returns-clause-run : goal.returns-clause-run
returns-clause-run c =
    c.run_at.ensures.run ∙ ap (λ (ns : List ℕ). take (length c.run_at.result.now) (drop c.args.position ns)) (numbers-seen _ _ _ _ _ _ _ _ c.self.invariant c.self.view_is)

pub returns-clause-some : goal.returns-clause-some
returns-clause-some c = λ h.
    let many : length c.self.inside.rows.numbers ≡ length c.args.self.now.shelf.kept = many-seen _ _ _ _ _ _ _ _ c.self.invariant c.self.view_is in
    c.run_at.ensures.some (omega (arith, h, many))
