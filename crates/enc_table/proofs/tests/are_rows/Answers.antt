-- Each has a position.
use Rattle.std.proofs.Common.{◌≡◌, ◌<◌, ◌+◌, ℕ, true, get_or, inl, inr, sym, subst, arith}
use Rattle.std.proofs.lemmas.Bool.{cases_eq}
use Rattle.tree_model.specs.Places.{holds}
use Rattle.table_model.specs.Soundness.{kept_numbers}
use Rattle.enc_table.proofs.TableTests.{among-each, found-holds}
use Rattle.enc_table.proofs.tests.are_rows.Goals as goal

pub rows-preserved : goal.rows-preserved
rows-preserved c = λ k h.
    elim (cases_eq k c.rows.at) [
      | inl e ↦ subst (λ (j : ℕ). holds (get_or c.args.rows.now j 0) (kept_numbers c.args.table.now.shelf.kept) ≡ true) (sym e) (found-holds _ _ _ c.in-Some.ensures)
      | inr ne ↦ c.rows.invariant k (omega (arith, h, ne))
    ]

pub returns : goal.returns
returns c = λ _. among-each (kept_numbers c.args.table.now.shelf.kept) c.args.rows.now (λ i h. c.rows.invariant i (omega (arith, h, c.rows-test.false)))
