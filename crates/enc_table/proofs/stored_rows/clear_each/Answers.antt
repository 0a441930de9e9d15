-- One more column is empty; at the end all are.
use Rattle.std.proofs.Common.{◌≡◌, ◌<◌, ℕ, length, arith, ◌∙◌}
use Rattle.std.proofs.lemmas.List.{length-set}
use Rattle.enc_table.specs.declared.columns.Column.{Column as Stored}
use Rattle.enc_table.specs.Stored.{no_column}
use Rattle.enc_table.proofs.TableLists.{done-step}
use Rattle.enc_table.proofs.TableMaking.{all-none}
use Rattle.enc_table.proofs.stored_rows.clear_each.Goals as goal

pub columns-preserved : goal.columns-preserved
columns-preserved c =
    let now = c.columns.columns.items in
    let at = c.columns.at in
    let so = c.columns.invariant in
    let h : at < length now = omega (arith, c.columns-test.true, so.0, so.1.0) in (
      so.0,
      (
        length-set now at c.new.result ∙ so.1.0,
        λ k below. done-step (λ (j : ℕ) (d : Stored). d ≡ no_column) now at c.new.result h so.1.1 c.new.ensures k (omega (arith, below)),
      ),
    )

pub returns : goal.returns
returns c =
    let first = c.args.columns.now.items in
    all-none c.columns.columns.items (length first) c.columns.invariant.1.0 (λ k h. c.columns.invariant.1.1 k (omega (arith, h, c.columns-test.false, c.columns.invariant.0)))
