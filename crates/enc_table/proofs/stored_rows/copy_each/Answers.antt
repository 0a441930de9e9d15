-- One more column has its copy.
use Rattle.std.proofs.Common.{◌≡◌, ◌+◌, ◌<◌, List, [], ◌∷◌, ◌++◌, ℕ, length, arith, add-one, sym, subst}
use Rattle.enc_table.specs.declared.columns.Column.{Column as Stored}
use Rattle.enc_table.specs.Stored.{stored_at, bodies_in, ranks_in}
use Rattle.enc_table.specs.Held.{IsHeld, HasBecome}
use Rattle.enc_table.proofs.TableLists.{stored-read}
use Rattle.enc_table.proofs.TableMaking.{CopiedTo, copied-step}
use Rattle.enc_table.proofs.stored_rows.copy_each.Goals as goal

pub columns-preserved : goal.columns-preserved
columns-preserved c =
    let numbers = c.args.numbers.now in
    let first = c.args.columns.now in
    let copy = c.columns.copy.items in
    let at = c.columns.column-index in
    let one = c.in_ok-copy.field-0 in
    let h : at < length first = c.columns-test.true in
    let here : stored_at first at ≡ c.column-item.result = stored-read first at c.column-item.result h c.column-item.is in
    subst (λ (xs : List Stored). CopiedTo numbers first xs (at + 1)) (sym c.in_ok-push.ensures.items)
    (subst (CopiedTo numbers first (copy ++ one ∷ [])) (sym (add-one at))
    (copied-step numbers first copy at one c.columns.invariant
    (subst (λ (b : Stored). HasBecome numbers b.tree.column (bodies_in b) (ranks_in b) one) (sym here)
    (c.in_ok-copy.ensures numbers (subst (IsHeld numbers) here (c.requires.each at h))))))
