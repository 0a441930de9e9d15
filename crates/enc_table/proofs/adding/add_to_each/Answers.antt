-- The column at the index is as it was at first, and takes the row; then one more column is done.
use Rattle.std.proofs.Common.{◌≡◌, ◌+◌, ◌<◌, List, [], ◌∷◌, ◌++◌, length, set, suc, ℕ, sym, ◌∙◌, subst, arith, add-one, ap}
use Rattle.enc_table.specs.declared.columns.Column.{Column as Stored}
use Rattle.path_code.specs.Sums.{Sum, sum_of}
use Rattle.tree_model.specs.Columns.{Add}
use Rattle.enc_table.specs.Stored.{stored_at}
use Rattle.enc_table.specs.Held.{FitsAdd, IsAdded}
use Rattle.enc_table.specs.Fields.{place_at, body_of}
use Rattle.enc_table.proofs.TableLists.{stored-read}
use Rattle.enc_table.proofs.TableAdding.{AddedTo, added-step, added-all, added-changes}
use Rattle.enc_table.proofs.adding.add_to_each.Goals as goal

pub add_row-requires : goal.add_row-requires
add_row-requires c =
    let so = c.columns.invariant.1 in
    let first = c.args.columns.now.items in
    let now = c.columns.columns.items in
    let at = c.columns.at in
    let h : at < length first = omega (arith, c.columns-test.true, c.columns.invariant.0) in
    let here : stored_at now at ≡ c.index_mut.result.now = stored-read now at c.index_mut.result.now (omega (arith, h, so.many)) c.index_mut.ensures.value in
    subst (FitsAdd c.args.numbers.now c.args.number (place_at c.args.places.now at)) (sym (so.rest at (omega arith)) ∙ here) (c.requires.fits.each at h)

pub columns-preserved : goal.columns-preserved
columns-preserved c =
    let so = c.columns.invariant.1 in
    let numbers = c.args.numbers.now in
    let number = c.args.number in
    let places = c.args.places.now in
    let bodies = c.args.bodies.now in
    let first = c.args.columns.now.items in
    let now = c.columns.columns.items in
    let at = c.columns.at in
    let h : at < length first = omega (arith, c.columns-test.true, c.columns.invariant.0) in
    let here : stored_at now at ≡ c.index_mut.result.now = stored-read now at c.index_mut.result.now (omega (arith, h, so.many)) c.index_mut.ensures.value in (
      c.columns.invariant.0,
      subst (λ (xs : List Sum). AddedTo numbers number places bodies first (set now at c.add_row.new.self) (at + 1) xs) (sym c.in-Ok-push.ensures.ok)
          (subst (λ (n : ℕ). AddedTo numbers number places bodies first (set now at c.add_row.new.self) n (c.columns.changes ++ c.in-Ok.change ∷ [])) (sym (add-one at))
          (added-step numbers number places bodies first now at c.columns.changes c.add_row.new.self c.in-Ok.change so c.requires.placed c.requires.wide h
          (λ same_time. subst (λ (b : Stored). IsAdded same_time numbers number (place_at places at) (body_of bodies at) b c.add_row.new.self) (sym here) (c.in-Ok.ensures.column same_time))
          (λ same_time. c.in-Ok.ensures.change same_time ∙ ap (λ (b : Stored). sum_of same_time (Add (place_at places at) (body_of bodies at) ∷ []) b.tree.column) (sym here)))),
    )

pub returns-clause-changes : goal.returns-clause-changes
returns-clause-changes c =
    let first = c.args.columns.now.items in
    let all : c.columns.at ≡ length first = omega (arith, c.columns-test.false, c.columns.auto.at-end, c.columns.invariant.0) in
    added-changes c.args.numbers.now c.args.number c.args.places.now c.args.bodies.now first c.columns.columns.items c.columns.changes
    (subst (λ (n : ℕ). AddedTo c.args.numbers.now c.args.number c.args.places.now c.args.bodies.now first c.columns.columns.items n c.columns.changes) all c.columns.invariant.1)
    c.requires.placed c.requires.wide
