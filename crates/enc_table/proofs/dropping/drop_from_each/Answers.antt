-- The column at the index is as it was at first, and loses the row; then one more column is done.
use Rattle.std.proofs.Common.{◌≡◌, ◌+◌, ◌<◌, List, [], ◌∷◌, ◌++◌, length, get_or, set, ℕ, sym, ◌∙◌, subst, arith, add-one, ap, ap₂}
use Rattle.mope_base.specs.Modes.{is_same_time}
use Rattle.path_code.specs.Sums.{Sum}
use Rattle.enc_table.specs.declared.columns.Column.{Column as Stored}
use Rattle.enc_table.specs.Stored.{stored_at}
use Rattle.enc_table.specs.Held.{FitsDrop, IsDropped}
use Rattle.enc_table.proofs.TableLists.{stored-read, list-read}
use Rattle.enc_table.proofs.TableDropping.{DroppedTo, drop_sum, dropped-step, dropped-changes}
use Rattle.enc_table.proofs.dropping.drop_from_each.Goals as goal

pub drop_row-requires : goal.drop_row-requires
drop_row-requires c =
    let so = c.columns.invariant.1 in
    let first = c.args.columns.now.items in
    let now = c.columns.columns.items in
    let at = c.columns.at in
    let h : at < length first = omega (arith, c.columns-test.true, c.columns.invariant.0) in
    let here : stored_at now at ≡ c.index_mut.result.now = stored-read now at c.index_mut.result.now (omega (arith, h, so.many)) c.index_mut.ensures.value in
    subst (FitsDrop (is_same_time c.args.mode) c.args.numbers.now c.args.position c.args.number) (sym (so.rest at (omega arith)) ∙ here) (c.requires.fits.each at h)

pub columns-preserved : goal.columns-preserved
columns-preserved c =
    let so = c.columns.invariant.1 in
    let same_time = is_same_time c.args.mode in
    let numbers = c.args.numbers.now in
    let position = c.args.position in
    let first = c.args.columns.now.items in
    let now = c.columns.columns.items in
    let lists = c.args.changes.now.items in
    let changes = c.columns.changes.items in
    let at = c.columns.at in
    let h : at < length first = omega (arith, c.columns-test.true, c.columns.invariant.0) in
    let k : at < length lists = omega (arith, h, c.requires.wide) in
    let here : stored_at now at ≡ c.index_mut.result.now = stored-read now at c.index_mut.result.now (omega (arith, h, so.many)) c.index_mut.ensures.value in
    let list : get_or changes at [] ≡ c.index_mut-in-Ok.result.now = list-read changes at c.index_mut-in-Ok.result.now [] (omega (arith, k, so.wide)) c.index_mut-in-Ok.ensures.value in (
      c.columns.invariant.0,
      subst (λ (n : ℕ). DroppedTo same_time numbers position first (set now at c.drop_row.new.self) n lists (set changes at c.push.new.self)) (sym (add-one at))
          (dropped-step same_time numbers position first now at lists changes c.drop_row.new.self c.push.new.self so h k
          (subst (λ (b : Stored). IsDropped same_time numbers position b c.drop_row.new.self) (sym here) c.in-Ok.ensures.column)
          (c.in-Ok-push.ensures.ok ∙ ap₂ (λ (xs : List Sum) (s : Sum). xs ++ s ∷ []) (sym list) (c.in-Ok.ensures.change ∙ ap (drop_sum same_time position) (sym here)))),
    )

pub returns-clause-changes : goal.returns-clause-changes
returns-clause-changes c =
    let first = c.args.columns.now.items in
    let all : c.columns.at ≡ length first = omega (arith, c.columns-test.false, c.columns.auto.at-end, c.columns.invariant.0) in
    dropped-changes (is_same_time c.args.mode) c.args.numbers.now c.args.position first c.columns.columns.items c.args.changes.now.items c.columns.changes.items
    (subst (λ (n : ℕ). DroppedTo (is_same_time c.args.mode) c.args.numbers.now c.args.position first c.columns.columns.items n c.args.changes.now.items c.columns.changes.items) all c.columns.invariant.1)
    c.requires.wide
