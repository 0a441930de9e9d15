use Rattle.std.proofs.Common.{◌≡◌, ℕ, suc, ◌+◌, ◌<◌, ◌++◌, [], List, length, take, ap, ap₂, sym, ◌∙◌, subst, arith, add-one, zero-add, append_assoc, get_or}
use Rattle.std.proofs.lemmas.List.{append-nil}
use Rattle.std.proofs.Math.Seq.{take-length}
use Rattle.path_code.specs.Sums.{Sum, sum_of}
use Rattle.table_model.specs.Operations.{ops_steps, shelf_at}
use Rattle.table_model.specs.Soundness.{column_at}
use Rattle.enc_table.specs.Seen.{Seen}
use Rattle.versions.specs.declared.change.ColumnChange.{ColumnChange}
use Rattle.versions.specs.declared.draft.Logged.{Logged}
use Rattle.versions.specs.Changes.{listed, column_changes}
use Rattle.versions.specs.Databases.{table_at}
use Rattle.versions.specs.Operations.{rank_ops}
use Rattle.versions.specs.Summed.{AreInTurn, IsSummed, all_noted}
use Rattle.versions.proofs.Listed.{no-columns, columns-more}
use Rattle.versions.proofs.listing.push_changes.Goals as goal

pub columns-init : goal.columns-init
columns-init c =
    sym (ap (λ (l : List ColumnChange). c.args.changes.now.items ++ l) (no-columns c.args.version.now.same_time c.args.table.0 0 (ops_steps c.args.version.now.same_time c.args.table.0 (rank_ops c.args.ops.now) c.args.version.now.shelves))
    ∙ append-nil c.args.changes.now.items)

pub composed_log-requires : goal.composed_log-requires
unfolding table_at
composed_log-requires c =
    let found = rw c.unwrap-found.ensures at c.table.ensures.value in
    let width : length c.unwrap-found.result.now.shelf.columns ≡ length (shelf_at c.args.version.now.shelves c.args.table.0).columns = ap (λ (t : Seen). length t.shelf.columns) found in
    let within : c.columns.column < length (shelf_at c.args.version.now.shelves c.args.table.0).columns = omega (arith, c.columns-test.true, c.columns-column-end.ensures.value, width) in
    record { in_turn = subst (λ (log : List Logged). AreInTurn (all_noted log c.columns.column)) (sym c.deref.ensures.value) (record { same_time = c.args.version.now.same_time; column = column_at (shelf_at c.args.version.now.shelves c.args.table.0).columns c.columns.column; operations = get_or (ops_steps c.args.version.now.same_time c.args.table.0 (rank_ops c.args.ops.now) c.args.version.now.shelves) c.columns.column []; summed = c.requires.draft.summed c.columns.column within }) }

pub columns-preserved : goal.columns-preserved
unfolding table_at
columns-preserved c =
    let same_time = c.args.version.now.same_time in
    let table = c.args.table.0 in
    let cs = (shelf_at c.args.version.now.shelves table).columns in
    let steps = ops_steps same_time table (rank_ops c.args.ops.now) c.args.version.now.shelves in
    let column = c.columns.column in
    let found = rw c.unwrap-found.ensures at c.table.ensures.value in
    let width : length c.unwrap-found.result.now.shelf.columns ≡ length cs = ap (λ (t : Seen). length t.shelf.columns) found in
    let within : column < length cs = omega (arith, c.columns-test.true, c.columns-column-end.ensures.value, width) in
    let sum : c.in_ok-summary.summary ≡ sum_of same_time (get_or steps column []) (column_at cs column) =
    c.in_ok-summary.ensures same_time (column_at cs column) (get_or steps column []) (subst (λ (log : List Logged). IsSummed same_time (column_at cs column) (get_or steps column []) (all_noted log column)) (sym c.deref.ensures.value) (c.requires.draft.summed column within)) in
    let before = c.args.changes.now.items in
    let next : column + 1 ≡ suc column = add-one column in
    c.in_ok-push_change.ensures
    ∙ ap₂ (λ (l : List ColumnChange) (s : Sum). l ++ listed table column s []) c.columns.invariant sum
    ∙ append_assoc before (column_changes same_time table 0 steps (take column cs)) (listed table column (sum_of same_time (get_or steps column []) (column_at cs column)) [])
    ∙ ap (λ (l : List ColumnChange). before ++ l)
    (ap (λ (n : ℕ). column_changes same_time table 0 steps (take column cs) ++ listed table n (sum_of same_time (get_or steps column []) (column_at cs column)) []) (sym (zero-add column))
    ∙ sym (columns-more same_time table 0 steps cs column within)
    ∙ ap (λ (n : ℕ). column_changes same_time table 0 steps (take n cs)) (sym next))

pub returns : goal.returns
unfolding table_at
returns c =
    let cs = (shelf_at c.args.version.now.shelves c.args.table.0).columns in
    let steps = ops_steps c.args.version.now.same_time c.args.table.0 (rank_ops c.args.ops.now) c.args.version.now.shelves in
    let found = rw c.unwrap-found.ensures at c.table.ensures.value in
    let width : length c.unwrap-found.result.now.shelf.columns ≡ length cs = ap (λ (t : Seen). length t.shelf.columns) found in
    let all : c.columns.column ≡ length cs = omega (arith, c.columns-test.false, c.columns.auto, c.columns-column-end.ensures.value, width) in
    c.columns.invariant
    ∙ ap (λ (l : List _). c.args.changes.now.items ++ column_changes c.args.version.now.same_time c.args.table.0 0 steps l) (ap (λ (n : ℕ). take n cs) all ∙ take-length cs)
