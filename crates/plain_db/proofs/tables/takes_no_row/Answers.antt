use Rattle.std.proofs.Common.{refl, sym, length}
use Rattle.std.proofs.lemmas.Bool.{le-leb, lt-leb}
use Rattle.workload.specs.PlainDatabase.{is_full}
use Rattle.plain_db.proofs.tables.takes_no_row.Goals as goal

pub returns-then-as_slice-ge-ROW_LIMIT : goal.returns-then-as_slice-ge-ROW_LIMIT
unfolding is_full
returns-then-as_slice-ge-ROW_LIMIT c =
    rw (sym c.as_slice.ensures, le-leb 65536 (length c.as_slice.result.now) c.if-as_slice-ge-ROW_LIMIT.true) refl

pub returns-else-as_slice-ge-ROW_LIMIT : goal.returns-else-as_slice-ge-ROW_LIMIT
unfolding is_full
returns-else-as_slice-ge-ROW_LIMIT c =
    rw (sym c.as_slice.ensures, lt-leb 65536 (length c.as_slice.result.now) c.if-as_slice-ge-ROW_LIMIT.false) refl
