use Rattle.std.proofs.Common.{Err}
use Rattle.workload_file.specs.declared.stops.FileReason.TheVariants as reason
use Rattle.workload_file.specs.declared.stops.FileStop.TheVariants.{Bad}
use Rattle.workload_file.proofs.FileLemmas.{given_read, given_fault, too_long}
use Rattle.workload_file.proofs.OneVerdict.{read_complete}
use Rattle.workload_file.proofs.ValidSteps.{given_valid}
use Rattle.workload_file.proofs.reading.read_workload.Goals as goal

pub returns-then-bytes-gt-BYTES_MOST-clause-fault : goal.returns-then-bytes-gt-BYTES_MOST-clause-fault
returns-then-bytes-gt-BYTES_MOST-clause-fault c = too_long c.args.bytes.now c.if-bytes-gt-BYTES_MOST.true

pub returns-clause-read : goal.returns-clause-read
returns-clause-read c = given_read c.args.bytes.now c.read_lines.result c.if-bytes-gt-BYTES_MOST.false c.read_lines.ensures

pub returns-clause-fault : goal.returns-clause-fault
returns-clause-fault c = given_fault c.args.bytes.now c.read_lines.result c.if-bytes-gt-BYTES_MOST.false c.read_lines.ensures

pub returns-clause-valid : goal.returns-clause-valid
returns-clause-valid c = given_valid c.args.bytes.now c.read_lines.result c.if-bytes-gt-BYTES_MOST.false c.read_lines.ensures

pub returns-then-bytes-gt-BYTES_MOST-clause-complete : goal.returns-then-bytes-gt-BYTES_MOST-clause-complete
returns-then-bytes-gt-BYTES_MOST-clause-complete c w is = read_complete c.args.bytes.now (Err (Bad 0 reason.InputTooLong)) tt (too_long c.args.bytes.now c.if-bytes-gt-BYTES_MOST.true) w is

pub returns-clause-complete : goal.returns-clause-complete
returns-clause-complete c w is =
    read_complete c.args.bytes.now c.read_lines.result (given_read c.args.bytes.now c.read_lines.result c.if-bytes-gt-BYTES_MOST.false c.read_lines.ensures)
    (given_fault c.args.bytes.now c.read_lines.result c.if-bytes-gt-BYTES_MOST.false c.read_lines.ensures) w is
