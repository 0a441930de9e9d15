use Rattle.std.proofs.Common.{arith, Err, Ok}
use Rattle.workload_file.specs.FileLines.{lines_of}
use Rattle.workload_file.specs.declared.stops.FileReason.TheVariants as reason
use Rattle.workload_file.specs.declared.stops.FileStop.TheVariants.{Bad}
use Rattle.workload_file.proofs.ShapedRuns.{twin_file_shape}
use Rattle.workload_file.proofs.TwinOnce.{twins_complete}
use Rattle.workload_file.proofs.TwinVerdicts.{first_stops, first_valid, second_stops, second_valid, shapes_apart, too_long, twins_read}
use Rattle.workload_file.proofs.twin.read_twin.Goals as goal

pub returns-then-bytes-gt-BYTES_MOST-clause-fault : goal.returns-then-bytes-gt-BYTES_MOST-clause-fault
returns-then-bytes-gt-BYTES_MOST-clause-fault c = too_long c.args.bytes.now c.if-bytes-gt-BYTES_MOST.true

pub returns-then-bytes-gt-BYTES_MOST-clause-complete : goal.returns-then-bytes-gt-BYTES_MOST-clause-complete
returns-then-bytes-gt-BYTES_MOST-clause-complete c pair is =
    twins_complete c.args.bytes.now (Err (Bad 0 reason.InputTooLong)) tt (too_long c.args.bytes.now c.if-bytes-gt-BYTES_MOST.true) pair is

pub returns-in-None : goal.returns-in-None
returns-in-None c =
    let first = c.in-Ok.ensures.first in
    let leads = c.in-Ok-read_lines.ensures in
    let number = first.number_is in
    let read =
    twins_read c.args.bytes.now (lines_of c.in-Ok.read.1.now) c.in-Ok.read.0 c.in-Ok-read_lines.second c.in-Ok.read.2 c.in_ok-line.field-0 c.if-bytes-gt-BYTES_MOST.false first leads c.in_ok-line.ensures c.in-None.is in
    record {
      read = read;
      valid = (
        first_valid c.args.bytes.now (lines_of c.in-Ok.read.1.now) c.in-Ok.read.0 c.in-Ok.read.2 c.if-bytes-gt-BYTES_MOST.false first,
        second_valid c.args.bytes.now c.in-Ok.read.1.now c.in-Ok.read.2 c.in-Ok-read_lines.second c.if-bytes-gt-BYTES_MOST.false c.in-Ok.ensures.counted leads (omega (arith, number)),
      );
      shape = twin_file_shape c.args.bytes.now (c.in-Ok.read.0, c.in-Ok-read_lines.second) read;
      fault = tt;
      complete = λ pair is. twins_complete c.args.bytes.now (Ok (c.in-Ok.read.0, c.in-Ok-read_lines.second)) read tt pair is;
    }

pub returns-in-Some : goal.returns-in-Some
returns-in-Some c =
    let fault =
    shapes_apart c.args.bytes.now (lines_of c.in-Ok.read.1.now) c.in-Ok.read.0 c.in-Ok-read_lines.second c.in-Ok.read.2 c.in-Some.line c.in_ok-line.field-0 c.if-bytes-gt-BYTES_MOST.false c.in-Ok.ensures.first
    c.in-Ok-read_lines.ensures c.in_ok-line.ensures c.in-Some.is in
    record {
      read = tt;
      valid = tt;
      shape = tt;
      fault = fault;
      complete = λ pair is. twins_complete c.args.bytes.now (Err (Bad c.in-Some.line reason.ShapesDiffer)) tt fault pair is;
    }

pub returns-in-Err : goal.returns-in-Err
returns-in-Err c =
    let fault = first_stops c.args.bytes.now c.in-Err.stop c.if-bytes-gt-BYTES_MOST.false c.in-Err.ensures.stop in
    record { read = tt; valid = tt; shape = tt; fault = fault; complete = λ pair is. twins_complete c.args.bytes.now (Err c.in-Err.stop) tt fault pair is }

pub returns-in-Err-read_lines-clause-fault : goal.returns-in-Err-read_lines-clause-fault
returns-in-Err-read_lines-clause-fault c =
    second_stops c.args.bytes.now (lines_of c.in-Ok.read.1.now) c.in-Ok.read.0 c.in-Ok.read.2 c.read_lines.result c.in-Err-read_lines.stop c.if-bytes-gt-BYTES_MOST.false c.in-Ok.ensures.first c.read_lines.ensures
    c.in-Err-read_lines.is

pub returns-in-Err-read_lines-clause-complete : goal.returns-in-Err-read_lines-clause-complete
returns-in-Err-read_lines-clause-complete c pair is =
    twins_complete c.args.bytes.now (Err c.in-Err-read_lines.stop) tt
    (second_stops c.args.bytes.now (lines_of c.in-Ok.read.1.now) c.in-Ok.read.0 c.in-Ok.read.2 c.read_lines.result c.in-Err-read_lines.stop c.if-bytes-gt-BYTES_MOST.false c.in-Ok.ensures.first c.read_lines.ensures
    c.in-Err-read_lines.is)
    pair is
