use Rattle.std.proofs.Common.{◌≡◌, sym, ◌∙◌, subst, length, false, rules, arith}
use Rattle.workload_file.specs.FileLines.{lines_of}
use Rattle.workload_file.specs.Steps.{stage_ended}
use Rattle.workload_file.specs.WorkloadFile.{NextLine}
use Rattle.workload_file.specs.declared.reader.Reader.{Reader}
use Rattle.workload_file.proofs.TwinReading.{Reads, first_fault, first_read, first_runs_out, never_stops, no_lines, not_yet, reads_on, reads_start}
use Rattle.workload_file.proofs.twin.read_first.Goals as goal

pub lines-init : goal.lines-init
lines-init c = record {
  counted = omega arith;
  reads = subst (λ (r : Reader). Reads (lines_of c.args.bytes.now) 1 r (lines_of c.args.bytes.now)) (sym c.start-reader.ensures) (reads_start (lines_of c.args.bytes.now));
  not_ended = subst (λ (r : Reader). stage_ended r.stage ≡ false) (sym c.start-reader.ensures) not_yet;
}

pub lines-preserved : goal.lines-preserved
lines-preserved c = record {
  counted = omega (arith, c.lines.invariant.counted, c.first_line.ensures.shorter);
  reads =
      reads_on (lines_of c.args.bytes.now) c.lines.number c.lines.reader c.in-Ok.next (lines_of c.lines.rest.now) (lines_of c.first_line.result.1.now) c.first_line.result.0.now c.first_line.ensures.cut c.lines.invariant.reads
      (subst (λ next. NextLine c.lines.reader c.first_line.result.0.now next) c.in-Ok.is c.in_ok-next.ensures);
  not_ended = sym c.has_ended.ensures ∙ c.if-has_ended.false;
}

pub returns-in-Err : goal.returns-in-Err
returns-in-Err c = record {
  first = tt;
  counted = tt;
  stop =
      first_fault (lines_of c.args.bytes.now) c.lines.number c.lines.reader (lines_of c.lines.rest.now) (lines_of c.first_line.result.1.now) c.first_line.result.0.now c.in-Err.reason c.first_line.ensures.cut
      c.lines.invariant.reads c.lines.invariant.not_ended (subst (λ next. NextLine c.lines.reader c.first_line.result.0.now next) c.in-Err.is c.in_ok-next.ensures);
}

pub returns : goal.returns
returns c = record {
  first = tt;
  counted = tt;
  stop =
      (let none : length c.lines.rest.now ≡ 0 = search rules in
      first_runs_out (lines_of c.args.bytes.now) c.lines.number c.lines.reader (lines_of c.lines.rest.now) (no_lines c.lines.rest.now none) c.lines.invariant.reads c.lines.invariant.not_ended);
}

pub returns-then-has_ended : goal.returns-then-has_ended
returns-then-has_ended c = record {
  first =
      first_read (lines_of c.args.bytes.now) c.lines.number c.lines.reader c.in-Ok.next (lines_of c.lines.rest.now) (lines_of c.first_line.result.1.now) c.first_line.result.0.now c.in_ok-first.first c.first_line.ensures.cut
      c.lines.invariant.reads c.lines.invariant.not_ended (subst (λ next. NextLine c.lines.reader c.first_line.result.0.now next) c.in-Ok.is c.in_ok-next.ensures)
      (sym c.has_ended.ensures ∙ c.if-has_ended.true) (sym c.in_ok-first.was ∙ c.ended.ensures);
  counted = omega (arith, c.lines.invariant.counted, c.first_line.ensures.shorter);
  stop = tt;
}

pub returns-in_err-first-clause-stop : goal.returns-in_err-first-clause-stop
returns-in_err-first-clause-stop c =
    absurd (never_stops c.in-Ok.next.stage _ _ c.ended.result _ (sym c.has_ended.ensures ∙ c.if-has_ended.true) c.ended.ensures c.in_err-first.was)
