use Rattle.std.proofs.Common.{◌≡◌, length, subst, rules, arith}
use Rattle.workload_file.proofs.FileLemmas.{leads_end, leads_on, leads_wrong, told_of}
use Rattle.workload_file.specs.Steps.{start}
use Rattle.workload_file.specs.WorkloadFile.{NextLine, Leads, lines_of}
use Rattle.workload_file.proofs.reading.read_lines.Goals as goal

pub returns-in-Err : goal.returns-in-Err
returns-in-Err c =
    c.lines.invariant.same _
    (leads_wrong c.lines.number c.lines.reader c.in-Err.reason c.lines.rest.now c.first_line.result.0.now c.first_line.result.1.now c.first_line.ensures.cut
    (subst (λ next. NextLine c.lines.reader c.first_line.result.0.now next) c.in-Err.is c.in_ok-next.ensures))

pub lines-preserved : goal.lines-preserved
lines-preserved c = record {
  counted = omega (arith, c.lines.invariant.counted, c.first_line.ensures.shorter);
  same = λ verdict later. c.lines.invariant.same verdict
      (leads_on c.lines.number c.lines.reader c.in-Ok.next c.lines.rest.now c.first_line.result.0.now c.first_line.result.1.now verdict c.first_line.ensures.cut
      (subst (λ next. NextLine c.lines.reader c.first_line.result.0.now next) c.in-Ok.is c.in_ok-next.ensures) later);
}

pub returns : goal.returns
returns c =
    let none : length c.lines.rest.now ≡ 0 = search rules in
    told_of (λ verdict. Leads c.args.number start (lines_of c.args.bytes.now) verdict) c.ended.result (c.lines.invariant.same c.ended.result (leads_end c.lines.number c.lines.reader c.lines.rest.now c.ended.result none c.ended.ensures))
