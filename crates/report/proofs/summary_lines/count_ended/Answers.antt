use Rattle.std.proofs.Common.{◌≡◌, ◌∙◌, ◌++◌, ◌≤◌, ap, arith}
use Rattle.std.specs.Str.{bytes_eq}
use Rattle.report.specs.SummaryText.{end_name, one_if}
use Rattle.report.proofs.EndCounts.{all_ended, byte_few, byte_is, more_ended}
use Rattle.report.proofs.summary_lines.count_ended.Goals as goal

pub transactions-preserved : goal.transactions-preserved
transactions-preserved c =
    let so : c.from-count.result ≡ one_if (bytes_eq (end_name c.t-item.result.end) c.args.name.now) =
    c.from-count.ensures ∙ byte_is c.eq.result ∙ ap one_if (rw c.end_name.ensures at c.eq.ensures) in
    let few : c.from-count.result ≤ 1 = rw c.from-count.ensures (byte_few c.eq.result) in
    record {
      counted = more_ended c.args.name.now c.args.txns.now c.transactions.t-index c.transactions.count c.from-count.result _ c.t-item.result c.transactions-test.true c.t-item.is so c.transactions.invariant.counted;
      few = omega (arith, few, c.transactions.invariant.few);
    }

pub returns : goal.returns
returns c = all_ended c.args.name.now c.args.txns.now c.transactions.t-index c.transactions.count _ c.transactions-test.false c.transactions.invariant.counted
