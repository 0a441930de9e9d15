use Rattle.std.proofs.Common.{◌≡◌, ◌++◌, ◌-◌, map}
use Rattle.sql_text.specs.Canonical.{canonical}
use Rattle.workload_file.specs.GeneratedText.{text_of_lines, transactions_of}
use Rattle.workload_file.proofs.generator.put_transactions.Given as goal

abbrev pub invariant-transactions : goal.invariant-transactions
invariant-transactions l = record {
  text :
      l.text.items ++ text_of_lines (map canonical (transactions_of (l.transactions - l._i) l.state).statements)
      ≡ l.initial.text.items ++ text_of_lines (map canonical (transactions_of l.transactions l.initial.state).statements);
  state : (transactions_of (l.transactions - l._i) l.state).state ≡ (transactions_of l.transactions l.initial.state).state;
}
