use Rattle.workload_file.specs.GeneratedText.{transactions_of}
use Rattle.workload_file.proofs.TextLemmas.{session_text}
use Rattle.workload_file.proofs.generator.put_session.Goals as goal

pub returns-clause-text : goal.returns-clause-text
returns-clause-text c =
    session_text c.args.text.now.items c.put_line.new.text.items c.put_transactions.new.text.items (transactions_of c.args.transactions c.args.before) c.in_ok-put_line.ensures c.in_ok-state.ensures.text
