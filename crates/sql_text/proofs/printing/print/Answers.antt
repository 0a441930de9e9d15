use Rattle.std.proofs.Common.{◌≡◌, false, ap, ◌∙◌}
use Rattle.sql_text.specs.Canonical.{canonical}
use Rattle.sql_text.specs.Grammar.{statement_tokens}
use Rattle.sql_text.specs.Written.{Written, empty_line, put_all}
use Rattle.sql_text.proofs.PrintedPuts.{text_put}
use Rattle.sql_text.proofs.printing.print.Goals as goal

pub returns : goal.returns
unfolding canonical
returns c =
    let written : c.statement.new.self ≡ put_all empty_line (statement_tokens false c.args.stmt.now) = c.in_ok-statement.ensures ∙ ap (λ (w : Written). put_all w (statement_tokens false c.args.stmt.now)) c.new-line.ensures in
    c.finish.ensures ∙ (ap (λ (w : Written). w.text) written ∙ text_put (statement_tokens false c.args.stmt.now))
