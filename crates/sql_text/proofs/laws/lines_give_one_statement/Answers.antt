use Rattle.std.proofs.Common.{◌≡◌, Ok, subst, sym, ◌∙◌}
use Rattle.sql_text.proofs.Begun.{spells_once}
use Rattle.sql_text.specs.Grammar.{Spells}
use Rattle.sql_text.specs.Lexing.{bare}
use Rattle.sql_text.proofs.laws.lines_give_one_statement.Goals as goal

pub returns : goal.returns
returns c line s t gs gt =
    let both : Ok gs.tokens ≡ Ok gt.tokens = sym gs.line_tokens.lexed ∙ gt.line_tokens.lexed in
    let same : gs.tokens ≡ gt.tokens = cc in
    spells_once (bare gs.tokens) s t gs.spells (subst (λ r. Spells t (bare r)) (sym same) gt.spells)
