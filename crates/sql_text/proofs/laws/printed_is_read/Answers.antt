use Rattle.std.proofs.Common.{◌∙◌, append-nil, false, sym, subst, List}
use Rattle.sql_text.specs.Canonical.{canonical}
use Rattle.sql_text.specs.Grammar.{end_tokens, spelling, statement_tokens}
use Rattle.sql_text.specs.Lexing.{AreTokens}
use Rattle.sql_text.specs.declared.tokens.Token.{Token}
use Rattle.sql_text.proofs.PrintedBytes.{text_has_no_bad_byte}
use Rattle.sql_text.proofs.PrintedLexed.{lexed_are_tokens}
use Rattle.sql_text.proofs.PrintedLines.{text_read}
use Rattle.sql_text.proofs.PrintedStyles.{spelled_plain}
use Rattle.sql_text.proofs.laws.printed_is_read.Goals as goal

pub returns : goal.returns
unfolding canonical spelling end_tokens
returns c line s gives =
    let tokens : List Token = statement_tokens false s in
    let lexed = lexed_are_tokens line gives.tokens gives.line_tokens.lexed in
    let are : AreTokens tokens = spelled_plain gives.spells.style s (subst AreTokens gives.spells.spelled lexed) in
    let read = text_read 0 tokens are in
    record {
      tokens = read.placed;
      line_tokens = record { allowed = text_has_no_bad_byte tokens are; lexed = read.lexed };
      spells = record {
        statement = gives.spells.statement;
        style = record { asc = false; semicolon = false };
        spelled = read.same ∙ sym (append-nil tokens);
      };
      few = gives.few;
    }
