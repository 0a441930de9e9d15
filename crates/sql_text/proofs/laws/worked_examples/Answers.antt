use Rattle.std.proofs.Common.{refl}
use Rattle.sql_text.specs.Canonical.{canonical, text_of, text_after, gap}
use Rattle.sql_text.specs.Grammar.{spelling, statement_tokens, what_tokens, joined, joined_after, where_tokens, order_tokens, direction_tokens, limit_tokens, end_tokens}
use Rattle.sql_text.specs.Lexing.{tokens_from, blank_or_token, first_token, with_first, token_at, word_at, number_at, symbol_at}
use Rattle.sql_text.specs.Words.{keyword_of, keywords}
use Rattle.sql_text.proofs.laws.worked_examples.Goals as goal

pub returns : goal.returns
unfolding canonical text_of text_after gap spelling statement_tokens what_tokens joined joined_after where_tokens order_tokens direction_tokens limit_tokens end_tokens tokens_from blank_or_token first_token with_first token_at word_at number_at symbol_at keyword_of keywords
returns c = record {
  any_case = refl;
  longest_symbol = refl;
  greatest = refl;
  above_the_greatest = refl;
  zero_in_front = refl;
  letter_behind = refl;
  no_token = refl;
  long_name = refl;
  longer_name = refl;
  bad_byte = refl;
  rebuild = refl;
  count = refl;
  columns = refl;
  two_styles = refl;
}
