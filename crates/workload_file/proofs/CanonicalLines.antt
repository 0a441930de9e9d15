-- Canonical lines are read as their statements, and no two statements have one.
use Rattle.std.proofs.Common.{◌≡◌, ℕ, false, List, None, Ok, ap, sym, ◌∙◌, subst, append-nil}
use Rattle.sql_text.proofs.Begun.{spells_once}
use Rattle.sql_text.specs.Canonical.{canonical, text_of}
use Rattle.sql_text.specs.Faults.{Gives, HasTokens}
use Rattle.sql_text.specs.Grammar.{IsStatement, Spells, end_tokens, ninth, spelling, statement_tokens}
use Rattle.sql_text.specs.Lexing.{AreTokens, Placed, bare, tokens_of}
use Rattle.sql_text.specs.declared.statements.Stmt.{Stmt}
use Rattle.sql_text.specs.declared.tokens.Token.{Token}
use Rattle.sql_text.proofs.PrintedBytes.{text_has_no_bad_byte}
use Rattle.sql_text.proofs.PrintedLines.{text_read}

-- the text of tokens has them
pub text_tokens : (tokens : List Token) → AreTokens tokens → (placed : List Placed) × HasTokens (text_of tokens) placed × (bare placed ≡ tokens)
text_tokens tokens are =
    let read = text_read 0 tokens are in
    (read.placed, record { allowed = text_has_no_bad_byte tokens are; lexed = read.lexed }, read.same)

spelled : (s : Stmt) → IsStatement s → Spells s (statement_tokens false s)
unfolding spelling end_tokens
spelled s is = record { statement = is; style = record { asc = false; semicolon = false }; spelled = sym (append-nil (statement_tokens false s)) }

pub canonical_gives : (s : Stmt) → IsStatement s → AreTokens (statement_tokens false s) → ninth s ≡ None → Gives (canonical s) s
unfolding canonical
canonical_gives s is are few =
    let read = text_tokens (statement_tokens false s) are in
    record {
      tokens = read.0;
      line_tokens = read.1;
      spells = subst (λ (tokens : List Token). Spells s tokens) (sym read.2) (spelled s is);
      few = few;
    }

-- a text has one list of tokens
pub one_text : (xs ys : List Token) → AreTokens xs → AreTokens ys → text_of xs ≡ text_of ys → xs ≡ ys
one_text xs ys are be e =
    let first = text_tokens xs are in
    let second = text_tokens ys be in
    let both : Ok first.0 ≡ Ok second.0 = sym first.1.lexed ∙ ap (λ (t : List ℕ). tokens_of t) e ∙ second.1.lexed in
    let same : first.0 ≡ second.0 = cc in
    sym first.2 ∙ ap (λ (p : List Placed). bare p) same ∙ second.2

-- statements with one canonical line are one
pub one_canonical : (s t : Stmt) → IsStatement s → IsStatement t → AreTokens (statement_tokens false s) → AreTokens (statement_tokens false t) → canonical s ≡ canonical t → s ≡ t
unfolding canonical
one_canonical s t is it are be e =
    let same = one_text (statement_tokens false s) (statement_tokens false t) are be e in
    spells_once (statement_tokens false s) s t (spelled s is) (subst (λ (tokens : List Token). Spells t tokens) (sym same) (spelled t it))
