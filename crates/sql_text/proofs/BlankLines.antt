-- A line is blank exactly where it has no tokens, and then it is nothing else.
use Rattle.std.proofs.Common.{◌≡◌, ℕ, ◌+◌, ◌==◌, ◌&&◌, ◌||◌, Bool, true, false, List, [], ◌∷◌, length, Result, Ok, Err, refl, ap, sym, ◌∙◌, subst}
use Rattle.std.proofs.lemmas.Bool.{and_parts, and_from, eqb-true}
use Rattle.std.specs.List.{list_all}
use Rattle.sql_text.proofs.PrintedBytes.{no_bad_byte}
use Rattle.sql_text.proofs.Verdicts.{not_ended}
use Rattle.sql_text.specs.Faults.{HasTokens, IsFault}
use Rattle.sql_text.specs.FrameLines.{frame_tokens, IsNoFrame}
use Rattle.sql_text.specs.Lexing.{Found, Placed, Fault, tokens_from, blank_or_token, first_token, with_first, token_at, bare}
use Rattle.sql_text.specs.Machine.{drive}
use Rattle.sql_text.specs.Words.{is_allowed, is_blank, is_blank_line}
use Rattle.sql_text.specs.declared.frames.Frame.{Frame}
use Rattle.sql_text.specs.declared.frames.Frame.TheVariants as frame
use Rattle.sql_text.specs.declared.parsing.Reason.{Reason}
use Rattle.sql_text.specs.declared.parsing.Reason.TheVariants.{Syntax}
use Rattle.sql_text.specs.declared.states.State.TheVariants as state

allowed_by : (space tab : Bool) (b : ℕ) → b == 32 ≡ space → b == 9 ≡ tab → (space || tab) ≡ true → is_allowed b ≡ true
allowed_by true tab b is32 is9 e = let b32 : b ≡ 32 = eqb-true b 32 is32 in subst (λ n. is_allowed n ≡ true) (sym b32) refl
allowed_by false true b is32 is9 e = let b9 : b ≡ 9 = eqb-true b 9 is9 in subst (λ n. is_allowed n ≡ true) (sym b9) refl
allowed_by false false b is32 is9 e = absurd (let no : ⊥ = cc in no)

blanks_allowed : (line : List ℕ) → list_all is_blank line ≡ true → list_all is_allowed line ≡ true
blanks_allowed [] e = refl
blanks_allowed (b ∷ rest) e =
    let parts = and_parts (is_blank b) (list_all is_blank rest) e in
    and_from _ _ (allowed_by (b == 32) (b == 9) b refl refl parts.0) (blanks_allowed rest parts.1)

no_tokens : (at : ℕ) (line : List ℕ) → list_all is_blank line ≡ true → tokens_from at 0 line ≡ Ok []
unfolding tokens_from blank_or_token
no_tokens at [] e = refl
no_tokens at (b ∷ rest) e =
    let parts = and_parts (is_blank b) (list_all is_blank rest) e in
    ap (λ x. blank_or_token x at (token_at (b ∷ rest)) (λ inside. tokens_from (at + 1) inside rest)) parts.0 ∙ no_tokens (at + 1) rest parts.1

never_none : (p : Placed) (r : Result (List Placed) Fault) → with_first p r ≡ Ok [] → ⊥
unfolding with_first
never_none p (Ok others) e = cc
never_none p (Err fault) e = cc

blank_first : (x : Bool) (at : ℕ) (r : Result Found Reason) (others : ℕ → Result (List Placed) Fault) (rest : List ℕ) → blank_or_token x at r others ≡ Ok [] → (others 0 ≡ Ok [] → list_all is_blank rest ≡ true) → (x && list_all is_blank rest) ≡ true
unfolding blank_or_token first_token
blank_first true at r others rest e later = later e
blank_first false at (Err reason) others rest e later = absurd (let no : ⊥ = cc in no)
blank_first false at (Ok found) others rest e later = absurd (never_none _ _ e)

all_blank : (at : ℕ) (line : List ℕ) → tokens_from at 0 line ≡ Ok [] → list_all is_blank line ≡ true
unfolding tokens_from
all_blank at [] e = refl
all_blank at (b ∷ rest) e = blank_first (is_blank b) at (token_at (b ∷ rest)) (λ inside. tokens_from (at + 1) inside rest) rest e (λ none. all_blank (at + 1) rest none)

pub blank_has_none : (line : List ℕ) → is_blank_line line ≡ true → HasTokens line []
blank_has_none line e = record { allowed = no_bad_byte line (blanks_allowed line e); lexed = no_tokens 0 line e }

pub none_is_blank : (line : List ℕ) → HasTokens line [] → is_blank_line line ≡ true
none_is_blank line has = all_blank 0 line has.lexed

frame_has_some : (P : Type 0) (f : Frame) → [] ≡ frame_tokens f → P
unfolding frame_tokens
frame_has_some P frame.Header e = absurd (let no : ⊥ = cc in no)
frame_has_some P (frame.Table name columns) e = absurd (let no : ⊥ = cc in no)
frame_has_some P frame.Session e = absurd (let no : ⊥ = cc in no)
frame_has_some P frame.End e = absurd (let no : ⊥ = cc in no)

pub blank_no_frame : (line : List ℕ) → is_blank_line line ≡ true → IsNoFrame line
blank_no_frame line e f l =
    let both : Ok l.tokens ≡ Ok [] = sym l.line_tokens.lexed ∙ (blank_has_none line e).lexed in
    let none : l.tokens ≡ [] = cc in
    frame_has_some ⊥ f (ap bare (sym none) ∙ l.spelled)

pub blank_no_statement : (line : List ℕ) → is_blank_line line ≡ true → IsFault line (length line) Syntax
unfolding drive
blank_no_statement line e = not_ended line [] state.Start (blank_has_none line e) refl refl
