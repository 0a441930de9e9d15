-- A text whose lines have neither a line feed nor a carriage return is cut into these lines.
use Rattle.std.proofs.Common.{◌≡◌, ℕ, suc, ◌-◌, Bool, true, false, ◌==◌, List, [], ◌∷◌, ◌++◌, length, slice_index, refl, ap, sym, ◌∙◌, subst, arith}
use Rattle.std.proofs.lemmas.Bool.{and_parts}
use Rattle.std.proofs.lemmas.Bool.Decides.{nat_tests}
use Rattle.std.specs.List.{list_all}
use Rattle.mope_base.specs.Lists.{Each}
use Rattle.sql_text.specs.Canonical.{canonical}
use Rattle.sql_text.specs.Grammar.{statement_tokens}
use Rattle.sql_text.specs.Lexing.{AreTokens}
use Rattle.sql_text.specs.Words.{is_allowed}
use Rattle.sql_text.specs.declared.statements.Stmt.{Stmt}
use Rattle.workload_file.specs.FileLines.{cut_if, ends_in_return, is_feed, lines_of, with_byte, without_return}
use Rattle.workload_file.specs.GeneratedText.{text_of_lines}
use Rattle.sql_text.proofs.PrintedBytes.{text_allowed}

no_feed : (b : ℕ) → is_allowed b ≡ true → is_feed b ≡ false
no_feed b h = grind (arith, nat_tests)

no_return : (b : ℕ) → is_allowed b ≡ true → (b == 13) ≡ false
no_return b h = grind (arith, nat_tests)

pub line_cut : (line rest : List ℕ) → list_all is_allowed line ≡ true → lines_of (line ++ 10 ∷ rest) ≡ line ∷ lines_of rest
unfolding lines_of with_byte
line_cut [] rest clean = refl
line_cut (b ∷ line) rest clean =
    let parts = and_parts (is_allowed b) _ clean in
    ap (λ (feed : Bool). with_byte feed b (lines_of (line ++ 10 ∷ rest))) (no_feed b parts.0) ∙ ap (λ (ls : List (List ℕ)). with_byte false b ls) (line_cut line rest parts.1)

pub lines_again : (lines : List (List ℕ)) → Each (λ line. list_all is_allowed line ≡ true) lines → lines_of (text_of_lines lines) ≡ lines
unfolding text_of_lines lines_of Each
lines_again [] clean = refl
lines_again (line ∷ lines) clean = line_cut line (text_of_lines lines) clean.0 ∙ ap (λ (ls : List (List ℕ)). line ∷ ls) (lines_again lines clean.1)

last_clean : (b : ℕ) (line : List ℕ) → list_all is_allowed (b ∷ line) ≡ true → (slice_index (b ∷ line) (length line) == 13) ≡ false
last_clean b [] clean = (let parts = and_parts (is_allowed b) _ clean in no_return b parts.0)
last_clean b (c ∷ line) clean = (let parts = and_parts (is_allowed b) _ clean in last_clean c line parts.1)

cut_no : (test : Bool) (line : List ℕ) → test ≡ false → cut_if test line ≡ line
unfolding cut_if
cut_no true line e = absurd (let no : ⊥ = cc in no)
cut_no false line e = refl

pub return_kept : (line : List ℕ) → list_all is_allowed line ≡ true → without_return line ≡ line
unfolding without_return cut_if
return_kept [] clean = refl
return_kept (b ∷ line) clean =
    let size : suc (length line) - 1 ≡ length line = omega arith in
    cut_no (ends_in_return (b ∷ line)) (b ∷ line) (subst (λ (n : ℕ). (slice_index (b ∷ line) n == 13) ≡ false) (sym size) (last_clean b line clean))

pub canonical_clean : (s : Stmt) → AreTokens (statement_tokens false s) → list_all is_allowed (canonical s) ≡ true
unfolding canonical
canonical_clean s are = text_allowed (statement_tokens false s) are
