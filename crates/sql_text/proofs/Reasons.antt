-- A token fault is a bad token or a number that is too large.
use Rattle.std.proofs.Common.{◌≡◌, ℕ, zero, suc, ◌+◌, ◌-◌, ◌^◌, Bool, true, false, cond, List, [], ◌∷◌, length, Result, Ok, Err, subst, refl, get_or, nat_lt, ◌==◌}
use Rattle.std.specs.Str.Parse.{digits_value}
use Rattle.sql_text.specs.Lexing.{Found, Placed, Fault, tokens_from, tokens_of, blank_or_token, first_token, with_first, token_at, word_at, number_at, symbol_at, with_equal, is_numeral}
use Rattle.sql_text.specs.Words.{is_blank, is_letter, is_digit, word_front}
use Rattle.sql_text.specs.declared.marks.Mark.{Mark}
use Rattle.sql_text.specs.declared.parsing.Reason.{Reason}
use Rattle.sql_text.specs.declared.parsing.Reason.TheVariants.{BadToken, TooLarge}

pub data IsTokenReason : Reason → Type 0 where
  bad_token : IsTokenReason BadToken
  too_large : IsTokenReason TooLarge

FoundOk : Result Found Reason → Type 0
FoundOk r = (reason : Reason) → r ≡ Err reason → IsTokenReason reason

found_ok : (found : Found) → FoundOk (Ok found)
unfolding FoundOk
found_ok found reason e = absurd (let no : ⊥ = cc in no)

bad_ok : FoundOk (Err BadToken)
unfolding FoundOk
bad_ok reason e = let same : BadToken ≡ reason = cc in subst (λ r. IsTokenReason r) same bad_token

large_ok : FoundOk (Err TooLarge)
unfolding FoundOk
large_ok reason e = let same : TooLarge ≡ reason = cc in subst (λ r. IsTokenReason r) same too_large

cond_ok : (b : Bool) (x y : Result Found Reason) → FoundOk x → FoundOk y → FoundOk (cond b x y)
cond_ok true x y p q = p
cond_ok false x y p q = q

equal_ok : (b : Bool) (long short : Mark) → FoundOk (with_equal b long short)
equal_ok true long short = found_ok _
equal_ok false long short = found_ok _

word_ok : (word : List ℕ) → FoundOk (word_at word)
unfolding word_at
word_ok word = cond_ok (nat_lt 32 (length word)) _ _ bad_ok (found_ok _)

number_ok : (word : List ℕ) → FoundOk (number_at word)
unfolding number_at
number_ok word = cond_ok (is_numeral word) _ _ (cond_ok (nat_lt (digits_value 10 word) (2 ^ 64)) _ _ (found_ok _) large_ok) bad_ok

symbol_ok : (b next : ℕ) → FoundOk (symbol_at b next)
unfolding symbol_at
symbol_ok b next = cond_ok (b == 40) _ _ (found_ok _) (cond_ok (b == 41) _ _ (found_ok _) (cond_ok (b == 44) _ _ (found_ok _) (cond_ok (b == 42) _ _ (found_ok _) (cond_ok (b == 59) _ _ (found_ok _) (cond_ok (b == 61) _ _ (found_ok _) (cond_ok (b == 60) _ _ (equal_ok (next == 61) _ _) (cond_ok (b == 62) _ _ (equal_ok (next == 61) _ _) bad_ok)))))))

token_ok : (bytes : List ℕ) → FoundOk (token_at bytes)
unfolding token_at
token_ok bytes = cond_ok (is_letter (get_or bytes 0 0)) _ _ (word_ok (word_front bytes)) (cond_ok (is_digit (get_or bytes 0 0)) _ _ (number_ok (word_front bytes)) (symbol_ok (get_or bytes 0 0) (get_or bytes 1 0)))

LexedOk : Result (List Placed) Fault → Type 0
LexedOk r = (fault : Fault) → r ≡ Err fault → IsTokenReason fault.reason

nothing_ok : (placed : List Placed) → LexedOk (Ok placed)
unfolding LexedOk
nothing_ok placed fault e = absurd (let no : ⊥ = cc in no)

with_ok : (first : Placed) (r : Result (List Placed) Fault) → LexedOk r → LexedOk (with_first first r)
unfolding with_first
with_ok first (Ok others) ok = nothing_ok (first ∷ others)
with_ok first (Err fault) ok = ok

first_ok : (at : ℕ) (f : Result Found Reason) (others : ℕ → Result (List Placed) Fault) → FoundOk f → ((n : ℕ) → LexedOk (others n)) → LexedOk (first_token at f others)
unfolding first_token FoundOk LexedOk
first_ok at (Err reason) others found ok fault e =
    let here : Fault = record { at = at; reason = reason } in
    let both : Err here ≡ Err fault = e in
    let same : here ≡ fault = cc in
    subst (λ (f : Fault). IsTokenReason f.reason) same (found reason refl)
first_ok at (Ok f) others found ok fault e = with_ok (record { at = at; token = f.token }) (others (f.size - 1)) (ok (f.size - 1)) fault e

blank_ok : (b : Bool) (at : ℕ) (f : Result Found Reason) (others : ℕ → Result (List Placed) Fault) → FoundOk f → ((n : ℕ) → LexedOk (others n)) → LexedOk (blank_or_token b at f others)
unfolding blank_or_token
blank_ok true at f others found ok = ok 0
blank_ok false at f others found ok = first_ok at f others found ok

tokens_ok : (at inside : ℕ) (bytes : List ℕ) → LexedOk (tokens_from at inside bytes)
unfolding tokens_from
tokens_ok at inside [] = nothing_ok []
tokens_ok at (suc inside) (b ∷ rest) = tokens_ok (at + 1) inside rest
tokens_ok at zero (b ∷ rest) = blank_ok (is_blank b) at (token_at (b ∷ rest)) (λ n. tokens_from (at + 1) n rest) (token_ok (b ∷ rest)) (λ n. tokens_ok (at + 1) n rest)

pub token_reason : (line : List ℕ) (fault : Fault) → tokens_of line ≡ Err fault → IsTokenReason fault.reason
unfolding LexedOk
token_reason line fault e = tokens_ok 0 0 line fault e
