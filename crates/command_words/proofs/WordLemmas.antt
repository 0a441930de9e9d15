-- How clap reads one word, by the grammar's kind of that word.
use Rattle.std.proofs.Common.{◌≡◌, ◌∙◌, ◌&&◌, ◌==◌, ℕ, Bool, true, false, List, [], ◌∷◌, length, Some, None, refl, sym, ap, ap₂, subst, suc, cond, eqb-true, arith}
use Rattle.std.specs.Prelude.{option_and_then, slice_get}
use Rattle.std.specs.Char.{encode_utf8}
use Rattle.std.specs.Str.{IsUtf8, bytes_eq, chars, encode_utf8_all}
use Rattle.std.proofs.lemmas.Str.{chars_past_char, encodes-chars}
use Rattle.clap.specs.Lexer.{long_of, long_of_rest, short_of, short_of_rest, strip_byte}
use Rattle.command_words.specs.Grammar.{Text, Word, after_hyphen, after_two_hyphens, end_of_options, option, plain, stray, word_of}

abbrev pub hyphens : Text
hyphens = 45 ∷ 45 ∷ []

-- what clap's tests say of a word of each kind
abbrev pub Reads : Text → Word → Type 0
Reads word end_of_options = bytes_eq word hyphens ≡ true
Reads word (option name v) = (bytes_eq word hyphens ≡ false) × (long_of word ≡ Some (name, v))
Reads word stray = (bytes_eq word hyphens ≡ false) × (long_of word ≡ None)
    × ((x : ℕ) × (xs : Text) × (short_of word ≡ Some (x ∷ xs)) × (c : ℕ) × (slice_get (chars (x ∷ xs)) 0 ≡ Some c))
Reads word plain = (bytes_eq word hyphens ≡ false) × (long_of word ≡ None) × (short_of word ≡ None)

-- more than a hyphen has a character after it
first_char : (x : ℕ) (xs : Text) → IsUtf8 (45 ∷ x ∷ xs) → (c : ℕ) × (slice_get (chars (x ∷ xs)) 0 ≡ Some c)
unfolding encode_utf8
first_char x xs ok = go (chars (x ∷ xs)) refl
  where
    whole : chars (45 ∷ x ∷ xs) ≡ 45 ∷ chars (x ∷ xs)
    whole = chars_past_char (45 ∷ x ∷ xs) (x ∷ xs) 45 ok refl

    go : (cs : List ℕ) → chars (x ∷ xs) ≡ cs → (c : ℕ) × (slice_get (chars (x ∷ xs)) 0 ≡ Some c)
    go [] e =
        let short : 45 ∷ [] ≡ 45 ∷ x ∷ xs = ap encode_utf8_all (sym (whole ∙ ap (λ l. 45 ∷ l) e)) ∙ encodes-chars (45 ∷ x ∷ xs) ok in
        let bad : 1 ≡ suc (suc (length xs)) = ap (λ (l : List ℕ). length l) short in
        absurd (omega arith)
    go (c ∷ cs) e = (c, ap (λ l. slice_get l 0) e)

as_kind : (word : Text) (w : Word) → word_of word ≡ w → Reads word w → Reads word (word_of word)
as_kind word w is r = subst (Reads word) (sym is) r

-- a word of one byte, and one of more, by whether the bytes are hyphens
one : (x : ℕ) (xs : Text) → (x == 45) ≡ false → Reads (x ∷ xs) (word_of (x ∷ xs))
one x xs e = as_kind (x ∷ xs) plain (ap (λ b. cond b (after_hyphen xs) plain) e) (
  ap (λ b. b && bytes_eq xs (45 ∷ [])) e,
  ap (λ b. option_and_then long_of_rest (option_and_then (strip_byte 45) (cond b (Some xs) None))) e,
  ap (λ b. option_and_then short_of_rest (cond b (Some xs) None)) e,
)

alone : (x : ℕ) → (x == 45) ≡ true → Reads (x ∷ []) (word_of (x ∷ []))
alone x e = as_kind (x ∷ []) plain (ap (λ b. cond b (after_hyphen []) plain) e) (
  ap (λ b. b && false) e,
  ap (λ b. option_and_then long_of_rest (option_and_then (strip_byte 45) (cond b (Some []) None))) e,
  ap (λ b. option_and_then short_of_rest (cond b (Some []) None)) e,
)

short : (x y : ℕ) (ys : Text) → IsUtf8 (x ∷ y ∷ ys) → (x == 45) ≡ true → (y == 45) ≡ false → Reads (x ∷ y ∷ ys) (word_of (x ∷ y ∷ ys))
short x y ys ok e f = as_kind (x ∷ y ∷ ys) stray (ap₂ (λ b c. cond b (cond c (after_two_hyphens ys) stray) plain) e f) (
  ap₂ (λ b c. b && (c && bytes_eq ys [])) e f,
  ap (λ b. option_and_then long_of_rest (option_and_then (strip_byte 45) (cond b (Some (y ∷ ys)) None))) e
      ∙ ap (λ c. option_and_then long_of_rest (cond c (Some ys) None)) f,
  (
    y,
    ys,
    ap (λ b. option_and_then short_of_rest (cond b (Some (y ∷ ys)) None)) e ∙ ap (λ c. cond c None (Some (y ∷ ys))) f,
    (first_char y ys as_hyphen).0,
    (first_char y ys as_hyphen).1,
  ),
)
  where
    as_hyphen : IsUtf8 (45 ∷ y ∷ ys)
    as_hyphen = subst (λ n. IsUtf8 (n ∷ y ∷ ys)) (eqb-true x 45 e) ok

both_end : (x y : ℕ) → (x == 45) ≡ true → (y == 45) ≡ true → Reads (x ∷ y ∷ []) (word_of (x ∷ y ∷ []))
both_end x y e f = as_kind (x ∷ y ∷ []) end_of_options (ap₂ (λ b c. cond b (cond c end_of_options stray) plain) e f)
    (ap₂ (λ b c. b && (c && true)) e f)

long : (x y z : ℕ) (zs : Text) → (x == 45) ≡ true → (y == 45) ≡ true → Reads (x ∷ y ∷ z ∷ zs) (word_of (x ∷ y ∷ z ∷ zs))
long x y z zs e f = as_kind (x ∷ y ∷ z ∷ zs) (after_two_hyphens (z ∷ zs)) (ap₂ (λ b c. cond b (cond c (after_two_hyphens (z ∷ zs)) stray) plain) e f) (
  ap₂ (λ b c. b && (c && false)) e f,
  ap (λ b. option_and_then long_of_rest (option_and_then (strip_byte 45) (cond b (Some (y ∷ z ∷ zs)) None))) e
      ∙ ap (λ c. option_and_then long_of_rest (cond c (Some (z ∷ zs)) None)) f,
)

two : (x y : ℕ) (ys : Text) → IsUtf8 (x ∷ y ∷ ys) → (x == 45) ≡ true → (b : Bool) → (y == 45) ≡ b → Reads (x ∷ y ∷ ys) (word_of (x ∷ y ∷ ys))
two x y ys ok e false f = short x y ys ok e f
two x y [] ok e true f = both_end x y e f
two x y (z ∷ zs) ok e true f = long x y z zs e f

by_first : (x : ℕ) (xs : Text) → IsUtf8 (x ∷ xs) → (b : Bool) → (x == 45) ≡ b → Reads (x ∷ xs) (word_of (x ∷ xs))
by_first x xs ok false e = one x xs e
by_first x [] ok true e = alone x e
by_first x (y ∷ ys) ok true e = two x y ys ok e (y == 45) refl

pub reads : (word : Text) → IsUtf8 word → Reads word (word_of word)
reads [] ok = (refl, refl, refl)
reads (x ∷ xs) ok = by_first x xs ok (x == 45) refl
