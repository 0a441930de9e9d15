-- The block function of `rand_chacha` is the one of specs/Block.antt.
use Rattle.std.proofs.Common.{◌≡◌, ℕ, zero, suc, ◌+◌, ◌*◌, ◌^◌, List, [], ◌∷◌, refl, ap, sym, ◌∙◌, slice_index}
use Rattle.value_cipher.specs.Block.{quarter_round, quarter_round_at, column_round, diagonal_round, double_rounds, initial_state, block_word, add_words}
use Rattle.value_cipher.specs.Cipher.{pad_of}
use Rattle.rand_chacha.specs.Block.{quarter_round as their_quarter_round, column_round as their_column_round, diagonal_round as their_diagonal_round, double_rounds as their_double_rounds, block_word as their_block_word}
use Rattle.rand_chacha.specs.ChaCha.{ChaCha, key_of, of_seed, next_word}
use Rattle.rand_core.specs.Steps.{u32_at}

-- the words of a state, one by one
abbrev sixteen : List ℕ → List ℕ
sixteen x =
    slice_index x 0 ∷ slice_index x 1 ∷ slice_index x 2 ∷ slice_index x 3
    ∷ slice_index x 4 ∷ slice_index x 5 ∷ slice_index x 6 ∷ slice_index x 7
    ∷ slice_index x 8 ∷ slice_index x 9 ∷ slice_index x 10 ∷ slice_index x 11
    ∷ slice_index x 12 ∷ slice_index x 13 ∷ slice_index x 14 ∷ slice_index x 15 ∷ []

-- the rounds are the same, as both read the words one by one
columns_same : (x : List ℕ) → column_round (sixteen x) ≡ their_column_round x
unfolding column_round quarter_round_at their_column_round quarter_round their_quarter_round
columns_same x = refl

diagonals_same : (x : List ℕ) → diagonal_round (sixteen x) ≡ their_diagonal_round x
unfolding diagonal_round quarter_round_at their_diagonal_round quarter_round their_quarter_round
diagonals_same x = refl

diagonal_columns_same : (x : List ℕ) → diagonal_round (their_column_round x) ≡ their_diagonal_round (their_column_round x)
unfolding their_column_round
diagonal_columns_same x = diagonals_same (their_column_round x)

-- a state after double rounds has sixteen words
sixteen_rounds : (n : ℕ) (x : List ℕ) → sixteen x ≡ x → sixteen (their_double_rounds n x) ≡ their_double_rounds n x
unfolding their_double_rounds their_diagonal_round
sixteen_rounds zero x h = h
sixteen_rounds (suc n) x h = refl

-- so are the states after them
rounds_same : (n : ℕ) (x : List ℕ) → sixteen x ≡ x → double_rounds n x ≡ their_double_rounds n x
unfolding double_rounds their_double_rounds
rounds_same zero x h = refl
rounds_same (suc n) x h =
    let y = their_double_rounds n x in
    let before : double_rounds n x ≡ sixteen y = rounds_same n x h ∙ sym (sixteen_rounds n x h) in
    let column : column_round (double_rounds n x) ≡ their_column_round y = ap column_round before ∙ columns_same y in
    ap diagonal_round column ∙ diagonal_columns_same y

-- and the words of a block
pub block_word-same : (key : List ℕ) (counter stream k : ℕ)
    → their_block_word 10 (key_of key) counter stream k ≡ block_word key counter stream k
unfolding block_word their_block_word u32_at
block_word-same key counter stream k =
    let start = initial_state key counter stream in
    ap (λ x. add_words (slice_index x k) (slice_index start k)) (sym (rounds_same 10 start refl))

-- what a new generator's first two words of a stream are
pub pad_of-words : (key : List ℕ) (nonce low high : ℕ) (seeded moved once twice : ChaCha)
    → seeded ≡ of_seed key → moved ≡ record seeded { stream = nonce }
    → (low, once) ≡ next_word 10 moved → (high, twice) ≡ next_word 10 once
    → low + high * 2 ^ 32 ≡ pad_of key nonce
unfolding pad_of
pad_of-words key nonce low high seeded moved once twice seed stream first second =
    let start : moved ≡ record (of_seed key) { stream = nonce } =
    stream ∙ ap (λ (g : ChaCha). let h : ChaCha = record g { stream = nonce } in h) seed in
    let one = first ∙ ap (next_word 10) start in
    let two = second ∙ ap (next_word 10) (ap (λ p. p.1) one) in
    let low_word : low ≡ block_word key 0 nonce 0 = ap (λ p. p.0) one ∙ block_word-same key 0 nonce 0 in
    let high_word : high ≡ block_word key 0 nonce 1 = ap (λ p. p.0) two ∙ block_word-same key 0 nonce 1 in
    rw (low_word, high_word) refl
