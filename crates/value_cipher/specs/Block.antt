-- The ChaCha20 block function (RFC 8439, sections 2.1 to 2.3). A word is a number below 2 ^ 32, and
-- a state is a list of sixteen words. As in Bernstein's own layout, the last four words of a state
-- are a block counter and a stream number of 64 bits each, where the RFC splits them 32 to 96.
use Rattle.std.specs.Prelude.{ℕ, zero, suc, ◌+◌, ◌*◌, ◌/◌, ◌%◌, ◌^◌, List, [], ◌∷◌, bit_xor, slice_index, slice_set}
use Rattle.std.specs.Int.{w32, rotate_left}

-- the sum of two words, without its carry
abbrev pub add_words : ℕ → ℕ → ℕ
add_words x y = (x + y) % 2 ^ 32

-- x ^= y; x <<<= bits
abbrev pub mix : ℕ → ℕ → ℕ → ℕ
mix x y bits = rotate_left w32 (bit_xor x y) bits

-- the quarter round (2.1): its four lines, each of a sum and a mixed word
unfoldable pub quarter_round : ℕ → ℕ → ℕ → ℕ → ℕ × ℕ × ℕ × ℕ
quarter_round a b c d =
    let a1 = add_words a b in
    let d1 = mix d a1 16 in
    let c1 = add_words c d1 in
    let b1 = mix b c1 12 in
    let a2 = add_words a1 b1 in
    let d2 = mix d1 a2 8 in
    let c2 = add_words c1 d2 in
    let b2 = mix b1 c2 7 in
    (a2, b2, c2, d2)

-- the quarter round on the words at four places of a state (2.2)
unfoldable pub quarter_round_at : ℕ → ℕ → ℕ → ℕ → List ℕ → List ℕ
quarter_round_at a b c d state =
    let q = quarter_round (slice_index state a) (slice_index state b) (slice_index state c) (slice_index state d) in
    slice_set (slice_set (slice_set (slice_set state a q.0) b q.1) c q.2) d q.3

-- the quarter rounds on the four columns of a state that is read as four rows
unfoldable pub column_round : List ℕ → List ℕ
column_round state =
    quarter_round_at 3 7 11 15 (quarter_round_at 2 6 10 14
    (quarter_round_at 1 5 9 13 (quarter_round_at 0 4 8 12 state)))

-- the quarter rounds on its four diagonals
unfoldable pub diagonal_round : List ℕ → List ℕ
diagonal_round state =
    quarter_round_at 3 4 9 14 (quarter_round_at 2 7 8 13
    (quarter_round_at 1 6 11 12 (quarter_round_at 0 5 10 15 state)))

-- the state after so many double rounds
unfoldable pub double_rounds : ℕ → List ℕ → List ℕ
double_rounds zero state = state
double_rounds (suc n) state = diagonal_round (column_round (double_rounds n state))

-- word i of the key, its low byte first
abbrev pub key_word : List ℕ → ℕ → ℕ
key_word key i =
    slice_index key (4 * i) + slice_index key (4 * i + 1) * 2 ^ 8
    + slice_index key (4 * i + 2) * 2 ^ 16 + slice_index key (4 * i + 3) * 2 ^ 24

-- the state before the rounds (2.3): "expand 32-byte k", the key, the counter and the stream number
abbrev pub initial_state : List ℕ → ℕ → ℕ → List ℕ
initial_state key counter stream =
    0x61707865 ∷ 0x3320646e ∷ 0x79622d32 ∷ 0x6b206574
    ∷ key_word key 0 ∷ key_word key 1 ∷ key_word key 2 ∷ key_word key 3
    ∷ key_word key 4 ∷ key_word key 5 ∷ key_word key 6 ∷ key_word key 7
    ∷ counter % 2 ^ 32 ∷ counter / 2 ^ 32 ∷ stream % 2 ^ 32 ∷ stream / 2 ^ 32 ∷ []

-- word k of a block (2.3): ten double rounds, and the first state is added
unfoldable pub block_word : List ℕ → ℕ → ℕ → ℕ → ℕ
block_word key counter stream k =
    let state = initial_state key counter stream in
    add_words (slice_index (double_rounds 10 state) k) (slice_index state k)
