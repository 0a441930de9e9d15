-- Test vectors of RFC 8439, computed from the definitions.
use Rattle.std.specs.Prelude.{◌≡◌, ℕ, ◌+◌, ◌*◌, ◌^◌, List, [], ◌∷◌}
use Rattle.value_cipher.specs.Block.{block_word, quarter_round}
use Rattle.value_cipher.specs.Cipher.{pad_of}

-- 32 bytes of zero
abbrev pub zero_key : List ℕ
zero_key =
    0 ∷ 0 ∷ 0 ∷ 0 ∷ 0 ∷ 0 ∷ 0 ∷ 0 ∷ 0 ∷ 0 ∷ 0 ∷ 0 ∷ 0 ∷ 0 ∷ 0 ∷ 0
    ∷ 0 ∷ 0 ∷ 0 ∷ 0 ∷ 0 ∷ 0 ∷ 0 ∷ 0 ∷ 0 ∷ 0 ∷ 0 ∷ 0 ∷ 0 ∷ 0 ∷ 0 ∷ 0 ∷ []

-- the bytes from 0 to 31
abbrev pub counting_key : List ℕ
counting_key =
    0 ∷ 1 ∷ 2 ∷ 3 ∷ 4 ∷ 5 ∷ 6 ∷ 7 ∷ 8 ∷ 9 ∷ 10 ∷ 11 ∷ 12 ∷ 13 ∷ 14 ∷ 15
    ∷ 16 ∷ 17 ∷ 18 ∷ 19 ∷ 20 ∷ 21 ∷ 22 ∷ 23 ∷ 24 ∷ 25 ∷ 26 ∷ 27 ∷ 28 ∷ 29 ∷ 30 ∷ 31 ∷ []

-- the quarter round (2.1.1)
abbrev pub QuarterRoundVector : Type 0
QuarterRoundVector =
    quarter_round 0x11111111 0x01020304 0x9b8d6f43 0x01234567
    ≡ (0xea2a92f4, 0xcb1cf8ce, 0x4581472e, 0x5881c4bb)

-- a whole block (2.3.2): block counter 1, and the nonce 00 00 00 09 00 00 00 4a 00 00 00 00, whose
-- first word is the counter's high half here
abbrev pub BlockVector : Type 0
BlockVector =
    let word = block_word counting_key (1 + 0x09000000 * 2 ^ 32) 0x4a000000 in
    word 0 ∷ word 1 ∷ word 2 ∷ word 3 ∷ word 4 ∷ word 5 ∷ word 6 ∷ word 7
    ∷ word 8 ∷ word 9 ∷ word 10 ∷ word 11 ∷ word 12 ∷ word 13 ∷ word 14 ∷ word 15 ∷ []
    ≡ 0xe4e7f110 ∷ 0x15593bd1 ∷ 0x1fdd0f50 ∷ 0xc47120a3 ∷ 0xc7f4d1c7 ∷ 0x0368c033 ∷ 0x9aaa2204 ∷ 0x4e6cd4c3
    ∷ 0x466482d2 ∷ 0x09aa9f07 ∷ 0x05d7c214 ∷ 0xa2028bd9 ∷ 0xd19c12b5 ∷ 0xb94e16de ∷ 0xe883d0cb ∷ 0x4e3c50a2 ∷ []

-- the pad of the key of zeros and nonce 0: the first eight bytes of the key stream (A.1, vector 1)
abbrev pub ZeroPad : Type 0
ZeroPad = pad_of zero_key 0 ≡ 0x903df1a0ade0b876
