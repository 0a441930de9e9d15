-- The cipher of values: each is masked by a pad of its own, the start of a ChaCha20 block. A key is
-- its 32 bytes.
use Rattle.std.specs.Prelude.{◌≡◌, ℕ, ◌+◌, ◌-◌, ◌*◌, ◌^◌, ◌<◌, ◌≤◌, List, bit_xor}
use Rattle.value_cipher.specs.Block.{block_word}
use Rattle.mope_base.specs.declared.body.Body.{Body}

-- the first 64 bits of block 0 of the stream that the nonce names
unfoldable pub pad_of : List ℕ → ℕ → ℕ
pad_of key nonce = block_word key 0 nonce 0 + block_word key 0 nonce 1 * 2 ^ 32

-- the body that hides a value
unfoldable pub seal_of : List ℕ → ℕ → ℕ → Body
seal_of key nonce value = record { nonce = nonce; masked = bit_xor value (pad_of key nonce) }

-- the value that a body hides
unfoldable pub unseal_of : List ℕ → Body → ℕ
unseal_of key body = bit_xor body.masked (pad_of key body.nonce)

-- a value before it is sealed, and the nonce under which it is: what a model of the data holds where the server holds a body
pub record Cell : Type 0 where
  pub nonce : ℕ
  pub value : ℕ

unfoldable pub value_of : Cell → ℕ
value_of cell = cell.value

-- the body that the server holds for a cell
unfoldable pub sealed : List ℕ → Cell → Body
sealed key cell = seal_of key cell.nonce (value_of cell)

-- the nonce of the cell that a session, from 1, seals after `counter` others: each has 2 ^ 32
unfoldable pub nonce_at : ℕ → ℕ → ℕ → ℕ
nonce_at first session counter = first + (session - 1) * 2 ^ 32 + counter

-- unsealing gives the value that was sealed
abbrev pub UnsealsWhatWasSealed : Type 0
UnsealsWhatWasSealed =
    (key : List ℕ) (nonce value : ℕ) → unseal_of key (seal_of key nonce value) ≡ value

-- each body is the seal of what it unseals to, under its own nonce
abbrev pub SealsWhatWasUnsealed : Type 0
SealsWhatWasUnsealed = (key : List ℕ) (body : Body) → seal_of key body.nonce (unseal_of key body) ≡ body

-- a sealed cell unseals to its value
abbrev pub SealedCellsUnseal : Type 0
SealedCellsUnseal = (key : List ℕ) (cell : Cell) → unseal_of key (sealed key cell) ≡ value_of cell

-- it keeps its nonce
abbrev pub SealedCellsKeepNonces : Type 0
SealedCellsKeepNonces = (key : List ℕ) (cell : Cell) → (sealed key cell).nonce ≡ cell.nonce

-- a value of 64 bits is masked as one
abbrev pub SealedCellsFit : Type 0
SealedCellsFit = (key : List ℕ) (cell : Cell) → value_of cell < 2 ^ 64 → (sealed key cell).masked < 2 ^ 64

-- two cells of one nonce are one cell of one session
abbrev pub EachNonceIsOneCell : Type 0
EachNonceIsOneCell =
    (first session counter other next : ℕ) → 1 ≤ session → 1 ≤ other → counter < 2 ^ 32 → next < 2 ^ 32
    → nonce_at first session counter ≡ nonce_at first other next → (session ≡ other) × (counter ≡ next)

-- the nonces of so many sessions stand from the first one on, and below the next free one
abbrev pub NoncesAreWithin : Type 0
NoncesAreWithin =
    (first sessions session counter : ℕ) → 1 ≤ session → session ≤ sessions → counter < 2 ^ 32
    → (first ≤ nonce_at first session counter) × (nonce_at first session counter < first + sessions * 2 ^ 32)
