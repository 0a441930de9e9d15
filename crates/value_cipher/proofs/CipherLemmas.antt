-- What crates above need of the cipher's definitions.
use Rattle.std.proofs.Common.{◌≡◌, ℕ, ◌+◌, ◌*◌, ◌^◌, ◌<◌, ◌≤◌, List, refl, sym, ap, ◌∙◌, arith}
use Rattle.std.specs.Int.Bits.{bit_xor, xor_assoc, xor_self, xor_zero_r}
use Rattle.std.proofs.lemmas.Nat.{xor_lt}
use Rattle.mope_base.specs.declared.body.Body.{Body}
use Rattle.value_cipher.specs.Block.{block_word}
use Rattle.value_cipher.specs.Cipher.{pad_of, seal_of, unseal_of, nonce_at, Cell, value_of, sealed}

-- a pad that is added twice is gone
xor_twice : (a b : ℕ) → bit_xor (bit_xor a b) b ≡ a
xor_twice a b = xor_assoc a b b ∙ ap (bit_xor a) (xor_self b) ∙ xor_zero_r a

pub unseal_of-seal_of : (key : List ℕ) (nonce value : ℕ) → unseal_of key (seal_of key nonce value) ≡ value
unfolding unseal_of seal_of
unseal_of-seal_of key nonce value = xor_twice value (pad_of key nonce)

pub seal_of-unseal_of : (key : List ℕ) (body : Body) → seal_of key body.nonce (unseal_of key body) ≡ body
unfolding unseal_of seal_of
seal_of-unseal_of key body =
    ap (λ (masked : ℕ). let b : Body = record { nonce = body.nonce; masked = masked } in b) (xor_twice body.masked (pad_of key body.nonce))

-- a sealed body has the nonce that it was sealed with
pub nonce-seal_of : (key : List ℕ) (nonce value : ℕ) → (seal_of key nonce value).nonce ≡ nonce
unfolding seal_of
nonce-seal_of key nonce value = refl

-- a nonce shows its session and its counter
pub nonce_at-distinct : (first session counter other next : ℕ) → 1 ≤ session → 1 ≤ other → counter < 2 ^ 32 → next < 2 ^ 32
    → nonce_at first session counter ≡ nonce_at first other next → (session ≡ other) × (counter ≡ next)
unfolding nonce_at
nonce_at-distinct first session counter other next one one' low low' same = (omega arith, omega arith)

-- the nonces of so many sessions
pub nonce_at-within : (first sessions session counter : ℕ) → 1 ≤ session → session ≤ sessions → counter < 2 ^ 32
    → (first ≤ nonce_at first session counter) × (nonce_at first session counter < first + sessions * 2 ^ 32)
unfolding nonce_at
nonce_at-within first sessions session counter one last low = (omega arith, omega arith)

-- a pad has 64 bits
pub pad_of-lt : (key : List ℕ) (nonce : ℕ) → pad_of key nonce < 2 ^ 64
unfolding pad_of block_word
pad_of-lt key nonce = omega arith

-- so has what hides a value of 64 bits
pub masked-seal_of-lt : (key : List ℕ) (nonce value : ℕ) → value < 2 ^ 64 → (seal_of key nonce value).masked < 2 ^ 64
unfolding seal_of
masked-seal_of-lt key nonce value fits = xor_lt 64 value (pad_of key nonce) fits (pad_of-lt key nonce)

-- and what such a body hides
pub unseal_of-lt : (key : List ℕ) (body : Body) → body.masked < 2 ^ 64 → unseal_of key body < 2 ^ 64
unfolding unseal_of
unseal_of-lt key body fits = xor_lt 64 body.masked (pad_of key body.nonce) fits (pad_of-lt key body.nonce)

-- a body shows its cell to who has the key
pub seal_of-one_cell : (key : List ℕ) (nonce value other next : ℕ) → seal_of key nonce value ≡ seal_of key other next
    → (nonce ≡ other) × (value ≡ next)
seal_of-one_cell key nonce value other next same = (
  sym (nonce-seal_of key nonce value) ∙ ap (λ (b : Body). b.nonce) same ∙ nonce-seal_of key other next,
  sym (unseal_of-seal_of key nonce value) ∙ ap (unseal_of key) same ∙ unseal_of-seal_of key other next,
)

-- what a sealed cell shows
pub unseal_of-sealed : (key : List ℕ) (cell : Cell) → unseal_of key (sealed key cell) ≡ value_of cell
unfolding sealed
unseal_of-sealed key cell = unseal_of-seal_of key cell.nonce (value_of cell)

pub nonce-sealed : (key : List ℕ) (cell : Cell) → (sealed key cell).nonce ≡ cell.nonce
unfolding sealed
nonce-sealed key cell = nonce-seal_of key cell.nonce (value_of cell)

pub masked-sealed-lt : (key : List ℕ) (cell : Cell) → value_of cell < 2 ^ 64 → (sealed key cell).masked < 2 ^ 64
unfolding sealed
masked-sealed-lt key cell fits = masked-seal_of-lt key cell.nonce (value_of cell) fits
