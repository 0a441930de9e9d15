-- The adapters over std, as contracts see them.
use Rattle.std.specs.Prelude.{ℕ, refl}
use Rattle.std.specs.Coded.{Coded, code_by, coded×, coded_ℕ}

-- a reader or a writer of std, and how many of its calls failed, as far as 64 bits count them
pub record Counted (X : Type 0) : Type 0 where
  pub inner : X
  pub faults : ℕ

abbrev pub counted_code : {X : Type 0} → Coded X → Coded (Counted X)
counted_code {X} code = code_by (X × ℕ) (coded× code coded_ℕ) (λ s. (s.inner, s.faults)) (λ p. record { inner = p.0; faults = p.1 }) (λ _. refl)
