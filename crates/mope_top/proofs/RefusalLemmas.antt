-- A text of five parts, put together one after another.
use Rattle.std.proofs.Common.{◌≡◌, ◌∙◌, ap, ℕ, List, [], ◌++◌}

pub five-pushed : (t0 t1 t2 t3 t4 t5 a b c d e : List ℕ) → t0 ≡ [] → t1 ≡ t0 ++ a → t2 ≡ t1 ++ b → t3 ≡ t2 ++ c → t4 ≡ t3 ++ d → t5 ≡ t4 ++ e
    → t5 ≡ (((a ++ b) ++ c) ++ d) ++ e
five-pushed t0 t1 t2 t3 t4 t5 a b c d e h0 h1 h2 h3 h4 h5 =
    h5 ∙ ap (λ t. t ++ e) (h4 ∙ ap (λ t. t ++ d) (h3 ∙ ap (λ t. t ++ c) (h2 ∙ ap (λ t. t ++ b) (h1 ∙ ap (λ t. t ++ a) h0))))
