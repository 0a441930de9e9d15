-- The lines of rows, one row after another.
use Rattle.std.proofs.Common.{◌≡◌, refl, sym, ◌∙◌, ap, ℕ, zero, suc, ◌+◌, ◌*◌, ◌-◌, ◌<◌, ◌≤◌, List, ◌++◌, take, drop, codes, append_assoc, append-nil, arith}
use Rattle.workload.specs.Report.{after_spaces, line, row_lines}

-- one row fits where so many do
pub row_fits : (more width size : ℕ) → 0 < more → more * width ≤ size → width ≤ size
row_fits zero width size some fit = absurd (omega (arith, some))
row_fits (suc more) width size some fit = omega (arith, fit)

one_less : (more less : ℕ) → less ≡ more - 1 → 0 < more → more ≡ suc less
one_less more less e some = omega (arith, e, some)

-- and then the others do in what is left
others_fit : (more less width size rest : ℕ) → more ≡ suc less → more * width ≤ size → rest + width ≡ size → less * width ≤ rest
others_fit more less width size rest e fit left =
    let split : suc less * width ≤ size = rw (sym e) fit in
    omega (arith, split, left)

pub rows_fit : (more width size rest : ℕ) → 0 < more → more * width ≤ size → rest + width ≡ size → (more - 1) * width ≤ rest
rows_fit more width size rest some fit left = others_fit more (more - 1) width size rest (one_less more (more - 1) refl some) fit left

step : (text next whole : List ℕ) (more less width : ℕ) (left row rest : List ℕ) → more ≡ suc less → row ≡ take width left → rest ≡ drop width left
    → next ≡ text ++ line (codes "row" ++ after_spaces row) → text ++ row_lines more width left ≡ whole → next ++ row_lines less width rest ≡ whole
unfolding row_lines
step text next whole more less width left row rest one front back e so_far =
    let first : List ℕ = line (codes "row" ++ after_spaces (take width left)) in
    ap (λ (l : List ℕ). next ++ row_lines less width l) back
    ∙ ap (λ l. l ++ row_lines less width (drop width left)) (e ∙ ap (λ (r : List ℕ). text ++ line (codes "row" ++ after_spaces r)) front)
    ∙ append_assoc text first (row_lines less width (drop width left))
    ∙ ap (λ n. text ++ row_lines n width left) (sym one)
    ∙ so_far

pub row_step : (text next whole : List ℕ) (more width : ℕ) (left row rest : List ℕ) → 0 < more → row ≡ take width left → rest ≡ drop width left
    → next ≡ text ++ line (codes "row" ++ after_spaces row) → text ++ row_lines more width left ≡ whole → next ++ row_lines (more - 1) width rest ≡ whole
row_step text next whole more width left row rest some front back e so_far =
    step text next whole more (more - 1) width left row rest (one_less more (more - 1) refl some) front back e so_far

pub rows_end : (text whole : List ℕ) (more width : ℕ) (left : List ℕ) → more ≤ 0 → text ++ row_lines more width left ≡ whole → text ≡ whole
unfolding row_lines
rows_end text whole zero width left none so_far = sym (append-nil text) ∙ so_far
rows_end text whole (suc more) width left none so_far = absurd (omega (arith, none))
