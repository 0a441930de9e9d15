use Rattle.std.proofs.Common.{◌≡◌, ◌+◌, ◌-◌, ◌*◌, ◌/◌, ◌^◌, ℕ, ap, ◌∙◌, arith}
use Rattle.std.specs.Int.Count.{count_trailing_zeros}
use Rattle.path_code.proofs.Spelling.{code_of-steps}
use Rattle.path_code.proofs.Decoding.{marked}
use Rattle.path_code.proofs.moves.unmarked.Goals as goal

pub invariant_of-result : goal.invariant_of-result
invariant_of-result c =
    let parts = marked c.args.enc c.requires (omega arith) in
    record { short = omega arith; within = parts.within }

pub returns : goal.returns
returns c =
    let zeros = count_trailing_zeros 64 c.args.enc in
    let parts = marked c.args.enc c.requires (omega arith) in
    let back : 63 - (63 - zeros) ≡ zeros = omega (arith, parts.few) in
    code_of-steps (63 - zeros) (c.args.enc / 2 ^ zeros / 2) parts.within
    ∙ ap (λ (n : ℕ). (2 * (c.args.enc / 2 ^ zeros / 2) + 1) * 2 ^ n) back
    ∙ parts.back
