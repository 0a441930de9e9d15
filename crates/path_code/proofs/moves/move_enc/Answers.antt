use Rattle.std.proofs.Common.{◌≤◌, ◌++◌, length, ap, ◌∙◌, sym, subst, arith}
use Rattle.path_code.specs.Codes.{code_of}
use Rattle.path_code.specs.Ways.{way}
use Rattle.path_code.proofs.Spelling.{code_of-positive}
use Rattle.path_code.proofs.Decoding.{same_from_code}
use Rattle.path_code.proofs.Same.{length-way}
use Rattle.path_code.proofs.moves.move_enc.Goals as goal

pub returns-in-None : goal.returns-in-None
returns-in-None c rest short e = absurd (omega (arith, e, c.in-None.ensures.decodes, code_of-positive (way c.args.m.from ++ rest)))

pub returns-in-None-replaced : goal.returns-in-None-replaced
returns-in-None-replaced c rest short e =
    let one = same_from_code (way c.in-Some.path) (way c.args.m.from ++ rest) (length-way c.in-Some.path) short (c.in-Some.ensures.decodes ∙ e) in
    c.in-None-replaced.ensures rest one

pub returns-in-Some-replaced : goal.returns-in-Some-replaced
returns-in-Some-replaced c =
    let told = c.in-Some-replaced.ensures in
    record {
      rest = told.rest;
      short = subst (λ w. length w ≤ 63) told.before (length-way c.in-Some.path);
      before = sym c.in-Some.ensures.decodes ∙ ap code_of told.before;
      still_short = subst (λ w. length w ≤ 63) told.after (length-way c.in-Some-replaced.new);
      after = c.code.ensures.spells ∙ ap code_of told.after;
    }
