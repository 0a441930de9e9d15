use Rattle.std.proofs.Common.{◌<◌, ◌∙◌, sym, subst}
use Rattle.path_code.proofs.Spelling.{shifted, code_of-steps, packed_positive}
use Rattle.path_code.proofs.codes.code.Goals as goal

pub returns-clause-spells : goal.returns-clause-spells
returns-clause-spells c =
    shifted c.args.path.len c.args.path.bits c.args.path.within c.args.path.short
    ∙ sym (code_of-steps c.args.path.len c.args.path.bits c.args.path.within)

pub returns-clause-packed : goal.returns-clause-packed
returns-clause-packed c = shifted c.args.path.len c.args.path.bits c.args.path.within c.args.path.short

pub returns-clause-positive : goal.returns-clause-positive
returns-clause-positive c =
    subst (λ n. 0 < n) (sym (shifted c.args.path.len c.args.path.bits c.args.path.within c.args.path.short)) (packed_positive c.args.path.len c.args.path.bits)
