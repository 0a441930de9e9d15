use Rattle.std.proofs.Common.{◌<◌, ◌++◌, ℕ, List, length, get_or, ap, ◌∙◌, arith}
use Rattle.std.proofs.lemmas.Grind.{get_or_default_zero}
use Rattle.path_code.specs.Ways.{way}
use Rattle.code_changes.specs.Removal.{codes_along}
use Rattle.ope_tree.specs.Nodes.{tree_of}
use Rattle.code_changes.proofs.Shifted.{length-codes_along}
use Rattle.ope_tree.proofs.settling.parted_codes.Goals as goal

pub remove-own-requires : goal.remove-own-requires
remove-own-requires c =
    let t = tree_of c.args.nodes.now c.args.link in
    let h = c.push_codes.new.codes.ok in
    let e = c.in_ok-push_codes.ensures ∙ ap (λ (xs : List ℕ). xs ++ codes_along (way c.args.path) t) c.new-others.ensures.items in
    omega (arith, h.0, ap length e, length-codes_along (way c.args.path) t, c.requires.is_rank)

pub returns-clause-own : goal.returns-clause-own
returns-clause-own c =
    let t = tree_of c.args.nodes.now c.args.link in
    let codes = c.push_codes.new.codes.items in
    let e = c.in_ok-push_codes.ensures ∙ ap (λ (xs : List ℕ). xs ++ codes_along (way c.args.path) t) c.new-others.ensures.items in
    let inside : c.args.rank < length codes = omega (arith, ap length e, length-codes_along (way c.args.path) t, c.requires.is_rank) in
    c.remove-own.ensures.value ∙ get_or_default_zero codes c.args.rank c.remove-own.result inside ∙ ap (λ (xs : List ℕ). get_or xs c.args.rank 0) e
