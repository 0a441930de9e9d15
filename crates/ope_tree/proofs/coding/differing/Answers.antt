use Rattle.std.proofs.Common.{◌+◌, ◌++◌, [], List, drop, get_or, eqb, ap, sym, ◌∙◌, append-nil, append_assoc, arith}
use Rattle.path_code.specs.declared.moves.Recode.{Recode}
use Rattle.path_code.specs.Sums.{unless}
use Rattle.code_changes.specs.Changes.{differing}
use Rattle.ope_tree.proofs.CodeLists.{differing-step, differing-done}
use Rattle.ope_tree.proofs.coding.differing.Goals as goal

pub pairs-init : goal.pairs-init
pairs-init c = ap (λ (xs : List Recode). xs ++ differing c.args.before.now c.args.after.now) c.new-moved.ensures.items

pub pairs-preserved : goal.pairs-preserved
pairs-preserved c =
    let before = c.args.before.now in
    let after = c.args.after.now in
    let at = c.pairs.at in
    let one : List Recode = unless (eqb (get_or before at 0) (get_or after at 0)) (record { old = get_or before at 0; new = get_or after at 0 }) [] in
    let rest = differing (drop (at + 1) before) (drop (at + 1) after) in
    ap (λ (xs : List Recode). xs ++ rest) c.in_ok-push_moved.ensures
    ∙ append_assoc c.pairs.moved.items one rest
    ∙ ap (λ (xs : List Recode). c.pairs.moved.items ++ xs) (sym (differing-step before after at (omega arith) (omega arith)))
    ∙ c.pairs.invariant

pub returns : goal.returns
returns c =
    let before = c.args.before.now in
    let after = c.args.after.now in
    sym (append-nil c.pairs.moved.items) ∙ ap (λ (xs : List Recode). c.pairs.moved.items ++ xs) (sym (differing-done before after c.pairs.at c.pairs-test.false)) ∙ c.pairs.invariant
