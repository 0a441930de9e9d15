use Rattle.std.proofs.Common.{ℕ, ◌++◌, List, get_or, ap, sym, ◌∙◌, arith}
use Rattle.path_code.specs.declared.moves.Recode.{Recode}
use Rattle.code_changes.specs.Normal.{olds}
use Rattle.summary.proofs.Steps.{one_step, all_done, olds-split, olds-none, olds-one}
use Rattle.summary.proofs.gathering.old_codes.Goals as goal

pub pairs-init : goal.pairs-init
pairs-init c = ap (λ (xs : List ℕ). xs ++ olds c.args.moved.now) c.new-codes.ensures.items

pub pairs-preserved : goal.pairs-preserved
pairs-preserved c =
    let d : Recode = record { old = 0; new = 0 } in
    let next = c.in_ok-push.ensures.items ∙ ap (λ (xs : List ℕ). c.pairs.codes.items ++ xs) (sym (olds-one (get_or c.args.moved.now c.pairs.at d))) in
    one_step olds c.args.moved.now c.pairs.at d c.pairs.codes.items c.push.new.self.items (omega (arith, c.pairs-test.true)) olds-split next c.pairs.invariant

pub returns : goal.returns
returns c = all_done olds c.args.moved.now c.pairs.at c.pairs.codes.items c.pairs-test.false olds-none c.pairs.invariant
