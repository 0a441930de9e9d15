use Rattle.std.proofs.Common.{◌∙◌, sym, ap, refl, ◌+◌, List, [], ◌∷◌, ◌++◌}
use Rattle.std.proofs.lemmas.List.{take_all}
use Rattle.mope_base.specs.declared.numbers.SessionNo.{SessionNo}
use Rattle.workload.specs.declared.script.Piece.{Piece}
use Rattle.workload.specs.Run.{session_numbers}
use Rattle.mope_top.proofs.RanLemmas.{numbers_more}
use Rattle.mope_top.proofs.running.numbers.Goals as goal

pub scripts-init : goal.scripts-init
unfolding session_numbers
scripts-init c = c.new-numbers.ensures.items

pub scripts-preserved : goal.scripts-preserved
scripts-preserved c =
    let n : SessionNo = record { 0 = c.scripts.i + 1 } in
    c.in_ok-push.ensures.items
    ∙ ap (λ (l : List SessionNo). l ++ n ∷ []) c.scripts.invariant
    ∙ sym (numbers_more c.args.scripts.now c.scripts.i n c.scripts-test.true refl)

pub returns : goal.returns
returns c = c.scripts.invariant ∙ ap (λ (l : List (List Piece)). session_numbers 1 l) (take_all c.scripts.i c.args.scripts.now c.scripts-test.false)
