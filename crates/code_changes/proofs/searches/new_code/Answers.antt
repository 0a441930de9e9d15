use Rattle.std.proofs.Common.{rules, Ok, Err}
use Rattle.std.proofs.lemmas.List.Sorted.{answers_always}
use Rattle.code_changes.specs.Normal.{olds}
use Rattle.code_changes.proofs.Halving.{found_by}
use Rattle.code_changes.proofs.searches.new_code.Goals as goal

pub returns-in-Ok : goal.returns-in-Ok
unfolding olds
returns-in-Ok c =
    let by_old = c.in-Ok.ensures.position (λ pair. pair.old) (answers_always _ _ _ (λ f a r g called. search rules)) in
    found_by c.args.moved.now c.args.code (Ok c.in-Ok.at) c.requires by_old (record { old = 0; new = 0 })

pub returns-in-Err : goal.returns-in-Err
unfolding olds
returns-in-Err c =
    let by_old = c.in-Err.ensures.position (λ pair. pair.old) (answers_always _ _ _ (λ f a r g called. search rules)) in
    found_by c.args.moved.now c.args.code (Err c.in-Err.field-0) c.requires by_old
