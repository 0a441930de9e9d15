use Rattle.std.proofs.Common.{◌++◌, List, ap, sym, ◌∙◌, append-nil}
use Rattle.path_code.specs.declared.moves.Recode.{Recode}
use Rattle.summary.proofs.Steps.{pair_if-none, pair_if-same, pair_if-other}
use Rattle.summary.proofs.carrying.push_pair.Goals as goal

pub returns-in_default : goal.returns-in_default
returns-in_default c =
    let none = pair_if-none c.args.code c.args.becomes c.in_default.is in
    sym (ap (λ (xs : List Recode). c.args.moved.now.items ++ xs) none ∙ append-nil c.args.moved.now.items)

pub returns-then-new-code : goal.returns-then-new-code
returns-then-new-code c =
    let none = pair_if-same c.args.code c.in-Some.new c.args.becomes c.in-Some.is c.if-new-code.true in
    sym (ap (λ (xs : List Recode). c.args.moved.now.items ++ xs) none ∙ append-nil c.args.moved.now.items)

pub returns : goal.returns
returns c =
    let one = pair_if-other c.args.code c.in-Some.new c.args.becomes c.in-Some.is c.if-new-code.false in
    c.in_ok-push.ensures.items ∙ sym (ap (λ (xs : List Recode). c.args.moved.now.items ++ xs) one)
