use Rattle.std.proofs.Common.{◌++◌, List, ap, sym, ◌∙◌, append-nil}
use Rattle.path_code.specs.declared.moves.Recode.{Recode}
use Rattle.ope_tree.proofs.CodeLists.{unless-same, unless-other}
use Rattle.ope_tree.proofs.coding.push_moved.Goals as goal

pub returns-then-old-new : goal.returns-then-old-new
returns-then-old-new c =
    let none = unless-same c.args.old c.args.new (record { old = c.args.old; new = c.args.new }) c.if-old-new.true in
    sym (ap (λ (xs : List Recode). c.args.moved.now.items ++ xs) none ∙ append-nil c.args.moved.now.items)

pub returns : goal.returns
returns c =
    let one = unless-other c.args.old c.args.new (record { old = c.args.old; new = c.args.new }) c.if-old-new.false in
    c.in_ok-push.ensures.items ∙ sym (ap (λ (xs : List Recode). c.args.moved.now.items ++ xs) one)
