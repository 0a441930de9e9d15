use Rattle.std.proofs.Common.{ℕ, List, ap, sym, ◌∙◌, map, get_or}
use Rattle.std.proofs.lemmas.List.{nil_from_length, get_or_default}
use Rattle.sql_text.specs.Grammar.{joined, number_tokens}
use Rattle.sql_text.specs.Written.{Written, put, put_all}
use Rattle.sql_text.specs.declared.marks.Mark.TheVariants as mark
use Rattle.sql_text.specs.declared.tokens.Token.TheVariants.{Number}
use Rattle.sql_text.proofs.PrintedPuts.{joined_more, joined_all}
use Rattle.sql_text.proofs.printing.Line.numbers.Goals as goal

pub numbers-preserved : goal.numbers-preserved
unfolding put_all
numbers-preserved c =
    let number : ℕ = get_or c.in-Some.others.now c.numbers.number-index 0 in
    joined_more number_tokens mark.Comma c.numbers.self _ _ c.in-Some.others.now c.numbers.number-index number c.numbers-test.true
    (get_or_default c.in-Some.others.now c.numbers.number-index 0 number c.numbers-test.true)
    (c.in_ok-number-2.ensures ∙ ap (λ (w : Written). put w (Number number)) c.in_ok-mark.ensures)
    c.numbers.invariant

pub returns-after-numbers : goal.returns-after-numbers
unfolding put_all
returns-after-numbers c = joined_all number_tokens mark.Comma c.args.self.now c.number.new.self c.numbers.self c.args.numbers.now c.in-Some.first.now c.in-Some.others.now c.numbers.number-index c.in-Some.ensures.cases.0 c.in_ok-number.ensures c.numbers-test.false c.numbers.invariant

pub returns-in_default : goal.returns-in_default
unfolding put_all joined
returns-in_default c = ap (λ (rest : List ℕ). put_all c.args.self.now (joined mark.Comma (map number_tokens rest))) (sym (nil_from_length c.args.numbers.now c.in_default.ensures.cases))
