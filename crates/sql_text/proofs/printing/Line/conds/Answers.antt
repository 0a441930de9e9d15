use Rattle.std.proofs.Common.{◌≡◌, List, ◌∷◌, ap, sym, ◌∙◌, refl, map}
use Rattle.std.proofs.lemmas.List.{nil_from_length}
use Rattle.sql_text.specs.Grammar.{joined, cond_tokens, where_tokens}
use Rattle.sql_text.specs.Written.{Written, put_all}
use Rattle.sql_text.specs.declared.marks.Mark.TheVariants as mark
use Rattle.sql_text.specs.declared.statements.Cond.{Cond}
use Rattle.sql_text.proofs.PrintedPuts.{joined_more, joined_all}
use Rattle.sql_text.proofs.printing.Line.conds.Goals as goal

pub conds-preserved : goal.conds-preserved
conds-preserved c =
    joined_more cond_tokens mark.And c.conds.self _ _ c.in-Some.others.now c.conds.cond-index c.cond-item.result c.conds-test.true c.cond-item.is
    (c.in_ok-cond-2.ensures ∙ ap (λ (w : Written). put_all w (cond_tokens c.cond-item.result)) c.in_ok-mark-2.ensures)
    c.conds.invariant

pub returns-after-conds : goal.returns-after-conds
unfolding put_all where_tokens
returns-after-conds c =
    let all : List Cond = c.in-Some.first.now ∷ c.in-Some.others.now in
    let whole : c.conds.self ≡ put_all c.mark.new.self (joined mark.And (map cond_tokens all)) = joined_all cond_tokens mark.And c.mark.new.self c.cond.new.self c.conds.self all c.in-Some.first.now c.in-Some.others.now c.conds.cond-index refl c.in_ok-cond.ensures c.conds-test.false c.conds.invariant in
    whole ∙ (ap (λ (w : Written). put_all w (joined mark.And (map cond_tokens all))) c.in_ok-mark.ensures ∙ ap (λ (conds : List Cond). put_all c.args.self.now (where_tokens conds)) (sym c.in-Some.ensures.cases.0))

pub returns-in_default : goal.returns-in_default
unfolding put_all where_tokens
returns-in_default c = ap (λ (conds : List Cond). put_all c.args.self.now (where_tokens conds)) (sym (nil_from_length c.args.conds.now c.in_default.ensures.cases))
