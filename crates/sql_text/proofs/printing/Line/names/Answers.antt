use Rattle.std.proofs.Common.{List, ap, sym, ◌∙◌, map}
use Rattle.std.proofs.lemmas.List.{nil_from_length}
use Rattle.sql_text.specs.Grammar.{joined, name_tokens}
use Rattle.sql_text.specs.Written.{Written, put, put_all}
use Rattle.sql_text.specs.declared.Name.{Name}
use Rattle.sql_text.specs.declared.marks.Mark.TheVariants as mark
use Rattle.sql_text.specs.declared.tokens.Token.TheVariants.{Named}
use Rattle.sql_text.proofs.PrintedPuts.{joined_more, joined_all}
use Rattle.sql_text.proofs.printing.Line.names.Goals as goal

pub names-preserved : goal.names-preserved
unfolding put_all
names-preserved c =
    joined_more name_tokens mark.Comma c.names.self _ _ c.in-Some.others.now c.names.name-index c.name-item.result c.names-test.true c.name-item.is
    (c.in_ok-name-2.ensures ∙ ap (λ (w : Written). put w (Named c.name-item.result)) c.in_ok-mark.ensures)
    c.names.invariant

pub returns-after-names : goal.returns-after-names
unfolding put_all
returns-after-names c = joined_all name_tokens mark.Comma c.args.self.now c.name.new.self c.names.self c.args.names.now c.in-Some.first.now c.in-Some.others.now c.names.name-index c.in-Some.ensures.cases.0 c.in_ok-name.ensures c.names-test.false c.names.invariant

pub returns-in_default : goal.returns-in_default
unfolding put_all joined
returns-in_default c = ap (λ (rest : List Name). put_all c.args.self.now (joined mark.Comma (map name_tokens rest))) (sym (nil_from_length c.args.names.now c.in_default.ensures.cases))
