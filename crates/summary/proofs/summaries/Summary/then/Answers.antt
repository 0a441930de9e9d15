use Rattle.std.proofs.Common.{◌≡◌, ap, sym, subst, ◌∙◌}
use Rattle.path_code.specs.Sums.{Sum}
use Rattle.code_changes.specs.Changes.{applied, list_after, Fits}
use Rattle.code_changes.specs.Compositions.{applied_both, both_on}
use Rattle.code_changes.proofs.Both.{both_added, both_compose}
use Rattle.summary.proofs.Steps.{IfOk-map}
use Rattle.summary.proofs.summaries.Summary.then.Goals as goal

pub returns-clause-fits : goal.returns-clause-fits
returns-clause-fits c = λ codes fit.
    let s = c.args.self.now in
    let next = c.args.next.now in
    IfOk-map c.composed.result (λ both. both ≡ both_on s next codes) (λ both. Fits both codes)
    (λ both e. subst (λ (b : Sum). Fits b codes) (sym e) (both_compose s next codes fit).fits) (c.composed.ensures codes fit)

pub returns-clause-after : goal.returns-clause-after
returns-clause-after c = λ codes fit.
    let s = c.args.self.now in
    let next = c.args.next.now in
    IfOk-map c.composed.result (λ both. both ≡ both_on s next codes) (λ both. list_after both codes ≡ list_after next (list_after s codes))
    (λ both e. ap (λ (b : Sum). list_after b codes) e ∙ (both_compose s next codes fit).gives) (c.composed.ensures codes fit)

pub returns-clause-each : goal.returns-clause-each
returns-clause-each c = λ codes code fit among.
    let s = c.args.self.now in
    let next = c.args.next.now in
    IfOk-map c.composed.result (λ both. both ≡ both_on s next codes) (λ both. applied both code ≡ applied_both s next code)
    (λ both e. ap (λ (b : Sum). applied b code) e ∙ (both_compose s next codes fit).applies code among) (c.composed.ensures codes fit)

pub returns-clause-added : goal.returns-clause-added
returns-clause-added c =
    let s = c.args.self.now in
    let next = c.args.next.now in
    let codes = c.requires.in_turn.0 in
    IfOk-map c.composed.result (λ both. both ≡ both_on s next codes) (λ both. both.added ≡ list_after next s.added)
    (λ both e. ap (λ (b : Sum). b.added) e ∙ both_added s next codes) (c.composed.ensures codes c.requires.in_turn.1)
