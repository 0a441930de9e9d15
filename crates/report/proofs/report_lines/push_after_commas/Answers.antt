use Rattle.std.proofs.Common.{◌∙◌, ap, ◌++◌, get_or}
use Rattle.std.proofs.lemmas.List.{get_or_default}
use Rattle.mope_base.specs.declared.numbers.SessionNo.{SessionNo}
use Rattle.report.proofs.Appends.{after_comma, after_commas-pieces, all_pieces, more_pieces}
use Rattle.report.proofs.report_lines.push_after_commas.Goals as goal

pub sessions-preserved : goal.sessions-preserved
unfolding after_comma
sessions-preserved c =
    let session : SessionNo = get_or c.args.sessions.now c.sessions.session-index (record { 0 = 0 }) in
    more_pieces after_comma c.sessions.text.items c.push_number.new.text.items _ c.args.sessions.now c.sessions.session-index session c.sessions-test.true
    (get_or_default c.args.sessions.now c.sessions.session-index (record { 0 = 0 }) session c.sessions-test.true)
    c.in_ok-push_number.ensures
    c.sessions.invariant

pub returns : goal.returns
returns c =
    all_pieces after_comma c.sessions.text.items _ c.args.sessions.now c.sessions.session-index c.sessions-test.false c.sessions.invariant
    ∙ ap (λ l. c.args.text.now.items ++ l) (after_commas-pieces c.args.sessions.now)
