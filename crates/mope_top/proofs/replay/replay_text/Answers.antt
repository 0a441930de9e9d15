use Rattle.std.proofs.Common.{◌≡◌, ◌∙◌, ◌++◌, ap, subst, sym, ℕ, List, Some, map, flat_map}
use Rattle.mope_base.specs.Lists.{Each}
use Rattle.mope_top.specs.Replays.{if_asked, replay_settings}
use Rattle.mope_top.proofs.Reporting.{readable-logs, reported, told_of, was-shown}
use Rattle.proxy.specs.declared.outcomes.Finished.{Finished}
use Rattle.report.specs.ViewText.{IsWritable, view_text_of}
use Rattle.report.specs.WholeText.{text_of}
use Rattle.versions.specs.declared.turn.Turn.{Turn}
use Rattle.walk_proto.specs.declared.messages.Exchange.{Exchange}
use Rattle.workload.specs.declared.script.DoneTxn.{DoneTxn}
use Rattle.workload.specs.History.{history_of}
use Rattle.workload.specs.Report.{next_free_nonce}
use Rattle.mope_top.proofs.replay.replay_text.Goals as goal

pub with_view-requires : goal.with_view-requires
with_view-requires g c = subst (Each (Each IsWritable)) (sym c.in_ok-txns.ensures.logs) (readable-logs c.in_ok-finished.finished c.in_ok-finished.ensures.readable)

pub returns-clause-text : goal.returns-clause-text
unfolding told_of replay_settings
returns-clause-text g c = λ bytes spelled.
    let w = c.args.w.now in
    let r = c.args.replaying.now in
    reported r w bytes c.in_ok-whole.whole.items c.in_ok-finished.finished c.in_ok-finished.state (g.H.Watch.tells c.args.watch.now) (g.H.Watch.tells c.run_by.new.watch) c.requires.valid spelled c.in_ok-finished.ensures
    (c.in_ok-whole.ensures
    ∙ ap (λ (l : List ℕ). l ++ if_asked r.view (view_text_of w (record { mode = r.mode; logs = c.in_ok-txns.logs; turns = c.into_turns-turns.result }))) c.in_ok-text.ensures
    ∙ ap (λ (l : List Turn). text_of w (map (λ (turn : Turn). turn.session) l) (history_of c.in_ok-txns.txns) (Some (next_free_nonce r.first_nonce w)) ++ if_asked r.view (view_text_of w (record { mode = r.mode; logs = c.in_ok-txns.logs; turns = c.into_turns-turns.result }))) c.as_slice.ensures
    ∙ ap (λ (l : List Turn). text_of w (map (λ (turn : Turn). turn.session) l) (history_of c.in_ok-txns.txns) (Some (next_free_nonce r.first_nonce w)) ++ if_asked r.view (view_text_of w (record { mode = r.mode; logs = c.in_ok-txns.logs; turns = l }))) c.into_turns-turns.ensures.value
    ∙ ap (λ (l : List DoneTxn). text_of w (map (λ (turn : Turn). turn.session) c.in_ok-finished.state.turns) (history_of l) (Some (next_free_nonce r.first_nonce w)) ++ if_asked r.view (view_text_of w (record { mode = r.mode; logs = c.in_ok-txns.logs; turns = c.in_ok-finished.state.turns }))) c.in_ok-txns.ensures.txns
    ∙ ap (λ (l : List (List Exchange)). text_of w (map (λ (turn : Turn). turn.session) c.in_ok-finished.state.turns) (history_of (flat_map (λ (f : Finished). f.txns) c.in_ok-finished.finished)) (Some (next_free_nonce r.first_nonce w)) ++ if_asked r.view (view_text_of w (record { mode = r.mode; logs = l; turns = c.in_ok-finished.state.turns }))) c.in_ok-txns.ensures.logs)

pub returns-clause-shown : goal.returns-clause-shown
unfolding replay_settings
returns-clause-shown g c = λ bytes spelled. was-shown c.args.replaying.now c.args.w.now bytes c.in_ok-finished.finished c.in_ok-finished.state (g.H.Watch.tells c.args.watch.now) (g.H.Watch.tells c.run_by.new.watch) spelled c.in_ok-finished.ensures
