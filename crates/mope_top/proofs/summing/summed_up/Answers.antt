use Rattle.std.proofs.Common.{◌≡◌, ap, ◌∙◌, ℕ, List, flat_map, length}
use Rattle.mope_top.proofs.Summaries.{summed}
use Rattle.mope_top.specs.Replays.{summed_settings}
use Rattle.proxy.specs.declared.outcomes.Finished.{Finished}
use Rattle.report.specs.SummaryText.{summary_text_of}
use Rattle.versions.specs.declared.turn.Turn.{Turn}
use Rattle.workload.specs.declared.script.DoneTxn.{DoneTxn}
use Rattle.workload.specs.History.{history_of}
use Rattle.mope_top.proofs.summing.summed_up.Goals as goal

pub returns : goal.returns
unfolding summed_settings
returns c =
    let g = c.args.drawing in
    summed g c.args.w.now c.in_ok-text.text c.in_ok-finished.finished c.in_ok-finished.state _ _ c.rows_in.result c.requires.valid c.requires.spelled c.in_ok-finished.ensures c.rows_in.ensures
    (c.in_ok-text.ensures
    ∙ ap (λ (l : List DoneTxn). summary_text_of g.number g.sessions (length c.turns.result.now) l c.rows_in.result) (c.as_slice.ensures ∙ c.in_ok-sorted.ensures ∙ ap history_of c.in_ok-txns.ensures.txns)
    ∙ ap (λ (l : List Turn). summary_text_of g.number g.sessions (length l) (history_of (flat_map (λ (f : Finished). f.txns) c.in_ok-finished.finished)) c.rows_in.result) c.turns.ensures.value)
