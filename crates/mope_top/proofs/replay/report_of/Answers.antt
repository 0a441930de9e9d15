use Rattle.std.proofs.Common.{◌≡◌, ◌∙◌, ap, map, Some, ◌+◌, ◌*◌, length}
use Rattle.report.specs.WholeText.{text_of}
use Rattle.versions.specs.declared.turn.Turn.{Turn}
use Rattle.workload.specs.History.{history_of}
use Rattle.workload.specs.Report.{next_free_nonce}
use Rattle.mope_top.proofs.replay.report_of.Goals as goal

pub returns : goal.returns
unfolding next_free_nonce
returns c =
    c.into_vec.ensures ∙ c.in_ok-text.ensures
    ∙ ap (λ l. text_of c.args.w.now l c.as_slice-2.result.now (Some (c.args.first + length c.as_slice.result.now * 4294967296))) (c.deref.ensures.value ∙ c.in_ok-sessions.ensures)
    ∙ ap (λ l. text_of c.args.w.now (map (λ (turn : Turn). turn.session) c.args.turns.now) l (Some (c.args.first + length c.as_slice.result.now * 4294967296))) (c.as_slice-2.ensures ∙ c.in_ok-sorted.ensures)
    ∙ ap (λ l. text_of c.args.w.now (map (λ (turn : Turn). turn.session) c.args.turns.now) (history_of c.args.txns) (Some (c.args.first + length l * 4294967296))) c.as_slice.ensures
