use Rattle.std.proofs.Common.{◌∙◌, subst, inl, inr}
use Rattle.mope_top.specs.Batch.{HasText, TellsDrawn}
use Rattle.mope_top.specs.Replays.{Reports}
use Rattle.command_words.specs.Grammar.{texts}
use Rattle.mope_top.proofs.BatchLemmas.{text-replayed, text-replay_fault, text-file, text-fault, text-drawn, text-wrong_words, stops-drawn, stops-wrong_words, wrote, wrote_some}
use Rattle.mope_top.proofs.batch.mope_batch.Goals as goal

pub returns-in-Ok-write_all-clause-wrong_words : goal.returns-in-Ok-write_all-clause-wrong_words
returns-in-Ok-write_all-clause-wrong_words g c = λ wrong. record {
  left = (c.judge.ensures.wrong_words wrong).0;
  faults = (c.judge.ensures.wrong_words wrong).1;
  status_is = inl (text-wrong_words _ _ _ _ _ wrong c.in-Ok.ensures.text).0;
}

pub returns-in-Ok-write_all-clause-complete : goal.returns-in-Ok-write_all-clause-complete
returns-in-Ok-write_all-clause-complete g c = λ r bytes w right known file reads writes.
    let has = subst (λ left. HasText c.in-Ok.verdict.status (texts c.args.words.now) left (g.S.Source.left c.judge.new.input) c.in-Ok.verdict.text.items) known c.in-Ok.ensures.text in
    wrote_some _ _ _ _ _ _ (Reports r bytes) (text-replayed _ _ bytes _ _ r w right file has) c.deref.ensures.value c.in-Ok-write_all.ensures.ok

pub returns-in-Ok-write_all-clause-complete_plain : goal.returns-in-Ok-write_all-clause-complete_plain
returns-in-Ok-write_all-clause-complete_plain g c = λ turns bytes w right known file reads writes.
    let has = subst (λ left. HasText c.in-Ok.verdict.status (texts c.args.words.now) left (g.S.Source.left c.judge.new.input) c.in-Ok.verdict.text.items) known c.in-Ok.ensures.text in
    let same = text-file _ _ bytes _ _ turns w right file has in
    wrote _ _ _ _ _ _ (same.0, c.deref.ensures.value ∙ same.1) c.in-Ok-write_all.ensures.ok

pub returns-in-Ok-write_all-clause-complete_generate : goal.returns-in-Ok-write_all-clause-complete_generate
returns-in-Ok-write_all-clause-complete_generate g c = λ drawn right writes.
    wrote_some _ _ _ _ _ _ (TellsDrawn drawn.text drawn) (text-drawn _ _ _ _ _ drawn right c.in-Ok.ensures.text) c.deref.ensures.value c.in-Ok-write_all.ensures.ok

pub returns-in-Ok-write_all-clause-refuses_file : goal.returns-in-Ok-write_all-clause-refuses_file
returns-in-Ok-write_all-clause-refuses_file g c = λ r bytes line why right known file reads writes.
    let has = subst (λ left. HasText c.in-Ok.verdict.status (texts c.args.words.now) left (g.S.Source.left c.judge.new.input) c.in-Ok.verdict.text.items) known c.in-Ok.ensures.text in
    let same = text-replay_fault _ _ bytes _ _ r line why right file has in
    wrote _ _ _ _ _ _ (same.0, c.deref.ensures.value ∙ same.1) c.in-Ok-write_all.ensures.ok

pub returns-in-Ok-write_all-clause-refuses_file_plainly : goal.returns-in-Ok-write_all-clause-refuses_file_plainly
returns-in-Ok-write_all-clause-refuses_file_plainly g c = λ turns bytes line why right known file reads writes.
    let has = subst (λ left. HasText c.in-Ok.verdict.status (texts c.args.words.now) left (g.S.Source.left c.judge.new.input) c.in-Ok.verdict.text.items) known c.in-Ok.ensures.text in
    let same = text-fault _ _ bytes _ _ turns line why right file has in
    wrote _ _ _ _ _ _ (same.0, c.deref.ensures.value ∙ same.1) c.in-Ok-write_all.ensures.ok

pub returns-in-Ok-write_all-clause-refuses_words : goal.returns-in-Ok-write_all-clause-refuses_words
returns-in-Ok-write_all-clause-refuses_words g c = λ wrong writes.
    let same = text-wrong_words _ _ _ _ _ wrong c.in-Ok.ensures.text in
    wrote _ _ _ _ _ _ (same.0, c.deref.ensures.value ∙ same.1) c.in-Ok-write_all.ensures.ok

pub returns-clause-wrong_words : goal.returns-clause-wrong_words
returns-clause-wrong_words g c = λ wrong. record {
  left = (c.judge.ensures.wrong_words wrong).0;
  faults = (c.judge.ensures.wrong_words wrong).1;
  status_is = inr (inr (stops-wrong_words _ _ _ _ wrong c.in-Err.ensures.stopped));
}

pub returns-clause-refuses_words : goal.returns-clause-refuses_words
returns-clause-refuses_words g c = λ wrong writes. inr (stops-wrong_words _ _ _ _ wrong c.in-Err.ensures.stopped)

pub returns-clause-complete_generate : goal.returns-clause-complete_generate
returns-clause-complete_generate g c = λ drawn right writes. inr (stops-drawn _ _ _ _ drawn right c.in-Err.ensures.stopped)

pub returns-in-Ok-write_all-clause-shown : goal.returns-in-Ok-write_all-clause-shown
returns-in-Ok-write_all-clause-shown g c = λ r done right. c.in-Ok.ensures.shown r right done
