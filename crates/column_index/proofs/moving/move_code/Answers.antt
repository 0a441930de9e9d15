use Rattle.std.proofs.Common.{◌≡◌, ◌<◌, ◌≤◌, length, get_or, ap, ◌∙◌, sym, arith}
use Rattle.std.proofs.lemmas.List.{get_or_default}
use Rattle.column_index.specs.declared.entry.Entry.{Entry}
use Rattle.column_index.proofs.Points.{first_of_run, ends_here, below-length}
use Rattle.column_index.proofs.Fronting.{moving_on, ok_of}
use Rattle.column_index.proofs.moving.move_code.Goals as goal

pub returns-then-entry-pair-clause-end : goal.returns-then-entry-pair-clause-end
returns-then-entry-pair-clause-end c =
    let nothing : Entry = record { enc = 0; row = 0 } in
    let lt : c.entries.place < length c.args.earlier.now = omega arith in
    let read = first_of_run c.args.earlier.now c.run_at.result.now c.entries.place nothing c.run_at.ensures.run (c.run_at.ensures.some lt) in
    ends_here c.args.pair.old c.args.earlier.now c.args.start c.entries.place c.requires.ordered c.requires.start c.entries.auto.place (omega arith) c.entries.invariant.same (λ d lt' same.
    c.if-entry-pair.true (ap (λ (e : Entry). e.enc) (read ∙ get_or_default c.args.earlier.now c.entries.place nothing d lt) ∙ same))

pub entries-preserved : goal.entries-preserved
entries-preserved c =
    let nothing : Entry = record { enc = 0; row = 0 } in
    let lt : c.entries.place < length c.args.earlier.now = omega arith in
    let read = first_of_run c.args.earlier.now c.run_at.result.now c.entries.place nothing c.run_at.ensures.run (c.run_at.ensures.some lt) in
    moving_on c.args.pair.old c.args.pair.new c.args.earlier.now c.args.entries.now c.entries.entries c.set.new.self c.args.start c.entries.place (get_or c.run_at.result.now 0 nothing) nothing lt c.entries.invariant read c.if-entry-pair.false
    (ok_of c.set.result c.set.ensures.ok (sym c.is_err.ensures.value ∙ c.if-is_err.false))

pub returns-clause-end : goal.returns-clause-end
returns-clause-end c =
    let begins : c.args.start ≤ c.len-count.result = omega (arith, below-length c.args.pair.old c.args.earlier.now) in
    let at : c.entries.place ≡ c.len-count.result = omega arith in
    ends_here c.args.pair.old c.args.earlier.now c.args.start c.len-count.result c.requires.ordered c.requires.start begins (omega arith) (λ k d from to. c.entries.invariant.same k d from (omega arith)) (λ d lt. absurd (omega arith))
