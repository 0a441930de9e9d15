use Rattle.std.proofs.Common.{◌≡◌, ◌∙◌, ap, sym, Some, None}
use Rattle.plain_db.specs.Running.{committed_state, newer_in}
use Rattle.plain_db.proofs.turning.commit.Goals as goal

pub returns-in-Some : goal.returns-in-Some
unfolding committed_state
returns-in-Some c =
    let found : newer_in 0 c.args.state.now.written c.args.base c.args.work.touched ≡ Some (c.in-Some.t, c.in-Some.number) =
    ap (λ l. newer_in 0 l c.args.base c.args.work.touched) (sym c.as_slice.ensures)
    ∙ ap (λ l. newer_in 0 c.as_slice.result.now c.args.base l) (sym c.as_slice-2.ensures)
    ∙ sym c.newer_than.ensures ∙ c.in-Some.is in
    rw found c.end_txn.ensures

pub returns-in-None : goal.returns-in-None
returns-in-None c =
    let unfound : newer_in 0 c.args.state.now.written c.args.base c.args.work.touched ≡ None =
    ap (λ l. newer_in 0 l c.args.base c.args.work.touched) (sym c.as_slice.ensures)
    ∙ ap (λ l. newer_in 0 c.as_slice.result.now c.args.base l) (sym c.as_slice-2.ensures)
    ∙ sym c.newer_than.ensures ∙ c.in-None.is in
    rw unfound c.make_version.ensures
