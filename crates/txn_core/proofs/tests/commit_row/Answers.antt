use Rattle.std.proofs.Common.{◌≡◌, true, List, [], ◌∷◌, refl, sym, subst}
use Rattle.mope_base.specs.declared.body.Body.{Body}
use Rattle.mope_base.specs.declared.numbers.TableNo.{TableNo}
use Rattle.tree_model.specs.declared.Place.TheVariants.{Gap}
use Rattle.table_model.specs.Operations.{RankOp, InsertAt}
use Rattle.versions.specs.Databases.{Database}
use Rattle.versions.specs.Newer.{names}
use Rattle.versions.specs.Operations.{OpsFit, op_table}
use Rattle.txn_core.specs.Courses.{AllTouched}
use Rattle.txn_core.proofs.Pasts.{past_later}
use Rattle.txn_core.proofs.tests.commit_row.Goals as goal

pub commit-requires-clause-fit : goal.commit-requires-clause-fit
commit-requires-clause-fit c =
    let e = c.in_ok-op.ensures in
    let yes : c.takes_row.result ≡ true = search c.if-not-takes_row.false in
    let row : List (RankOp Body) = InsertAt 0 (Gap c.args.rank ∷ []) (e.0 ∷ []) ∷ [] in
    let fits : OpsFit row c.args.base.now = subst (λ (d : Database). OpsFit row d) c.version.ensures (c.takes_row.ensures yes e.0) in
    subst (λ (ops : List (RankOp Body)). OpsFit ops c.args.base.now) (sym e.1) fits

pub commit-requires-clause-touched : goal.commit-requires-clause-touched
unfolding AllTouched names op_table
commit-requires-clause-touched c =
    let e = c.in_ok-op.ensures in
    let table : TableNo = record { 0 = 0 } in
    subst (λ (ops : List (RankOp Body)). AllTouched (table ∷ []) ops) (sym e.1) (refl, tt)

pub returns : goal.returns
returns c = record { later = λ past h. past_later c.args.state.now c.commit.new.self _ past c.in_ok-committed.ensures.first c.in_ok-committed.ensures.turn h }
