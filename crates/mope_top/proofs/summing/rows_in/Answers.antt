use Rattle.std.proofs.Common.{◌≡◌, sym, ap, subst, ◌∙◌, ℕ, ◌<◌, length}
use Rattle.std.proofs.lemmas.Bool.{false≢true}
use Rattle.enc_table.specs.Seen.{Seen}
use Rattle.table_model.specs.Operations.{shelf_at}
use Rattle.versions.specs.Databases.{Database, table_at}
use Rattle.mope_top.proofs.Summaries.{no-rows}
use Rattle.mope_top.proofs.summing.rows_in.Goals as goal

pub returns-in-None : goal.returns-in-None
returns-in-None c =
    no-rows c.args.state.now.current.shelves
    (λ some. false≢true (c.in-None.ensures.there.1 (subst (λ (d : Database). 0 < length d.shelves) (sym (c.version.ensures ∙ c.snapshot.ensures.value)) some)))

pub returns-in-Some : goal.returns-in-Some
unfolding table_at
returns-in-Some c =
    c.rows.ensures.value
    ∙ ap (λ (t : Seen). length t.shelf.kept) c.in-Some.ensures.value
    ∙ ap (λ (d : Database). length (shelf_at d.shelves 0).kept) (c.version.ensures ∙ c.snapshot.ensures.value)
