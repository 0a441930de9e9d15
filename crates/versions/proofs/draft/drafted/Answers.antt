use Rattle.std.proofs.Common.{[], List, sym, subst}
use Rattle.enc_table.specs.Seen.{Seen}
use Rattle.versions.specs.declared.draft.Logged.{Logged}
use Rattle.versions.specs.Databases.{table_at}
use Rattle.versions.specs.Drafts.{IsDraft}
use Rattle.versions.specs.Operations.{rank_ops}
use Rattle.versions.proofs.DraftSteps.{starts}
use Rattle.versions.proofs.draft.drafted.Goals as goal

pub ops-init : goal.ops-init
unfolding rank_ops
ops-init c =
    subst (λ (t : Seen). IsDraft c.args.version.now c.args.table.0 [] t c.new.result.items) (sym c.in_ok-copy_of.ensures)
    (subst (λ (log : List Logged). IsDraft c.args.version.now c.args.table.0 [] (table_at c.args.version.now c.args.table.0) log) (sym c.new.ensures.items)
    (starts c.args.version.now c.args.table.0 c.tables-database.ensures.database c.requires.there))
