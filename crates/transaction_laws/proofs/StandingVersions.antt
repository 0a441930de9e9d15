-- A version that stands for a world is one that a transaction may begin on.
use Rattle.std.proofs.Common.{◌≡◌, ℕ, ◌≤◌, ◌^◌, Bool, List, ◌∙◌, sym, subst, arith}
use Rattle.mope_base.specs.Lists.{Each}
use Rattle.mope_base.specs.declared.body.Body.{Body}
use Rattle.table_model.specs.Standing.{AllStand}
use Rattle.value_cipher.specs.Cipher.{Cell, value_of, sealed}
use Rattle.versions.specs.Databases.{Database}
use Rattle.workload.specs.declared.script.Decl.{Decl}
use Rattle.workload.specs.PlainDatabase.{row_limit}
use Rattle.workload.specs.Validity.{IsValidDecl}
use Rattle.proxy.specs.Client.{Setting}
use Rattle.server_conn.specs.Connections.{held_on}
use Rattle.transaction_laws.specs.Queries.{AreDeclared}
use Rattle.transaction_laws.specs.Transactions.{MayRun}
use Rattle.transaction_laws.specs.Standing.{World, Stands}

pub standing_runs : (s : Setting) (tables : List Decl) (d : Database) (w : World) → Stands s.key d w → w.limit ≡ row_limit → Each IsValidDecl tables → AreDeclared tables w.stores → MayRun s tables d w.stores
unfolding held_on
standing_runs s tables d w stands full valid declared =
    let limit : d.limit ≡ row_limit = stands.limit ∙ full in
    let moded : AllStand Body Cell (sealed s.key) value_of d.same_time w.limit d.shelves w.stores = subst (λ (mode : Bool). AllStand Body Cell (sealed s.key) value_of mode w.limit d.shelves w.stores) (sym stands.mode) stands.tables in
    let stand : AllStand Body Cell (sealed s.key) value_of d.same_time d.limit d.shelves w.stores = subst (λ (limit : ℕ). AllStand Body Cell (sealed s.key) value_of d.same_time limit d.shelves w.stores) (sym stands.limit) moded in
    let low : d.limit ≤ 2 ^ 31 = subst (λ (limit : ℕ). limit ≤ 2 ^ 31) (sym limit) (omega arith) in
    record { shows = record { stand = stand; low = low }; valid = valid; declared = declared; limit = limit }
