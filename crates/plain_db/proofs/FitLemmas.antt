-- The states that turns lead to fit what the program needs of them.
use Rattle.std.proofs.Common.{◌≡◌, refl, sym, ◌∙◌, ap, subst, ℕ, zero, suc, ◌≤◌, Bool, true, false, List, [], ◌∷◌, ◌++◌, map, length, get_or, Option, Some, None, arith}
use Rattle.std.proofs.lemmas.List.{length_push}
use Rattle.mope_base.specs.declared.numbers.TableNo.{TableNo}
use Rattle.mope_base.specs.declared.numbers.ColNo.{ColNo}
use Rattle.mope_base.specs.declared.numbers.SessionNo.{SessionNo}
use Rattle.workload.specs.declared.plain.PlainDb.{PlainDb}
use Rattle.workload.specs.declared.script.Act.{Act}
use Rattle.workload.specs.declared.script.Decl.{Decl}
use Rattle.workload.specs.declared.script.Piece.{Piece}
use Rattle.workload.specs.declared.script.Piece.TheVariants as piece
use Rattle.workload.specs.declared.script.Workload.{Workload}
use Rattle.workload.specs.PlainDatabase.{empty_table, empty_database, table_of, with_table}
use Rattle.mope_base.specs.Lists.{Each}
use Rattle.workload.specs.Transaction.{Work, going, stopped, started, table_named, after_act, after_acts, trial_of, work_of, Wish, ends, commits}
use Rattle.workload.specs.Run.{Run, Turn, Position, ready, committing, installing, number_of, version_of, initial, position_at, moved, with_done, begun, begin_turn, merged, committed_unless, commit_turn, installed_unless, install_turn, turn_from, take_turn, settled_from, settled}
use Rattle.plain_db.specs.Answerable.{IsNumbered, IncreaseBelow}
use Rattle.plain_db.specs.Trying.{AllNumbered}
use Rattle.plain_db.specs.Reached.{IsReached, at_start, by_turn, by_settling}
use Rattle.plain_db.proofs.TableOutcomes.{size}
use Rattle.plain_db.proofs.TrialLemmas.{stopped_never_goes}
use Rattle.plain_db.proofs.NumberLemmas.{each-set, table-numbered, going-numbered}
use Rattle.plain_db.proofs.VersionLemmas.{version-same, number-next, version-current}
use Rattle.plain_db.proofs.StoreLemmas.{version_cases}
use Rattle.plain_db.proofs.RunInvariant.{IsTried, Doing, SessionHolds, RunHolds}
use Rattle.plain_db.proofs.FinishLemmas.{initial_holds, take_turn_holds}
use Rattle.plain_db.proofs.OverLemmas.{settled_holds}

-- the rows of each version are numbered in order, and there are no more versions than turns
pub record RunFits (r : Run) : Type 0 where
  pub numbered : (m : ℕ) → AllNumbered (version_of r m)
  pub count : number_of r ≤ length r.turns

fits-same : (r next : Run) (turn : Turn) → next.older ≡ r.older → next.current ≡ r.current → next.turns ≡ r.turns ++ turn ∷ [] → RunFits r → RunFits next
unfolding number_of
fits-same r next turn older current turns h = record {
  numbered = λ m. subst AllNumbered (sym (version-same r next m older current)) (h.numbered m);
  count = omega (arith, ap length older, ap length turns, length_push r.turns turn, h.count);
}

fits-version : (r next : Run) (turn : Turn) → next.older ≡ r.older ++ r.current ∷ [] → AllNumbered next.current → next.turns ≡ r.turns ++ turn ∷ [] → RunFits r → RunFits next
fits-version r next turn older current turns h = record {
  numbered = λ m. version_cases r next m AllNumbered older (λ below. h.numbered m) (λ above. current);
  count = omega (arith, number-next r next older, ap length turns, length_push r.turns turn, h.count);
}

merged-numbered : (ops : List Act) (copy db : PlainDb) → AllNumbered copy → AllNumbered db → AllNumbered (merged ops copy db)
unfolding merged with_table
merged-numbered [] copy db c h = h
merged-numbered (op ∷ ops) copy db c h =
    merged-numbered ops copy (with_table db (table_named op) (table_of copy (table_named op))) c
    (each-set IsNumbered db.tables (table_named op).0 (table_of copy (table_named op)) h (table-numbered copy (table_named op) c))

-- a transaction's copy is numbered in order, and has as many tables

tried-numbered : (statements : List Act) (work end : Work) → AllNumbered work.copy → after_acts (going work) statements ≡ going end
    → AllNumbered end.copy × (length end.copy.tables ≡ length work.copy.tables)
unfolding after_acts work_of
tried-numbered [] work end h e =
    subst (λ trial. AllNumbered (work_of trial).copy × (length (work_of trial).copy.tables ≡ length work.copy.tables)) e (h, refl)
tried-numbered (statement ∷ statements) work end h e =
    elim (after_act (going work) statement) as (λ trial.
    after_act (going work) statement ≡ trial → after_acts trial statements ≡ going end → AllNumbered end.copy × (length end.copy.tables ≡ length work.copy.tables)) [
      | going next ↦ λ is e.
          let one : AllNumbered next.copy × (length next.copy.tables ≡ length work.copy.tables) = going-numbered work next statement h is in
          let rest : AllNumbered end.copy × (length end.copy.tables ≡ length next.copy.tables) = tried-numbered statements next end one.0 e in
          (rest.0, rest.1 ∙ one.1)
      | stopped t last ↦ λ is e. absurd (stopped_never_goes t last statements end e)
    ] refl e

pub trial-numbered : (db : PlainDb) (statements : List Act) (work : Work) → AllNumbered db → trial_of db statements ≡ going work
    → AllNumbered work.copy × (length work.copy.tables ≡ length db.tables)
unfolding trial_of started
trial-numbered db statements work h e = tried-numbered statements (started db) work h e

fits-begun : (wish : Wish) (r : Run) (s : SessionNo) (place : ℕ) (work : Work) (rest : List Piece) → RunFits r → RunFits (begun wish r s place work rest)
unfolding begun moved with_done
fits-begun (ends e) r s place work rest h = fits-same r _ _ refl refl refl h
fits-begun commits r s place work rest h = fits-same r _ _ refl refl refl h

fits-committed : (found : Option (TableNo × ℕ)) (r : Run) (s : SessionNo) (place base : ℕ) (work : Work) (rest : List Piece) → AllNumbered work.copy → RunFits r
    → RunFits (committed_unless found r s place base work rest)
unfolding committed_unless moved with_done
fits-committed (Some newer) r s place base work rest c h = fits-same r _ _ refl refl refl h
fits-committed None r s place base work rest c h =
    fits-version r _ _ refl (merged-numbered work.ops work.copy r.current c (subst AllNumbered (version-current r) (h.numbered (number_of r)))) refl h

fits-installed : (stale : Bool) (r : Run) (s : SessionNo) (place base : ℕ) (t : TableNo) (column : ColNo) (rest : List Piece) → RunFits r
    → RunFits (installed_unless stale r s place base t column rest)
unfolding installed_unless moved with_done
fits-installed true r s place base t column rest h = fits-same r _ _ refl refl refl h
fits-installed false r s place base t column rest h =
    fits-version r _ _ refl (subst AllNumbered (version-current r) (h.numbered (number_of r))) refl h

-- a session's copy, where it stands before a commit
pub copy-numbered : (w : Workload) (r : Run) (s : ℕ) (place base : ℕ) (work : Work) (rest : List Piece) → SessionHolds w r s (committing place base work rest) → RunFits r
    → AllNumbered work.copy × (length work.copy.tables ≡ size (version_of r base))
unfolding Doing size
copy-numbered w r s place base work rest session h =
    let tried : IsTried r base work rest session.pieces = session.doing in
    trial-numbered (version_of r base) tried.statements work (h.numbered base) tried.tried

fits-turn : (w : Workload) (r : Run) (s : SessionNo) (p : Position) → SessionHolds w r s.0 p → RunFits r → RunFits (turn_from p r s)
unfolding turn_from begin_turn moved commit_turn install_turn
fits-turn w r s (ready place []) session h = h
fits-turn w r s (ready place (piece.Txn statements rollback ∷ rest)) session h = fits-begun _ r s place _ rest h
fits-turn w r s (ready place (piece.Rebuild t column ∷ rest)) session h = fits-same r _ _ refl refl refl h
fits-turn w r s (committing place base work rest) session h =
    fits-committed _ r s place base work rest (copy-numbered w r s.0 place base work rest session h).0 h
fits-turn w r s (installing place base t column rest) session h = fits-installed _ r s place base t column rest h

fits-settled : (w : Workload) (r : Run) (s : SessionNo) (p : Position) → SessionHolds w r s.0 p → RunFits r → RunFits (settled_from p r s)
unfolding settled_from commit_turn install_turn
fits-settled w r s (ready place rest) session h = h
fits-settled w r s (committing place base work rest) session h =
    fits-committed _ r s place base work rest (copy-numbered w r s.0 place base work rest session h).0 h
fits-settled w r s (installing place base t column rest) session h = fits-installed _ r s place base t column rest h

empty-tables : (declarations : List Decl) → Each IsNumbered (map (λ (_ : Decl). empty_table) declarations)
unfolding Each empty_table IncreaseBelow
empty-tables [] = tt
empty-tables (d ∷ declarations) = (let h : 0 ≤ 1 = omega arith in h, empty-tables declarations)

initial-version : (w : Workload) (m : ℕ) → AllNumbered (get_or (empty_database w.tables ∷ []) m (empty_database w.tables))
unfolding empty_database
initial-version w zero = empty-tables w.tables
initial-version w (suc m) = empty-tables w.tables

fits-initial : (w : Workload) → RunFits (initial w)
unfolding initial version_of number_of
fits-initial w = record { numbered = initial-version w; count = let h : 0 ≤ 0 = omega arith in h }

pub reached_holds : (w : Workload) (r : Run) → IsReached w r → RunHolds w r
reached_holds w r at_start = initial_holds w
reached_holds w r (by_turn before reached s) = take_turn_holds w before s (reached_holds w before reached)
reached_holds w r (by_settling before reached s) = settled_holds w before s (reached_holds w before reached)

pub reached_fits : (w : Workload) (r : Run) → IsReached w r → RunFits r
unfolding take_turn settled
reached_fits w r at_start = fits-initial w
reached_fits w r (by_turn before reached s) =
    fits-turn w before s (position_at before.positions s.0) ((reached_holds w before reached).sessions s.0) (reached_fits w before reached)
reached_fits w r (by_settling before reached s) =
    fits-settled w before s (position_at before.positions s.0) ((reached_holds w before reached).sessions s.0) (reached_fits w before reached)
