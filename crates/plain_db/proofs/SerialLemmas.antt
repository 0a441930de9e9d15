-- The history of every run is serial.
use Rattle.std.proofs.Common.{◌≡◌, sym, ◌∙◌, ap, subst, ℕ, suc, ◌*◌, ◌≤◌, List, [], ◌∷◌, ◌++◌, Option, Some, None, arith}
use Rattle.std.proofs.lemmas.List.{append-nil}
use Rattle.mope_base.specs.declared.numbers.SessionNo.{SessionNo}
use Rattle.workload.specs.declared.plain.PlainDb.{PlainDb}
use Rattle.workload.specs.declared.script.DoneTxn.{DoneTxn}
use Rattle.workload.specs.declared.script.Workload.{Workload}
use Rattle.workload.specs.PlainDatabase.{empty_database}
use Rattle.workload.specs.Selection.{ordered}
use Rattle.workload.specs.Run.{Run, ready, number_of, version_of, initial, take_turns, finished_sessions, session_numbers, run}
use Rattle.workload.specs.History.{number_got, rank_of, comes_before, history_of, history, kept_if, IsVersion, Repeats, database_after, EachRepeats, script_of, places_of, places_from, EachHasCause, Serial}
use Rattle.mope_base.specs.Lists.{Each}
use Rattle.plain_db.proofs.EachLemmas.{each-weaker, each-ordered}
use Rattle.plain_db.proofs.RankLemmas.{sorted-ordered, places-ordered}
use Rattle.plain_db.proofs.ChainLemmas.{next_of, Numbered, count-ordered, Chain, chained}
use Rattle.plain_db.proofs.RunInvariant.{TxnHolds, Doing, SessionHolds, RunHolds}
use Rattle.plain_db.proofs.FinishLemmas.{initial_holds, take_turns_holds}
use Rattle.plain_db.proofs.OverLemmas.{IsReady, all_over, sessions_hold}

-- the database after a transaction is the version that stands next
kept-version : (r : Run) (number : Option ℕ) (k : ℕ) (effect db : PlainDb) → db ≡ version_of r k → IsVersion r number effect
    → kept_if number effect db ≡ version_of r (next_of number k)
unfolding kept_if next_of
kept-version r None k effect db stands is = stands
kept-version r (Some number) k effect db stands is = is

-- a chain of transactions that hold repeats
each_repeats : (w : Workload) (r : Run) (k : ℕ) (db : PlainDb) (txns : List DoneTxn) → Each (TxnHolds w r) txns → Chain k txns
    → db ≡ version_of r k → EachRepeats w r db txns
unfolding Each Chain EachRepeats database_after
each_repeats w r k db [] holds chain stands = tt
each_repeats w r k db (t ∷ txns) holds chain stands =
    let repeats : Repeats w r db t =
    subst (λ d. Repeats w r d t) (ap (λ n. version_of r n) chain.0 ∙ sym stands) holds.0.repeats in (
      repeats,
      each_repeats w r (next_of (number_got t.end) k) (database_after w db t) txns holds.1 chain.1
          (kept-version r (number_got t.end) k _ db stands repeats.version),
    )

each_cause : (w : Workload) (r : Run) (txns : List DoneTxn) → Each (TxnHolds w r) txns → EachHasCause r txns
unfolding Each EachHasCause
each_cause w r [] holds = tt
each_cause w r (t ∷ txns) holds = (holds.0.cause, each_cause w r txns holds.1)

each_any : (P : DoneTxn → Type 0) (txns : List DoneTxn) → ((t : DoneTxn) → P t) → Each P txns
unfolding Each
each_any P [] h = tt
each_any P (t ∷ txns) h = (h t, each_any P txns h)

history_chain : (w : Workload) (r : Run) → RunHolds w r → Chain 0 (ordered comes_before r.done)
history_chain w r holds =
    chained (number_of r) 0 (ordered comes_before r.done) (sorted-ordered r.done)
    (each-ordered (λ (t : DoneTxn). Numbered (number_of r) (number_got t.end) t.base) comes_before r.done
    (each-weaker (TxnHolds w r) (λ (t : DoneTxn). Numbered (number_of r) (number_got t.end) t.base) r.done (λ t h. h.numbered) holds.txns))
    (each_any (λ (t : DoneTxn). 2 * 0 ≤ rank_of t) (ordered comes_before r.done) (λ t. omega arith))
    (λ n low below. count-ordered (suc n) r.done ∙ holds.once n below)

-- the places of a session that has ended are those of its whole script
whole_script : (w : Workload) (r : Run) (s : ℕ) → RunHolds w r → IsReady r.positions s [] → places_of s r.done ≡ places_from 1 (script_of w s)
unfolding Doing
whole_script w r s holds over =
    let session : SessionHolds w r s (ready over.place []) = subst (λ p. SessionHolds w r s p) over.stands (holds.sessions s) in
    session.places
    ∙ ap (λ l. places_from 1 l) (sym (session.script ∙ ap (λ l. session.finished ++ l) session.doing ∙ append-nil session.finished))

serial_by : (w : Workload) (r : Run) → RunHolds w r → ((s : ℕ) → IsReady r.positions s []) → Serial w r (history r)
unfolding history history_of
serial_by w r holds over =
    let txns : Each (TxnHolds w r) (ordered comes_before r.done) = each-ordered (TxnHolds w r) comes_before r.done holds.txns in
    record {
      repeats =
          each_repeats w r 0 (empty_database w.tables) (ordered comes_before r.done) txns (history_chain w r holds) (sym holds.store.first);
      in_script_order = λ s. places-ordered s r.done holds.pairs ∙ whole_script w r s holds (over s);
      causes = each_cause w r (ordered comes_before r.done) txns;
    }

pub serial : (w : Workload) (turns : List SessionNo) → Serial w (run w turns) (history (run w turns))
unfolding run
serial w turns =
    let taken : Run = take_turns (initial w) turns in
    let holds : RunHolds w taken = take_turns_holds w (initial w) turns (initial_holds w) in
    serial_by w (finished_sessions taken (session_numbers 1 w.sessions))
    (sessions_hold w taken (session_numbers 1 w.sessions) holds)
    (all_over w taken holds.size)
