-- A run is what its turns do: the turns that were taken lead from the start to its end, and taken again to the same end.
use Rattle.std.proofs.Common.{◌≡◌, refl, sym, ◌∙◌, ap, ℕ, Bool, true, false, List, [], ◌∷◌, ◌++◌, map, Option, Some, None}
use Rattle.std.proofs.lemmas.Bool.{true≢false}
use Rattle.std.proofs.lemmas.List.{append-nil, append_assoc, map-append}
use Rattle.mope_base.specs.declared.numbers.TableNo.{TableNo}
use Rattle.mope_base.specs.declared.numbers.ColNo.{ColNo}
use Rattle.mope_base.specs.declared.numbers.SessionNo.{SessionNo}
use Rattle.workload.specs.declared.script.Piece.{Piece}
use Rattle.workload.specs.declared.script.Piece.TheVariants as piece
use Rattle.workload.specs.declared.script.Workload.{Workload}
use Rattle.workload.specs.Transaction.{Work, Wish, ends, commits}
use Rattle.workload.specs.Run.{Run, Turn, Position, ready, committing, installing, initial, position_at, moved, with_done, begun, begin_turn, committed_unless, commit_turn, installed_unless, install_turn, turn_from, take_turn, take_turns, settled_from, settled, unbegun, finished_pieces, finished_session, finished_sessions, session_numbers, run, turns_taken, SkipsNone, LeavesNone, IsComplete}
use Rattle.plain_db.proofs.RunInvariant.{RunHolds}
use Rattle.plain_db.proofs.StepLemmas.{is_over}
use Rattle.plain_db.proofs.FinishLemmas.{initial_holds, take_turns_holds}
use Rattle.plain_db.proofs.OverLemmas.{IsReady, all_over}

-- these turns lead from one state to another, and none of them is skipped
pub record AreTaken (r next : Run) (turns : List SessionNo) : Type 0 where
  pub lead : take_turns r turns ≡ next
  pub taken : turns_taken next ≡ turns_taken r ++ turns

-- some turns do so
pub record IsLed (r next : Run) : Type 0 where
  pub turns : List SessionNo
  pub are : AreTaken r next turns

pub turns-append : (r : Run) (earlier later : List SessionNo) → take_turns r (earlier ++ later) ≡ take_turns (take_turns r earlier) later
unfolding take_turns
turns-append r [] later = refl
turns-append r (s ∷ earlier) later = turns-append (take_turn r s) earlier later

-- no turn leads nowhere, and turns lead on

stays : (r : Run) → IsLed r r
unfolding take_turns
stays r = record { turns = []; are = record { lead = refl; taken = sym (append-nil (turns_taken r)) } }

leads_on : (r middle next : Run) → IsLed r middle → IsLed middle next → IsLed r next
leads_on r middle next earlier later = record {
  turns = earlier.turns ++ later.turns;
  are = record {
    lead =
        turns-append r earlier.turns later.turns
        ∙ ap (λ q. take_turns q later.turns) earlier.are.lead
        ∙ later.are.lead;
    taken =
        later.are.taken
        ∙ ap (λ l. l ++ later.turns) earlier.are.taken
        ∙ append_assoc (turns_taken r) earlier.turns later.turns;
  };
}

-- a turn of a session that hasn't ended is taken

moved-taken : (r : Run) (t : Turn) → map (λ (u : Turn). u.session) (r.turns ++ t ∷ []) ≡ turns_taken r ++ t.session ∷ []
unfolding turns_taken
moved-taken r t = map-append (λ (u : Turn). u.session) r.turns (t ∷ [])

begun-taken : (wish : Wish) (r : Run) (s : SessionNo) (place : ℕ) (work : Work) (rest : List Piece)
    → turns_taken (begun wish r s place work rest) ≡ turns_taken r ++ s ∷ []
unfolding begun moved with_done turns_taken
begun-taken (ends e) r s place work rest = moved-taken r _
begun-taken commits r s place work rest = moved-taken r _

begin-taken : (r : Run) (s : SessionNo) (place : ℕ) (present : Piece) (rest : List Piece)
    → turns_taken (begin_turn r s place present rest) ≡ turns_taken r ++ s ∷ []
unfolding begin_turn moved turns_taken
begin-taken r s place (piece.Txn statements rollback) rest = begun-taken _ r s place _ rest
begin-taken r s place (piece.Rebuild t column) rest = moved-taken r _

committed-taken : (found : Option (TableNo × ℕ)) (r : Run) (s : SessionNo) (place base : ℕ) (work : Work) (rest : List Piece)
    → turns_taken (committed_unless found r s place base work rest) ≡ turns_taken r ++ s ∷ []
unfolding committed_unless moved with_done turns_taken
committed-taken None r s place base work rest = moved-taken r _
committed-taken (Some newer) r s place base work rest = moved-taken r _

installed-taken : (stale : Bool) (r : Run) (s : SessionNo) (place base : ℕ) (t : TableNo) (column : ColNo) (rest : List Piece)
    → turns_taken (installed_unless stale r s place base t column rest) ≡ turns_taken r ++ s ∷ []
unfolding installed_unless moved with_done turns_taken
installed-taken true r s place base t column rest = moved-taken r _
installed-taken false r s place base t column rest = moved-taken r _

turn-taken : (p : Position) (r : Run) (s : SessionNo) → is_over p ≡ false → turns_taken (turn_from p r s) ≡ turns_taken r ++ s ∷ []
unfolding turn_from is_over commit_turn install_turn
turn-taken (ready place []) r s e = absurd (true≢false e)
turn-taken (ready place (present ∷ rest)) r s e = begin-taken r s place present rest
turn-taken (committing place base work rest) r s e = committed-taken _ r s place base work rest
turn-taken (installing place base t column rest) r s e = installed-taken _ r s place base t column rest

one_turn : (r : Run) (s : SessionNo) (p : Position) → position_at r.positions s.0 ≡ p → is_over p ≡ false → IsLed r (turn_from p r s)
unfolding take_turns take_turn
one_turn r s p here e = record {
  turns = s ∷ [];
  are = record { lead = ap (λ q. turn_from q r s) here; taken = turn-taken p r s e };
}

turn_from-led : (r : Run) (s : SessionNo) (p : Position) → position_at r.positions s.0 ≡ p → IsLed r (turn_from p r s)
unfolding turn_from is_over
turn_from-led r s (ready place []) here = stays r
turn_from-led r s (ready place (present ∷ rest)) here = one_turn r s (ready place (present ∷ rest)) here refl
turn_from-led r s (committing place base work rest) here = one_turn r s (committing place base work rest) here refl
turn_from-led r s (installing place base t column rest) here = one_turn r s (installing place base t column rest) here refl

turn-led : (r : Run) (s : SessionNo) → IsLed r (take_turn r s)
unfolding take_turn
turn-led r s = turn_from-led r s (position_at r.positions s.0) refl

-- so are the turns in which sessions finish

settled_from-led : (r : Run) (s : SessionNo) (p : Position) → position_at r.positions s.0 ≡ p → IsLed r (settled_from p r s)
unfolding settled_from turn_from
settled_from-led r s (ready place rest) here = stays r
settled_from-led r s (committing place base work rest) here = turn_from-led r s (committing place base work rest) here
settled_from-led r s (installing place base t column rest) here = turn_from-led r s (installing place base t column rest) here

settled-led : (r : Run) (s : SessionNo) → IsLed r (settled r s)
unfolding settled
settled-led r s = settled_from-led r s (position_at r.positions s.0) refl

turns-led : (r : Run) (turns : List SessionNo) → IsLed r (take_turns r turns)
unfolding take_turns
turns-led r [] = stays r
turns-led r (s ∷ turns) = leads_on r (take_turn r s) _ (turn-led r s) (turns-led (take_turn r s) turns)

pieces-led : (pieces : List Piece) (r : Run) (s : SessionNo) → IsLed r (finished_pieces pieces r s)
unfolding finished_pieces
pieces-led [] r s = stays r
pieces-led (p ∷ pieces) r s =
    leads_on r (take_turn r s) _ (turn-led r s)
    (leads_on (take_turn r s) (settled (take_turn r s) s) _ (settled-led (take_turn r s) s) (pieces-led pieces (settled (take_turn r s) s) s))

session-led : (r : Run) (s : SessionNo) → IsLed r (finished_session r s)
unfolding finished_session
session-led r s =
    leads_on r (settled r s) _ (settled-led r s) (pieces-led (unbegun (position_at r.positions s.0)) (settled r s) s)

sessions-led : (r : Run) (sessions : List SessionNo) → IsLed r (finished_sessions r sessions)
unfolding finished_sessions
sessions-led r [] = stays r
sessions-led r (s ∷ sessions) = leads_on r (finished_session r s) _ (session-led r s) (sessions-led (finished_session r s) sessions)

run-led : (w : Workload) (turns : List SessionNo) → IsLed (initial w) (run w turns)
unfolding run
run-led w turns =
    leads_on (initial w) (take_turns (initial w) turns) _ (turns-led (initial w) turns)
    (sessions-led (take_turns (initial w) turns) (session_numbers 1 w.sessions))

-- the turns that a run takes lead from the start to its end
pub taken-lead : (w : Workload) (turns : List SessionNo) → take_turns (initial w) (turns_taken (run w turns)) ≡ run w turns
unfolding initial turns_taken
taken-lead w turns =
    let led : IsLed (initial w) (run w turns) = run-led w turns in
    ap (λ l. take_turns (initial w) l) led.are.taken ∙ led.are.lead

-- where every session has ended, nothing is left to finish

over-finished : (r : Run) (s : SessionNo) → IsReady r.positions s.0 [] → finished_session r s ≡ r
unfolding finished_session settled settled_from unbegun finished_pieces
over-finished r s over = ap (λ p. finished_pieces (unbegun p) (settled_from p r s) s) over.stands

all-finished : (r : Run) (sessions : List SessionNo) → ((k : ℕ) → IsReady r.positions k []) → finished_sessions r sessions ≡ r
unfolding finished_sessions
all-finished r [] over = refl
all-finished r (s ∷ sessions) over =
    ap (λ q. finished_sessions q sessions) (over-finished r s (over s.0)) ∙ all-finished r sessions over

run-over : (w : Workload) (turns : List SessionNo) (k : ℕ) → IsReady (run w turns).positions k []
unfolding run
run-over w turns k =
    let holds : RunHolds w (take_turns (initial w) turns) = take_turns_holds w (initial w) turns (initial_holds w) in
    all_over w (take_turns (initial w) turns) holds.size k

run-finishes : (w : Workload) (turns : List SessionNo)
    → run w turns ≡ finished_sessions (take_turns (initial w) turns) (session_numbers 1 w.sessions)
unfolding run
run-finishes w turns = refl

pub turns-give_run : (w : Workload) (turns : List SessionNo) → run w (turns_taken (run w turns)) ≡ run w turns
turns-give_run w turns =
    run-finishes w (turns_taken (run w turns))
    ∙ ap (λ r. finished_sessions r (session_numbers 1 w.sessions)) (taken-lead w turns)
    ∙ all-finished (run w turns) (session_numbers 1 w.sessions) (run-over w turns)

pub taken-complete : (w : Workload) (turns : List SessionNo) → IsComplete w (turns_taken (run w turns))
taken-complete w turns = ap turns_taken (turns-give_run w turns)

pub complete-exact : (w : Workload) (turns : List SessionNo) → IsComplete w turns → SkipsNone w turns × LeavesNone w turns
complete-exact w turns complete =
    let leaves : LeavesNone w turns = sym (taken-lead w turns) ∙ ap (λ l. take_turns (initial w) l) complete in
    (ap turns_taken (sym leaves) ∙ complete, leaves)

pub exact-complete : (w : Workload) (turns : List SessionNo) → SkipsNone w turns → LeavesNone w turns → IsComplete w turns
exact-complete w turns skips leaves = ap turns_taken leaves ∙ skips
