-- What a turn of a session moves, and what it leaves.
use Rattle.std.proofs.Common.{◌≡◌, refl, sym, ◌∙◌, ap, subst, ℕ, zero, suc, ◌<◌, ◌≤◌, Bool, true, false, eqb, ltb, List, [], ◌∷◌, ◌++◌, length, get_or, Option, Some, None, arith}
use Rattle.std.proofs.lemmas.Bool.{eq-eqb, ne_eqb}
use Rattle.std.proofs.lemmas.List.{append-nil, length-append, get_or_append_left}
use Rattle.mope_base.specs.declared.numbers.TableNo.{TableNo}
use Rattle.mope_base.specs.declared.numbers.ColNo.{ColNo}
use Rattle.mope_base.specs.declared.numbers.SessionNo.{SessionNo}
use Rattle.versions.specs.declared.turn.Turn.{Turn}
use Rattle.workload.specs.declared.script.Act.{Act}
use Rattle.workload.specs.declared.script.Answer.{Answer}
use Rattle.workload.specs.declared.script.DoneTxn.{DoneTxn}
use Rattle.workload.specs.declared.script.End.{End}
use Rattle.workload.specs.declared.script.End.TheVariants as end
use Rattle.workload.specs.declared.script.Piece.{Piece}
use Rattle.workload.specs.declared.script.Piece.TheVariants as piece
use Rattle.workload.specs.Transaction.{Work, Wish, ends, commits, trial_of, work_of, wish_of}
use Rattle.workload.specs.Run.{Run, Position, ready, committing, installing, position_at, with_position, number_of, moved, with_done, begun, begin_turn, lowest_newer, committed_unless, commit_turn, installed_unless, install_turn, last_change, stamps_of, turn_from, take_turn}
use Rattle.transaction_laws.specs.Standing.{World}
use Rattle.run_laws.specs.Worlds.{RunSetting}
use Rattle.run_laws.specs.WorldRuns.{WorldRun, Session, Taken, session_at, with_session, world_at, begin_taken, commit_taken, install_taken, next_from, next_turn, older_with, current_with, after_taken, world_turn}
use Rattle.run_laws.specs.Seats.{own_if, done_by}

-- ---- the ended transactions of a session

own-append : (own : Bool) (t : DoneTxn) (mine all more : List DoneTxn) → all ≡ mine ++ more → own_if own t all ≡ own_if own t mine ++ more
unfolding own_if
own-append true t mine all more e = ap (λ (l : List DoneTxn). t ∷ l) e
own-append false t mine all more e = e

pub done-append : (k : ℕ) (done more : List DoneTxn) → done_by k (done ++ more) ≡ done_by k done ++ done_by k more
unfolding done_by
done-append k [] more = refl
done-append k (t ∷ done) more = own-append (eqb t.session.0 k) t (done_by k done) (done_by k (done ++ more)) (done_by k more) (done-append k done more)

-- ended transactions of one session
pub record AreOf (n : SessionNo) (ended : List DoneTxn) : Type 0 where
  pub own : done_by n.0 ended ≡ ended
  pub others : (k : ℕ) → (k ≡ n.0 → ⊥) → done_by k ended ≡ []

pub none_of : (n : SessionNo) → AreOf n []
unfolding done_by
none_of n = record { own = refl; others = λ k other. refl }

pub one_of : (t : DoneTxn) → AreOf t.session (t ∷ [])
unfolding done_by own_if
one_of t = record {
  own = ap (λ (b : Bool). own_if b t []) (eq-eqb t.session.0 t.session.0 refl);
  others = λ k other. ap (λ (b : Bool). own_if b t []) (ne_eqb t.session.0 k (λ e. other (sym e)));
}

-- ---- what a turn moves

pub record Moves (r next : WorldRun) (n : SessionNo) (session : Session) (p : Position) (ended : List DoneTxn) (turn : Turn) : Type 0 where
  pub positions : next.plain.positions ≡ with_position r.plain.positions n.0 p
  pub done : next.plain.done ≡ r.plain.done ++ ended
  pub own : AreOf n ended
  pub sessions : next.sessions ≡ with_session r.sessions n.0 session
  pub turns : next.turns ≡ r.turns ++ turn ∷ []
  pub worlds : (base : ℕ) → base ≤ length r.older → world_at next base ≡ world_at r base
  pub longer : length r.older ≤ length next.older

get-default : (l : List World) (i : ℕ) (a b : World) → i < length l → get_or l i a ≡ get_or l i b
get-default [] i a b h = absurd (omega (arith, h))
get-default (x ∷ l) zero a b h = refl
get-default (x ∷ l) (suc i) a b h = get-default l i a b (omega (arith, h))

world-stays : (made : Option World) (r : WorldRun) (plain : Run) (sessions : List Session) (turns : List Turn) (base : ℕ) → base ≤ length r.older
    → world_at (record { plain = plain; older = older_with made r.older r.current; current = current_with made r.current; sessions = sessions; turns = turns }) base ≡ world_at r base
unfolding world_at older_with current_with
world-stays None r plain sessions turns base within = refl
world-stays (Some made) r plain sessions turns base within = get_or_append_left (r.older ++ r.current ∷ []) (made ∷ []) made base (omega (arith, within, length-append r.older (r.current ∷ []))) ∙ get-default (r.older ++ r.current ∷ []) base made r.current (omega (arith, within, length-append r.older (r.current ∷ [])))

older-longer : (made : Option World) (older : List World) (current : World) → length older ≤ length (older_with made older current)
unfolding older_with
older-longer None older current = omega arith
older-longer (Some made) older current = omega (arith, length-append older (current ∷ []))

taken-moves : (r : WorldRun) (n : SessionNo) (taken : Taken) (p : Position) (ended : List DoneTxn) → (take_turn r.plain n).positions ≡ with_position r.plain.positions n.0 p → (take_turn r.plain n).done ≡ r.plain.done ++ ended → AreOf n ended → Moves r (after_taken (Some taken) r n) n taken.session p ended taken.turn
unfolding after_taken
taken-moves r n taken p ended positions done own = record {
  positions = positions;
  done = done;
  own = own;
  sessions = refl;
  turns = refl;
  worlds = λ base within. world-stays taken.made r (take_turn r.plain n) (with_session r.sessions n.0 taken.session) (r.turns ++ taken.turn ∷ []) base within;
  longer = older-longer taken.made r.older r.current;
}

-- ---- by the kind of the turn

unfoldable pub begun_place : Wish → ℕ → ℕ → Work → List Piece → Position
begun_place (ends e) place number work rest = ready (suc place) rest
begun_place commits place number work rest = committing place number work rest

unfoldable pub begun_ended : Wish → SessionNo → ℕ → ℕ → Work → List DoneTxn
begun_ended (ends e) n place number work = record { session = n; place = place; base = number; end = e; answers = work.answers } ∷ []
begun_ended commits n place number work = []

begun-positions : (wish : Wish) (r : Run) (n : SessionNo) (place : ℕ) (work : Work) (rest : List Piece) → (begun wish r n place work rest).positions ≡ with_position r.positions n.0 (begun_place wish place (number_of r) work rest)
unfolding begun moved with_done begun_place
begun-positions (ends e) r n place work rest = refl
begun-positions commits r n place work rest = refl

begun-done : (wish : Wish) (r : Run) (n : SessionNo) (place : ℕ) (work : Work) (rest : List Piece) → (begun wish r n place work rest).done ≡ r.done ++ begun_ended wish n place (number_of r) work
unfolding begun moved with_done begun_ended
begun-done (ends e) r n place work rest = refl
begun-done commits r n place work rest = sym (append-nil r.done)

begun-own : (wish : Wish) (n : SessionNo) (place number : ℕ) (work : Work) → AreOf n (begun_ended wish n place number work)
unfolding begun_ended
begun-own (ends e) n place number work = one_of (record { session = n; place = place; base = number; end = e; answers = work.answers })
begun-own commits n place number work = none_of n

-- the next turn where a session stands somewhere
pub turn-from : (s : RunSetting) (r : WorldRun) (n : SessionNo) (p : Position) → position_at r.plain.positions n.0 ≡ p → world_turn s r n ≡ after_taken (next_from s r n p) r n
unfolding world_turn next_turn
turn-from s r n p here = ap (λ (q : Position). after_taken (next_from s r n q) r n) here

plain-from : (r : WorldRun) (n : SessionNo) (p : Position) → position_at r.plain.positions n.0 ≡ p → take_turn r.plain n ≡ turn_from p r.plain n
unfolding take_turn
plain-from r n p here = ap (λ (q : Position). turn_from q r.plain n) here

pub none-taken : (s : RunSetting) (r : WorldRun) (n : SessionNo) (place : ℕ) → position_at r.plain.positions n.0 ≡ ready place [] → world_turn s r n ≡ r
unfolding next_from after_taken
none-taken s r n place here = turn-from s r n (ready place []) here

some-moves : (s : RunSetting) (r : WorldRun) (n : SessionNo) (taken : Taken) (q : Run) (p : Position) (ended : List DoneTxn) → world_turn s r n ≡ after_taken (Some taken) r n → take_turn r.plain n ≡ q → q.positions ≡ with_position r.plain.positions n.0 p → q.done ≡ r.plain.done ++ ended → AreOf n ended
    → Moves r (world_turn s r n) n taken.session p ended taken.turn
some-moves s r n taken q p ended is plain positions done own =
    subst (λ (next : WorldRun). Moves r next n taken.session p ended taken.turn) (sym is)
    (taken-moves r n taken p ended (ap (λ (x : Run). x.positions) plain ∙ positions) (ap (λ (x : Run). x.done) plain ∙ done) own)

pub begin-moves : (s : RunSetting) (r : WorldRun) (n : SessionNo) (place : ℕ) (acts : List Act) (rollback : Bool) (rest : List Piece) → position_at r.plain.positions n.0 ≡ ready place (piece.Txn acts rollback ∷ rest)
    → Moves r (world_turn s r n) n (begin_taken s r.current n (session_at r.sessions n.0) (piece.Txn acts rollback)).session
    (begun_place (wish_of rollback (trial_of r.plain.current acts)) place (number_of r.plain) (work_of (trial_of r.plain.current acts)) rest)
    (begun_ended (wish_of rollback (trial_of r.plain.current acts)) n place (number_of r.plain) (work_of (trial_of r.plain.current acts)))
    (begin_taken s r.current n (session_at r.sessions n.0) (piece.Txn acts rollback)).turn
unfolding next_from turn_from begin_turn
begin-moves s r n place acts rollback rest here =
    let p : Position = ready place (piece.Txn acts rollback ∷ rest) in
    let wish : Wish = wish_of rollback (trial_of r.plain.current acts) in
    let work : Work = work_of (trial_of r.plain.current acts) in
    some-moves s r n (begin_taken s r.current n (session_at r.sessions n.0) (piece.Txn acts rollback)) (begun wish r.plain n place work rest) (begun_place wish place (number_of r.plain) work rest) (begun_ended wish n place (number_of r.plain) work)
    (turn-from s r n p here) (plain-from r n p here) (begun-positions wish r.plain n place work rest) (begun-done wish r.plain n place work rest) (begun-own wish n place (number_of r.plain) work)

pub rebuild-moves : (s : RunSetting) (r : WorldRun) (n : SessionNo) (place : ℕ) (t : TableNo) (column : ColNo) (rest : List Piece) → position_at r.plain.positions n.0 ≡ ready place (piece.Rebuild t column ∷ rest)
    → Moves r (world_turn s r n) n (begin_taken s r.current n (session_at r.sessions n.0) (piece.Rebuild t column)).session (installing place (number_of r.plain) t column rest) [] (begin_taken s r.current n (session_at r.sessions n.0) (piece.Rebuild t column)).turn
unfolding next_from turn_from begin_turn moved
rebuild-moves s r n place t column rest here =
    let p : Position = ready place (piece.Rebuild t column ∷ rest) in
    some-moves s r n (begin_taken s r.current n (session_at r.sessions n.0) (piece.Rebuild t column)) (begin_turn r.plain n place (piece.Rebuild t column) rest) (installing place (number_of r.plain) t column rest) []
    (turn-from s r n p here) (plain-from r n p here) refl (sym (append-nil r.plain.done)) (none_of n)

-- the end of a commit, by whether a touched table was written since
unfoldable pub commit_end : Option (TableNo × ℕ) → ℕ → End
commit_end None number = end.Committed (suc number)
commit_end (Some newer) number = end.Conflict newer.0 newer.1

unfoldable pub ended_txn : SessionNo → ℕ → ℕ → End → List Answer → DoneTxn
ended_txn n place base e answers = record { session = n; place = place; base = base; end = e; answers = answers }

committed-positions : (found : Option (TableNo × ℕ)) (r : Run) (n : SessionNo) (place base : ℕ) (work : Work) (rest : List Piece) → (committed_unless found r n place base work rest).positions ≡ with_position r.positions n.0 (ready (suc place) rest)
unfolding committed_unless moved with_done
committed-positions None r n place base work rest = refl
committed-positions (Some newer) r n place base work rest = refl

committed-done : (found : Option (TableNo × ℕ)) (r : Run) (n : SessionNo) (place base : ℕ) (work : Work) (rest : List Piece) → (committed_unless found r n place base work rest).done ≡ r.done ++ ended_txn n place base (commit_end found (number_of r)) work.answers ∷ []
unfolding committed_unless moved with_done commit_end ended_txn
committed-done None r n place base work rest = refl
committed-done (Some newer) r n place base work rest = refl

pub commit-moves : (s : RunSetting) (r : WorldRun) (n : SessionNo) (place base : ℕ) (work : Work) (rest : List Piece) → position_at r.plain.positions n.0 ≡ committing place base work rest
    → Moves r (world_turn s r n) n (commit_taken s (world_at r base) r.current n (session_at r.sessions n.0) (lowest_newer 0 r.plain.stamps base work.touched)).session (ready (suc place) rest)
    (ended_txn n place base (commit_end (lowest_newer 0 r.plain.stamps base work.touched) (number_of r.plain)) work.answers ∷ [])
    (commit_taken s (world_at r base) r.current n (session_at r.sessions n.0) (lowest_newer 0 r.plain.stamps base work.touched)).turn
unfolding next_from turn_from commit_turn ended_txn
commit-moves s r n place base work rest here =
    let p : Position = committing place base work rest in
    let found : Option (TableNo × ℕ) = lowest_newer 0 r.plain.stamps base work.touched in
    let txn : DoneTxn = ended_txn n place base (commit_end found (number_of r.plain)) work.answers in
    some-moves s r n (commit_taken s (world_at r base) r.current n (session_at r.sessions n.0) found) (commit_turn r.plain n place base work rest) (ready (suc place) rest) (txn ∷ [])
    (turn-from s r n p here) (plain-from r n p here) (committed-positions found r.plain n place base work rest) (committed-done found r.plain n place base work rest) (one_of txn)

-- the end of an install, by whether its table was changed since
unfoldable pub install_end : TableNo → Bool → ℕ → ℕ → End
install_end t true newer number = end.Stale t newer
install_end t false newer number = end.Installed (suc number)

installed-positions : (stale : Bool) (r : Run) (n : SessionNo) (place base : ℕ) (t : TableNo) (column : ColNo) (rest : List Piece) → (installed_unless stale r n place base t column rest).positions ≡ with_position r.positions n.0 (ready (suc place) rest)
unfolding installed_unless moved with_done
installed-positions true r n place base t column rest = refl
installed-positions false r n place base t column rest = refl

installed-done : (stale : Bool) (r : Run) (n : SessionNo) (place base : ℕ) (t : TableNo) (column : ColNo) (rest : List Piece) → (installed_unless stale r n place base t column rest).done ≡ r.done ++ ended_txn n place base (install_end t stale (last_change (stamps_of r t)) (number_of r)) [] ∷ []
unfolding installed_unless moved with_done install_end ended_txn
installed-done true r n place base t column rest = refl
installed-done false r n place base t column rest = refl

pub install-moves : (s : RunSetting) (r : WorldRun) (n : SessionNo) (place base : ℕ) (t : TableNo) (column : ColNo) (rest : List Piece) → position_at r.plain.positions n.0 ≡ installing place base t column rest
    → Moves r (world_turn s r n) n (install_taken r.current n (session_at r.sessions n.0) t column (ltb base (last_change (stamps_of r.plain t))) (last_change (stamps_of r.plain t))).session (ready (suc place) rest)
    (ended_txn n place base (install_end t (ltb base (last_change (stamps_of r.plain t))) (last_change (stamps_of r.plain t)) (number_of r.plain)) [] ∷ [])
    (install_taken r.current n (session_at r.sessions n.0) t column (ltb base (last_change (stamps_of r.plain t))) (last_change (stamps_of r.plain t))).turn
unfolding next_from turn_from install_turn ended_txn
install-moves s r n place base t column rest here =
    let p : Position = installing place base t column rest in
    let newer : ℕ = last_change (stamps_of r.plain t) in
    let stale : Bool = ltb base newer in
    let txn : DoneTxn = ended_txn n place base (install_end t stale newer (number_of r.plain)) [] in
    some-moves s r n (install_taken r.current n (session_at r.sessions n.0) t column stale newer) (install_turn r.plain n place base t column rest) (ready (suc place) rest) (txn ∷ [])
    (turn-from s r n p here) (plain-from r n p here) (installed-positions stale r.plain n place base t column rest) (installed-done stale r.plain n place base t column rest) (one_of txn)
