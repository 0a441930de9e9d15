-- A begin turn keeps what holds of a run.
use Rattle.std.proofs.Common.{◌≡◌, refl, sym, ◌∙◌, ap, subst, ℕ, zero, suc, ◌+◌, ◌-◌, Bool, true, false, List, [], ◌∷◌, ◌++◌, length, get_or, None, arith}
use Rattle.std.proofs.lemmas.List.{append-nil, length-append, get_or_at}
use Rattle.mope_base.specs.declared.numbers.TableNo.{TableNo}
use Rattle.mope_base.specs.declared.numbers.ColNo.{ColNo}
use Rattle.mope_base.specs.declared.numbers.SessionNo.{SessionNo}
use Rattle.workload.specs.declared.plain.PlainDb.{PlainDb}
use Rattle.workload.specs.declared.script.Act.{Act}
use Rattle.workload.specs.declared.script.DoneTxn.{DoneTxn}
use Rattle.workload.specs.declared.script.End.{End}
use Rattle.workload.specs.declared.script.Piece.{Piece}
use Rattle.workload.specs.declared.script.Piece.TheVariants as piece
use Rattle.workload.specs.declared.script.Workload.{Workload}
use Rattle.workload.specs.Transaction.{Work, Trial, going, stopped, trial_of, work_of, Wish, ends, commits, wish_of, wish_after}
use Rattle.workload.specs.Run.{Run, Turn, began, ready, committing, installing, number_of, version_of, position_at, moved, with_done, begun, begin_turn}
use Rattle.workload.specs.History.{number_got, full_met, full_shown, piece_at, script_of, answers_on, full_on, effect_on, IsVersion, Repeats, HasCause}
use Rattle.plain_db.proofs.VersionLemmas.{version-current}
use Rattle.mope_base.specs.Lists.{Each}
use Rattle.plain_db.proofs.ChainLemmas.{seen_by, seen, Numbered}
use Rattle.plain_db.proofs.RunInvariant.{Extends, TxnHolds, place_in, base_in, Doing, SessionHolds, RunHolds}
use Rattle.plain_db.proofs.StepLemmas.{is_over, begins, MakesVersion}
use Rattle.plain_db.proofs.EndLemmas as ending
use Rattle.plain_db.proofs.StoreLemmas.{MakesNone, later-none, store-none}

-- the piece at a place of a script
script-there : (w : Workload) (k place : ℕ) (finished : List Piece) (present : Piece) (rest : List Piece)
    → script_of w k ≡ finished ++ present ∷ rest
    → get_or (get_or w.sessions (k - 1) []) (place - 1) (piece.Txn [] true) ≡ get_or (finished ++ present ∷ rest) (place - 1) (piece.Txn [] true)
unfolding script_of
script-there w zero place finished present rest script =
    let none : 0 ≡ length (finished ++ present ∷ rest) = ap length script in
    let some : length (finished ++ present ∷ rest) ≡ length finished + suc (length rest) = length-append finished (present ∷ rest) in
    absurd (omega (arith, none, some))
script-there w (suc i) place finished present rest script =
    let same : suc i - 1 ≡ i = omega arith in
    ap (λ n. get_or (get_or w.sessions n []) (place - 1) (piece.Txn [] true)) same
    ∙ ap (λ l. get_or l (place - 1) (piece.Txn [] true)) script

pub piece-here : (w : Workload) (s : SessionNo) (finished : List Piece) (present : Piece) (rest : List Piece) (place : ℕ)
    → script_of w s.0 ≡ finished ++ present ∷ rest → place ≡ suc (length finished)
    → piece_at w s place ≡ present
unfolding piece_at
piece-here w s finished present rest place script e =
    script-there w s.0 place finished present rest script
    ∙ get_or_at finished present rest (piece.Txn [] true) (place - 1) (omega (arith, e))

-- a transaction repeats on its version by what its piece gives there
pub repeats_by : (w : Workload) (r : Run) (t : DoneTxn) (db : PlainDb) (p : Piece) → piece_at w t.session t.place ≡ p
    → version_of r (seen t) ≡ db → answers_on p db ≡ t.answers → full_on p db ≡ full_shown t.end
    → IsVersion r (number_got t.end) (effect_on p db) → Repeats w r (version_of r (seen t)) t
repeats_by w r t db p is stands answers full version = record {
  answers = rw (is, stands) answers;
  full_table = rw (is, stands) full;
  version = subst (λ d. IsVersion r (number_got t.end) d) (ap (λ q. effect_on q db) (sym is) ∙ ap (λ d. effect_on (piece_at w t.session t.place) d) (sym stands)) version;
}

-- a transaction that ends at its begin has no number and no cause to name, and shows the full table that it met
unfoldable pub Fits : Trial → Wish → Type 0
Fits trial (ends e) = (number_got e ≡ None) × (full_met trial ≡ full_shown e) × ((r : Run) (t : DoneTxn) → HasCause r t e)
Fits trial commits = trial ≡ going (work_of trial)

wish_fits : (rollback : Bool) (ops : List Act) (work : Work) → Fits (going work) (wish_after rollback ops)
unfolding Fits wish_after number_got full_met full_shown HasCause work_of
wish_fits true ops work = (refl, refl, λ r t. tt)
wish_fits false [] work = (refl, refl, λ r t. tt)
wish_fits false (op ∷ ops) work = refl

trial_fits : (rollback : Bool) (trial : Trial) → Fits trial (wish_of rollback trial)
unfolding Fits wish_of number_got full_met full_shown HasCause
trial_fits rollback (stopped t work) = (refl, refl, λ r t. tt)
trial_fits rollback (going work) = wish_fits rollback work.ops work

-- the begin of a transaction that ends with it
begin_ends : (w : Workload) (r : Run) (s : SessionNo) (place : ℕ) (statements : List Act) (rollback : Bool) (rest : List Piece) (e : End)
    → Fits (trial_of r.current statements) (ends e)
    → position_at r.positions s.0 ≡ ready place (piece.Txn statements rollback ∷ rest) → RunHolds w r
    → RunHolds w (begun (ends e) r s place (work_of (trial_of r.current statements)) rest)
unfolding Fits begun moved with_done place_in base_in Doing is_over Each MakesVersion answers_on full_on Numbered seen seen_by number_of
begin_ends w r s place statements rollback rest e fits here holds =
    let present : Piece = piece.Txn statements rollback in
    let trial : Trial = trial_of r.current statements in
    let turn : Turn = record { session = s; place = place; kind = began (number_of r) } in
    let t : DoneTxn = record { session = s; place = place; base = number_of r; end = e; answers = (work_of trial).answers } in
    let next : Run = begun (ends e) r s place (work_of trial) rest in
    let none : MakesNone r next turn = record { older = refl; current = refl; stamps = refl; turns = refl } in
    let later : Extends r next = later-none r next turn none in
    let session : SessionHolds w r s.0 (ready place (present ∷ rest)) = subst (λ q. SessionHolds w r s.0 q) here (holds.sessions s.0) in
    let is : piece_at w s place ≡ present =
    piece-here w s session.finished present rest place (session.script ∙ ap (λ l. session.finished ++ l) session.doing) session.place in
    let stands : version_of next (seen t) ≡ r.current =
    ap (λ number. version_of next (seen_by number (number_of r))) fits.0 ∙ later.versions (number_of r) (omega arith) ∙ version-current r in
    let txn : TxnHolds w next t = record {
      numbered = subst (λ number. Numbered (number_of next) number (number_of r)) (sym fits.0) later.grows;
      repeats =
          repeats_by w next t r.current present is stands refl fits.1
          (subst (λ number. IsVersion next number (effect_on present r.current)) (sym fits.0) tt);
      cause = fits.2 next t;
    } in
    ending.ends w r next s.0 (ready place (present ∷ rest)) present rest t session session.doing holds
    (record { later = later; positions = refl; done = refl; own = (refl, tt) })
    (ap is_over here) (omega arith)
    (record {
      session = refl;
      place = refl;
      base = refl;
      makes = subst (λ number. MakesVersion number (number_of r) (number_of next)) (sym fits.0) refl;
    })
    txn (store-none w r next turn none holds.store)

-- the begin of a transaction that will commit
begin_commits : (w : Workload) (r : Run) (s : SessionNo) (place : ℕ) (statements : List Act) (rollback : Bool) (rest : List Piece)
    → Fits (trial_of r.current statements) commits
    → position_at r.positions s.0 ≡ ready place (piece.Txn statements rollback ∷ rest) → RunHolds w r
    → RunHolds w (begun commits r s place (work_of (trial_of r.current statements)) rest)
unfolding Fits begun moved place_in base_in Doing is_over Each number_of
begin_commits w r s place statements rollback rest fits here holds =
    let present : Piece = piece.Txn statements rollback in
    let work : Work = work_of (trial_of r.current statements) in
    let turn : Turn = record { session = s; place = place; kind = began (number_of r) } in
    let next : Run = begun commits r s place work rest in
    let none : MakesNone r next turn = record { older = refl; current = refl; stamps = refl; turns = refl } in
    let later : Extends r next = later-none r next turn none in
    let session : SessionHolds w r s.0 (position_at r.positions s.0) = holds.sessions s.0 in
    let pieces : session.pieces ≡ present ∷ rest = subst (λ q. Doing r q session.pieces) here session.doing in
    begins w r next s.0 (committing place (number_of r) work rest) session holds
    (record { later = later; positions = refl; done = sym (append-nil r.done); own = tt })
    (ap is_over here) (ap place_in (sym here)) (ap (λ q. base_in (number_of r) q) (sym here)) refl
    (record {
      statements = statements;
      rollback = rollback;
      is = pieces;
      tried = ap (λ db. trial_of db statements) (later.versions (number_of r) (omega arith) ∙ version-current r) ∙ fits;
      within = later.grows;
    })
    (store-none w r next turn none holds.store)

begin_rebuild : (w : Workload) (r : Run) (s : SessionNo) (place : ℕ) (t : TableNo) (column : ColNo) (rest : List Piece)
    → position_at r.positions s.0 ≡ ready place (piece.Rebuild t column ∷ rest) → RunHolds w r
    → RunHolds w (moved r s place (began (number_of r)) (installing place (number_of r) t column rest))
unfolding moved place_in base_in Doing is_over Each number_of
begin_rebuild w r s place t column rest here holds =
    let present : Piece = piece.Rebuild t column in
    let turn : Turn = record { session = s; place = place; kind = began (number_of r) } in
    let next : Run = moved r s place (began (number_of r)) (installing place (number_of r) t column rest) in
    let none : MakesNone r next turn = record { older = refl; current = refl; stamps = refl; turns = refl } in
    let later : Extends r next = later-none r next turn none in
    let session : SessionHolds w r s.0 (position_at r.positions s.0) = holds.sessions s.0 in
    let pieces : session.pieces ≡ present ∷ rest = subst (λ q. Doing r q session.pieces) here session.doing in
    begins w r next s.0 (installing place (number_of r) t column rest) session holds
    (record { later = later; positions = refl; done = sym (append-nil r.done); own = tt })
    (ap is_over here) (ap place_in (sym here)) (ap (λ q. base_in (number_of r) q) (sym here)) refl
    (record { is = pieces; within = later.grows })
    (store-none w r next turn none holds.store)

begin_wish : (w : Workload) (r : Run) (s : SessionNo) (place : ℕ) (statements : List Act) (rollback : Bool) (rest : List Piece) (wish : Wish)
    → Fits (trial_of r.current statements) wish
    → position_at r.positions s.0 ≡ ready place (piece.Txn statements rollback ∷ rest) → RunHolds w r
    → RunHolds w (begun wish r s place (work_of (trial_of r.current statements)) rest)
begin_wish w r s place statements rollback rest (ends e) fits here holds = begin_ends w r s place statements rollback rest e fits here holds
begin_wish w r s place statements rollback rest commits fits here holds = begin_commits w r s place statements rollback rest fits here holds

pub begin_holds : (w : Workload) (r : Run) (s : SessionNo) (place : ℕ) (present : Piece) (rest : List Piece)
    → position_at r.positions s.0 ≡ ready place (present ∷ rest) → RunHolds w r → RunHolds w (begin_turn r s place present rest)
unfolding begin_turn
begin_holds w r s place (piece.Txn statements rollback) rest here holds =
    let trial : Trial = trial_of r.current statements in
    begin_wish w r s place statements rollback rest (wish_of rollback trial) (trial_fits rollback trial) here holds
begin_holds w r s place (piece.Rebuild t column) rest here holds = begin_rebuild w r s place t column rest here holds
