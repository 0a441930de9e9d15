-- What each turn seals and sends; and where all that is sent is of a kind, so is all that the server sees.
use Rattle.std.proofs.Common.{◌≡◌, ℕ, zero, suc, ◌+◌, ◌^◌, ◌<◌, ◌≤◌, Bool, true, false, ◌||◌, ◌==◌, ltb, List, [], ◌∷◌, ◌++◌, map, length, get_or, Option, Some, None, refl, ap, ap₂, ◌∙◌, sym, subst, inl, inr, arith, append-nil, length-append}
use Rattle.std.specs.List.{sum_by}
use Rattle.std.proofs.lemmas.Bool.{cases_eq, eq-eqb, true≢false}
use Rattle.std.proofs.lemmas.List.{append_assoc, map-append}
use Rattle.std.proofs.lemmas.List.Sums.{sum_by-cons}
use Rattle.mope_base.specs.Lists.{Each}
use Rattle.mope_base.specs.declared.body.Body.{Body}
use Rattle.mope_base.specs.declared.numbers.TableNo.{TableNo}
use Rattle.mope_base.specs.declared.numbers.ColNo.{ColNo}
use Rattle.mope_base.specs.declared.numbers.SessionNo.{SessionNo}
use Rattle.tree_model.specs.Places.{holds}
use Rattle.value_cipher.specs.Cipher.{sealed}
use Rattle.versions.specs.declared.turn.Turn.{Turn}
use Rattle.versions.specs.Databases.{Database}
use Rattle.walk_proto.specs.declared.messages.Exchange.{Exchange}
use Rattle.walk_proto.specs.declared.messages.How.TheVariants as how
use Rattle.walk_proto.specs.declared.messages.Reply.TheVariants as reply
use Rattle.walk_proto.specs.declared.messages.Request.TheVariants as request
use Rattle.workload.specs.declared.script.Act.{Act}
use Rattle.workload.specs.declared.script.Piece.{Piece}
use Rattle.workload.specs.declared.script.Piece.TheVariants as piece
use Rattle.workload.specs.declared.script.Workload.{Workload}
use Rattle.workload.specs.History.{script_of}
use Rattle.workload.specs.Run.{Run, Position, ready, committing, installing, initial, number_of, position_at, with_position, moved, with_done, begun, begin_turn, stamps_of, lowest_newer, committed_unless, commit_turn, last_change, installed_unless, install_turn, turn_from, take_turn, unbegun}
use Rattle.workload.specs.Transaction.{Work, Trial, going, stopped, started, trial_of, work_of, Wish, ends, commits, wish_of, wish_after}
use Rattle.workload.specs.Validity.{IsValid, inserted_numbers, numbers_inserted}
use Rattle.proxy.specs.Client.{cells_from}
use Rattle.transaction_laws.specs.Transactions.{plain_database, Tried, tried_on, acts_tried, acts_log}
use Rattle.transaction_laws.specs.Standing.{World}
use Rattle.transaction_laws.specs.Walks.{exchanged}
use Rattle.plain_db.proofs.EachLemmas.{each-append}
use Rattle.plain_db.proofs.StateLemmas.{script-valid}
use Rattle.plain_db.proofs.RunInvariant.{Doing, SessionHolds}
use Rattle.plain_db.proofs.StepLemmas.{is_over, position-own, position-other}
use Rattle.plain_db.proofs.FinishLemmas.{initial_position}
use Rattle.run_laws.specs.Worlds.{RunSetting, session_setting, world_with_ops, world_with_install}
use Rattle.run_laws.specs.WorldRuns.{Session, new_session, WorldRun, first_run, world_at, session_at, with_session, Taken, closing, closing_by, begin_log, begin_taken, having_said, commit_taken, install_taken, next_from, current_with, after_taken}
use Rattle.run_laws.specs.CellLaws.{request_bodies, reply_bodies, log_bodies, sent_bodies, kind_bodies, turns_bodies, acts_numbers, piece_numbers, script_numbers, IsNumberOf}
use Rattle.run_laws.proofs.KnownCells.{KnownStores, KnownOps, first-known, ops-known, install-known, ops-none, kept-known, said-known, log-more, sent-append}
use Rattle.run_laws.proofs.SealingActs.{ActsSeal, acts-seal, cells-more, each-front}
use Rattle.run_laws.proofs.Written.{runs-first}
use Rattle.run_laws.proofs.TurnSteps.{sealed_version}
use Rattle.run_laws.proofs.Trying.{world_of, version_of_tables, may-run, client_at}
use Rattle.run_laws.proofs.Lasting.{PastWorld, Lasts, session-other}
use Rattle.run_laws.proofs.Turning.{current-past, session-there, piece-valid, taken_on}

-- ---- what holds

pub record SessionSeals (s : RunSetting) (w : Workload) (Q : Body → Type 0) (n : SessionNo) (session : Session) (left : List Piece) : Type 0 where
  pub ops : KnownOps s.key Q session.tried.ops
  pub known : Each Q (log_bodies session.log)
  pub values : List ℕ
  pub numbers : Each (IsNumberOf w n) values
  pub seals : session.tried.seals ≡ length values
  pub sent : sent_bodies session.log ≡ map (sealed s.key) (cells_from (session_setting s n) 0 values)
  pub few : length values + sum_by numbers_inserted left ≤ sum_by numbers_inserted (script_of w n.0)

pub record Seals (s : RunSetting) (w : Workload) (Q : Body → Type 0) (r : WorldRun) : Type 0 where
  pub stores : KnownStores s.key Q r.current.stores
  pub sessions : (n : SessionNo) → SessionSeals s w Q n (session_at r.sessions n.0) (unbegun (position_at r.plain.positions n.0))
  pub turns : Each Q (turns_bodies r.turns)

-- ---- before the first turn

first-session : (sessions : List (List Piece)) (i : ℕ) → get_or (map (λ (_ : List Piece). new_session) sessions) i new_session ≡ new_session
first-session [] i = refl
first-session (script ∷ sessions) zero = refl
first-session (script ∷ sessions) (suc i) = first-session sessions i

new-seals : (s : RunSetting) (w : Workload) (Q : Body → Type 0) (n : SessionNo) (left : List Piece) → sum_by numbers_inserted left ≤ sum_by numbers_inserted (script_of w n.0) → SessionSeals s w Q n new_session left
unfolding new_session tried_on log_bodies sent_bodies cells_from Each
new-seals s w Q n left few = record { ops = ops-none s.key Q; known = tt; values = []; numbers = tt; seals = refl; sent = refl; few = omega (arith, few) }

first-seals-at : (s : RunSetting) (w : Workload) (Q : Body → Type 0) (n : SessionNo) (i : ℕ) → n.0 ≡ i → SessionSeals s w Q n (session_at (map (λ (_ : List Piece). new_session) w.sessions) i) (unbegun (position_at (map (λ (pieces : List Piece). ready 1 pieces) w.sessions) i))
unfolding session_at position_at unbegun script_of
first-seals-at s w Q n zero is = new-seals s w Q n [] (omega arith)
first-seals-at s w Q n (suc i) is =
    let same : script_of w n.0 ≡ get_or w.sessions i [] = ap (script_of w) is in
    subst (λ (session : Session). SessionSeals s w Q n session (unbegun (get_or (map (λ (pieces : List Piece). ready 1 pieces) w.sessions) i (ready 1 [])))) (sym (first-session w.sessions i))
    (subst (λ (p : Position). SessionSeals s w Q n new_session (unbegun p)) (sym (initial_position w.sessions i)) (new-seals s w Q n (get_or w.sessions i []) (omega (arith, ap (sum_by numbers_inserted) same))))

pub first-seals : (s : RunSetting) (w : Workload) (Q : Body → Type 0) → Seals s w Q (first_run s w)
unfolding first_run initial turns_bodies Each
first-seals s w Q = record { stores = first-known s.key Q s w; sessions = λ n. first-seals-at s w Q n n.0 refl; turns = tt }

-- ---- a turn

turns-append : (turns : List Turn) (turn : Turn) → turns_bodies (turns ++ turn ∷ []) ≡ turns_bodies turns ++ kind_bodies turn.what
unfolding turns_bodies
turns-append [] turn = append-nil (kind_bodies turn.what)
turns-append (first ∷ turns) turn = ap (λ (l : List Body). kind_bodies first.what ++ l) (turns-append turns turn) ∙ sym (append_assoc (kind_bodies first.what) (turns_bodies turns) (kind_bodies turn.what))

number_same : (n k : SessionNo) → n.0 ≡ k.0 → n ≡ k
number_same n k is = ap (λ (i : ℕ). let x : SessionNo = record { 0 = i } in x) is

taken-seals : (s : RunSetting) (w : Workload) (Q : Body → Type 0) (r : WorldRun) (n : SessionNo) (plain : Run) (taken : Taken) (p : Position) → Lasts s w r → Seals s w Q r → plain.positions ≡ with_position r.plain.positions n.0 p → is_over (position_at r.plain.positions n.0) ≡ false
    → KnownStores s.key Q (current_with taken.made r.current).stores → SessionSeals s w Q n taken.session (unbegun p) → Each Q (kind_bodies taken.turn.what) → Seals s w Q (taken_on plain taken r n)
unfolding taken_on
taken-seals s w Q r n plain taken p lasts seals positions here stores own kind = record {
  stores = stores;
  sessions = λ (k : SessionNo).
      elim (cases_eq k.0 n.0) as (λ _. SessionSeals s w Q k (session_at (with_session r.sessions n.0 taken.session) k.0) (unbegun (position_at plain.positions k.0))) [
        | inl same ↦
            subst (λ (x : SessionNo). SessionSeals s w Q x (session_at (with_session r.sessions n.0 taken.session) x.0) (unbegun (position_at plain.positions x.0))) (sym (number_same k n same))
            (subst (λ (session : Session). SessionSeals s w Q n session (unbegun (position_at plain.positions n.0))) (sym (session-there s w r n.0 taken.session lasts here))
            (subst (λ (q : Position). SessionSeals s w Q n taken.session (unbegun q)) (sym (ap (λ (l : List Position). position_at l n.0) positions ∙ position-own r.plain.positions n.0 p here)) own))
        | inr other ↦
            subst (λ (session : Session). SessionSeals s w Q k session (unbegun (position_at plain.positions k.0))) (sym (session-other r.sessions n.0 k.0 taken.session other))
            (subst (λ (q : Position). SessionSeals s w Q k (session_at r.sessions k.0) (unbegun q)) (sym (ap (λ (l : List Position). position_at l k.0) positions ∙ position-other r.plain.positions n.0 k.0 p other)) (seals.sessions k))
      ];
  turns = subst (Each Q) (sym (turns-append r.turns taken.turn)) (each-append Q (turns_bodies r.turns) (kind_bodies taken.turn.what) seals.turns kind);
}

-- one exchange without a body
said-seals : (s : RunSetting) (w : Workload) (Q : Body → Type 0) (n : SessionNo) (session : Session) (e : Exchange) (left more : List Piece) → request_bodies e.request ≡ [] → reply_bodies e.reply ≡ [] → sum_by numbers_inserted more ≤ sum_by numbers_inserted left → SessionSeals s w Q n session left → SessionSeals s w Q n (having_said session e) more
unfolding having_said log_bodies sent_bodies Each
said-seals s w Q n session e left more asks answers fewer seals = record {
  ops = seals.ops;
  known = log-more s.key Q session.log (e ∷ []) seals.known (said-known s.key Q e [] (subst (Each Q) (sym asks) tt) (subst (Each Q) (sym answers) tt) tt);
  values = seals.values;
  numbers = seals.numbers;
  seals = seals.seals;
  sent = sent-append session.log (e ∷ []) ∙ ap (λ (l : List Body). sent_bodies session.log ++ (l ++ [])) asks ∙ append-nil (sent_bodies session.log) ∙ seals.sent;
  few = omega (arith, seals.few, fewer);
}

-- ---- numbers of a script

holds-left : (v : ℕ) (xs ys : List ℕ) → holds v xs ≡ true → holds v (xs ++ ys) ≡ true
unfolding holds
holds-left v [] ys is = absurd (true≢false (sym is))
holds-left v (x ∷ xs) ys is = by (x == v) (holds v xs) (holds v (xs ++ ys)) (holds-left v xs ys) is
  where
    by : (a b c : Bool) → (b ≡ true → c ≡ true) → (a || b) ≡ true → (a || c) ≡ true
    by true b c later is = refl
    by false b c later is = later is

or-right : (a b : Bool) → b ≡ true → (a || b) ≡ true
or-right true b is = refl
or-right false b is = is

holds-right : (v : ℕ) (xs ys : List ℕ) → holds v ys ≡ true → holds v (xs ++ ys) ≡ true
unfolding holds
holds-right v [] ys is = is
holds-right v (x ∷ xs) ys is = or-right (x == v) (holds v (xs ++ ys)) (holds-right v xs ys is)

each-map : {A : Type 0} (P Q : A → Type 0) → ((x : A) → P x → Q x) → (xs : List A) → Each P xs → Each Q xs
unfolding Each
each-map P Q more [] h = tt
each-map P Q more (x ∷ xs) h = (more x h.0, each-map P Q more xs h.1)

holds-all : (xs : List ℕ) → Each (λ (v : ℕ). holds v xs ≡ true) xs
unfolding Each holds
holds-all [] = tt
holds-all (x ∷ xs) = (or-first (x == x) (holds x xs) (eq-eqb x x refl), each-map (λ (v : ℕ). holds v xs ≡ true) (λ (v : ℕ). holds v (x ∷ xs) ≡ true) (λ v is. or-right (x == v) (holds v xs) is) xs (holds-all xs))
  where
    or-first : (a b : Bool) → a ≡ true → (a || b) ≡ true
    or-first true b is = refl
    or-first false b is = absurd (true≢false (sym is))

in-script : (v : ℕ) (finished : List Piece) (p : Piece) (rest : List Piece) → holds v (piece_numbers p) ≡ true → holds v (script_numbers (finished ++ p ∷ rest)) ≡ true
unfolding script_numbers
in-script v [] p rest is = holds-left v (piece_numbers p) (script_numbers rest) is
in-script v (q ∷ finished) p rest is = holds-right v (piece_numbers q) (script_numbers (finished ++ p ∷ rest)) (in-script v finished p rest is)

pub script-few : (w : Workload) (i : ℕ) → IsValid w → sum_by numbers_inserted (script_of w i) < 2 ^ 32
unfolding script_of
script-few w zero valid = let h : 0 < 2 ^ 32 = omega arith in h
script-few w (suc i) valid = (script-valid w i valid).few_numbers

plus-none : (k : ℕ) → k ≡ 0 + k
plus-none k = omega arith

-- ---- begins

closing-by : (Q : Body → Type 0) (rollback : Bool) (base : ℕ) (wish : Wish) → Each Q (log_bodies (closing rollback base wish)) × (sent_bodies (closing rollback base wish) ≡ [])
unfolding closing exchanged log_bodies sent_bodies request_bodies reply_bodies Each
closing-by Q rollback base (ends e) = (tt, refl)
closing-by Q rollback base commits = (tt, refl)

closing-seals : (Q : Body → Type 0) (rollback : Bool) (base : ℕ) (trial : Trial) → Each Q (log_bodies (closing_by rollback base trial)) × (sent_bodies (closing_by rollback base trial) ≡ [])
unfolding closing_by log_bodies sent_bodies Each
closing-seals Q rollback base (stopped t work) = (tt, refl)
closing-seals Q rollback base (going work) = closing-by Q rollback base (wish_after rollback work.ops)

module _ (s : RunSetting) (w : Workload) (Q : Body → Type 0) (r : WorldRun) (n : SessionNo) (valid : IsValid w) (lasts : Lasts s w r) (seals : Seals s w Q r) where
  abbrev session : Session
  session = session_at r.sessions n.0

  abbrev current : PastWorld s w r.current r.plain.current (number_of r.plain) r.plain.stamps r.current.stores
  current = current-past s w r lasts

  own-at : (p : Position) → position_at r.plain.positions n.0 ≡ p → SessionSeals s w Q n session (unbegun p)
  own-at p at = subst (λ (q : Position). SessionSeals s w Q n session (unbegun q)) at (seals.sessions n)

  abbrev sent_log : Bool → List Act → List Exchange
  sent_log mode acts = acts_log (session_setting s n) mode acts (tried_on r.current.stores session.tried.seals)

  txn-seals : (place : ℕ) (acts : List Act) (rollback : Bool) (rest : List Piece) (at : position_at r.plain.positions n.0 ≡ ready place (piece.Txn acts rollback ∷ rest)) → Each Q (sent_bodies (sent_log r.current.same_time acts))
      → ActsSeal s w n Q session.tried.seals (acts_tried (session_setting s n) r.current.same_time acts (tried_on r.current.stores session.tried.seals)) (sent_log r.current.same_time acts) (sum_by inserted_numbers acts)
  unfolding tried_on version_of_tables world_of sealed_version piece_numbers Doing IsNumberOf
  txn-seals place acts rollback rest at asked =
      let d : Database = version_of_tables s r.current.stores in
      let may = may-run s w n r.current.stores valid current.sound current.declared in
      let here : SessionHolds w r.plain n.0 (ready place (piece.Txn acts rollback ∷ rest)) = subst (λ (q : Position). SessionHolds w r.plain n.0 q) at (lasts.holds.sessions n.0) in
      let script : script_of w n.0 ≡ here.finished ++ piece.Txn acts rollback ∷ rest = here.script ∙ ap (λ (l : List Piece). here.finished ++ l) here.doing in
      let numbers : Each (IsNumberOf w n) (acts_numbers acts) =
      each-map (λ (v : ℕ). holds v (acts_numbers acts) ≡ true) (IsNumberOf w n) (λ v is. ap (λ (l : List Piece). holds v (script_numbers l)) script ∙ in-script v here.finished (piece.Txn acts rollback) rest is) (acts_numbers acts) (holds-all (acts_numbers acts)) in
      let goes : Each Q (sent_bodies (sent_log s.same_time acts)) → ActsSeal s w n Q session.tried.seals (acts_tried (session_setting s n) s.same_time acts (tried_on r.current.stores session.tried.seals)) (sent_log s.same_time acts) (sum_by inserted_numbers acts) =
      λ given. acts-seal s w n Q d r.current.stores (record { valid = may.valid; limit = may.limit }) acts (client_at 0) (piece-valid s w r n place (piece.Txn acts rollback) rest valid lasts at).0 numbers
      (started (plain_database r.current.stores)) r.current.stores [] session.tried.seals (runs-first (session_setting s n) w.tables d r.current.stores session.tried.seals may) seals.stores (ops-none s.key Q) given in
      subst (λ (mode : Bool). Each Q (sent_bodies (sent_log mode acts)) → ActsSeal s w n Q session.tried.seals (acts_tried (session_setting s n) mode acts (tried_on r.current.stores session.tried.seals)) (sent_log mode acts) (sum_by inserted_numbers acts)) (sym current.mode) goes asked

  begin-session : (place : ℕ) (p : Piece) (rest : List Piece) → position_at r.plain.positions n.0 ≡ ready place (p ∷ rest) → Each Q (sent_bodies (begin_taken s r.current n session p).session.log) → SessionSeals s w Q n (begin_taken s r.current n session p).session rest
  unfolding begin_taken begin_log numbers_inserted unbegun is_over exchanged request_bodies reply_bodies log_bodies sent_bodies Each having_said
  begin-session place (piece.Txn acts rollback) rest at given =
      let own : SessionSeals s w Q n session (piece.Txn acts rollback ∷ rest) = own-at (ready place (piece.Txn acts rollback ∷ rest)) at in
      let from : Tried = tried_on r.current.stores session.tried.seals in
      let body : List Exchange = acts_log (session_setting s n) r.current.same_time acts from in
      let last : Tried = acts_tried (session_setting s n) r.current.same_time acts from in
      let close = closing-seals Q rollback r.current.number last.plain in
      let begin : Exchange = exchanged request.Begin (reply.Ended how.Began 0 r.current.number) in
      let tail : List Exchange = body ++ closing_by rollback r.current.number last.plain in
      let after = each-front Q (sent_bodies session.log) (sent_bodies tail) (subst (Each Q) (sent-append session.log (begin ∷ tail)) given) in
      let asked = each-front Q (sent_bodies body) (sent_bodies (closing_by rollback r.current.number last.plain)) (subst (Each Q) (sent-append body (closing_by rollback r.current.number last.plain)) after.1) in
      let acted = txn-seals place acts rollback rest at asked.0 in
      record {
        ops = acted.ops;
        known = log-more s.key Q session.log (begin ∷ tail) own.known (said-known s.key Q begin tail tt tt (log-more s.key Q body (closing_by rollback r.current.number last.plain) acted.known close.0));
        values = own.values ++ acted.values;
        numbers = each-append (IsNumberOf w n) own.values acted.values own.numbers acted.numbers;
        seals = omega (arith, acted.seals, own.seals, length-append own.values acted.values);
        sent = sent-append session.log (begin ∷ tail)
            ∙ ap₂ (λ (x y : List Body). x ++ y) own.sent (sent-append body (closing_by rollback r.current.number last.plain) ∙ ap₂ (λ (x y : List Body). x ++ y) acted.sent close.1 ∙ append-nil (map (sealed s.key) (cells_from (session_setting s n) session.tried.seals acted.values)))
            ∙ ap (λ (k : ℕ). map (sealed s.key) (cells_from (session_setting s n) 0 own.values) ++ map (sealed s.key) (cells_from (session_setting s n) k acted.values)) (own.seals ∙ plus-none (length own.values))
            ∙ sym (map-append (sealed s.key) (cells_from (session_setting s n) 0 own.values) (cells_from (session_setting s n) (0 + length own.values) acted.values))
            ∙ ap (map (sealed s.key)) (sym (cells-more (session_setting s n) 0 own.values acted.values));
        few = omega (arith, acted.few, own.few, sum_by-cons numbers_inserted (piece.Txn acts rollback) rest, length-append own.values acted.values);
      }
  begin-session place (piece.Rebuild t column) rest at given =
      said-seals s w Q n session (exchanged request.Begin (reply.Ended how.Began 0 r.current.number)) (piece.Rebuild t column ∷ rest) rest refl refl
      (omega (arith, sum_by-cons numbers_inserted (piece.Rebuild t column) rest)) (own-at (ready place (piece.Rebuild t column ∷ rest)) at)

  begin-by : (place : ℕ) (acts : List Act) (rollback : Bool) (rest : List Piece) (wish : Wish) → position_at r.plain.positions n.0 ≡ ready place (piece.Txn acts rollback ∷ rest) → Each Q (sent_bodies (begin_taken s r.current n session (piece.Txn acts rollback)).session.log) → Seals s w Q (taken_on (begun wish r.plain n place (work_of (trial_of r.plain.current acts)) rest) (begin_taken s r.current n session (piece.Txn acts rollback)) r n)
  unfolding begun moved with_done unbegun is_over begin_taken current_with kind_bodies Each
  begin-by place acts rollback rest (ends e) at given =
      taken-seals s w Q r n (begun (ends e) r.plain n place (work_of (trial_of r.plain.current acts)) rest) (begin_taken s r.current n session (piece.Txn acts rollback)) (ready (suc place) rest) lasts seals refl (ap is_over at) seals.stores (begin-session place (piece.Txn acts rollback) rest at given) tt
  begin-by place acts rollback rest commits at given =
      taken-seals s w Q r n (begun commits r.plain n place (work_of (trial_of r.plain.current acts)) rest) (begin_taken s r.current n session (piece.Txn acts rollback)) (committing place (number_of r.plain) (work_of (trial_of r.plain.current acts)) rest) lasts seals refl (ap is_over at) seals.stores (begin-session place (piece.Txn acts rollback) rest at given) tt

  begins : (place : ℕ) (p : Piece) (rest : List Piece) → position_at r.plain.positions n.0 ≡ ready place (p ∷ rest) → Each Q (sent_bodies (begin_taken s r.current n session p).session.log) → Seals s w Q (taken_on (begin_turn r.plain n place p rest) (begin_taken s r.current n session p) r n)
  unfolding begin_turn moved unbegun is_over begin_taken current_with kind_bodies Each
  begins place (piece.Txn acts rollback) rest at given = begin-by place acts rollback rest (wish_of rollback (trial_of r.plain.current acts)) at given
  begins place (piece.Rebuild t column) rest at given =
      taken-seals s w Q r n (begin_turn r.plain n place (piece.Rebuild t column) rest) (begin_taken s r.current n session (piece.Rebuild t column)) (installing place (number_of r.plain) t column rest) lasts seals refl (ap is_over at) seals.stores (begin-session place (piece.Rebuild t column) rest at given) tt

  -- ---- commits and installs

  commits-by : (place base : ℕ) (work : Work) (rest : List Piece) (found : Option (TableNo × ℕ)) → position_at r.plain.positions n.0 ≡ committing place base work rest → Seals s w Q (taken_on (committed_unless found r.plain n place base work rest) (commit_taken s (world_at r base) r.current n session found) r n)
  unfolding committed_unless moved with_done unbegun is_over commit_taken current_with kind_bodies Each exchanged request_bodies reply_bodies world_with_ops
  commits-by place base work rest (Some newer) at =
      taken-seals s w Q r n (committed_unless (Some newer) r.plain n place base work rest) (commit_taken s (world_at r base) r.current n session (Some newer)) (ready (suc place) rest) lasts seals refl (ap is_over at) seals.stores
      (said-seals s w Q n session _ rest rest refl refl (omega arith) (own-at (committing place base work rest) at)) tt
  commits-by place base work rest None at =
      let own : SessionSeals s w Q n session rest = own-at (committing place base work rest) at in
      taken-seals s w Q r n (committed_unless None r.plain n place base work rest) (commit_taken s (world_at r base) r.current n session None) (ready (suc place) rest) lasts seals refl (ap is_over at)
      (ops-known s.key Q r.current.same_time session.tried.ops r.current.stores own.ops seals.stores)
      (said-seals s w Q n session _ rest rest refl refl (omega arith) own)
      (kept-known s.key Q r.current.same_time session.tried.ops (world_at r base).stores own.ops)

  installs-by : (place base : ℕ) (t : TableNo) (column : ColNo) (rest : List Piece) (stale : Bool) (newer : ℕ) → position_at r.plain.positions n.0 ≡ installing place base t column rest → Seals s w Q (taken_on (installed_unless stale r.plain n place base t column rest) (install_taken r.current n session t column stale newer) r n)
  unfolding installed_unless moved with_done unbegun is_over install_taken current_with kind_bodies Each exchanged request_bodies reply_bodies world_with_install
  installs-by place base t column rest true newer at =
      taken-seals s w Q r n (installed_unless true r.plain n place base t column rest) (install_taken r.current n session t column true newer) (ready (suc place) rest) lasts seals refl (ap is_over at) seals.stores
      (said-seals s w Q n session _ rest rest refl refl (omega arith) (own-at (installing place base t column rest) at)) tt
  installs-by place base t column rest false newer at =
      taken-seals s w Q r n (installed_unless false r.plain n place base t column rest) (install_taken r.current n session t column false newer) (ready (suc place) rest) lasts seals refl (ap is_over at)
      (install-known s.key Q r.current.same_time t.0 column.0 r.current.stores seals.stores)
      (said-seals s w Q n session _ rest rest refl refl (omega arith) (own-at (installing place base t column rest) at)) tt

  -- ---- any turn

  as-taken : (taken : Taken) (plain : Run) (p : Position) → position_at r.plain.positions n.0 ≡ p → turn_from p r.plain n ≡ plain → Seals s w Q (taken_on plain taken r n) → Seals s w Q (taken_on (take_turn r.plain n) taken r n)
  unfolding take_turn
  as-taken taken plain p at is has = subst (λ (x : Run). Seals s w Q (taken_on x taken r n)) (sym (ap (λ (q : Position). turn_from q r.plain n) at ∙ is)) has

  pub turn-seals-from : (p : Position) → position_at r.plain.positions n.0 ≡ p → Each Q (sent_bodies (session_at (after_taken (next_from s r n p) r n).sessions n.0).log) → Seals s w Q (after_taken (next_from s r n p) r n)
  unfolding after_taken next_from taken_on turn_from commit_turn committed_unless install_turn installed_unless is_over
  turn-seals-from (ready place []) at given = seals
  turn-seals-from (ready place (p ∷ rest)) at given = as-taken (begin_taken s r.current n session p) (begin_turn r.plain n place p rest) (ready place (p ∷ rest)) at refl
      (begins place p rest at (subst (λ (x : Session). Each Q (sent_bodies x.log)) (session-there s w r n.0 (begin_taken s r.current n session p).session lasts (ap is_over at)) given))
  turn-seals-from (committing place base work rest) at given =
      as-taken (commit_taken s (world_at r base) r.current n session (lowest_newer 0 r.plain.stamps base work.touched)) (commit_turn r.plain n place base work rest) (committing place base work rest) at refl
      (commits-by place base work rest (lowest_newer 0 r.plain.stamps base work.touched) at)
  turn-seals-from (installing place base t column rest) at given =
      as-taken (install_taken r.current n session t column (ltb base (last_change (stamps_of r.plain t))) (last_change (stamps_of r.plain t))) (install_turn r.plain n place base t column rest) (installing place base t column rest) at refl
      (installs-by place base t column rest (ltb base (last_change (stamps_of r.plain t))) (last_change (stamps_of r.plain t)) at)

-- ---- logs grow

-- a session's exchanges, and further ones
pub record Grows (r next : WorldRun) (k : SessionNo) : Type 0 where
  pub more : List Exchange
  pub is : (session_at next.sessions k.0).log ≡ (session_at r.sessions k.0).log ++ more

record LogGrows (session : Session) (taken : Taken) : Type 0 where
  more : List Exchange
  is : taken.session.log ≡ session.log ++ more

taken-grows : (s : RunSetting) (w : Workload) (r : WorldRun) (n : SessionNo) (plain : Run) (taken : Taken) → Lasts s w r → is_over (position_at r.plain.positions n.0) ≡ false → LogGrows (session_at r.sessions n.0) taken → (k : SessionNo) → Grows r (taken_on plain taken r n) k
unfolding taken_on
taken-grows s w r n plain taken lasts here grows k =
    elim (cases_eq k.0 n.0) as (λ _. Grows r (taken_on plain taken r n) k) [
      | inl same ↦
          subst (λ (x : SessionNo). Grows r (taken_on plain taken r n) x) (sym (number_same k n same))
          (record { more = grows.more; is = ap (λ (x : Session). x.log) (session-there s w r n.0 taken.session lasts here) ∙ grows.is })
      | inr other ↦ record { more = []; is = ap (λ (x : Session). x.log) (session-other r.sessions n.0 k.0 taken.session other) ∙ sym (append-nil (session_at r.sessions k.0).log) }
    ]

begin-grows : (s : RunSetting) (world : World) (n : SessionNo) (x : Session) (p : Piece) → LogGrows x (begin_taken s world n x p)
unfolding begin_taken
begin-grows s world n x (piece.Txn acts rollback) = record { more = begin_log s n acts rollback world (tried_on world.stores x.tried.seals); is = refl }
begin-grows s world n x (piece.Rebuild t column) = record { more = exchanged request.Begin (reply.Ended how.Began 0 world.number) ∷ []; is = refl }

commit-grows : (s : RunSetting) (base world : World) (n : SessionNo) (x : Session) (found : Option (TableNo × ℕ)) → LogGrows x (commit_taken s base world n x found)
unfolding commit_taken having_said
commit-grows s base world n x (Some newer) = record { more = exchanged (request.End true) (reply.Ended how.Conflict newer.0.0 newer.1) ∷ []; is = refl }
commit-grows s base world n x None = record { more = exchanged (request.End true) (reply.Ended how.Committed 0 (suc world.number)) ∷ []; is = refl }

install-grows : (world : World) (n : SessionNo) (x : Session) (t : TableNo) (column : ColNo) (stale : Bool) (newer : ℕ) → LogGrows x (install_taken world n x t column stale newer)
unfolding install_taken having_said
install-grows world n x t column true newer = record { more = exchanged (request.Rebuild t column) (reply.Ended how.Stale t.0 newer) ∷ []; is = refl }
install-grows world n x t column false newer = record { more = exchanged (request.Rebuild t column) (reply.Ended how.Installed 0 (suc world.number)) ∷ []; is = refl }

pub turn-grows : (s : RunSetting) (w : Workload) (r : WorldRun) (n : SessionNo) → Lasts s w r → (p : Position) → position_at r.plain.positions n.0 ≡ p → (k : SessionNo) → Grows r (after_taken (next_from s r n p) r n) k
unfolding after_taken next_from taken_on is_over
turn-grows s w r n lasts (ready place []) at k = record { more = []; is = sym (append-nil (session_at r.sessions k.0).log) }
turn-grows s w r n lasts (ready place (p ∷ rest)) at k = taken-grows s w r n (take_turn r.plain n) (begin_taken s r.current n (session_at r.sessions n.0) p) lasts (ap is_over at) (begin-grows s r.current n (session_at r.sessions n.0) p) k
turn-grows s w r n lasts (committing place base work rest) at k =
    let found : Option (TableNo × ℕ) = lowest_newer 0 r.plain.stamps base work.touched in
    taken-grows s w r n (take_turn r.plain n) (commit_taken s (world_at r base) r.current n (session_at r.sessions n.0) found) lasts (ap is_over at) (commit-grows s (world_at r base) r.current n (session_at r.sessions n.0) found) k
turn-grows s w r n lasts (installing place base t column rest) at k =
    let stale : Bool = ltb base (last_change (stamps_of r.plain t)) in
    let newer : ℕ = last_change (stamps_of r.plain t) in
    taken-grows s w r n (take_turn r.plain n) (install_taken r.current n (session_at r.sessions n.0) t column stale newer) lasts (ap is_over at) (install-grows r.current n (session_at r.sessions n.0) t column stale newer) k
