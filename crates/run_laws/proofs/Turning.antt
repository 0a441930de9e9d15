-- A turn of a session keeps what holds of the world's run.
use Rattle.std.proofs.Common.{◌≡◌, ℕ, zero, suc, ◌+◌, ◌<◌, ◌≤◌, false, List, [], ◌∷◌, ◌++◌, map, length, get_or, Some, None, refl, ap, ◌∙◌, sym, subst, inl, inr, arith, length-append}
use Rattle.std.proofs.lemmas.Bool.{cases_lt, true≢false}
use Rattle.std.proofs.lemmas.List.{get_or_past}
use Rattle.mope_base.specs.Lists.{Each}
use Rattle.mope_base.specs.declared.numbers.SessionNo.{SessionNo}
use Rattle.table_model.specs.Stores.{Store}
use Rattle.value_cipher.specs.Cipher.{Cell}
use Rattle.versions.specs.declared.turn.Turn.{Turn}
use Rattle.versions.specs.Databases.{Database}
use Rattle.versions.specs.Turns.{after_turn, replay, IsTold}
use Rattle.workload.specs.declared.plain.PlainDb.{PlainDb}
use Rattle.workload.specs.declared.script.Piece.{Piece}
use Rattle.workload.specs.declared.script.Workload.{Workload}
use Rattle.workload.specs.Run.{Run, Position, ready, Stamps as PlainStamps, number_of, version_of, position_at, with_position, turn_from, take_turn, turns_taken}
use Rattle.workload.specs.History.{script_of}
use Rattle.workload.specs.Validity.{IsValid, IsValidPiece}
use Rattle.transaction_laws.specs.Standing.{World, Stands}
use Rattle.plain_db.proofs.StateLemmas.{script-valid}
use Rattle.plain_db.proofs.VersionLemmas.{version-older, version-new, number-next, version-current, version-same}
use Rattle.plain_db.proofs.RunInvariant.{Doing, SessionHolds, RunHolds}
use Rattle.plain_db.proofs.StepLemmas.{is_over}
use Rattle.plain_db.proofs.FinishLemmas.{take_turn_holds}
use Rattle.run_laws.specs.Worlds.{RunSetting, first_version}
use Rattle.run_laws.specs.WorldRuns.{Session, WorldRun, world_at, session_at, with_session, Taken, older_with, current_with}
use Rattle.run_laws.specs.TurnLaws.{SameOn}
use Rattle.run_laws.proofs.WorldTables.{seen_stamps}
use Rattle.run_laws.proofs.Lasting.{unwritten, PastWorld, IsTrying, Lasts, goes-lasts, session-own}

-- ---- lists

pub get-front : {A : Type 0} (l more : List A) (i : ℕ) (d e : A) → i < length l → get_or (l ++ more) i d ≡ get_or l i e
get-front [] more i d e lt = absurd (omega (arith, lt))
get-front (x ∷ l) more zero d e lt = refl
get-front (x ∷ l) more (suc i) d e lt = get-front l more i d e (omega (arith, lt))

pub get-last : {A : Type 0} (l : List A) (x d : A) (i : ℕ) → i ≡ length l → get_or (l ++ x ∷ []) i d ≡ x
get-last [] x d zero is = refl
get-last [] x d (suc i) is = absurd (omega (arith, is))
get-last (y ∷ l) x d zero is = absurd (omega (arith, is))
get-last (y ∷ l) x d (suc i) is = get-last l x d i (omega (arith, is))

each-middle : (P : Piece → Type 0) (xs : List Piece) (x : Piece) (ys : List Piece) → Each P (xs ++ x ∷ ys) → P x
unfolding Each
each-middle P [] x ys h = h.0
each-middle P (y ∷ xs) x ys h = each-middle P xs x ys h.1

script-pieces : (w : Workload) (k : ℕ) → IsValid w → Each (IsValidPiece w.tables) (script_of w k)
unfolding script_of Each
script-pieces w zero valid = tt
script-pieces w (suc i) valid = (script-valid w i valid).valid

-- ---- what lasts says of the current version

pub current-at : (s : RunSetting) (w : Workload) (r : WorldRun) → Lasts s w r → world_at r (number_of r.plain) ≡ r.current
unfolding world_at
current-at s w r lasts = get-last r.older r.current r.current (number_of r.plain) (sym lasts.versions)

pub current-past : (s : RunSetting) (w : Workload) (r : WorldRun) → Lasts s w r → PastWorld s w r.current r.plain.current (number_of r.plain) r.plain.stamps r.current.stores
current-past s w r lasts =
    let here : number_of r.plain ≤ number_of r.plain = omega arith in
    subst (λ (world : World). PastWorld s w world r.plain.current (number_of r.plain) r.plain.stamps r.current.stores) (current-at s w r lasts)
    (subst (λ (db : PlainDb). PastWorld s w (world_at r (number_of r.plain)) db (number_of r.plain) r.plain.stamps r.current.stores) (version-current r.plain) (lasts.past (number_of r.plain) here))

-- a session that has a turn to take exists
pub session-there : (s : RunSetting) (w : Workload) (r : WorldRun) (n : ℕ) (session : Session) → Lasts s w r → is_over (position_at r.plain.positions n) ≡ false → session_at (with_session r.sessions n session) n ≡ session
unfolding position_at is_over
session-there s w r zero session lasts here = absurd (true≢false here)
session-there s w r (suc i) session lasts here =
    elim (cases_lt i (length r.plain.positions)) as (λ _. session_at (with_session r.sessions (suc i) session) (suc i) ≡ session) [
      | inl within ↦ session-own r.sessions (suc i) session i refl (omega (arith, within, lasts.sessions, lasts.holds.size))
      | inr past ↦ absurd (true≢false (ap is_over (sym (get_or_past r.plain.positions i (ready 1 []) past)) ∙ here))
    ]

pub piece-valid : (s : RunSetting) (w : Workload) (r : WorldRun) (n : SessionNo) (place : ℕ) (p : Piece) (rest : List Piece) → IsValid w → Lasts s w r → position_at r.plain.positions n.0 ≡ ready place (p ∷ rest) → IsValidPiece w.tables p
unfolding Doing
piece-valid s w r n place p rest valid lasts at =
    let session : SessionHolds w r.plain n.0 (ready place (p ∷ rest)) = subst (λ (q : Position). SessionHolds w r.plain n.0 q) at (lasts.holds.sessions n.0) in
    each-middle (IsValidPiece w.tables) session.finished p rest
    (subst (λ (l : List Piece). Each (IsValidPiece w.tables) l) (session.script ∙ ap (λ (l : List Piece). session.finished ++ l) session.doing) (script-pieces w n.0 valid))

-- ---- a turn was taken

-- beside the plain run after it
unfoldable pub taken_on : Run → Taken → WorldRun → SessionNo → WorldRun
taken_on plain taken r n = record {
  plain = plain;
  older = older_with taken.made r.older r.current;
  current = current_with taken.made r.current;
  sessions = with_session r.sessions n.0 taken.session;
  turns = r.turns ++ taken.turn ∷ [];
}

-- how the plain run goes on, whether or not a version is made
pub record GoesOn (w : Workload) (r : WorldRun) (n : SessionNo) (plain : Run) (p : Position) : Type 0 where
  pub holds : RunHolds w plain
  pub positions : plain.positions ≡ with_position r.plain.positions n.0 p
  pub turns : turns_taken plain ≡ turns_taken r.plain ++ n ∷ []
  pub here : is_over (position_at r.plain.positions n.0) ≡ false

-- a turn that makes no version
pub stays : (s : RunSetting) (w : Workload) (r : WorldRun) (n : SessionNo) (plain : Run) (p : Position) (turn : Turn) (session : Session) → Lasts s w r → GoesOn w r n plain p
    → plain.older ≡ r.plain.older → plain.current ≡ r.plain.current → plain.stamps ≡ r.plain.stamps
    → turn.session ≡ n → IsTold turn (replay r.turns (first_version s w)) → ((d : Database) → after_turn turn.what d ≡ d)
    → IsTrying s w (taken_on plain (record { turn = turn; made = None; session = session }) r n) n p
    → Lasts s w (taken_on plain (record { turn = turn; made = None; session = session }) r n)
unfolding taken_on older_with current_with number_of world_at
stays s w r n plain p turn session lasts on older current stamps own told leaves trying =
    let next : WorldRun = taken_on plain (record { turn = turn; made = None; session = session }) r n in
    let many : number_of plain ≡ number_of r.plain = ap length older in
    goes-lasts s w r next n p session turn lasts
    (record {
      holds = on.holds;
      versions = lasts.versions ∙ sym many;
      past = λ (number : ℕ) (within : number ≤ number_of plain).
          subst (λ (db : PlainDb). PastWorld s w (world_at next number) db number plain.stamps r.current.stores) (sym (version-same r.plain plain number older current))
          (subst (λ (l : List PlainStamps). PastWorld s w (world_at next number) (version_of r.plain number) number l r.current.stores) (sym stamps) (lasts.past number (omega (arith, within, many))));
      stamped = lasts.stamped ∙ ap (map seen_stamps) (sym stamps);
      turns = refl;
      stands = subst (λ (d : Database). Stands s.key d r.current) (sym (leaves (replay r.turns (first_version s w)))) lasts.stands;
      told = told;
      plain_turns = on.turns;
      own = own;
      sessions = refl;
      positions = on.positions;
      here = on.here;
      later = λ number within. refl;
      grows = omega (arith, many);
      trying = trying;
    })

-- what a new version is
pub record Makes (s : RunSetting) (w : Workload) (r : WorldRun) (plain : Run) (turn : Turn) (made : World) : Type 0 where
  pub past : PastWorld s w made plain.current (suc (number_of r.plain)) plain.stamps made.stores
  pub kept : (number : ℕ) → number ≤ number_of r.plain → SameOn (unwritten plain.stamps number) (world_at r number).stores made.stores
  pub stamped : made.stamps ≡ map seen_stamps plain.stamps
  pub stands : Stands s.key (after_turn turn.what (replay r.turns (first_version s w))) made
  pub told : IsTold turn (replay r.turns (first_version s w))

past-with : (s : RunSetting) (w : Workload) (world : World) (db : PlainDb) (number : ℕ) (stamps more : List PlainStamps) (current next : List (Store Cell)) → PastWorld s w world db number stamps current → SameOn (unwritten more number) world.stores next → PastWorld s w world db number more next
past-with s w world db number stamps more current next past same = record { numbered = past.numbered; mode = past.mode; limit = past.limit; plain = past.plain; declared = past.declared; sound = past.sound; same = same }

-- a turn that makes one
pub makes : (s : RunSetting) (w : Workload) (r : WorldRun) (n : SessionNo) (plain : Run) (p : Position) (turn : Turn) (session : Session) (made : World) → Lasts s w r → GoesOn w r n plain p
    → plain.older ≡ r.plain.older ++ r.plain.current ∷ [] → turn.session ≡ n → Makes s w r plain turn made
    → IsTrying s w (taken_on plain (record { turn = turn; made = Some made; session = session }) r n) n p
    → Lasts s w (taken_on plain (record { turn = turn; made = Some made; session = session }) r n)
unfolding taken_on older_with current_with world_at
makes s w r n plain p turn session made lasts on older own new trying =
    let next : WorldRun = taken_on plain (record { turn = turn; made = Some made; session = session }) r n in
    let many : number_of plain ≡ suc (number_of r.plain) = number-next r.plain plain older in
    let more : length (r.older ++ r.current ∷ []) ≡ length r.older + 1 = length-append r.older (r.current ∷ []) in
    let later : (number : ℕ) → number ≤ number_of r.plain → world_at next number ≡ world_at r number =
    λ number within. get-front (r.older ++ r.current ∷ []) (made ∷ []) number made r.current (omega (arith, within, more, lasts.versions)) in
    goes-lasts s w r next n p session turn lasts
    (record {
      holds = on.holds;
      versions = omega (arith, more, many, lasts.versions);
      past = λ (number : ℕ) (within : number ≤ number_of plain).
          elim (cases_lt number (number_of plain)) as (λ _. PastWorld s w (world_at next number) (version_of plain number) number plain.stamps made.stores) [
            | inl earlier ↦
                let before : number ≤ number_of r.plain = omega (arith, earlier, many) in
                subst (λ (world : World). PastWorld s w world (version_of plain number) number plain.stamps made.stores) (sym (later number before))
                (subst (λ (db : PlainDb). PastWorld s w (world_at r number) db number plain.stamps made.stores) (sym (version-older r.plain plain number older before))
                (past-with s w (world_at r number) (version_of r.plain number) number r.plain.stamps plain.stamps r.current.stores made.stores (lasts.past number before) (new.kept number before)))
            | inr last ↦
                let is : number ≡ suc (number_of r.plain) = omega (arith, last, within, many) in
                subst (λ (world : World). PastWorld s w world (version_of plain number) number plain.stamps made.stores) (sym (get-last (r.older ++ r.current ∷ []) made made number (omega (arith, is, more, lasts.versions))))
                (subst (λ (db : PlainDb). PastWorld s w made db number plain.stamps made.stores) (sym (version-new r.plain plain number older (omega (arith, is))))
                (subst (λ (m : ℕ). PastWorld s w made plain.current m plain.stamps made.stores) (sym is) new.past))
          ];
      stamped = new.stamped;
      turns = refl;
      stands = new.stands;
      told = new.told;
      plain_turns = on.turns;
      own = own;
      sessions = refl;
      positions = on.positions;
      here = on.here;
      later = later;
      grows = omega (arith, many);
      trying = trying;
    })

-- the plain run after a turn, where its session stood there
pub plain-holds : (s : RunSetting) (w : Workload) (r : WorldRun) (n : SessionNo) (p : Position) (plain : Run) → Lasts s w r → position_at r.plain.positions n.0 ≡ p → turn_from p r.plain n ≡ plain → RunHolds w plain
unfolding take_turn
plain-holds s w r n p plain lasts at is = subst (λ (x : Run). RunHolds w x) (ap (λ (q : Position). turn_from q r.plain n) at ∙ is) (take_turn_holds w r.plain n lasts.holds)
