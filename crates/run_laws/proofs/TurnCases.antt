-- Each kind of turn keeps what holds of the world's run.
use Rattle.std.proofs.Common.{◌≡◌, ℕ, suc, ◌<◌, ◌≤◌, Bool, true, false, ltb, leb, List, [], ◌∷◌, map, length, get_or, set, Option, Some, None, refl, ap, ap₂, ◌∙◌, sym, subst, inl, inr, arith}
use Rattle.std.proofs.lemmas.Bool.{cases_Bool, cases_eq, cases_lt, leb-true}
use Rattle.std.proofs.lemmas.List.{get_or-set_same, get_or-set_other, set_past}
use Rattle.mope_base.specs.Lists.{Each}
use Rattle.mope_base.specs.declared.numbers.TableNo.{TableNo}
use Rattle.mope_base.specs.declared.numbers.ColNo.{ColNo}
use Rattle.mope_base.specs.declared.numbers.SessionNo.{SessionNo}
use Rattle.table_model.specs.Stores.{Store}
use Rattle.table_model.specs.Soundness.{Same}
use Rattle.table_model.specs.Operations.{ValueOp, ops_on, install_on, placed_ops, AllSound}
use Rattle.table_model.specs.Fitting.{AllFit}
use Rattle.table_model.proofs.SameTables.{same_is_equivalence}
use Rattle.value_cipher.specs.Cipher.{Cell, value_of}
use Rattle.enc_table.specs.declared.stamps.Stamps.{Stamps}
use Rattle.tree_model.specs.Items.{change_at}
use Rattle.versions.specs.declared.turn.Turn.{Turn}
use Rattle.versions.specs.declared.turn.TurnKind.TheVariants.{Began}
use Rattle.versions.specs.Databases.{Database}
use Rattle.versions.specs.Operations.{stamped, laid_at}
use Rattle.versions.specs.Turns.{after_turn, replay, changes_by, TellsNumber, IsTold}
use Rattle.workload.specs.declared.plain.PlainDb.{PlainDb}
use Rattle.workload.specs.declared.script.Act.{Act}
use Rattle.workload.specs.declared.script.Piece.{Piece}
use Rattle.workload.specs.declared.script.Piece.TheVariants as piece
use Rattle.workload.specs.declared.script.Workload.{Workload}
use Rattle.workload.specs.PlainDatabase.{row_limit}
use Rattle.workload.specs.Run.{Run, Position, ready, committing, installing, Stamps as PlainStamps, unstamped, number_of, version_of, position_at, moved, with_done, begun, begin_turn, stamps_of, names, lowest_newer, merged, stamped as plain_stamped, committed_unless, commit_turn, last_change, installed_unless, install_turn, turn_from, take_turn, turns_taken}
use Rattle.workload.specs.Transaction.{Work, Trial, going, stopped, table_named, trial_of, work_of, Wish, ends, commits, wish_of}
use Rattle.workload.specs.Validity.{IsValid, IsValidAct}
use Rattle.transaction_laws.specs.Standing.{World}
use Rattle.transaction_laws.specs.Transactions.{plain_database, Tried, tried_on, acts_tried}
use Rattle.transaction_laws.proofs.KeptOps.{ops-widths}
use Rattle.plain_db.proofs.TableOutcomes.{size}
use Rattle.plain_db.proofs.StampLemmas.{stamps_at, stamped-other, stamped-named}
use Rattle.plain_db.proofs.StepLemmas.{is_over}
use Rattle.run_laws.specs.Worlds.{RunSetting, session_setting, first_version, world_with_ops, world_with_install}
use Rattle.run_laws.specs.WorldRuns.{Session, WorldRun, world_at, session_at, Taken, begin_taken, commit_taken, install_taken, next_from, next_turn, older_with, current_with, after_taken, world_turn, world_turns, world_settled, world_finished, world_run}
use Rattle.run_laws.specs.TurnLaws.{store_in, is_on, SameOn, SameAt, CommitGoes}
use Rattle.run_laws.proofs.SameOn.{do_same, all-on}
use Rattle.run_laws.proofs.TurnSteps.{commit_stands, install_goes}
use Rattle.run_laws.proofs.Written.{Writes, writes-on}
use Rattle.run_laws.proofs.WorldTables.{seen_stamps, length-ops, length-install, ops-other, install-same, plain-size, merged-plain, install-plain, install-widths, commit-seen, install-seen}
use Rattle.run_laws.proofs.Lasting.{unwritten, PastWorld, TriedOn, IsTrying, Lasts, same-self, plain-more, first-lasts}
use Rattle.run_laws.proofs.Trying.{TriedGives, tried-plain, tried-gives, same-at}
use Rattle.run_laws.proofs.RunSteps.{through-turns, through-settled, through-finished, through-run}
use Rattle.run_laws.proofs.Turning.{current-at, current-past, session-there, piece-valid, taken_on, stays, makes, plain-holds}

-- ---- begins

-- a transaction that will commit went to its end
IsEnding : Wish → Type 0
IsEnding (ends e) = Unit {0}
IsEnding commits = ⊥

wish-going : (rollback : Bool) (trial : Trial) → wish_of rollback trial ≡ commits → trial ≡ going (work_of trial)
unfolding wish_of work_of IsEnding
wish-going rollback (stopped t work) is = absurd (subst IsEnding is tt)
wish-going rollback (going work) is = refl

laid-written : (stamps : List PlainStamps) (place number i : ℕ) → (get_or (set stamps place (record (get_or stamps place unstamped) { laid = number })) i unstamped).written ≡ (get_or stamps i unstamped).written
laid-written stamps place number i =
    let stamp : PlainStamps = record (get_or stamps place unstamped) { laid = number } in
    elim (cases_eq i place) as (λ _. (get_or (set stamps place stamp) i unstamped).written ≡ (get_or stamps i unstamped).written) [
      | inl here ↦
          elim (cases_lt place (length stamps)) as (λ _. (get_or (set stamps place stamp) i unstamped).written ≡ (get_or stamps i unstamped).written) [
            | inl within ↦ rw here (ap (λ (x : PlainStamps). x.written) (get_or-set_same stamps place stamp unstamped within))
            | inr past ↦ ap (λ (l : List PlainStamps). (get_or l i unstamped).written) (set_past stamps place stamp past)
          ]
      | inr other ↦ ap (λ (x : PlainStamps). x.written) (get_or-set_other stamps place i stamp unstamped other)
    ]

install-laid : (number : ℕ) (t : TableNo) (plain : Run) → change_at (laid_at number) (map seen_stamps plain.stamps) t.0 ≡ map seen_stamps (set plain.stamps t.0 (record (stamps_of plain t) { laid = number }))
unfolding stamps_of
install-laid number t plain = install-seen number t.0 plain.stamps

-- a run that lasts beside the plain run after the turn
taken-lasts : (s : RunSetting) (w : Workload) (r : WorldRun) (n : SessionNo) (taken : Taken) (plain : Run) (p : Position) → position_at r.plain.positions n.0 ≡ p → turn_from p r.plain n ≡ plain → Lasts s w (taken_on plain taken r n) → Lasts s w (taken_on (take_turn r.plain n) taken r n)
unfolding take_turn
taken-lasts s w r n taken plain p at is lasts = subst (λ (x : Run). Lasts s w (taken_on x taken r n)) (sym (ap (λ (q : Position). turn_from q r.plain n) at ∙ is)) lasts

module _ (s : RunSetting) (w : Workload) (r : WorldRun) (n : SessionNo) (valid : IsValid w) (lasts : Lasts s w r) where
  abbrev session : Session
  session = session_at r.sessions n.0

  abbrev version : Database
  version = replay r.turns (first_version s w)

  abbrev current : PastWorld s w r.current r.plain.current (number_of r.plain) r.plain.stamps r.current.stores
  current = current-past s w r lasts

  began-told : IsTold (let turn : Turn = record { session = n; what = Began r.current.number; changes = [] } in turn) version
  unfolding TellsNumber changes_by
  began-told = record { number = sym lasts.stands.number; changes = refl }

  abbrev tried_session : List Act → Bool → Session
  tried_session acts rollback = (begin_taken s r.current n session (piece.Txn acts rollback)).session

  tries-on : (acts : List Act) (rollback : Bool) (work : Work) → Each (IsValidAct w.tables) acts → trial_of r.plain.current acts ≡ going work → TriedOn s w n (tried_session acts rollback) r.current.stores work
  unfolding begin_taken
  tries-on acts rollback work valid_acts goes =
      let tried : acts_tried (session_setting s n) r.current.same_time acts (tried_on r.current.stores session.tried.seals) ≡ acts_tried (session_setting s n) s.same_time acts (tried_on r.current.stores session.tried.seals) =
      ap (λ (mode : Bool). acts_tried (session_setting s n) mode acts (tried_on r.current.stores session.tried.seals)) current.mode in
      record {
        acts = acts;
        seals = session.tried.seals;
        valid = valid_acts;
        tried = tried;
        goes = ap (λ (t : Tried). t.plain) tried ∙ tried-plain s w n r.current.stores acts session.tried.seals valid current.sound current.declared valid_acts
            ∙ ap (λ (db : PlainDb). trial_of db acts) current.plain ∙ goes;
      }

  begins-by : (place : ℕ) (acts : List Act) (rollback : Bool) (rest : List Piece) (wish : Wish) → position_at r.plain.positions n.0 ≡ ready place (piece.Txn acts rollback ∷ rest) → wish_of rollback (trial_of r.plain.current acts) ≡ wish
      → Lasts s w (taken_on (begun wish r.plain n place (work_of (trial_of r.plain.current acts)) rest) (begin_taken s r.current n session (piece.Txn acts rollback)) r n)
  unfolding begun moved with_done begin_taken turn_from begin_turn IsTrying after_turn turns_taken is_over number_of taken_on older_with current_with world_at
  begins-by place acts rollback rest (ends e) at is =
      let work : Work = work_of (trial_of r.plain.current acts) in
      let plain : Run = begun (ends e) r.plain n place work rest in
      stays s w r n plain (ready (suc place) rest) _ (tried_session acts rollback) lasts
      (record {
        holds = plain-holds s w r n (ready place (piece.Txn acts rollback ∷ rest)) plain lasts at (ap (λ (x : Wish). begun x r.plain n place work rest) is);
        positions = refl;
        turns = plain-more r.plain.turns _;
        here = ap is_over at;
      }) refl refl refl refl began-told (λ d. refl) tt
  begins-by place acts rollback rest commits at is =
      let work : Work = work_of (trial_of r.plain.current acts) in
      let plain : Run = begun commits r.plain n place work rest in
      let here : is_over (position_at r.plain.positions n.0) ≡ false = ap is_over at in
      let next : WorldRun = taken_on plain (begin_taken s r.current n session (piece.Txn acts rollback)) r n in
      stays s w r n plain (committing place (number_of r.plain) work rest) _ (tried_session acts rollback) lasts
      (record {
        holds = plain-holds s w r n (ready place (piece.Txn acts rollback ∷ rest)) plain lasts at (ap (λ (x : Wish). begun x r.plain n place work rest) is);
        positions = refl;
        turns = plain-more r.plain.turns _;
        here = here;
      }) refl refl refl refl began-told (λ d. refl) (
        omega arith,
        subst (λ (x : Session). TriedOn s w n x (world_at next (number_of r.plain)).stores work) (sym (session-there s w r n.0 (tried_session acts rollback) lasts here))
            (subst (λ (world : World). TriedOn s w n (tried_session acts rollback) world.stores work) (sym (current-at s w r lasts))
            (tries-on acts rollback work (piece-valid s w r n place (piece.Txn acts rollback) rest valid lasts at).0 (wish-going rollback (trial_of r.plain.current acts) is))),
      )

  begins : (place : ℕ) (p : Piece) (rest : List Piece) → position_at r.plain.positions n.0 ≡ ready place (p ∷ rest) → Lasts s w (taken_on (begin_turn r.plain n place p rest) (begin_taken s r.current n session p) r n)
  unfolding begin_turn begin_taken moved turn_from IsTrying after_turn turns_taken is_over
  begins place (piece.Txn acts rollback) rest at = begins-by place acts rollback rest (wish_of rollback (trial_of r.plain.current acts)) at refl
  begins place (piece.Rebuild t column) rest at =
      stays s w r n (begin_turn r.plain n place (piece.Rebuild t column) rest) (installing place (number_of r.plain) t column rest) _ _ lasts
      (record {
        holds = plain-holds s w r n (ready place (piece.Rebuild t column ∷ rest)) _ lasts at refl;
        positions = refl;
        turns = plain-more r.plain.turns _;
        here = ap is_over at;
      }) refl refl refl refl began-told (λ d. refl) tt

  -- ---- commits

  abbrev ops : List (ValueOp Cell)
  ops = session.tried.ops

  abbrev made : World
  made = world_with_ops ops r.current

  at-mode : (P : Bool → ℕ → Type 0) → P s.same_time row_limit → P r.current.same_time r.current.limit
  at-mode P x = subst (λ (mode : Bool). P mode r.current.limit) (sym current.mode) (subst (λ (limit : ℕ). P s.same_time limit) (sym current.limit) x)

  from-mode : (P : Bool → ℕ → Type 0) → P r.current.same_time r.current.limit → P s.same_time row_limit
  from-mode P x = subst (λ (mode : Bool). P mode row_limit) current.mode (subst (λ (limit : ℕ). P r.current.same_time limit) current.limit x)

  -- what a commit's transaction gives, by the base
  pub record Gives (base : ℕ) (work : Work) : Type 0 where
    pub goes : CommitGoes s.key ops (world_at r base).stores version r.current
    pub writes : Writes ops work
    pub fit : AllFit r.current.same_time value_of r.current.limit ops r.current.stores
    pub plain : plain_database (ops_on r.current.same_time value_of ops r.current.stores) ≡ merged work.ops work.copy r.plain.current

  pub gives : (place base : ℕ) (work : Work) (rest : List Piece) → position_at r.plain.positions n.0 ≡ committing place base work rest → lowest_newer 0 r.plain.stamps base work.touched ≡ None → Gives base work
  unfolding IsTrying
  gives place base work rest at unfound =
      let trying : (base ≤ number_of r.plain) × TriedOn s w n session (world_at r base).stores work = subst (λ (q : Position). IsTrying s w r n q) at (lasts.tries n) in
      let past = lasts.past base trying.0 in
      let base_stores : List (Store Cell) = (world_at r base).stores in
      let tried : TriedGives s base_stores ops work = tried-gives s w n session base_stores work valid past.sound past.declared trying.1 in
      let same : SameAt ops base_stores r.current.stores = same-at s w (world_at r base) (version_of r.plain base) base r.plain.stamps r.current.stores ops work past tried.writes unfound in
      let sound : AllSound value_of r.current.same_time r.current.limit base_stores = at-mode (λ mode limit. AllSound value_of mode limit base_stores) past.sound in
      let fit : AllFit r.current.same_time value_of r.current.limit ops base_stores = at-mode (λ mode limit. AllFit mode value_of limit ops base_stores) tried.fit in
      let both = do_same (is_on ops) r.current.same_time r.current.limit ops base_stores r.current.stores sound lasts.stands.tables.sound (all-on ops) fit same in
      record {
        goes = commit_stands s.key ops base_stores version r.current lasts.stands sound same fit;
        writes = tried.writes;
        fit = both.fit;
        plain = merged-plain r.current.same_time ops work base_stores r.current.stores tried.writes both.same
            (ap (λ (mode : Bool). plain_database (ops_on mode value_of ops base_stores)) current.mode ∙ tried.copy)
            ∙ ap (λ (db : PlainDb). merged work.ops work.copy db) current.plain;
      }

  abbrev stamps_after : Work → List PlainStamps
  stamps_after work = plain_stamped work.ops (suc (number_of r.plain)) r.plain.stamps

  commit-kept : (work : Work) → Writes ops work → (number : ℕ) → number ≤ number_of r.plain → SameOn (unwritten (stamps_after work) number) (world_at r number).stores (ops_on r.current.same_time value_of ops r.current.stores)
  unfolding unwritten
  commit-kept work writes number within =
      let past = lasts.past number within in
      let sizes : length (world_at r number).stores ≡ length r.plain.stamps = sym (plain-size (world_at r number).stores) ∙ ap size past.plain ∙ lasts.holds.store.sizes number in
      record {
        many = past.same.many ∙ sym (length-ops r.current.same_time ops r.current.stores);
        same = λ (table : ℕ) (lt : table < length (world_at r number).stores) (is : unwritten (stamps_after work) number table ≡ true).
            elim (cases_Bool (names (map table_named work.ops) table)) as (λ _. Same Cell (store_in (world_at r number).stores table) (store_in (ops_on r.current.same_time value_of ops r.current.stores) table)) [
              | inl named ↦
                  absurd (omega (arith, within, stamped-named work.ops (suc (number_of r.plain)) r.plain.stamps table named (omega (arith, lt, sizes)), leb-true (stamps_at (stamps_after work) table).written number is))
              | inr unnamed ↦
                  let was : unwritten r.plain.stamps number table ≡ true = ap (λ (x : PlainStamps). leb x.written number) (sym (stamped-other work.ops (suc (number_of r.plain)) r.plain.stamps table unnamed)) ∙ is in
                  subst (λ (t : Store Cell). Same Cell (store_in (world_at r number).stores table) t) (sym (ops-other r.current.same_time ops r.current.stores table (writes-on ops work table writes ∙ unnamed))) (past.same.same table lt was)
            ];
      }

  commits-by : (place base : ℕ) (work : Work) (rest : List Piece) (found : Option (TableNo × ℕ)) → position_at r.plain.positions n.0 ≡ committing place base work rest → lowest_newer 0 r.plain.stamps base work.touched ≡ found
      → Lasts s w (taken_on (committed_unless found r.plain n place base work rest) (commit_taken s (world_at r base) r.current n session found) r n)
  unfolding committed_unless moved with_done commit_taken turn_from commit_turn IsTrying after_turn turns_taken is_over TellsNumber changes_by world_with_ops
  commits-by place base work rest (Some newer) at is =
      stays s w r n (committed_unless (Some newer) r.plain n place base work rest) (ready (suc place) rest) _ _ lasts
      (record {
        holds = plain-holds s w r n (committing place base work rest) _ lasts at (ap (λ (x : Option (TableNo × ℕ)). committed_unless x r.plain n place base work rest) is);
        positions = refl;
        turns = plain-more r.plain.turns _;
        here = ap is_over at;
      }) refl refl refl refl (record { number = tt; changes = refl }) (λ d. refl) tt
  commits-by place base work rest None at is =
      let given = gives place base work rest at is in
      makes s w r n (committed_unless None r.plain n place base work rest) (ready (suc place) rest) _ _ made lasts
      (record {
        holds = plain-holds s w r n (committing place base work rest) _ lasts at (ap (λ (x : Option (TableNo × ℕ)). committed_unless x r.plain n place base work rest) is);
        positions = refl;
        turns = plain-more r.plain.turns _;
        here = ap is_over at;
      }) refl refl
      (record {
        past = record {
          numbered = ap suc current.numbered;
          mode = current.mode;
          limit = current.limit;
          plain = given.plain;
          declared = ops-widths r.current.same_time ops r.current.stores ∙ current.declared;
          sound = from-mode (λ mode limit. AllSound value_of mode limit (ops_on r.current.same_time value_of ops r.current.stores)) given.goes.stands.tables.sound;
          same = same-self (unwritten (stamps_after work) (suc (number_of r.plain))) (ops_on r.current.same_time value_of ops r.current.stores);
        };
        kept = commit-kept work given.writes;
        stamped = ap₂ (λ (k : ℕ) (l : List Stamps). stamped (suc k) (placed_ops r.current.same_time value_of ops r.current.stores) l) current.numbered lasts.stamped
            ∙ commit-seen (suc (number_of r.plain)) r.current.same_time ops work r.current.stores r.plain.stamps given.writes;
        stands = given.goes.stands;
        told = record { number = ap suc (sym lasts.stands.number); changes = sym given.goes.changes };
      }) tt

  -- ---- installs

  abbrev laid_stamps : TableNo → List PlainStamps
  laid_stamps t = set r.plain.stamps t.0 (record (stamps_of r.plain t) { laid = suc (number_of r.plain) })

  abbrev laid_stores : TableNo → ColNo → List (Store Cell)
  laid_stores t column = install_on r.current.same_time t.0 column.0 r.current.stores

  install-kept : (t : TableNo) (column : ColNo) (number : ℕ) → number ≤ number_of r.plain → SameOn (unwritten (laid_stamps t) number) (world_at r number).stores (laid_stores t column)
  unfolding unwritten stamps_of stamps_at
  install-kept t column number within =
      let past = lasts.past number within in
      record {
        many = past.same.many ∙ sym (length-install r.current.same_time t.0 column.0 r.current.stores);
        same = λ (table : ℕ) (lt : table < length (world_at r number).stores) (is : unwritten (laid_stamps t) number table ≡ true).
            (same_is_equivalence Cell).transitive (store_in (world_at r number).stores table) (store_in r.current.stores table) (store_in (laid_stores t column) table)
            (past.same.same table lt (ap (λ (k : ℕ). leb k number) (sym (laid-written r.plain.stamps t.0 (suc (number_of r.plain)) table)) ∙ is))
            (install-same r.current.same_time t.0 column.0 r.current.stores table);
      }

  installs-by : (place base : ℕ) (t : TableNo) (column : ColNo) (rest : List Piece) (stale : Bool) → position_at r.plain.positions n.0 ≡ installing place base t column rest → ltb base (last_change (stamps_of r.plain t)) ≡ stale
      → Lasts s w (taken_on (installed_unless stale r.plain n place base t column rest) (install_taken r.current n session t column stale (last_change (stamps_of r.plain t))) r n)
  unfolding installed_unless moved with_done install_taken turn_from install_turn IsTrying after_turn turns_taken is_over TellsNumber changes_by world_with_install
  installs-by place base t column rest true at is =
      stays s w r n (installed_unless true r.plain n place base t column rest) (ready (suc place) rest) _ _ lasts
      (record {
        holds = plain-holds s w r n (installing place base t column rest) _ lasts at (ap (λ (x : Bool). installed_unless x r.plain n place base t column rest) is);
        positions = refl;
        turns = plain-more r.plain.turns _;
        here = ap is_over at;
      }) refl refl refl refl (record { number = tt; changes = refl }) (λ d. refl) tt
  installs-by place base t column rest false at is =
      let goes = install_goes s.key t.0 column.0 version r.current lasts.stands in
      makes s w r n (installed_unless false r.plain n place base t column rest) (ready (suc place) rest) _ _ (world_with_install t.0 column.0 r.current) lasts
      (record {
        holds = plain-holds s w r n (installing place base t column rest) _ lasts at (ap (λ (x : Bool). installed_unless x r.plain n place base t column rest) is);
        positions = refl;
        turns = plain-more r.plain.turns _;
        here = ap is_over at;
      }) refl refl
      (record {
        past = record {
          numbered = ap suc current.numbered;
          mode = current.mode;
          limit = current.limit;
          plain = install-plain r.current.same_time t.0 column.0 r.current.stores ∙ current.plain;
          declared = install-widths r.current.same_time t.0 column.0 r.current.stores ∙ current.declared;
          sound = from-mode (λ mode limit. AllSound value_of mode limit (laid_stores t column)) goes.stands.tables.sound;
          same = same-self (unwritten (laid_stamps t) (suc (number_of r.plain))) (laid_stores t column);
        };
        kept = install-kept t column;
        stamped = ap₂ (λ (k : ℕ) (l : List Stamps). change_at (laid_at (suc k)) l t.0) current.numbered lasts.stamped ∙ install-laid (suc (number_of r.plain)) t r.plain;
        stands = goes.stands;
        told = record { number = ap suc (sym lasts.stands.number); changes = sym goes.changes };
      }) tt

  -- ---- any turn

  pub turn-from : (p : Position) → position_at r.plain.positions n.0 ≡ p → Lasts s w (after_taken (next_from s r n p) r n)
  unfolding after_taken next_from taken_on turn_from commit_turn committed_unless install_turn installed_unless
  turn-from (ready place []) at = lasts
  turn-from (ready place (p ∷ rest)) at = taken-lasts s w r n (begin_taken s r.current n session p) (begin_turn r.plain n place p rest) (ready place (p ∷ rest)) at refl (begins place p rest at)
  turn-from (committing place base work rest) at =
      taken-lasts s w r n (commit_taken s (world_at r base) r.current n session (lowest_newer 0 r.plain.stamps base work.touched)) (commit_turn r.plain n place base work rest) (committing place base work rest) at refl
      (commits-by place base work rest (lowest_newer 0 r.plain.stamps base work.touched) at refl)
  turn-from (installing place base t column rest) at =
      taken-lasts s w r n (install_taken r.current n session t column (ltb base (last_change (stamps_of r.plain t))) (last_change (stamps_of r.plain t))) (install_turn r.plain n place base t column rest) (installing place base t column rest) at refl
      (installs-by place base t column rest (ltb base (last_change (stamps_of r.plain t))) at refl)

-- a turn keeps what holds
pub turn-lasts : (s : RunSetting) (w : Workload) (r : WorldRun) (n : SessionNo) → IsValid w → Lasts s w r → Lasts s w (world_turn s r n)
unfolding world_turn next_turn
turn-lasts s w r n valid lasts = turn-from s w r n valid lasts (position_at r.plain.positions n.0) refl

-- ---- runs

pub turns-last : (s : RunSetting) (w : Workload) (r : WorldRun) (sessions : List SessionNo) → IsValid w → Lasts s w r → Lasts s w (world_turns s r sessions)
turns-last s w r sessions valid lasts = through-turns s (Lasts s w) (λ (x : WorldRun) (n : SessionNo) (has : Lasts s w x). turn-lasts s w x n valid has) r sessions lasts

pub settled-lasts : (s : RunSetting) (w : Workload) (r : WorldRun) (n : SessionNo) → IsValid w → Lasts s w r → Lasts s w (world_settled s r n)
settled-lasts s w r n valid lasts = through-settled s (Lasts s w) (λ (x : WorldRun) (k : SessionNo) (has : Lasts s w x). turn-lasts s w x k valid has) r n lasts

pub finished-lasts : (s : RunSetting) (w : Workload) (r : WorldRun) (sessions : List SessionNo) → IsValid w → Lasts s w r → Lasts s w (world_finished s r sessions)
finished-lasts s w r sessions valid lasts = through-finished s (Lasts s w) (λ (x : WorldRun) (n : SessionNo) (has : Lasts s w x). turn-lasts s w x n valid has) r sessions lasts

pub run-lasts : (s : RunSetting) (w : Workload) (turns : List SessionNo) → IsValid w → Lasts s w (world_run s w turns)
run-lasts s w turns valid = through-run s (Lasts s w) (λ (x : WorldRun) (n : SessionNo) (has : Lasts s w x). turn-lasts s w x n valid has) w turns (first-lasts s w)
