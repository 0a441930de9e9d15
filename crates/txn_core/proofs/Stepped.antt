-- A state after one turn more.
use Rattle.std.proofs.Common.{◌≡◌, ℕ, suc, ◌+◌, ◌<◌, ◌≤◌, List, [], ◌∷◌, ◌++◌, length, take, refl, ap, ap₂, ◌∙◌, sym, arith, subst, inl, inr}
use Rattle.std.proofs.lemmas.Bool.{cases_lt}
use Rattle.std.proofs.lemmas.List.{length-append, take-append-le}
use Rattle.std.proofs.Math.Seq.{take-length}
use Rattle.mope_base.specs.declared.numbers.TableNo.{TableNo}
use Rattle.mope_base.specs.declared.numbers.ColNo.{ColNo}
use Rattle.mope_base.specs.declared.numbers.SessionNo.{SessionNo}
use Rattle.versions.specs.declared.op.Op.{Op}
use Rattle.versions.specs.declared.change.ColumnChange.{ColumnChange}
use Rattle.versions.specs.declared.turn.Turn.{Turn}
use Rattle.versions.specs.declared.turn.TurnKind.{TurnKind}
use Rattle.versions.specs.declared.turn.TurnKind.TheVariants.{Began, Committed, Conflict, Installed, Stale}
use Rattle.versions.specs.Databases.{Database, IsDatabase}
use Rattle.versions.specs.Operations.{rank_ops, with_ops, with_install}
use Rattle.versions.specs.Turns.{after_turn, replay, changes_by, TellsNumber, IsTold, AreTold, Replays}
use Rattle.txn_core.specs.Outcomes.{turn_on}
use Rattle.txn_core.specs.Since.{IsSince, IsCourse}
use Rattle.txn_core.proofs.Starting.{since-itself}
use Rattle.txn_core.proofs.Later.{since-commit, since-install}

replay-append : (turns more : List Turn) (d : Database) → replay (turns ++ more) d ≡ replay more (replay turns d)
unfolding replay
replay-append [] more d = refl
replay-append (turn ∷ turns) more d = replay-append turns more (after_turn turn.what d)

told-append : (turns more : List Turn) (d : Database) → AreTold turns d → AreTold more (replay turns d) → AreTold (turns ++ more) d
unfolding replay AreTold
told-append [] more d told later = later
told-append (turn ∷ turns) more d told later = (told.0, told-append turns more (after_turn turn.what d) told.1 later)

-- the version after one turn more
leads_on : (first : Database) (turns : List Turn) (current : Database) (turn : Turn) → current ≡ replay turns first → after_turn turn.what current ≡ replay (turns ++ turn ∷ []) first
unfolding replay
leads_on first turns current turn leads = ap (after_turn turn.what) leads ∙ sym (replay-append turns (turn ∷ []) first)

told_on : (first : Database) (turns : List Turn) (current : Database) (turn : Turn) → Replays first turns current → IsTold turn current → AreTold (turns ++ turn ∷ []) first
unfolding AreTold
told_on first turns current turn replays told =
    told-append turns (turn ∷ []) first replays.told (subst (λ (d : Database). AreTold (turn ∷ []) d) replays.leads (told, tt))

take-whole : (turns : List Turn) (turn : Turn) (taken : ℕ) → length turns < taken → taken ≤ length (turns ++ turn ∷ []) → take taken (turns ++ turn ∷ []) ≡ turns ++ turn ∷ []
take-whole turns turn taken more h =
    let n : length (turns ++ turn ∷ []) ≡ length turns + 1 = length-append turns (turn ∷ []) in
    let e : taken ≡ length (turns ++ turn ∷ []) = omega (arith, more, h, n) in
    ap (λ (k : ℕ). take k (turns ++ turn ∷ [])) e ∙ take-length (turns ++ turn ∷ [])

goes_on : (first : Database) (turns : List Turn) (current : Database) (turn : Turn) → IsCourse first turns current → IsTold turn current → (after_turn turn.what current).number ≤ suc current.number
    → ((base : Database) → IsSince base current → IsSince base (after_turn turn.what current)) → IsCourse first (turns ++ turn ∷ []) (after_turn turn.what current)
goes_on first turns current turn course told low since =
    let leads = leads_on first turns current turn course.replays.leads in
    record {
      replays = record { told = told_on first turns current turn course.replays told; leads = leads };
      low = let n : length (turns ++ turn ∷ []) ≡ length turns + 1 = length-append turns (turn ∷ []) in omega (arith, low, course.low, n);
      since = λ taken h. elim (cases_lt (length turns) taken) [
        | inl more ↦
            subst (λ (d : Database). IsSince d (after_turn turn.what current))
            (leads ∙ ap (λ (ts : List Turn). replay ts first) (sym (take-whole turns turn taken more h)))
            (since-itself (after_turn turn.what current))
        | inr within ↦
            subst (λ (ts : List Turn). IsSince (replay ts first) (after_turn turn.what current)) (sym (take-append-le taken turns (turn ∷ []) within))
            (since (replay (take taken turns) first) (course.since taken within))
      ];
    }

-- ---- the list with a turn that was made

pub told_turn : (turns later : List Turn) (session : SessionNo) (what said : TurnKind) (changes : List ColumnChange) (current : Database) → later ≡ turns ++ (record { session = session; what = what; changes = changes }) ∷ [] → what ≡ said → changes ≡ changes_by said current
    → later ≡ turns ++ turn_on session said current ∷ []
unfolding turn_on
told_turn turns later session what said changes current added what_is changes_are =
    added ∙ ap₂ (λ (w : TurnKind) (cs : List ColumnChange). let t : Turn = record { session = session; what = w; changes = cs } in turns ++ t ∷ []) what_is changes_are

-- ---- turns that leave the version

pub begun : (session : SessionNo) (first : Database) (turns : List Turn) (current : Database) → IsCourse first turns current → IsCourse first (turns ++ turn_on session (Began current.number) current ∷ []) current
unfolding turn_on after_turn changes_by TellsNumber
begun session first turns current course =
    goes_on first turns current (turn_on session (Began current.number) current) course (record { number = refl; changes = refl }) (omega arith) (λ base since. since)

pub refused : (session : SessionNo) (table : TableNo) (number : ℕ) (first : Database) (turns : List Turn) (current : Database) → IsCourse first turns current → IsCourse first (turns ++ turn_on session (Conflict table number) current ∷ []) current
unfolding turn_on after_turn changes_by TellsNumber
refused session table number first turns current course =
    goes_on first turns current (turn_on session (Conflict table number) current) course (record { number = tt; changes = refl }) (omega arith) (λ base since. since)

pub staled : (session : SessionNo) (table : TableNo) (number : ℕ) (first : Database) (turns : List Turn) (current : Database) → IsCourse first turns current → IsCourse first (turns ++ turn_on session (Stale table number) current ∷ []) current
unfolding turn_on after_turn changes_by TellsNumber
staled session table number first turns current course =
    goes_on first turns current (turn_on session (Stale table number) current) course (record { number = tt; changes = refl }) (omega arith) (λ base since. since)

-- ---- turns that make a version

pub committed : (session : SessionNo) (ops : List Op) (first : Database) (turns : List Turn) (current : Database) → IsDatabase current → IsCourse first turns current → IsCourse first (turns ++ turn_on session (Committed (suc current.number) ops) current ∷ []) (with_ops (rank_ops ops) current)
unfolding turn_on after_turn changes_by TellsNumber with_ops
committed session ops first turns current database course =
    goes_on first turns current (turn_on session (Committed (suc current.number) ops) current) course (record { number = refl; changes = refl }) (omega arith)
    (λ base since. since-commit (rank_ops ops) base current database since)

pub installed : (session : SessionNo) (table : TableNo) (column : ColNo) (first : Database) (turns : List Turn) (current : Database) → IsDatabase current → IsCourse first turns current
    → IsCourse first (turns ++ turn_on session (Installed (suc current.number) table column) current ∷ []) (with_install table.0 column.0 current)
unfolding turn_on after_turn changes_by TellsNumber with_install
installed session table column first turns current database course =
    goes_on first turns current (turn_on session (Installed (suc current.number) table column) current) course (record { number = refl; changes = refl }) (omega arith)
    (λ base since. since-install table.0 column.0 base current database since)
