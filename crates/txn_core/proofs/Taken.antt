-- What commits and installs answer, and the states after them, from what the code finds.
use Rattle.std.proofs.Common.{◌≡◌, ℕ, suc, ◌<◌, ◌≤◌, Bool, false, ltb, List, [], ◌∷◌, ◌++◌, length, take, refl, ap, ◌∙◌, sym, subst, Option, Some, None}
use Rattle.std.proofs.lemmas.Bool.{lt-ltb, le-ltb}
use Rattle.mope_base.specs.declared.numbers.TableNo.{TableNo}
use Rattle.mope_base.specs.declared.numbers.ColNo.{ColNo}
use Rattle.mope_base.specs.declared.numbers.SessionNo.{SessionNo}
use Rattle.versions.specs.declared.change.ColumnChange.{ColumnChange}
use Rattle.versions.specs.declared.op.Op.{Op}
use Rattle.versions.specs.declared.turn.Turn.{Turn}
use Rattle.versions.specs.declared.turn.TurnKind.{TurnKind}
use Rattle.versions.specs.declared.turn.TurnKind.TheVariants.{Committed, Conflict, Installed, Stale}
use Rattle.versions.specs.Changes.{ops_changes, install_changes}
use Rattle.versions.specs.Databases.{Database, IsDatabase}
use Rattle.versions.specs.Operations.{rank_ops, with_ops, with_install}
use Rattle.versions.specs.Turns.{after_turn, replay, changes_by}
use Rattle.txn_core.specs.Outcomes.{turn_on, conflict_on, committed_or, commit_kind, answer_or, commit_answer, changed_by, stale_if, install_kind, stale_answer_if, install_answer}
use Rattle.txn_core.specs.Since.{IsSince, IsCourse}
use Rattle.txn_core.specs.declared.outcome.Committed.TheVariants as commit
use Rattle.txn_core.specs.declared.outcome.Installed.TheVariants as install
use Rattle.txn_core.proofs.Stepped.{told_turn, refused, staled, committed, installed}

-- the current version since one to which some of the turns lead
pub since_past : (first : Database) (turns : List Turn) (current base : Database) (taken : ℕ) → taken ≤ length turns → base ≡ replay (take taken turns) first → IsCourse first turns current → IsSince base current
since_past first turns current base taken within leads course = subst (λ (d : Database). IsSince d current) (sym leads) (course.since taken within)

turn_of : SessionNo → TurnKind → List ColumnChange → Turn
turn_of session what changes = record { session = session; what = what; changes = changes }

-- a turn that was added does what the kind says
told_kind : (turns later : List Turn) (session : SessionNo) (what kind : TurnKind) (changes : List ColumnChange) (current : Database) → later ≡ turns ++ turn_of session what changes ∷ [] → kind ≡ what → changes ≡ changes_by what current
    → later ≡ turns ++ turn_on session kind current ∷ []
unfolding turn_of
told_kind turns later session what kind changes current added is changes_are =
    told_turn turns later session what kind changes current added (sym is) (changes_are ∙ ap (λ (k : TurnKind). changes_by k current) (sym is))

-- ---- an install that is stale

stale_kind : (current : Database) (base : ℕ) (table : TableNo) (column : ColNo) (n : ℕ) → n ≡ changed_by current table → base < n → install_kind current base table column ≡ Stale table n
unfolding install_kind stale_if
stale_kind current base table column n is h =
    ap (λ (b : Bool). stale_if b (changed_by current table) (suc current.number) table column) (lt-ltb base (changed_by current table) (subst (λ (k : ℕ). base < k) is h))
    ∙ ap (λ (k : ℕ). Stale table k) (sym is)

pub stale_answer : (current : Database) (base : ℕ) (table : TableNo) (n : ℕ) → n ≡ changed_by current table → base < n → install.Stale table n ≡ install_answer current base table
unfolding install_answer stale_answer_if
stale_answer current base table n is h =
    ap (λ (k : ℕ). install.Stale table k) is
    ∙ ap (λ (b : Bool). stale_answer_if b (changed_by current table) (suc current.number) table) (sym (lt-ltb base (changed_by current table) (subst (λ (k : ℕ). base < k) is h)))

pub stale_turn : (turns later : List Turn) (session : SessionNo) (current : Database) (base : ℕ) (table : TableNo) (column : ColNo) (n : ℕ) (changes : List ColumnChange) → later ≡ turns ++ (record { session = session; what = Stale table n; changes = changes }) ∷ [] → changes ≡ [] → n ≡ changed_by current table → base < n
    → later ≡ turns ++ turn_on session (install_kind current base table column) current ∷ []
unfolding turn_of changes_by
stale_turn turns later session current base table column n changes added none is h =
    told_kind turns later session (Stale table n) (install_kind current base table column) changes current added (stale_kind current base table column n is h) none

pub stale_current : (current : Database) (base : ℕ) (table : TableNo) (column : ColNo) (n : ℕ) → n ≡ changed_by current table → base < n → current ≡ after_turn (install_kind current base table column) current
unfolding after_turn
stale_current current base table column n is h = ap (λ (k : TurnKind). after_turn k current) (sym (stale_kind current base table column n is h))

pub stale_course : (first : Database) (turns later : List Turn) (session : SessionNo) (current : Database) (table : TableNo) (n : ℕ) (changes : List ColumnChange) → IsCourse first turns current → later ≡ turns ++ (record { session = session; what = Stale table n; changes = changes }) ∷ [] → changes ≡ [] → IsCourse first later current
unfolding turn_of changes_by
stale_course first turns later session current table n changes course added none =
    subst (λ (ts : List Turn). IsCourse first ts current) (sym (told_kind turns later session (Stale table n) (Stale table n) changes current added refl none)) (staled session table n first turns current course)

-- ---- an install that makes a version

fresh_kind : (current : Database) (base : ℕ) (table : TableNo) (column : ColNo) (n : ℕ) → n ≡ changed_by current table → n ≤ base → install_kind current base table column ≡ Installed (suc current.number) table column
unfolding install_kind stale_if
fresh_kind current base table column n is h =
    ap (λ (b : Bool). stale_if b (changed_by current table) (suc current.number) table column) (le-ltb base (changed_by current table) (subst (λ (k : ℕ). k ≤ base) is h))

pub is_fresh : (current : Database) (base : ℕ) (table : TableNo) (n : ℕ) → n ≡ changed_by current table → n ≤ base → ltb base (changed_by current table) ≡ false
is_fresh current base table n is h = le-ltb base (changed_by current table) (subst (λ (k : ℕ). k ≤ base) is h)

pub laid_answer : (current : Database) (base : ℕ) (table : TableNo) (n number : ℕ) → n ≡ changed_by current table → n ≤ base → number ≡ suc current.number → install.Installed number ≡ install_answer current base table
unfolding install_answer stale_answer_if
laid_answer current base table n number is h number_is =
    ap (λ (k : ℕ). install.Installed k) number_is
    ∙ ap (λ (b : Bool). stale_answer_if b (changed_by current table) (suc current.number) table) (sym (is_fresh current base table n is h))

pub laid_turn : (turns later : List Turn) (session : SessionNo) (current : Database) (base : ℕ) (table : TableNo) (column : ColNo) (n : ℕ) (what : TurnKind) (changes : List ColumnChange) → later ≡ turns ++ (record { session = session; what = what; changes = changes }) ∷ []
    → what ≡ Installed (suc current.number) table column → changes ≡ install_changes table.0 column.0 current → n ≡ changed_by current table → n ≤ base → later ≡ turns ++ turn_on session (install_kind current base table column) current ∷ []
unfolding turn_of changes_by
laid_turn turns later session current base table column n what changes added what_is changes_are is h =
    told_kind turns later session (Installed (suc current.number) table column) (install_kind current base table column) changes current
    (added ∙ ap (λ (k : TurnKind). turns ++ turn_of session k changes ∷ []) what_is) (fresh_kind current base table column n is h) changes_are

pub laid_current : (current version : Database) (base : ℕ) (table : TableNo) (column : ColNo) (n : ℕ) → version ≡ with_install table.0 column.0 current → n ≡ changed_by current table → n ≤ base → version ≡ after_turn (install_kind current base table column) current
unfolding after_turn
laid_current current version base table column n version_is is h = version_is ∙ ap (λ (k : TurnKind). after_turn k current) (sym (fresh_kind current base table column n is h))

pub laid_course : (first : Database) (turns later : List Turn) (session : SessionNo) (current version : Database) (table : TableNo) (column : ColNo) (what : TurnKind) (changes : List ColumnChange) → IsDatabase current → IsCourse first turns current → later ≡ turns ++ (record { session = session; what = what; changes = changes }) ∷ []
    → what ≡ Installed (suc current.number) table column → changes ≡ install_changes table.0 column.0 current → version ≡ with_install table.0 column.0 current → IsCourse first later version
unfolding turn_of changes_by
laid_course first turns later session current version table column what changes database course added what_is changes_are version_is =
    let kind = Installed (suc current.number) table column in
    let told = told_kind turns later session kind kind changes current (added ∙ ap (λ (k : TurnKind). turns ++ turn_of session k changes ∷ []) what_is) refl changes_are in
    subst (λ (ts : List Turn). IsCourse first ts version) (sym told)
    (subst (λ (d : Database). IsCourse first (turns ++ turn_on session kind current ∷ []) d) (sym version_is) (installed session table column first turns current database course))

-- ---- a commit that conflicts

pub conflict_answer : (current : Database) (base : ℕ) (touched : List TableNo) (table : TableNo) (n : ℕ) → conflict_on current base touched ≡ Some (table, n) → commit.Conflict table n ≡ commit_answer current base touched
unfolding commit_answer answer_or
conflict_answer current base touched table n found = ap (λ (o : Option (TableNo × ℕ)). answer_or o (suc current.number)) (sym found)

conflict_kind : (current : Database) (base : ℕ) (touched : List TableNo) (ops : List Op) (table : TableNo) (n : ℕ) → conflict_on current base touched ≡ Some (table, n) → commit_kind current base touched ops ≡ Conflict table n
unfolding commit_kind committed_or
conflict_kind current base touched ops table n found = ap (λ (o : Option (TableNo × ℕ)). committed_or o (suc current.number) ops) found

pub conflict_turn : (turns later : List Turn) (session : SessionNo) (current : Database) (base : ℕ) (touched : List TableNo) (ops : List Op) (table : TableNo) (n : ℕ) (changes : List ColumnChange) → later ≡ turns ++ (record { session = session; what = Conflict table n; changes = changes }) ∷ [] → changes ≡ [] → conflict_on current base touched ≡ Some (table, n)
    → later ≡ turns ++ turn_on session (commit_kind current base touched ops) current ∷ []
unfolding turn_of changes_by
conflict_turn turns later session current base touched ops table n changes added none found =
    told_kind turns later session (Conflict table n) (commit_kind current base touched ops) changes current added (conflict_kind current base touched ops table n found) none

pub conflict_current : (current : Database) (base : ℕ) (touched : List TableNo) (ops : List Op) (table : TableNo) (n : ℕ) → conflict_on current base touched ≡ Some (table, n) → current ≡ after_turn (commit_kind current base touched ops) current
unfolding after_turn
conflict_current current base touched ops table n found = ap (λ (k : TurnKind). after_turn k current) (sym (conflict_kind current base touched ops table n found))

pub conflict_course : (first : Database) (turns later : List Turn) (session : SessionNo) (current : Database) (table : TableNo) (n : ℕ) (changes : List ColumnChange) → IsCourse first turns current → later ≡ turns ++ (record { session = session; what = Conflict table n; changes = changes }) ∷ [] → changes ≡ [] → IsCourse first later current
unfolding turn_of changes_by
conflict_course first turns later session current table n changes course added none =
    subst (λ (ts : List Turn). IsCourse first ts current) (sym (told_kind turns later session (Conflict table n) (Conflict table n) changes current added refl none)) (refused session table n first turns current course)

-- ---- a commit that makes a version

pub made_answer : (current : Database) (base : ℕ) (touched : List TableNo) (number : ℕ) → conflict_on current base touched ≡ None → number ≡ suc current.number → commit.Committed number ≡ commit_answer current base touched
unfolding commit_answer answer_or
made_answer current base touched number none number_is =
    ap (λ (k : ℕ). commit.Committed k) number_is ∙ ap (λ (o : Option (TableNo × ℕ)). answer_or o (suc current.number)) (sym none)

made_kind : (current : Database) (base : ℕ) (touched : List TableNo) (ops : List Op) → conflict_on current base touched ≡ None → commit_kind current base touched ops ≡ Committed (suc current.number) ops
unfolding commit_kind committed_or
made_kind current base touched ops none = ap (λ (o : Option (TableNo × ℕ)). committed_or o (suc current.number) ops) none

pub made_turn : (turns later : List Turn) (session : SessionNo) (current : Database) (base : ℕ) (touched : List TableNo) (ops : List Op) (what : TurnKind) (changes : List ColumnChange) → later ≡ turns ++ (record { session = session; what = what; changes = changes }) ∷ []
    → what ≡ Committed (suc current.number) ops → changes ≡ ops_changes (rank_ops ops) current → conflict_on current base touched ≡ None → later ≡ turns ++ turn_on session (commit_kind current base touched ops) current ∷ []
unfolding turn_of changes_by
made_turn turns later session current base touched ops what changes added what_is changes_are none =
    told_kind turns later session (Committed (suc current.number) ops) (commit_kind current base touched ops) changes current
    (added ∙ ap (λ (k : TurnKind). turns ++ turn_of session k changes ∷ []) what_is) (made_kind current base touched ops none) changes_are

pub made_current : (current version : Database) (base : ℕ) (touched : List TableNo) (ops : List Op) → version ≡ with_ops (rank_ops ops) current → conflict_on current base touched ≡ None → version ≡ after_turn (commit_kind current base touched ops) current
unfolding after_turn
made_current current version base touched ops version_is none = version_is ∙ ap (λ (k : TurnKind). after_turn k current) (sym (made_kind current base touched ops none))

pub made_course : (first : Database) (turns later : List Turn) (session : SessionNo) (current version : Database) (ops : List Op) (what : TurnKind) (changes : List ColumnChange) → IsDatabase current → IsCourse first turns current → later ≡ turns ++ (record { session = session; what = what; changes = changes }) ∷ []
    → what ≡ Committed (suc current.number) ops → changes ≡ ops_changes (rank_ops ops) current → version ≡ with_ops (rank_ops ops) current → IsCourse first later version
unfolding turn_of changes_by
made_course first turns later session current version ops what changes database course added what_is changes_are version_is =
    let kind = Committed (suc current.number) ops in
    let told = told_kind turns later session kind kind changes current (added ∙ ap (λ (k : TurnKind). turns ++ turn_of session k changes ∷ []) what_is) refl changes_are in
    subst (λ (ts : List Turn). IsCourse first ts version) (sym told)
    (subst (λ (d : Database). IsCourse first (turns ++ turn_on session kind current ∷ []) d) (sym version_is) (committed session ops first turns current database course))
