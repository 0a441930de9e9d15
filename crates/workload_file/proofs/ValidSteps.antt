-- What has been read of a file is valid, step by step; so is the workload that the file gives.
use Rattle.std.proofs.Common.{◌≡◌, ℕ, zero, suc, ◌+◌, ◌*◌, ◌^◌, ◌<◌, ◌≤◌, Bool, true, false, ◌||◌, List, [], ◌∷◌, ◌++◌, length, map, get_or, Option, Some, None, Result, Ok, Err, refl, ap, sym, ◌∙◌, subst, arith, if◌then◌else◌}
use Rattle.std.proofs.lemmas.Bool.{ltb-false, leb-false}
use Rattle.std.proofs.lemmas.List.Sums.{sum_by-append, sum_by-cons}
use Rattle.std.proofs.lemmas.List.{length-append, map-append}
use Rattle.std.specs.Cmp.Lexicographic.{other_text}
use Rattle.std.specs.List.{sum_by}
use Rattle.std.specs.Result.{IfOk}
use Rattle.mope_base.specs.Lists.{Each}
use Rattle.sql_text.specs.declared.Name.{Name}
use Rattle.sql_text.specs.declared.frames.Frame.{Frame}
use Rattle.sql_text.specs.declared.frames.Frame.TheVariants as frame
use Rattle.sql_text.specs.declared.statements.Stmt.{Stmt}
use Rattle.sql_text.specs.declared.statements.Stmt.TheVariants as stmt
use Rattle.workload.specs.Validity.{AreDistinct, IsValidDecl, IsValidAct, IsValidPiece, IsValidScript, IsValid, inserted_numbers, numbers_inserted}
use Rattle.workload.specs.declared.script.Act.{Act}
use Rattle.workload.specs.declared.script.Decl.{Decl}
use Rattle.workload.specs.declared.script.Piece.{Piece}
use Rattle.workload.specs.declared.script.Piece.TheVariants as piece
use Rattle.workload.specs.declared.script.Workload.{Workload}
use Rattle.workload_file.proofs.ValidActs.{WidthsHold, act_numbers, inserted_valid, deleted_valid, selected_valid, rebuilt_valid}
use Rattle.workload_file.proofs.ValidLines.{DeclRead, StmtRead, decl_read, stmt_read}
use Rattle.workload_file.specs.FileLines.{IsLine, is_feed, lines_of, with_byte, without_return}
use Rattle.workload_file.specs.declared.lines.Line.{Line}
use Rattle.workload_file.specs.declared.lines.Line.TheVariants.{Blank, Framed, Stated, Faulty}
use Rattle.workload_file.proofs.FileLemmas.{given_read}
use Rattle.workload_file.proofs.NamingLemmas.{told_same, few_enough}
use Rattle.workload_file.specs.Naming.{is_same, stands_in, names_of, told_after, told_apart, then_told, with_table, declared, declared_as, declared_unless, has_too_many}
use Rattle.workload_file.specs.Steps.{at, start, take, take_at, opened, with_tables, declaring, in_session, with_stage, framed_in_session, next_session, is_last_session, session_ended, at_stage, after_end, outside, inside, begun, closed, with_rebuild, with_act, stated}
use Rattle.workload_file.specs.WorkloadFile.{Verdict, NextLine, IsToldBy, Goes, Leads, GivesUnless, IsWorkloadFile, is_too_long, ended_at}
use Rattle.workload_file.specs.declared.reader.Reader.{Reader}
use Rattle.workload_file.specs.declared.reader.Stage.{Stage}
use Rattle.workload_file.specs.declared.reader.Stage.TheVariants.{Opening, Declaring, Session, Ended}
use Rattle.workload_file.specs.declared.stops.FileReason.{FileReason}
use Rattle.workload_file.specs.declared.stops.FileReason.TheVariants as reason

each_push : {A : Type 0} (P : A → Type 0) (xs : List A) (x : A) → Each P xs → P x → Each P (xs ++ x ∷ [])
unfolding Each
each_push P [] x each is = (is, tt)
each_push P (y ∷ xs) x each is = (each.0, each_push P xs x each.1 is)

sum_none : {A : Type 0} (f : A → ℕ) → sum_by f [] ≡ 0
sum_none f = refl

sum_one : {A : Type 0} (f : A → ℕ) (x : A) → sum_by f (x ∷ []) ≡ f x
sum_one f x = let e = sum_by-cons f x [] in let none : sum_by f [] ≡ 0 = refl in omega (arith, e, none)

sum_push : {A : Type 0} (f : A → ℕ) (xs : List A) (x : A) → sum_by f (xs ++ x ∷ []) ≡ sum_by f xs + f x
sum_push f xs x = let e : sum_by f (xs ++ x ∷ []) ≡ sum_by f xs + sum_by f (x ∷ []) = sum_by-append f xs (x ∷ []) in let one : sum_by f (x ∷ []) ≡ f x = sum_one f x in e ∙ ap (λ (n : ℕ). sum_by f xs + n) one

-- the statements of a transaction that hasn't ended
abbrev pub OpenHolds : List Decl → ℕ → Option (List Act) → Type 0
OpenHolds tables n None = Unit {0}
OpenHolds tables n (Some statements) = Each (IsValidAct tables) statements × (length statements ≤ n)

abbrev open_numbers : Option (List Act) → ℕ
open_numbers None = 0
open_numbers (Some statements) = sum_by inserted_numbers statements

-- after n lines a session has no more transactions, and at most eight numbers a line
pub record SessionHolds (tables : List Decl) (n : ℕ) (pieces : List Piece) (unfinished : Option (List Act)) : Type 0 where
  pub valid : Each (IsValidPiece tables) pieces
  pub few : length pieces ≤ n
  pub begun : OpenHolds tables n unfinished
  pub numbers : sum_by numbers_inserted pieces + open_numbers unfinished ≤ 8 * n

abbrev Before : List Decl → List (List Piece) → Type 0
Before tables sessions = (length sessions < 64) × Each (IsValidScript tables) sessions

-- the sessions that have ended, and the one that has begun
abbrev pub StageHolds : List Decl → List (List Piece) → ℕ → Stage → Type 0
StageHolds tables sessions n Opening = sessions ≡ []
StageHolds tables sessions n Declaring = sessions ≡ []
StageHolds tables sessions n (Session pieces unfinished) = Before tables sessions × SessionHolds tables n pieces unfinished
StageHolds tables sessions n Ended = (length sessions ≤ 64) × Each (IsValidScript tables) sessions

begun_holds : (tables : List Decl) (sessions : List (List Piece)) (before : Before tables sessions) (n : ℕ) (pieces : List Piece) (unfinished : Option (List Act)) (stage : Stage) → SessionHolds tables n pieces unfinished
    → begun pieces unfinished ≡ Ok stage → StageHolds tables sessions (suc n) stage
unfolding begun Each
begun_holds tables sessions before n pieces (Some statements) stage h e = absurd (let no : ⊥ = cc in no)
begun_holds tables sessions before n pieces None stage h e =
    let same : Session pieces (Some []) ≡ stage = cc in
    subst (λ (s : Stage). StageHolds tables sessions (suc n) s) same (
      before,
      record {
        valid = h.valid;
        few = omega (arith, h.few);
        begun = (tt, omega arith);
        numbers = (let none = sum_none inserted_numbers in omega (arith, none, h.numbers));
      },
    )

closed_holds : (tables : List Decl) (sessions : List (List Piece)) (before : Before tables sessions) (n : ℕ) (rollback : Bool) (pieces : List Piece) (unfinished : Option (List Act)) (stage : Stage) → n < 2 ^ 32 → SessionHolds tables n pieces unfinished
    → closed rollback pieces unfinished ≡ Ok stage → StageHolds tables sessions (suc n) stage
unfolding closed numbers_inserted
closed_holds tables sessions before n rollback pieces None stage bounded h e = absurd (let no : ⊥ = cc in no)
closed_holds tables sessions before n rollback pieces (Some statements) stage bounded h e =
    let done : Piece = piece.Txn statements rollback in
    let same : Session (pieces ++ done ∷ []) None ≡ stage = cc in
    let size : length (pieces ++ done ∷ []) ≡ length pieces + 1 = length-append pieces (done ∷ []) in
    let sum : sum_by numbers_inserted (pieces ++ done ∷ []) ≡ sum_by numbers_inserted pieces + sum_by inserted_numbers statements = sum_push numbers_inserted pieces done in
    let few : length statements ≤ n = h.begun.1 in
    subst (λ (s : Stage). StageHolds tables sessions (suc n) s) same (
      before,
      record {
        valid = each_push (IsValidPiece tables) pieces done h.valid (h.begun.0, omega (arith, few, bounded));
        few = omega (arith, size, h.few);
        begun = tt;
        numbers = omega (arith, sum, h.numbers);
      },
    )

piece_holds : (tables : List Decl) (n : ℕ) (pieces : List Piece) (p : Piece) → SessionHolds tables n pieces None → IsValidPiece tables p → numbers_inserted p ≤ 8
    → SessionHolds tables (suc n) (pieces ++ p ∷ []) None
piece_holds tables n pieces p h is few =
    let size : length (pieces ++ p ∷ []) ≡ length pieces + 1 = length-append pieces (p ∷ []) in
    let sum : sum_by numbers_inserted (pieces ++ p ∷ []) ≡ sum_by numbers_inserted pieces + numbers_inserted p = sum_push numbers_inserted pieces p in
    record {
      valid = each_push (IsValidPiece tables) pieces p h.valid is;
      few = omega (arith, size, h.few);
      begun = tt;
      numbers = omega (arith, sum, few, h.numbers);
    }

rebuild_holds : (tables : List Decl) (sessions : List (List Piece)) (before : Before tables sessions) (n : ℕ) (pieces : List Piece) (unfinished : Option (List Act)) (r : Result Piece FileReason) (stage : Stage) → SessionHolds tables n pieces unfinished
    → ((p : Piece) → r ≡ Ok p → IsValidPiece tables p × (numbers_inserted p ≡ 0))
    → with_rebuild pieces unfinished r ≡ Ok stage → StageHolds tables sessions (suc n) stage
unfolding with_rebuild
rebuild_holds tables sessions before n pieces unfinished (Err why) stage h valid e = absurd (let no : ⊥ = cc in no)
rebuild_holds tables sessions before n pieces (Some statements) (Ok p) stage h valid e = absurd (let no : ⊥ = cc in no)
rebuild_holds tables sessions before n pieces None (Ok p) stage h valid e =
    let same : Session (pieces ++ p ∷ []) None ≡ stage = cc in
    let v = valid p refl in
    subst (λ (s : Stage). StageHolds tables sessions (suc n) s) same (before, piece_holds tables n pieces p h v.0 (omega (arith, v.1)))

act_holds : (tables : List Decl) (sessions : List (List Piece)) (before : Before tables sessions) (n : ℕ) (pieces : List Piece) (unfinished : Option (List Act)) (r : Result Act FileReason) (stage : Stage) → WidthsHold tables → SessionHolds tables n pieces unfinished
    → ((a : Act) → r ≡ Ok a → IsValidAct tables a)
    → with_act pieces unfinished r ≡ Ok stage → StageHolds tables sessions (suc n) stage
unfolding with_act numbers_inserted Each
act_holds tables sessions before n pieces unfinished (Err why) stage widths h valid e = absurd (let no : ⊥ = cc in no)
act_holds tables sessions before n pieces None (Ok a) stage widths h valid e =
    let done : Piece = piece.Txn (a ∷ []) false in
    let same : Session (pieces ++ done ∷ []) None ≡ stage = cc in
    let few : inserted_numbers a ≤ 8 = act_numbers tables a widths (valid a refl) in
    subst (λ (s : Stage). StageHolds tables sessions (suc n) s) same (before, piece_holds tables n pieces done h ((valid a refl, tt), omega arith) (let one = sum_one inserted_numbers a in omega (arith, one, few)))
act_holds tables sessions before n pieces (Some statements) (Ok a) stage widths h valid e =
    let same : Session pieces (Some (statements ++ a ∷ [])) ≡ stage = cc in
    let few : inserted_numbers a ≤ 8 = act_numbers tables a widths (valid a refl) in
    let size : length (statements ++ a ∷ []) ≡ length statements + 1 = length-append statements (a ∷ []) in
    let sum : sum_by inserted_numbers (statements ++ a ∷ []) ≡ sum_by inserted_numbers statements + inserted_numbers a = sum_push inserted_numbers statements a in
    let so_far : length statements ≤ n = h.begun.1 in
    subst (λ (s : Stage). StageHolds tables sessions (suc n) s) same (
      before,
      record {
        valid = h.valid;
        few = omega (arith, h.few);
        begun = (each_push (IsValidAct tables) statements a h.begun.0 (valid a refl), omega (arith, size, so_far));
        numbers = omega (arith, sum, few, h.numbers);
      },
    )

stated_holds : (tables : List Decl) (sessions : List (List Piece)) (before : Before tables sessions) (n : ℕ) (pieces : List Piece) (unfinished : Option (List Act)) (s : Stmt) (stage : Stage) → n < 2 ^ 32 → WidthsHold tables → StmtRead s
    → SessionHolds tables n pieces unfinished → stated tables pieces unfinished s ≡ Ok stage → StageHolds tables sessions (suc n) stage
unfolding stated
stated_holds tables sessions before n pieces unfinished stmt.Begin stage bounded widths read h e = begun_holds tables sessions before n pieces unfinished stage h e
stated_holds tables sessions before n pieces unfinished stmt.Commit stage bounded widths read h e = closed_holds tables sessions before n false pieces unfinished stage bounded h e
stated_holds tables sessions before n pieces unfinished stmt.Rollback stage bounded widths read h e = closed_holds tables sessions before n true pieces unfinished stage bounded h e
stated_holds tables sessions before n pieces unfinished (stmt.Rebuild name column) stage bounded widths read h e =
    rebuild_holds tables sessions before n pieces unfinished _ stage h (λ p is. rebuilt_valid tables name column p is) e
stated_holds tables sessions before n pieces unfinished (stmt.Insert name values) stage bounded widths read h e =
    act_holds tables sessions before n pieces unfinished _ stage widths h (λ a is. inserted_valid tables name values a read is) e
stated_holds tables sessions before n pieces unfinished (stmt.Delete name conds) stage bounded widths read h e =
    act_holds tables sessions before n pieces unfinished _ stage widths h (λ a is. deleted_valid tables name conds a read is) e
stated_holds tables sessions before n pieces unfinished (stmt.Select w name conds order limit) stage bounded widths read h e =
    act_holds tables sessions before n pieces unfinished _ stage widths h (λ a is. selected_valid tables name w conds order limit a widths read.0 read.1 read.2 is) e

-- a declared table has 1 to 8 columns
widths_at : (tables : List Decl) (i : ℕ) → Each IsValidDecl tables → i < length tables
    → (0 < length (get_or (map (λ (d : Decl). d.columns) tables) i [])) × (length (get_or (map (λ (d : Decl). d.columns) tables) i []) ≤ 8)
unfolding Each
widths_at [] i each below = absurd (omega (arith, below))
widths_at (d ∷ tables) zero each below = (each.0.some_column, each.0.few_columns)
widths_at (d ∷ tables) (suc i) each below = widths_at tables i each.1 (omega (arith, below))

widths : (tables : List Decl) → Each IsValidDecl tables → WidthsHold tables
widths tables each t below = widths_at tables t.0 each below

apart : (name x : Name) → is_same name x ≡ false → name ≡ x → ⊥
apart name x other same = other_text name.bytes x.bytes (sym other) (ap (λ (n : Name). n.bytes) same)

neither_by : (a b : Bool) → (a || b) ≡ false → (a ≡ false) × (b ≡ false)
neither_by true b e = absurd (let no : ⊥ = cc in no)
neither_by false b e = (refl, e)

distinct_push : (names : List Name) (name : Name) → AreDistinct names → stands_in name names ≡ false → AreDistinct (names ++ name ∷ [])
unfolding AreDistinct Each
distinct_push [] name distinct absent = (tt, tt)
distinct_push (x ∷ names) name distinct absent =
    let parts = neither_by (is_same name x) (stands_in name names) absent in
    (each_push (λ (other : Name). other ≡ x → ⊥) names name distinct.0 (apart name x parts.0), distinct_push names name distinct.1 parts.1)

told_distinct_by : (held : Bool) (before : List Name) (name : Name) (later : Option (List Name)) (all : List Name) → stands_in name before ≡ held → AreDistinct before
    → (AreDistinct (before ++ name ∷ []) → later ≡ Some all → AreDistinct all)
    → then_told held later ≡ Some all → AreDistinct all
unfolding then_told
told_distinct_by true before name later all held distinct rest e = absurd (let no : ⊥ = cc in no)
told_distinct_by false before name later all held distinct rest e = rest (distinct_push before name distinct held) e

told_distinct : (before names all : List Name) → AreDistinct before → told_after before names ≡ Some all → AreDistinct all
unfolding told_after
told_distinct before [] all distinct e = let same : before ≡ all = cc in subst AreDistinct same distinct
told_distinct before (name ∷ names) all distinct e =
    told_distinct_by (stands_in name before) before name (told_after (before ++ name ∷ []) names) all refl distinct
    (λ more same. told_distinct (before ++ name ∷ []) names all more same) e

-- what has been declared
pub record TablesHold (tables : List Decl) : Type 0 where
  pub few : length tables ≤ 16
  pub each : Each IsValidDecl tables
  pub distinct : AreDistinct (names_of tables)

with_table_holds : (held : Bool) (tables new : List Decl) (name : Name) (columns : List Name) → TablesHold tables → length tables < 16 → DeclRead name columns → AreDistinct columns → length columns ≤ 8
    → stands_in name (names_of tables) ≡ held → with_table held tables name columns ≡ Ok new → TablesHold new
unfolding with_table
with_table_holds true tables new name columns h few read distinct narrow held e = absurd (let no : ⊥ = cc in no)
with_table_holds false tables new name columns h few read distinct narrow held e =
    let d : Decl = record { name = name; columns = columns } in
    let same : tables ++ d ∷ [] ≡ new = cc in
    let size : length (tables ++ d ∷ []) ≡ length tables + 1 = length-append tables (d ∷ []) in
    subst TablesHold same (record {
      few = omega (arith, size, few);
      each = each_push IsValidDecl tables d h.each (record { named = read.named; columns_named = read.columns_named; some_column = read.some; few_columns = narrow; distinct = distinct });
      distinct = subst AreDistinct (sym (map-append _ tables (d ∷ []))) (distinct_push (names_of tables) name h.distinct held);
    })

declared_as_holds : (told : Option (List Name)) (tables new : List Decl) (name : Name) (columns : List Name) → TablesHold tables → length tables < 16 → DeclRead name columns → length columns ≤ 8
    → told_apart columns ≡ told → declared_as told tables name columns ≡ Ok new → TablesHold new
unfolding declared_as told_apart AreDistinct
declared_as_holds None tables new name columns h few read narrow told e = absurd (let no : ⊥ = cc in no)
declared_as_holds (Some all) tables new name columns h few read narrow told e =
    let same : all ≡ columns = told_same [] columns all told in
    with_table_holds (stands_in name (names_of tables)) tables new name columns h few read (subst AreDistinct same (told_distinct [] columns all tt told)) narrow refl e

declared_by : (many : Bool) (tables new : List Decl) (name : Name) (columns : List Name) → TablesHold tables → DeclRead name columns
    → has_too_many (length tables) (length columns) ≡ many → declared_unless many tables name columns ≡ Ok new → TablesHold new
unfolding declared_unless
declared_by true tables new name columns h read many e = absurd (let no : ⊥ = cc in no)
declared_by false tables new name columns h read many e =
    let few = few_enough (length tables) (length columns) many in
    declared_as_holds (told_apart columns) tables new name columns h few.0 read few.1 refl e

declared_holds : (tables new : List Decl) (name : Name) (columns : List Name) → TablesHold tables → DeclRead name columns → declared tables name columns ≡ Ok new → TablesHold new
unfolding declared
declared_holds tables new name columns h read e = declared_by (has_too_many (length tables) (length columns)) tables new name columns h read refl e

-- what has been read of a file, after n lines
pub record ReaderHolds (n : ℕ) (reader : Reader) : Type 0 where
  pub tables : TablesHold reader.tables
  pub stage : StageHolds reader.tables reader.sessions n reader.stage

abbrev Gone : ℕ → Result Reader FileReason → Type 0
Gone n r = (next : Reader) → r ≡ Ok next → ReaderHolds n next

gone : (n : ℕ) (tables : List Decl) (sessions : List (List Piece)) (stage : Stage) → TablesHold tables → StageHolds tables sessions n stage → Gone n (Ok (at tables sessions stage))
gone n tables sessions stage h s next e =
    let same : at tables sessions stage ≡ next = cc in
    subst (λ (r : Reader). ReaderHolds n r) same (record { tables = h; stage = s })

refused : (n : ℕ) (why : FileReason) → Gone n (Err why)
refused n why next e = absurd (let no : ⊥ = cc in no)

opened_holds : (n : ℕ) (tables : List Decl) (sessions : List (List Piece)) (said : Line) → TablesHold tables → sessions ≡ [] → Gone n (opened tables sessions said)
unfolding opened
opened_holds n tables sessions Blank h none = gone n tables sessions Opening h none
opened_holds n tables sessions (Framed frame.Header) h none = gone n tables sessions Declaring h none
opened_holds n tables sessions (Framed (frame.Table name columns)) h none = refused n reason.Syntax
opened_holds n tables sessions (Framed frame.Session) h none = refused n reason.Syntax
opened_holds n tables sessions (Framed frame.End) h none = refused n reason.Syntax
opened_holds n tables sessions (Stated s) h none = refused n reason.Syntax
opened_holds n tables sessions (Faulty f) h none = refused n (outside f)

with_tables_holds : (n : ℕ) (sessions : List (List Piece)) (r : Result (List Decl) FileReason) → sessions ≡ [] → ((tables : List Decl) → r ≡ Ok tables → TablesHold tables) → Gone n (with_tables sessions r)
unfolding with_tables
with_tables_holds n sessions (Ok tables) none holds = gone n tables sessions Declaring (holds tables refl) none
with_tables_holds n sessions (Err why) none holds = refused n why

no_scripts : (tables : List Decl) (sessions : List (List Piece)) → sessions ≡ [] → Before tables sessions
unfolding Each
no_scripts tables [] none = (omega arith, tt)
no_scripts tables (s ∷ sessions) none = absurd (let no : ⊥ = cc in no)

new_session : (tables : List Decl) (n : ℕ) → SessionHolds tables n [] None
unfolding Each
new_session tables n = record { valid = tt; few = omega arith; begun = tt; numbers = (let none = sum_none numbers_inserted in omega (arith, none)) }

declaring_holds : (n : ℕ) (line : List ℕ) (tables : List Decl) (sessions : List (List Piece)) (said : Line) → IsLine line said → TablesHold tables → sessions ≡ [] → Gone n (declaring tables sessions said)
unfolding declaring
declaring_holds n line tables sessions Blank is h none = gone n tables sessions Declaring h none
declaring_holds n line tables sessions (Framed frame.Header) is h none = refused n reason.Syntax
declaring_holds n line tables sessions (Framed (frame.Table name columns)) is h none =
    with_tables_holds n sessions (declared tables name columns) none (λ new e. declared_holds tables new name columns h (decl_read line name columns is) e)
declaring_holds n line tables sessions (Framed frame.Session) is h none = gone n tables sessions (Session [] None) h (no_scripts tables sessions none, new_session tables n)
declaring_holds n line tables sessions (Framed frame.End) is h none =
    let before = no_scripts tables sessions none in gone n tables sessions Ended h (omega (arith, before.0), before.1)
declaring_holds n line tables sessions (Stated s) is h none = refused n reason.Syntax
declaring_holds n line tables sessions (Faulty f) is h none = refused n (outside f)

script_holds : (tables : List Decl) (n : ℕ) (pieces : List Piece) → n < 2 ^ 28 → SessionHolds tables n pieces None → IsValidScript tables pieces
script_holds tables n pieces bounded h = record {
  valid = h.valid;
  few_pieces = omega (arith, h.few, bounded);
  few_numbers = omega (arith, h.numbers, bounded);
}

session_later : (tables : List Decl) (n : ℕ) (pieces : List Piece) (unfinished : Option (List Act)) → SessionHolds tables n pieces unfinished → SessionHolds tables (suc n) pieces unfinished
session_later tables n pieces None h = record { valid = h.valid; few = omega (arith, h.few); begun = tt; numbers = omega (arith, h.numbers) }
session_later tables n pieces (Some statements) h =
    let few : length statements ≤ n = h.begun.1 in
    record { valid = h.valid; few = omega (arith, h.few); begun = (h.begun.0, omega (arith, few)); numbers = omega (arith, h.numbers) }

ended_holds : (m n : ℕ) (tables : List Decl) (sessions : List (List Piece)) (pieces : List Piece) (unfinished : Option (List Act)) (stage : Stage) → n < 2 ^ 28 → TablesHold tables → Before tables sessions
    → SessionHolds tables n pieces unfinished
    → ((all : List (List Piece)) → length all ≡ length sessions + 1 → Each (IsValidScript tables) all → StageHolds tables all m stage)
    → Gone m (at_stage tables stage (session_ended sessions pieces unfinished))
unfolding session_ended at_stage
ended_holds m n tables sessions pieces (Some statements) stage bounded h before s following = refused m reason.Transaction
ended_holds m n tables sessions pieces None stage bounded h before s following =
    gone m tables (sessions ++ pieces ∷ []) stage h
    (following (sessions ++ pieces ∷ []) (length-append sessions (pieces ∷ [])) (each_push (IsValidScript tables) sessions pieces before.1 (script_holds tables n pieces bounded s)))

next_holds : (many : Bool) (m n : ℕ) (tables : List Decl) (sessions : List (List Piece)) (pieces : List Piece) (unfinished : Option (List Act)) → n < 2 ^ 28 → TablesHold tables → Before tables sessions
    → SessionHolds tables n pieces unfinished → is_last_session (length sessions) ≡ many
    → Gone m (if many then Err reason.TooMany else at_stage tables (Session [] None) (session_ended sessions pieces unfinished))
unfolding is_last_session
next_holds true m n tables sessions pieces unfinished bounded h before s many = refused m reason.TooMany
next_holds false m n tables sessions pieces unfinished bounded h before s many =
    let few : length sessions < 63 = leb-false 63 (length sessions) many in
    ended_holds m n tables sessions pieces unfinished (Session [] None) bounded h before s (λ all size each. ((omega (arith, size, few), each), new_session tables m))

framed_holds : (m n : ℕ) (tables : List Decl) (sessions : List (List Piece)) (pieces : List Piece) (unfinished : Option (List Act)) (f : Frame) → n < 2 ^ 28 → TablesHold tables → Before tables sessions
    → SessionHolds tables n pieces unfinished → Gone m (framed_in_session tables sessions pieces unfinished f)
unfolding framed_in_session next_session
framed_holds m n tables sessions pieces unfinished frame.Header bounded h before s = refused m reason.Syntax
framed_holds m n tables sessions pieces unfinished (frame.Table name columns) bounded h before s = refused m reason.Syntax
framed_holds m n tables sessions pieces unfinished frame.Session bounded h before s = next_holds (is_last_session (length sessions)) m n tables sessions pieces unfinished bounded h before s refl
framed_holds m n tables sessions pieces unfinished frame.End bounded h before s =
    ended_holds m n tables sessions pieces unfinished Ended bounded h before s (λ all size each. (omega (arith, size, before.0), each))

with_stage_holds : (n : ℕ) (tables : List Decl) (sessions : List (List Piece)) (r : Result Stage FileReason) → TablesHold tables
    → ((stage : Stage) → r ≡ Ok stage → StageHolds tables sessions n stage) → Gone n (with_stage tables sessions r)
unfolding with_stage
with_stage_holds n tables sessions (Ok stage) h holds = gone n tables sessions stage h (holds stage refl)
with_stage_holds n tables sessions (Err why) h holds = refused n why

session_holds : (n : ℕ) (line : List ℕ) (tables : List Decl) (sessions : List (List Piece)) (pieces : List Piece) (unfinished : Option (List Act)) (said : Line) → n < 2 ^ 28 → IsLine line said → TablesHold tables
    → Before tables sessions → SessionHolds tables n pieces unfinished → Gone (suc n) (in_session tables sessions pieces unfinished said)
unfolding in_session
session_holds n line tables sessions pieces unfinished Blank bounded is h before s = gone (suc n) tables sessions (Session pieces unfinished) h (before, session_later tables n pieces unfinished s)
session_holds n line tables sessions pieces unfinished (Framed f) bounded is h before s = framed_holds (suc n) n tables sessions pieces unfinished f bounded h before s
session_holds n line tables sessions pieces unfinished (Stated st) bounded is h before s =
    with_stage_holds (suc n) tables sessions (stated tables pieces unfinished st) h
    (λ stage e. stated_holds tables sessions before n pieces unfinished st stage (omega (arith, bounded)) (widths tables h.each) (stmt_read line st is) s e)
session_holds n line tables sessions pieces unfinished (Faulty f) bounded is h before s = refused (suc n) (inside f)

after_holds : (n : ℕ) (tables : List Decl) (sessions : List (List Piece)) (said : Line) → TablesHold tables → (length sessions ≤ 64) × Each (IsValidScript tables) sessions → Gone n (after_end tables sessions said)
unfolding after_end
after_holds n tables sessions Blank h s = gone n tables sessions Ended h s
after_holds n tables sessions (Framed f) h s = refused n reason.TextAfterEnd
after_holds n tables sessions (Stated st) h s = refused n reason.TextAfterEnd
after_holds n tables sessions (Faulty f) h s = refused n reason.TextAfterEnd

take_at_holds : (n : ℕ) (line : List ℕ) (tables : List Decl) (sessions : List (List Piece)) (stage : Stage) (said : Line) → n < 2 ^ 28 → IsLine line said → TablesHold tables
    → StageHolds tables sessions n stage → Gone (suc n) (take_at stage tables sessions said)
unfolding take_at
take_at_holds n line tables sessions Opening said bounded is h s = opened_holds (suc n) tables sessions said h s
take_at_holds n line tables sessions Declaring said bounded is h s = declaring_holds (suc n) line tables sessions said is h s
take_at_holds n line tables sessions (Session pieces unfinished) said bounded is h s = session_holds n line tables sessions pieces unfinished said bounded is h s.0 s.1
take_at_holds n line tables sessions Ended said bounded is h s = after_holds (suc n) tables sessions said h s

next_line_holds : (n : ℕ) (reader : Reader) (line : List ℕ) (next : Result Reader FileReason) → n < 2 ^ 28 → ReaderHolds n reader → NextLine reader line next → Gone (suc n) next
unfolding take
next_line_holds n reader line next bounded h is after e =
    take_at_holds n (without_return line) reader.tables reader.sessions reader.stage is.said bounded is.is_line h.tables h.stage after (sym is.taken ∙ e)

ended_valid : (m n : ℕ) (reader : Reader) (stage : Stage) (w : Workload) → TablesHold reader.tables → StageHolds reader.tables reader.sessions n stage → Ok w ≡ ended_at stage m reader → IsValid w
unfolding ended_at
ended_valid m n reader Opening w h s e = absurd (let no : ⊥ = cc in no)
ended_valid m n reader Declaring w h s e = absurd (let no : ⊥ = cc in no)
ended_valid m n reader (Session pieces unfinished) w h s e = absurd (let no : ⊥ = cc in no)
ended_valid m n reader Ended w h s e =
    let same : w ≡ record { tables = reader.tables; sessions = reader.sessions } = cc in
    subst IsValid (sym same) (record { few_tables = h.few; tables = h.each; distinct = h.distinct; few_sessions = s.0; scripts = s.1 })

goes_valid : (m : ℕ) (next : Result Reader FileReason) (P : Reader → Type 0) (w : Workload) → ((after : Reader) → next ≡ Ok after → P after → IsValid w) → Goes m next P (Ok w) → IsValid w
unfolding Goes
goes_valid m (Ok after) P w rest goes = rest after refl goes
goes_valid m (Err why) P w rest goes = absurd (let no : ⊥ = cc in no)

pub leads_valid : (m n : ℕ) (reader : Reader) (lines : List (List ℕ)) (w : Workload) → n + length lines < 2 ^ 28 → ReaderHolds n reader → Leads m reader lines (Ok w) → IsValid w
unfolding Leads
leads_valid m n reader [] w bounded h leads = ended_valid m n reader reader.stage w h.tables h.stage leads
leads_valid m n reader (line ∷ lines) w bounded h leads =
    goes_valid m leads.0 (λ after. Leads (suc m) after lines (Ok w)) w
    (λ after e later. leads_valid (suc m) (suc n) after lines w (omega (arith, bounded)) (next_line_holds n reader line leads.0 (omega (arith, bounded)) h leads.1 after e) later)
    leads.2

with_byte_size : (feed : Bool) (b : ℕ) (lines : List (List ℕ)) → length (with_byte feed b lines) ≤ suc (length lines)
unfolding with_byte
with_byte_size true b lines = omega arith
with_byte_size false b [] = omega arith
with_byte_size false b (line ∷ lines) = omega arith

pub lines_few : (bytes : List ℕ) → length (lines_of bytes) ≤ length bytes
unfolding lines_of
lines_few [] = omega arith
lines_few (b ∷ bytes) =
    let size = with_byte_size (is_feed b) b (lines_of bytes) in
    let rest = lines_few bytes in
    omega (arith, size, rest)

pub start_holds : ReaderHolds 0 start
unfolding start Each AreDistinct
start_holds = record { tables = record { few = omega arith; each = tt; distinct = tt }; stage = refl }

valid_by : (long : Bool) (bytes : List ℕ) (w : Workload) → is_too_long bytes ≡ long → GivesUnless long bytes (Ok w) → IsValid w
unfolding GivesUnless is_too_long
valid_by true bytes w long gives = absurd (let no : ⊥ = cc in no)
valid_by false bytes w long gives =
    let short : length bytes ≤ 67108864 = ltb-false 67108864 (length bytes) long in
    let few = lines_few bytes in
    leads_valid 1 0 start (lines_of bytes) w (omega (arith, short, few)) start_holds gives

pub read_is_valid : (bytes : List ℕ) (w : Workload) → IsWorkloadFile bytes w → IsValid w
read_is_valid bytes w gives = valid_by (is_too_long bytes) bytes w refl gives

pub given_valid : (bytes : List ℕ) (verdict : Verdict) → length bytes ≤ 67108864 → IsToldBy (Leads 1 start (lines_of bytes)) verdict → IfOk verdict (λ (w : Workload). IsValid w)
given_valid bytes (Ok w) short told = read_is_valid bytes w (given_read bytes (Ok w) short told)
given_valid bytes (Err stop) short told = tt
