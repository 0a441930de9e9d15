-- Workloads and databases that were tested part by part.
use Rattle.std.proofs.Common.{◌≡◌, refl, sym, ap, ◌∙◌, subst, ℕ, ◌+◌, ◌<◌, ◌≤◌, ◌^◌, Bool, List, [], ◌∷◌, map, drop, length, get_or, codes, lit≤, arith, add-one}
use Rattle.std.proofs.lemmas.List.{drop_more, drop_all, get_or_past, get_or_default, get_or-map, length-map}
use Rattle.mope_base.specs.declared.numbers.TableNo.{TableNo}
use Rattle.sql_text.specs.declared.Name.{Name}
use Rattle.sql_text.specs.Words.{IsName, keyword_of, keywords}
use Rattle.workload.specs.declared.plain.PlainRow.{PlainRow}
use Rattle.workload.specs.declared.plain.PlainTable.{PlainTable}
use Rattle.workload.specs.declared.plain.PlainDb.{PlainDb}
use Rattle.workload.specs.declared.script.Act.{Act}
use Rattle.workload.specs.declared.script.Decl.{Decl}
use Rattle.workload.specs.declared.script.Piece.{Piece}
use Rattle.workload.specs.declared.script.Piece.TheVariants as piece
use Rattle.workload.specs.declared.script.Workload.{Workload}
use Rattle.workload.specs.PlainDatabase.{empty_table, table_of}
use Rattle.workload.specs.Transaction.{table_named}
use Rattle.mope_base.specs.Lists.{Each}
use Rattle.workload.specs.Validity.{AreDistinct, IsValid, IsValidDecl, IsValidScript, IsValidPiece, IsValidAct, column_count}
use Rattle.plain_db.specs.Answerable.{IncreaseBelow, IsNumbered, IsNarrowAct, IsAnswerable}

-- the elements from i on are enough
pub record Enough {A : Type 0} (P : A → Type 0) (xs : List A) (i : ℕ) : Type 0 where
  pub whole : Each P (drop i xs) → Each P xs

pub enough-more : {A : Type 0} (P : A → Type 0) (xs : List A) (i : ℕ) (d : A) → i < length xs → P (get_or xs i d) → Enough P xs i
    → Enough P xs (i + 1)
unfolding Each
enough-more P xs i d within here before = record {
  whole = λ rest. before.whole (subst (Each P) (sym (drop_more xs i d within)) (here, rest));
}

pub enough-next : {A : Type 0} (P : A → Type 0) (xs : List A) (i : ℕ) (x : A) → i < length xs → x ≡ get_or xs i x → P x → Enough P xs i
    → Enough P xs (i + 1)
enough-next P xs i x within is here before = enough-more P xs i x within (subst P is here) before

pub enough-end : {A : Type 0} (P : A → Type 0) (xs : List A) (i : ℕ) → length xs ≤ i → Enough P xs i → Each P xs
unfolding Each
enough-end P xs i past before = before.whole (subst (Each P) (sym (drop_all i xs past)) tt)

-- the rows from i on, numbered from `first` on, are enough
pub record EnoughRows (rows : List PlainRow) (first next i : ℕ) : Type 0 where
  pub whole : IncreaseBelow first next (drop i rows) → IncreaseBelow 0 next rows

pub rows-more : (rows : List PlainRow) (first next i : ℕ) (d : PlainRow) → i < length rows → first ≤ (get_or rows i d).number
    → EnoughRows rows first next i → EnoughRows rows ((get_or rows i d).number + 1) next (i + 1)
unfolding IncreaseBelow
rows-more rows first next i d within low before = record {
  whole = λ rest.
      before.whole
      (subst (IncreaseBelow first next) (sym (drop_more rows i d within))
      (low, subst (λ n. IncreaseBelow n next (drop (i + 1) rows)) (add-one (get_or rows i d).number) rest));
}

pub rows-end : (rows : List PlainRow) (first next i : ℕ) → length rows ≤ i → first ≤ next → EnoughRows rows first next i
    → IncreaseBelow 0 next rows
unfolding IncreaseBelow
rows-end rows first next i past below before = before.whole (subst (IncreaseBelow first next) (sym (drop_all i rows past)) below)

pub count-at : (tables : List Decl) (t : TableNo) (d : Decl) → t.0 < length tables
    → length (get_or tables t.0 d).columns ≡ column_count tables t
unfolding column_count
count-at tables t d within = sym (get_or-map (λ (e : Decl). length e.columns) tables t.0 d 0 within)

pub count-past : (tables : List Decl) (t : TableNo) → length tables ≤ t.0 → 0 ≡ column_count tables t
unfolding column_count
count-past tables t past =
    sym (get_or_past (map (λ (e : Decl). length e.columns) tables) t.0 0
    (omega (arith, past, length-map tables (λ (e : Decl). length e.columns))))

pub one-distinct : (names : List Name) → length names ≡ 1 → AreDistinct names
unfolding AreDistinct Each
one-distinct [] e = tt
one-distinct (n ∷ []) e = (tt, tt)
one-distinct (n ∷ m ∷ names) e = absurd (omega (arith, e))

pub two-distinct : (names : List Name) (n m : Name) → length names ≡ 2 → n ≡ get_or names 0 n → m ≡ get_or names 1 m → (m ≡ n → ⊥)
    → AreDistinct names
unfolding AreDistinct Each
two-distinct [] n m e first second other = tt
two-distinct (x ∷ []) n m e first second other = (tt, tt)
two-distinct (x ∷ y ∷ []) n m e first second other = ((λ same. other (second ∙ same ∙ sym first), tt), (tt, tt))
two-distinct (x ∷ y ∷ z ∷ names) n m e first second other = absurd (omega (arith, e))

pub txn-valid : (tables : List Decl) (p : Piece) (acts l m : List Act) (rollback : Bool) → p ≡ piece.Txn acts rollback → l ≡ acts → m ≡ acts
    → length l < 2 ^ 32 → Each (IsValidAct tables) m → IsValidPiece tables p
txn-valid tables p acts l m rollback is e f few each =
    subst (IsValidPiece tables) (sym is) (subst (Each (IsValidAct tables)) f each, subst (λ (k : List Act). length k < 2 ^ 32) e few)

one-decl : (tables : List Decl) (d : Decl) → length tables ≡ 1 → d ≡ get_or tables 0 d → IsValidDecl d → Each IsValidDecl tables
unfolding Each
one-decl [] d one is here = tt
one-decl (x ∷ []) d one is here = (subst IsValidDecl is here, tt)
one-decl (x ∷ y ∷ tables) d one is here = absurd (omega (arith, one))

pub one-valid : (w : Workload) (tables : List Decl) (scripts : List (List Piece)) (d : Decl) → tables ≡ w.tables → scripts ≡ w.sessions
    → length tables ≡ 1 → length scripts ≤ 64 → d ≡ get_or tables 0 d → IsValidDecl d → Each (IsValidScript tables) scripts → IsValid w
one-valid w tables scripts d e f one few is here each = record {
  few_tables = omega (arith, one, ap length e);
  tables = subst (Each IsValidDecl) e (one-decl tables d one is here);
  distinct =
      subst (λ (l : List Decl). AreDistinct (map (λ (x : Decl). x.name) l)) e
      (one-distinct (map (λ (x : Decl). x.name) tables) (length-map tables (λ (x : Decl). x.name) ∙ one));
  few_sessions = omega (arith, few, ap length f);
  scripts = subst (λ (l : List Decl). Each (IsValidScript l) w.sessions) e (subst (Each (IsValidScript tables)) f each);
}

pub answerable : (db : PlainDb) (statement : Act) (t : TableNo) (tables : List PlainTable) (table : PlainTable) (rows : List PlainRow)
    → t ≡ table_named statement → tables ≡ db.tables → t.0 < length tables → table ≡ get_or tables t.0 table → rows ≡ table.rows
    → IncreaseBelow 0 table.next rows → IsNarrowAct statement → IsAnswerable db statement
unfolding table_of
answerable db statement t tables table rows named e within is f increase narrow =
    let size : length tables ≡ length db.tables = ap length e in
    let there : t.0 < length db.tables = omega (arith, within, size) in
    let numbered : IsNumbered table = subst (IncreaseBelow 0 table.next) f increase in
    let same : table ≡ get_or db.tables t.0 empty_table =
    is ∙ ap (λ l. get_or l t.0 table) e ∙ get_or_default db.tables t.0 table empty_table there in
    record {
      is_there = subst (λ (n : TableNo). n.0 < length db.tables) named there;
      numbered = subst (λ (n : TableNo). IsNumbered (get_or db.tables n.0 empty_table)) named (subst IsNumbered same numbered);
      narrow = narrow;
    }

-- the names that the tests' workloads have

table_named_t : IsName (codes "t")
unfolding keyword_of keywords
table_named_t = record { letter = refl; word = refl; short = lit≤ tt; free = refl }

column_named_a : IsName (codes "a")
unfolding keyword_of keywords
column_named_a = record { letter = refl; word = refl; short = lit≤ tt; free = refl }

column_named_b : IsName (codes "b")
unfolding keyword_of keywords
column_named_b = record { letter = refl; word = refl; short = lit≤ tt; free = refl }

pub name-t : (bytes : List ℕ) → bytes ≡ codes "t" → IsName bytes
name-t bytes is = subst IsName (sym is) table_named_t

pub name-a : (bytes : List ℕ) → bytes ≡ codes "a" → IsName bytes
name-a bytes is = subst IsName (sym is) column_named_a

pub name-b : (bytes : List ℕ) → bytes ≡ codes "b" → IsName bytes
name-b bytes is = subst IsName (sym is) column_named_b
