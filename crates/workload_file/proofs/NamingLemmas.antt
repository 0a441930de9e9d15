-- Names, and the numbers that they have.
use Rattle.std.proofs.Common.{◌≡◌, ℕ, ◌+◌, ◌<◌, Bool, true, false, not, ◌||◌, nat_eq, nat_le, nat_lt, ◌≤◌, cond, List, [], ◌∷◌, ◌++◌, length, map, Option, Some, None, Result, Ok, Err, refl, ap, sym, ◌∙◌, subst, add-one, arith, if◌then◌else◌}
use Rattle.std.proofs.lemmas.List.{append-nil, append_assoc}
use Rattle.std.proofs.lemmas.List.{map-append, length-map, length-append}
use Rattle.std.specs.List.{list_any, position, prefix_len}
use Rattle.std.specs.Global.{Vec}
use Rattle.std.specs.Cmp.Lexicographic.{pointwise}
use Rattle.std.specs.Option.{IfSome}
use Rattle.std.specs.Result.{IfOk}
use Rattle.std.proofs.lemmas.Bool.{ltb-false, leb-false}
use Rattle.mope_base.specs.declared.numbers.ColNo.{ColNo}
use Rattle.workload.specs.declared.script.Decl.{Decl}
use Rattle.sql_text.specs.declared.Name.{Name}
use Rattle.workload_file.specs.Naming.{is_same, place_of, stands_in, told_after, told_apart, then_told, with_new, names_of_keys, names_of, all_columns, AreNumbered, has_too_many}
use Rattle.workload_file.specs.Resolving.{behind, both, first_columns}

prefix-map : {A B : Type 0} (f : A → B) (test : B → Bool) (xs : List A) → prefix_len test (map f xs) ≡ prefix_len (λ x. test (f x)) xs
prefix-map f test [] = refl
prefix-map f test (x ∷ xs) = ap (λ n. cond (test (f x)) (1 + n) 0) (prefix-map f test xs)

abbrev place : ℕ → ℕ → Option ℕ
place m n = cond (nat_lt m n) (Some m) None

-- a list that is mapped is searched by the map
pub position-map : {A B : Type 0} (f : A → B) (test : B → Bool) (xs : List A) → position test (map f xs) ≡ position (λ x. test (f x)) xs
position-map f test xs =
    ap (λ m. place m (length (map f xs))) (prefix-map f (λ y. not (test y)) xs)
    ∙ ap (λ n. place (prefix_len (λ x. not (test (f x))) xs) n) (length-map xs f)

pub list_any-map : {A B : Type 0} (f : A → B) (test : B → Bool) (xs : List A) → list_any test (map f xs) ≡ list_any (λ x. test (f x)) xs
list_any-map f test [] = refl
list_any-map f test (x ∷ xs) = ap (λ b. test (f x) || b) (list_any-map f test xs)

-- what is found goes behind what was found before
pub behind_both : {A : Type 0} (front : List A) (x : A) (found : Option (List A)) → behind (front ++ x ∷ []) found ≡ behind front (both (Some x) found)
unfolding behind both
behind_both front x None = refl
behind_both front x (Some found) = ap Some (append_assoc front (x ∷ []) found)

pub behind_nothing : {A : Type 0} (found : Option (List A)) → behind [] found ≡ found
unfolding behind
behind_nothing None = refl
behind_nothing (Some found) = refl

pub behind_end : {A : Type 0} (front : List A) → Some front ≡ behind front (Some [])
unfolding behind
behind_end front = ap Some (sym (append-nil front))

-- how the keys that are kept show the names
pub few_names : (keys : List (Vec ℕ)) (names : List Name) → names_of_keys keys ≡ names → length keys ≤ 16 → length names ≤ 16
unfolding names_of_keys
few_names keys names e few = subst (λ (l : List Name). length l ≤ 16) e (subst (λ (n : ℕ). n ≤ 16) (sym (length-map keys _)) few)

pub count_names : (keys : List (Vec ℕ)) (names : List Name) → names_of_keys keys ≡ names → length keys ≡ length names
unfolding names_of_keys
count_names keys names e = sym (length-map keys _) ∙ ap length e

pub no_names : (keys : List (Vec ℕ)) → length keys ≡ 0 → names_of_keys keys ≡ []
unfolding names_of_keys
no_names [] e = refl
no_names (k ∷ keys) e = absurd (omega (arith, e))

pub place_key : (keys : List (Vec ℕ)) (name : Name) (query : List ℕ) (names : List Name) → names_of_keys keys ≡ names → query ≡ name.bytes
    → position (λ (k : Vec ℕ). pointwise nat_eq query k.items) keys ≡ place_of name names
unfolding names_of_keys
place_key keys name query names e same =
    ap (λ (q : List ℕ). position (λ (k : Vec ℕ). pointwise nat_eq q k.items) keys) same
    ∙ sym (position-map (λ (k : Vec ℕ). record { bytes = k.items }) (is_same name) keys)
    ∙ ap (λ (l : List Name). place_of name l) e

pub stands_key : (keys : List (Vec ℕ)) (name : Name) (query : List ℕ) (names : List Name) → names_of_keys keys ≡ names → query ≡ name.bytes
    → list_any (λ (k : Vec ℕ). pointwise nat_eq query k.items) keys ≡ stands_in name names
unfolding names_of_keys
stands_key keys name query names e same =
    ap (λ (q : List ℕ). list_any (λ (k : Vec ℕ). pointwise nat_eq q k.items) keys) same
    ∙ sym (list_any-map (λ (k : Vec ℕ). record { bytes = k.items }) (is_same name) keys)
    ∙ ap (λ (l : List Name). stands_in name l) e

keys_added : (keys : List (Vec ℕ)) (key : Vec ℕ) → names_of_keys (keys ++ key ∷ []) ≡ names_of_keys keys ++ record { bytes = key.items } ∷ []
unfolding names_of_keys
keys_added keys key = map-append _ keys (key ∷ [])

-- the keys after a new one, by whether it was there
pub names_added : (held : Bool) (old new : List (Vec ℕ)) (key : Vec ℕ) (name : Name) (names : List Name) → names_of_keys old ≡ names → key.items ≡ name.bytes
    → held ≡ false → new ≡ (if held then old else old ++ key ∷ []) → names_of_keys new ≡ names ++ name ∷ []
names_added true old new key name names e same absent is = absurd (let no : ⊥ = cc in no)
names_added false old new key name names e same absent is =
    ap names_of_keys is ∙ keys_added old key ∙ ap (λ (l : List Name). l ++ record { bytes = key.items } ∷ []) e
    ∙ ap (λ (b : List ℕ). names ++ record { bytes = b } ∷ []) same

pub keys_fit : (old new : List (Vec ℕ)) (names : List Name) (added : Bool) → names_of_keys old ≡ names → length names < 16 → length new ≡ length old + (if added then 1 else 0) → length new ≤ 16
keys_fit old new names true e few size = let same = count_names old names e in omega (arith, same, few, size)
keys_fit old new names false e few size = let same = count_names old names e in omega (arith, same, few, size)

pub not_false : (held : Bool) → true ≡ not held → held ≡ false
not_false true e = absurd (let no : ⊥ = cc in no)
not_false false e = refl

pub not_true : (held : Bool) → false ≡ not held → held ≡ true
not_true true e = refl
not_true false e = absurd (let no : ⊥ = cc in no)

-- names that are told apart are those that were declared
told_by : (held : Bool) (later : Option (List Name)) (all : List Name) → then_told held later ≡ Some all → later ≡ Some all
unfolding then_told
told_by true later all e = absurd (let no : ⊥ = cc in no)
told_by false later all e = e

pub told_same : (before names all : List Name) → told_after before names ≡ Some all → all ≡ before ++ names
unfolding told_after
told_same before [] all e = let same : before ≡ all = cc in sym same ∙ sym (append-nil before)
told_same before (name ∷ names) all e =
    told_same (before ++ name ∷ []) names all (told_by (stands_in name before) (told_after (before ++ name ∷ []) names) all e) ∙ append_assoc before (name ∷ []) names

pub told_found : (names : List Name) (found : Option (List Name)) → found ≡ told_apart names → IfSome found (λ (all : List Name). all ≡ names)
unfolding told_apart
told_found names None e = tt
told_found names (Some all) e = told_same [] names all (sym e)

pub first_columns_more : (n : ℕ) (front : List ColNo) (c : ColNo) → front ≡ first_columns n → c.0 ≡ n → front ++ c ∷ [] ≡ first_columns (n + 1)
unfolding first_columns
first_columns_more n front c e same =
    ap (λ (l : List ColNo). l ++ c ∷ []) e ∙ ap (λ (k : ℕ). first_columns n ++ record { 0 = k } ∷ []) same ∙ ap first_columns (sym (add-one n))

-- one more table, numbered
pub numbered_more : (decls : List Decl) (names : List Name) (columns : List (List Name)) (new_decls : List Decl) (new_names : List Name) (new_columns : List (List Name)) (name : Name) (own : List Name)
    → AreNumbered decls names columns → length decls < 16
    → new_names ≡ names ++ name ∷ [] → new_columns ≡ columns ++ own ∷ [] → new_decls ≡ decls ++ record { name = name; columns = own } ∷ []
    → AreNumbered new_decls new_names new_columns
numbered_more decls names columns new_decls new_names new_columns name own h few is_names is_columns is_decls = record {
  tables_named =
      is_names ∙ ap (λ (l : List Name). l ++ name ∷ []) h.tables_named
      ∙ sym (map-append _ decls (record { name = name; columns = own } ∷ [])) ∙ ap names_of (sym is_decls);
  columns_named =
      is_columns ∙ ap (λ (l : List (List Name)). l ++ own ∷ []) h.columns_named
      ∙ sym (map-append _ decls (record { name = name; columns = own } ∷ [])) ∙ ap all_columns (sym is_decls);
  few = (let size = ap length is_decls ∙ length-append decls (record { name = name; columns = own } ∷ []) in omega (arith, size, few));
}

few_by : (a b : Bool) → (a || b) ≡ false → (a ≡ false) × (b ≡ false)
few_by true b e = absurd (let no : ⊥ = cc in no)
few_by false b e = (refl, e)

pub few_enough : (tables columns : ℕ) → has_too_many tables columns ≡ false → (tables < 16) × (columns ≤ 8)
unfolding has_too_many
few_enough tables columns e =
    let parts = few_by (nat_le 16 tables) (nat_lt 8 columns) e in
    (leb-false 16 tables parts.0, ltb-false 8 columns parts.1)

pub new_found : (held : Bool) (names : List Name) (name : Name) (all : List Name) → held ≡ false → all ≡ names ++ name ∷ [] → Some all ≡ with_new held names name
unfolding with_new
new_found true names name all absent is = absurd (let no : ⊥ = cc in no)
new_found false names name all absent is = ap Some is

pub old_found : (held : Bool) (names : List Name) (name : Name) → held ≡ true → None ≡ with_new held names name
unfolding with_new
old_found true names name held = refl
old_found false names name held = absurd (let no : ⊥ = cc in no)

pub told_all : {E : Type 0} (r : Result (Option (List Name)) E) (before names : List Name) → before ≡ [] → IfOk r (λ found. found ≡ told_after before names)
    → IfOk r (λ found. IfSome found (λ (all : List Name). all ≡ names))
unfolding told_apart
told_all (Ok found) before names none told = told_found names found (told ∙ ap (λ (l : List Name). told_after l names) none)
told_all (Err e) before names none told = tt
