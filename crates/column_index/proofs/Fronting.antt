-- Entries that are given their new codes, from the front on.
use Rattle.std.proofs.Common.{◌≡◌, ℕ, ◌+◌, ◌-◌, suc, zero, ◌<◌, ◌≤◌, List, [], ◌∷◌, ◌++◌, length, map, take, drop, set, get_or, refl, ap, ◌∙◌, sym, subst, arith, length-set, inl, inr}
use Rattle.std.proofs.lemmas.List.{drop_all, drop_more, get_or_default}
use Rattle.std.proofs.lemmas.Bool.{cases_eq}
use Rattle.column_index.specs.declared.entry.Entry.{Entry}
use Rattle.column_index.specs.Recoding.{recoded}
use Rattle.std.specs.Prelude.{Result, Ok, Err, OnOk, is_err, true, false}
use Rattle.path_code.specs.declared.moves.Recode.{Recode}
use Rattle.tree_model.specs.Places.{below, IsIncreasing}
use Rattle.code_changes.specs.Changes.{new_code}
use Rattle.column_index.specs.Entries.{codes_in, IsOrdered}
use Rattle.column_index.specs.Fronts.{IsFrontRecoded, IsMoving, BeginFrom, AreMoved}
use Rattle.column_index.proofs.Codes.{new_code-nothing, new_code-past, new_code-before, new_code-at, IsIncreasing-drop, below-more, BeginFrom-first, BeginFrom-zero, BeginFrom-next}
use Rattle.column_index.proofs.Points.{below-length, before_code, from_code}

-- the list whose front has been recoded
abbrev pub front : (Entry → Entry) → List Entry → ℕ → List Entry
front g xs k = map g (take k xs) ++ drop k xs

-- one entry more
pub front-set : (g : Entry → Entry) (xs : List Entry) (k : ℕ) (d : Entry) → k < length xs → set (front g xs k) k (g (get_or xs k d)) ≡ front g xs (suc k)
front-set g [] k d lt = absurd (omega arith)
front-set g (x ∷ xs) zero d lt = refl
front-set g (x ∷ xs) (suc k) d lt = ap (λ (zs : List Entry). g x ∷ zs) (front-set g xs k d (omega arith))

front-stay : (g : Entry → Entry) (xs : List Entry) (k : ℕ) (d : Entry) → k < length xs → g (get_or xs k d) ≡ get_or xs k d → front g xs k ≡ front g xs (suc k)
front-stay g [] k d lt same = absurd (omega arith)
front-stay g (x ∷ xs) zero d lt same = ap (λ (z : Entry). z ∷ xs) (sym same)
front-stay g (x ∷ xs) (suc k) d lt same = ap (λ (zs : List Entry). g x ∷ zs) (front-stay g xs k d (omega arith) same)

front-stays_by : (g : Entry → Entry) (xs : List Entry) (p n : ℕ) (d : Entry) → p + n ≤ length xs → ((k : ℕ) → p ≤ k → k < p + n → g (get_or xs k d) ≡ get_or xs k d) → front g xs p ≡ front g xs (p + n)
front-stays_by g xs p zero d le same = ap (front g xs) (let e : p ≡ p + zero = omega arith in e)
front-stays_by g xs p (suc n) d le same =
    front-stays_by g xs p n d (omega arith) (λ k from to. same k from (omega arith))
    ∙ front-stay g xs (p + n) d (omega arith) (same (p + n) (omega arith) (omega arith))
    ∙ ap (front g xs) (let e : suc (p + n) ≡ p + suc n = omega arith in e)

-- entries that stay don't tell whether they belong to the front
pub front-stays : (g : Entry → Entry) (xs : List Entry) (p q : ℕ) (d : Entry) → p ≤ q → q ≤ length xs → ((k : ℕ) → p ≤ k → k < q → g (get_or xs k d) ≡ get_or xs k d) → front g xs p ≡ front g xs q
front-stays g xs p q d le within same =
    let sum : p + (q - p) ≡ q = omega arith in
    front-stays_by g xs p (q - p) d (omega arith) (λ k from to. same k from (omega arith)) ∙ ap (front g xs) sum

pub front-whole : (g : Entry → Entry) (xs : List Entry) → front g xs (length xs) ≡ map g xs
front-whole g [] = refl
front-whole g (x ∷ xs) = ap (λ (zs : List Entry). g x ∷ zs) (front-whole g xs)

pub length-front : (g : Entry → Entry) (xs : List Entry) (k : ℕ) → length (front g xs k) ≡ length xs
length-front g [] zero = refl
length-front g [] (suc k) = refl
length-front g (x ∷ xs) zero = refl
length-front g (x ∷ xs) (suc k) = ap (λ (n : ℕ). suc n) (length-front g xs k)

-- an entry whose code stays
pub recoded-stays : (to : ℕ → ℕ) (e : Entry) → to e.enc ≡ e.enc → recoded to e ≡ e
unfolding recoded
recoded-stays to e same = let make : ℕ → Entry = λ enc. record { enc = enc; row = e.row } in ap make same

pub recoded-to : (to : ℕ → ℕ) (e : Entry) (code : ℕ) → to e.enc ≡ code → recoded to e ≡ record { enc = code; row = e.row }
unfolding recoded
recoded-to to e code same = let make : ℕ → Entry = λ enc. record { enc = enc; row = e.row } in ap make same

-- ---- the entries of one code

pub moving_on : (old new : ℕ) (earlier first now after : List Entry) (start place : ℕ) (x d : Entry) → place < length earlier → IsMoving old new earlier first start place now → x ≡ get_or earlier place d → x.enc ≡ old → after ≡ set now place (record { enc = new; row = x.row }) → IsMoving old new earlier first start (place + 1) after
moving_on old new earlier first now after start place x d lt m read code made = record {
  many = ap length made ∙ length-set now place (record { enc = new; row = x.row }) ∙ m.many;
  same = λ k e from to. elim (cases_eq k place) [
    | inl here ↦ ap (λ (n : ℕ). (get_or earlier n e).enc) here ∙ ap (λ (y : Entry). y.enc) (get_or_default earlier place e d lt ∙ sym read) ∙ code
    | inr other ↦ m.same k e from (omega arith)
  ];
  front = λ to at h.
      let make : ℕ → Entry → Entry = λ enc e. record { enc = enc; row = e.row } in
      let at_place : to (get_or earlier place d).enc ≡ new = ap (λ (e : Entry). to e.enc) (sym read) ∙ ap to code ∙ at in
      made
      ∙ ap (λ (zs : List Entry). set zs place (make new x)) (m.front to at h)
      ∙ ap (λ (y : Entry). set (front (recoded to) earlier place) place y) (ap (make new) read ∙ sym (recoded-to to (get_or earlier place d) new at_place))
      ∙ front-set (recoded to) earlier place d lt
      ∙ ap (front (recoded to) earlier) (let e : suc place ≡ place + 1 = omega arith in e);
}

-- ---- pair after pair

pub none_moved : (moved : List Recode) (earlier now : List Entry) → now ≡ earlier → AreMoved moved 0 earlier 0 now
none_moved moved earlier now same = record {
  many = ap length same;
  within = omega arith;
  front = same;
  ahead = BeginFrom-zero (codes_in earlier) moved;
  rest = λ k d from to. refl;
}

pub begins_ahead : (moved : List Recode) (i : ℕ) (d : Recode) (earlier now : List Entry) (end : ℕ) → i < length moved → AreMoved moved i earlier end now → end ≤ below (get_or moved i d).old (codes_in earlier)
begins_ahead moved i d earlier now end lt m =
    BeginFrom-first end (codes_in earlier) (get_or moved i d) (drop (i + 1) moved) (subst (BeginFrom end (codes_in earlier)) (drop_more moved i d lt) m.ahead)

pub moved_on : (moved : List Recode) (i : ℕ) (d : Recode) (earlier now after : List Entry) (end start next : ℕ) → IsOrdered earlier → IsIncreasing (map (λ pair. pair.old) moved) → i < length moved → AreMoved moved i earlier end now → start ≡ below (get_or moved i d).old (codes_in earlier) → next ≡ below ((get_or moved i d).old + 1) (codes_in earlier) → length after ≡ length earlier → ((to : ℕ → ℕ) → to (get_or moved i d).old ≡ (get_or moved i d).new → IsFrontRecoded to earlier start now → IsFrontRecoded to earlier next after) → AreMoved moved (i + 1) earlier next after
moved_on moved i d earlier now after end start next ordered up lt m begins ends many step =
    let pair = get_or moved i d in
    let others = drop (i + 1) moved in
    let codes = codes_in earlier in
    let split : drop i moved ≡ pair ∷ others = drop_more moved i d lt in
    let up_rest : IsIncreasing (map (λ pair. pair.old) (pair ∷ others)) = subst (λ (zs : List Recode). IsIncreasing (map (λ pair. pair.old) zs)) split (IsIncreasing-drop moved i up) in
    let from_end : end ≤ start = let h = begins_ahead moved i d earlier now end lt m in omega arith in
    let longer = below-more pair.old (pair.old + 1) codes (omega arith) in
    let nothing : Entry = record { enc = 0; row = 0 } in
    let stays : (k : ℕ) → end ≤ k → k < start → recoded (new_code moved) (get_or earlier k nothing) ≡ get_or earlier k nothing =
    (λ k from to. recoded-stays (new_code moved) (get_or earlier k nothing) (
    m.rest k nothing from (omega (arith, below-length pair.old earlier))
    ∙ ap (λ (zs : List Recode). new_code zs (get_or earlier k nothing).enc) split
    ∙ new_code-before pair others (get_or earlier k nothing).enc up_rest (before_code pair.old earlier k nothing ordered (omega arith)))) in
    let at_start = m.front ∙ front-stays (recoded (new_code moved)) earlier end start nothing from_end (omega (arith, below-length pair.old earlier)) stays in
    record {
      many = many;
      within = omega (arith, below-length (pair.old + 1) earlier);
      front = step (new_code moved) (new_code-at moved i d up lt) at_start;
      ahead = subst (λ (n : ℕ). BeginFrom n codes others) (sym ends) (BeginFrom-next codes pair others up_rest);
      rest = λ k e from to.
          m.rest k e (omega arith) to
          ∙ ap (λ (zs : List Recode). new_code zs (get_or earlier k e).enc) split
          ∙ new_code-past pair others (get_or earlier k e).enc (λ f. let past = from_code (pair.old + 1) earlier k e ordered (omega arith) to in omega arith);
    }

pub all_moved : (moved : List Recode) (i : ℕ) (earlier now : List Entry) (end : ℕ) → length moved ≤ i → AreMoved moved i earlier end now → now ≡ map (recoded (new_code moved)) earlier
all_moved moved i earlier now end past m =
    let nothing : Entry = record { enc = 0; row = 0 } in
    let none : drop i moved ≡ [] = drop_all i moved past in
    m.front
    ∙ front-stays (recoded (new_code moved)) earlier end (length earlier) nothing m.within (omega arith) (λ k from to.
    recoded-stays (new_code moved) (get_or earlier k nothing) (
    m.rest k nothing from to ∙ ap (λ (zs : List Recode). new_code zs (get_or earlier k nothing).enc) none ∙ new_code-nothing (get_or earlier k nothing).enc))
    ∙ front-whole (recoded (new_code moved)) earlier

pub ok_of : {X E : Type 0} {P : Type 0} (r : Result X E) → OnOk r P → is_err r ≡ false → P
ok_of (Ok x) h no' = h
ok_of (Err e) h no' = absurd (let f : true ≡ false = no' in cc)
