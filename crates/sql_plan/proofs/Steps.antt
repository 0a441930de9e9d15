-- One step of a walk: the entries up to a place, or from it on, with one more.
use Rattle.std.proofs.Common.{◌≡◌, ℕ, suc, ◌+◌, ◌-◌, ◌<◌, ◌≤◌, Bool, true, false, ◌&&◌, List, [], ◌∷◌, ◌++◌, length, map, filter, take, drop, get_or, slice_get, Option, Some, None, refl, ap, ap₂, ◌∙◌, sym, inl, inr, arith, add-one}
use Rattle.std.specs.Option.{option_to_list}
use Rattle.std.proofs.lemmas.Bool.{cases_Bool}
use Rattle.std.proofs.Math.Seq.{take-suc, drop-cons}
use Rattle.std.proofs.lemmas.List.{take-append-drop, append-nil}
use Rattle.std.proofs.lemmas.Option.{slice_get-get_or}
use Rattle.std.proofs.lemmas.List.Elements.{filter-append}
use Rattle.mope_base.specs.declared.body.Body.{Body}
use Rattle.table_model.specs.Stores.{Shelf}
use Rattle.column_index.specs.declared.entry.Entry.{Entry}
use Rattle.sql_plan.specs.declared.bounds.Bound.{Bound}
use Rattle.workload.specs.Selection.{meets}
use Rattle.sql_plan.specs.Bounds.{as_test}
use Rattle.sql_plan.proofs.Filtering.{filter-yes, filter-no}
use Rattle.sql_plan.specs.Walks.{is_within, within, by_number, ends_in, narrowed}
use Rattle.sql_plan.proofs.SpanLemmas.{is_within-cons, is_within-nothing, holds_code}

pub take-step : {X : Type 0} (xs : List X) (place : ℕ) (d : X) → place < length xs → take (place + 1) xs ≡ take place xs ++ option_to_list (slice_get xs place)
take-step xs place d lt =
    ap (λ (n : ℕ). take n xs) (add-one place) ∙ take-suc xs place d lt
    ∙ ap (λ (o : Option _). take place xs ++ option_to_list o) (sym (slice_get-get_or xs place d lt))

pub drop-step : {X : Type 0} (xs : List X) (place : ℕ) (d : X) → place < length xs → drop place xs ≡ option_to_list (slice_get xs place) ++ drop (place + 1) xs
drop-step xs place d lt =
    drop-cons xs place d lt
    ∙ ap₂ (λ (o : Option _) (n : ℕ). option_to_list o ++ drop n xs) (sym (slice_get-get_or xs place d lt)) (sym (add-one place))

pub no_entry : Entry
no_entry = record { enc = 0; row = 0 }

module _ (s : Shelf Body) (bounds : List Bound) where
  pub within-append : (xs ys : List Entry) → within s bounds (xs ++ ys) ≡ within s bounds xs ++ within s bounds ys
  unfolding within
  within-append xs ys = filter-append (λ (e : Entry). is_within s bounds e.row) xs ys

  pub within-nothing : within s bounds [] ≡ []
  unfolding within
  within-nothing = refl

  pub within-take : (entries : List Entry) (place : ℕ) → place < length entries → within s bounds (take (place + 1) entries) ≡ within s bounds (take place entries) ++ within s bounds (option_to_list (slice_get entries place))
  within-take entries place lt = ap (within s bounds) (take-step entries place no_entry lt) ∙ within-append (take place entries) (option_to_list (slice_get entries place))

  pub within-drop : (entries : List Entry) (place : ℕ) → place < length entries → within s bounds (drop place entries) ≡ within s bounds (option_to_list (slice_get entries place)) ++ within s bounds (drop (place + 1) entries)
  within-drop entries place lt = ap (within s bounds) (drop-step entries place no_entry lt) ∙ within-append (option_to_list (slice_get entries place)) (drop (place + 1) entries)

  -- with what the walk reads at the place
  pub take-more : (entries : List Entry) (place : ℕ) (read : List Entry) → place < length entries → read ≡ within s bounds (option_to_list (slice_get entries place)) → within s bounds (take (place + 1) entries) ≡ within s bounds (take place entries) ++ read
  take-more entries place read lt is = within-take entries place lt ∙ ap (λ (es : List Entry). within s bounds (take place entries) ++ es) (sym is)

  pub drop-more : (entries : List Entry) (place : ℕ) (read : List Entry) → place < length entries → read ≡ within s bounds (option_to_list (slice_get entries place)) → within s bounds (drop place entries) ≡ read ++ within s bounds (drop (place + 1) entries)
  drop-more entries place read lt is = within-drop entries place lt ∙ ap (λ (es : List Entry). es ++ within s bounds (drop (place + 1) entries)) (sym is)

  pub within-yes : (o : Option Entry) (e : Entry) → o ≡ Some e → is_within s bounds e.row ≡ true → e ∷ [] ≡ within s bounds (option_to_list o)
  unfolding within
  within-yes o e is h = sym (ap (λ (p : Option Entry). within s bounds (option_to_list p)) is ∙ filter-yes (λ (x : Entry). is_within s bounds x.row) e [] h)

  pub within-no : (o : Option Entry) (e : Entry) → o ≡ Some e → is_within s bounds e.row ≡ false → [] ≡ within s bounds (option_to_list o)
  unfolding within
  within-no o e is h = sym (ap (λ (p : Option Entry). within s bounds (option_to_list p)) is ∙ filter-no (λ (x : Entry). is_within s bounds x.row) e [] h)

  pub within-none : (o : Option Entry) → o ≡ None → [] ≡ within s bounds (option_to_list o)
  unfolding within
  within-none o is = sym (ap (λ (p : Option Entry). within s bounds (option_to_list p)) is)

  -- what the walk reads at a place stands there
  pub within-found : (o : Option Entry) (e : Entry) → e ∷ [] ≡ within s bounds (option_to_list o) → (o ≡ Some e) × (is_within s bounds e.row ≡ true)
  unfolding within
  within-found None e is = absurd (cc)
  within-found (Some x) e is =
      elim (cases_Bool (is_within s bounds x.row)) [
        | inl h ↦
            let both : e ∷ [] ≡ x ∷ [] = is ∙ filter-yes (λ (y : Entry). is_within s bounds y.row) x [] h in
            let same : e ≡ x = (cc) in
            (ap (λ (y : Entry). Some y) (sym same), ap (λ (y : Entry). is_within s bounds y.row) same ∙ h)
        | inr h ↦ absurd (let none : e ∷ [] ≡ [] = is ∙ filter-no (λ (y : Entry). is_within s bounds y.row) x [] h in cc)
      ]

  -- the entries before an end are all where none is after it
  pub within-all : (entries : List Entry) (end : ℕ) → within s bounds (drop end entries) ≡ [] → within s bounds (take end entries) ≡ within s bounds entries
  within-all entries end after =
      sym (append-nil (within s bounds (take end entries))) ∙ ap (λ (es : List Entry). within s bounds (take end entries) ++ es) (sym after)
      ∙ sym (within-append (take end entries) (drop end entries)) ∙ ap (within s bounds) (take-append-drop end entries)

  pub within-rest : (entries : List Entry) (first : ℕ) → within s bounds (take first entries) ≡ [] → within s bounds (drop first entries) ≡ within s bounds entries
  within-rest entries first before =
      ap (λ (es : List Entry). es ++ within s bounds (drop first entries)) (sym before)
      ∙ sym (within-append (take first entries) (drop first entries)) ∙ ap (within s bounds) (take-append-drop first entries)

-- one bound of those from a place on
pub is_within-drop : (s : Shelf Body) (bounds : List Bound) (place number : ℕ) (d : Bound) → place < length bounds
    → is_within s (drop place bounds) number ≡ holds_code (get_or bounds place d) (by_number s (get_or bounds place d).column number) && is_within s (drop (place + 1) bounds) number
is_within-drop s bounds place number d lt =
    ap (λ (bs : List Bound). is_within s bs number) (drop-cons bounds place d lt)
    ∙ is_within-cons s (get_or bounds place d) (drop (suc place) bounds) number
    ∙ ap (λ (n : ℕ). holds_code (get_or bounds place d) (by_number s (get_or bounds place d).column number) && is_within s (drop n bounds) number) (sym (add-one place))

-- the test that a walk makes of one bound of those from a place on
pub within-by : (s : Shelf Body) (bounds : List Bound) (place number code : ℕ) (held : Bool) (d : Bound) → place < length bounds → code ≡ by_number s (get_or bounds place d).column number → held ≡ meets (as_test (get_or bounds place d)).1 code
    → is_within s (drop place bounds) number ≡ held && is_within s (drop (place + 1) bounds) number
unfolding meets as_test
within-by s bounds place number code held d lt read is =
    is_within-drop s bounds place number d lt
    ∙ ap (λ (b : Bool). b && is_within s (drop (place + 1) bounds) number) (sym (is ∙ ap (holds_code (get_or bounds place d)) read))
