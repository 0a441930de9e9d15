-- The tables that statements name, one by one.
use Rattle.std.proofs.Common.{◌≡◌, sym, ap, ◌∙◌, ℕ, ◌+◌, ◌<◌, ◌≤◌, Bool, true, false, ◌||◌, eqb, List, [], ◌∷◌, map, drop, length, get_or}
use Rattle.std.proofs.lemmas.Bool.{eq-eqb, ne_eqb, or_left}
use Rattle.std.proofs.lemmas.List.{at_drop_more, at_drop_all}
use Rattle.workload.specs.declared.script.Act.{Act}
use Rattle.workload.specs.Run.{names}
use Rattle.workload.specs.Transaction.{table_named}

-- a table is named from a statement on
abbrev pub named_from : List Act → ℕ → ℕ → Bool
named_from acts k t = names (map table_named (drop k acts)) t

named-step : (acts : List Act) (k : ℕ) (d : Act) (t : ℕ) → k < length acts
    → named_from acts k t ≡ (eqb (table_named (get_or acts k d)).0 t || named_from acts (k + 1) t)
unfolding names
named-step acts k d t within = at_drop_more (λ l. names (map table_named l) t) acts k d within

pub named_here : (acts : List Act) (k : ℕ) (a : Act) (t : ℕ) → k < length acts → a ≡ get_or acts k a
    → named_from acts k t ≡ names (map table_named acts) t → (table_named a).0 ≡ t → true ≡ names (map table_named acts) t
named_here acts k a t within is whole here =
    sym (or_left (eqb (table_named (get_or acts k a)).0 t) (named_from acts (k + 1) t)
    (eq-eqb (table_named (get_or acts k a)).0 t (ap (λ (b : Act). (table_named b).0) (sym is) ∙ here)))
    ∙ sym (named-step acts k a t within) ∙ whole

pub named_further : (acts : List Act) (k : ℕ) (a : Act) (t : ℕ) → k < length acts → a ≡ get_or acts k a
    → named_from acts k t ≡ names (map table_named acts) t → ((table_named a).0 ≡ t → ⊥)
    → named_from acts (k + 1) t ≡ names (map table_named acts) t
named_further acts k a t within is whole other =
    ap (λ b. b || named_from acts (k + 1) t)
    (sym (ne_eqb (table_named (get_or acts k a)).0 t (λ e. other (ap (λ (b : Act). (table_named b).0) is ∙ e))))
    ∙ sym (named-step acts k a t within) ∙ whole

pub named_none : (acts : List Act) (k : ℕ) (t : ℕ) → length acts ≤ k → named_from acts k t ≡ names (map table_named acts) t
    → false ≡ names (map table_named acts) t
unfolding names
named_none acts k t past whole = sym (at_drop_all (λ l. names (map table_named l) t) acts k past) ∙ whole
