-- The transactions of all scripts, script after script, stand in the order of the history as those of the run do.
use Rattle.std.proofs.Common.{◌≡◌, refl, sym, ap, subst, ◌∙◌, ℕ, zero, suc, ◌+◌, ◌<◌, ◌≤◌, Bool, true, false, not, ◌&&◌, ◌||◌, eqb, ltb, leb, List, [], ◌∷◌, ◌++◌, length, flat_map, map, filter, cond, get_or, ◌⊎◌, inl, inr, arith}
use Rattle.std.proofs.lemmas.Bool.{cases_Bool, cases_lt}
use Rattle.std.proofs.lemmas.Bool.Decides.{nat_tests}
use Rattle.mope_base.specs.declared.numbers.SessionNo.{SessionNo}
use Rattle.plain_db.proofs.RunInvariant.{RunHolds, SessionHolds}
use Rattle.report.proofs.HistoryOrder.{history-order}
use Rattle.run_laws.specs.Seats.{done_by, own_if}
use Rattle.workload.specs.declared.script.DoneTxn.{DoneTxn}
use Rattle.workload.specs.declared.script.Piece.{Piece}
use Rattle.workload.specs.declared.script.Workload.{Workload}
use Rattle.workload.specs.History.{comes_before, history_of, places_of, places_from, rank_of, script_of}
use Rattle.workload.specs.Run.{Run, position_at, session_numbers}
use Rattle.workload.specs.Selection.{in_front, insert_ordered, ordered}

-- ---- two of different sessions are put in one after the other, in either order

abbrev put : DoneTxn → List DoneTxn → List DoneTxn
put = insert_ordered comes_before

kept : (x y : DoneTxn) (ys : List DoneTxn) → comes_before x y ≡ true → put x (y ∷ ys) ≡ x ∷ y ∷ ys
unfolding insert_ordered in_front
kept x y ys h = ap (λ b. in_front b x y ys (put x ys)) h

passed : (x y : DoneTxn) (ys : List DoneTxn) → comes_before x y ≡ false → put x (y ∷ ys) ≡ y ∷ put x ys
unfolding insert_ordered in_front
passed x y ys h = ap (λ b. in_front b x y ys (put x ys)) h

one_way : (r s p q t o : ℕ) → eqb s t ≡ false → (ltb r q || (eqb r q && (ltb s t || (eqb s t && leb p o)))) ≡ true → (ltb q r || (eqb q r && (ltb t s || (eqb t s && leb o p)))) ≡ false
one_way r s p q t o h k = grind (arith, nat_tests)

before-one : (x y : DoneTxn) → eqb x.session.0 y.session.0 ≡ false → comes_before x y ≡ true → comes_before y x ≡ false
unfolding comes_before
before-one x y h k = one_way (rank_of x) x.session.0 x.place (rank_of y) y.session.0 y.place h k

eqb-turned : (m n : ℕ) → eqb m n ≡ false → eqb n m ≡ false
eqb-turned m n h = grind (arith, nat_tests)

-- in front of a list that both come before
both : (x y a : DoneTxn) (l : List DoneTxn) → eqb x.session.0 y.session.0 ≡ false → comes_before x a ≡ true → comes_before y a ≡ true → put x (put y (a ∷ l)) ≡ put y (put x (a ∷ l))
both x y a l h j k =
    elim (cases_Bool (comes_before x y)) [
      | inl b ↦
          ap (put x) (kept y a l k) ∙ kept x y (a ∷ l) b
          ∙ sym (ap (put y) (kept x a l j) ∙ passed y x (a ∷ l) (before-one x y h b) ∙ ap (λ m. x ∷ m) (kept y a l k))
      | inr b ↦
          let c : comes_before y x ≡ true = history-order.total x y b in
          ap (put x) (kept y a l k) ∙ passed x y (a ∷ l) b ∙ ap (λ m. y ∷ m) (kept x a l j)
          ∙ sym (ap (put y) (kept x a l j) ∙ kept y x (a ∷ l) c)
    ]

-- of a list that one of them comes before
first-one : (x y a : DoneTxn) (l : List DoneTxn) → eqb x.session.0 y.session.0 ≡ false → comes_before x a ≡ true → comes_before y a ≡ false → put x (put y (a ∷ l)) ≡ put y (put x (a ∷ l))
first-one x y a l h j k =
    let b : comes_before x y ≡ true = history-order.chain x a y j (history-order.total y a k) in
    ap (put x) (passed y a l k) ∙ kept x a (put y l) j
    ∙ sym (ap (put y) (kept x a l j) ∙ passed y x (a ∷ l) (before-one x y h b) ∙ ap (λ m. x ∷ m) (passed y a l k))

commutes : (x y : DoneTxn) (l : List DoneTxn) → eqb x.session.0 y.session.0 ≡ false → put x (put y l) ≡ put y (put x l)
unfolding insert_ordered in_front
commutes x y [] h =
    elim (cases_Bool (comes_before x y)) [
      | inl b ↦ kept x y [] b ∙ sym (passed y x [] (before-one x y h b))
      | inr b ↦ passed x y [] b ∙ sym (kept y x [] (history-order.total x y b))
    ]
commutes x y (a ∷ l) h =
    elim (cases_Bool (comes_before x a)) [
      | inl j ↦ elim (cases_Bool (comes_before y a)) [
        | inl k ↦ both x y a l h j k
        | inr k ↦ first-one x y a l h j k
      ]
      | inr j ↦ elim (cases_Bool (comes_before y a)) [
        | inl k ↦ sym (first-one y x a l (eqb-turned x.session.0 y.session.0 h) k j)
        | inr k ↦
            ap (put x) (passed y a l k) ∙ passed x a (put y l) j ∙ ap (λ m. a ∷ m) (commutes x y l h)
            ∙ sym (ap (put y) (passed x a l j) ∙ passed y a (put x l) k)
      ]
    ]

-- ---- script after script

abbrev pub scripts_done : ℕ → List (List Piece) → List DoneTxn → List DoneTxn
scripts_done from scripts done = flat_map (λ (n : SessionNo). done_by n.0 done) (session_numbers from scripts)

others-differ : (u t from : ℕ) → eqb u from ≡ true → eqb t from ≡ false → eqb u t ≡ false
others-differ u t from h k = grind (arith, nat_tests)

behind-if : (b : Bool) (from : ℕ) (u t : DoneTxn) (own xs ys : List DoneTxn) → eqb u.session.0 from ≡ b → eqb t.session.0 from ≡ false
    → ordered comes_before (own ++ xs) ≡ put t (ordered comes_before (own ++ ys))
    → ordered comes_before (own_if b u own ++ xs) ≡ put t (ordered comes_before (own_if b u own ++ ys))
unfolding own_if ordered
behind-if true from u t own xs ys is other h =
    ap (put u) h ∙ commutes u t (ordered comes_before (own ++ ys)) (others-differ u.session.0 t.session.0 from is other)
behind-if false from u t own xs ys is other h = h

-- one is put in behind those of another session
behind : (from : ℕ) (done : List DoneTxn) (t : DoneTxn) (xs ys : List DoneTxn) → eqb t.session.0 from ≡ false → ordered comes_before xs ≡ put t (ordered comes_before ys)
    → ordered comes_before (done_by from done ++ xs) ≡ put t (ordered comes_before (done_by from done ++ ys))
unfolding done_by
behind from [] t xs ys other h = h
behind from (u ∷ done) t xs ys other h = behind-if (eqb u.session.0 from) from u t (done_by from done) xs ys refl other (behind from done t xs ys other h)

lower-differs : (m n : ℕ) → m < n → eqb m n ≡ false
lower-differs m n h = grind (arith, nat_tests)

same-below : (m n : ℕ) → eqb m n ≡ true → m < suc n
same-below m n h = grind (arith, nat_tests)

above : (m n : ℕ) → n ≤ m → eqb m n ≡ false → suc n ≤ m
above m n h k = grind (arith, nat_tests)

-- one of a lower session is none of theirs
lower : (from : ℕ) (scripts : List (List Piece)) (t : DoneTxn) (done : List DoneTxn) → t.session.0 < from → scripts_done from scripts (t ∷ done) ≡ scripts_done from scripts done
unfolding session_numbers done_by own_if
lower from [] t done below = refl
lower from (script ∷ scripts) t done below =
    let other : eqb t.session.0 from ≡ false = lower-differs t.session.0 from below in
    ap (λ b. own_if b t (done_by from done) ++ scripts_done (suc from) scripts (t ∷ done)) other
    ∙ ap (λ l. done_by from done ++ l) (lower (suc from) scripts t done (omega (arith, below)))

-- one of these sessions is put in
in-scripts : (from : ℕ) (scripts : List (List Piece)) (t : DoneTxn) (done : List DoneTxn) → from ≤ t.session.0 → t.session.0 < from + length scripts
    → ordered comes_before (scripts_done from scripts (t ∷ done)) ≡ put t (ordered comes_before (scripts_done from scripts done))
unfolding session_numbers done_by own_if ordered
in-scripts from [] t done low high = absurd (omega (arith, low, high))
in-scripts from (script ∷ scripts) t done low high =
    elim (cases_Bool (eqb t.session.0 from)) [
      | inl same ↦
          ap (λ b. ordered comes_before (own_if b t (done_by from done) ++ scripts_done (suc from) scripts (t ∷ done))) same
          ∙ ap (λ l. put t (ordered comes_before (done_by from done ++ l))) (lower (suc from) scripts t done (same-below t.session.0 from same))
      | inr other ↦
          ap (λ b. ordered comes_before (own_if b t (done_by from done) ++ scripts_done (suc from) scripts (t ∷ done))) other
          ∙ behind from done t (scripts_done (suc from) scripts (t ∷ done)) (scripts_done (suc from) scripts done) other
          (in-scripts (suc from) scripts t done (above t.session.0 from low other) (omega (arith, high)))
    ]

no-scripts : (from : ℕ) (scripts : List (List Piece)) → scripts_done from scripts [] ≡ []
unfolding session_numbers done_by
no-scripts from [] = refl
no-scripts from (script ∷ scripts) = no-scripts (suc from) scripts

-- ---- all transactions are of the sessions

-- a number that is none of the sessions'
IsNone : List (List Piece) → ℕ → Type 0
IsNone scripts s = (1 ≤ s → s < 1 + length scripts → ⊥)

IsCons : {A : Type 0} → List A → Type 0
IsCons [] = ⊥
IsCons (x ∷ xs) = Unit {0}

IsEmpty : {A : Type 0} → List A → Type 0
IsEmpty [] = Unit {0}
IsEmpty (x ∷ xs) = ⊥

nothing-if : (b : Bool) (t : DoneTxn) (own : List DoneTxn) → IsEmpty (map (λ (u : DoneTxn). u.place) (cond b (t ∷ own) own)) → (b ≡ false) × IsEmpty (map (λ (u : DoneTxn). u.place) own)
unfolding IsEmpty
nothing-if true t own none = absurd none
nothing-if false t own none = (refl, none)

nothing : (s : ℕ) (t : DoneTxn) (done : List DoneTxn) → IsEmpty (places_of s (t ∷ done)) → (eqb t.session.0 s ≡ false) × IsEmpty (places_of s done)
unfolding places_of
nothing s t done none = nothing-if (eqb t.session.0 s) t (filter (λ (u : DoneTxn). eqb u.session.0 s) done) none

Within : ℕ → ℕ → Type 0
Within n count = (1 ≤ n) × (n < 1 + count)

cases_within : (n count : ℕ) → Within n count ⊎ (Within n count → ⊥)
unfolding Within
cases_within n count =
    elim (cases_lt 0 n) [
      | inl low ↦ elim (cases_lt n (suc count)) [
        | inl high ↦ inl (omega (arith, low), omega (arith, high))
        | inr high ↦ inr (λ both. omega (arith, both.1, high))
      ]
      | inr low ↦ inr (λ both. omega (arith, both.0, low))
    ]

past-end : (scripts : List (List Piece)) (i : ℕ) → length scripts ≤ i → get_or scripts i [] ≡ []
past-end [] i past = refl
past-end (script ∷ scripts) zero past = absurd (omega (arith, past))
past-end (script ∷ scripts) (suc i) past = past-end scripts i (omega (arith, past))

no-script : (w : Workload) (s : ℕ) → IsNone w.sessions s → script_of w s ≡ []
unfolding script_of IsNone
no-script w zero none = refl
no-script w (suc i) none =
    elim (cases_lt i (length w.sessions)) [
      | inl within ↦ absurd (none (omega arith) (omega (arith, within)))
      | inr past ↦ past-end w.sessions i (omega (arith, past))
    ]

front-empty : {A : Type 0} (xs ys : List A) → xs ++ ys ≡ [] → xs ≡ []
unfolding IsCons
front-empty [] ys h = refl
front-empty (x ∷ xs) ys h = absurd (subst (λ l. IsCons l) h tt)

none-of : (w : Workload) (r : Run) (s : ℕ) → IsNone w.sessions s → SessionHolds w r s (position_at r.positions s) → IsEmpty (places_of s r.done)
unfolding places_from IsEmpty
none-of w r s none holds =
    let ended : holds.finished ≡ [] = front-empty holds.finished holds.pieces (sym holds.script ∙ no-script w s none) in
    subst IsEmpty (sym (holds.places ∙ ap (places_from 1) ended)) tt

self : (n : ℕ) → eqb n n ≡ false → ⊥
self n h = grind (arith, nat_tests)

all-merged : (scripts : List (List Piece)) (done : List DoneTxn) → ((s : ℕ) → IsNone scripts s → IsEmpty (places_of s done)) → ordered comes_before (scripts_done 1 scripts done) ≡ ordered comes_before done
unfolding ordered Within IsNone
all-merged scripts [] none = ap (ordered comes_before) (no-scripts 1 scripts)
all-merged scripts (t ∷ done) none =
    elim (cases_within t.session.0 (length scripts)) [
      | inl within ↦
          in-scripts 1 scripts t done within.0 within.1
          ∙ ap (put t) (all-merged scripts done (λ s other. (nothing s t done (none s other)).1))
      | inr out ↦ absurd (self t.session.0 (nothing t.session.0 t done (none t.session.0 (λ low high. out (low, high)))).0)
    ]

-- a run's transactions of all scripts are in the order of its history
pub merged-history : (w : Workload) (r : Run) → RunHolds w r → history_of (scripts_done 1 w.sessions r.done) ≡ history_of r.done
unfolding history_of
merged-history w r holds = all-merged w.sessions r.done (λ s other. none-of w r s other (holds.sessions s))
