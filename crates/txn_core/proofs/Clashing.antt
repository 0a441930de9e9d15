-- Where no touched table was written after a version, what fits it fits the current one.
use Rattle.std.proofs.Common.{◌≡◌, ℕ, suc, zero, ◌+◌, ◌≤◌, Bool, true, false, ◌&&◌, ltb, List, [], ◌∷◌, refl, ap, ◌∙◌, sym, arith, subst, inl, inr, Option, None, is_some}
use Rattle.std.proofs.lemmas.Bool.{lt-ltb, true≢false, cases_lt}
use Rattle.mope_base.specs.declared.body.Body.{Body}
use Rattle.mope_base.specs.declared.numbers.TableNo.{TableNo}
use Rattle.table_model.specs.Operations.{RankOp, shelf_at}
use Rattle.table_model.specs.Fitting.{AllFitAt}
use Rattle.table_model.specs.ShelfSoundness.{AllSoundShelves}
use Rattle.enc_table.specs.declared.stamps.Stamps.{Stamps}
use Rattle.enc_table.specs.Seen.{no_stamps}
use Rattle.versions.specs.Databases.{Database, IsDatabase, stamps_at}
use Rattle.versions.specs.Newer.{names, this_or, lowest_newer, last_change}
use Rattle.versions.specs.Operations.{AllHaveNumbers, OpsFit, HasColumn}
use Rattle.txn_core.specs.Courses.{AllTouched}
use Rattle.txn_core.specs.Outcomes.{conflict_on, changed_by}
use Rattle.txn_core.specs.Since.{IsSince}
use Rattle.txn_core.proofs.Repeated.{Agree, columns-many, ops-repeat}

-- ---- the stamps

none_of : (b : Bool) (table stamp : ℕ) (other : Option (TableNo × ℕ)) → this_or b table stamp other ≡ None → (b ≡ false) × (other ≡ None)
unfolding this_or
none_of true table stamp other h = absurd (true≢false (ap is_some h))
none_of false table stamp other h = (refl, h)

not_both : (a b : Bool) → (a && b) ≡ false → a ≡ true → b ≡ false
not_both true b h e = h
not_both false b h e = absurd (true≢false (sym e))

not_above : (base stamp : ℕ) → ltb base stamp ≡ false → stamp ≤ base
not_above base stamp h = elim (cases_lt base stamp) [ inl above ↦ absurd (true≢false (sym (lt-ltb base stamp above) ∙ h)) | inr below ↦ below ]

none_newer : (first : ℕ) (stamps : List Stamps) (base : ℕ) (touched : List TableNo) → lowest_newer first stamps base touched ≡ None → (k table : ℕ) → table ≡ first + k → names touched table ≡ true → (stamps_at stamps k).written ≤ base
unfolding lowest_newer stamps_at no_stamps
none_newer first [] base touched none k table e named = omega arith
none_newer first (stamp ∷ stamps) base touched none zero table e named =
    let parts = none_of (names touched first && ltb base stamp.written) first stamp.written (lowest_newer (suc first) stamps base touched) none in
    let here : names touched first ≡ true = ap (names touched) (let n : first ≡ table = omega (arith, e) in n) ∙ named in
    not_above base stamp.written (not_both (names touched first) (ltb base stamp.written) parts.0 here)
none_newer first (stamp ∷ stamps) base touched none (suc k) table e named =
    let parts = none_of (names touched first && ltb base stamp.written) first stamp.written (lowest_newer (suc first) stamps base touched) none in
    none_newer (suc first) stamps base touched parts.1 k table (omega (arith, e)) named

pub unwritten : (current : Database) (base : ℕ) (touched : List TableNo) → conflict_on current base touched ≡ None → (table : ℕ) → names touched table ≡ true → (stamps_at current.stamps table).written ≤ base
unfolding conflict_on
unwritten current base touched none table named = none_newer 0 current.stamps base touched none table table (omega arith) named

-- ---- what still fits

agree : (base current : Database) (touched : List TableNo) → IsSince base current → conflict_on current base.number touched ≡ None → Agree Body touched base.shelves current.shelves
agree base current touched since none =
    record { many = since.as_many; same = λ table named. since.unwritten table (unwritten current base.number touched none table named) }

pub still_fit : (ops : List (RankOp Body)) (base current : Database) (touched : List TableNo) → IsDatabase base → IsDatabase current → IsSince base current → conflict_on current base.number touched ≡ None → AllTouched touched ops → OpsFit ops base → OpsFit ops current
still_fit ops base current touched base_is current_is since none named fit =
    let sound : AllSoundShelves base.same_time base.limit current.shelves
    = subst (λ (b : Bool). AllSoundShelves b base.limit current.shelves) (sym since.mode) (subst (λ (n : ℕ). AllSoundShelves current.same_time n current.shelves) (sym since.rows) current_is.sound) in
    let go = ops-repeat touched base.same_time base.limit ops base.shelves current.shelves base_is.sound sound named (agree base current touched since none) (record { fit = fit.fit; numbered = fit.numbered }) in
    record {
      fit = subst (λ (b : Bool). AllFitAt b current.limit ops current.shelves) since.mode (subst (λ (n : ℕ). AllFitAt base.same_time n ops current.shelves) since.rows go.fit);
      numbered = subst (λ (b : Bool). AllHaveNumbers b ops current.shelves) since.mode go.numbered;
    }

written_low : (stamps : Stamps) (base : ℕ) → last_change stamps ≤ base → stamps.written ≤ base
unfolding last_change
written_low stamps base h = omega (arith, h)

pub column_stays : (base current : Database) (table : TableNo) (column : ℕ) → IsSince base current → ltb base.number (changed_by current table) ≡ false → HasColumn table.0 column base → HasColumn table.0 column current
unfolding changed_by
column_stays base current table column since fresh there =
    let same = since.unwritten table.0 (written_low (stamps_at current.stamps table.0) base.number (not_above base.number (last_change (stamps_at current.stamps table.0)) fresh)) in
    let many = columns-many (shelf_at base.shelves table.0).columns (shelf_at current.shelves table.0).columns same.items in
    record {
      table_there = omega (arith, there.table_there, since.as_many);
      column_there = omega (arith, there.column_there, many);
    }
