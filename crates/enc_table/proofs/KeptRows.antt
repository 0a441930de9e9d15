-- The rows that stored columns tell, read at an index.
use Rattle.std.proofs.Common.{◌≡◌, ℕ, suc, zero, ◌<◌, List, [], ◌∷◌, ◌++◌, length, map, get_or, refl, ap, ap₂, ◌∙◌, sym, arith}
use Rattle.std.proofs.lemmas.List.{length-map, map-append, ext_get_or}
use Rattle.mope_base.specs.declared.body.Body.{Body}
use Rattle.table_model.specs.Stores.{Kept}
use Rattle.table_model.specs.Soundness.{kept_numbers, ranks_at}
use Rattle.table_model.specs.ShelfSoundness.{AllFull}
use Rattle.enc_table.specs.declared.cell.Cell.{Cell}
use Rattle.enc_table.specs.declared.columns.Column.{Column as Stored}
use Rattle.enc_table.specs.Rows.{no_body}
use Rattle.enc_table.specs.Stored.{stored_at, codes_in, bodies_in, ranks_among, ranks_in, joined, kept_in}

-- the bodies of the rows in a column
unfoldable pub bodies_at : ℕ → List (Kept Body) → List Body
bodies_at column kept = map (λ (row : Kept Body). get_or row.bodies column no_body) kept

pub length-bodies : (c : Stored) → length (bodies_in c) ≡ length c.cells
unfolding bodies_in
length-bodies c = length-map c.cells (λ (cell : Cell). cell.body)

pub length-ranks : (c : Stored) → length (ranks_in c) ≡ length c.cells
unfolding ranks_in ranks_among codes_in
length-ranks c = length-map (codes_in c.cells) _ ∙ length-map c.cells (λ (cell : Cell). cell.code)

-- rows with one column more in front
pub record JoinedIs (bodies : List Body) (ranks : List ℕ) (kept : List (Kept Body)) : Type 0 where
  pub numbers : kept_numbers (joined bodies ranks kept) ≡ kept_numbers kept
  pub width : (n : ℕ) → AllFull n kept → AllFull (suc n) (joined bodies ranks kept)
  pub first_ranks : ranks_at 0 (joined bodies ranks kept) ≡ ranks
  pub next_ranks : (i : ℕ) → ranks_at (suc i) (joined bodies ranks kept) ≡ ranks_at i kept
  pub first_bodies : bodies_at 0 (joined bodies ranks kept) ≡ bodies
  pub next_bodies : (i : ℕ) → bodies_at (suc i) (joined bodies ranks kept) ≡ bodies_at i kept

pub joined-is : (bodies : List Body) (ranks : List ℕ) (kept : List (Kept Body)) → length bodies ≡ length kept → length ranks ≡ length kept → JoinedIs bodies ranks kept
unfolding joined kept_numbers AllFull ranks_at bodies_at
joined-is [] [] [] e f = record { numbers = refl; width = λ n h. tt; first_ranks = refl; next_ranks = λ i. refl; first_bodies = refl; next_bodies = λ i. refl }
joined-is [] (rank ∷ ranks) [] e f = absurd (omega (arith, f))
joined-is [] ranks (row ∷ kept) e f = absurd (omega (arith, e))
joined-is (b ∷ bodies) [] [] e f = absurd (omega (arith, e))
joined-is (b ∷ bodies) [] (row ∷ kept) e f = absurd (omega (arith, f))
joined-is (b ∷ bodies) (rank ∷ ranks) [] e f = absurd (omega (arith, e))
joined-is (b ∷ bodies) (rank ∷ ranks) (row ∷ kept) e f =
    let more = joined-is bodies ranks kept (omega (arith, e)) (omega (arith, f)) in
    record {
      numbers = ap (λ (ns : List ℕ). row.number ∷ ns) more.numbers;
      width = λ n h. (ap suc h.0, ap suc h.1, more.width n h.2);
      first_ranks = ap (λ (ns : List ℕ). rank ∷ ns) more.first_ranks;
      next_ranks = λ i. ap (λ (ns : List ℕ). get_or row.ranks i 0 ∷ ns) (more.next_ranks i);
      first_bodies = ap (λ (bs : List Body). b ∷ bs) more.first_bodies;
      next_bodies = λ i. ap (λ (bs : List Body). get_or row.bodies i no_body ∷ bs) (more.next_bodies i);
    }

abbrev bare : ℕ → Kept Body
bare number = record { number = number; bodies = []; ranks = [] }

bare-numbers : (numbers : List ℕ) → kept_numbers (map bare numbers) ≡ numbers
unfolding kept_numbers
bare-numbers [] = refl
bare-numbers (number ∷ numbers) = ap (λ (ns : List ℕ). number ∷ ns) (bare-numbers numbers)

bare-width : (numbers : List ℕ) → AllFull 0 (map bare numbers)
unfolding AllFull
bare-width [] = tt
bare-width (number ∷ numbers) = (refl, refl, bare-width numbers)

pub length-numbers : (kept : List (Kept Body)) → length (kept_numbers kept) ≡ length kept
unfolding kept_numbers
length-numbers kept = length-map kept (λ (row : Kept Body). row.number)

pub length-ranks_at : (i : ℕ) (kept : List (Kept Body)) → length (ranks_at i kept) ≡ length kept
unfolding ranks_at
length-ranks_at i kept = length-map kept (λ (row : Kept Body). get_or row.ranks i 0)

-- each column has as many cells as there are numbers
unfoldable pub AreMany : List ℕ → List Stored → Type 0
AreMany numbers cs = (i : ℕ) → i < length cs → length (stored_at cs i).cells ≡ length numbers

-- the rows of these numbers in these columns
pub record KeptIs (numbers : List ℕ) (cs : List Stored) : Type 0 where
  pub numbers_are : kept_numbers (kept_in numbers cs) ≡ numbers
  pub many : length (kept_in numbers cs) ≡ length numbers
  pub width : AllFull (length cs) (kept_in numbers cs)
  pub ranks_are : (i : ℕ) → i < length cs → ranks_at i (kept_in numbers cs) ≡ ranks_in (stored_at cs i)
  pub bodies_are : (i : ℕ) → i < length cs → bodies_at i (kept_in numbers cs) ≡ bodies_in (stored_at cs i)

ranks_by-column : (numbers : List ℕ) (c : Stored) (cs : List Stored) → JoinedIs (bodies_in c) (ranks_in c) (kept_in numbers cs) → ((i : ℕ) → i < length cs → ranks_at i (kept_in numbers cs) ≡ ranks_in (stored_at cs i))
    → (i : ℕ) → i < suc (length cs) → ranks_at i (kept_in numbers (c ∷ cs)) ≡ ranks_in (stored_at (c ∷ cs) i)
unfolding kept_in stored_at
ranks_by-column numbers c cs j more zero h = j.first_ranks
ranks_by-column numbers c cs j more (suc i) h = j.next_ranks i ∙ more i (omega (arith, h))

bodies_by-column : (numbers : List ℕ) (c : Stored) (cs : List Stored) → JoinedIs (bodies_in c) (ranks_in c) (kept_in numbers cs) → ((i : ℕ) → i < length cs → bodies_at i (kept_in numbers cs) ≡ bodies_in (stored_at cs i))
    → (i : ℕ) → i < suc (length cs) → bodies_at i (kept_in numbers (c ∷ cs)) ≡ bodies_in (stored_at (c ∷ cs) i)
unfolding kept_in stored_at
bodies_by-column numbers c cs j more zero h = j.first_bodies
bodies_by-column numbers c cs j more (suc i) h = j.next_bodies i ∙ more i (omega (arith, h))

many-first : (numbers : List ℕ) (c : Stored) (cs : List Stored) → AreMany numbers (c ∷ cs) → length c.cells ≡ length numbers
unfolding AreMany stored_at
many-first numbers c cs many = many 0 (omega arith)

many-next : (numbers : List ℕ) (c : Stored) (cs : List Stored) → AreMany numbers (c ∷ cs) → AreMany numbers cs
unfolding AreMany stored_at
many-next numbers c cs many = λ i h. many (suc i) (omega (arith, h))

kept-none : (numbers : List ℕ) → KeptIs numbers []
unfolding kept_in
kept-none numbers =
    record { numbers_are = bare-numbers numbers; many = length-map numbers bare; width = bare-width numbers; ranks_are = λ i h. absurd (omega (arith, h)); bodies_are = λ i h. absurd (omega (arith, h)) }

kept-more : (numbers : List ℕ) (c : Stored) (cs : List Stored) → KeptIs numbers cs → JoinedIs (bodies_in c) (ranks_in c) (kept_in numbers cs) → KeptIs numbers (c ∷ cs)
unfolding kept_in
kept-more numbers c cs rest j =
    record {
      numbers_are = j.numbers ∙ rest.numbers_are;
      many = sym (length-numbers (joined (bodies_in c) (ranks_in c) (kept_in numbers cs))) ∙ ap (λ (ns : List ℕ). length ns) (j.numbers ∙ rest.numbers_are);
      width = j.width (length cs) rest.width;
      ranks_are = ranks_by-column numbers c cs j rest.ranks_are;
      bodies_are = bodies_by-column numbers c cs j rest.bodies_are;
    }

pub kept-is : (numbers : List ℕ) (cs : List Stored) → AreMany numbers cs → KeptIs numbers cs
kept-is numbers [] many = kept-none numbers
kept-is numbers (c ∷ cs) many =
    let rest = kept-is numbers cs (many-next numbers c cs many) in
    let first = many-first numbers c cs many in
    kept-more numbers c cs rest (joined-is (bodies_in c) (ranks_in c) (kept_in numbers cs) (length-bodies c ∙ first ∙ sym rest.many) (length-ranks c ∙ first ∙ sym rest.many))

-- ---- rows are told by their numbers, bodies and ranks

later : {A : Type 0} → List A → List A
later [] = []
later (x ∷ xs) = xs

same-row : (width : ℕ) (x y : Kept Body) → length x.bodies ≡ width → length x.ranks ≡ width → length y.bodies ≡ width → length y.ranks ≡ width → x.number ≡ y.number
    → ((i : ℕ) → i < width → get_or x.ranks i 0 ≡ get_or y.ranks i 0) → ((i : ℕ) → i < width → get_or x.bodies i no_body ≡ get_or y.bodies i no_body) → x ≡ y
same-row width x y xb xr yb yr number ranks bodies =
    let es : x.bodies ≡ y.bodies = ext_get_or no_body x.bodies y.bodies (xb ∙ sym yb) (λ i h. bodies i (omega (arith, h, xb))) in
    let fs : x.ranks ≡ y.ranks = ext_get_or 0 x.ranks y.ranks (xr ∙ sym yr) (λ i h. ranks i (omega (arith, h, xr))) in
    ap (λ (n : ℕ). let r : Kept Body = record { number = n; bodies = x.bodies; ranks = x.ranks } in r) number
    ∙ ap₂ (λ (bs : List Body) (ns : List ℕ). let r : Kept Body = record { number = y.number; bodies = bs; ranks = ns } in r) es fs

pub same-kept : (width : ℕ) (xs ys : List (Kept Body)) → AllFull width xs → AllFull width ys → kept_numbers xs ≡ kept_numbers ys
    → ((i : ℕ) → i < width → ranks_at i xs ≡ ranks_at i ys) → ((i : ℕ) → i < width → bodies_at i xs ≡ bodies_at i ys) → xs ≡ ys
unfolding AllFull kept_numbers ranks_at bodies_at later
same-kept width [] [] xw yw numbers ranks bodies = refl
same-kept width [] (y ∷ ys) xw yw numbers ranks bodies = absurd (omega (arith, ap (λ (ns : List ℕ). length ns) numbers))
same-kept width (x ∷ xs) [] xw yw numbers ranks bodies = absurd (omega (arith, ap (λ (ns : List ℕ). length ns) numbers))
same-kept width (x ∷ xs) (y ∷ ys) xw yw numbers ranks bodies =
    ap₂ (λ (r : Kept Body) (rest : List (Kept Body)). r ∷ rest)
    (same-row width x y xw.0 xw.1 yw.0 yw.1 (ap (λ (ns : List ℕ). get_or ns 0 0) numbers) (λ i h. ap (λ (ns : List ℕ). get_or ns 0 0) (ranks i h)) (λ i h. ap (λ (bs : List Body). get_or bs 0 no_body) (bodies i h)))
    (same-kept width xs ys xw.2 yw.2 (ap later numbers) (λ i h. ap later (ranks i h)) (λ i h. ap later (bodies i h)))
