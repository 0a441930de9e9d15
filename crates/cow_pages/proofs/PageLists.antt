-- Lists of pages: parts, heights, and the page in which a place is.
use Rattle.std.proofs.Common.{◌≡◌, ℕ, ◌+◌, ◌-◌, suc, zero, ◌<◌, ◌≤◌, List, [], ◌∷◌, ◌++◌, length, take, drop, get_or, refl, ap, ◌∙◌, sym, arith, append_assoc, length-append, add-one}
use Rattle.std.proofs.lemmas.List.{take-append-drop, drop_more, drop_all, length-take-le, get_or_at}
use Rattle.cow_pages.specs.Lists.{flat, Below, IsPlace}

-- ---- parts

pub flat-append : {A : Type 0} (xs ys : List (ℕ × List A)) → flat (xs ++ ys) ≡ flat xs ++ flat ys
unfolding flat
flat-append [] ys = refl
flat-append (x ∷ xs) ys = ap (λ (zs : List _). x.1 ++ zs) (flat-append xs ys) ∙ sym (append_assoc x.1 (flat xs) (flat ys))

pub flat-cons : {A : Type 0} (x : ℕ × List A) (xs : List (ℕ × List A)) → flat (x ∷ xs) ≡ x.1 ++ flat xs
unfolding flat
flat-cons x xs = refl

pub flat-nil : (A : Type 0) → flat {A = A} [] ≡ []
unfolding flat
flat-nil A = refl

-- the items of a page stand among those of all
pub flat-parts : {A : Type 0} (before : List (ℕ × List A)) (page : ℕ × List A) (after : List (ℕ × List A)) → flat (before ++ page ∷ after) ≡ flat before ++ (page.1 ++ flat after)
flat-parts before page after = flat-append before (page ∷ after) ∙ ap (λ (zs : List _). flat before ++ zs) (flat-cons page after)

pub length-flat-parts : {A : Type 0} (before : List (ℕ × List A)) (page : ℕ × List A) (after : List (ℕ × List A)) → length (flat (before ++ page ∷ after)) ≡ length (flat before) + (length page.1 + length (flat after))
length-flat-parts before page after =
    ap length (flat-parts before page after) ∙ length-append (flat before) (page.1 ++ flat after) ∙ ap (λ (n : ℕ). length (flat before) + n) (length-append page.1 (flat after))

-- a list around one of its pages
pub parted : {A : Type 0} (pages : List A) (k : ℕ) (d : A) → k < length pages → pages ≡ take k pages ++ get_or pages k d ∷ drop (k + 1) pages
parted pages k d lt = sym (take-append-drop k pages) ∙ ap (λ zs. take k pages ++ zs) (drop_more pages k d lt)

-- ---- heights

pub Below-nil : (A : Type 0) (height : ℕ) → Below {A = A} height []
unfolding Below
Below-nil A height = tt

pub Below-cons : {A : Type 0} (height : ℕ) (x : ℕ × List A) (xs : List (ℕ × List A)) → x.0 < height → Below height xs → Below height (x ∷ xs)
unfolding Below
Below-cons height x xs low rest = (low, rest)

pub Below-append : {A : Type 0} (height : ℕ) (xs ys : List (ℕ × List A)) → Below height xs → Below height ys → Below height (xs ++ ys)
unfolding Below
Below-append height [] ys low_x low_y = low_y
Below-append height (x ∷ xs) ys low_x low_y = (low_x.0, Below-append height xs ys low_x.1 low_y)

pub Below-front : {A : Type 0} (height : ℕ) (xs ys : List (ℕ × List A)) → Below height (xs ++ ys) → Below height xs
unfolding Below
Below-front height [] ys low = tt
Below-front height (x ∷ xs) ys low = (low.0, Below-front height xs ys low.1)

pub Below-back : {A : Type 0} (height : ℕ) (xs ys : List (ℕ × List A)) → Below height (xs ++ ys) → Below height ys
unfolding Below
Below-back height [] ys low = low
Below-back height (x ∷ xs) ys low = Below-back height xs ys low.1

pub Below-page : {A : Type 0} (height : ℕ) (before : List (ℕ × List A)) (page : ℕ × List A) (after : List (ℕ × List A)) → Below height (before ++ page ∷ after) → page.0 < height
unfolding Below
Below-page height [] page after low = low.0
Below-page height (x ∷ before) page after low = Below-page height before page after low.1

pub Below-raised : {A : Type 0} (low_height height : ℕ) (xs : List (ℕ × List A)) → low_height ≤ height → Below low_height xs → Below height xs
unfolding Below
Below-raised low_height height [] le low = tt
Below-raised low_height height (x ∷ xs) le low = (omega (arith, low.0), Below-raised low_height height xs le low.1)

-- other pages that are as low, in place of one
pub Below-replaced : {A : Type 0} (height : ℕ) (before : List (ℕ × List A)) (page : ℕ × List A) (after news : List (ℕ × List A)) → Below height (before ++ page ∷ after) → Below (suc page.0) news → Below height (before ++ (news ++ after))
unfolding Below
Below-replaced height before page after news low low_news =
    Below-append height before (news ++ after) (Below-front height before (page ∷ after) low) (
    Below-append height news after
    (let lt = Below-page height before page after low in Below-raised (suc page.0) height news (omega arith) low_news)
    (let back = Below-back height before (page ∷ after) low in back.1))

-- ---- the page of a place

pub length-flat-take : {A : Type 0} (pages : List (ℕ × List A)) (k : ℕ) (d : ℕ × List A) → k < length pages → length (flat (take k pages)) + (length (get_or pages k d).1 + length (flat (drop (k + 1) pages))) ≡ length (flat pages)
length-flat-take pages k d lt = sym (ap (λ (zs : List _). length (flat zs)) (parted pages k d lt) ∙ length-flat-parts (take k pages) (get_or pages k d) (drop (k + 1) pages))

pub length-flat-take-suc : {A : Type 0} (pages : List (ℕ × List A)) (k : ℕ) (d : ℕ × List A) → k < length pages → length (flat (take (k + 1) pages)) ≡ length (flat (take k pages)) + length (get_or pages k d).1
unfolding flat
length-flat-take-suc [] k d lt = absurd (omega arith)
length-flat-take-suc (x ∷ xs) zero d lt = length-append x.1 [] ∙ omega arith
length-flat-take-suc (x ∷ xs) (suc k) d lt =
    rw add-one (omega (arith, length-append x.1 (flat (take (suc k) xs)), length-append x.1 (flat (take k xs)), rw add-one at (length-flat-take-suc xs k d (omega arith))))

pub place_of_number : {A : Type 0} (pages : List (ℕ × List A)) (place k rest : ℕ) (d : ℕ × List A) → k < length pages → length (flat (take k pages)) + rest ≡ place → rest ≤ length (get_or pages k d).1 → (place < length (flat pages) → rest < length (get_or pages k d).1) → IsPlace pages place k rest
place_of_number pages place k rest d lt sum most item = record {
  before = take k pages;
  page = get_or pages k d;
  after = drop (k + 1) pages;
  parts = parted pages k d lt;
  many = length-take-le k pages (omega arith);
  sum = sum;
  most = most;
  item = item;
}

-- the page of the number is that page
pub page_at : {A : Type 0} (pages : List (ℕ × List A)) (place k rest : ℕ) (p : IsPlace pages place k rest) (d : ℕ × List A) → get_or pages k d ≡ p.page
page_at pages place k rest p d = ap (λ (zs : List _). get_or zs k d) p.parts ∙ get_or_at p.before p.page p.after d k p.many

pub number_within : {A : Type 0} (pages : List (ℕ × List A)) (place k rest : ℕ) (p : IsPlace pages place k rest) → k < length pages
number_within pages place k rest p = omega (arith, ap length p.parts, length-append p.before (p.page ∷ p.after), p.many)

pub shorter : {A : Type 0} (pages : List (ℕ × List A)) (place k rest : ℕ) (p : IsPlace pages place k rest) → length p.page.1 ≤ length (flat pages)
shorter pages place k rest p = omega (arith, ap (λ (zs : List _). length (flat zs)) p.parts, length-flat-parts p.before p.page p.after)

-- the last page has each place that isn't in an earlier one
pub last_page : {A : Type 0} (pages : List (ℕ × List A)) (place k rest : ℕ) → k + 1 ≡ length pages → length (flat (take k pages)) + rest ≡ place → place ≤ length (flat pages) → IsPlace pages place k rest
last_page [] place k rest last sum within = absurd (omega arith)
last_page (x ∷ xs) place k rest last sum within =
    let pages = x ∷ xs in
    let lt : k < length pages = omega arith in
    let none : length (flat (drop (k + 1) pages)) ≡ 0 = ap (λ (zs : List _). length (flat zs)) (drop_all (k + 1) pages (omega arith)) ∙ ap length (flat-nil _) in
    let all = length-flat-take pages k x lt in
    place_of_number pages place k rest x lt sum (omega (arith, all, none)) (λ within'. omega (arith, all, none))

-- with so many items from a place to the end of a page, the page has it
pub page_before_end : {A : Type 0} (pages : List (ℕ × List A)) (place k after : ℕ) (d : ℕ × List A) → k < length pages → place + after ≡ length (flat (take (k + 1) pages)) → after ≤ length (get_or pages k d).1 → (place < length (flat pages) → 0 < after) → IsPlace pages place k (length (get_or pages k d).1 - after)
page_before_end pages place k after d lt sum within some =
    let more = length-flat-take-suc pages k d lt in
    place_of_number pages place k (length (get_or pages k d).1 - after) d lt (omega (arith, more, sum, within)) (omega arith) (λ below. omega (arith, some below, within))

-- the first page has each place that isn't in a later one
pub first_page : {A : Type 0} (pages : List (ℕ × List A)) (place after : ℕ) → 0 < length pages → place + after ≡ length (flat (take 1 pages)) → (place < length (flat pages) → 0 < after) → IsPlace pages place 0 place
unfolding flat
first_page [] place after lt sum some = absurd (omega arith)
first_page (x ∷ xs) place after lt sum some =
    let one : length (flat (take 1 (x ∷ xs))) ≡ length x.1 = length-append x.1 [] ∙ omega arith in
    place_of_number (x ∷ xs) place 0 place x lt (omega arith) (omega (arith, one, sum)) (λ below. omega (arith, some below, one, sum))
