-- One step down a tree of pages, and back.
use Rattle.std.proofs.Common.{◌≡◌, ℕ, ◌+◌, suc, ◌<◌, ◌≤◌, Bool, true, false, List, [], ◌∷◌, ◌++◌, length, take, drop, get_or, set, refl, ap, ap₂, ◌∙◌, sym, subst, arith, length-append, append_assoc}
use Rattle.std.specs.Bool.{if◌then◌else◌}
use Rattle.std.proofs.lemmas.List.{set_at, set-get_or, take_at, drop_at, take-append-le, drop-append-le, length-take}
use Rattle.std.proofs.Math.Seq.{drop-append-add}
use Rattle.cow_pages.specs.declared.edit.Edit.{Edit}
use Rattle.cow_pages.specs.Edits.{changed, HasPlace}
use Rattle.cow_pages.specs.Lists.{flat, Below, IsPlace}
use Rattle.cow_pages.proofs.PageLists.{flat-parts, page_at, shorter, Below-page, Below-front, Below-back, Below-append, Below-replaced}
use Rattle.cow_pages.proofs.Splices.{HasPlace-within, changed-pages, changed-within}

-- a page as contracts see it
abbrev pub seen : {A : Type 0} → ℕ → List A → ℕ × List A
seen height items = (height, items)

-- the page of a place is lower, has the place, and isn't longer
pub record IsStep {A : Type 0} (e : Edit A) (value page : ℕ × List A) (rest : ℕ) : Type 0 where
  pub lower : page.0 < value.0
  pub place : HasPlace e page.1 rest
  pub short : length page.1 ≤ length value.1

step_of_page : {A : Type 0} (e : Edit A) (height : ℕ) (pages : List (ℕ × List A)) (place k rest : ℕ) → Below height pages → (p : IsPlace pages place k rest) → HasPlace e (flat pages) place → IsStep e (height, flat pages) p.page rest
step_of_page e height pages place k rest low p h = record {
  lower = Below-page height p.before p.page p.after (subst (Below height) p.parts low);
  place = HasPlace-within e pages place k rest p h;
  short = shorter pages place k rest p;
}

pub step : {A : Type 0} (e : Edit A) (value : ℕ × List A) (height : ℕ) (pages : List (ℕ × List A)) (place k rest : ℕ) (x : ℕ × List A) → (height, flat pages) ≡ value → Below height pages → (p : IsPlace pages place k rest) → x ≡ get_or pages k x → HasPlace e value.1 place → IsStep e value x rest
step e value height pages place k rest x is low p read =
    subst (λ (v : ℕ × List _). HasPlace e v.1 place → IsStep e v x rest) is (λ h.
    subst (λ (q : ℕ × List _). IsStep e (height, flat pages) q rest) (sym (page_at pages place k rest p x) ∙ sym read) (step_of_page e height pages place k rest low p h))

-- ---- a page in the place of one

set-page : {A : Type 0} (pages : List (ℕ × List A)) (place k rest : ℕ) (p : IsPlace pages place k rest) (y : ℕ × List A) → set pages k y ≡ p.before ++ y ∷ p.after
set-page pages place k rest p y = ap (λ (zs : List _). set zs k y) p.parts ∙ set_at p.before p.page p.after y k p.many

low-set : {A : Type 0} (height : ℕ) (pages : List (ℕ × List A)) (place k rest : ℕ) (p : IsPlace pages place k rest) (y : ℕ × List A) → Below height pages → y.0 < height → Below height (set pages k y)
unfolding Below
low-set height pages place k rest p y low lt =
    let parts = subst (Below height) p.parts low in
    subst (Below height) (sym (set-page pages place k rest p y)) (
    Below-append height p.before (y ∷ p.after) (Below-front height p.before (p.page ∷ p.after) parts) (lt, (Below-back height p.before (p.page ∷ p.after) parts).1))

-- the page after a change that was made or not
pub low-edited : {A : Type 0} (e : Edit A) (b : Bool) (height : ℕ) (pages : List (ℕ × List A)) (place k rest : ℕ) (x y : ℕ × List A) → Below height pages → (p : IsPlace pages place k rest) → x ≡ get_or pages k x → y ≡ (if b then (x.0, changed e x.1 rest) else x) → Below height (set pages k y)
low-edited e b height pages place k rest x y low p read is =
    let lower : x.0 < height = subst (λ (q : ℕ × List _). q.0 < height) (sym (page_at pages place k rest p x) ∙ sym read) (Below-page height p.before p.page p.after (subst (Below height) p.parts low)) in
    let same : (b : Bool) → (if b then (x.0, changed e x.1 rest) else x).0 ≡ x.0 = elim [ true ↦ refl | false ↦ refl ] in
    low-set height pages place k rest p y low (let e0 : y.0 ≡ x.0 = ap (λ (q : ℕ × List _). q.0) is ∙ same b in omega arith)

pub flat-edited : {A : Type 0} (e : Edit A) (b : Bool) (value : ℕ × List A) (height : ℕ) (pages : List (ℕ × List A)) (place k rest : ℕ) (x y : ℕ × List A) → (height, flat pages) ≡ value → (p : IsPlace pages place k rest) → x ≡ get_or pages k x → HasPlace e value.1 place → y ≡ (if b then (x.0, changed e x.1 rest) else x) → (height, flat (set pages k y)) ≡ (if b then (value.0, changed e value.1 place) else value)
flat-edited e true value height pages place k rest x y is p read =
    subst (λ (v : ℕ × List _). HasPlace e v.1 place → y ≡ seen x.0 (changed e x.1 rest) → seen height (flat (set pages k y)) ≡ seen v.0 (changed e v.1 place)) is (λ h made.
    let of_page : x ≡ p.page = read ∙ page_at pages place k rest p x in
    let items : y.1 ≡ changed e p.page.1 rest = ap (λ (q : ℕ × List _). q.1) made ∙ ap (λ (q : ℕ × List _). changed e q.1 rest) of_page in
    ap (seen height) (
    ap flat (set-page pages place k rest p y) ∙ flat-parts p.before y p.after
    ∙ ap (λ (zs : List _). flat p.before ++ (zs ++ flat p.after)) items
    ∙ sym (changed-within e (flat p.before) p.page.1 (flat p.after) rest place p.sum (HasPlace-within e pages place k rest p h))
    ∙ ap (λ (zs : List _). changed e zs place) (sym (ap flat p.parts ∙ flat-parts p.before p.page p.after))))
flat-edited e false value height pages place k rest x y is p read = λ h made.
    ap (λ (q : ℕ × List _). seen height (flat (set pages k q))) (made ∙ read) ∙ ap (λ (zs : List _). seen height (flat zs)) (set-get_or pages k x) ∙ is

pub leaf-edited : {A : Type 0} (e : Edit A) (b : Bool) (value : ℕ × List A) (height : ℕ) (items news : List A) (place : ℕ) → (height, items) ≡ value → news ≡ (if b then changed e items place else items) → (height, news) ≡ (if b then (value.0, changed e value.1 place) else value)
leaf-edited e true value height items news place is made = ap (seen height) made ∙ ap (λ (v : ℕ × List _). seen v.0 (changed e v.1 place)) is
leaf-edited e false value height items news place is made = ap (seen height) made ∙ is

-- ---- a copy of a page with others in the place of one

drop_next : {A : Type 0} (xs : List A) (y : A) (ys : List A) (k : ℕ) → length xs ≡ k → drop (k + 1) (xs ++ y ∷ ys) ≡ ys
drop_next xs y ys k many =
    ap (drop (k + 1)) (sym (append_assoc xs (y ∷ []) ys)) ∙ drop_at (xs ++ y ∷ []) ys (k + 1) (let e : length (xs ++ y ∷ []) ≡ k + 1 = omega (arith, length-append xs (y ∷ [])) in e)

around : {A : Type 0} (pages : List (ℕ × List A)) (place k rest : ℕ) (p : IsPlace pages place k rest) (news : List (ℕ × List A)) → take k pages ++ (news ++ drop (k + 1) pages) ≡ p.before ++ (news ++ p.after)
around pages place k rest p news =
    ap₂ (λ (xs ys : List _). xs ++ (news ++ ys))
    (ap (take k) p.parts ∙ take_at p.before (p.page ∷ p.after) k p.many)
    (ap (drop (k + 1)) p.parts ∙ drop_next p.before p.page p.after k p.many)

pub low-replaced : {A : Type 0} (height : ℕ) (pages news copies : List (ℕ × List A)) (place k rest : ℕ) (x : ℕ × List A) → Below height pages → (p : IsPlace pages place k rest) → x ≡ get_or pages k x → Below (suc x.0) news → copies ≡ take k pages ++ (news ++ drop (k + 1) pages) → Below height copies
low-replaced height pages news copies place k rest x low p read low_news made =
    subst (Below height) (sym (made ∙ around pages place k rest p news)) (
    Below-replaced height p.before p.page p.after news (subst (Below height) p.parts low) (
    subst (λ (q : ℕ × List _). Below (suc q.0) news) (read ∙ page_at pages place k rest p x) low_news))

pub flat-replaced : {A : Type 0} (e : Edit A) (pages news copies : List (ℕ × List A)) (place k rest : ℕ) (x : ℕ × List A) → (p : IsPlace pages place k rest) → x ≡ get_or pages k x → HasPlace e (flat pages) place → flat news ≡ changed e x.1 rest → copies ≡ take k pages ++ (news ++ drop (k + 1) pages) → flat copies ≡ changed e (flat pages) place
flat-replaced e pages news copies place k rest x p read h same made =
    ap flat (made ∙ around pages place k rest p news)
    ∙ changed-pages e pages place k rest p news h (same ∙ ap (λ (q : ℕ × List _). changed e q.1 rest) (read ∙ page_at pages place k rest p x))

-- ---- reading

run_of_page : {A : Type 0} (front part back run : List A) (i r : ℕ) → length front + r ≡ i → r ≤ length part → run ≡ take (length run) (drop r part) → run ≡ take (length run) (drop i (front ++ (part ++ back)))
run_of_page front part back run i r sum most is =
    let few : length run ≤ length (drop r part) = omega (arith, ap length is, length-take (length run) (drop r part)) in
    let rest : drop i (front ++ (part ++ back)) ≡ drop r part ++ back = ap (λ (n : ℕ). drop n (front ++ (part ++ back))) (sym sum) ∙ drop-append-add front (part ++ back) r ∙ drop-append-le r part back most in
    is ∙ sym (ap (take (length run)) rest ∙ take-append-le (length run) (drop r part) back few)

pub run_in_page : {A : Type 0} (value : ℕ × List A) (height : ℕ) (pages : List (ℕ × List A)) (place k rest : ℕ) (x : ℕ × List A) (run : List A) → (height, flat pages) ≡ value → (p : IsPlace pages place k rest) → x ≡ get_or pages k x → run ≡ take (length run) (drop rest x.1) → run ≡ take (length run) (drop place value.1)
run_in_page value height pages place k rest x run is p read of_page =
    subst (λ (v : ℕ × List _). run ≡ take (length run) (drop place v.1)) is (
    subst (λ (zs : List _). run ≡ take (length run) (drop place zs)) (sym (ap flat p.parts ∙ flat-parts p.before p.page p.after)) (
    run_of_page (flat p.before) p.page.1 (flat p.after) run place rest p.sum p.most (
    subst (λ (q : ℕ × List _). run ≡ take (length run) (drop rest q.1)) (read ∙ page_at pages place k rest p x) of_page)))
