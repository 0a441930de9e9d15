-- A change at a place of a list, within a part of the list.
use Rattle.std.proofs.Common.{◌≡◌, ℕ, ◌+◌, ◌-◌, ◌≤◌, List, ◌++◌, length, set, refl, ap, ◌∙◌, sym, arith, length-set}
use Rattle.std.specs.List.{insert, remove}
use Rattle.std.proofs.lemmas.List.{set-append_left, set-append_right}
use Rattle.std.proofs.lemmas.List.Edits.{insert-append_left, insert-append_right, remove-append_left, remove-append_right, length-insert, length-remove}
use Rattle.cow_pages.specs.declared.edit.Edit.{Edit}
use Rattle.cow_pages.specs.declared.edit.Edit.TheVariants.{Set, Insert, Remove}
use Rattle.cow_pages.specs.Edits.{changed, HasPlace}
use Rattle.cow_pages.specs.Counts.{count_after}
use Rattle.cow_pages.specs.Lists.{flat, IsPlace}
use Rattle.cow_pages.proofs.PageLists.{flat-parts, flat-append}

pub length-changed : {A : Type 0} (e : Edit A) (xs : List A) (i : ℕ) → HasPlace e xs i → length (changed e xs i) ≡ count_after e (length xs)
length-changed (Set x) xs i h = length-set xs i x
length-changed (Insert x split) xs i h = length-insert xs i x h
length-changed Remove xs i h = omega (arith, length-remove xs i h)

pub changed-within : {A : Type 0} (e : Edit A) (front part back : List A) (r i : ℕ) → length front + r ≡ i → HasPlace e part r → changed e (front ++ (part ++ back)) i ≡ front ++ (changed e part r ++ back)
changed-within (Set x) front part back r i sum h =
    set-append_right front (part ++ back) (length front) i x refl (omega arith)
    ∙ ap (λ (n : ℕ). front ++ set (part ++ back) n x) (let e : i - length front ≡ r = omega arith in e)
    ∙ ap (λ (zs : List _). front ++ zs) (set-append_left part back r x h)
changed-within (Insert x split) front part back r i sum h =
    insert-append_right front (part ++ back) (length front) i x refl (omega arith)
    ∙ ap (λ (n : ℕ). front ++ insert (part ++ back) n x) (let e : i - length front ≡ r = omega arith in e)
    ∙ ap (λ (zs : List _). front ++ zs) (insert-append_left part back r x h)
changed-within Remove front part back r i sum h =
    remove-append_right front (part ++ back) (length front) i refl (omega arith)
    ∙ ap (λ (n : ℕ). front ++ remove (part ++ back) n) (let e : i - length front ≡ r = omega arith in e)
    ∙ ap (λ (zs : List _). front ++ zs) (remove-append_left part back r h)

-- a place of a list is one of its page
pub HasPlace-within : {A : Type 0} (e : Edit A) (pages : List (ℕ × List A)) (place k rest : ℕ) (p : IsPlace pages place k rest) → HasPlace e (flat pages) place → HasPlace e p.page.1 rest
HasPlace-within (Set x) pages place k rest p h = p.item h
HasPlace-within (Insert x split) pages place k rest p h = p.most
HasPlace-within Remove pages place k rest p h = p.item h

-- pages that have what a page becomes, in its place
pub changed-pages : {A : Type 0} (e : Edit A) (pages : List (ℕ × List A)) (place k rest : ℕ) (p : IsPlace pages place k rest) (news : List (ℕ × List A)) → HasPlace e (flat pages) place → flat news ≡ changed e p.page.1 rest → flat (p.before ++ (news ++ p.after)) ≡ changed e (flat pages) place
changed-pages e pages place k rest p news h same =
    flat-append p.before (news ++ p.after)
    ∙ ap (λ (zs : List _). flat p.before ++ zs) (flat-append news p.after ∙ ap (λ (zs : List _). zs ++ flat p.after) same)
    ∙ sym (changed-within e (flat p.before) p.page.1 (flat p.after) rest place p.sum (HasPlace-within e pages place k rest p h))
    ∙ ap (λ (zs : List _). changed e zs place) (sym (ap flat p.parts ∙ flat-parts p.before p.page p.after))

pub HasPlace-most : {A : Type 0} (e : Edit A) (xs : List A) (i : ℕ) → HasPlace e xs i → i ≤ length xs
HasPlace-most (Set x) xs i h = omega arith
HasPlace-most (Insert x split) xs i h = h
HasPlace-most Remove xs i h = omega arith

pub length-changed-room : {A : Type 0} (e : Edit A) (xs : List A) (i : ℕ) → HasPlace e xs i → length (changed e xs i) ≤ length xs + 1
length-changed-room (Set x) xs i h = omega (arith, length-set xs i x)
length-changed-room (Insert x split) xs i h = omega (arith, length-insert xs i x h)
length-changed-room Remove xs i h = omega (arith, length-remove xs i h)
