use Rattle.std.proofs.Common.{◌≡◌, ℕ, Bool, true, false, ◌||◌, ◌==◌, List, [], ◌∷◌, map, refl, ap, ◌∙◌, sym, subst, arith}
use Rattle.path_code.specs.declared.moves.Recode.{Recode}
use Rattle.tree_model.specs.Places.{holds, IsBelowAll, IsIncreasing}
use Rattle.code_changes.specs.Changes.{IsIn, new_code, new_if}
use Rattle.column_index.specs.declared.entry.Entry.{Entry}
use Rattle.column_index.specs.Entries.{precedes, is_same, holds_entry, put, codes_in}
use Rattle.column_index.specs.Recoding.{KeepsOrder}
use Rattle.column_index.specs.Seen.{Seen, index_of}
use Rattle.column_index.proofs.Recodings.{keeps_order}
use Rattle.column_index.proofs.tests.remapped.Goals as goal

-- what an index has after one more entry
after : (now : Seen) (e : Entry) (entries : List Entry) (before : Seen) → now ≡ index_of (put e before.entries) → before.entries ≡ entries → now.entries ≡ put e entries
unfolding index_of
after now e entries before is had = ap (λ (s : Seen). s.entries) is ∙ ap (put e) had

abbrev none : List Entry
none = []

pub insert-requires : goal.insert-requires
unfolding index_of holds_entry
insert-requires g c = ap (λ (s : Seen). holds_entry (record { enc = 4; row = 7 }) s.entries) c.new-index.ensures

fresh : (index : Seen) → index ≡ index_of [] → index.entries ≡ none
unfolding index_of
fresh index is = ap (λ (s : Seen). s.entries) is

-- the entries after one, two, three and four insertions
abbrev first : List Entry
first = record { enc = 4; row = 7 } ∷ []

abbrev second : List Entry
second = record { enc = 2; row = 8 } ∷ first

abbrev third : List Entry
third = record { enc = 2; row = 8 } ∷ record { enc = 4; row = 5 } ∷ first

abbrev fourth : List Entry
fourth = record { enc = 2; row = 8 } ∷ record { enc = 4; row = 5 } ∷ record { enc = 4; row = 7 } ∷ record { enc = 6; row = 1 } ∷ []

put-first_is : put (record { enc = 4; row = 7 }) [] ≡ first
unfolding put precedes
put-first_is = refl

put-second_is : put (record { enc = 2; row = 8 }) first ≡ second
unfolding put precedes
put-second_is = refl

put-third_is : put (record { enc = 4; row = 5 }) second ≡ third
unfolding put precedes
put-third_is = refl

put-fourth_is : put (record { enc = 6; row = 1 }) third ≡ fourth
unfolding put precedes
put-fourth_is = refl

pub insert-requires-2 : goal.insert-requires-2
unfolding holds_entry is_same
insert-requires-2 g c =
    let one = after c.insert.new.self _ none c.new-index.result c.in_ok-insert.ensures.ok (fresh c.new-index.result c.new-index.ensures) ∙ put-first_is in
    ap (holds_entry (record { enc = 2; row = 8 })) one

pub insert-requires-3 : goal.insert-requires-3
unfolding holds_entry is_same
insert-requires-3 g c =
    let one = after c.insert.new.self _ none c.new-index.result c.in_ok-insert.ensures.ok (fresh c.new-index.result c.new-index.ensures) ∙ put-first_is in
    let two = after c.insert-2.new.self _ first c.insert.new.self c.in_ok-insert-2.ensures.ok one ∙ put-second_is in
    ap (holds_entry (record { enc = 4; row = 5 })) two

pub insert-requires-4 : goal.insert-requires-4
unfolding holds_entry is_same
insert-requires-4 g c =
    let one = after c.insert.new.self _ none c.new-index.result c.in_ok-insert.ensures.ok (fresh c.new-index.result c.new-index.ensures) ∙ put-first_is in
    let two = after c.insert-2.new.self _ first c.insert.new.self c.in_ok-insert-2.ensures.ok one ∙ put-second_is in
    let three = after c.insert-3.new.self _ second c.insert-2.new.self c.in_ok-insert-3.ensures.ok two ∙ put-third_is in
    ap (holds_entry (record { enc = 6; row = 1 })) three

pub remap-requires-clause-olds : goal.remap-requires-clause-olds
unfolding IsIncreasing IsBelowAll
remap-requires-clause-olds g c = ((omega arith, tt), (tt, tt))

-- one mention of a code is as good as two
twice : (a b d : Bool) → a || (b || (b || (d || false))) ≡ true → a || (b || (d || false)) ≡ true
twice true b d h = refl
twice false true d h = refl
twice false false d h = h

abbrev all_codes : List ℕ
all_codes = 2 ∷ 4 ∷ 6 ∷ []

abbrev pairs : List Recode
pairs = record { old = 4; new = 3 } ∷ record { old = 6; new = 9 } ∷ []

codes_rise : IsIncreasing all_codes
unfolding IsIncreasing IsBelowAll
codes_rise = ((omega arith, (omega arith, tt)), ((omega arith, tt), (tt, tt)))

images_rise : IsIncreasing (map (new_code pairs) all_codes)
unfolding IsIncreasing IsBelowAll new_code new_if
images_rise = ((omega arith, (omega arith, tt)), ((omega arith, tt), (tt, tt)))

among : (code : ℕ) → IsIn code (codes_in fourth) → IsIn code all_codes
unfolding holds codes_in
among code h = twice (2 == code) (4 == code) (6 == code) h

pub remap-requires-clause-in_order : goal.remap-requires-clause-in_order
remap-requires-clause-in_order g c =
    let one = after c.insert.new.self _ none c.new-index.result c.in_ok-insert.ensures.ok (fresh c.new-index.result c.new-index.ensures) ∙ put-first_is in
    let two = after c.insert-2.new.self _ first c.insert.new.self c.in_ok-insert-2.ensures.ok one ∙ put-second_is in
    let three = after c.insert-3.new.self _ second c.insert-2.new.self c.in_ok-insert-3.ensures.ok two ∙ put-third_is in
    let four = after c.insert-4.new.self _ third c.insert-3.new.self c.in_ok-insert-4.ensures.ok three ∙ put-fourth_is in
    subst (λ (es : List Entry). KeepsOrder (new_code pairs) (codes_in es)) (sym four) (keeps_order (new_code pairs) (codes_in fourth) all_codes codes_rise images_rise among)
