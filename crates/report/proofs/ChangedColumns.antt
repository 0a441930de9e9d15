-- A column has lines exactly where some of its codes change.
use Rattle.std.proofs.Common.{◌≡◌, refl, sym, ◌∙◌, ap, ℕ, Bool, true, false, List, [], ◌∷◌, ◌++◌, append-nil}
use Rattle.code_changes.specs.CompositionLaws.{unchanged}
use Rattle.path_code.specs.Sums.{Sum}
use Rattle.path_code.specs.declared.moves.Recode.{Recode}
use Rattle.versions.specs.Changes.{is_nothing, leaves_codes}
use Rattle.versions.specs.declared.change.ColumnChange.{ColumnChange}
use Rattle.workload.specs.declared.script.Workload.{Workload}
use Rattle.report.specs.ViewText.{change_lines, column_line, sum_lines, unless_same}

some_change : (moved : List Recode) (dropped added : List ℕ) (s : Sum) → s ≡ record { moved = moved; dropped = dropped; added = added } → (s ≡ unchanged → ⊥) → leaves_codes s ≡ false
unfolding leaves_codes is_nothing unchanged
some_change [] [] [] s e h = absurd (h e)
some_change (r ∷ moved) dropped added s e h = ap leaves_codes e
some_change [] (d ∷ dropped) added s e h = ap leaves_codes e
some_change [] [] (a ∷ added) s e h = ap leaves_codes e

lines-unchanged : (w : Workload) (c : ColumnChange) → c.summary ≡ unchanged → change_lines w c ≡ []
unfolding change_lines leaves_codes is_nothing unchanged unless_same
lines-unchanged w c e = ap (λ (s : Sum). unless_same (leaves_codes s) (column_line w c.table c.column ++ sum_lines c.summary)) e

-- nothing is printed of a column whose codes all stay
pub none_printed : (w : Workload) (text : List ℕ) (c : ColumnChange) → c.summary ≡ unchanged → text ≡ text ++ change_lines w c
none_printed w text c e = sym (append-nil text) ∙ ap (λ l. text ++ l) (sym (lines-unchanged w c e))

pub lines-changed : (w : Workload) (c : ColumnChange) → (c.summary ≡ unchanged → ⊥) → change_lines w c ≡ column_line w c.table c.column ++ sum_lines c.summary
unfolding change_lines unless_same
lines-changed w c h = ap (λ (b : Bool). unless_same b (column_line w c.table c.column ++ sum_lines c.summary)) (some_change c.summary.moved c.summary.dropped c.summary.added c.summary refl h)
