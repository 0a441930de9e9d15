-- The changes of two operations on a column, one after the other, fit its codes in turn.
use Rattle.std.proofs.Common.{◌≡◌, ◌≤◌, false, [], ◌∷◌, refl, ap, ◌∙◌, sym, subst}
use Rattle.mope_base.specs.declared.body.Body.{Body}
use Rattle.tree_model.specs.Trees.{height}
use Rattle.tree_model.specs.Columns.{Column, Operation, apply, apply_all}
use Rattle.path_code.specs.Sums.{Sum, sum_of}
use Rattle.code_changes.specs.Columns.{codes_of}
use Rattle.code_changes.specs.Compositions.{FitsInTurn}
use Rattle.code_changes.proofs.NormalSums.{sums_fit_in_turn}

all_of_one : (operation : Operation Body) (c : Column Body) → apply_all false (operation ∷ []) c ≡ apply false operation c
unfolding apply_all
all_of_one operation c = refl

pub changes_fit_in_turn : (c mid after : Column Body) (first second : Operation Body) (s next : Sum) → mid ≡ apply false first c → after ≡ apply false second mid → height c.tree ≤ 63 → height mid.tree ≤ 63 → height after.tree ≤ 63 → s ≡ sum_of false (first ∷ []) c → next ≡ sum_of false (second ∷ []) mid → FitsInTurn s next (codes_of c.tree)
changes_fit_in_turn c mid after first second s next mid_is after_is high_c high_mid high_after s_is next_is =
    let one = all_of_one first c ∙ sym mid_is in
    let two : apply_all false (second ∷ []) (apply_all false (first ∷ []) c) ≡ after = ap (apply_all false (second ∷ [])) one ∙ all_of_one second mid ∙ sym after_is in
    let short = λ (d : Column Body). height d.tree ≤ 63 in
    let fit = sums_fit_in_turn false (first ∷ []) (second ∷ []) c high_c (subst short (sym one) high_mid) (subst short (sym two) high_after) in
    let later : sum_of false (second ∷ []) (apply_all false (first ∷ []) c) ≡ next = ap (sum_of false (second ∷ [])) one ∙ sym next_is in
    subst (λ (t : Sum). FitsInTurn s t (codes_of c.tree)) later
    (subst (λ (t : Sum). FitsInTurn t (sum_of false (second ∷ []) (apply_all false (first ∷ []) c)) (codes_of c.tree)) (sym s_is) fit)
