-- What is true of the fields of every tree.
use Rattle.std.proofs.Common.{◌≡◌, ℕ, ◌^◌, ◌<◌, ◌≤◌, Bool, false, List, [], ◌∷◌, Option, None, refl, ap, ◌∙◌, sym, subst, arith}
use Rattle.tree_model.specs.Trees.{inorder, height}
use Rattle.tree_model.specs.Items.{live, live_items}
use Rattle.tree_model.specs.Balance.{limit}
use Rattle.tree_model.specs.Columns.{Column, Operation, empty_column, items_of, apply, apply_all}
use Rattle.tree_model.specs.ColumnLaws.{IsKept}
use Rattle.tree_model.proofs.Kept.{IsKept-empty, IsKept-short, IsKept-high, IsKept-apply}
use Rattle.tree_model.proofs.Limits.{limit-le, limit-unique}
use Rattle.path_code.specs.Sums.{Sum, sum_of}
use Rattle.code_changes.specs.Normal.{IsNormal}
use Rattle.code_changes.proofs.NormalSums.{sums_are_normal}
use Rattle.mope_base.specs.declared.body.Body.{Body}
use Rattle.ope_tree.specs.declared.nodes.Node.{Node}
use Rattle.ope_tree.specs.Nodes.{tree_by, tree_of, IsLink}
use Rattle.ope_tree.specs.Seen.{empty_seen, column_of, seen_of, IsSound}

pub sound_empty : (nodes : List Node) (spent : Bool) → nodes ≡ [] → IsSound nodes None 0 0 spent
unfolding tree_by IsLink inorder live live_items empty_column
sound_empty nodes spent e =
    let P : List Node → Type 0 = λ ns. IsSound ns None 0 0 spent in
    let here : IsSound [] None 0 0 spent = record { is_link = tt; kept = IsKept-empty Body; alive_is = refl; few = omega arith; gone = λ _. refl; fresh = λ _. refl } in
    subst P (sym e) here

pub seen_empty : (nodes : List Node) (spent : Bool) → nodes ≡ [] → seen_of nodes None 0 spent ≡ empty_seen spent
unfolding tree_by empty_column empty_seen
seen_empty nodes spent e = ap (λ (ns : List Node). seen_of ns None 0 spent) e

pub sound_short : (nodes : List Node) (root : Option ℕ) (alive most : ℕ) (spent : Bool) → IsSound nodes root alive most spent → height (tree_of nodes root) ≤ 63
sound_short nodes root alive most spent sound = IsKept-short (column_of nodes root most) sound.kept (omega (arith, sound.few))

-- ---- after an operation

-- no way has more than 55 steps
pub sound_low : (nodes : List Node) (root : Option ℕ) (alive most : ℕ) (spent : Bool) → IsSound nodes root alive most spent → height (tree_of nodes root) ≤ 55
sound_low nodes root alive most spent sound =
    let high = IsKept-high (column_of nodes root most) sound.kept in
    let low = limit-le most (2 ^ 32) (omega (arith, sound.few)) in
    let at : limit (2 ^ 32) ≡ 54 = limit-unique (2 ^ 32) 54 (omega arith) (omega arith) (omega arith) in
    omega arith

pub sound_after : (old new : List Node) (root link : Option ℕ) (alive most alive_now most_now : ℕ) (operation : Operation Body) → IsSound old root alive most false → IsLink new link → column_of new link most_now ≡ apply false operation (column_of old root most) → alive_now ≡ live (items_of (apply false operation (column_of old root most))) → most_now < 2 ^ 32 → IsSound new link alive_now most_now false
unfolding items_of
sound_after old new root link alive most alive_now most_now operation sound h e alive_is few =
    let P : Column Body → Type 0 = λ c. IsKept Body c in
    record {
      is_link = h;
      kept = subst P (sym e) (IsKept-apply false operation (column_of old root most) sound.kept);
      alive_is = alive_is ∙ ap (λ (c : Column Body). live (items_of c)) (sym e);
      few = few;
      gone = λ no. cc;
      fresh = λ no. cc;
    }

-- what an operation does to codes is a change
pub normal_after : (old : List Node) (root : Option ℕ) (alive most : ℕ) (operation : Operation Body) (s : Sum) → IsSound old root alive most false → (apply false operation (column_of old root most)).most ≤ 2 ^ 32 → s ≡ sum_of false (operation ∷ []) (column_of old root most) → IsNormal s
unfolding apply_all
normal_after old root alive most operation s sound few e =
    let c = column_of old root most in
    let P : Sum → Type 0 = λ s. IsNormal s in
    subst P (sym e) (sums_are_normal false (operation ∷ []) c (sound_short old root alive most false sound) (IsKept-short (apply false operation c) (IsKept-apply false operation c sound.kept) few))
