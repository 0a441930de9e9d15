use Rattle.std.proofs.Common.{◌≡◌, ◌+◌, ◌<◌, ◌≤◌, max, ℕ, suc, false, List, [], ◌∷◌, ◌++◌, length, ap, refl, sym, ◌∙◌, arith}
use Rattle.tree_model.specs.declared.Side.{Side}
use Rattle.tree_model.specs.declared.Place.TheVariants.{Found, Gap}
use Rattle.tree_model.specs.Trees.{Tree, size, height, path, inorder}
use Rattle.tree_model.specs.Items.{Item, new_item}
use Rattle.tree_model.specs.Balance.{limit}
use Rattle.tree_model.specs.Columns.{Add, add, apply, items_of}
use Rattle.tree_model.proofs.Depths.{size-graft, insert-shallow}
use Rattle.tree_model.proofs.GraftPaths.{graft-new}
use Rattle.tree_model.proofs.LiveItems.{live-le}
use Rattle.tree_model.proofs.Ways.{length-inorder}
use Rattle.path_code.specs.Ways.{way}
use Rattle.path_code.specs.Sums.{Sum}
use Rattle.code_changes.proofs.Leading.{same_sum}
use Rattle.mope_base.specs.declared.body.Body.{Body}
use Rattle.ope_tree.specs.Nodes.{item_of, tree_of}
use Rattle.ope_tree.specs.Seen.{column_of}
use Rattle.ope_tree.proofs.InsertionSteps.{column_added, live_added, insert-tall, graft-low, change_alone, change_settled, path_len, not_deeper}
use Rattle.ope_tree.proofs.Sound.{sound_short, sound_low, sound_after, normal_after}
use Rattle.ope_tree.proofs.inserting.insert_at_gap.Goals as goal

pub graft-requires-clause-short : goal.graft-requires-clause-short
graft-requires-clause-short c =
    omega (arith, c.root.ensures.len, sound_short c.args.nodes.now c.args.shape.root c.args.shape.alive c.args.shape.most false c.requires.sound)

pub overflow_add-result : goal.overflow_add-result
overflow_add-result c =
    let old = c.args.nodes.now in
    let t = tree_of old c.args.shape.root in
    let rank = c.args.rank in
    let b = c.args.body in
    let c0 = column_of old c.args.shape.root c.args.shape.most in
    omega (arith, c.requires.sound.alive_is, live-le (inorder t), length-inorder t, c.requires.few)

pub overflow_add-result-2 : goal.overflow_add-result-2
overflow_add-result-2 c =
    let old = c.args.nodes.now in
    let t = tree_of old c.args.shape.root in
    let rank = c.args.rank in
    let b = c.args.body in
    let c0 = column_of old c.args.shape.root c.args.shape.most in
    omega (arith, c.requires.sound.alive_is, live-le (inorder t), length-inorder t, c.requires.few)

pub returns-then-not-too_deep-clause-column : goal.returns-then-not-too_deep-clause-column
unfolding item_of new_item
returns-then-not-too_deep-clause-column c =
    let old = c.args.nodes.now in
    let t = tree_of old c.args.shape.root in
    let rank = c.args.rank in
    let b = c.args.body in
    let c0 = column_of old c.args.shape.root c.args.shape.most in
    let most = c.max-most.result in
    let next : c.size_of.result + 1 ≡ suc (size t) = omega (arith, c.size_of.ensures) in
    let top : most ≡ max c.args.shape.most (suc (size t)) = c.max-most.ensures ∙ ap (λ (k : ℕ). max c.args.shape.most k) next in
    let way_is : way c.in_ok-grafted.grafted.path ≡ path t (Gap rank) = c.in_ok-grafted.ensures.path ∙ ap (λ (w : List Side). w ++ path t (Gap rank)) c.root.ensures.empty in
    let len : c.in_ok-grafted.grafted.path.len ≡ length (path t (Gap rank)) = path_len c.in_ok-grafted.grafted.path (path t (Gap rank)) way_is in
    let within : c.in_ok-grafted.grafted.path.len ≤ limit c.from.result = not_deeper (limit c.from.result) c.in_ok-grafted.grafted.path.len c.if-not-too_deep.ensures.1 in
    let shallow : length (path t (Gap rank)) ≤ limit most = omega (arith, within, len, ap limit c.from.ensures) in
    column_added t (tree_of c.graft.new.nodes c.in_ok-grafted.grafted.link) c.args.shape.most most rank b top (c.in_ok-grafted.ensures.built.names ∙ sym (insert-shallow most rank (new_item b) t shallow))

pub returns-then-not-too_deep-clause-sound : goal.returns-then-not-too_deep-clause-sound
unfolding item_of new_item apply items_of
returns-then-not-too_deep-clause-sound c =
    let old = c.args.nodes.now in
    let t = tree_of old c.args.shape.root in
    let rank = c.args.rank in
    let b = c.args.body in
    let c0 = column_of old c.args.shape.root c.args.shape.most in
    let most = c.max-most.result in
    let next : c.size_of.result + 1 ≡ suc (size t) = omega (arith, c.size_of.ensures) in
    let top : most ≡ max c.args.shape.most (suc (size t)) = c.max-most.ensures ∙ ap (λ (k : ℕ). max c.args.shape.most k) next in
    let way_is : way c.in_ok-grafted.grafted.path ≡ path t (Gap rank) = c.in_ok-grafted.ensures.path ∙ ap (λ (w : List Side). w ++ path t (Gap rank)) c.root.ensures.empty in
    let len : c.in_ok-grafted.grafted.path.len ≡ length (path t (Gap rank)) = path_len c.in_ok-grafted.grafted.path (path t (Gap rank)) way_is in
    let within : c.in_ok-grafted.grafted.path.len ≤ limit c.from.result = not_deeper (limit c.from.result) c.in_ok-grafted.grafted.path.len c.if-not-too_deep.ensures.1 in
    let shallow : length (path t (Gap rank)) ≤ limit most = omega (arith, within, len, ap limit c.from.ensures) in
    let column = column_added t (tree_of c.graft.new.nodes c.in_ok-grafted.grafted.link) c.args.shape.most most rank b top (c.in_ok-grafted.ensures.built.names ∙ sym (insert-shallow most rank (new_item b) t shallow)) in
    let more = live_added c0 rank b in
    sound_after old c.graft.new.nodes c.args.shape.root c.in_ok-grafted.grafted.link c.args.shape.alive c.args.shape.most (c.args.shape.alive + 1) most (Add (Gap rank) b) c.requires.sound c.in_ok-grafted.ensures.built.is_link column
    (omega (arith, more, c.requires.sound.alive_is)) (omega (arith, top, c.requires.sound.few, c.requires.few))

pub returns-then-not-too_deep-clause-change : goal.returns-then-not-too_deep-clause-change
returns-then-not-too_deep-clause-change c =
    let old = c.args.nodes.now in
    let t = tree_of old c.args.shape.root in
    let rank = c.args.rank in
    let b = c.args.body in
    let c0 = column_of old c.args.shape.root c.args.shape.most in
    let most = c.max-most.result in
    let next : c.size_of.result + 1 ≡ suc (size t) = omega (arith, c.size_of.ensures) in
    let top : most ≡ max c.args.shape.most (suc (size t)) = c.max-most.ensures ∙ ap (λ (k : ℕ). max c.args.shape.most k) next in
    let way_is : way c.in_ok-grafted.grafted.path ≡ path t (Gap rank) = c.in_ok-grafted.ensures.path ∙ ap (λ (w : List Side). w ++ path t (Gap rank)) c.root.ensures.empty in
    let len : c.in_ok-grafted.grafted.path.len ≡ length (path t (Gap rank)) = path_len c.in_ok-grafted.grafted.path (path t (Gap rank)) way_is in
    let within : c.in_ok-grafted.grafted.path.len ≤ limit c.from.result = not_deeper (limit c.from.result) c.in_ok-grafted.grafted.path.len c.if-not-too_deep.ensures.1 in
    let shallow : length (path t (Gap rank)) ≤ limit most = omega (arith, within, len, ap limit c.from.ensures) in
    change_alone c0 rank c.code.result b (way c.in_ok-grafted.grafted.path) c.in_ok-change.change c.requires.is_rank (omega (arith, shallow, ap limit top)) way_is c.code.ensures.spells c.in_ok-change.ensures

pub balance_tall_part-requires-clause-is_rank : goal.balance_tall_part-requires-clause-is_rank
unfolding item_of new_item
balance_tall_part-requires-clause-is_rank c =
    let old = c.args.nodes.now in
    let t = tree_of old c.args.shape.root in
    let rank = c.args.rank in
    let b = c.args.body in
    let c0 = column_of old c.args.shape.root c.args.shape.most in
    omega (arith, ap (λ (u : Tree (Item Body)). size u) c.in_ok-grafted.ensures.built.names, size-graft rank (new_item b) t, c.requires.is_rank)

pub balance_tall_part-requires-clause-short : goal.balance_tall_part-requires-clause-short
unfolding item_of new_item
balance_tall_part-requires-clause-short c =
    let old = c.args.nodes.now in
    let t = tree_of old c.args.shape.root in
    let rank = c.args.rank in
    let b = c.args.body in
    let c0 = column_of old c.args.shape.root c.args.shape.most in
    omega (arith, ap (λ (u : Tree (Item Body)). height u) c.in_ok-grafted.ensures.built.names, graft-low rank (new_item b) t (sound_low old c.args.shape.root c.args.shape.alive c.args.shape.most false c.requires.sound))

pub balance_tall_part-requires-clause-few : goal.balance_tall_part-requires-clause-few
unfolding item_of new_item
balance_tall_part-requires-clause-few c =
    let old = c.args.nodes.now in
    let t = tree_of old c.args.shape.root in
    let rank = c.args.rank in
    let b = c.args.body in
    let c0 = column_of old c.args.shape.root c.args.shape.most in
    let most = c.max-most.result in
    let next : c.size_of.result + 1 ≡ suc (size t) = omega (arith, c.size_of.ensures) in
    let top : most ≡ max c.args.shape.most (suc (size t)) = c.max-most.ensures ∙ ap (λ (k : ℕ). max c.args.shape.most k) next in
    omega (arith, ap (λ (u : Tree (Item Body)). size u) c.in_ok-grafted.ensures.built.names, size-graft rank (new_item b) t, top, c.from-2.ensures)

pub balance_tall_part-requires-clause-deep : goal.balance_tall_part-requires-clause-deep
unfolding item_of new_item
balance_tall_part-requires-clause-deep c =
    let old = c.args.nodes.now in
    let t = tree_of old c.args.shape.root in
    let rank = c.args.rank in
    let b = c.args.body in
    let c0 = column_of old c.args.shape.root c.args.shape.most in
    let most = c.max-most.result in
    let next : c.size_of.result + 1 ≡ suc (size t) = omega (arith, c.size_of.ensures) in
    let top : most ≡ max c.args.shape.most (suc (size t)) = c.max-most.ensures ∙ ap (λ (k : ℕ). max c.args.shape.most k) next in
    let way_is : way c.in_ok-grafted.grafted.path ≡ path t (Gap rank) = c.in_ok-grafted.ensures.path ∙ ap (λ (w : List Side). w ++ path t (Gap rank)) c.root.ensures.empty in
    let len : c.in_ok-grafted.grafted.path.len ≡ length (path t (Gap rank)) = path_len c.in_ok-grafted.grafted.path (path t (Gap rank)) way_is in
    let g = tree_of c.graft.new.nodes c.in_ok-grafted.grafted.link in
    let deeper : limit c.from.result < c.in_ok-grafted.grafted.path.len = c.if-not-too_deep.ensures.0 refl in
    let long : length (path g (Found rank)) ≡ length (path t (Gap rank)) = ap (λ (u : Tree (Item Body)). length (path u (Found rank))) c.in_ok-grafted.ensures.built.names ∙ ap length (graft-new rank (new_item b) t c.requires.is_rank) in
    let deep : limit most < length (path g (Found rank)) = omega (arith, deeper, len, long, ap limit c.from.ensures) in
    omega (arith, deep, ap limit c.from-2.ensures)

pub of-requires : goal.of-requires
unfolding item_of new_item apply add
of-requires c =
    let old = c.args.nodes.now in
    let t = tree_of old c.args.shape.root in
    let rank = c.args.rank in
    let b = c.args.body in
    let c0 = column_of old c.args.shape.root c.args.shape.most in
    let most = c.max-most.result in
    let next : c.size_of.result + 1 ≡ suc (size t) = omega (arith, c.size_of.ensures) in
    let top : most ≡ max c.args.shape.most (suc (size t)) = c.max-most.ensures ∙ ap (λ (k : ℕ). max c.args.shape.most k) next in
    let way_is : way c.in_ok-grafted.grafted.path ≡ path t (Gap rank) = c.in_ok-grafted.ensures.path ∙ ap (λ (w : List Side). w ++ path t (Gap rank)) c.root.ensures.empty in
    let len : c.in_ok-grafted.grafted.path.len ≡ length (path t (Gap rank)) = path_len c.in_ok-grafted.grafted.path (path t (Gap rank)) way_is in
    let g = tree_of c.graft.new.nodes c.in_ok-grafted.grafted.link in
    let deeper : limit c.from.result < c.in_ok-grafted.grafted.path.len = c.if-not-too_deep.ensures.0 refl in
    let long : length (path g (Found rank)) ≡ length (path t (Gap rank)) = ap (λ (u : Tree (Item Body)). length (path u (Found rank))) c.in_ok-grafted.ensures.built.names ∙ ap length (graft-new rank (new_item b) t c.requires.is_rank) in
    let deep : limit most < length (path g (Found rank)) = omega (arith, deeper, len, long, ap limit c.from.ensures) in
    let real : limit (max c.args.shape.most (suc (size t))) < length (path g (Found rank)) = omega (arith, deep, ap limit top) in
    let added : c.push.new.self.items ≡ c.in_ok-rebuilt.rebuilt.added ∷ [] = c.in_ok-push.ensures.items ∙ ap (λ (xs : List ℕ). xs ++ c.in_ok-rebuilt.rebuilt.added ∷ []) c.new-added.ensures.items in
    let sum = same_sum c.in_ok-rebuilt.rebuilt.moved.items c.in_ok-rebuilt.rebuilt.moved.items c.new.result.items [] c.push.new.self.items (c.in_ok-rebuilt.rebuilt.added ∷ []) refl c.new.ensures.items added
    ∙ change_settled c0 g rank c.in_ok-rebuilt.rebuilt.added b c.in_ok-rebuilt.rebuilt.moved.items c.in_ok-grafted.ensures.built.names c.requires.is_rank real c.in_ok-rebuilt.ensures.codes in
    let s : Sum = record { moved = c.in_ok-rebuilt.rebuilt.moved.items; dropped = c.new.result.items; added = c.push.new.self.items } in
    normal_after old c.args.shape.root c.args.shape.alive c.args.shape.most (Add (Gap rank) b) s c.requires.sound (omega (arith, c.requires.sound.few, c.requires.few)) sum

pub returns-clause-column : goal.returns-clause-column
unfolding item_of new_item
returns-clause-column c =
    let old = c.args.nodes.now in
    let t = tree_of old c.args.shape.root in
    let rank = c.args.rank in
    let b = c.args.body in
    let c0 = column_of old c.args.shape.root c.args.shape.most in
    let most = c.max-most.result in
    let next : c.size_of.result + 1 ≡ suc (size t) = omega (arith, c.size_of.ensures) in
    let top : most ≡ max c.args.shape.most (suc (size t)) = c.max-most.ensures ∙ ap (λ (k : ℕ). max c.args.shape.most k) next in
    let way_is : way c.in_ok-grafted.grafted.path ≡ path t (Gap rank) = c.in_ok-grafted.ensures.path ∙ ap (λ (w : List Side). w ++ path t (Gap rank)) c.root.ensures.empty in
    let len : c.in_ok-grafted.grafted.path.len ≡ length (path t (Gap rank)) = path_len c.in_ok-grafted.grafted.path (path t (Gap rank)) way_is in
    let g = tree_of c.graft.new.nodes c.in_ok-grafted.grafted.link in
    let deeper : limit c.from.result < c.in_ok-grafted.grafted.path.len = c.if-not-too_deep.ensures.0 refl in
    let long : length (path g (Found rank)) ≡ length (path t (Gap rank)) = ap (λ (u : Tree (Item Body)). length (path u (Found rank))) c.in_ok-grafted.ensures.built.names ∙ ap length (graft-new rank (new_item b) t c.requires.is_rank) in
    let deep : limit most < length (path g (Found rank)) = omega (arith, deeper, len, long, ap limit c.from.ensures) in
    column_added t (tree_of c.balance_tall_part.new.nodes c.in_ok-rebuilt.rebuilt.root) c.args.shape.most most rank b top (c.in_ok-rebuilt.ensures.built.names ∙ sym (insert-tall most rank (new_item b) t g c.in_ok-grafted.ensures.built.names c.requires.is_rank deep))

pub returns-clause-sound : goal.returns-clause-sound
unfolding item_of new_item apply items_of
returns-clause-sound c =
    let old = c.args.nodes.now in
    let t = tree_of old c.args.shape.root in
    let rank = c.args.rank in
    let b = c.args.body in
    let c0 = column_of old c.args.shape.root c.args.shape.most in
    let most = c.max-most.result in
    let next : c.size_of.result + 1 ≡ suc (size t) = omega (arith, c.size_of.ensures) in
    let top : most ≡ max c.args.shape.most (suc (size t)) = c.max-most.ensures ∙ ap (λ (k : ℕ). max c.args.shape.most k) next in
    let way_is : way c.in_ok-grafted.grafted.path ≡ path t (Gap rank) = c.in_ok-grafted.ensures.path ∙ ap (λ (w : List Side). w ++ path t (Gap rank)) c.root.ensures.empty in
    let len : c.in_ok-grafted.grafted.path.len ≡ length (path t (Gap rank)) = path_len c.in_ok-grafted.grafted.path (path t (Gap rank)) way_is in
    let g = tree_of c.graft.new.nodes c.in_ok-grafted.grafted.link in
    let deeper : limit c.from.result < c.in_ok-grafted.grafted.path.len = c.if-not-too_deep.ensures.0 refl in
    let long : length (path g (Found rank)) ≡ length (path t (Gap rank)) = ap (λ (u : Tree (Item Body)). length (path u (Found rank))) c.in_ok-grafted.ensures.built.names ∙ ap length (graft-new rank (new_item b) t c.requires.is_rank) in
    let deep : limit most < length (path g (Found rank)) = omega (arith, deeper, len, long, ap limit c.from.ensures) in
    let column = column_added t (tree_of c.balance_tall_part.new.nodes c.in_ok-rebuilt.rebuilt.root) c.args.shape.most most rank b top (c.in_ok-rebuilt.ensures.built.names ∙ sym (insert-tall most rank (new_item b) t g c.in_ok-grafted.ensures.built.names c.requires.is_rank deep)) in
    let more = live_added c0 rank b in
    sound_after old c.balance_tall_part.new.nodes c.args.shape.root c.in_ok-rebuilt.rebuilt.root c.args.shape.alive c.args.shape.most (c.args.shape.alive + 1) most (Add (Gap rank) b) c.requires.sound c.in_ok-rebuilt.ensures.built.is_link column
    (omega (arith, more, c.requires.sound.alive_is)) (omega (arith, top, c.requires.sound.few, c.requires.few))

pub returns-clause-change : goal.returns-clause-change
unfolding item_of new_item
returns-clause-change c =
    let old = c.args.nodes.now in
    let t = tree_of old c.args.shape.root in
    let rank = c.args.rank in
    let b = c.args.body in
    let c0 = column_of old c.args.shape.root c.args.shape.most in
    let most = c.max-most.result in
    let next : c.size_of.result + 1 ≡ suc (size t) = omega (arith, c.size_of.ensures) in
    let top : most ≡ max c.args.shape.most (suc (size t)) = c.max-most.ensures ∙ ap (λ (k : ℕ). max c.args.shape.most k) next in
    let way_is : way c.in_ok-grafted.grafted.path ≡ path t (Gap rank) = c.in_ok-grafted.ensures.path ∙ ap (λ (w : List Side). w ++ path t (Gap rank)) c.root.ensures.empty in
    let len : c.in_ok-grafted.grafted.path.len ≡ length (path t (Gap rank)) = path_len c.in_ok-grafted.grafted.path (path t (Gap rank)) way_is in
    let g = tree_of c.graft.new.nodes c.in_ok-grafted.grafted.link in
    let deeper : limit c.from.result < c.in_ok-grafted.grafted.path.len = c.if-not-too_deep.ensures.0 refl in
    let long : length (path g (Found rank)) ≡ length (path t (Gap rank)) = ap (λ (u : Tree (Item Body)). length (path u (Found rank))) c.in_ok-grafted.ensures.built.names ∙ ap length (graft-new rank (new_item b) t c.requires.is_rank) in
    let deep : limit most < length (path g (Found rank)) = omega (arith, deeper, len, long, ap limit c.from.ensures) in
    let real : limit (max c.args.shape.most (suc (size t))) < length (path g (Found rank)) = omega (arith, deep, ap limit top) in
    let added : c.push.new.self.items ≡ c.in_ok-rebuilt.rebuilt.added ∷ [] = c.in_ok-push.ensures.items ∙ ap (λ (xs : List ℕ). xs ++ c.in_ok-rebuilt.rebuilt.added ∷ []) c.new-added.ensures.items in
    let sum = same_sum c.in_ok-rebuilt.rebuilt.moved.items c.in_ok-rebuilt.rebuilt.moved.items c.new.result.items [] c.push.new.self.items (c.in_ok-rebuilt.rebuilt.added ∷ []) refl c.new.ensures.items added
    ∙ change_settled c0 g rank c.in_ok-rebuilt.rebuilt.added b c.in_ok-rebuilt.rebuilt.moved.items c.in_ok-grafted.ensures.built.names c.requires.is_rank real c.in_ok-rebuilt.ensures.codes in
    c.of.ensures ∙ sum
