use Rattle.std.proofs.Common.{◌+◌, false, Option, [], ap, sym, ◌∙◌, arith}
use Rattle.std.specs.Option.{option_map}
use Rattle.tree_model.specs.declared.Place.TheVariants.{Found}
use Rattle.tree_model.specs.Trees.{inorder}
use Rattle.tree_model.specs.Items.{Item}
use Rattle.tree_model.specs.Columns.{Add, apply, items_of}
use Rattle.tree_model.proofs.LiveItems.{live-le}
use Rattle.tree_model.proofs.Ways.{length-inorder}
use Rattle.code_changes.proofs.Leading.{same_sum}
use Rattle.code_changes.proofs.Staying.{found_raises_count}
use Rattle.mope_base.specs.declared.body.Body.{Body}
use Rattle.ope_tree.specs.declared.nodes.Entry.{Entry}
use Rattle.ope_tree.specs.Nodes.{item_of, tree_of}
use Rattle.ope_tree.specs.Seen.{column_of}
use Rattle.ope_tree.proofs.InsertionSteps.{column_raised, live_after_raise, known_item, count_there, normal_nothing}
use Rattle.ope_tree.proofs.Sound.{sound_after}
use Rattle.ope_tree.proofs.inserting.raise_count.Goals as goal

pub unwrap-entry-requires : goal.unwrap-entry-requires
unwrap-entry-requires c =
    let t = tree_of c.args.nodes.now c.args.shape.root in
    let d : Item Body = record { body = record { nonce = 0; masked = 0 }; count = 0 } in
    known_item (inorder t) c.args.rank c.entry_at.result d (omega (arith, length-inorder t, c.requires.is_rank)) c.entry_at.ensures

pub more_rows-requires : goal.more_rows-requires
unfolding items_of item_of
more_rows-requires c =
    let known = c.entry_at.ensures ∙ ap (λ (o : Option Entry). option_map item_of o) c.unwrap-entry.ensures in
    let here = count_there (column_of c.args.nodes.now c.args.shape.root c.args.shape.most) c.args.rank (item_of c.unwrap-entry.result) known in
    omega (arith, here, c.requires.room)

pub overflow_add-result : goal.overflow_add-result
overflow_add-result c =
    let t = tree_of c.args.nodes.now c.args.shape.root in
    omega (arith, c.requires.sound.alive_is, live-le (inorder t), length-inorder t, c.requires.few, c.newly_live.ensures.few)

pub of-requires : goal.of-requires
of-requires c = normal_nothing c.new.result.items c.new-2.result.items c.new-3.result.items c.new.ensures.items c.new-2.ensures.items c.new-3.ensures.items

pub returns-clause-sound : goal.returns-clause-sound
unfolding items_of apply
returns-clause-sound c =
    let old = c.args.nodes.now in
    let c0 = column_of old c.args.shape.root c.args.shape.most in
    let t = tree_of old c.args.shape.root in
    let x = item_of c.unwrap-entry.result in
    let b = c.unwrap-entry.result.body in
    let known = c.entry_at.ensures ∙ ap (λ (o : Option Entry). option_map item_of o) c.unwrap-entry.ensures in
    let column = column_raised t (tree_of c.replace_item.new.nodes c.in_ok-raised.raised) c.args.shape.most c.args.rank b x (item_of c.more_rows.result) known c.more_rows.ensures c.in_ok-raised.ensures.names in
    let more = live_after_raise c0 c.args.rank b x c.newly_live.result known c.newly_live.ensures.live in
    sound_after old c.replace_item.new.nodes c.args.shape.root c.in_ok-raised.raised c.args.shape.alive c.args.shape.most (c.args.shape.alive + c.newly_live.result) c.args.shape.most (Add (Found c.args.rank) b) c.requires.sound c.in_ok-raised.ensures.is_link column
    (omega (arith, more, c.requires.sound.alive_is)) c.requires.sound.few

pub returns-clause-column : goal.returns-clause-column
returns-clause-column c = λ body.
    let old = c.args.nodes.now in
    let t = tree_of old c.args.shape.root in
    let x = item_of c.unwrap-entry.result in
    let known = c.entry_at.ensures ∙ ap (λ (o : Option Entry). option_map item_of o) c.unwrap-entry.ensures in
    column_raised t (tree_of c.replace_item.new.nodes c.in_ok-raised.raised) c.args.shape.most c.args.rank body x (item_of c.more_rows.result) known c.more_rows.ensures c.in_ok-raised.ensures.names

pub returns-clause-change : goal.returns-clause-change
returns-clause-change c = λ body.
    let c0 = column_of c.args.nodes.now c.args.shape.root c.args.shape.most in
    c.of.ensures
    ∙ same_sum c.new.result.items [] c.new-2.result.items [] c.new-3.result.items [] c.new.ensures.items c.new-2.ensures.items c.new-3.ensures.items
    ∙ sym (found_raises_count false c.args.rank body c0).sum
