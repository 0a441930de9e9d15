use Rattle.std.proofs.Common.{◌∙◌, false}
use Rattle.tree_model.specs.declared.Place.TheVariants.{Gap}
use Rattle.tree_model.specs.Trees.{size}
use Rattle.tree_model.specs.Columns.{Add, Lay, apply}
use Rattle.mope_base.specs.declared.body.Body.{Body}
use Rattle.code_changes.specs.Columns.{codes_of}
use Rattle.summary.proofs.Turns.{changes_fit_in_turn}
use Rattle.summary.proofs.tests.append_and_rebuild.Goals as goal

pub then-requires : goal.then-requires
unfolding apply
then-requires c =
    let before = c.args.tree.now.column in
    let body : Body = record { nonce = 0; masked = 4 } in
    record {
      in_turn = (
        codes_of before.tree,
        changes_fit_in_turn before c.append.new.tree.column c.rebuild.new.self.column (Add (Gap (size before.tree)) body) (Lay) c.in_ok-earlier.earlier c.in_ok-later.later
            c.in_ok-added.ensures.column c.in_ok-balanced.ensures.column c.append.ensures.was_short c.append.ensures.short c.rebuild.ensures.short
            (c.in_ok-earlier.ensures ∙ c.in_ok-added.ensures.change) (c.in_ok-later.ensures ∙ c.in_ok-balanced.ensures.change false),
      );
    }
