use Rattle.std.proofs.Common.{◌∙◌}
use Rattle.mope_base.specs.declared.body.Body.{Body}
use Rattle.tree_model.specs.Items.{Item}
use Rattle.path_code.specs.Ways.{way}
use Rattle.ope_tree.specs.Nodes.{tree_of}
use Rattle.ope_tree.proofs.Tidying.{IsTold, told_is, told_normal}
use Rattle.ope_tree.proofs.removing.take_out.Goals as goal

pub of-requires : goal.of-requires
of-requires c =
    let t = tree_of c.args.nodes.now c.args.shape.root in
    let told : IsTold (Item Body) t c.args.rank c.in_ok-moved.moved.items c.push.new.self.items c.new.result.items = record {
      root = way c.root.result;
      top = c.root.ensures.empty;
      pairs = c.in_ok-moved.ensures;
      empty = c.new-dropped.result.items;
      nothing = c.new-dropped.ensures.items;
      code = c.code.result;
      one = c.in_ok-push.ensures.items;
      way = way c.path_to-path.result;
      spells = c.code.ensures.spells;
      start = way c.root-2.result;
      above = c.root-2.ensures.empty;
      leads = c.path_to-path.ensures;
      none = c.new.ensures.items;
    } in
    told_normal t c.args.rank c.in_ok-moved.moved.items c.push.new.self.items c.new.result.items c.requires.short c.requires.is_rank told

pub returns-clause-change : goal.returns-clause-change
returns-clause-change c =
    let t = tree_of c.args.nodes.now c.args.shape.root in
    let told : IsTold (Item Body) t c.args.rank c.in_ok-moved.moved.items c.push.new.self.items c.new.result.items = record {
      root = way c.root.result;
      top = c.root.ensures.empty;
      pairs = c.in_ok-moved.ensures;
      empty = c.new-dropped.result.items;
      nothing = c.new-dropped.ensures.items;
      code = c.code.result;
      one = c.in_ok-push.ensures.items;
      way = way c.path_to-path.result;
      spells = c.code.ensures.spells;
      start = way c.root-2.result;
      above = c.root-2.ensures.empty;
      leads = c.path_to-path.ensures;
      none = c.new.ensures.items;
    } in
    c.of.ensures ∙ told_is t c.args.rank c.in_ok-moved.moved.items c.push.new.self.items c.new.result.items told
