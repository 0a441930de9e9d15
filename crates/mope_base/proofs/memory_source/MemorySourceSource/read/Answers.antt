use Rattle.std.proofs.Common.{ap, sym, ◌∙◌, drop}
use Rattle.std.proofs.lemmas.List.{take_rest}
use Rattle.mope_base.specs.InMemory.{SourceState}
use Rattle.mope_base.proofs.StreamLemmas.{left_given, left_none}
use Rattle.mope_base.proofs.memory_source.MemorySourceSource.read.Goals as goal

pub returns-clause-bytes : goal.returns-clause-bytes
returns-clause-bytes c =
    let same = take_rest c.as_slice-2.result.now c.self.inside.place ∙ ap (drop c.self.inside.place) c.as_slice-2.ensures in (
      ap (λ (s : SourceState). s.left) (sym c.self.view_is) ∙ left_given c.self.inside.bytes _ c.args.into.now c.copy_front-count.new.into c.self.inside.place c.self.inside.piece c.copy_front-count.result same c.copy_front-count.ensures.count c.copy_front-count.ensures.copied,
      λ none some. left_none c.self.inside.bytes _ c.args.into.now c.self.inside.place c.self.inside.piece c.copy_front-count.result same c.copy_front-count.ensures.count c.self.invariant.some c.requires none,
    )
