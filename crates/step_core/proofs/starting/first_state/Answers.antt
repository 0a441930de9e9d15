use Rattle.std.proofs.Common.{◌∙◌, ◌≤◌, refl, sym, subst}
use Rattle.std.specs.List.{All}
use Rattle.mope_base.specs.Modes.{is_same_time}
use Rattle.versions.specs.Databases.{first_database}
use Rattle.step_core.proofs.Started.{first-low, narrow-all}
use Rattle.step_core.proofs.starting.first_state.Goals as goal

pub first-requires-clause-widths : goal.first-requires-clause-widths
first-requires-clause-widths c =
    subst (All (λ width. (1 ≤ width) × (width ≤ 8))) (sym (c.as_slice.ensures.value ∙ c.in_ok-widths.ensures)) (narrow-all c.args.tables.now c.requires.narrow)

pub new-requires : goal.new-requires
unfolding first_database
new-requires c = first-low c.in_ok-first.first (first_database c.as_slice.result.now (is_same_time c.args.settings.mode) 65536) c.in_ok-first.ensures refl
