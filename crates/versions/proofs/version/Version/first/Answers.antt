use Rattle.std.proofs.Common.{◌∙◌, ap}
use Rattle.mope_base.specs.Modes.{is_same_time}
use Rattle.versions.specs.Databases.{database_of}
use Rattle.versions.proofs.Firsts.{first_inside, first-is}
use Rattle.versions.proofs.version.Version.first.Goals as goal

pub invariant_of-result : goal.invariant_of-result
invariant_of-result c = rw c.in_ok-tables.ensures (first_inside (is_same_time c.args.mode) c.args.limit c.args.columns.now c.requires.few c.requires.low c.requires.widths)

pub returns : goal.returns
returns c = ap (λ tables. database_of 0 (is_same_time c.args.mode) c.args.limit tables) c.in_ok-tables.ensures ∙ first-is (is_same_time c.args.mode) c.args.limit c.args.columns.now
