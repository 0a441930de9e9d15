use Rattle.std.proofs.Common.{length, ap, ◌∙◌, sym, arith, inl, inr}
use Rattle.std.proofs.lemmas.Bool.{cases_lt, false≢true}
use Rattle.enc_table.specs.Seen.{Seen, no_stamps}
use Rattle.versions.specs.Databases.{table_at}
use Rattle.txn_core.proofs.Later.{stamp-outside}
use Rattle.txn_core.proofs.newer.stamps_of.Goals as goal

pub returns-in-Some-clause-stamps : goal.returns-in-Some-clause-stamps
unfolding table_at
returns-in-Some-clause-stamps c = c.stamps.ensures ∙ ap (λ (t : Seen). t.stamps) c.in-Some.ensures.value

pub returns-in-None-clause-stamps : goal.returns-in-None-clause-stamps
unfolding no_stamps
returns-in-None-clause-stamps c =
    sym (elim (cases_lt c.args.table.0 (length c.args.version.now.shelves)) [
      | inl inside ↦ absurd (false≢true (c.in-None.ensures.there.1 inside))
      | inr outside ↦ stamp-outside c.args.version.now.stamps c.args.table.0 (omega (arith, outside, c.in-None.ensures.database.stamped))
    ])
