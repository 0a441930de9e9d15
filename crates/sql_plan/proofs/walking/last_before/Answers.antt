use Rattle.std.proofs.Common.{◌≡◌, ◌∙◌, ap, sym, refl, ℕ, ◌+◌, ◌-◌, ◌<◌, List, [], ◌∷◌, length, drop, arith}
use Rattle.std.specs.Option.{option_to_list}
use Rattle.column_index.specs.declared.entry.Entry.{Entry}
use Rattle.sql_plan.specs.Walks.{within}
use Rattle.sql_plan.proofs.Steps.{drop-more, within-found, within-rest}
use Rattle.sql_plan.proofs.walking.last_before.Goals as goal

pub places-init : goal.places-init
places-init c = record { low = c.requires.order; high = omega arith; after = c.requires.after }

pub places-preserved : goal.places-preserved
places-preserved c =
    let es = c.args.index.now.entries in
    let place = c.places.place - 1 in
    let lt : place < length es = omega (arith, c.requires.inside, c.places.invariant.high) in
    let next : place + 1 ≡ c.places.place = omega arith in
    record {
      low = omega arith;
      high = omega (arith, c.places.invariant.high);
      after =
          drop-more c.args.table.now.shelf c.args.bounds.now es place [] lt (sym (ap option_to_list c.in_default.is) ∙ c.entry_within.ensures)
          ∙ ap (λ (n : ℕ). within c.args.table.now.shelf c.args.bounds.now (drop n es)) next ∙ c.places.invariant.after;
    }

pub returns-in-Some : goal.returns-in-Some
returns-in-Some c =
    let es = c.args.index.now.entries in
    let place = c.places.place - 1 in
    let next : place + 1 ≡ c.places.place = omega arith in
    let found = within-found c.args.table.now.shelf c.args.bounds.now _ c.in-Some.entry (sym (ap option_to_list c.in-Some.is) ∙ c.entry_within.ensures) in
    record {
      place = place;
      inside = omega (arith, c.places.invariant.high);
      here = found.0;
      is_in = found.1;
      after = ap (λ (n : ℕ). within c.args.table.now.shelf c.args.bounds.now (drop n es)) next ∙ c.places.invariant.after;
    }

pub returns : goal.returns
returns c =
    let same : c.args.first ≡ c.places.place = omega (arith, c.places.invariant.low) in
    sym (within-rest c.args.table.now.shelf c.args.bounds.now c.args.index.now.entries c.args.first c.requires.before)
    ∙ ap (λ (n : ℕ). within c.args.table.now.shelf c.args.bounds.now (drop n c.args.index.now.entries)) same ∙ c.places.invariant.after
