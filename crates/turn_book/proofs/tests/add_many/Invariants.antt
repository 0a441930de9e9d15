use Rattle.std.proofs.Common.{◌≡◌, ◌-◌, false}
use Rattle.turn_book.specs.Passes.{IsPassOf, IsSamePass, known_by, holds_value}
use Rattle.turn_book.proofs.tests.add_many.Given as goal

abbrev pub decreases-adding : goal.decreases-adding
decreases-adding g l = l.count - l.place

abbrev pub invariant-adding : goal.invariant-adding
invariant-adding g l = IsPassOf l.book l.pass × (holds_value l.pass ≡ false) × IsSamePass (known_by l.initial.pass) (known_by l.pass)
