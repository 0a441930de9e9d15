use Rattle.std.proofs.Common.{rules, refl}
use Rattle.turn_book.specs.Passes.{known_by, passes_in}
use Rattle.turn_book.proofs.Covering.{covers_at, covers_both, covered_all}
use Rattle.turn_book.proofs.tests.by_eight.Goals as goal

pub close-requires-clause-all : goal.close-requires-clause-all
close-requires-clause-all g c = let root = known_by c.add.new.pass in
    let one = covers_both root (known_by c.leaf-one.result) (known_by c.join.new.into) 0 1 1 2 2 refl refl c.join.ensures.same.0 c.join.ensures.ended (covers_at root 0 (search rules)) c.leaf-one.ensures.covers in
    let two = covers_both (known_by c.join.new.into) (known_by c.two_leaves-two.result) (known_by c.join-2.new.into) 0 2 2 4 4 refl refl c.join-2.ensures.same.0 c.join-2.ensures.ended one c.two_leaves-two.ensures.covers in
    let four = covers_both (known_by c.join-2.new.into) (known_by c.four_leaves-four.result) (known_by c.join-3.new.into) 0 4 4 8 8 refl refl c.join-3.ensures.same.0 c.join-3.ensures.ended two c.four_leaves-four.ensures.covers in
    covered_all (passes_in c.in_ok-book.book) 8 (known_by c.join-3.new.into) (search rules) four
