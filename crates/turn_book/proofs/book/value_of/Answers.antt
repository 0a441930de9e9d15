use Rattle.std.proofs.Common.{◌≡◌, false, arith, ap, ◌∙◌, slice_index_or, slice_set, get_or-set_same}
use Rattle.turn_book.proofs.book.value_of.Goals as goal

pub take-requires : goal.take-requires
take-requires g c = let one : c.args.closed.slots.len ≡ 1 = c.requires.one in (omega arith, c.requires.full 0 (omega arith))

pub unreachable-requires : goal.unreachable-requires
unreachable-requires g c = cc (c.requires.there.1, c.take.ensures.value)

pub free-requires : goal.free-requires
free-requires g c = λ k less. let one : c.args.closed.slots.len ≡ 1 = c.requires.one in let same = c.take.ensures.others.2 in let first : k ≡ 0 = omega (arith, less, same) in
    let count = c.args.closed.slots.ok.1 in
    ap (λ l. slice_index_or l k false) c.take.ensures.others.1 ∙ (ap (λ z. slice_index_or (slice_set c.args.closed.slots.filled 0 false) z false) first ∙ get_or-set_same c.args.closed.slots.filled 0 false false (omega arith))
