use Rattle.std.proofs.Common.{rules, ◌∷◌, [], sym, subst, Some}
use Rattle.atomic_table.specs.Table.{opening}
use Rattle.turn_book.specs.Protocol.{Kept, first_view}
use Rattle.turn_book.proofs.Ends.{opens}
use Rattle.turn_book.proofs.pass.Book.start.Goals as goal

pub new-requires : goal.new-requires
new-requires g c = let h = g.T.History in
    subst (λ xs. Kept h.items h.origin h.number c.args.passes (opening (0 ∷ 0 ∷ 0 ∷ []) xs (first_view (h.origin c.of.result.value) c.args.passes))) (sym c.in_ok-slots.ensures)
    (subst (λ y. Kept h.items h.origin h.number c.args.passes (opening (0 ∷ 0 ∷ 0 ∷ []) (Some c.args.value ∷ []) (first_view (h.origin y) c.args.passes))) (sym c.of.ensures)
    (opens h.items h.origin h.number c.args.passes c.args.value c.requires.some (search rules) c.requires.empty))
