use Rattle.std.proofs.Common.{◌≡◌, ◌∙◌, ap, sym, refl, []}
use Rattle.std.proofs.lemmas.List.{nil_from_length}
use Rattle.plain_db.specs.TakingBack.{all_undone}
use Rattle.plain_db.proofs.TakingBackLemmas.{undone-push}
use Rattle.plain_db.proofs.taking_back.take_back.Goals as goal

pub undos-init : goal.undos-init
undos-init c = refl

pub undos-preserved : goal.undos-preserved
undos-preserved c =
    ap (λ db. all_undone c.pop.new.self.items db) c.in_ok-take_one_back.ensures
    ∙ sym (undone-push c.pop.new.self.items c.in-Some.undo c.undos.db)
    ∙ ap (λ l. all_undone l c.undos.db) (sym c.in-Some.ensures.items)
    ∙ c.undos.invariant

pub returns : goal.returns
unfolding all_undone
returns c =
    let none : c.undos.left.items ≡ [] = nil_from_length c.undos.left.items (sym c.undos.left.ok.0 ∙ c.in_default.ensures.cases.0) in
    ap (λ l. all_undone l c.undos.db) (sym none) ∙ c.undos.invariant
