use Rattle.std.proofs.Common.{◌≡◌, ℕ, List, [], ◌∷◌, ◌++◌, length, ap, ◌∙◌, sym, subst, arith, length-append}
use Rattle.cow_pages.specs.Lists.{flat, Below}
use Rattle.cow_pages.proofs.PartLists.{IfOk-map, flat-two, low-two}
use Rattle.cow_pages.proofs.rooted.over_two.Goals as goal

pub inner-requires-clause-low : goal.inner-requires-clause-low
inner-requires-clause-low g c =
    let links : c.push-2.new.self.items ≡ c.args.link ∷ c.args.next ∷ [] =
    c.in_ok-push-2.ensures.items ∙ ap (λ (zs : List _). zs ++ c.args.next ∷ []) (c.in_ok-push.ensures.items ∙ ap (λ (zs : List _). zs ++ c.args.link ∷ []) c.in_ok-links.ensures.items) in
    subst (Below c.in-Some.height) (sym links) (low-two c.in-Some.height c.args.link c.args.next (omega arith) (omega arith))

pub inner-requires-clause-short : goal.inner-requires-clause-short
inner-requires-clause-short g c =
    let links : c.push-2.new.self.items ≡ c.args.link ∷ c.args.next ∷ [] =
    c.in_ok-push-2.ensures.items ∙ ap (λ (zs : List _). zs ++ c.args.next ∷ []) (c.in_ok-push.ensures.items ∙ ap (λ (zs : List _). zs ++ c.args.link ∷ []) c.in_ok-links.ensures.items) in
    omega (arith, c.requires, ap (λ (zs : List _). length (flat zs)) links, ap length (flat-two c.args.link c.args.next), length-append c.args.link.1 c.args.next.1)

pub returns : goal.returns
returns g c =
    let links : c.push-2.new.self.items ≡ c.args.link ∷ c.args.next ∷ [] =
    c.in_ok-push-2.ensures.items ∙ ap (λ (zs : List _). zs ++ c.args.next ∷ []) (c.in_ok-push.ensures.items ∙ ap (λ (zs : List _). zs ++ c.args.link ∷ []) c.in_ok-links.ensures.items) in
    IfOk-map c.inner.result (λ root is. ap (λ (v : ℕ × List _). v.1) is ∙ ap flat links ∙ flat-two c.args.link c.args.next) c.inner.ensures
