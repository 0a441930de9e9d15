use Rattle.std.proofs.Common.{◌≡◌, ◌==◌, ◌||◌, ◌∙◌, ℕ, Bool, List, map, not, ap, sym, true, false}
use Rattle.server_conn.specs.Checks.{alone_if, columns_named}
use Rattle.server_conn.specs.Inside.{lacks_in}
use Rattle.server_conn.proofs.Judging.{lacks-four, four-1, four-2, four-3, four-4}
use Rattle.server_conn.proofs.checks.lacks_named.Goals as goal

pub returns-then-lacks_cond : goal.returns-then-lacks_cond
unfolding columns_named
returns-then-lacks_cond c =
    let w = c.args.width in
    four-1 _ _ _ _ (sym (c.if-lacks_cond.ensures ∙ ap (λ (cs : List (ℕ × ℕ)). lacks_in w (map (λ (cond : ℕ × ℕ). cond.0) cs)) c.as_slice.ensures)) ∙ sym (lacks-four w _ _ _ _)

pub returns-then-lacks_alone : goal.returns-then-lacks_alone
unfolding columns_named
returns-then-lacks_alone c =
    let w = c.args.width in
    four-2 _ _ _ _ (sym (c.if-lacks_cond.ensures ∙ ap (λ (cs : List (ℕ × ℕ)). lacks_in w (map (λ (cond : ℕ × ℕ). cond.0) cs)) c.as_slice.ensures))
    (sym (c.if-lacks_alone.ensures ∙ ap (λ (b : Bool). lacks_in w (alone_if b c.args.asked.now.target)) c.has_target.ensures)) ∙ sym (lacks-four w _ _ _ _)

pub returns-then-lacks_alone-2 : goal.returns-then-lacks_alone-2
unfolding columns_named
returns-then-lacks_alone-2 c =
    let w = c.args.width in
    four-3 _ _ _ _ (sym (c.if-lacks_cond.ensures ∙ ap (λ (cs : List (ℕ × ℕ)). lacks_in w (map (λ (cond : ℕ × ℕ). cond.0) cs)) c.as_slice.ensures))
    (sym (c.if-lacks_alone.ensures ∙ ap (λ (b : Bool). lacks_in w (alone_if b c.args.asked.now.target)) c.has_target.ensures))
    (sym c.if-lacks_alone-2.ensures) ∙ sym (lacks-four w _ _ _ _)

pub returns : goal.returns
unfolding columns_named
returns c =
    let w = c.args.width in
    c.lacks_listed.ensures ∙ ap (λ (cs : List ℕ). lacks_in w cs) c.as_slice-2.ensures
    ∙ four-4 _ _ _ _ (sym (c.if-lacks_cond.ensures ∙ ap (λ (cs : List (ℕ × ℕ)). lacks_in w (map (λ (cond : ℕ × ℕ). cond.0) cs)) c.as_slice.ensures))
    (sym (c.if-lacks_alone.ensures ∙ ap (λ (b : Bool). lacks_in w (alone_if b c.args.asked.now.target)) c.has_target.ensures))
    (sym c.if-lacks_alone-2.ensures) ∙ sym (lacks-four w _ _ _ _)
