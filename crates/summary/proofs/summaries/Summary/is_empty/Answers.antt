use Rattle.std.proofs.Common.{◌≡◌, ℕ, true, false, ◌==◌, List, length, ap, sym, ◌∙◌}
use Rattle.path_code.specs.declared.moves.Recode.{Recode}
use Rattle.summary.proofs.Emptiness.{first_full, second_full, third_told, three_empty}
use Rattle.summary.proofs.summaries.Summary.is_empty.Goals as goal
use Rattle.summary.proofs.summaries.Summary.is_empty.Goals.{then-is_empty, else-is_empty}

pub returns-then-is_empty-2 : goal.returns-then-is_empty-2
returns-then-is_empty-2 c =
    let s = c.args.self.now in
    let third = c.is_empty-then-is_empty-2.ensures ∙ ap (λ (xs : List ℕ). length xs == 0) c.added.ensures.value in
    elim c.if-is_empty.branch [
      | then-is_empty w ↦
          let first : (length s.moved == 0) ≡ true = ap (λ (xs : List Recode). length xs == 0) (sym c.moved.ensures.value) ∙ sym c.is_empty.ensures ∙ w.if-is_empty.true in
          let second : (length s.dropped == 0) ≡ true =
          ap (λ (xs : List ℕ). length xs == 0) (sym w.dropped.ensures.value) ∙ sym w.is_empty-then-is_empty.ensures ∙ sym w.value-is ∙ c.if-is_empty-2.true in
          ((λ yes_. three_empty s first second (sym third ∙ yes_)), (λ e. third ∙ third_told s e))
      | else-is_empty w ↦ absurd (let e : false ≡ true = sym (w.value-is ∙ w.if-is_empty.false) ∙ c.if-is_empty-2.true in cc)
    ]

pub returns-else-is_empty-2 : goal.returns-else-is_empty-2
returns-else-is_empty-2 c =
    let s = c.args.self.now in
    let no_ = c.if-is_empty-2.false in
    elim c.if-is_empty.branch [
      | then-is_empty w ↦
          let second : (length s.dropped == 0) ≡ false =
          ap (λ (xs : List ℕ). length xs == 0) (sym w.dropped.ensures.value) ∙ sym w.is_empty-then-is_empty.ensures ∙ sym w.value-is ∙ no_ in
          ((λ yes_. absurd (let e : false ≡ true = sym no_ ∙ yes_ in cc)), (λ e. no_ ∙ second_full s second e))
      | else-is_empty w ↦
          let first : (length s.moved == 0) ≡ false = ap (λ (xs : List Recode). length xs == 0) (sym c.moved.ensures.value) ∙ sym c.is_empty.ensures ∙ w.if-is_empty.false in
          ((λ yes_. absurd (let e : false ≡ true = sym no_ ∙ yes_ in cc)), (λ e. no_ ∙ first_full s first e))
    ]
