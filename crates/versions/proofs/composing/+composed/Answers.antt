use Rattle.std.proofs.Common.{◌≡◌, ◌<◌, ℕ, ◌-◌, ◌/◌, ◌++◌, List, length, take, drop, ap, ◌∙◌, subst, arith}
use Rattle.std.proofs.lemmas.List.{take-append-drop, take_rest, length-take}
use Rattle.path_code.specs.Sums.{Sum}
use Rattle.versions.specs.Summed.{IsSummed}
use Rattle.versions.proofs.Chains.{chain-none, chain-one, in_turn-first, in_turn-second, fits-halves, whole-halves}
use Rattle.versions.proofs.Singles.{of_none, of_one}
use Rattle.versions.proofs.composing.+composed.Goals as goal

half : (xs : List Sum) (k : ℕ) → take k xs ++ take (length xs - k) (drop k xs) ≡ xs
half xs k = ap (λ (rest : List Sum). take k xs ++ rest) (take_rest xs k) ∙ take-append-drop k xs

pub returns-then-changes-eq0 : goal.returns-then-changes-eq0
returns-then-changes-eq0 t c = λ same_time d operations h. c.new.ensures ∙ chain-none same_time d operations (subst (λ (l : List Sum). IsSummed same_time d operations l) (of_none c.args.changes.now c.if-changes-eq0.true) h)

pub returns-then-changes-eq1 : goal.returns-then-changes-eq1
returns-then-changes-eq1 t c = λ same_time d operations h. c.in_ok-summary.ensures ∙ chain-one same_time d operations c.index-changes-0.result (subst (λ (l : List Sum). IsSummed same_time d operations l) (of_one c.args.changes.now c.index-changes-0.result c.if-changes-eq1.true c.index-changes-0.is) h)

pub composed-requires : goal.composed-requires
composed-requires t c =
    let xs = c.args.changes.now in
    let k = length xs / 2 in
    let lower : length (take k xs) < t = omega (arith, c.decreases, length-take k xs, c.if-changes-eq0.false, c.if-changes-eq1.false) in
    (lower, in_turn-first (take k xs) (take (length xs - k) (drop k xs)) xs (half xs k) c.requires.in_turn)

pub composed-requires-2 : goal.composed-requires-2
composed-requires-2 t c =
    let xs = c.args.changes.now in
    let k = length xs / 2 in
    let lower : length (take (length xs - k) (drop k xs)) < t = omega (arith, c.decreases, length-take (length xs - k) (drop k xs), c.if-changes-eq0.false, c.if-changes-eq1.false) in
    (lower, in_turn-second (take k xs) (take (length xs - k) (drop k xs)) xs (half xs k) c.requires.in_turn)

pub then-requires : goal.then-requires
then-requires t c =
    let xs = c.args.changes.now in
    let k = length xs / 2 in
    record { in_turn = fits-halves (take k xs) (take (length xs - k) (drop k xs)) xs c.in_ok-earlier.earlier c.in_ok-later.later (half xs k) c.in_ok-earlier.ensures c.in_ok-later.ensures c.requires.in_turn }

pub returns : goal.returns
returns t c =
    let xs = c.args.changes.now in
    let k = length xs / 2 in
    whole-halves (take k xs) (take (length xs - k) (drop k xs)) xs c.in_ok-earlier.earlier c.in_ok-later.later c.in_ok-both.both (half xs k) c.in_ok-earlier.ensures c.in_ok-later.ensures c.in_ok-both.ensures.both
