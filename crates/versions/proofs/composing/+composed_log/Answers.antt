use Rattle.std.proofs.Common.{◌≡◌, ◌<◌, ℕ, ◌-◌, ◌/◌, ◌++◌, List, length, take, drop, get_or, ap, sym, ◌∙◌, subst, arith}
use Rattle.std.proofs.lemmas.List.{take-append-drop, take_rest, length-take}
use Rattle.path_code.specs.Sums.{Sum}
use Rattle.versions.specs.declared.draft.Logged.{Logged}
use Rattle.versions.specs.Summed.{AreInTurn, IsSummed, all_noted, noted}
use Rattle.versions.proofs.Chains.{chain-none, in_turn-first, in_turn-second, fits-halves, whole-halves}
use Rattle.versions.proofs.Notes.{all_noted-append, all_noted-one, all_noted-none}
use Rattle.versions.proofs.Singles.{of_one}
use Rattle.versions.proofs.composing.+composed_log.Goals as goal

half : (log : List Logged) (column k : ℕ) → all_noted (take k log) column ++ all_noted (take (length log - k) (drop k log)) column ≡ all_noted log column
half log column k =
    sym (all_noted-append (take k log) (take (length log - k) (drop k log)) column)
    ∙ ap (λ (l : List Logged). all_noted l column) (ap (λ (rest : List Logged). take k log ++ rest) (take_rest log k) ∙ take-append-drop k log)

-- of one entry
single : (log : List Logged) (entry : Logged) (column : ℕ) → length log ≡ 1 → entry ≡ get_or log 0 entry → all_noted log column ≡ noted entry column
single log entry column h is = ap (λ (l : List Logged). all_noted l column) (of_one log entry h is) ∙ all_noted-one entry column

pub returns-then-log-eq0 : goal.returns-then-log-eq0
returns-then-log-eq0 t c = λ same_time d operations h. c.new.ensures ∙ chain-none same_time d operations (subst (λ (l : List Sum). IsSummed same_time d operations l) (all_noted-none c.args.log.now c.args.column c.if-log-eq0.true) h)

pub composed-requires : goal.composed-requires
composed-requires t c = record { in_turn = rw c.noted.ensures (subst AreInTurn (single c.args.log.now c.index-log-0.result c.args.column c.if-log-eq1.true c.index-log-0.is) c.requires.in_turn) }

pub returns-then-log-eq1 : goal.returns-then-log-eq1
returns-then-log-eq1 t c = λ same_time d operations h.
    c.in_ok-summary.ensures same_time d operations
    (subst (λ (l : List Sum). IsSummed same_time d operations l) (single c.args.log.now c.index-log-0.result c.args.column c.if-log-eq1.true c.index-log-0.is ∙ sym c.noted.ensures) h)

pub composed_log-requires : goal.composed_log-requires
composed_log-requires t c =
    let log = c.args.log.now in
    let k = length log / 2 in
    let lower : length (take k log) < t = omega (arith, c.decreases, length-take k log, c.if-log-eq0.false, c.if-log-eq1.false) in
    (lower, in_turn-first (all_noted (take k log) c.args.column) (all_noted (take (length log - k) (drop k log)) c.args.column) (all_noted log c.args.column) (half log c.args.column k) c.requires.in_turn)

pub composed_log-requires-2 : goal.composed_log-requires-2
composed_log-requires-2 t c =
    let log = c.args.log.now in
    let k = length log / 2 in
    let lower : length (take (length log - k) (drop k log)) < t = omega (arith, c.decreases, length-take (length log - k) (drop k log), c.if-log-eq0.false, c.if-log-eq1.false) in
    (lower, in_turn-second (all_noted (take k log) c.args.column) (all_noted (take (length log - k) (drop k log)) c.args.column) (all_noted log c.args.column) (half log c.args.column k) c.requires.in_turn)

pub then-requires : goal.then-requires
then-requires t c =
    let log = c.args.log.now in
    let k = length log / 2 in
    record { in_turn = fits-halves (all_noted (take k log) c.args.column) (all_noted (take (length log - k) (drop k log)) c.args.column) (all_noted log c.args.column) c.in_ok-earlier.earlier c.in_ok-later.later (half log c.args.column k) c.in_ok-earlier.ensures c.in_ok-later.ensures c.requires.in_turn }

pub returns : goal.returns
returns t c =
    let log = c.args.log.now in
    let k = length log / 2 in
    whole-halves (all_noted (take k log) c.args.column) (all_noted (take (length log - k) (drop k log)) c.args.column) (all_noted log c.args.column) c.in_ok-earlier.earlier c.in_ok-later.later c.in_ok-both.both (half log c.args.column k) c.in_ok-earlier.ensures c.in_ok-later.ensures c.in_ok-both.ensures.both
