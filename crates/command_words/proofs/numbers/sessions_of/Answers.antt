use Rattle.std.proofs.Common.{◌+◌, ◌<◌, ℕ, [], sym, subst, map, length, arith}
use Rattle.std.proofs.lemmas.List.{get_or-map, length-map}
use Rattle.command_words.specs.Orders.{AreSessions, SpellsNumber}
use Rattle.command_words.proofs.NumberLemmas.{IsReading, reading-start, reading-more, reading-stops, reading-ends}
use Rattle.command_words.proofs.numbers.sessions_of.Goals as goal

pub texts-init : goal.texts-init
texts-init c = reading-start (map (λ text. text.now) c.args.texts.now) c.new-sessions.result.items c.new-sessions.ensures.items

pub texts-preserved : goal.texts-preserved
texts-preserved c =
    let texts = map (λ text. text.now) c.args.texts.now in
    let within : c.texts.i < length texts = omega (arith, c.texts-test.true, length-map c.args.texts.now (λ text. text.now)) in
    let spells = subst (λ digits. SpellsNumber 1 64 digits c.in-Some.number) (sym (get_or-map (λ text. text.now) c.args.texts.now c.texts.i _ [] c.texts-test.true)) c.in-Some.ensures in
    subst (IsReading texts (c.texts.i + 1)) (sym c.in_ok-push.ensures.items)
    (reading-more texts c.texts.i [] c.texts.sessions.items _ c.texts.invariant within spells)

pub returns-in_default : goal.returns-in_default
returns-in_default c =
    let texts = map (λ text. text.now) c.args.texts.now in
    reading-stops texts c.texts.i [] c.texts.sessions.items c.texts.invariant (omega (arith, c.texts-test.true, length-map c.args.texts.now (λ text. text.now)))
    (subst (λ digits. (n : ℕ) → ¬ SpellsNumber 1 64 digits n) (sym (get_or-map (λ text. text.now) c.args.texts.now c.texts.i _ [] c.texts-test.true)) c.in_default.ensures)

pub returns : goal.returns
returns c =
    let texts = map (λ text. text.now) c.args.texts.now in
    subst (AreSessions texts) (sym c.from_vec.ensures)
    (reading-ends texts c.texts.i c.texts.sessions.items c.texts.invariant (omega (arith, c.texts-test.false, length-map c.args.texts.now (λ text. text.now))))
