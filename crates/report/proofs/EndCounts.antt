-- How many transactions of a list ended so, counted one after another.
use Rattle.std.proofs.Common.{◌≡◌, refl, sym, ◌∙◌, ap, ℕ, ◌+◌, ◌<◌, ◌≤◌, Bool, true, false, List, [], ◌∷◌, length, get_or, drop, arith}
use Rattle.std.proofs.lemmas.List.{drop_more, drop_all}
use Rattle.std.specs.Str.{bytes_eq}
use Rattle.workload.specs.declared.script.DoneTxn.{DoneTxn}
use Rattle.report.specs.SummaryText.{end_name, ended_so, one_if}
use mir.Val.{bool_byte}

pub byte_is : (b : Bool) → bool_byte b ≡ one_if b
unfolding one_if
byte_is true = refl
byte_is false = refl

pub byte_few : (b : Bool) → bool_byte b ≤ 1
byte_few true = omega arith
byte_few false = omega arith

first_ended : (name : List ℕ) (t : DoneTxn) (txns : List DoneTxn) → ended_so name (t ∷ txns) ≡ one_if (bytes_eq (end_name t.end) name) + ended_so name txns
unfolding ended_so
first_ended name t txns = refl

added : (count more rest all whole : ℕ) → all ≡ more + rest → count + all ≡ whole → count + more + rest ≡ whole
added count more rest all whole e so_far = omega (arith, e, so_far)

-- those counted so far and those that are left make the whole
pub more_ended : (name : List ℕ) (txns : List DoneTxn) (i count more whole : ℕ) (t : DoneTxn) → i < length txns → t ≡ get_or txns i t → more ≡ one_if (bytes_eq (end_name t.end) name)
    → count + ended_so name (drop i txns) ≡ whole → count + more + ended_so name (drop (i + 1) txns) ≡ whole
more_ended name txns i count more whole t h at e so_far =
    let rest : List DoneTxn = drop (i + 1) txns in
    let split : drop i txns ≡ t ∷ rest = drop_more txns i t h ∙ ap (λ (x : DoneTxn). x ∷ rest) (sym at) in
    let all : ended_so name (drop i txns) ≡ more + ended_so name rest =
    ap (λ (ts : List DoneTxn). ended_so name ts) split ∙ first_ended name t rest ∙ ap (λ n. n + ended_so name rest) (sym e) in
    added count more (ended_so name rest) (ended_so name (drop i txns)) whole all so_far

none_ended : (name : List ℕ) → ended_so name [] ≡ 0
unfolding ended_so
none_ended name = refl

pub all_ended : (name : List ℕ) (txns : List DoneTxn) (i count whole : ℕ) → length txns ≤ i → count + ended_so name (drop i txns) ≡ whole → count ≡ whole
all_ended name txns i count whole h so_far =
    let none : ended_so name (drop i txns) ≡ 0 = ap (λ (ts : List DoneTxn). ended_so name ts) (drop_all i txns h) ∙ none_ended name in
    omega (arith, none, so_far)
