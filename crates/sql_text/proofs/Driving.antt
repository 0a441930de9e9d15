-- The tokens of a line from a place on, one token at a time.
use Rattle.std.proofs.Common.{◌≡◌, ℕ, zero, suc, ◌<◌, ◌≤◌, ◌+◌, ◌-◌, true, false, List, [], ◌∷◌, length, get_or, take, drop, drop-cons, add-one, Some, None, Result, Ok, Err, refl, ap, sym, ◌∙◌, subst, arith}
use Rattle.std.proofs.lemmas.List.{drop-drop, drop_all, length-drop}
use Rattle.std.specs.List.{slice_get}
use Rattle.std.specs.Option.{option_map}
use Rattle.std.specs.Result.{IfOk, MatchResult}
use Rattle.sql_text.specs.Lexing.{Found, Placed, Fault, tokens_from, blank_or_token, first_token, with_first, token_at}
use Rattle.sql_text.specs.Machine.{drive, go_on, step}
use Rattle.sql_text.proofs.Driven.{driven, place_in}
use Rattle.sql_text.specs.Scans.{seen, token_of, tokens_at, fault_of, is_blank_at, IsSeen}
use Rattle.sql_text.specs.Words.{is_blank}
use Rattle.sql_text.specs.declared.parsing.Reason.{Reason}
use Rattle.sql_text.specs.declared.scanning.Scan.{Scan}
use Rattle.sql_text.specs.declared.states.State.{State}
use Rattle.sql_text.specs.declared.tokens.Token.{Token}

-- the bytes that are still those of a token are skipped
skip : (at n : ℕ) (bytes : List ℕ) → n ≤ length bytes → tokens_from at n bytes ≡ tokens_from (at + n) 0 (drop n bytes)
unfolding tokens_from
skip at zero bytes h = let e : at ≡ at + 0 = omega arith in ap (λ a. tokens_from a 0 bytes) e
skip at (suc n) [] h = absurd (omega arith)
skip at (suc n) (b ∷ rest) h =
    let e : (at + 1) + n ≡ at + suc n = omega arith in
    skip (at + 1) n rest (omega arith) ∙ ap (λ a. tokens_from a 0 (drop n rest)) e

pub blank_step : (line : List ℕ) (at : ℕ) → at < length line → is_blank_at line at ≡ true → tokens_at line at ≡ tokens_at line (at + 1)
unfolding tokens_from blank_or_token
blank_step line at h blank =
    let cut : drop at line ≡ get_or line at 0 ∷ drop (suc at) line = drop-cons line at 0 h in
    rw (cut, add-one) (ap (λ b. blank_or_token b at (token_at (get_or line at 0 ∷ drop (suc at) line)) (λ inside. tokens_from (suc at) inside (drop (suc at) line))) blank)

token_sized : (at b : ℕ) (r : List ℕ) (token : Token) (n : ℕ) → is_blank b ≡ false → token_at (b ∷ r) ≡ Ok (record { token = token; size = n }) → 0 < n → n ≤ suc (length r) → tokens_from at 0 (b ∷ r) ≡ with_first (record { at = at; token = token }) (tokens_from (at + n) 0 (drop n (b ∷ r)))
unfolding tokens_from blank_or_token first_token
token_sized at b r token zero blank found some within = absurd (omega arith)
token_sized at b r token (suc m) blank found some within =
    let go : ℕ → Result (List Placed) Fault = λ inside. tokens_from (at + 1) inside r in
    let p : Placed = record { at = at; token = token } in
    let left : suc m - 1 ≡ m = omega arith in
    let place : (at + 1) + m ≡ at + suc m = omega arith in
    ap (λ x. blank_or_token x at (token_at (b ∷ r)) go) blank ∙ ap (λ f. first_token at f go) found ∙ ap (λ k. with_first p (tokens_from (at + 1) k r)) left ∙ ap (λ x. with_first p x) (skip (at + 1) m r (omega arith)) ∙ ap (λ a. with_first p (tokens_from a 0 (drop m r))) place

fault_sized : (at b : ℕ) (r : List ℕ) (reason : Reason) → is_blank b ≡ false → token_at (b ∷ r) ≡ Err reason → tokens_from at 0 (b ∷ r) ≡ Err (record { at = at; reason = reason })
unfolding tokens_from blank_or_token first_token
fault_sized at b r reason blank found =
    let go : ℕ → Result (List Placed) Fault = λ inside. tokens_from (at + 1) inside r in
    ap (λ x. blank_or_token x at (token_at (b ∷ r)) go) blank ∙ ap (λ f. first_token at f go) found

-- what the scanner saw stands at the place
pub seen_step : (line : List ℕ) (at : ℕ) (result : Result Scan Reason) → at < length line → is_blank_at line at ≡ false → seen (drop at line) result ≡ token_at (drop at line) → IfOk result (λ scan. 0 < scan.size) → IfOk result (λ scan. scan.size ≤ length (drop at line)) → MatchResult result (λ scan. IsSeen line at scan) (λ reason. tokens_at line at ≡ Err (record { at = at; reason = reason }))
seen_step line at (Err reason) h blank exact some within =
    let cut : drop at line ≡ get_or line at 0 ∷ drop (suc at) line = drop-cons line at 0 h in
    let there : token_at (get_or line at 0 ∷ drop (suc at) line) ≡ Err reason = subst (λ bytes. token_at bytes ≡ Err reason) cut (sym exact) in
    subst (λ bytes. tokens_from at 0 bytes ≡ Err (record { at = at; reason = reason })) (sym cut) (fault_sized at (get_or line at 0) (drop (suc at) line) reason blank there)
seen_step line at (Ok scan) h blank exact some within =
    let token : Token = token_of scan.kind (take scan.size (drop at line)) in
    let b : ℕ = get_or line at 0 in
    let r : List ℕ = drop (suc at) line in
    let p : Placed = record { at = at; token = token } in
    let cut : drop at line ≡ b ∷ r = drop-cons line at 0 h in
    let there : token_at (b ∷ r) ≡ Ok (record { token = token; size = scan.size }) = subst (λ bytes. token_at bytes ≡ Ok (record { token = token; size = scan.size })) cut (sym exact) in
    let room : scan.size ≤ suc (length r) = subst (λ bytes. scan.size ≤ length bytes) cut within in
    let here : tokens_from at 0 (b ∷ r) ≡ with_first p (tokens_from (at + scan.size) 0 (drop scan.size (b ∷ r))) = token_sized at b r token scan.size blank there some room in
    let back : tokens_from at 0 (drop at line) ≡ with_first p (tokens_from (at + scan.size) 0 (drop scan.size (drop at line))) = subst (λ bytes. tokens_from at 0 bytes ≡ with_first p (tokens_from (at + scan.size) 0 (drop scan.size bytes))) (sym cut) here in
    let fits : scan.size ≤ length (drop at line) = within in
    record {
      some = some;
      within = omega (arith, length-drop at line);
      tokens = back ∙ ap (λ bytes. with_first p (tokens_from (at + scan.size) 0 bytes)) (drop-drop scan.size at line);
    }

-- nothing is left at the line's end
pub none_left : (line : List ℕ) (at : ℕ) → length line ≤ at → tokens_at line at ≡ Ok []
unfolding tokens_from
none_left line at h = ap (λ bytes. tokens_from at 0 bytes) (drop_all at line h)

pub same_fault : (p : Placed) (r : Result (List Placed) Fault) → fault_of (with_first p r) ≡ fault_of r
unfolding with_first
same_fault p (Ok tokens) = refl
same_fault p (Err fault) = refl

-- a token that is taken
pub driven_on : (st : State) (p : Placed) (next : State) (r : Result (List Placed) Fault) → step st p.token ≡ Some next → driven st (with_first p r) ≡ driven next r
unfolding with_first driven drive go_on
driven_on st p next (Ok tokens) e = ap (λ o. Some (go_on p.at o (λ n. drive n tokens))) e
driven_on st p next (Err fault) e = refl

-- a token that isn't taken
pub driven_wrong : (begun st : State) (tokens : List Placed) (p : Placed) (r : Result (List Placed) Fault) → driven begun (Ok tokens) ≡ driven st (with_first p r) → step st p.token ≡ None → Err p.at ≡ drive begun tokens
unfolding with_first driven drive go_on
driven_wrong begun st tokens p (Ok rest) same e =
    let end : drive st (p ∷ rest) ≡ Err p.at = ap (λ o. go_on p.at o (λ n. drive n rest)) e in
    let both : Some (drive begun tokens) ≡ Some (drive st (p ∷ rest)) = same in
    let equal : drive begun tokens ≡ drive st (p ∷ rest) = cc in
    sym (equal ∙ end)
driven_wrong begun st tokens p (Err fault) same e = absurd (let no : ⊥ = cc in no)

pub driven_fault : (P : Type 0) (begun st : State) (tokens : List Placed) (fault : Fault) → driven begun (Ok tokens) ≡ driven st (Err fault) → P
unfolding driven
driven_fault P begun st tokens fault same = absurd (let no : ⊥ = cc in no)

pub driven_end : (begun st : State) (tokens : List Placed) → driven begun (Ok tokens) ≡ driven st (Ok []) → Ok st ≡ drive begun tokens
unfolding driven drive
driven_end begun st tokens same =
    let both : Some (drive begun tokens) ≡ Some (Ok st) = same in
    let equal : drive begun tokens ≡ Ok st = cc in
    sym equal

-- the number of a token is one less behind the first
pub place_later : (n : ℕ) (p : Placed) (r : Result (List Placed) Fault) → 0 < n → place_in n (with_first p r) ≡ place_in (n - 1) r
unfolding with_first place_in
place_later zero p r h = absurd (omega arith)
place_later (suc n) p (Ok tokens) h = let e : suc n - 1 ≡ n = omega arith in ap (λ k. option_map (λ q. q.at) (slice_get tokens k)) (sym e)
place_later (suc n) p (Err fault) h = refl

place_with : (a at : ℕ) (token : Token) (r : Result (List Placed) Fault) → Some a ≡ place_in 0 (with_first (record { at = at; token = token }) r) → at ≡ a
unfolding with_first place_in
place_with a at token (Err fault) e = absurd (let no : ⊥ = cc in no)
place_with a at token (Ok tokens) e = let both : Some a ≡ Some at = e in cc

place_first : (a at : ℕ) (f : Result Found Reason) (others : ℕ → Result (List Placed) Fault) → Some a ≡ place_in 0 (first_token at f others) → at ≡ a
unfolding with_first place_in first_token
place_first a at (Err reason) others e = absurd (let no : ⊥ = cc in no)
place_first a at (Ok found) others e = place_with a at found.token (others (found.size - 1)) e

-- where the token is the first one left, it stands at the place
pub place_here : (line : List ℕ) (at a : ℕ) → at < length line → is_blank_at line at ≡ false → Some a ≡ place_in 0 (tokens_at line at) → at ≡ a
unfolding tokens_from blank_or_token
place_here line at a h blank e =
    let b : ℕ = get_or line at 0 in
    let r : List ℕ = drop (suc at) line in
    let go : ℕ → Result (List Placed) Fault = λ inside. tokens_from (at + 1) inside r in
    let cut : drop at line ≡ b ∷ r = drop-cons line at 0 h in
    let there : tokens_at line at ≡ first_token at (token_at (b ∷ r)) go = ap (λ bytes. tokens_from at 0 bytes) cut ∙ ap (λ x. blank_or_token x at (token_at (b ∷ r)) go) blank in
    place_first a at (token_at (b ∷ r)) go (e ∙ ap (λ x. place_in 0 x) there)

pub place_fault : (P : Type 0) (a n : ℕ) (fault : Fault) → Some a ≡ place_in n (Err fault) → P
unfolding place_in
place_fault P a n fault e = absurd (let no : ⊥ = cc in no)

pub place_none : (P : Type 0) (a n : ℕ) → Some a ≡ place_in n (Ok []) → P
unfolding place_in
place_none P a n e = absurd (let no : ⊥ = cc in no)

pub place_some : (tokens : List Placed) (n : ℕ) (p : Placed) → slice_get tokens n ≡ Some p → place_in n (Ok tokens) ≡ Some p.at
unfolding place_in
place_some tokens n p e = ap (λ o. option_map (λ q. q.at) o) e

pub wrong_here : (st : State) (p : Placed) (tokens : List Placed) (r : Result (List Placed) Fault) → with_first p r ≡ Ok tokens → step st p.token ≡ None → drive st tokens ≡ Err p.at
unfolding with_first drive go_on
wrong_here st p tokens (Ok rest) same e =
    let both : with_first p (Ok rest) ≡ Ok tokens = same in
    let equal : p ∷ rest ≡ tokens = cc in
    subst (λ t. drive st t ≡ Err p.at) equal (ap (λ o. go_on p.at o (λ n. drive n rest)) e)
wrong_here st p tokens (Err fault) same e = absurd (let no : ⊥ = cc in no)

pub never_both : (P : Type 0) (r : Result (List Placed) Fault) (fault : Fault) (tokens : List Placed) → r ≡ Err fault → r ≡ Ok tokens → P
never_both P r fault tokens e f = absurd (let no : ⊥ = cc in no)
