-- A run before its first exchange: over plain values.
use Rattle.std.proofs.Common.{◌≡◌, ◌∙◌, ◌++◌, ◌+◌, ◌<◌, ◌≤◌, ℕ, zero, suc, List, [], ◌∷◌, map, take, length, get_or, refl, sym, ap, subst, arith}
use Rattle.std.specs.List.{All}
use Rattle.std.proofs.lemmas.List.{length-take-le, length-append, map-append, take_more}
use Rattle.std.proofs.lemmas.List.Elements.{All-nil, All-cons}
use Rattle.mope_base.specs.Lists.{Each}
use Rattle.mope_base.specs.declared.numbers.SessionNo.{SessionNo}
use Rattle.workload.specs.declared.script.Decl.{Decl}
use Rattle.workload.specs.declared.script.Piece.{Piece}
use Rattle.proxy.specs.declared.outcomes.Settings.{Settings}
use Rattle.proxy.specs.Party.{Party}
use Rattle.server_conn.specs.Connections.{idle}
use Rattle.server_conn.specs.Handling.{Seen, running}
use Rattle.versions.specs.Databases.{Database}
use Rattle.step_core.specs.Cores.{Sitting}
use Rattle.step_core.specs.Inside.{AreNumbered, IsSaid, sitting_of}
use Rattle.step_core.specs.Sittings.{IsNarrow, first_sitting, first_sittings}
use Rattle.step_core.specs.declared.seat.Seat.{Seat}

pub each-at : {A : Type 0} (P : A → Type 0) (xs : List A) (i : ℕ) (d : A) → Each P xs → i < length xs → P (get_or xs i d)
unfolding Each
each-at P [] i d all within = absurd (omega (arith, within))
each-at P (x ∷ xs) zero d all within = all.0
each-at P (x ∷ xs) (suc i) d all within = each-at P xs i d all.1 (omega (arith, within))

-- ---- the first version

pub narrow-all : (tables : List Decl) → Each IsNarrow tables → All (λ width. (1 ≤ width) × (width ≤ 8)) (map (λ (d : Decl). length d.columns) tables)
unfolding Each
narrow-all [] all = All-nil (λ width. (1 ≤ width) × (width ≤ 8))
narrow-all (d ∷ tables) all = All-cons (λ width. (1 ≤ width) × (width ≤ 8)) (length d.columns) (map (λ (d : Decl). length d.columns) tables) all.0 (narrow-all tables all.1)

pub first-low : (d first : Database) → d ≡ first → first.number ≡ 0 → d.number ≤ 1
first-low d first is zeroth =
    let number : d.number ≡ 0 = ap (λ (x : Database). x.number) is ∙ zeroth in
    omega (arith, number)

-- ---- the seats

numbered-more : (number : ℕ) (seats : List Seat) (seat : Seat) → AreNumbered number seats → seat.session.0 ≡ number + length seats → IsSaid seat → AreNumbered number (seats ++ seat ∷ [])
unfolding AreNumbered
numbered-more number [] seat numbered is says =
    let here : seat.session.0 ≡ number = omega (arith, is) in
    (here, says, tt)
numbered-more number (x ∷ seats) seat numbered is says =
    let later : seat.session.0 ≡ suc number + length seats = omega (arith, is) in
    (numbered.0, numbered.1, numbered-more (suc number) seats seat numbered.2 later says)

sittings-more : (settings : Settings) (number : ℕ) (scripts : List (List Piece)) (script : List Piece) (n : SessionNo) → n.0 ≡ number + length scripts
    → first_sittings settings number (scripts ++ script ∷ []) ≡ first_sittings settings number scripts ++ first_sitting settings n script ∷ []
unfolding first_sittings
sittings-more settings number [] script n is =
    let here : number ≡ n.0 = omega (arith, is) in
    ap (λ (k : ℕ). let o : List Sitting = first_sitting settings (record { 0 = k }) script ∷ [] in o) here
sittings-more settings number (other ∷ scripts) script n is =
    let later : n.0 ≡ suc number + length scripts = omega (arith, is) in
    ap (λ (l : List Sitting). first_sitting settings (record { 0 = number }) other ∷ l) (sittings-more settings (suc number) scripts script n later)

pub seats-more : (settings : Settings) (scripts : List (List Piece)) (i : ℕ) (script slice : List Piece) (seats : List Seat) (seat : Seat) (n : SessionNo) → i < length scripts → script ≡ get_or scripts i script → slice ≡ script
    → n.0 ≡ i + 1 → map sitting_of seats ≡ first_sittings settings 1 (take i scripts) → sitting_of seat ≡ first_sitting settings n slice
    → map sitting_of (seats ++ seat ∷ []) ≡ first_sittings settings 1 (take (i + 1) scripts)
seats-more settings scripts i script slice seats seat n within at is number before sits =
    let within-take : i ≤ length scripts = omega (arith, within) in
    let long : length (take i scripts) ≡ i = length-take-le i scripts within-take in
    let place : n.0 ≡ 1 + length (take i scripts) = omega (arith, long, number) in
    map-append sitting_of seats (seat ∷ [])
    ∙ ap (λ (l : List Sitting). l ++ sitting_of seat ∷ []) before
    ∙ ap (λ (x : Sitting). first_sittings settings 1 (take i scripts) ++ x ∷ []) (sits ∙ ap (λ (l : List Piece). first_sitting settings n l) is)
    ∙ sym (sittings-more settings 1 (take i scripts) script n place)
    ∙ ap (λ (l : List Piece). first_sittings settings 1 (take i scripts ++ l ∷ [])) at
    ∙ ap (λ (l : List (List Piece)). first_sittings settings 1 l) (sym (take_more scripts i script within))

pub seats-numbered : (i : ℕ) (seats : List Seat) (seat : Seat) (n : SessionNo) → AreNumbered 1 seats → length seats ≡ i → seat.session ≡ n → n.0 ≡ i + 1 → IsSaid seat → AreNumbered 1 (seats ++ seat ∷ [])
seats-numbered i seats seat n numbered long same number says =
    let is : seat.session.0 ≡ n.0 = ap (λ (x : SessionNo). x.0) same in
    let place : seat.session.0 ≡ 1 + length seats = omega (arith, is, number, long) in
    numbered-more 1 seats seat numbered place says

pub one-longer : (i : ℕ) (seats : List Seat) (seat : Seat) → length seats ≡ i → length (seats ++ seat ∷ []) ≡ i + 1
one-longer i seats seat long = length-append seats (seat ∷ []) ∙ ap (λ (k : ℕ). k + 1) long

pub as-sitting : (party other : Party) (conn : Seen) → party ≡ other → conn ≡ running idle → ◌≡◌ {A = Sitting} (record { party = party; conn = conn }) (record { party = other; conn = running idle })
as-sitting party other conn same is =
    ap (λ (p : Party). let x : Sitting = record { party = p; conn = conn } in x) same
    ∙ ap (λ (s : Seen). let x : Sitting = record { party = other; conn = s } in x) is

pub nothing-yet : (settings : Settings) (seats : List Seat) → seats ≡ [] → (map sitting_of seats ≡ first_sittings settings 1 []) × AreNumbered 1 seats × (length seats ≡ 0)
unfolding first_sittings AreNumbered
nothing-yet settings seats is =
    subst (λ (l : List Seat). (map sitting_of l ≡ first_sittings settings 1 []) × AreNumbered 1 l × (length l ≡ 0)) (sym is) (refl, tt, refl)
