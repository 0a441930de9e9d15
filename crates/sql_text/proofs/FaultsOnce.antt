-- A line has one fault at most, and one that has it gives no statement: the fault is computed from the line.
use Rattle.std.proofs.Common.{◌≡◌, ◌⊎◌, ℕ, List, [], ◌∷◌, ◌++◌, length, Option, Some, None, Result, Ok, Err, refl, ap, sym, ◌∙◌, subst, inl, inr}
use Rattle.std.proofs.lemmas.List.{map-append}
use Rattle.std.specs.List.{slice_get}
use Rattle.std.specs.Option.{option_map}
use Rattle.sql_text.proofs.Begun.{run_on_some, run_begins, run_spells, spells_ends}
use Rattle.sql_text.proofs.Running.{run, run_on, run-append}
use Rattle.sql_text.specs.Faults.{Gives, HasTokens, IsTokenFault, IsWrongToken, IsUnfinished, IsTooMany, IsFault}
use Rattle.sql_text.specs.Grammar.{Spells, Begins, ninth}
use Rattle.sql_text.specs.Lexing.{Placed, Fault, tokens_of, first_bad_byte, bare}
use Rattle.sql_text.specs.Machine.{drive, go_on, step, finished}
use Rattle.sql_text.specs.declared.parsing.Reason.{Reason}
use Rattle.sql_text.specs.declared.parsing.Reason.TheVariants.{BadByte, BadToken, TooLarge, Syntax, TooMany}
use Rattle.sql_text.specs.declared.states.State.{State}
use Rattle.sql_text.specs.declared.states.State.TheVariants as state
use Rattle.sql_text.specs.declared.statements.Stmt.{Stmt}
use Rattle.sql_text.specs.declared.tokens.Token.{Token}

abbrev Told : Type 0
Told = Option (ℕ × Reason)

abbrev told_here : ℕ → Reason → Told
told_here at reason = Some (at, reason)

unfoldable told_many : List Placed → Option ℕ → Told
told_many tokens None = None
told_many tokens (Some number) = option_map (λ p. (p.at, TooMany)) (slice_get tokens number)

unfoldable told_end : ℕ → List Placed → Option Stmt → Told
told_end size tokens None = told_here size Syntax
told_end size tokens (Some s) = told_many tokens (ninth s)

unfoldable told_drive : ℕ → List Placed → Result State ℕ → Told
told_drive size tokens (Err at) = told_here at Syntax
told_drive size tokens (Ok last) = told_end size tokens (finished last)

unfoldable told_tokens : ℕ → Result (List Placed) Fault → Told
told_tokens size (Err fault) = told_here fault.at fault.reason
told_tokens size (Ok tokens) = told_drive size tokens (drive state.Start tokens)

unfoldable told_bytes : Option ℕ → Told → Told
told_bytes (Some at) other = told_here at BadByte
told_bytes None other = other

-- the fault of a line, none where it gives a statement
abbrev told : List ℕ → Told
told line = told_bytes (first_bad_byte line) (told_tokens (length line) (tokens_of line))

driven_by : (first : Placed) (rest : List Placed) (last : State) (o : Option State) → run_on o (λ n. run n (bare rest)) ≡ Some last → ((next : State) → run next (bare rest) ≡ Some last → drive next rest ≡ Ok last) → go_on first.at o (λ n. drive n rest) ≡ Ok last
unfolding run_on go_on
driven_by first rest last None e later = absurd (let no : ⊥ = cc in no)
driven_by first rest last (Some next) e later = later next e

-- tokens that are all taken are driven to their end
drive_taken : (st last : State) (tokens : List Placed) → run st (bare tokens) ≡ Some last → drive st tokens ≡ Ok last
unfolding run drive
drive_taken st last [] e = let same : st ≡ last = cc in ap (λ s. Ok s) same
drive_taken st last (first ∷ rest) e = driven_by first rest last (step st first.token) e (λ next later. drive_taken next last rest later)

stopped_by : (first wrong : Placed) (front back : List Placed) (reached : State) (o : Option State) → run_on o (λ n. run n (bare front)) ≡ Some reached → ((next : State) → run next (bare front) ≡ Some reached → drive next (front ++ wrong ∷ back) ≡ Err wrong.at) → go_on first.at o (λ n. drive n (front ++ wrong ∷ back)) ≡ Err wrong.at
unfolding run_on go_on
stopped_by first wrong front back reached None e later = absurd (let no : ⊥ = cc in no)
stopped_by first wrong front back reached (Some next) e later = later next e

-- a token that isn't taken stops them
drive_stops : (st reached : State) (front : List Placed) (wrong : Placed) (back : List Placed) → run st (bare front) ≡ Some reached → step reached wrong.token ≡ None → drive st (front ++ wrong ∷ back) ≡ Err wrong.at
unfolding run drive go_on
drive_stops st reached [] wrong back e refused =
    let same : st ≡ reached = cc in
    ap (λ o. go_on wrong.at o (λ n. drive n back)) (ap (λ s. step s wrong.token) same ∙ refused)
drive_stops st reached (first ∷ front) wrong back e refused = stopped_by first wrong front back reached (step st first.token) e (λ next later. drive_stops next reached front wrong back later refused)

first_run : (o : Option State) (others : State → Option State) (last : State) → run_on o others ≡ Some last → (st : State) × (o ≡ Some st)
unfolding run_on
first_run None others last e = absurd (let no : ⊥ = cc in no)
first_run (Some st) others last e = (st, refl)

begins_run : (tokens : List Token) → Begins tokens → (st : State) × (run state.Start tokens ≡ Some st)
begins_run tokens begins =
    let ends = spells_ends begins.statement (tokens ++ begins.rest) begins.spells in
    first_run (run state.Start tokens) (λ n. run n begins.rest) ends.last (sym (run-append state.Start tokens begins.rest) ∙ ends.ran)

refused_by : (tokens : List Token) (token : Token) (reached : State) (o : Option State) → run state.Start tokens ≡ Some reached → step reached token ≡ o → (Begins (tokens ++ token ∷ []) → ⊥) → o ≡ None
unfolding run run_on
refused_by tokens token reached None ran e none = refl
refused_by tokens token reached (Some next) ran e none = absurd (none (run_begins (tokens ++ token ∷ []) next (run-append state.Start tokens (token ∷ []) ∙ run_on_some _ reached (token ∷ []) ran ∙ ap (λ o. run_on o (λ n. run n [])) e)))

wrong_drives : (tokens : List Placed) (at : ℕ) → IsWrongToken tokens at → drive state.Start tokens ≡ Err at
wrong_drives tokens at w =
    let reached = begins_run (bare w.front) w.begun in
    let more : bare (w.front ++ w.wrong ∷ []) ≡ bare w.front ++ w.wrong.token ∷ [] = map-append (λ p. p.token) w.front (w.wrong ∷ []) in
    let refused = refused_by (bare w.front) w.wrong.token reached.0 (step reached.0 w.wrong.token) reached.1 refl (λ begins. w.none (subst (λ r. Begins r) (sym more) begins)) in
    ap (λ t. drive state.Start t) w.cut ∙ drive_stops state.Start reached.0 w.front w.wrong w.back reached.1 refused ∙ ap (λ n. Err n) w.place

told_open : (size : ℕ) (tokens : List Placed) (o : Option Stmt) → ((s : Stmt) → o ≡ Some s → ⊥) → told_end size tokens o ≡ told_here size Syntax
unfolding told_end
told_open size tokens None none = refl
told_open size tokens (Some s) none = absurd (none s refl)

told_lexed : (line : List ℕ) (tokens : List Placed) → HasTokens line tokens → told line ≡ told_drive (length line) tokens (drive state.Start tokens)
unfolding told_bytes told_tokens
told_lexed line tokens has = ap (λ o. told_bytes o (told_tokens (length line) (tokens_of line))) has.allowed ∙ ap (λ r. told_tokens (length line) r) has.lexed

-- tokens that spell a statement
told_spelled : (line : List ℕ) (tokens : List Placed) (s : Stmt) → HasTokens line tokens → Spells s (bare tokens) → told line ≡ told_many tokens (ninth s)
unfolding told_drive told_end
told_spelled line tokens s has spells =
    let ends = spells_ends s (bare tokens) spells in
    told_lexed line tokens has ∙ ap (λ r. told_drive (length line) tokens r) (drive_taken state.Start ends.last tokens ends.ran) ∙ ap (λ o. told_end (length line) tokens o) ends.ended

told_token_fault : (line : List ℕ) (at : ℕ) (reason : Reason) → IsTokenFault line at reason → told line ≡ told_here at reason
unfolding told_bytes told_tokens
told_token_fault line at reason f = ap (λ o. told_bytes o (told_tokens (length line) (tokens_of line))) f.allowed ∙ ap (λ r. told_tokens (length line) r) f.lexed

told_syntax : (line : List ℕ) (at : ℕ) (tokens : List Placed) → HasTokens line tokens → IsWrongToken tokens at ⊎ ((at ≡ length line) × IsUnfinished tokens) → told line ≡ told_here at Syntax
unfolding told_drive
told_syntax line at tokens has (inl wrong) = told_lexed line tokens has ∙ ap (λ r. told_drive (length line) tokens r) (wrong_drives tokens at wrong)
told_syntax line at tokens has (inr unfinished) =
    let last = begins_run (bare tokens) unfinished.1.begun in
    told_lexed line tokens has ∙ ap (λ r. told_drive (length line) tokens r) (drive_taken state.Start last.0 tokens last.1) ∙ told_open (length line) tokens (finished last.0) (λ s ended. unfinished.1.none s (run_spells (bare tokens) last.0 s last.1 ended)) ∙ ap (λ n. told_here n Syntax) (sym unfinished.0)

told_too_many : (line : List ℕ) (at : ℕ) → IsTooMany line at → told line ≡ told_here at TooMany
unfolding told_many
told_too_many line at m = told_spelled line m.tokens m.statement m.line_tokens m.spells ∙ ap (λ o. told_many m.tokens o) m.many ∙ ap (λ o. option_map (λ p. (p.at, TooMany)) o) m.found ∙ ap (λ n. told_here n TooMany) m.place

told_fault : (line : List ℕ) (at : ℕ) (reason : Reason) → IsFault line at reason → told line ≡ told_here at reason
unfolding told_bytes
told_fault line at BadByte f = ap (λ o. told_bytes o (told_tokens (length line) (tokens_of line))) f
told_fault line at BadToken f = told_token_fault line at BadToken f
told_fault line at TooLarge f = told_token_fault line at TooLarge f
told_fault line at Syntax f = told_syntax line at f.tokens f.line_tokens f.fault
told_fault line at TooMany f = told_too_many line at f

told_given : (line : List ℕ) (s : Stmt) → Gives line s → told line ≡ None
unfolding told_many
told_given line s g = told_spelled line g.tokens s g.line_tokens g.spells ∙ ap (λ o. told_many g.tokens o) g.few

pub one_fault : (line : List ℕ) (at other : ℕ) (reason why : Reason) → IsFault line at reason → IsFault line other why → (at ≡ other) × (reason ≡ why)
one_fault line at other reason why f g =
    let first : ℕ × Reason = (at, reason) in
    let second : ℕ × Reason = (other, why) in
    let both : Some first ≡ Some second = sym (told_fault line at reason f) ∙ told_fault line other why g in
    let same : first ≡ second = cc in
    (ap (λ (x : ℕ × Reason). x.0) same, ap (λ (x : ℕ × Reason). x.1) same)

pub fault_gives_none : (line : List ℕ) (at : ℕ) (reason : Reason) (s : Stmt) → IsFault line at reason → Gives line s → ⊥
fault_gives_none line at reason s f g =
    let first : ℕ × Reason = (at, reason) in
    let both : Some first ≡ None = sym (told_fault line at reason f) ∙ told_given line s g in
    cc
