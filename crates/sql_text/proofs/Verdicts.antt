-- What the machine finds of a line is the line's statement or its first fault.
use Rattle.std.proofs.Common.{◌≡◌, ℕ, ◌<◌, List, [], ◌∷◌, ◌++◌, length, Option, Some, None, Result, Ok, Err, refl, ap, sym, ◌∙◌, subst, inl, inr, arith, get_or}
use Rattle.std.proofs.lemmas.List.{length-map, map-append}
use Rattle.std.proofs.lemmas.Option.{slice_get-get_or}
use Rattle.std.specs.List.{slice_get}
use Rattle.sql_text.proofs.Begun.{refused_run, run_on_some, run_begins, run_spells, refused_begins, unfinished, spells_ends, spells_once}
use Rattle.sql_text.proofs.Placing.{ninth_within}
use Rattle.sql_text.proofs.Reasons.{IsTokenReason, token_reason}
use Rattle.sql_text.proofs.Running.{run, run_on, run-append, Ends}
use Rattle.sql_text.specs.Faults.{Gives, HasTokens, IsSpelled, IsTokenFault, IsSyntaxFault, IsTooMany, IsFault}
use Rattle.sql_text.specs.Grammar.{Spells, Begins, spelling, ninth}
use Rattle.sql_text.specs.Lexing.{Placed, Fault, tokens_of, first_bad_byte, bare}
use Rattle.sql_text.specs.Machine.{drive, go_on, step, finished}
use Rattle.sql_text.specs.Scans.{fault_of}
use Rattle.sql_text.specs.declared.parsing.Reason.{Reason}
use Rattle.sql_text.specs.declared.parsing.Reason.TheVariants.{BadByte, BadToken, TooLarge, Syntax, TooMany}
use Rattle.sql_text.specs.declared.states.State.{State}
use Rattle.sql_text.specs.declared.states.State.TheVariants as state
use Rattle.sql_text.specs.declared.statements.Stmt.{Stmt}
use Rattle.sql_text.specs.declared.tokens.Token.{Token}
use Rattle.sql_text.specs.declared.tokens.Token.TheVariants.{Number}

-- a token was met that can't follow
pub record Stopped (st : State) (tokens : List Placed) (at : ℕ) : Type 0 where
  pub front : List Placed
  pub wrong : Placed
  pub back : List Placed
  pub cut : tokens ≡ front ++ wrong ∷ back
  pub place : wrong.at ≡ at
  pub reached : State
  pub ran : run st (bare front) ≡ Some reached
  pub refused : step reached wrong.token ≡ None

stopped_by : (st : State) (first : Placed) (rest : List Placed) (at : ℕ) (o : Option State) → step st first.token ≡ o → go_on first.at o (λ n. drive n rest) ≡ Err at → ((next : State) → drive next rest ≡ Err at → Stopped next rest at) → Stopped st (first ∷ rest) at
unfolding go_on run run_on
stopped_by st first rest at None e stop later =
    let same : first.at ≡ at = cc in
    record { front = []; wrong = first; back = rest; cut = refl; place = same; reached = st; ran = refl; refused = e }
stopped_by st first rest at (Some next) e stop later =
    let s : Stopped next rest at = later next stop in
    record {
      front = first ∷ s.front;
      wrong = s.wrong;
      back = s.back;
      cut = ap (λ r. first ∷ r) s.cut;
      place = s.place;
      reached = s.reached;
      ran = ap (λ o. run_on o (λ n. run n (bare s.front))) e ∙ s.ran;
      refused = s.refused;
    }

never_stops : (P : Type 0) (st : State) (at : ℕ) → Ok st ≡ Err at → P
never_stops P st at e = cc

pub drive_stopped : (st : State) (tokens : List Placed) (at : ℕ) → drive st tokens ≡ Err at → Stopped st tokens at
unfolding drive
drive_stopped st [] at stop = never_stops _ st at stop
drive_stopped st (first ∷ rest) at stop = stopped_by st first rest at (step st first.token) refl stop (λ next later. drive_stopped next rest at later)

ran_by : (first : Placed) (rest : List Placed) (last : State) (o : Option State) → go_on first.at o (λ n. drive n rest) ≡ Ok last → ((next : State) → drive next rest ≡ Ok last → run next (bare rest) ≡ Some last) → run_on o (λ n. run n (bare rest)) ≡ Some last
unfolding go_on run_on
ran_by first rest last None e later = never_stops _ last first.at (sym e)
ran_by first rest last (Some next) e later = later next e

pub drive_ran : (st : State) (tokens : List Placed) (last : State) → drive st tokens ≡ Ok last → run st (bare tokens) ≡ Some last
unfolding drive run
drive_ran st [] last e = let same : st ≡ last = cc in ap (λ s. Some s) same
drive_ran st (first ∷ rest) last e = ran_by first rest last (step st first.token) e (λ next later. drive_ran next rest last later)

bare-snoc : (front : List Placed) (wrong : Placed) → bare (front ++ wrong ∷ []) ≡ bare front ++ wrong.token ∷ []
bare-snoc front wrong = map-append (λ p. p.token) front (wrong ∷ [])

bare-cut : (front : List Placed) (wrong : Placed) (back : List Placed) → bare (front ++ wrong ∷ back) ≡ bare front ++ wrong.token ∷ bare back
bare-cut front wrong back = map-append (λ p. p.token) front (wrong ∷ back)

pub wrong_token : (line : List ℕ) (tokens : List Placed) (at : ℕ) → HasTokens line tokens → drive state.Start tokens ≡ Err at → IsSyntaxFault line at
wrong_token line tokens at has stop =
    let s : Stopped state.Start tokens at = drive_stopped state.Start tokens at stop in
    record {
      tokens = tokens;
      line_tokens = has;
      fault = inl (record {
        front = s.front;
        wrong = s.wrong;
        back = s.back;
        cut = s.cut;
        place = s.place;
        begun = run_begins (bare s.front) s.reached s.ran;
        none = λ begins. refused_begins (bare s.front) s.reached s.wrong.token s.ran s.refused (subst (λ r. Begins r) (bare-snoc s.front s.wrong) begins);
      });
    }

pub not_ended : (line : List ℕ) (tokens : List Placed) (last : State) → HasTokens line tokens → drive state.Start tokens ≡ Ok last → finished last ≡ None → IsSyntaxFault line (length line)
not_ended line tokens last has ran open_ =
    let taken : run state.Start (bare tokens) ≡ Some last = drive_ran state.Start tokens last ran in
    record {
      tokens = tokens;
      line_tokens = has;
      fault = inr (refl, record { begun = run_begins (bare tokens) last taken; none = λ s spells. unfinished (bare tokens) last s taken open_ spells });
    }

pub driven_spells : (tokens : List Placed) (last : State) (s : Stmt) → drive state.Start tokens ≡ Ok last → finished last ≡ Some s → Spells s (bare tokens)
driven_spells tokens last s ran ended = run_spells (bare tokens) last s (drive_ran state.Start tokens last ran) ended

-- a line without a token fault has tokens
pub has_tokens : (line : List ℕ) (r : Result (List Placed) Fault) → tokens_of line ≡ r → first_bad_byte line ≡ None → fault_of r ≡ None → (tokens : List Placed) × HasTokens line tokens
has_tokens line (Ok tokens) e allowed none = (tokens, record { allowed = allowed; lexed = e })
has_tokens line (Err fault) e allowed none = absurd (let no : ⊥ = cc in no)

pub token_fault_is : (line : List ℕ) (at : ℕ) (reason : Reason) (r : Result (List Placed) Fault) → tokens_of line ≡ r → first_bad_byte line ≡ None → fault_of r ≡ Some (at, reason) → IsTokenFault line at reason
token_fault_is line at reason (Ok tokens) e allowed some = absurd (let no : ⊥ = cc in no)
token_fault_is line at reason (Err fault) e allowed some =
    let seen : ℕ × Reason = (fault.at, fault.reason) in
    let both : Some seen ≡ Some (at, reason) = some in
    let told : ℕ × Reason = (at, reason) in
    let pair : seen ≡ told = cc in
    let place : fault.at ≡ at = ap (λ (x : ℕ × Reason). x.0) pair in
    let why : fault.reason ≡ reason = ap (λ (x : ℕ × Reason). x.1) pair in
    record { allowed = allowed; lexed = e ∙ ap (λ a. Err (record { at = a; reason = fault.reason })) place ∙ ap (λ y. Err (record { at = at; reason = y })) why }

same_tokens : (line : List ℕ) (s : Stmt) (tokens : List Placed) (g : Gives line s) → tokens_of line ≡ Ok tokens → Spells s (bare tokens)
same_tokens line s tokens g lexed =
    let both : Ok g.tokens ≡ Ok tokens = sym g.line_tokens.lexed ∙ lexed in
    let same : g.tokens ≡ tokens = cc in
    subst (λ t. Spells s (bare t)) same g.spells

-- a line that gives a statement has none of the faults
pub gives_allowed : (line : List ℕ) (s : Stmt) (at : ℕ) → Gives line s → first_bad_byte line ≡ Some at → ⊥
gives_allowed line s at g bad = let both : Some at ≡ None = sym bad ∙ g.line_tokens.allowed in cc

pub gives_lexed : (line : List ℕ) (s : Stmt) (at : ℕ) (reason : Reason) → Gives line s → fault_of (tokens_of line) ≡ Some (at, reason) → ⊥
gives_lexed line s at reason g bad =
    let seen : ℕ × Reason = (at, reason) in
    let both : Some seen ≡ None = sym bad ∙ ap (λ r. fault_of r) g.line_tokens.lexed in
    cc

run_stopped : (st : State) (front : List Token) (token : Token) (back : List Token) (reached : State) → run st front ≡ Some reached → step reached token ≡ None → run st (front ++ token ∷ back) ≡ None
run_stopped st front token back reached ran refused = run-append st front (token ∷ back) ∙ run_on_some _ reached (token ∷ back) ran ∙ refused_run reached token back refused

pub gives_driven : (line : List ℕ) (s : Stmt) (tokens : List Placed) (at : ℕ) → Gives line s → tokens_of line ≡ Ok tokens → drive state.Start tokens ≡ Err at → ⊥
gives_driven line s tokens at g lexed stop =
    let ends : Ends state.Start (bare tokens) s = spells_ends s (bare tokens) (same_tokens line s tokens g lexed) in
    let st : Stopped state.Start tokens at = drive_stopped state.Start tokens at stop in
    let none : run state.Start (bare tokens) ≡ None = ap (λ t. run state.Start (bare t)) st.cut ∙ ap (λ t. run state.Start t) (bare-cut st.front st.wrong st.back) ∙ run_stopped state.Start (bare st.front) st.wrong.token (bare st.back) st.reached st.ran st.refused in
    let both : None ≡ Some ends.last = sym none ∙ ends.ran in
    cc

pub gives_ended : (line : List ℕ) (s : Stmt) (tokens : List Placed) (last : State) → Gives line s → tokens_of line ≡ Ok tokens → drive state.Start tokens ≡ Ok last → finished last ≡ None → ⊥
gives_ended line s tokens last g lexed ran open_ = unfinished (bare tokens) last s (drive_ran state.Start tokens last ran) open_ (same_tokens line s tokens g lexed)

pub gives_same : (line : List ℕ) (s t : Stmt) (tokens : List Placed) (last : State) → Gives line s → tokens_of line ≡ Ok tokens → drive state.Start tokens ≡ Ok last → finished last ≡ Some t → t ≡ s
gives_same line s t tokens last g lexed ran ended = spells_once (bare tokens) t s (driven_spells tokens last t ran ended) (same_tokens line s tokens g lexed)

-- a line that spells two statements spells one
pub spelled_same : (line : List ℕ) (s t : Stmt) → Gives line s → IsSpelled line t → t ≡ s
spelled_same line s t g spelled = spells_once (bare spelled.tokens) t s spelled.spells (same_tokens line s spelled.tokens g spelled.line_tokens.lexed)

pub gives_few : (line : List ℕ) (s t : Stmt) (number : ℕ) → Gives line s → IsSpelled line t → ninth t ≡ Some number → ⊥
gives_few line s t number g spelled many =
    let same : t ≡ s = spelled_same line s t g spelled in
    let both : Some number ≡ None = sym many ∙ ap (λ x. ninth x) same ∙ g.few in
    cc

-- the token that begins a ninth element
pub too_many : (line : List ℕ) (t : Stmt) (number at : ℕ) → IsSpelled line t → ninth t ≡ Some number → ((tokens : List Placed) (p : Placed) → tokens_of line ≡ Ok tokens → slice_get tokens number ≡ Some p → at ≡ p.at) → IsTooMany line at
too_many line t number at spelled many place =
    let tokens : List Placed = spelled.tokens in
    let below : number < length (spelling spelled.spells.style t) = ninth_within spelled.spells.style t number many in
    let size : length (bare tokens) ≡ length tokens = length-map tokens (λ p. p.token) in
    let same : length (bare tokens) ≡ length (spelling spelled.spells.style t) = ap (λ r. length r) spelled.spells.spelled in
    let d : Placed = record { at = 0; token = Number 0 } in
    let found : slice_get tokens number ≡ Some (get_or tokens number d) = slice_get-get_or tokens number d (omega arith) in
    record {
      tokens = tokens;
      line_tokens = spelled.line_tokens;
      statement = t;
      spells = spelled.spells;
      number = number;
      many = many;
      element = get_or tokens number d;
      found = found;
      place = sym (place tokens (get_or tokens number d) spelled.line_tokens.lexed found);
    }

fault_is : (line : List ℕ) (at : ℕ) (reason : Reason) → IsTokenReason reason → IsTokenFault line at reason → IsFault line at reason
fault_is line at BadByte reason f = elim reason [ ]
fault_is line at BadToken reason f = f
fault_is line at TooLarge reason f = f
fault_is line at Syntax reason f = elim reason [ ]
fault_is line at TooMany reason f = elim reason [ ]

pub token_fault_found : (line : List ℕ) (at : ℕ) (reason : Reason) → first_bad_byte line ≡ None → fault_of (tokens_of line) ≡ Some (at, reason) → IsFault line at reason
token_fault_found line at reason allowed some =
    let f : IsTokenFault line at reason = token_fault_is line at reason (tokens_of line) refl allowed some in
    fault_is line at reason (token_reason line (record { at = at; reason = reason }) f.lexed) f
