-- What the tokens of a line say of a frame, and that a frame is no statement.
use Rattle.std.proofs.Common.{◌≡◌, ℕ, List, [], Option, Some, None, Result, Ok, Err, refl, ap, sym, subst, ◌∙◌}
use Rattle.std.specs.Option.{MatchOption}
use Rattle.sql_text.proofs.Begun.{spells_ends}
use Rattle.sql_text.proofs.FrameRuns.{frame_front, walk_reaches, walk_frame}
use Rattle.sql_text.proofs.Running.{run, run_on}
use Rattle.sql_text.specs.Faults.{Gives, IsSpelled, IsFault}
use Rattle.sql_text.specs.FrameLines.{frame_tokens, IsFrameLine, IsNoFrame}
use Rattle.sql_text.specs.FrameMachine.{frame_step, walk_on, walk, walked, framed}
use Rattle.sql_text.specs.Grammar.{Spells}
use Rattle.sql_text.specs.Lexing.{Placed, Fault, tokens_of, first_bad_byte, bare, with_first}
use Rattle.sql_text.specs.Machine.{step}
use Rattle.sql_text.specs.declared.frame_steps.Framing.{Framing}
use Rattle.sql_text.specs.declared.frame_steps.Framing.TheVariants as framing
use Rattle.sql_text.specs.declared.frames.Frame.{Frame}
use Rattle.sql_text.specs.declared.frames.Frame.TheVariants as frame
use Rattle.sql_text.specs.declared.parsing.Reason.{Reason}
use Rattle.sql_text.specs.declared.parsing.Reason.TheVariants.{BadByte, BadToken, TooLarge, Syntax, TooMany}
use Rattle.sql_text.specs.declared.states.State.TheVariants as state
use Rattle.sql_text.specs.declared.statements.Stmt.{Stmt}

-- a token that is taken, and one that isn't
pub walked_on : (st : Framing) (p : Placed) (next : Framing) (r : Result (List Placed) Fault) → frame_step st p.token ≡ Some next → walked st (with_first p r) ≡ walked next r
unfolding with_first walked walk walk_on
walked_on st p next (Ok tokens) e = ap (λ o. walk_on o (λ n. walk n (bare tokens))) e
walked_on st p next (Err fault) e = refl

pub walked_wrong : (st : Framing) (p : Placed) (r : Result (List Placed) Fault) → frame_step st p.token ≡ None → walked st (with_first p r) ≡ None
unfolding with_first walked walk walk_on
walked_wrong st p (Ok tokens) e = ap (λ o. walk_on o (λ n. walk n (bare tokens))) e
walked_wrong st p (Err fault) e = refl

pub walked_fault : (st : Framing) (r : Result (List Placed) Fault) (fault : Fault) → r ≡ Err fault → walked st r ≡ None
unfolding walked
walked_fault st r fault e = ap (λ x. walked st x) e

pub walked_end : (st : Framing) (r : Result (List Placed) Fault) → r ≡ Ok [] → walked st r ≡ Some st
unfolding walked walk
walked_end st r e = ap (λ x. walked st x) e

-- the tokens of a frame's line lead to it
pub frame_walked : (line : List ℕ) (f : Frame) → IsFrameLine line f → walked framing.Start (tokens_of line) ≡ Some (framing.Done f)
unfolding walked
frame_walked line f l = ap (λ r. walked framing.Start r) l.line_tokens.lexed ∙ ap (λ ts. walk framing.Start ts) l.spelled ∙ walk_frame f l.right

frame_found : (line : List ℕ) (r : Result (List Placed) Fault) (f : Frame) → first_bad_byte line ≡ None → tokens_of line ≡ r → walked framing.Start r ≡ Some (framing.Done f) → IsFrameLine line f
unfolding walked frame_front
frame_found line (Ok tokens) f allowed lexed e =
    let reaches = walk_reaches framing.Start (bare tokens) (framing.Done f) tt e in
    record { tokens = tokens; line_tokens = record { allowed = allowed; lexed = lexed }; right = reaches.sound; spelled = reaches.front }
frame_found line (Err fault) f allowed lexed e = absurd (let no : ⊥ = cc in no)

no_frame : (line : List ℕ) (o : Option Framing) → walked framing.Start (tokens_of line) ≡ o → ((f : Frame) → o ≡ Some (framing.Done f) → ⊥) → IsNoFrame line
no_frame line o e not_done f l = not_done f (sym e ∙ frame_walked line f l)

pub none_walked : (line : List ℕ) → walked framing.Start (tokens_of line) ≡ None → IsNoFrame line
none_walked line e = no_frame line None e (λ f same. cc)

-- the line is a frame's exactly where its tokens lead to the end of one
pub judged : (line : List ℕ) (st : Framing) → first_bad_byte line ≡ None → walked framing.Start (tokens_of line) ≡ Some st → MatchOption (framed st) (IsNoFrame line) (λ f. IsFrameLine line f)
judged line framing.Start allowed e = no_frame line _ e (λ f same. cc)
judged line framing.Version allowed e = no_frame line _ e (λ f same. cc)
judged line framing.Table allowed e = no_frame line _ e (λ f same. cc)
judged line (framing.Open table) allowed e = no_frame line _ e (λ f same. cc)
judged line (framing.Column table columns) allowed e = no_frame line _ e (λ f same. cc)
judged line (framing.More table columns) allowed e = no_frame line _ e (λ f same. cc)
judged line (framing.Done f) allowed e = frame_found line (tokens_of line) f allowed refl e

pub bad_byte_no_frame : (line : List ℕ) (at : ℕ) → first_bad_byte line ≡ Some at → IsNoFrame line
bad_byte_no_frame line at e f l =
    let both : Some at ≡ None = sym e ∙ l.line_tokens.allowed in
    cc

-- a line is one frame at most
pub one_frame : (line : List ℕ) (f g : Frame) → IsFrameLine line f → IsFrameLine line g → f ≡ g
one_frame line f g lf lg =
    let both : Some (framing.Done f) ≡ Some (framing.Done g) = sym (frame_walked line f lf) ∙ frame_walked line g lg in
    cc

-- no statement begins with the first token of a frame
frame_stops : (f : Frame) → run state.Start (frame_tokens f) ≡ None
unfolding frame_tokens run run_on step
frame_stops frame.Header = refl
frame_stops (frame.Table table columns) = refl
frame_stops frame.Session = refl
frame_stops frame.End = refl

pub frame_spells_none : (line : List ℕ) (f : Frame) (s : Stmt) → IsFrameLine line f → IsSpelled line s → ⊥
frame_spells_none line f s l sp =
    let both : Ok l.tokens ≡ Ok sp.tokens = sym l.line_tokens.lexed ∙ sp.line_tokens.lexed in
    let same : l.tokens ≡ sp.tokens = cc in
    let spells : Spells s (frame_tokens f) = subst (λ ts. Spells s ts) (ap bare (sym same) ∙ l.spelled) sp.spells in
    let ends = spells_ends s (frame_tokens f) spells in
    let no : Some ends.last ≡ None = sym ends.ran ∙ frame_stops f in
    cc

pub frame_gives_none : (line : List ℕ) (f : Frame) (s : Stmt) → IsFrameLine line f → Gives line s → ⊥
frame_gives_none line f s l g = frame_spells_none line f s l (record { tokens = g.tokens; line_tokens = g.line_tokens; spells = g.spells })

-- a frame's line has no fault of a byte, of a token or of too many elements
pub frame_fault : (line : List ℕ) (f : Frame) (at : ℕ) (reason : Reason) → IsFrameLine line f → IsFault line at reason → reason ≡ Syntax
frame_fault line f at BadByte l e = absurd (bad_byte_no_frame line at e f l)
frame_fault line f at BadToken l e = absurd (let both : Ok l.tokens ≡ Err _ = sym l.line_tokens.lexed ∙ e.lexed in let no : ⊥ = cc in no)
frame_fault line f at TooLarge l e = absurd (let both : Ok l.tokens ≡ Err _ = sym l.line_tokens.lexed ∙ e.lexed in let no : ⊥ = cc in no)
frame_fault line f at Syntax l e = refl
frame_fault line f at TooMany l e = absurd (frame_spells_none line f e.statement l (record { tokens = e.tokens; line_tokens = e.line_tokens; spells = e.spells }))
