-- The lines of a first workload, up to its END.
use Rattle.std.proofs.Common.{◌≡◌, ℕ, suc, ◌+◌, Bool, true, false, List, [], ◌∷◌, ◌++◌, length, Option, Some, None, Result, Ok, Err, if◌then◌else◌, refl, ap, sym, ◌∙◌, subst, arith, append_assoc, append-nil, length-append, add-one}
use Rattle.sql_text.specs.declared.frames.Frame.TheVariants as frame
use Rattle.sql_text.specs.declared.statements.Stmt.{Stmt}
use Rattle.sql_text.specs.declared.statements.Stmt.TheVariants as stmt
use Rattle.workload.specs.declared.script.Act.{Act}
use Rattle.workload.specs.declared.script.Decl.{Decl}
use Rattle.workload.specs.declared.script.Piece.{Piece}
use Rattle.workload.specs.declared.script.Workload.{Workload}
use Rattle.workload_file.specs.FileLines.{IsLine, lines_of, without_return}
use Rattle.workload_file.specs.Naming.{declared}
use Rattle.workload_file.specs.Resolving.{deleted, inserted, rebuilt, selected}
use Rattle.workload_file.specs.Steps.{at, at_stage, begun, closed, declaring, framed_in_session, in_session, inside, is_last_session, next_session, opened, outside, session_ended, stage_ended, start, stated, take, take_at, with_act, with_rebuild, with_stage, with_tables}
use Rattle.workload_file.specs.TwinFile.{IsFirst, IsFirstFault}
use Rattle.workload_file.specs.WorkloadFile.{Goes, Leads, NextLine, Verdict, ended_at}
use Rattle.workload_file.specs.declared.lines.Line.{Line}
use Rattle.workload_file.specs.declared.lines.Line.TheVariants.{Blank, Framed, Stated, Faulty}
use Rattle.workload_file.specs.declared.reader.Reader.{Reader}
use Rattle.workload_file.specs.declared.reader.Stage.{Stage}
use Rattle.workload_file.specs.declared.reader.Stage.TheVariants.{Opening, Declaring, Session, Ended}
use Rattle.workload_file.specs.declared.stops.FileReason.{FileReason}
use Rattle.workload_file.specs.declared.stops.FileReason.TheVariants as reason
use Rattle.workload_file.specs.declared.stops.FileStop.{FileStop}
use Rattle.workload_file.specs.declared.stops.FileStop.TheVariants.{Bad}

-- a result that isn't the end of a workload
record GoesOn (r : Result Reader FileReason) : Type 0 where
  still : (next : Reader) → r ≡ Ok next → stage_ended next.stage ≡ false

refused : (why : FileReason) → GoesOn (Err why)
refused why = record { still = λ next e. absurd (let no : ⊥ = cc in no) }

goes : (tables : List Decl) (sessions : List (List Piece)) (stage : Stage) → stage_ended stage ≡ false → GoesOn (Ok (at tables sessions stage))
goes tables sessions stage e = record { still = λ next is. (let same : at tables sessions stage ≡ next = cc in subst (λ (r : Reader). stage_ended r.stage ≡ false) same e) }

-- a statement's stage is one of a session
record Stays (r : Result Stage FileReason) : Type 0 where
  still : (stage : Stage) → r ≡ Ok stage → stage_ended stage ≡ false

stays : (pieces : List Piece) (unfinished : Option (List Act)) → Stays (Ok (Session pieces unfinished))
unfolding stage_ended
stays pieces unfinished = record { still = λ stage is. (let same : Session pieces unfinished ≡ stage = cc in subst (λ (s : Stage). stage_ended s ≡ false) same refl) }

stops : (why : FileReason) → Stays (Err why)
stops why = record { still = λ stage e. absurd (let no : ⊥ = cc in no) }

begun_stays : (pieces : List Piece) (unfinished : Option (List Act)) → Stays (begun pieces unfinished)
unfolding begun
begun_stays pieces None = stays pieces (Some [])
begun_stays pieces (Some acts) = stops reason.Transaction

closed_stays : (rollback : Bool) (pieces : List Piece) (unfinished : Option (List Act)) → Stays (closed rollback pieces unfinished)
unfolding closed
closed_stays rollback pieces None = stops reason.Transaction
closed_stays rollback pieces (Some acts) = stays _ None

rebuild_stays : (pieces : List Piece) (unfinished : Option (List Act)) (r : Result Piece FileReason) → Stays (with_rebuild pieces unfinished r)
unfolding with_rebuild
rebuild_stays pieces unfinished (Err why) = stops why
rebuild_stays pieces None (Ok p) = stays _ None
rebuild_stays pieces (Some acts) (Ok p) = stops reason.Transaction

act_stays : (pieces : List Piece) (unfinished : Option (List Act)) (r : Result Act FileReason) → Stays (with_act pieces unfinished r)
unfolding with_act
act_stays pieces unfinished (Err why) = stops why
act_stays pieces None (Ok act) = stays _ None
act_stays pieces (Some acts) (Ok act) = stays pieces _

stated_stays : (tables : List Decl) (pieces : List Piece) (unfinished : Option (List Act)) (s : Stmt) → Stays (stated tables pieces unfinished s)
unfolding stated
stated_stays tables pieces unfinished stmt.Begin = begun_stays pieces unfinished
stated_stays tables pieces unfinished stmt.Commit = closed_stays false pieces unfinished
stated_stays tables pieces unfinished stmt.Rollback = closed_stays true pieces unfinished
stated_stays tables pieces unfinished (stmt.Rebuild name column) = rebuild_stays pieces unfinished (rebuilt tables name column)
stated_stays tables pieces unfinished (stmt.Insert name values) = act_stays pieces unfinished (inserted tables name values)
stated_stays tables pieces unfinished (stmt.Delete name conds) = act_stays pieces unfinished (deleted tables name conds)
stated_stays tables pieces unfinished (stmt.Select what name conds order limit) = act_stays pieces unfinished (selected tables name what conds order limit)

with_stage_goes : (tables : List Decl) (sessions : List (List Piece)) (r : Result Stage FileReason) → Stays r → GoesOn (with_stage tables sessions r)
unfolding with_stage
with_stage_goes tables sessions (Ok stage) s = goes tables sessions stage (s.still stage refl)
with_stage_goes tables sessions (Err why) s = refused why

with_tables_goes : (sessions : List (List Piece)) (r : Result (List Decl) FileReason) → GoesOn (with_tables sessions r)
unfolding with_tables stage_ended
with_tables_goes sessions (Ok tables) = goes tables sessions Declaring refl
with_tables_goes sessions (Err why) = refused why

at_stage_goes : (tables : List Decl) (stage : Stage) (r : Result (List (List Piece)) FileReason) → stage_ended stage ≡ false → GoesOn (at_stage tables stage r)
unfolding at_stage
at_stage_goes tables stage (Ok sessions) e = goes tables sessions stage e
at_stage_goes tables stage (Err why) e = refused why

next_goes : (last : Bool) (r : Result Reader FileReason) → GoesOn r → GoesOn (if last then Err reason.TooMany else r)
next_goes true r g = refused reason.TooMany
next_goes false r g = g

-- a step ends the workload only by END
abbrev EndsBy : Line → Result Reader FileReason → Type 0
EndsBy said r = (next : Reader) → r ≡ Ok next → stage_ended next.stage ≡ true → said ≡ Framed frame.End

never : (said : Line) (r : Result Reader FileReason) → GoesOn r → EndsBy said r
never said r g next e ended = absurd (let both : true ≡ false = sym ended ∙ g.still next e in let no : ⊥ = cc in no)

opened_ends : (tables : List Decl) (sessions : List (List Piece)) (said : Line) → EndsBy said (opened tables sessions said)
unfolding opened stage_ended
opened_ends tables sessions Blank = never Blank _ (goes tables sessions Opening refl)
opened_ends tables sessions (Framed frame.Header) = never _ _ (goes tables sessions Declaring refl)
opened_ends tables sessions (Framed (frame.Table name columns)) = never _ _ (refused reason.Syntax)
opened_ends tables sessions (Framed frame.Session) = never _ _ (refused reason.Syntax)
opened_ends tables sessions (Framed frame.End) = never _ _ (refused reason.Syntax)
opened_ends tables sessions (Stated s) = never _ _ (refused reason.Syntax)
opened_ends tables sessions (Faulty f) = never _ _ (refused (outside f))

declaring_ends : (tables : List Decl) (sessions : List (List Piece)) (said : Line) → EndsBy said (declaring tables sessions said)
unfolding declaring stage_ended
declaring_ends tables sessions Blank = never Blank _ (goes tables sessions Declaring refl)
declaring_ends tables sessions (Framed frame.Header) = never _ _ (refused reason.Syntax)
declaring_ends tables sessions (Framed (frame.Table name columns)) = never _ _ (with_tables_goes sessions (declared tables name columns))
declaring_ends tables sessions (Framed frame.Session) = never _ _ (goes tables sessions (Session [] None) refl)
declaring_ends tables sessions (Framed frame.End) = λ next e ended. refl
declaring_ends tables sessions (Stated s) = never _ _ (refused reason.Syntax)
declaring_ends tables sessions (Faulty f) = never _ _ (refused (outside f))

session_ends : (tables : List Decl) (sessions : List (List Piece)) (pieces : List Piece) (unfinished : Option (List Act)) (said : Line) → EndsBy said (in_session tables sessions pieces unfinished said)
unfolding in_session framed_in_session next_session stage_ended
session_ends tables sessions pieces unfinished Blank = never Blank _ (goes tables sessions (Session pieces unfinished) refl)
session_ends tables sessions pieces unfinished (Framed frame.Header) = never _ _ (refused reason.Syntax)
session_ends tables sessions pieces unfinished (Framed (frame.Table name columns)) = never _ _ (refused reason.Syntax)
session_ends tables sessions pieces unfinished (Framed frame.Session) =
    never _ _ (next_goes (is_last_session (length sessions)) _ (at_stage_goes tables (Session [] None) (session_ended sessions pieces unfinished) refl))
session_ends tables sessions pieces unfinished (Framed frame.End) = λ next e ended. refl
session_ends tables sessions pieces unfinished (Stated s) = never _ _ (with_stage_goes tables sessions (stated tables pieces unfinished s) (stated_stays tables pieces unfinished s))
session_ends tables sessions pieces unfinished (Faulty f) = never _ _ (refused (inside f))

take_ends : (stage : Stage) (tables : List Decl) (sessions : List (List Piece)) (said : Line) → stage_ended stage ≡ false → EndsBy said (take_at stage tables sessions said)
unfolding take_at stage_ended
take_ends Opening tables sessions said still = opened_ends tables sessions said
take_ends Declaring tables sessions said still = declaring_ends tables sessions said
take_ends (Session pieces unfinished) tables sessions said still = session_ends tables sessions pieces unfinished said
take_ends Ended tables sessions said still = absurd (let no : ⊥ = cc in no)

pub ends_by_end : (reader next : Reader) (said : Line) → stage_ended reader.stage ≡ false → take reader said ≡ Ok next → stage_ended next.stage ≡ true → said ≡ Framed frame.End
unfolding take
ends_by_end reader next said still e ended = take_ends reader.stage reader.tables reader.sessions said still next e ended

-- the lines so far lead to the reader
pub record Reads (all : List (List ℕ)) (n : ℕ) (reader : Reader) (rest : List (List ℕ)) : Type 0 where
  pub front : List (List ℕ)
  pub whole : all ≡ front ++ rest
  pub number_is : n ≡ suc (length front)
  pub same : (lines : List (List ℕ)) (verdict : Verdict) → Leads n reader lines verdict → Leads 1 start (front ++ lines) verdict

pub reads_start : (all : List (List ℕ)) → Reads all 1 start all
reads_start all = record { front = []; whole = refl; number_is = refl; same = λ lines verdict leads. leads }

pub reads_on : (all : List (List ℕ)) (n : ℕ) (reader next : Reader) (now rest : List (List ℕ)) (line : List ℕ) → now ≡ line ∷ rest → Reads all n reader now → NextLine reader line (Ok next) → Reads all (n + 1) next rest
unfolding Leads Goes
reads_on all n reader next now rest line cut reads is = record {
  front = reads.front ++ line ∷ [];
  whole = reads.whole ∙ ap (λ (ls : List (List ℕ)). reads.front ++ ls) cut ∙ sym (append_assoc reads.front (line ∷ []) rest);
  number_is = (let size = length-append reads.front (line ∷ []) in omega (arith, size, reads.number_is));
  same = λ lines verdict leads.
      subst (λ (ls : List (List ℕ)). Leads 1 start ls verdict) (sym (append_assoc reads.front (line ∷ []) lines))
      (reads.same (line ∷ lines) verdict (Ok next, is, subst (λ (m : ℕ). Leads m next lines verdict) (add-one n) leads));
}

pub open_end : (stage : Stage) (n : ℕ) (reader : Reader) → stage_ended stage ≡ false → Err (Bad n reason.NoEnd) ≡ ended_at stage n reader
unfolding ended_at stage_ended
open_end Opening n reader still = refl
open_end Declaring n reader still = refl
open_end (Session pieces unfinished) n reader still = refl
open_end Ended n reader still = absurd (let no : ⊥ = cc in no)

alone : (front : List (List ℕ)) (verdict : Verdict) → Leads 1 start (front ++ []) verdict → Leads 1 start front verdict
alone front verdict leads = subst (λ (ls : List (List ℕ)). Leads 1 start ls verdict) (append-nil front) leads

not_ended : (all : List (List ℕ)) (n : ℕ) (reader : Reader) (rest : List (List ℕ)) (reads : Reads all n reader rest) → stage_ended reader.stage ≡ false → Leads 1 start reads.front (Err (Bad n reason.NoEnd))
unfolding Leads
not_ended all n reader rest reads still = alone reads.front _ (reads.same [] (Err (Bad n reason.NoEnd)) (open_end reader.stage n reader still))

pub first_fault : (all : List (List ℕ)) (n : ℕ) (reader : Reader) (now rest : List (List ℕ)) (line : List ℕ) (why : FileReason) → now ≡ line ∷ rest → Reads all n reader now → stage_ended reader.stage ≡ false
    → NextLine reader line (Err why) → IsFirstFault all n why
unfolding Leads Goes
first_fault all n reader now rest line why cut reads still is = record {
  before = reads.front;
  behind = now;
  whole = reads.whole;
  number_is = reads.number_is;
  not_ended = not_ended all n reader now reads still;
  fault =
      subst (λ (ls : List (List ℕ)). Leads 1 start ls (Err (Bad n why))) (ap (λ (ls : List (List ℕ)). reads.front ++ ls) (sym cut) ∙ sym reads.whole)
      (reads.same (line ∷ rest) (Err (Bad n why)) (Err why, is, refl));
}

pub first_runs_out : (all : List (List ℕ)) (n : ℕ) (reader : Reader) (rest : List (List ℕ)) → rest ≡ [] → Reads all n reader rest → stage_ended reader.stage ≡ false → IsFirstFault all n reason.NoEnd
first_runs_out all n reader rest none reads still =
    let same : all ≡ reads.front = reads.whole ∙ ap (λ (ls : List (List ℕ)). reads.front ++ ls) none ∙ append-nil reads.front in
    record {
      before = reads.front;
      behind = rest;
      whole = reads.whole;
      number_is = reads.number_is;
      not_ended = not_ended all n reader rest reads still;
      fault = subst (λ (ls : List (List ℕ)). Leads 1 start ls (Err (Bad n reason.NoEnd))) (sym same) (not_ended all n reader rest reads still);
    }

pub first_read : (all : List (List ℕ)) (n : ℕ) (reader next : Reader) (now rest : List (List ℕ)) (line : List ℕ) (w : Workload) → now ≡ line ∷ rest → Reads all n reader now → stage_ended reader.stage ≡ false
    → NextLine reader line (Ok next) → stage_ended next.stage ≡ true → Ok w ≡ ended_at next.stage (n + 1) next → IsFirst all w rest (n + 1)
unfolding Leads reads_on
first_read all n reader next now rest line w cut reads still is ended e =
    let after = reads_on all n reader next now rest line cut reads is in
    let end : is.said ≡ Framed frame.End = ends_by_end reader next is.said still (sym is.taken) ended in
    record {
      front = reads.front ++ line ∷ [];
      cut = record {
        before = reads.front;
        last = line;
        is_end = subst (λ (said : Line). IsLine (without_return line) said) end is.is_line;
        front_is = refl;
        whole = after.whole;
        spelled = alone (reads.front ++ line ∷ []) (Ok w) (after.same [] (Ok w) e);
      };
      number_is = after.number_is;
    }

pub not_yet : stage_ended start.stage ≡ false
unfolding start stage_ended
not_yet = refl

-- some lines without bytes
pub no_lines : (bytes : List ℕ) → length bytes ≡ 0 → lines_of bytes ≡ []
unfolding lines_of
no_lines [] e = refl
no_lines (b ∷ bytes) e = absurd (omega (arith, e))

-- behind END there is a workload
pub never_stops : (stage : Stage) (n : ℕ) (reader : Reader) (verdict : Verdict) (stop : FileStop) → stage_ended stage ≡ true → verdict ≡ ended_at stage n reader → verdict ≡ Err stop → ⊥
unfolding ended_at stage_ended
never_stops Opening n reader verdict stop ended e is = (let no : ⊥ = cc in no)
never_stops Declaring n reader verdict stop ended e is = (let no : ⊥ = cc in no)
never_stops (Session pieces unfinished) n reader verdict stop ended e is = (let no : ⊥ = cc in no)
never_stops Ended n reader verdict stop ended e is = (let no : ⊥ = cc in no)
