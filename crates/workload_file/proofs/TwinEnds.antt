-- The lines of a workload are read and end at its END, so that two workloads are compared as far as both go.
use Rattle.std.proofs.Common.{◌≡◌, ℕ, suc, Bool, true, false, List, [], ◌∷◌, Result, Ok, Err, refl, ap, sym, ◌∙◌, subst}
use Rattle.sql_text.specs.declared.frames.Frame.{Frame}
use Rattle.sql_text.specs.declared.frames.Frame.TheVariants as frame
use Rattle.sql_text.specs.declared.parsing.Reason.{Reason}
use Rattle.sql_text.specs.declared.statements.Stmt.{Stmt}
use Rattle.workload.specs.declared.script.Decl.{Decl}
use Rattle.workload.specs.declared.script.Piece.{Piece}
use Rattle.workload.specs.declared.script.Workload.{Workload}
use Rattle.workload_file.specs.FileLines.{IsLine, without_return}
use Rattle.workload_file.specs.Steps.{after_end, at, at_stage, declaring, framed_in_session, in_session, opened, session_ended, stage_ended, take, take_at}
use Rattle.workload_file.specs.TwinFile.{Follows, SaidLine, Say}
use Rattle.workload_file.specs.WorkloadFile.{Goes, Leads, ended_at}
use Rattle.workload_file.specs.declared.lines.Line.{Line}
use Rattle.workload_file.specs.declared.lines.Line.TheVariants.{Blank, Framed, Stated, Faulty}
use Rattle.workload_file.specs.declared.reader.Reader.{Reader}
use Rattle.workload_file.specs.declared.reader.Stage.{Stage}
use Rattle.workload_file.specs.declared.reader.Stage.TheVariants.{Opening, Declaring, Session, Ended}
use Rattle.workload_file.specs.declared.stops.FileReason.{FileReason}
use Rattle.workload_file.proofs.ShapeTexts.{IsPlain, IsRead}
use Rattle.workload_file.proofs.TwinReading.{ends_by_end, open_end}

unfoldable pub is_end : Line → Bool
is_end Blank = false
is_end (Framed frame.Header) = false
is_end (Framed (frame.Table name columns)) = false
is_end (Framed frame.Session) = false
is_end (Framed frame.End) = true
is_end (Stated s) = false
is_end (Faulty r) = false

unfoldable pub Ending : Bool → List SaidLine → Type 0 → Type 0
Ending true later Rest = later ≡ []
Ending false later Rest = Rest

-- the lines are read, and the last alone is END
unfoldable pub EndsOnce : List SaidLine → Type 0
EndsOnce [] = ⊥
EndsOnce (x ∷ later) = IsRead x.said × Ending (is_end x.said) later (EndsOnce later)

-- behind END no line says anything
after_blank : (tables : List Decl) (sessions : List (List Piece)) (said : Line) (next : Reader) → after_end tables sessions said ≡ Ok next → (said ≡ Blank) × (next.stage ≡ Ended)
unfolding after_end
after_blank tables sessions Blank next e = (let same : at tables sessions Ended ≡ next = cc in (refl, ap (λ (r : Reader). r.stage) (sym same)))
after_blank tables sessions (Framed f) next e = absurd (let no : ⊥ = cc in no)
after_blank tables sessions (Stated s) next e = absurd (let no : ⊥ = cc in no)
after_blank tables sessions (Faulty r) next e = absurd (let no : ⊥ = cc in no)

pub goes_on : (P : Reader → Type 0) (n : ℕ) (next : Result Reader FileReason) (w : Workload) → Goes n next P (Ok w) → (after : Reader) × (next ≡ Ok after) × P after
unfolding Goes
goes_on P n (Ok after) w goes = (after, refl, goes)
goes_on P n (Err why) w goes = absurd (let no : ⊥ = cc in no)

ended_taken : (reader : Reader) (said : Line) (next : Reader) → reader.stage ≡ Ended → take reader said ≡ Ok next → (said ≡ Blank) × (next.stage ≡ Ended)
unfolding take take_at
ended_taken reader said next ended e = after_blank reader.tables reader.sessions said next (subst (λ (s : Stage). take_at s reader.tables reader.sessions said ≡ Ok next) ended e)

pub nothing_behind : (n : ℕ) (reader : Reader) (lines : List (List ℕ)) (w : Workload) → reader.stage ≡ Ended → Leads n reader lines (Ok w) → Say n lines []
unfolding Leads Say Follows
nothing_behind n reader [] w ended leads = refl
nothing_behind n reader (line ∷ lines) w ended leads =
    let on = goes_on (λ after. Leads (suc n) after lines (Ok w)) n leads.0 w leads.2 in
    let taken = ended_taken reader leads.1.said on.0 ended (sym leads.1.taken ∙ on.1) in
    (Blank, subst (λ (l : Line). IsLine (without_return line) l) taken.0 leads.1.is_line, nothing_behind (suc n) on.0 lines w taken.1 on.2)

-- END ends a workload
at_ended : (tables : List Decl) (r : Result (List (List Piece)) FileReason) (next : Reader) → at_stage tables Ended r ≡ Ok next → next.stage ≡ Ended
unfolding at_stage
at_ended tables (Ok sessions) next e = (let same : at tables sessions Ended ≡ next = cc in ap (λ (r : Reader). r.stage) (sym same))
at_ended tables (Err why) next e = absurd (let no : ⊥ = cc in no)

end_taken : (stage : Stage) (tables : List Decl) (sessions : List (List Piece)) (next : Reader) → take_at stage tables sessions (Framed frame.End) ≡ Ok next → next.stage ≡ Ended
unfolding take_at opened declaring in_session framed_in_session after_end
end_taken Opening tables sessions next e = absurd (let no : ⊥ = cc in no)
end_taken Declaring tables sessions next e = (let same : at tables sessions Ended ≡ next = cc in ap (λ (r : Reader). r.stage) (sym same))
end_taken (Session pieces unfinished) tables sessions next e = at_ended tables (session_ended sessions pieces unfinished) next e
end_taken Ended tables sessions next e = absurd (let no : ⊥ = cc in no)

pub fault_taken : (stage : Stage) (tables : List Decl) (sessions : List (List Piece)) (r : Reason) (next : Reader) → take_at stage tables sessions (Faulty r) ≡ Ok next → ⊥
unfolding take_at opened declaring in_session after_end
fault_taken Opening tables sessions r next e = (let no : ⊥ = cc in no)
fault_taken Declaring tables sessions r next e = (let no : ⊥ = cc in no)
fault_taken (Session pieces unfinished) tables sessions r next e = (let no : ⊥ = cc in no)
fault_taken Ended tables sessions r next e = (let no : ⊥ = cc in no)

stage_is : (stage : Stage) → stage_ended stage ≡ true → stage ≡ Ended
unfolding stage_ended
stage_is Opening e = absurd (let no : ⊥ = cc in no)
stage_is Declaring e = absurd (let no : ⊥ = cc in no)
stage_is (Session pieces unfinished) e = absurd (let no : ⊥ = cc in no)
stage_is Ended e = refl

-- what lines say that lead to a workload
pub record SaysAll (n : ℕ) (lines : List (List ℕ)) : Type 0 where
  pub all : List SaidLine
  pub says : Say n lines all
  pub ends : EndsOnce all

says_blank : (n : ℕ) (line : List ℕ) (lines : List (List ℕ)) → IsLine (without_return line) Blank → SaysAll (suc n) lines → SaysAll n (line ∷ lines)
unfolding Say Follows
says_blank n line lines is later = record { all = later.all; says = (Blank, is, later.says); ends = later.ends }

says_end : (n : ℕ) (line : List ℕ) (lines : List (List ℕ)) → IsLine (without_return line) (Framed frame.End) → Say (suc n) lines [] → SaysAll n (line ∷ lines)
unfolding Say Follows EndsOnce Ending is_end IsPlain
says_end n line lines is none = record {
  all = record { number = n; said = Framed frame.End } ∷ [];
  says = (Framed frame.End, is, ([], none, refl));
  ends = (record { line = without_return line; is = is; plain = tt }, refl);
}

says_frame : (n : ℕ) (line : List ℕ) (lines : List (List ℕ)) (f : Frame) → is_end (Framed f) ≡ false → IsLine (without_return line) (Framed f) → SaysAll (suc n) lines → SaysAll n (line ∷ lines)
unfolding Say Follows EndsOnce Ending IsPlain
says_frame n line lines f goes is later = record {
  all = record { number = n; said = Framed f } ∷ later.all;
  says = (Framed f, is, (later.all, later.says, refl));
  ends = (record { line = without_return line; is = is; plain = tt }, subst (λ (b : Bool). Ending b later.all (EndsOnce later.all)) (sym goes) later.ends);
}

says_statement : (n : ℕ) (line : List ℕ) (lines : List (List ℕ)) (s : Stmt) → IsLine (without_return line) (Stated s) → SaysAll (suc n) lines → SaysAll n (line ∷ lines)
unfolding Say Follows EndsOnce Ending is_end IsPlain
says_statement n line lines s is later = record {
  all = record { number = n; said = Stated s } ∷ later.all;
  says = (Stated s, is, (later.all, later.says, refl));
  ends = (record { line = without_return line; is = is; plain = tt }, later.ends);
}

-- a line that doesn't end the workload
goes_line : (n : ℕ) (line : List ℕ) (lines : List (List ℕ)) (reader next : Reader) (said : Line) → IsLine (without_return line) said → take reader said ≡ Ok next → stage_ended next.stage ≡ false → SaysAll (suc n) lines
    → SaysAll n (line ∷ lines)
unfolding take is_end stage_ended
goes_line n line lines reader next Blank is e still later = says_blank n line lines is later
goes_line n line lines reader next (Framed frame.Header) is e still later = says_frame n line lines frame.Header refl is later
goes_line n line lines reader next (Framed (frame.Table name columns)) is e still later = says_frame n line lines (frame.Table name columns) refl is later
goes_line n line lines reader next (Framed frame.Session) is e still later = says_frame n line lines frame.Session refl is later
goes_line n line lines reader next (Framed frame.End) is e still later =
    absurd (let no : true ≡ false = ap stage_ended (sym (end_taken reader.stage reader.tables reader.sessions next e)) ∙ still in let bad : ⊥ = cc in bad)
goes_line n line lines reader next (Stated s) is e still later = says_statement n line lines s is later
goes_line n line lines reader next (Faulty r) is e still later = absurd (fault_taken reader.stage reader.tables reader.sessions r next e)

by_end : (ended : Bool) (n : ℕ) (line : List ℕ) (lines : List (List ℕ)) (reader next : Reader) (said : Line) (w : Workload) → stage_ended next.stage ≡ ended → stage_ended reader.stage ≡ false
    → IsLine (without_return line) said → take reader said ≡ Ok next → Leads (suc n) next lines (Ok w) → (stage_ended next.stage ≡ false → SaysAll (suc n) lines) → SaysAll n (line ∷ lines)
by_end true n line lines reader next said w ended still is e leads later =
    says_end n line lines (subst (λ (l : Line). IsLine (without_return line) l) (ends_by_end reader next said still e ended) is) (nothing_behind (suc n) next lines w (stage_is next.stage ended) leads)
by_end false n line lines reader next said w ended still is e leads later = goes_line n line lines reader next said is e ended (later ended)

no_workload : (reader : Reader) (n : ℕ) (w : Workload) → stage_ended reader.stage ≡ false → Ok w ≡ ended_at reader.stage n reader → ⊥
no_workload reader n w still e = (let both = e ∙ sym (open_end reader.stage n reader still) in let no : ⊥ = cc in no)

pub says_all : (n : ℕ) (reader : Reader) (lines : List (List ℕ)) (w : Workload) → stage_ended reader.stage ≡ false → Leads n reader lines (Ok w) → SaysAll n lines
unfolding Leads
says_all n reader [] w still leads = absurd (no_workload reader n w still leads)
says_all n reader (line ∷ lines) w still leads =
    let on = goes_on (λ after. Leads (suc n) after lines (Ok w)) n leads.0 w leads.2 in
    by_end (stage_ended on.0.stage) n line lines reader on.0 leads.1.said w refl still leads.1.is_line (sym leads.1.taken ∙ on.1) on.2
    (λ still. says_all (suc n) on.0 lines w still on.2)
