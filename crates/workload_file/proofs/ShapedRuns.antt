-- Lines of one shape lead to workloads of one shape: what a line's shape makes of a reader's shape is the shape of what the line makes of the reader.
use Rattle.std.proofs.Common.{◌≡◌, ℕ, suc, Bool, true, false, List, [], ◌∷◌, length, map, Option, Some, None, Result, Ok, Err, if◌then◌else◌, refl, ap, sym, ◌∙◌, subst}
use Rattle.std.proofs.lemmas.List.{length-map, map-append}
use Rattle.sql_text.specs.declared.frames.Frame.{Frame}
use Rattle.sql_text.specs.declared.frames.Frame.TheVariants as frame
use Rattle.workload.specs.declared.script.Act.{Act}
use Rattle.workload.specs.declared.script.Decl.{Decl}
use Rattle.workload.specs.declared.script.Piece.{Piece}
use Rattle.workload.specs.declared.script.Workload.{Workload}
use Rattle.workload_file.specs.FileLines.{lines_of, without_return}
use Rattle.workload_file.specs.Naming.{declared}
use Rattle.workload_file.specs.Shapes.{HaveOneShape, line_shape, piece_shape, workload_shape}
use Rattle.workload_file.specs.Steps.{after_end, at, at_stage, declaring, framed_in_session, in_session, is_last_session, next_session, opened, session_ended, start, stated, take, take_at, with_stage, with_tables}
use Rattle.workload_file.specs.TwinFile.{AreTwins, Follows, GivesTwoUnless, IsTwinFile, SaidLine, Say, shape_of}
use Rattle.workload_file.specs.WorkloadFile.{Leads, ended_at, is_too_long}
use Rattle.workload_file.specs.declared.lines.Line.{Line}
use Rattle.workload_file.specs.declared.lines.Line.TheVariants.{Blank, Framed, Stated, Faulty}
use Rattle.workload_file.specs.declared.reader.Reader.{Reader}
use Rattle.workload_file.specs.declared.reader.Stage.{Stage}
use Rattle.workload_file.specs.declared.reader.Stage.TheVariants.{Opening, Declaring, Session, Ended}
use Rattle.workload_file.specs.declared.stops.FileReason.{FileReason}
use Rattle.workload_file.specs.declared.stops.FileReason.TheVariants as reason
use Rattle.workload_file.proofs.GrammarTaken.{take_blank}
use Rattle.workload_file.proofs.OneVerdict.{one_line}
use Rattle.workload_file.proofs.ShapedActs.{open_shape, pieces_shape, shaped, stage_shape, stated_shaped}
use Rattle.workload_file.proofs.TwinEnds.{goes_on}
use Rattle.workload_file.proofs.TwinOnce.{head_same}

abbrev sessions_shape : List (List Piece) → List (List Piece)
sessions_shape sessions = map (map piece_shape) sessions

reader_shape : Reader → Reader
reader_shape reader = at reader.tables (sessions_shape reader.sessions) (stage_shape reader.stage)

-- no table has a constant
with_tables_shaped : (sessions : List (List Piece)) (r : Result (List Decl) FileReason) → with_tables (sessions_shape sessions) r ≡ shaped reader_shape (with_tables sessions r)
unfolding with_tables shaped reader_shape stage_shape
with_tables_shaped sessions (Ok tables) = refl
with_tables_shaped sessions (Err why) = refl

opened_shaped : (tables : List Decl) (sessions : List (List Piece)) (said : Line) → opened tables (sessions_shape sessions) (line_shape said) ≡ shaped reader_shape (opened tables sessions said)
unfolding opened line_shape shaped reader_shape stage_shape
opened_shaped tables sessions Blank = refl
opened_shaped tables sessions (Framed frame.Header) = refl
opened_shaped tables sessions (Framed (frame.Table name columns)) = refl
opened_shaped tables sessions (Framed frame.Session) = refl
opened_shaped tables sessions (Framed frame.End) = refl
opened_shaped tables sessions (Stated s) = refl
opened_shaped tables sessions (Faulty f) = refl

declaring_shaped : (tables : List Decl) (sessions : List (List Piece)) (said : Line) → declaring tables (sessions_shape sessions) (line_shape said) ≡ shaped reader_shape (declaring tables sessions said)
unfolding declaring line_shape shaped reader_shape stage_shape open_shape
declaring_shaped tables sessions Blank = refl
declaring_shaped tables sessions (Framed frame.Header) = refl
declaring_shaped tables sessions (Framed (frame.Table name columns)) = with_tables_shaped sessions (declared tables name columns)
declaring_shaped tables sessions (Framed frame.Session) = refl
declaring_shaped tables sessions (Framed frame.End) = refl
declaring_shaped tables sessions (Stated s) = refl
declaring_shaped tables sessions (Faulty f) = refl

ended_shaped : (sessions : List (List Piece)) (pieces : List Piece) (unfinished : Option (List Act))
    → session_ended (sessions_shape sessions) (pieces_shape pieces) (open_shape unfinished) ≡ shaped sessions_shape (session_ended sessions pieces unfinished)
unfolding session_ended shaped open_shape
ended_shaped sessions pieces None =
    ap (λ (all : List (List Piece)). let ended : Result (List (List Piece)) FileReason = Ok all in ended) (sym (map-append (map piece_shape) sessions (pieces ∷ [])))
ended_shaped sessions pieces (Some acts) = refl

at_stage_shaped : (tables : List Decl) (stage : Stage) (r : Result (List (List Piece)) FileReason) → at_stage tables (stage_shape stage) (shaped sessions_shape r) ≡ shaped reader_shape (at_stage tables stage r)
unfolding at_stage shaped reader_shape
at_stage_shaped tables stage (Ok sessions) = refl
at_stage_shaped tables stage (Err why) = refl

on_stage : (tables : List Decl) (stage : Stage) (sessions : List (List Piece)) (pieces : List Piece) (unfinished : Option (List Act))
    → at_stage tables (stage_shape stage) (session_ended (sessions_shape sessions) (pieces_shape pieces) (open_shape unfinished)) ≡ shaped reader_shape (at_stage tables stage (session_ended sessions pieces unfinished))
on_stage tables stage sessions pieces unfinished =
    ap (λ (r : Result (List (List Piece)) FileReason). at_stage tables (stage_shape stage) r) (ended_shaped sessions pieces unfinished)
    ∙ at_stage_shaped tables stage (session_ended sessions pieces unfinished)

on_new : (tables : List Decl) (sessions : List (List Piece)) (pieces : List Piece) (unfinished : Option (List Act))
    → at_stage tables (Session [] None) (session_ended (sessions_shape sessions) (pieces_shape pieces) (open_shape unfinished))
    ≡ shaped reader_shape (at_stage tables (Session [] None) (session_ended sessions pieces unfinished))
unfolding stage_shape open_shape
on_new tables sessions pieces unfinished = on_stage tables (Session [] None) sessions pieces unfinished

on_end : (tables : List Decl) (sessions : List (List Piece)) (pieces : List Piece) (unfinished : Option (List Act))
    → at_stage tables Ended (session_ended (sessions_shape sessions) (pieces_shape pieces) (open_shape unfinished)) ≡ shaped reader_shape (at_stage tables Ended (session_ended sessions pieces unfinished))
unfolding stage_shape
on_end tables sessions pieces unfinished = on_stage tables Ended sessions pieces unfinished

unless_shaped : (last : Bool) (r q : Result Reader FileReason) → r ≡ shaped reader_shape q → (if last then Err reason.TooMany else r) ≡ shaped reader_shape (if last then Err reason.TooMany else q)
unfolding shaped
unless_shaped true r q e = refl
unless_shaped false r q e = e

next_shaped : (tables : List Decl) (sessions : List (List Piece)) (pieces : List Piece) (unfinished : Option (List Act))
    → next_session tables (sessions_shape sessions) (pieces_shape pieces) (open_shape unfinished) ≡ shaped reader_shape (next_session tables sessions pieces unfinished)
unfolding next_session
next_shaped tables sessions pieces unfinished =
    let own : Result Reader FileReason = at_stage tables (Session [] None) (session_ended (sessions_shape sessions) (pieces_shape pieces) (open_shape unfinished)) in
    ap (λ (n : ℕ). if is_last_session n then Err reason.TooMany else own) (length-map sessions (map piece_shape))
    ∙ unless_shaped (is_last_session (length sessions)) own (at_stage tables (Session [] None) (session_ended sessions pieces unfinished)) (on_new tables sessions pieces unfinished)

framed_shaped : (tables : List Decl) (sessions : List (List Piece)) (pieces : List Piece) (unfinished : Option (List Act)) (f : Frame)
    → framed_in_session tables (sessions_shape sessions) (pieces_shape pieces) (open_shape unfinished) f ≡ shaped reader_shape (framed_in_session tables sessions pieces unfinished f)
unfolding framed_in_session shaped
framed_shaped tables sessions pieces unfinished frame.Header = refl
framed_shaped tables sessions pieces unfinished (frame.Table name columns) = refl
framed_shaped tables sessions pieces unfinished frame.Session = next_shaped tables sessions pieces unfinished
framed_shaped tables sessions pieces unfinished frame.End = on_end tables sessions pieces unfinished

with_stage_shaped : (tables : List Decl) (sessions : List (List Piece)) (r : Result Stage FileReason) → with_stage tables (sessions_shape sessions) (shaped stage_shape r) ≡ shaped reader_shape (with_stage tables sessions r)
unfolding with_stage shaped reader_shape
with_stage_shaped tables sessions (Ok stage) = refl
with_stage_shaped tables sessions (Err why) = refl

session_shaped : (tables : List Decl) (sessions : List (List Piece)) (pieces : List Piece) (unfinished : Option (List Act)) (said : Line)
    → in_session tables (sessions_shape sessions) (pieces_shape pieces) (open_shape unfinished) (line_shape said) ≡ shaped reader_shape (in_session tables sessions pieces unfinished said)
unfolding in_session line_shape shaped reader_shape stage_shape
session_shaped tables sessions pieces unfinished Blank = refl
session_shaped tables sessions pieces unfinished (Framed f) = framed_shaped tables sessions pieces unfinished f
session_shaped tables sessions pieces unfinished (Stated s) =
    ap (λ (r : Result Stage FileReason). with_stage tables (sessions_shape sessions) r) (stated_shaped tables pieces unfinished s)
    ∙ with_stage_shaped tables sessions (stated tables pieces unfinished s)
session_shaped tables sessions pieces unfinished (Faulty f) = refl

after_shaped : (tables : List Decl) (sessions : List (List Piece)) (said : Line) → after_end tables (sessions_shape sessions) (line_shape said) ≡ shaped reader_shape (after_end tables sessions said)
unfolding after_end line_shape shaped reader_shape stage_shape
after_shaped tables sessions Blank = refl
after_shaped tables sessions (Framed f) = refl
after_shaped tables sessions (Stated s) = refl
after_shaped tables sessions (Faulty f) = refl

at_shaped : (stage : Stage) (tables : List Decl) (sessions : List (List Piece)) (said : Line)
    → take_at (stage_shape stage) tables (sessions_shape sessions) (line_shape said) ≡ shaped reader_shape (take_at stage tables sessions said)
unfolding take_at stage_shape
at_shaped Opening tables sessions said = opened_shaped tables sessions said
at_shaped Declaring tables sessions said = declaring_shaped tables sessions said
at_shaped (Session pieces unfinished) tables sessions said = session_shaped tables sessions pieces unfinished said
at_shaped Ended tables sessions said = after_shaped tables sessions said

take_shaped : (reader : Reader) (said : Line) → take (reader_shape reader) (line_shape said) ≡ shaped reader_shape (take reader said)
unfolding take reader_shape
take_shaped reader said = at_shaped reader.stage reader.tables reader.sessions said

-- lines, none of them blank, lead from a reader to a workload
RunsTo : Reader → List SaidLine → Workload → Type 0
RunsTo reader [] w = w ≡ record { tables = reader.tables; sessions = reader.sessions }
RunsTo reader (x ∷ all) w = (next : Reader) × (take reader x.said ≡ Ok next) × RunsTo next all w

read_to : (stage : Stage) (n : ℕ) (reader : Reader) (w : Workload) → Ok w ≡ ended_at stage n reader → w ≡ record { tables = reader.tables; sessions = reader.sessions }
unfolding ended_at
read_to Opening n reader w e = absurd (let no : ⊥ = cc in no)
read_to Declaring n reader w e = absurd (let no : ⊥ = cc in no)
read_to (Session pieces unfinished) n reader w e = absurd (let no : ⊥ = cc in no)
read_to Ended n reader w e = cc

blank_same : (reader next : Reader) → take reader Blank ≡ Ok next → next ≡ reader
unfolding take
blank_same reader next e =
    let both : Ok next ≡ Ok (at reader.tables reader.sessions reader.stage) = sym e ∙ take_blank reader.stage reader.tables reader.sessions in
    let same : next ≡ at reader.tables reader.sessions reader.stage = cc in
    same

line_runs : (n : ℕ) (lines : List (List ℕ)) (all : List SaidLine) (reader next : Reader) (w : Workload) (said : Line) → take reader said ≡ Ok next → Follows said n (Say (suc n) lines) all
    → ((others : List SaidLine) → Say (suc n) lines others → RunsTo next others w) → RunsTo reader all w
unfolding Follows RunsTo
line_runs n lines all reader next w Blank e follows rest = subst (λ (r : Reader). RunsTo r all w) (blank_same reader next e) (rest all follows)
line_runs n lines all reader next w (Framed f) e follows rest = subst (λ (ls : List SaidLine). RunsTo reader ls w) (sym follows.2) (next, e, rest follows.0 follows.1)
line_runs n lines all reader next w (Stated s) e follows rest = subst (λ (ls : List SaidLine). RunsTo reader ls w) (sym follows.2) (next, e, rest follows.0 follows.1)
line_runs n lines all reader next w (Faulty f) e follows rest = subst (λ (ls : List SaidLine). RunsTo reader ls w) (sym follows.2) (next, e, rest follows.0 follows.1)

leads_runs : (n : ℕ) (lines : List (List ℕ)) (all : List SaidLine) (reader : Reader) (w : Workload) → Leads n reader lines (Ok w) → Say n lines all → RunsTo reader all w
unfolding Leads Say RunsTo
leads_runs n [] all reader w leads says = subst (λ (ls : List SaidLine). RunsTo reader ls w) (sym says) (read_to reader.stage n reader w leads)
leads_runs n (line ∷ lines) all reader w leads says =
    let on = goes_on (λ after. Leads (suc n) after lines (Ok w)) n leads.0 w leads.2 in
    let taken : take reader leads.1.said ≡ Ok on.0 = sym leads.1.taken ∙ on.1 in
    let same : leads.1.said ≡ says.0 = one_line (without_return line) leads.1.said says.0 leads.1.is_line says.1 in
    line_runs n lines all reader on.0 w says.0 (subst (λ (l : Line). take reader l ≡ Ok on.0) same taken) says.2 (λ others tells. leads_runs (suc n) lines others on.0 w on.2 tells)

-- two runs in step
of_reader : Reader → Workload
of_reader reader = record { tables = reader.tables; sessions = reader.sessions }

made_shape : (reader : Reader) (w : Workload) → w ≡ record { tables = reader.tables; sessions = reader.sessions } → workload_shape w ≡ of_reader (reader_shape reader)
unfolding workload_shape of_reader reader_shape
made_shape reader w e = ap workload_shape e

step_shape : (r q next other : Reader) (a b : Line) → reader_shape r ≡ reader_shape q → line_shape a ≡ line_shape b → take r a ≡ Ok next → take q b ≡ Ok other → reader_shape next ≡ reader_shape other
unfolding shaped
step_shape r q next other a b readers lines e f =
    let both : Ok (reader_shape next) ≡ Ok (reader_shape other) =
    sym (ap (shaped reader_shape) e) ∙ sym (take_shaped r a) ∙ ap (λ (x : Reader). take x (line_shape a)) readers ∙ ap (λ (l : Line). take (reader_shape q) l) lines
    ∙ take_shaped q b ∙ ap (shaped reader_shape) f in
    cc

runs_shape : (xs ys : List SaidLine) (r q : Reader) (v w : Workload) → reader_shape r ≡ reader_shape q → map shape_of xs ≡ map shape_of ys → RunsTo r xs v → RunsTo q ys w → workload_shape v ≡ workload_shape w
unfolding RunsTo
runs_shape [] [] r q v w readers lines a b = made_shape r v a ∙ ap of_reader readers ∙ sym (made_shape q w b)
runs_shape [] (y ∷ ys) r q v w readers lines a b = absurd (let no : ⊥ = cc in no)
runs_shape (x ∷ xs) [] r q v w readers lines a b = absurd (let no : ⊥ = cc in no)
runs_shape (x ∷ xs) (y ∷ ys) r q v w readers lines a b =
    let each = head_same x y xs ys lines in
    runs_shape xs ys a.0 b.0 v w (step_shape r q a.0 b.0 x.said y.said readers each.0 a.1 b.1) each.1 a.2 b.2

pub twins_shape : (lines : List (List ℕ)) (v w : Workload) → AreTwins lines v w → HaveOneShape v w
twins_shape lines v w twins =
    runs_shape twins.first twins.second start start v w refl twins.same
    (leads_runs 1 twins.two.front twins.first start v twins.two.cut.spelled twins.two.first_says)
    (leads_runs (suc (length twins.two.front)) twins.two.back twins.second start w twins.two.spelled twins.two.second_says)

shape_by : (long : Bool) (bytes : List ℕ) (pair : Workload × Workload) → GivesTwoUnless long bytes (Ok pair) → HaveOneShape pair.0 pair.1
unfolding GivesTwoUnless
shape_by true bytes pair gives = absurd (let no : ⊥ = cc in no)
shape_by false bytes pair gives = twins_shape (lines_of bytes) pair.0 pair.1 gives

pub twin_file_shape : (bytes : List ℕ) (pair : Workload × Workload) → IsTwinFile bytes pair → HaveOneShape pair.0 pair.1
twin_file_shape bytes pair gives = shape_by (is_too_long bytes) bytes pair gives
