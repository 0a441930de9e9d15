-- A line says one thing, and so the bytes of a file give one verdict.
use Rattle.std.proofs.Common.{◌≡◌, ℕ, suc, Bool, true, false, List, [], ◌∷◌, length, Result, Ok, Err, refl, ap, sym, ◌∙◌, subst}
use Rattle.std.specs.Result.{IfOk, IfErr}
use Rattle.workload.specs.declared.script.Workload.{Workload}
use Rattle.sql_text.proofs.BlankLines.{blank_no_frame, blank_no_statement}
use Rattle.sql_text.proofs.Begun.{spells_once}
use Rattle.sql_text.proofs.FaultsOnce.{one_fault, fault_gives_none}
use Rattle.sql_text.proofs.FrameVerdicts.{one_frame, frame_gives_none}
use Rattle.sql_text.specs.Faults.{Gives}
use Rattle.sql_text.specs.Grammar.{Spells}
use Rattle.sql_text.specs.Lexing.{bare}
use Rattle.sql_text.specs.Words.{is_blank_line}
use Rattle.sql_text.specs.declared.parsing.Reason.TheVariants.{Syntax}
use Rattle.sql_text.specs.declared.statements.Stmt.{Stmt}
use Rattle.workload_file.specs.FileLines.{IsLine, lines_of, without_return}
use Rattle.workload_file.specs.Steps.{start, take}
use Rattle.workload_file.specs.WorkloadFile.{Verdict, NextLine, Goes, Leads, GivesUnless, GivesVerdict, IsReadAs, IsRefusal, IsWorkloadFile, is_too_long}
use Rattle.workload_file.specs.declared.lines.Line.{Line}
use Rattle.workload_file.specs.declared.lines.Line.TheVariants.{Blank, Framed, Stated, Faulty}
use Rattle.workload_file.specs.declared.reader.Reader.{Reader}
use Rattle.workload_file.specs.declared.stops.FileReason.{FileReason}
use Rattle.workload_file.specs.declared.stops.FileStop.{FileStop}
use Rattle.workload_file.specs.declared.stops.FileStop.TheVariants.{Bad, OutOfMemory}

one_statement : (line : List ℕ) (s t : Stmt) → Gives line s → Gives line t → s ≡ t
one_statement line s t gs gt =
    let both : Ok gs.tokens ≡ Ok gt.tokens = sym gs.line_tokens.lexed ∙ gt.line_tokens.lexed in
    let same : gs.tokens ≡ gt.tokens = cc in
    spells_once (bare gs.tokens) s t gs.spells (subst (λ r. Spells t (bare r)) (sym same) gt.spells)

blank_alone : (line : List ℕ) (said : Line) → is_blank_line line ≡ true → IsLine line said → said ≡ Blank
blank_alone line Blank blank is = refl
blank_alone line (Framed f) blank is = absurd (blank_no_frame line blank f is)
blank_alone line (Stated s) blank is = absurd (fault_gives_none line (length line) Syntax s (blank_no_statement line blank) is)
blank_alone line (Faulty r) blank is = absurd (let both : true ≡ false = sym blank ∙ is.not_blank in let no : ⊥ = cc in no)

pub one_line : (line : List ℕ) (a b : Line) → IsLine line a → IsLine line b → a ≡ b
one_line line Blank b is other = sym (blank_alone line b is other)
one_line line a Blank is other = blank_alone line a other is
one_line line (Framed f) (Framed g) is other = ap Framed (one_frame line f g is other)
one_line line (Framed f) (Stated s) is other = absurd (frame_gives_none line f s is other)
one_line line (Framed f) (Faulty r) is other = absurd (other.no_frame f is)
one_line line (Stated s) (Framed f) is other = absurd (frame_gives_none line f s other is)
one_line line (Stated s) (Stated t) is other = ap Stated (one_statement line s t is other)
one_line line (Stated s) (Faulty r) is other = absurd (fault_gives_none line other.at r s other.fault is)
one_line line (Faulty r) (Framed f) is other = absurd (is.no_frame f other)
one_line line (Faulty r) (Stated s) is other = absurd (fault_gives_none line is.at r s is.fault other)
one_line line (Faulty r) (Faulty q) is other = ap Faulty ((one_fault line is.at other.at r q is.fault other.fault).1)

pub one_next : (reader : Reader) (line : List ℕ) (a b : Result Reader FileReason) → NextLine reader line a → NextLine reader line b → a ≡ b
one_next reader line a b x y =
    x.taken ∙ ap (λ said. take reader said) (one_line (without_return line) x.said y.said x.is_line y.is_line) ∙ sym y.taken

one_goes : (n : ℕ) (next : Result Reader FileReason) (P Q : Reader → Type 0) (a b : Verdict)
    → ((after : Reader) → P after → Q after → a ≡ b)
    → Goes n next P a → Goes n next Q b → a ≡ b
unfolding Goes
one_goes n (Ok next) P Q a b rest p q = rest next p q
one_goes n (Err why) P Q a b rest p q = p ∙ sym q

pub one_leads : (n : ℕ) (reader : Reader) (lines : List (List ℕ)) (a b : Verdict) → Leads n reader lines a → Leads n reader lines b → a ≡ b
unfolding Leads
one_leads n reader [] a b x y = x ∙ sym y
one_leads n reader (line ∷ lines) a b x y =
    one_goes n x.0 (λ after. Leads (suc n) after lines a) (λ after. Leads (suc n) after lines b) a b
    (λ after p q. one_leads (suc n) after lines a b p q)
    x.2
    (subst (λ next. Goes n next (λ after. Leads (suc n) after lines b) b) (sym (one_next reader line x.0 y.0 x.1 y.1)) y.2)

one_unless : (long : Bool) (bytes : List ℕ) (a b : Verdict) → GivesUnless long bytes a → GivesUnless long bytes b → a ≡ b
unfolding GivesUnless
one_unless true bytes a b x y = x ∙ sym y
one_unless false bytes a b x y = one_leads 1 start (lines_of bytes) a b x y

pub one_verdict : (bytes : List ℕ) (a b : Verdict) → GivesVerdict bytes a → GivesVerdict bytes b → a ≡ b
one_verdict bytes a b x y = one_unless (is_too_long bytes) bytes a b x y

-- a workload that the bytes give is what was read
pub read_complete : (bytes : List ℕ) (verdict : Verdict) → IfOk verdict (λ (w : Workload). IsWorkloadFile bytes w) → IfErr verdict (λ (stop : FileStop). IsRefusal bytes stop) → (w : Workload) → IsWorkloadFile bytes w → IsReadAs w verdict
read_complete bytes (Ok v) read fault w is = (let same = one_verdict bytes (Ok v) (Ok w) read is in cc)
read_complete bytes (Err OutOfMemory) read fault w is = refl
read_complete bytes (Err (Bad line why)) read fault w is = absurd (let same = one_verdict bytes (Err (Bad line why)) (Ok w) fault is in let no : ⊥ = cc in no)
