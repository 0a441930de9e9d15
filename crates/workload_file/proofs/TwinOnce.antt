-- The bytes of a file give one verdict as two workloads.
use Rattle.std.proofs.Common.{◌≡◌, ◌⊎◌, ℕ, suc, ◌+◌, ◌≤◌, Bool, true, false, List, [], ◌∷◌, ◌++◌, length, map, Result, Ok, Err, refl, ap, sym, ◌∙◌, subst, arith, append-nil, inl, inr}
use Rattle.std.specs.Result.{IfErr, IfOk}
use Rattle.sql_text.specs.declared.frames.Frame.TheVariants as frame
use Rattle.workload.specs.declared.script.Decl.{Decl}
use Rattle.workload.specs.declared.script.Piece.{Piece}
use Rattle.workload.specs.declared.script.Workload.{Workload}
use Rattle.workload_file.specs.FileLines.{IsLine, lines_of, without_return}
use Rattle.workload_file.specs.Steps.{after_end, at, start, take, take_at}
use Rattle.workload_file.specs.TwinFile.{AreReadAs, AreTwins, AreTwo, DifferAt, Follows, GivesTwinVerdict, GivesTwo, GivesTwoUnless, HaveTwoShapes, IsCut, IsFirstFault, IsSecondFault, IsTwinFault, IsTwinFile, IsTwinRefusal, SaidLine, Say, TwinVerdict, shape_of}
use Rattle.workload_file.specs.WorkloadFile.{Goes, Leads, NextLine, Verdict, ended_at, is_too_long}
use Rattle.workload_file.specs.declared.lines.Line.{Line}
use Rattle.workload_file.specs.declared.lines.Line.TheVariants.{Blank, Framed, Stated, Faulty}
use Rattle.workload_file.specs.declared.reader.Reader.{Reader}
use Rattle.workload_file.specs.declared.reader.Stage.{Stage}
use Rattle.workload_file.specs.declared.reader.Stage.TheVariants.{Opening, Declaring, Session, Ended}
use Rattle.workload_file.specs.declared.stops.FileReason.{FileReason}
use Rattle.workload_file.specs.declared.stops.FileReason.TheVariants as reason
use Rattle.workload_file.specs.declared.stops.FileStop.{FileStop}
use Rattle.workload_file.specs.declared.stops.FileStop.TheVariants.{Bad, OutOfMemory}
use Rattle.workload_file.proofs.OneVerdict.{one_leads, one_line, one_next}
use Rattle.workload_file.proofs.TwinEnds.{nothing_behind}

-- of two ways to cut a list one is the longer
split_two : {A : Type 0} (a b c d : List A) → a ++ b ≡ c ++ d → ((zs : List A) × (c ≡ a ++ zs) × (b ≡ zs ++ d)) ⊎ ((zs : List A) × (a ≡ c ++ zs) × (d ≡ zs ++ b))
split_two [] b c d e = inl (c, refl, e)
split_two (x ∷ a) b [] d e = inr (x ∷ a, refl, sym e)
split_two {A} (x ∷ a) b (y ∷ c) d e =
    let head : x ≡ y = cc in
    let tail : a ++ b ≡ c ++ d = cc in
    elim (split_two a b c d tail) [
      | inl s ↦ inl (s.0, ap (λ (l : List A). y ∷ l) s.1 ∙ ap (λ (z : A). z ∷ (a ++ s.0)) (sym head), s.2)
      | inr s ↦ inr (s.0, ap (λ (l : List A). x ∷ l) s.1 ∙ ap (λ (z : A). z ∷ (c ++ s.0)) head, s.2)
    ]

goes_ok : (n : ℕ) (next : Result Reader FileReason) (after : Reader) (P : Reader → Type 0) (verdict : Verdict) → next ≡ Ok after → Goes n next P verdict → P after
unfolding Goes
goes_ok n next after P verdict e goes = subst (λ (r : Result Reader FileReason). Goes n r P verdict) e goes

stage_of : (stage : Stage) (n : ℕ) (r : Reader) (w : Workload) → Ok w ≡ ended_at stage n r → stage ≡ Ended
unfolding ended_at
stage_of Opening n r w e = absurd (let no : ⊥ = cc in no)
stage_of Declaring n r w e = absurd (let no : ⊥ = cc in no)
stage_of (Session pieces unfinished) n r w e = absurd (let no : ⊥ = cc in no)
stage_of Ended n r w e = refl

-- what is read behind a whole workload
record IsBehind (n : ℕ) (ys : List (List ℕ)) (verdict : Verdict) : Type 0 where
  reader : Reader
  ended : reader.stage ≡ Ended
  leads : Leads n reader ys verdict

-- one more line that is read
record IsOn (n : ℕ) (r : Reader) (line : List ℕ) (lines : List (List ℕ)) (verdict : Verdict) : Type 0 where
  next : Result Reader FileReason
  is : NextLine r line next
  goes : Goes n next (λ after. Leads (suc n) after lines verdict) verdict

on_line : (n : ℕ) (r : Reader) (line : List ℕ) (lines : List (List ℕ)) (verdict : Verdict) → Leads n r (line ∷ lines) verdict → IsOn n r line lines verdict
unfolding Leads
on_line n r line lines verdict leads = record { next = leads.0; is = leads.1; goes = leads.2 }

record IsTaken (n : ℕ) (r : Reader) (line : List ℕ) (lines : List (List ℕ)) (verdict : Verdict) : Type 0 where
  after : Reader
  is : NextLine r line (Ok after)
  leads : Leads (suc n) after lines verdict

taken_by : (n : ℕ) (r : Reader) (line : List ℕ) (lines : List (List ℕ)) (w : Workload) (next : Result Reader FileReason) → NextLine r line next → Goes n next (λ after. Leads (suc n) after lines (Ok w)) (Ok w) → IsTaken n r line lines (Ok w)
unfolding Goes
taken_by n r line lines w (Ok after) is goes = record { after = after; is = is; leads = goes }
taken_by n r line lines w (Err why) is goes = absurd (let no : ⊥ = cc in no)

-- the same line is taken in the same way
same_on : (n : ℕ) (r after : Reader) (line : List ℕ) (lines : List (List ℕ)) (verdict : Verdict) → NextLine r line (Ok after) → Leads n r (line ∷ lines) verdict → Leads (suc n) after lines verdict
same_on n r after line lines verdict is leads =
    let on = on_line n r line lines verdict leads in
    goes_ok n on.next after (λ next. Leads (suc n) next lines verdict) verdict (one_next r line on.next (Ok after) on.is is) on.goes

behind_ended : (n m : ℕ) (r : Reader) (xs ys : List (List ℕ)) (v : Workload) (verdict : Verdict) → m ≡ n + length xs → Leads n r xs (Ok v) → Leads n r (xs ++ ys) verdict → IsBehind m ys verdict
unfolding Leads
behind_ended n m r [] ys v verdict size first second =
    let same : n ≡ m = omega (arith, size) in
    record { reader = r; ended = stage_of r.stage n r v first; leads = subst (λ (k : ℕ). Leads k r ys verdict) same second }
behind_ended n m r (x ∷ xs) ys v verdict size first second =
    let t = taken_by n r x xs v first.0 first.1 first.2 in
    behind_ended (suc n) m t.after xs ys v verdict (let eq : m ≡ suc n + length xs = omega (arith, size) in eq) t.leads (same_on n r t.after x (xs ++ ys) verdict t.is second)

blank_by : (n : ℕ) (lines : List (List ℕ)) (line : List ℕ) (one : Line) → IsLine line one → Follows one n (Say (suc n) lines) [] → IsLine line Blank × Say (suc n) lines []
unfolding Follows
blank_by n lines line Blank is f = (is, f)
blank_by n lines line (Framed g) is f = absurd (let e = f.2 in let no : ⊥ = cc in no)
blank_by n lines line (Stated g) is f = absurd (let e = f.2 in let no : ⊥ = cc in no)
blank_by n lines line (Faulty g) is f = absurd (let e = f.2 in let no : ⊥ = cc in no)

-- lines that say nothing are blank
all_blank : (n : ℕ) (lines : List (List ℕ)) (ws : List (List ℕ)) (last : List ℕ) → lines ≡ ws ++ last ∷ [] → Say n lines [] → IsLine (without_return last) Blank
unfolding Say
all_blank n [] [] last e says = absurd (let no : ⊥ = cc in no)
all_blank n [] (w ∷ ws) last e says = absurd (let no : ⊥ = cc in no)
all_blank n (line ∷ lines) [] last e says =
    let same : line ≡ last = cc in
    subst (λ (l : List ℕ). IsLine (without_return l) Blank) same (blank_by n lines (without_return line) says.0 says.1 says.2).0
all_blank n (line ∷ lines) (w ∷ ws) last e says =
    let rest : lines ≡ ws ++ last ∷ [] = cc in
    all_blank (suc n) lines ws last rest (blank_by n lines (without_return line) says.0 says.1 says.2).1

-- behind END no END follows
no_end : (n : ℕ) (zs ws : List (List ℕ)) (last : List ℕ) → zs ≡ ws ++ last ∷ [] → Say n zs [] → IsLine (without_return last) (Framed frame.End) → ⊥
no_end n zs ws last e says is =
    let both : Blank ≡ Framed frame.End = one_line (without_return last) Blank (Framed frame.End) (all_blank n zs ws last e says) is in
    let no : ⊥ = cc in
    no

none_behind : {A : Type 0} (ws zs : List A) → ws ++ zs ≡ [] → zs ≡ []
none_behind [] zs e = e
none_behind (w ∷ ws) zs e = absurd (let no : ⊥ = cc in no)

nothing_left : (n : ℕ) (zs ws : List (List ℕ)) (last : List ℕ) → last ∷ [] ≡ ws ++ zs → IsLine (without_return last) (Framed frame.End) → Say n zs [] → zs ≡ []
nothing_left n zs [] last e is says = absurd (no_end n zs [] last (sym e) says is)
nothing_left n zs (w ∷ ws) last e is says = (let rest : [] ≡ ws ++ zs = cc in none_behind ws zs (sym rest))

nothing_more : (n : ℕ) (front zs before : List (List ℕ)) (last : List ℕ) → front ++ zs ≡ before ++ last ∷ [] → IsLine (without_return last) (Framed frame.End) → Say n zs [] → zs ≡ []
nothing_more n front zs before last e is says =
    elim (split_two front zs before (last ∷ []) e) [
      | inl s ↦ absurd (no_end n zs s.0 last s.2 says is)
      | inr s ↦ nothing_left n zs s.0 last s.2 is says
    ]

-- a workload's lines aren't the first of another's
not_longer : (lines : List (List ℕ)) (v w : Workload) (front back other left zs : List (List ℕ)) → IsCut lines v front back → IsCut lines w other left → other ≡ front ++ zs → zs ≡ []
not_longer lines v w front back other left zs a b e =
    let number : ℕ = 1 + length front in
    let behind = behind_ended 1 number start front zs v (Ok w) refl a.spelled (subst (λ (ls : List (List ℕ)). Leads 1 start ls (Ok w)) e b.spelled) in
    nothing_more number front zs b.before b.last (sym e ∙ b.front_is) b.is_end (nothing_behind number behind.reader zs w behind.ended behind.leads)

record AreOne (v w : Workload) (front back other left : List (List ℕ)) : Type 0 where
  fronts : front ≡ other
  backs : back ≡ left
  workloads : v ≡ w

one_workload : (front other : List (List ℕ)) (v w : Workload) → front ≡ other → Leads 1 start front (Ok v) → Leads 1 start other (Ok w) → v ≡ w
one_workload front other v w e first second =
    let both : Ok v ≡ Ok w = one_leads 1 start front (Ok v) (Ok w) first (subst (λ (ls : List (List ℕ)). Leads 1 start ls (Ok w)) (sym e) second) in
    cc

one_cut : (lines : List (List ℕ)) (v w : Workload) (front back other left : List (List ℕ)) → IsCut lines v front back → IsCut lines w other left → AreOne v w front back other left
one_cut lines v w front back other left a b =
    elim (split_two front back other left (sym a.whole ∙ b.whole)) [
      | inl s ↦ (
          let none : s.0 ≡ [] = not_longer lines v w front back other left s.0 a b s.1 in
          let same : front ≡ other = sym (append-nil front) ∙ ap (λ (zs : List (List ℕ)). front ++ zs) (sym none) ∙ sym s.1 in
          record { fronts = same; backs = s.2 ∙ ap (λ (zs : List (List ℕ)). zs ++ left) none; workloads = one_workload front other v w same a.spelled b.spelled })
      | inr s ↦ (
          let none : s.0 ≡ [] = not_longer lines w v other left front back s.0 b a s.1 in
          let same : front ≡ other = s.1 ∙ ap (λ (zs : List (List ℕ)). other ++ zs) none ∙ append-nil other in
          record { fronts = same; backs = sym (s.2 ∙ ap (λ (zs : List (List ℕ)). zs ++ back) none); workloads = one_workload front other v w same a.spelled b.spelled })
    ]

-- what lines say is one list
follows_once : (one : Line) (n : ℕ) (P : List SaidLine → Type 0) (a b : List SaidLine) → ((x y : List SaidLine) → P x → P y → x ≡ y) → Follows one n P a → Follows one n P b → a ≡ b
unfolding Follows
follows_once Blank n P a b once f g = once a b f g
follows_once (Framed h) n P a b once f g = f.2 ∙ ap (λ (ls : List SaidLine). let x : SaidLine = record { number = n; said = Framed h } in x ∷ ls) (once f.0 g.0 f.1 g.1) ∙ sym g.2
follows_once (Stated h) n P a b once f g = f.2 ∙ ap (λ (ls : List SaidLine). let x : SaidLine = record { number = n; said = Stated h } in x ∷ ls) (once f.0 g.0 f.1 g.1) ∙ sym g.2
follows_once (Faulty h) n P a b once f g = f.2 ∙ ap (λ (ls : List SaidLine). let x : SaidLine = record { number = n; said = Faulty h } in x ∷ ls) (once f.0 g.0 f.1 g.1) ∙ sym g.2

say_once : (n : ℕ) (lines : List (List ℕ)) (a b : List SaidLine) → Say n lines a → Say n lines b → a ≡ b
unfolding Say
say_once n [] a b x y = x ∙ sym y
say_once n (line ∷ lines) a b x y =
    follows_once x.0 n (Say (suc n) lines) a b (λ c d p q. say_once (suc n) lines c d p q) x.2
    (subst (λ (one : Line). Follows one n (Say (suc n) lines) b) (one_line (without_return line) y.0 x.0 y.1 x.1) y.2)

say_same : (n m : ℕ) (lines others : List (List ℕ)) (a b : List SaidLine) → n ≡ m → lines ≡ others → Say n lines a → Say m others b → a ≡ b
say_same n m lines others a b e f x y =
    say_once n lines a b x (subst (λ (k : ℕ). Say k lines b) (sym e) (subst (λ (ls : List (List ℕ)). Say m ls b) (sym f) y))

leads_same : (n m : ℕ) (lines others : List (List ℕ)) (a b : Verdict) → n ≡ m → lines ≡ others → Leads n start lines a → Leads m start others b → a ≡ b
leads_same n m lines others a b e f x y =
    one_leads n start lines a b x (subst (λ (k : ℕ). Leads k start lines b) (sym e) (subst (λ (ls : List (List ℕ)). Leads m start ls b) (sym f) y))

record AreTheSame (v w x y : Workload) (a b c d : List SaidLine) : Type 0 where
  firsts : v ≡ x
  seconds : w ≡ y
  said : a ≡ c
  also : b ≡ d

two_once : (lines : List (List ℕ)) (v w x y : Workload) (a b c d : List SaidLine) → AreTwo lines v w a b → AreTwo lines x y c d → AreTheSame v w x y a b c d
two_once lines v w x y a b c d one other =
    let cut = one_cut lines v x one.front one.back other.front other.back one.cut other.cut in
    let number : suc (length one.front) ≡ suc (length other.front) = ap (λ (ls : List (List ℕ)). suc (length ls)) cut.fronts in
    let both : Ok w ≡ Ok y = leads_same (suc (length one.front)) (suc (length other.front)) one.back other.back (Ok w) (Ok y) number cut.backs one.spelled other.spelled in
    record {
      firsts = cut.workloads;
      seconds = cc;
      said = say_same 1 1 one.front other.front a c refl cut.fronts one.first_says other.first_says;
      also = say_same (suc (length one.front)) (suc (length other.front)) one.back other.back b d number cut.backs one.second_says other.second_says;
    }

differ_once : (xs ys : List SaidLine) (n m : ℕ) → DifferAt xs ys n → DifferAt xs ys m → n ≡ m
unfolding DifferAt
differ_once [] ys n m a b = absurd a
differ_once (x ∷ xs) [] n m a b = absurd a
differ_once (x ∷ xs) (y ∷ ys) n m (inl a) (inl b) = differ_once xs ys n m a.1 b.1
differ_once (x ∷ xs) (y ∷ ys) n m (inl a) (inr b) = absurd (b.0 a.0)
differ_once (x ∷ xs) (y ∷ ys) n m (inr a) (inl b) = absurd (a.0 b.0)
differ_once (x ∷ xs) (y ∷ ys) n m (inr a) (inr b) = a.1 ∙ sym b.1

pub head_same : (x y : SaidLine) (xs ys : List SaidLine) → map shape_of (x ∷ xs) ≡ map shape_of (y ∷ ys) → (shape_of x ≡ shape_of y) × (map shape_of xs ≡ map shape_of ys)
head_same x y xs ys e = (cc, cc)

differ_apart : (xs ys : List SaidLine) (n : ℕ) → map shape_of xs ≡ map shape_of ys → DifferAt xs ys n → ⊥
unfolding DifferAt
differ_apart [] ys n e d = d
differ_apart (x ∷ xs) [] n e d = d
differ_apart (x ∷ xs) (y ∷ ys) n e (inl d) = differ_apart xs ys n (head_same x y xs ys e).1 d.1
differ_apart (x ∷ xs) (y ∷ ys) n e (inr d) = d.0 (head_same x y xs ys e).0

short_at : (stage : Stage) (n k : ℕ) (r : Reader) → stage ≡ Ended → Err (Bad k reason.NoEnd) ≡ ended_at stage n r → ⊥
unfolding ended_at
short_at Opening n k r ended e = (let no : ⊥ = cc in no)
short_at Declaring n k r ended e = (let no : ⊥ = cc in no)
short_at (Session pieces unfinished) n k r ended e = (let no : ⊥ = cc in no)
short_at Ended n k r ended e = (let no : ⊥ = cc in no)

after_said : (tables : List Decl) (sessions : List (List Piece)) (n k : ℕ) (said : Line) (next : Result Reader FileReason) (P : Reader → Type 0) → next ≡ after_end tables sessions said → Goes n next P (Err (Bad k reason.NoEnd))
    → ((after : Reader) → after.stage ≡ Ended → P after → ⊥) → ⊥
unfolding after_end Goes
after_said tables sessions n k Blank next P e goes rest =
    rest (at tables sessions Ended) refl (subst (λ (r : Result Reader FileReason). Goes n r P (Err (Bad k reason.NoEnd))) e goes)
after_said tables sessions n k (Framed f) next P e goes rest =
    (let bad : Err (Bad k reason.NoEnd) ≡ Err (Bad n reason.TextAfterEnd) = subst (λ (r : Result Reader FileReason). Goes n r P (Err (Bad k reason.NoEnd))) e goes in let no : ⊥ = cc in no)
after_said tables sessions n k (Stated f) next P e goes rest =
    (let bad : Err (Bad k reason.NoEnd) ≡ Err (Bad n reason.TextAfterEnd) = subst (λ (r : Result Reader FileReason). Goes n r P (Err (Bad k reason.NoEnd))) e goes in let no : ⊥ = cc in no)
after_said tables sessions n k (Faulty f) next P e goes rest =
    (let bad : Err (Bad k reason.NoEnd) ≡ Err (Bad n reason.TextAfterEnd) = subst (λ (r : Result Reader FileReason). Goes n r P (Err (Bad k reason.NoEnd))) e goes in let no : ⊥ = cc in no)

short_by : (n k : ℕ) (r : Reader) (zs : List (List ℕ)) (said : Line) (next : Result Reader FileReason) → r.stage ≡ Ended → next ≡ take r said → Goes n next (λ after. Leads (suc n) after zs (Err (Bad k reason.NoEnd))) (Err (Bad k reason.NoEnd))
    → ((after : Reader) → after.stage ≡ Ended → Leads (suc n) after zs (Err (Bad k reason.NoEnd)) → ⊥) → ⊥
unfolding take take_at
short_by n k r zs said next ended e goes rest =
    after_said r.tables r.sessions n k said next (λ after. Leads (suc n) after zs (Err (Bad k reason.NoEnd))) (e ∙ ap (λ (s : Stage). take_at s r.tables r.sessions said) ended) goes rest

-- behind END the lines don't lack an END
never_short : (n k : ℕ) (r : Reader) (zs : List (List ℕ)) → r.stage ≡ Ended → Leads n r zs (Err (Bad k reason.NoEnd)) → ⊥
unfolding Leads
never_short n k r [] ended leads = short_at r.stage n k r ended leads
never_short n k r (z ∷ zs) ended leads = short_by n k r zs leads.1.said leads.0 ended leads.1.taken leads.2 (λ after e on. never_short (suc n) k after zs e on)

fault_at : (stage : Stage) (n k : ℕ) (r : Reader) (why : FileReason) → Err (Bad k why) ≡ ended_at stage n r → n ≤ k
unfolding ended_at
fault_at Opening n k r why e = (let same : k ≡ n = cc in omega (arith, same))
fault_at Declaring n k r why e = (let same : k ≡ n = cc in omega (arith, same))
fault_at (Session pieces unfinished) n k r why e = (let same : k ≡ n = cc in omega (arith, same))
fault_at Ended n k r why e = absurd (let no : ⊥ = cc in no)

fault_by : (n k : ℕ) (lines : List (List ℕ)) (why : FileReason) (next : Result Reader FileReason) → Goes n next (λ after. Leads (suc n) after lines (Err (Bad k why))) (Err (Bad k why))
    → ((after : Reader) → Leads (suc n) after lines (Err (Bad k why)) → suc n ≤ k) → n ≤ k
unfolding Goes
fault_by n k lines why (Ok after) goes rest = (let more = rest after goes in omega (arith, more))
fault_by n k lines why (Err by) goes rest = (let same : k ≡ n = cc in omega (arith, same))

-- a fault isn't before the line from which on it is read
later_fault : (n k : ℕ) (r : Reader) (lines : List (List ℕ)) (why : FileReason) → Leads n r lines (Err (Bad k why)) → n ≤ k
unfolding Leads
later_fault n k r [] why leads = fault_at r.stage n k r why leads
later_fault n k r (line ∷ lines) why leads = fault_by n k lines why leads.0 leads.2 (λ after on. later_fault (suc n) k after lines why on)

-- a workload that is cut off at its END has no fault before it: read on, it comes past the line of the fault
past_fault : (n : ℕ) (r : Reader) (before zs rest : List (List ℕ)) (v : Workload) (why : FileReason) (k number : ℕ) → number ≡ n + length before → Leads n r (before ++ zs) (Ok v) → Leads n r before (Err (Bad k reason.NoEnd))
    → Leads n r ((before ++ zs) ++ rest) (Err (Bad number why)) → ⊥
unfolding Leads
past_fault n r [] [] rest v why k number size whole short fault = (let both : Ok v ≡ Err (Bad k reason.NoEnd) = whole ∙ sym short in let no : ⊥ = cc in no)
past_fault n r [] (z ∷ zs) rest v why k number size whole short fault =
    let t = taken_by n r z zs v whole.0 whole.1 whole.2 in
    let more = later_fault (suc n) number t.after (zs ++ rest) why (same_on n r t.after z (zs ++ rest) (Err (Bad number why)) t.is fault) in
    omega (arith, more, size)
past_fault n r (x ∷ before) zs rest v why k number size whole short fault =
    let t = taken_by n r x (before ++ zs) v whole.0 whole.1 whole.2 in
    past_fault (suc n) t.after before zs rest v why k number (let eq : number ≡ suc n + length before = omega (arith, size) in eq) t.leads
    (same_on n r t.after x before (Err (Bad k reason.NoEnd)) t.is short) (same_on n r t.after x ((before ++ zs) ++ rest) (Err (Bad number why)) t.is fault)

no_first_fault : (lines front back : List (List ℕ)) (v : Workload) (number : ℕ) (why : FileReason) → IsCut lines v front back → IsFirstFault lines number why → ⊥
no_first_fault lines front back v number why cut fault =
    elim (split_two front back fault.before fault.behind (sym cut.whole ∙ fault.whole)) [
      | inl s ↦ (
          let behind = behind_ended 1 (1 + length front) start front s.0 v (Err (Bad number reason.NoEnd)) refl cut.spelled (subst (λ (ls : List (List ℕ)). Leads 1 start ls (Err (Bad number reason.NoEnd))) s.1 fault.not_ended) in
          never_short (1 + length front) number behind.reader s.0 behind.ended behind.leads)
      | inr s ↦ past_fault 1 start fault.before s.0 back v why number number (let size = fault.number_is in omega (arith, size)) (subst (λ (ls : List (List ℕ)). Leads 1 start ls (Ok v)) s.1 cut.spelled) fault.not_ended
          (subst (λ (ls : List (List ℕ)). Leads 1 start ls (Err (Bad number why))) (cut.whole ∙ ap (λ (ls : List (List ℕ)). ls ++ back) s.1) fault.fault)
    ]

-- faults of the second workload
second_once : (lines : List (List ℕ)) (n m : ℕ) (why by : FileReason) → IsSecondFault lines n why → IsSecondFault lines m by → (n ≡ m) × (why ≡ by)
second_once lines n m why by a b =
    let cut = one_cut lines a.first b.first a.front a.back b.front b.back a.cut b.cut in
    let both : Err (Bad n why) ≡ Err (Bad m by) =
    leads_same (suc (length a.front)) (suc (length b.front)) a.back b.back (Err (Bad n why)) (Err (Bad m by)) (ap (λ (ls : List (List ℕ)). suc (length ls)) cut.fronts) cut.backs a.fault b.fault in
    (cc, cc)

no_second : (lines : List (List ℕ)) (v w : Workload) (a b : List SaidLine) (n : ℕ) (why : FileReason) → AreTwo lines v w a b → IsSecondFault lines n why → ⊥
no_second lines v w a b n why two fault =
    let cut = one_cut lines v fault.first two.front two.back fault.front fault.back two.cut fault.cut in
    let both : Ok w ≡ Err (Bad n why) =
    leads_same (suc (length two.front)) (suc (length fault.front)) two.back fault.back (Ok w) (Err (Bad n why)) (ap (λ (ls : List (List ℕ)). suc (length ls)) cut.fronts) cut.backs two.spelled fault.fault in
    let no : ⊥ = cc in
    no

no_shapes : (lines : List (List ℕ)) (v w : Workload) (n : ℕ) (why : FileReason) → AreTwins lines v w → HaveTwoShapes lines n why → ⊥
no_shapes lines v w n why twins apart =
    let same = two_once lines v w apart.v apart.w twins.first twins.second apart.first apart.second twins.two apart.two in
    differ_apart apart.first apart.second n (ap (λ (ls : List SaidLine). map shape_of ls) (sym same.said) ∙ twins.same ∙ ap (λ (ls : List SaidLine). map shape_of ls) same.also) apart.differ

no_fault : (lines : List (List ℕ)) (v w : Workload) (n : ℕ) (why : FileReason) → AreTwins lines v w → IsTwinFault lines n why → ⊥
no_fault lines v w n why twins (inl fault) = no_first_fault lines twins.two.front twins.two.back v n why twins.two.cut fault
no_fault lines v w n why twins (inr (inl fault)) = no_second lines v w twins.first twins.second n why twins.two fault
no_fault lines v w n why twins (inr (inr apart)) = no_shapes lines v w n why twins apart

first_once : (lines : List (List ℕ)) (n m : ℕ) (why by : FileReason) → IsFirstFault lines n why → IsFirstFault lines m by → (n ≡ m) × (why ≡ by)
first_once lines n m why by a b =
    let both : Err (Bad n why) ≡ Err (Bad m by) = one_leads 1 start lines (Err (Bad n why)) (Err (Bad m by)) a.fault b.fault in
    (cc, cc)

shapes_once : (lines : List (List ℕ)) (n m : ℕ) (why by : FileReason) → HaveTwoShapes lines n why → HaveTwoShapes lines m by → (n ≡ m) × (why ≡ by)
shapes_once lines n m why by a b =
    let same = two_once lines a.v a.w b.v b.w a.first a.second b.first b.second a.two b.two in (
      differ_once b.first b.second n m
          (subst (λ (ls : List SaidLine). DifferAt ls b.second n) same.said (subst (λ (ls : List SaidLine). DifferAt a.first ls n) same.also a.differ)) b.differ,
      a.why_is ∙ sym b.why_is,
    )

fault_once : (lines : List (List ℕ)) (n m : ℕ) (why by : FileReason) → IsTwinFault lines n why → IsTwinFault lines m by → (n ≡ m) × (why ≡ by)
fault_once lines n m why by (inl a) (inl b) = first_once lines n m why by a b
fault_once lines n m why by (inl a) (inr (inl b)) = absurd (no_first_fault lines b.front b.back b.first n why b.cut a)
fault_once lines n m why by (inl a) (inr (inr b)) = absurd (no_first_fault lines b.two.front b.two.back b.v n why b.two.cut a)
fault_once lines n m why by (inr (inl a)) (inl b) = absurd (no_first_fault lines a.front a.back a.first m by a.cut b)
fault_once lines n m why by (inr (inr a)) (inl b) = absurd (no_first_fault lines a.two.front a.two.back a.v m by a.two.cut b)
fault_once lines n m why by (inr (inl a)) (inr (inl b)) = second_once lines n m why by a b
fault_once lines n m why by (inr (inl a)) (inr (inr b)) = absurd (no_second lines b.v b.w b.first b.second n why b.two a)
fault_once lines n m why by (inr (inr a)) (inr (inl b)) = absurd (no_second lines a.v a.w a.first a.second m by a.two b)
fault_once lines n m why by (inr (inr a)) (inr (inr b)) = shapes_once lines n m why by a b

same_bad : (n m : ℕ) (why by : FileReason) → (n ≡ m) × (why ≡ by) → ◌≡◌ {A = TwinVerdict} (Err (Bad n why)) (Err (Bad m by))
same_bad n m why by e = (let a = e.0 in let b = e.1 in cc)

same_pairs : (v w x y : Workload) → v ≡ x → w ≡ y → ◌≡◌ {A = TwinVerdict} (Ok (v, w)) (Ok (x, y))
same_pairs v w x y e f = ap (λ (u : Workload). let verdict : TwinVerdict = Ok (u, w) in verdict) e ∙ ap (λ (u : Workload). let verdict : TwinVerdict = Ok (x, u) in verdict) f

gives_once : (lines : List (List ℕ)) (a b : TwinVerdict) → GivesTwo lines a → GivesTwo lines b → a ≡ b
gives_once lines (Ok p) (Ok q) x y =
    let same = two_once lines p.0 p.1 q.0 q.1 x.first x.second y.first y.second x.two y.two in
    same_pairs p.0 p.1 q.0 q.1 same.firsts same.seconds
gives_once lines (Ok p) (Err (Bad n why)) x y = absurd (no_fault lines p.0 p.1 n why x y)
gives_once lines (Ok p) (Err OutOfMemory) x y = absurd y
gives_once lines (Err (Bad n why)) (Ok q) x y = absurd (no_fault lines q.0 q.1 n why y x)
gives_once lines (Err (Bad n why)) (Err (Bad m by)) x y = same_bad n m why by (fault_once lines n m why by x y)
gives_once lines (Err (Bad n why)) (Err OutOfMemory) x y = absurd y
gives_once lines (Err OutOfMemory) b x y = absurd x

unless_once : (long : Bool) (bytes : List ℕ) (a b : TwinVerdict) → GivesTwoUnless long bytes a → GivesTwoUnless long bytes b → a ≡ b
unfolding GivesTwoUnless
unless_once true bytes a b x y = x ∙ sym y
unless_once false bytes a b x y = gives_once (lines_of bytes) a b x y

pub one_twin_verdict : (bytes : List ℕ) (a b : TwinVerdict) → GivesTwinVerdict bytes a → GivesTwinVerdict bytes b → a ≡ b
one_twin_verdict bytes a b x y = unless_once (is_too_long bytes) bytes a b x y

-- two workloads that the bytes give are what was read
pub twins_complete : (bytes : List ℕ) (verdict : TwinVerdict) → IfOk verdict (λ (pair : Workload × Workload). IsTwinFile bytes pair) → IfErr verdict (λ (stop : FileStop). IsTwinRefusal bytes stop)
    → (pair : Workload × Workload) → IsTwinFile bytes pair → AreReadAs pair verdict
twins_complete bytes (Ok read) gives fault pair is = (let same : Ok read ≡ Ok pair = one_twin_verdict bytes (Ok read) (Ok pair) gives is in cc)
twins_complete bytes (Err OutOfMemory) gives fault pair is = refl
twins_complete bytes (Err (Bad line why)) gives fault pair is = absurd (let same : Err (Bad line why) ≡ Ok pair = one_twin_verdict bytes (Err (Bad line why)) (Ok pair) fault is in let no : ⊥ = cc in no)
