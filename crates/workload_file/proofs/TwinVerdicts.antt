-- What a file of two workloads gives, from what was found in it.
use Rattle.std.proofs.Common.{◌≡◌, ℕ, suc, ◌+◌, ◌<◌, ◌≤◌, Bool, true, false, nat_lt, List, [], ◌∷◌, ◌++◌, length, map, Option, Some, None, Ok, Err, refl, ap, sym, ◌∙◌, subst, arith, inl, inr, length-append}
use Rattle.std.proofs.lemmas.Bool.{lt-ltb, le-ltb}
use Rattle.workload.specs.Validity.{IsValid}
use Rattle.workload.specs.declared.script.Workload.{Workload}
use Rattle.workload_file.specs.FileLines.{lines_of}
use Rattle.workload_file.specs.LineTexts.{Agree, AreCompared, IsComparison, Part, shape_text}
use Rattle.workload_file.specs.Shapes.{line_shape}
use Rattle.workload_file.specs.Steps.{start}
use Rattle.workload_file.specs.TwinFile.{AreTwins, AreTwo, DifferAt, Follows, GivesTwinVerdict, GivesTwo, GivesTwoUnless, HaveTwoShapes, IsFirst, IsFirstStop, IsTwinFile, IsTwinRefusal, SaidLine, Say, TwinVerdict, shape_of}
use Rattle.workload_file.specs.WorkloadFile.{IsToldBy, Leads, Verdict, is_too_long}
use Rattle.workload_file.specs.declared.lines.Line.{Line}
use Rattle.workload_file.specs.declared.lines.Line.TheVariants.{Blank, Framed, Stated, Faulty}
use Rattle.workload_file.specs.declared.stops.FileReason.TheVariants as reason
use Rattle.workload_file.specs.declared.stops.FileStop.{FileStop}
use Rattle.workload_file.specs.declared.stops.FileStop.TheVariants.{Bad, OutOfMemory}
use Rattle.workload_file.proofs.ShapeTexts.{same_shape, same_text}
use Rattle.workload_file.proofs.TwinEnds.{Ending, EndsOnce, is_end, says_all}
use Rattle.workload_file.proofs.TwinReading.{not_yet}
use Rattle.workload_file.proofs.ValidSteps.{leads_valid, lines_few, start_holds}

-- lines of one shape end a workload together
end_of_shape : (said : Line) → is_end said ≡ is_end (line_shape said)
unfolding is_end line_shape
end_of_shape Blank = refl
end_of_shape (Framed f) = refl
end_of_shape (Stated s) = refl
end_of_shape (Faulty r) = refl

ends_together : (a b : Line) (ended : Bool) → line_shape a ≡ line_shape b → is_end a ≡ ended → is_end b ≡ ended
ends_together a b ended e is = end_of_shape b ∙ ap is_end (sym e) ∙ sym (end_of_shape a) ∙ is

ending_true : (ended : Bool) (later : List SaidLine) (Rest : Type 0) → ended ≡ true → Ending ended later Rest → later ≡ []
unfolding Ending
ending_true true later Rest e ends = ends
ending_true false later Rest e ends = absurd (let no : ⊥ = cc in no)

ending_false : (ended : Bool) (later : List SaidLine) (Rest : Type 0) → ended ≡ false → Ending ended later Rest → Rest
unfolding Ending
ending_false true later Rest e ends = absurd (let no : ⊥ = cc in no)
ending_false false later Rest e ends = ends

pair_shapes : (x y : SaidLine) (xs ys : List SaidLine) → shape_of x ≡ shape_of y → map shape_of xs ≡ map shape_of ys → map shape_of (x ∷ xs) ≡ map shape_of (y ∷ ys)
pair_shapes x y xs ys e f = ap (λ (l : Line). l ∷ map shape_of xs) e ∙ ap (λ (ls : List Line). shape_of y ∷ ls) f

agree_by : (ended : Bool) (x y : SaidLine) (xs ys zs : List SaidLine) → is_end x.said ≡ ended → EndsOnce (x ∷ xs) → EndsOnce (y ∷ ys) → shape_of x ≡ shape_of y
    → (EndsOnce xs → EndsOnce ys → map shape_of xs ≡ map shape_of ys) → map shape_of (x ∷ xs) ≡ map shape_of (y ∷ ys)
unfolding EndsOnce
agree_by true x y xs ys zs is first second e later =
    let none = ending_true (is_end x.said) xs (EndsOnce xs) is first.1 in
    let also = ending_true (is_end y.said) ys (EndsOnce ys) (ends_together x.said y.said true e is) second.1 in
    pair_shapes x y xs ys e (ap (λ (ls : List SaidLine). map shape_of ls) (none ∙ sym also))
agree_by false x y xs ys zs is first second e later =
    pair_shapes x y xs ys e
    (later (ending_false (is_end x.said) xs (EndsOnce xs) is first.1) (ending_false (is_end y.said) ys (EndsOnce ys) (ends_together x.said y.said false e is) second.1))

agree_ends : (xs ys zs : List SaidLine) → EndsOnce xs → EndsOnce ys → Agree (xs ++ zs) ys → map shape_of xs ≡ map shape_of ys
unfolding EndsOnce Agree
agree_ends [] ys zs first second agree = absurd first
agree_ends (x ∷ xs) [] zs first second agree = absurd second
agree_ends (x ∷ xs) (y ∷ ys) zs first second agree =
    agree_by (is_end x.said) x y xs ys zs refl first second (same_shape x.said y.said first.0 second.0 agree.0) (λ a b. agree_ends xs ys zs a b agree.1)

part_nothing : (xs : List SaidLine) (number : ℕ) → Part xs [] number → ⊥
unfolding Part
part_nothing [] number part = part
part_nothing (x ∷ xs) number part = part

part_by : (ended : Bool) (x y : SaidLine) (xs ys zs : List SaidLine) (number : ℕ) → is_end x.said ≡ ended → EndsOnce (x ∷ xs) → EndsOnce (y ∷ ys) → shape_of x ≡ shape_of y → Part (xs ++ zs) ys number
    → (EndsOnce xs → EndsOnce ys → DifferAt xs ys number) → DifferAt (x ∷ xs) (y ∷ ys) number
unfolding EndsOnce DifferAt
part_by true x y xs ys zs number is first second e part later =
    let also = ending_true (is_end y.said) ys (EndsOnce ys) (ends_together x.said y.said true e is) second.1 in
    absurd (part_nothing (xs ++ zs) number (subst (λ (ls : List SaidLine). Part (xs ++ zs) ls number) also part))
part_by false x y xs ys zs number is first second e part later =
    inl (e, later (ending_false (is_end x.said) xs (EndsOnce xs) is first.1) (ending_false (is_end y.said) ys (EndsOnce ys) (ends_together x.said y.said false e is) second.1))

differ_here : (x y : SaidLine) (xs ys : List SaidLine) (number : ℕ) → (shape_text x.said ≡ shape_text y.said → ⊥) → number ≡ y.number → DifferAt (x ∷ xs) (y ∷ ys) number
unfolding DifferAt
differ_here x y xs ys number differ is = inr (λ e. differ (same_text x.said y.said e), is)

part_ends : (xs ys zs : List SaidLine) (number : ℕ) → EndsOnce xs → EndsOnce ys → Part (xs ++ zs) ys number → DifferAt xs ys number
unfolding EndsOnce Part
part_ends [] ys zs number first second part = absurd first
part_ends (x ∷ xs) [] zs number first second part = absurd second
part_ends (x ∷ xs) (y ∷ ys) zs number first second part =
    elim part [
      | inl both ↦ part_by (is_end x.said) x y xs ys zs number refl first second (same_shape x.said y.said first.0 second.0 both.0) both.1 (λ a b. part_ends xs ys zs number a b both.1)
      | inr other ↦ differ_here x y xs ys number other.0 other.1
    ]

follows_append : (said : Line) (n : ℕ) (ys : List SaidLine) (P Q : List SaidLine → Type 0) (xs : List SaidLine) → ((zs : List SaidLine) → P zs → Q (zs ++ ys)) → Follows said n P xs → Follows said n Q (xs ++ ys)
unfolding Follows
follows_append Blank n ys P Q xs on f = on xs f
follows_append (Framed g) n ys P Q xs on f = (f.0 ++ ys, on f.0 f.1, ap (λ (zs : List SaidLine). zs ++ ys) f.2)
follows_append (Stated g) n ys P Q xs on f = (f.0 ++ ys, on f.0 f.1, ap (λ (zs : List SaidLine). zs ++ ys) f.2)
follows_append (Faulty g) n ys P Q xs on f = (f.0 ++ ys, on f.0 f.1, ap (λ (zs : List SaidLine). zs ++ ys) f.2)

-- what lines say, and what others say behind them
says_append : (n m : ℕ) (front back : List (List ℕ)) (xs ys : List SaidLine) → m ≡ n + length front → Say n front xs → Say m back ys → Say n (front ++ back) (xs ++ ys)
unfolding Say
says_append n m [] back xs ys e first second =
    subst (λ (zs : List SaidLine). Say n back (zs ++ ys)) (sym first) (subst (λ (k : ℕ). Say k back ys) (let same : m ≡ n = omega (arith, e) in same) second)
says_append n m (line ∷ front) back xs ys e first second =
    let size : m ≡ suc n + length front = omega (arith, e) in
    (first.0, first.1, follows_append first.0 n ys (Say (suc n) front) (Say (suc n) (front ++ back)) xs (λ zs says. says_append (suc n) m front back zs ys size says second) first.2)

-- what was found of two workloads
record Found (lines : List (List ℕ)) (v w : Workload) (found : Option ℕ) : Type 0 where
  first : List SaidLine
  second : List SaidLine
  two : AreTwo lines v w first second
  once : EndsOnce first
  also : EndsOnce second
  compared : AreCompared (first ++ second) second found

found_two : (lines back : List (List ℕ)) (v w : Workload) (number : ℕ) (found : Option ℕ) → IsFirst lines v back number → Leads number start back (Ok w) → IsComparison 1 lines number back found → Found lines v w found
found_two lines back v w number found first leads comparison =
    let own = says_all 1 start first.front v not_yet first.cut.spelled in
    let other = says_all number start back w not_yet leads in
    let whole = says_append 1 number first.front back own.all other.all (let size = first.number_is in omega (arith, size)) own.says other.says in
    record {
      first = own.all;
      second = other.all;
      two = record {
        front = first.front;
        back = back;
        cut = first.cut;
        spelled = subst (λ (n : ℕ). Leads n start back (Ok w)) first.number_is leads;
        first_says = own.says;
        second_says = subst (λ (n : ℕ). Say n back other.all) first.number_is other.says;
      };
      once = own.ends;
      also = other.ends;
      compared = comparison (own.all ++ other.all) other.all (subst (λ (ls : List (List ℕ)). Say 1 ls (own.all ++ other.all)) (sym first.cut.whole) whole) other.says;
    }

told_two : (lines : List (List ℕ)) (v w : Workload) → Found lines v w None → AreTwins lines v w
told_two lines v w f = record { first = f.first; second = f.second; two = f.two; same = agree_ends f.first f.second f.second f.once f.also f.compared }

told_differ : (lines : List (List ℕ)) (v w : Workload) (number : ℕ) → Found lines v w (Some number) → HaveTwoShapes lines number reason.ShapesDiffer
told_differ lines v w number f = record {
  v = v;
  w = w;
  first = f.first;
  second = f.second;
  two = f.two;
  differ = part_ends f.first f.second f.second number f.once f.also f.compared;
  why_is = refl;
}

short_by : (long : Bool) (bytes : List ℕ) (verdict : TwinVerdict) → long ≡ false → GivesTwo (lines_of bytes) verdict → GivesTwoUnless long bytes verdict
unfolding GivesTwoUnless
short_by true bytes verdict e gives = absurd (let no : ⊥ = cc in no)
short_by false bytes verdict e gives = gives

given : (bytes : List ℕ) (verdict : TwinVerdict) → length bytes ≤ 67108864 → GivesTwo (lines_of bytes) verdict → GivesTwinVerdict bytes verdict
unfolding is_too_long
given bytes verdict short gives = short_by (nat_lt 67108864 (length bytes)) bytes verdict (le-ltb 67108864 (length bytes) short) gives

long_by : (long : Bool) (bytes : List ℕ) → long ≡ true → GivesTwoUnless long bytes (Err (Bad 0 reason.InputTooLong))
unfolding GivesTwoUnless
long_by true bytes e = refl
long_by false bytes e = absurd (let no : ⊥ = cc in no)

pub too_long : (bytes : List ℕ) → 67108864 < length bytes → GivesTwinVerdict bytes (Err (Bad 0 reason.InputTooLong))
unfolding is_too_long
too_long bytes long = long_by (nat_lt 67108864 (length bytes)) bytes (lt-ltb 67108864 (length bytes) long)

pub twins_read : (bytes : List ℕ) (back : List (List ℕ)) (v w : Workload) (number : ℕ) (found : Option ℕ) → length bytes ≤ 67108864 → IsFirst (lines_of bytes) v back number → Leads number start back (Ok w)
    → IsComparison 1 (lines_of bytes) number back found → found ≡ None → IsTwinFile bytes (v, w)
twins_read bytes back v w number found short first leads comparison none =
    given bytes (Ok (v, w)) short (told_two (lines_of bytes) v w (found_two (lines_of bytes) back v w number None first leads (subst (λ (f : Option ℕ). IsComparison 1 (lines_of bytes) number back f) none comparison)))

pub shapes_apart : (bytes : List ℕ) (back : List (List ℕ)) (v w : Workload) (number line : ℕ) (found : Option ℕ) → length bytes ≤ 67108864 → IsFirst (lines_of bytes) v back number → Leads number start back (Ok w)
    → IsComparison 1 (lines_of bytes) number back found → found ≡ Some line → GivesTwinVerdict bytes (Err (Bad line reason.ShapesDiffer))
shapes_apart bytes back v w number line found short first leads comparison some =
    given bytes (Err (Bad line reason.ShapesDiffer)) short
    (inr (inr (told_differ (lines_of bytes) v w line
    (found_two (lines_of bytes) back v w number (Some line) first leads (subst (λ (f : Option ℕ). IsComparison 1 (lines_of bytes) number back f) some comparison)))))

pub first_stops : (bytes : List ℕ) (stop : FileStop) → length bytes ≤ 67108864 → IsFirstStop (lines_of bytes) stop → IsTwinRefusal bytes stop
first_stops bytes (Bad line why) short is = given bytes (Err (Bad line why)) short (inl is)
first_stops bytes OutOfMemory short is = tt

pub second_stops : (bytes : List ℕ) (back : List (List ℕ)) (v : Workload) (number : ℕ) (verdict : Verdict) (stop : FileStop) → length bytes ≤ 67108864 → IsFirst (lines_of bytes) v back number
    → IsToldBy (Leads number start back) verdict → verdict ≡ Err stop → IsTwinRefusal bytes stop
second_stops bytes back v number (Ok w) stop short first told e = absurd (let no : ⊥ = cc in no)
second_stops bytes back v number (Err OutOfMemory) (Bad line why) short first told e = absurd (let no : ⊥ = cc in no)
second_stops bytes back v number (Err other) OutOfMemory short first told e = tt
second_stops bytes back v number (Err (Bad at by)) (Bad line why) short first told e =
    let same : Err (Bad at by) ≡ Err (Bad line why) = e in
    given bytes (Err (Bad line why)) short
    (inr (inl (record {
      first = v;
      front = first.front;
      back = back;
      cut = first.cut;
      fault = subst (λ (n : ℕ). Leads n start back (Err (Bad line why))) first.number_is (subst (λ (verdict : Verdict). Leads number start back verdict) same told);
    })))

-- both are valid
pub valid_leads : (n : ℕ) (lines : List (List ℕ)) (w : Workload) → length lines ≤ 67108864 → Leads n start lines (Ok w) → IsValid w
valid_leads n lines w few leads = leads_valid n 0 start lines w (omega (arith, few)) start_holds leads

pub first_valid : (bytes : List ℕ) (back : List (List ℕ)) (v : Workload) (number : ℕ) → length bytes ≤ 67108864 → IsFirst (lines_of bytes) v back number → IsValid v
first_valid bytes back v number short first =
    let few = lines_few bytes in
    let size = ap length first.cut.whole ∙ length-append first.front back in
    valid_leads 1 first.front v (omega (arith, few, size, short)) first.cut.spelled

pub second_valid : (bytes rest : List ℕ) (number : ℕ) (w : Workload) → length bytes ≤ 67108864 → number + length rest ≤ length bytes + 1 → Leads number start (lines_of rest) (Ok w) → 0 < number → IsValid w
second_valid bytes rest number w short counted leads some =
    let few = lines_few rest in
    valid_leads number (lines_of rest) w (omega (arith, few, counted, short, some)) leads
