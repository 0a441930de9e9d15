-- What the lines of two workloads say.
use Rattle.std.proofs.Common.{◌≡◌, ℕ, suc, ◌+◌, true, false, List, [], ◌∷◌, Option, Some, None, refl, sym, subst, add-one, inl, inr}
use Rattle.workload_file.specs.FileLines.{IsLine, without_return}
use Rattle.workload_file.specs.LineTexts.{Agree, AreCompared, IsAllSaid, IsComparison, IsNextSaid, Part, says_nothing, shape_text}
use Rattle.workload_file.specs.TwinFile.{Follows, SaidLine, Say}
use Rattle.workload_file.specs.declared.lines.Line.{Line}
use Rattle.workload_file.specs.declared.lines.Line.TheVariants.{Blank, Framed, Stated, Faulty}
use Rattle.workload_file.proofs.OneVerdict.{one_line}

-- what lines say goes on behind a line
record Split (n : ℕ) (said : Line) (rest : List (List ℕ)) (all : List SaidLine) : Type 0 where
  later : List SaidLine
  is : all ≡ record { number = n; said = said } ∷ later
  says : Say (n + 1) rest later

behind : (n : ℕ) (rest : List (List ℕ)) (later : List SaidLine) → Say (suc n) rest later → Say (n + 1) rest later
behind n rest later says = subst (λ (m : ℕ). Say m rest later) (sym (add-one n)) says

follows_split : (n : ℕ) (said : Line) (rest : List (List ℕ)) (all : List SaidLine) → says_nothing said ≡ false → Follows said n (Say (suc n) rest) all → Split n said rest all
unfolding Follows
follows_split n Blank rest all some f = absurd (let no : ⊥ = cc in no)
follows_split n (Framed g) rest all some f = record { later = f.0; is = f.2; says = behind n rest f.0 f.1 }
follows_split n (Stated g) rest all some f = record { later = f.0; is = f.2; says = behind n rest f.0 f.1 }
follows_split n (Faulty g) rest all some f = record { later = f.0; is = f.2; says = behind n rest f.0 f.1 }

follows_blank : (n : ℕ) (said : Line) (rest : List (List ℕ)) (all : List SaidLine) → says_nothing said ≡ true → Follows said n (Say (suc n) rest) all → Say (n + 1) rest all
unfolding Follows
follows_blank n Blank rest all none f = behind n rest all f
follows_blank n (Framed g) rest all none f = absurd (let no : ⊥ = cc in no)
follows_blank n (Stated g) rest all none f = absurd (let no : ⊥ = cc in no)
follows_blank n (Faulty g) rest all none f = absurd (let no : ⊥ = cc in no)

-- what a line says is what was read of it
said_so : (n : ℕ) (line : List ℕ) (rest : List (List ℕ)) (now : List (List ℕ)) (said : Line) (all : List SaidLine) → now ≡ line ∷ rest → IsLine (without_return line) said → Say n now all → Follows said n (Say (suc n) rest) all
unfolding Say
said_so n line rest now said all cut is says =
    let here = subst (λ (ls : List (List ℕ)). Say n ls all) cut says in
    subst (λ (l : Line). Follows l n (Say (suc n) rest) all) (one_line (without_return line) here.0 said here.1 is) here.2

pub blank_passed : (n : ℕ) (line : List ℕ) (rest : List (List ℕ)) (now : List (List ℕ)) (said : Line) (all : List SaidLine) → now ≡ line ∷ rest → IsLine (without_return line) said → says_nothing said ≡ true
    → Say n now all → Say (n + 1) rest all
blank_passed n line rest now said all cut is none says = follows_blank n said rest all none (said_so n line rest now said all cut is says)

pub next_found : (m n : ℕ) (line : List ℕ) (whole rest : List (List ℕ)) (now : List (List ℕ)) (said : Line) → ((all : List SaidLine) → Say m whole all → Say n now all) → now ≡ line ∷ rest → IsLine (without_return line) said
    → says_nothing said ≡ false → IsNextSaid m whole n said rest
next_found m n line whole rest now said same cut is some = record {
  split = λ all says.
      (let found = follows_split n said rest all some (said_so n line rest now said all cut is (same all says)) in
      (found.later, found.is, found.says));
}

pub none_found : (m n : ℕ) (whole now : List (List ℕ)) → ((all : List SaidLine) → Say m whole all → Say n now all) → now ≡ [] → IsAllSaid m whole
unfolding Say
none_found m n whole now same none = record { none = λ all says. subst (λ (ls : List (List ℕ)). Say n ls all) none (same all says) }

-- comparisons: no line is left of the second, none of the first, and two lines
agree_none : (first : List SaidLine) → Agree first []
unfolding Agree
agree_none [] = tt
agree_none (x ∷ first) = tt

pub second_ends : (m n : ℕ) (lines others : List (List ℕ)) → IsAllSaid n others → IsComparison m lines n others None
second_ends m n lines others none first second says tells = subst (λ (ys : List SaidLine). Agree first ys) (sym (none.none second tells)) (agree_none first)

part_none : (y : SaidLine) (second : List SaidLine) → Part [] (y ∷ second) y.number
unfolding Part
part_none y second = refl

pub first_ends : (m n number : ℕ) (lines others rest : List (List ℕ)) (said : Line) → IsAllSaid m lines → IsNextSaid n others number said rest → IsComparison m lines n others (Some number)
first_ends m n number lines others rest said none next first second says tells =
    let found = next.split second tells in
    subst (λ (xs : List SaidLine). Part xs second number) (sym (none.none first says))
    (subst (λ (ys : List SaidLine). Part [] ys number) (sym found.1) (part_none (record { number = number; said = said }) found.0))

part_here : (x y : SaidLine) (first second : List SaidLine) → (shape_text x.said ≡ shape_text y.said → ⊥) → Part (x ∷ first) (y ∷ second) y.number
unfolding Part
part_here x y first second differ = inr (differ, refl)

pub lines_differ : (m n at number : ℕ) (lines others left rest : List (List ℕ)) (own said : Line) → IsNextSaid m lines at own left → IsNextSaid n others number said rest → (shape_text own ≡ shape_text said → ⊥)
    → IsComparison m lines n others (Some number)
lines_differ m n at number lines others left rest own said one other differ first second says tells =
    let found = one.split first says in
    let also = other.split second tells in
    subst (λ (xs : List SaidLine). Part xs second number) (sym found.1)
    (subst (λ (ys : List SaidLine). Part (record { number = at; said = own } ∷ found.0) ys number) (sym also.1)
    (part_here (record { number = at; said = own }) (record { number = number; said = said }) found.0 also.0 differ))

compared_on : (x y : SaidLine) (first second : List SaidLine) (found : Option ℕ) → shape_text x.said ≡ shape_text y.said → AreCompared first second found → AreCompared (x ∷ first) (y ∷ second) found
unfolding Agree Part
compared_on x y first second None same later = (same, later)
compared_on x y first second (Some number) same later = inl (same, later)

pub lines_agree : (m n at number : ℕ) (lines others left rest : List (List ℕ)) (own said : Line) (found : Option ℕ) → IsNextSaid m lines at own left → IsNextSaid n others number said rest → shape_text own ≡ shape_text said
    → IsComparison (at + 1) left (number + 1) rest found → IsComparison m lines n others found
lines_agree m n at number lines others left rest own said found one other same later first second says tells =
    let a = one.split first says in
    let b = other.split second tells in
    subst (λ (xs : List SaidLine). AreCompared xs second found) (sym a.1)
    (subst (λ (ys : List SaidLine). AreCompared (record { number = at; said = own } ∷ a.0) ys found) (sym b.1)
    (compared_on (record { number = at; said = own }) (record { number = number; said = said }) a.0 b.0 found same (later a.0 b.0 a.2 b.2)))
