-- The tokens of a frame are all taken and lead to it, and no others do.
use Rattle.std.proofs.Common.{◌≡◌, ℕ, ◌==◌, Bool, true, false, cond, List, [], ◌∷◌, ◌++◌, Option, Some, None, map, refl, ap, sym, ◌∙◌, append_assoc}
use Rattle.std.proofs.lemmas.Bool.{eqb-true}
use Rattle.std.proofs.lemmas.List.{append-nil}
use Rattle.sql_text.proofs.AddingMarks.{none_taken, if_mark}
use Rattle.sql_text.proofs.AddingWords.{some-snoc, some_taken, joined-more}
use Rattle.sql_text.proofs.Joining.{opened, joined-mark}
use Rattle.sql_text.specs.FrameLines.{frame_tokens, IsFrame}
use Rattle.sql_text.specs.FrameMachine.{frame_start, frame_mark, frame_name, frame_number, frame_step, walk_on, walk}
use Rattle.sql_text.specs.Grammar.{joined, joined_after, name_tokens, HasSome}
use Rattle.sql_text.specs.declared.Name.{Name}
use Rattle.sql_text.specs.declared.frame_steps.Framing.{Framing}
use Rattle.sql_text.specs.declared.frame_steps.Framing.TheVariants as framing
use Rattle.sql_text.specs.declared.frames.Frame.{Frame}
use Rattle.sql_text.specs.declared.frames.Frame.TheVariants as frame
use Rattle.sql_text.specs.declared.marks.Mark.{Mark}
use Rattle.sql_text.specs.declared.marks.Mark.TheVariants as mark
use Rattle.sql_text.specs.declared.tokens.Token.{Token}
use Rattle.sql_text.specs.declared.tokens.Token.TheVariants.{Fixed, Named, Number}

-- the tokens that lead to a state
unfoldable pub frame_front : Framing → List Token
frame_front framing.Start = []
frame_front framing.Version = Fixed mark.Mope ∷ []
frame_front framing.Table = Fixed mark.Table ∷ []
frame_front (framing.Open table) = Fixed mark.Table ∷ Named table ∷ []
frame_front (framing.Column table columns) = Fixed mark.Table ∷ Named table ∷ Fixed mark.Open ∷ opened mark.Comma (map name_tokens columns)
frame_front (framing.More table columns) = Fixed mark.Table ∷ Named table ∷ Fixed mark.Open ∷ joined mark.Comma (map name_tokens columns)
frame_front (framing.Done frame) = frame_tokens frame

-- a list that a comma or its end follows has some names
abbrev pub FramingSound : Framing → Type 0
FramingSound framing.Start = Unit {0}
FramingSound framing.Version = Unit {0}
FramingSound framing.Table = Unit {0}
FramingSound (framing.Open table) = Unit {0}
FramingSound (framing.Column table columns) = Unit {0}
FramingSound (framing.More table columns) = HasSome columns
FramingSound (framing.Done frame) = IsFrame frame

-- a token that is taken adds itself
pub record Joins (st : Framing) (token : Token) (next : Framing) : Type 0 where
  pub tokens : frame_front st ++ token ∷ [] ≡ frame_front next
  pub sound : FramingSound next

some-map : {A B : Type 0} (f : A → B) (xs : List A) → HasSome xs → HasSome (map f xs)
some-map f [] some = absurd some
some-map f (x ∷ xs) some = tt

start_joins : (m : Mark) (next : Framing) → frame_start m ≡ Some next → Joins framing.Start (Fixed m) next
unfolding frame_front frame_tokens
start_joins m next e =
    let P : Mark → Framing → Type 0 = λ m n. Joins framing.Start (Fixed m) n in
    if_mark P m mark.Mope _ next _ e (record { tokens = refl; sound = tt }) (λ e. if_mark P m mark.Table _ next _ e (record { tokens = refl; sound = tt }) (λ e. if_mark P m mark.Session _ next _ e (record { tokens = refl; sound = tt }) (λ e. if_mark P m mark.End _ next _ e (record { tokens = refl; sound = tt }) (λ e. none_taken _ next e))))

mark_joins : (st : Framing) (m : Mark) (next : Framing) → FramingSound st → frame_mark st m ≡ Some next → Joins st (Fixed m) next
unfolding frame_front frame_tokens opened
mark_joins framing.Start m next sound e = start_joins m next e
mark_joins framing.Version m next sound e = none_taken _ next e
mark_joins framing.Table m next sound e = none_taken _ next e
mark_joins (framing.Open table) m next sound e = if_mark (λ m n. Joins (framing.Open table) (Fixed m) n) m mark.Open _ next _ e (record { tokens = refl; sound = tt }) (λ e. none_taken _ next e)
mark_joins (framing.Column table columns) m next sound e = none_taken _ next e
mark_joins (framing.More table columns) m next sound e =
    let P : Mark → Framing → Type 0 = λ m n. Joins (framing.More table columns) (Fixed m) n in
    if_mark P m mark.Comma _ next _ e (record { tokens = ap (λ r. Fixed mark.Table ∷ Named table ∷ Fixed mark.Open ∷ r) (joined-mark mark.Comma (map name_tokens columns) (some-map name_tokens columns sound)); sound = tt }) (λ e. if_mark P m mark.Close _ next _ e (record { tokens = refl; sound = sound }) (λ e. none_taken _ next e))
mark_joins (framing.Done frame) m next sound e = none_taken _ next e

name_joins : (st : Framing) (name : Name) (next : Framing) → frame_name st name ≡ Some next → Joins st (Named name) next
unfolding frame_front
name_joins framing.Start name next e = none_taken _ next e
name_joins framing.Version name next e = none_taken _ next e
name_joins framing.Table name next e = some_taken (λ n. Joins framing.Table (Named name) n) _ next e (record { tokens = refl; sound = tt })
name_joins (framing.Open table) name next e = none_taken _ next e
name_joins (framing.Column table columns) name next e = some_taken (λ n. Joins (framing.Column table columns) (Named name) n) _ next e (record { tokens = ap (λ r. Fixed mark.Table ∷ Named table ∷ Fixed mark.Open ∷ r) (sym (joined-more name_tokens columns name)); sound = some-snoc columns name })
name_joins (framing.More table columns) name next e = none_taken _ next e
name_joins (framing.Done frame) name next e = none_taken _ next e

version_joins : (b : Bool) (n : ℕ) (next : Framing) → n == 1 ≡ b → cond b (Some (framing.Done frame.Header)) None ≡ Some next → Joins framing.Version (Number n) next
unfolding frame_front frame_tokens
version_joins true n next is e =
    let one : n ≡ 1 = eqb-true n 1 is in
    some_taken (λ s. Joins framing.Version (Number n) s) _ next e (record { tokens = ap (λ k. Fixed mark.Mope ∷ Number k ∷ []) one; sound = tt })
version_joins false n next is e = none_taken _ next e

number_joins : (st : Framing) (n : ℕ) (next : Framing) → frame_number st n ≡ Some next → Joins st (Number n) next
number_joins framing.Start n next e = none_taken _ next e
number_joins framing.Version n next e = version_joins (n == 1) n next refl e
number_joins framing.Table n next e = none_taken _ next e
number_joins (framing.Open table) n next e = none_taken _ next e
number_joins (framing.Column table columns) n next e = none_taken _ next e
number_joins (framing.More table columns) n next e = none_taken _ next e
number_joins (framing.Done frame) n next e = none_taken _ next e

step_joins : (st : Framing) (token : Token) (next : Framing) → FramingSound st → frame_step st token ≡ Some next → Joins st token next
unfolding frame_step
step_joins st (Fixed m) next sound e = mark_joins st m next sound e
step_joins st (Named name) next sound e = name_joins st name next e
step_joins st (Number n) next sound e = number_joins st n next e

-- tokens that are all taken add themselves
pub record Reaches (st : Framing) (tokens : List Token) (last : Framing) : Type 0 where
  pub front : frame_front st ++ tokens ≡ frame_front last
  pub sound : FramingSound last

reaches_by : (st : Framing) (token : Token) (rest : List Token) (last : Framing) (o : Option Framing) → FramingSound st → frame_step st token ≡ o → walk_on o (λ n. walk n rest) ≡ Some last → ((n : Framing) → FramingSound n → walk n rest ≡ Some last → Reaches n rest last) → Reaches st (token ∷ rest) last
unfolding walk_on
reaches_by st token rest last None sound is e after = none_taken _ last e
reaches_by st token rest last (Some n) sound is e after =
    let joins = step_joins st token n sound is in
    let others = after n joins.sound e in
    record { front = sym (append_assoc (frame_front st) (token ∷ []) rest) ∙ ap (λ r. r ++ rest) joins.tokens ∙ others.front; sound = others.sound }

pub walk_reaches : (st : Framing) (tokens : List Token) (last : Framing) → FramingSound st → walk st tokens ≡ Some last → Reaches st tokens last
unfolding walk
walk_reaches st [] last sound e = some_taken (λ n. Reaches st [] n) st last e (record { front = append-nil (frame_front st); sound = sound })
walk_reaches st (token ∷ rest) last sound e = reaches_by st token rest last (frame_step st token) sound refl e (λ n s w. walk_reaches n rest last s w)

-- a list of columns goes on to its end
walk_more : (table : Name) (columns rest : List Name) → walk (framing.More table columns) (joined_after mark.Comma (map name_tokens rest) ++ Fixed mark.Close ∷ []) ≡ Some (framing.Done (frame.Table table (columns ++ rest)))
unfolding walk walk_on frame_step joined_after
walk_more table columns [] = ap (λ cs. Some (framing.Done (frame.Table table cs))) (sym (append-nil columns))
walk_more table columns (c ∷ rest) = walk_more table (columns ++ c ∷ []) rest ∙ ap (λ cs. Some (framing.Done (frame.Table table cs))) (append_assoc columns (c ∷ []) rest)

-- the tokens of a frame lead to it
pub walk_frame : (f : Frame) → IsFrame f → walk framing.Start (frame_tokens f) ≡ Some (framing.Done f)
unfolding walk walk_on frame_step frame_tokens joined
walk_frame frame.Header right = refl
walk_frame (frame.Table table []) right = absurd right
walk_frame (frame.Table table (c ∷ cs)) right = walk_more table (c ∷ []) cs
walk_frame frame.Session right = refl
walk_frame frame.End right = refl
