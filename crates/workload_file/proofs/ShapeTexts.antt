-- Lines that are read have one text of their shapes exactly where they have one shape.
use Rattle.std.proofs.Common.{◌≡◌, ℕ, lit<, arith, false, List, [], ◌∷◌, ◌++◌, map, codes, refl, ap, sym, ◌∙◌, subst}
use Rattle.mope_base.specs.Lists.{Each}
use Rattle.sql_text.proofs.PrintedLexed.{lexed_are_tokens}
use Rattle.sql_text.specs.Canonical.{canonical, gap, text_after, text_of}
use Rattle.sql_text.specs.Faults.{Gives}
use Rattle.sql_text.specs.Grammar.{IsStatement, HasSome, cond_tokens, joined, joined_after, limit_tokens, number_tokens, order_tokens, statement_tokens, test_tokens, what_tokens, where_tokens}
use Rattle.sql_text.specs.Lexing.{AreTokens}
use Rattle.sql_text.specs.declared.Name.{Name}
use Rattle.sql_text.specs.declared.Test.{Test}
use Rattle.sql_text.specs.declared.Test.TheVariants as test
use Rattle.sql_text.specs.declared.frames.Frame.{Frame}
use Rattle.sql_text.specs.declared.frames.Frame.TheVariants as frame
use Rattle.sql_text.specs.declared.marks.Mark.{Mark}
use Rattle.sql_text.specs.declared.marks.Mark.TheVariants as mark
use Rattle.sql_text.specs.declared.statements.Cond.{Cond}
use Rattle.sql_text.specs.declared.statements.Stmt.{Stmt}
use Rattle.sql_text.specs.declared.statements.Stmt.TheVariants as stmt
use Rattle.sql_text.specs.declared.tokens.Token.{Token}
use Rattle.sql_text.specs.declared.tokens.Token.TheVariants.{Fixed, Named, Number}
use Rattle.workload_file.specs.FileLines.{IsLine}
use Rattle.workload_file.specs.LineTexts.{names_text, shape_text}
use Rattle.workload_file.specs.Shapes.{cond_shape, line_shape, statement_shape, test_shape, zero_of}
use Rattle.workload_file.specs.declared.lines.Line.{Line}
use Rattle.workload_file.specs.declared.lines.Line.TheVariants.{Blank, Framed, Stated, Faulty}
use Rattle.sql_text.proofs.PrintedStyles.{spelled_plain, tokens_append, tokens_parts}
use Rattle.workload_file.proofs.CanonicalLines.{one_canonical, one_text}
use Rattle.workload_file.proofs.ValidLines.{NamesHold, decl_read}

-- a line that is a frame's or gives a statement
unfoldable pub IsPlain : Line → Type 0
IsPlain Blank = ⊥
IsPlain (Framed f) = Unit {0}
IsPlain (Stated s) = Unit {0}
IsPlain (Faulty r) = ⊥

pub record IsRead (said : Line) : Type 0 where
  pub line : List ℕ
  pub is : IsLine line said
  pub plain : IsPlain said

names_tokens : List Name → List Token
names_tokens [] = []
names_tokens (name ∷ names) = Named name ∷ names_tokens names

-- tokens whose text a line's shape has
shape_tokens : Line → List Token
shape_tokens Blank = []
shape_tokens (Framed frame.Header) = Fixed mark.Mope ∷ []
shape_tokens (Framed (frame.Table name columns)) = Fixed mark.Table ∷ names_tokens (name ∷ columns)
shape_tokens (Framed frame.Session) = Fixed mark.Session ∷ []
shape_tokens (Framed frame.End) = Fixed mark.End ∷ []
shape_tokens (Stated s) = statement_tokens false (statement_shape s)
shape_tokens (Faulty r) = []

names_after : (first : Name) (names : List Name) → names_text names ≡ text_after (Named first) (names_tokens names)
unfolding names_text text_after names_tokens gap
names_after first [] = refl
names_after first (name ∷ names) = ap (λ (t : List ℕ). 32 ∷ (name.bytes ++ t)) (names_after name names)

text_is : (said : Line) → IsPlain said → shape_text said ≡ text_of (shape_tokens said)
unfolding shape_text shape_tokens names_tokens names_text text_of text_after gap canonical IsPlain
text_is Blank plain = absurd plain
text_is (Framed frame.Header) plain = refl
text_is (Framed (frame.Table name columns)) plain = ap (λ (t : List ℕ). codes "TABLE" ++ 32 ∷ (name.bytes ++ t)) (names_after name columns)
text_is (Framed frame.Session) plain = refl
text_is (Framed frame.End) plain = refl
text_is (Stated s) plain = refl
text_is (Faulty r) plain = absurd plain

-- a statement without its constants has tokens, if it has them with these
test_right : (t : Test) → AreTokens (test_tokens t) → AreTokens (test_tokens (test_shape t))
unfolding test_tokens test_shape
test_right (test.Eq n) are = (tt, (lit< tt, tt))
test_right (test.Lt n) are = (tt, (lit< tt, tt))
test_right (test.Le n) are = (tt, (lit< tt, tt))
test_right (test.Gt n) are = (tt, (lit< tt, tt))
test_right (test.Ge n) are = (tt, (lit< tt, tt))
test_right (test.Between low high) are = (tt, (lit< tt, (tt, (lit< tt, tt))))

cond_right : (c : Cond) → AreTokens (cond_tokens c) → AreTokens (cond_tokens (cond_shape c))
unfolding cond_tokens
cond_right c are = (are.0, test_right c.test are.1)

conds_after : (conds : List Cond) → AreTokens (joined_after mark.And (map cond_tokens conds)) → AreTokens (joined_after mark.And (map cond_tokens (map cond_shape conds)))
unfolding joined_after
conds_after [] are = tt
conds_after (c ∷ conds) are =
    let parts = tokens_parts (cond_tokens c) (joined_after mark.And (map cond_tokens conds)) are.1 in
    (tt, tokens_append (cond_tokens (cond_shape c)) (joined_after mark.And (map cond_tokens (map cond_shape conds))) (cond_right c parts.0) (conds_after conds parts.1))

conds_right : (conds : List Cond) → AreTokens (where_tokens conds) → AreTokens (where_tokens (map cond_shape conds))
unfolding where_tokens joined
conds_right [] are = tt
conds_right (c ∷ conds) are =
    let parts = tokens_parts (cond_tokens c) (joined_after mark.And (map cond_tokens conds)) are.1 in
    (tt, tokens_append (cond_tokens (cond_shape c)) (joined_after mark.And (map cond_tokens (map cond_shape conds))) (cond_right c parts.0) (conds_after conds parts.1))

zeros_after : (values : List ℕ) → AreTokens (joined_after mark.Comma (map number_tokens (map zero_of values)))
unfolding joined_after
zeros_after [] = tt
zeros_after (n ∷ values) = (tt, (lit< tt, zeros_after values))

zeros_right : (values : List ℕ) → AreTokens (joined mark.Comma (map number_tokens (map zero_of values)))
unfolding joined
zeros_right [] = tt
zeros_right (n ∷ values) = (lit< tt, zeros_after values)

statement_right : (s : Stmt) → AreTokens (statement_tokens false s) → AreTokens (statement_tokens false (statement_shape s))
unfolding statement_tokens statement_shape
statement_right stmt.Begin are = are
statement_right stmt.Commit are = are
statement_right stmt.Rollback are = are
statement_right (stmt.Rebuild table column) are = are
statement_right (stmt.Insert table values) are =
    (tt, (tt, (are.1.1.0, (tt, (tt, tokens_append (joined mark.Comma (map number_tokens (map zero_of values))) (Fixed mark.Close ∷ []) (zeros_right values) (tt, tt))))))
statement_right (stmt.Delete table conds) are = (tt, (tt, (are.1.1.0, conds_right conds are.1.1.1)))
statement_right (stmt.Select what table conds order limit) are =
    let front = tokens_parts (what_tokens what) (Fixed mark.From ∷ Named table ∷ (where_tokens conds ++ (order_tokens false order ++ limit_tokens limit))) are.1 in
    let middle = tokens_parts (where_tokens conds) (order_tokens false order ++ limit_tokens limit) front.1.1.1 in (
      tt,
      tokens_append (what_tokens what) (Fixed mark.From ∷ Named table ∷ (where_tokens (map cond_shape conds) ++ (order_tokens false order ++ limit_tokens limit))) front.0
          (tt, (front.1.1.0, tokens_append (where_tokens (map cond_shape conds)) (order_tokens false order ++ limit_tokens limit) (conds_right conds middle.0) middle.1)),
    )

some_zeros : (values : List ℕ) → HasSome values → HasSome (map zero_of values)
some_zeros [] some = some
some_zeros (n ∷ values) some = tt

statement_shaped : (s : Stmt) → IsStatement s → IsStatement (statement_shape s)
unfolding statement_shape
statement_shaped stmt.Begin is = is
statement_shaped stmt.Commit is = is
statement_shaped stmt.Rollback is = is
statement_shaped (stmt.Rebuild table column) is = is
statement_shaped (stmt.Insert table values) is = some_zeros values is
statement_shaped (stmt.Delete table conds) is = is
statement_shaped (stmt.Select what table conds order limit) is = is

names_right : (names : List Name) → NamesHold names → AreTokens (names_tokens names)
unfolding names_tokens Each
names_right [] hold = tt
names_right (name ∷ names) hold = (hold.0, names_right names hold.1)

given_right : (line : List ℕ) (s : Stmt) → Gives line s → AreTokens (statement_tokens false (statement_shape s))
given_right line s gives =
    statement_right s (spelled_plain gives.spells.style s (subst AreTokens gives.spells.spelled (lexed_are_tokens line gives.tokens gives.line_tokens.lexed)))

tokens_right : (line : List ℕ) (said : Line) → IsPlain said → IsLine line said → AreTokens (shape_tokens said)
unfolding shape_tokens names_tokens IsPlain
tokens_right line Blank plain is = absurd plain
tokens_right line (Framed frame.Header) plain is = (tt, tt)
tokens_right line (Framed (frame.Table name columns)) plain is = (let read = decl_read line name columns is in (tt, (read.named, names_right columns read.columns_named)))
tokens_right line (Framed frame.Session) plain is = (tt, tt)
tokens_right line (Framed frame.End) plain is = (tt, tt)
tokens_right line (Stated s) plain is = given_right line s is
tokens_right line (Faulty r) plain is = absurd plain

-- what the tokens tell
names_in : List Token → List Name
names_in [] = []
names_in (Fixed m ∷ tokens) = names_in tokens
names_in (Named name ∷ tokens) = name ∷ names_in tokens
names_in (Number n ∷ tokens) = names_in tokens

names_back : (names : List Name) → names_in (names_tokens names) ≡ names
unfolding names_in names_tokens
names_back [] = refl
names_back (name ∷ names) = ap (λ (ns : List Name). name ∷ ns) (names_back names)

-- 0 for a statement's first token, and a number for each kind of frame
kind_of : Mark → ℕ
kind_of mark.Mope = 1
kind_of mark.Table = 2
kind_of mark.Session = 3
kind_of mark.End = 4
kind_of _ = 0

first_kind : List Token → ℕ
first_kind [] = 5
first_kind (Fixed m ∷ tokens) = kind_of m
first_kind (Named name ∷ tokens) = 6
first_kind (Number n ∷ tokens) = 7

statement_kind : (s : Stmt) → first_kind (statement_tokens false s) ≡ 0
unfolding statement_tokens first_kind kind_of
statement_kind stmt.Begin = refl
statement_kind stmt.Commit = refl
statement_kind stmt.Rollback = refl
statement_kind (stmt.Rebuild table column) = refl
statement_kind (stmt.Insert table values) = refl
statement_kind (stmt.Delete table conds) = refl
statement_kind (stmt.Select what table conds order limit) = refl

tables_same : (name other : Name) (columns others : List Name) → name ∷ columns ≡ other ∷ others → Framed (frame.Table name columns) ≡ Framed (frame.Table other others)
tables_same name other columns others e = cc

other_kind : (xs ys : List Token) (m n : ℕ) → first_kind xs ≡ m → first_kind ys ≡ n → (m ≡ n → ⊥) → xs ≡ ys → ⊥
other_kind xs ys m n first second apart e = apart (sym first ∙ ap first_kind e ∙ second)

frames_same : (f g : Frame) → shape_tokens (Framed f) ≡ shape_tokens (Framed g) → Framed f ≡ Framed g
unfolding shape_tokens names_tokens first_kind kind_of names_in
frames_same frame.Header frame.Header e = refl
frames_same frame.Header (frame.Table other others) e = absurd (other_kind _ _ 1 2 refl refl (λ same. omega (arith, same)) e)
frames_same frame.Header frame.Session e = absurd (other_kind _ _ 1 3 refl refl (λ same. omega (arith, same)) e)
frames_same frame.Header frame.End e = absurd (other_kind _ _ 1 4 refl refl (λ same. omega (arith, same)) e)
frames_same (frame.Table name columns) frame.Header e = absurd (other_kind _ _ 2 1 refl refl (λ same. omega (arith, same)) e)
frames_same (frame.Table name columns) (frame.Table other others) e =
    tables_same name other columns others (sym (names_back (name ∷ columns)) ∙ ap names_in e ∙ names_back (other ∷ others))
frames_same (frame.Table name columns) frame.Session e = absurd (other_kind _ _ 2 3 refl refl (λ same. omega (arith, same)) e)
frames_same (frame.Table name columns) frame.End e = absurd (other_kind _ _ 2 4 refl refl (λ same. omega (arith, same)) e)
frames_same frame.Session frame.Header e = absurd (other_kind _ _ 3 1 refl refl (λ same. omega (arith, same)) e)
frames_same frame.Session (frame.Table other others) e = absurd (other_kind _ _ 3 2 refl refl (λ same. omega (arith, same)) e)
frames_same frame.Session frame.Session e = refl
frames_same frame.Session frame.End e = absurd (other_kind _ _ 3 4 refl refl (λ same. omega (arith, same)) e)
frames_same frame.End frame.Header e = absurd (other_kind _ _ 4 1 refl refl (λ same. omega (arith, same)) e)
frames_same frame.End (frame.Table other others) e = absurd (other_kind _ _ 4 2 refl refl (λ same. omega (arith, same)) e)
frames_same frame.End frame.Session e = absurd (other_kind _ _ 4 3 refl refl (λ same. omega (arith, same)) e)
frames_same frame.End frame.End e = refl

frame_kind : (f : Frame) → first_kind (shape_tokens (Framed f)) ≡ 0 → ⊥
unfolding shape_tokens names_tokens first_kind kind_of
frame_kind frame.Header e = omega (arith, e)
frame_kind (frame.Table name columns) e = omega (arith, e)
frame_kind frame.Session e = omega (arith, e)
frame_kind frame.End e = omega (arith, e)

mixed : (f : Frame) (s : Stmt) → shape_tokens (Framed f) ≡ shape_tokens (Stated s) → ⊥
unfolding shape_tokens
mixed f s e = frame_kind f (ap first_kind e ∙ statement_kind (statement_shape s))

statement_of : (line : List ℕ) (s : Stmt) → Gives line s → IsStatement (statement_shape s)
statement_of line s gives = statement_shaped s gives.spells.statement

shapes_by : (a b : Line) (line other : List ℕ) → IsPlain a → IsPlain b → IsLine line a → IsLine other b → shape_text a ≡ shape_text b → shape_tokens a ≡ shape_tokens b → line_shape a ≡ line_shape b
unfolding IsPlain line_shape shape_text
shapes_by Blank b line other plain also is it text e = absurd plain
shapes_by (Faulty r) b line other plain also is it text e = absurd plain
shapes_by a Blank line other plain also is it text e = absurd also
shapes_by a (Faulty r) line other plain also is it text e = absurd also
shapes_by (Framed f) (Framed g) line other plain also is it text e = frames_same f g e
shapes_by (Framed f) (Stated s) line other plain also is it text e = absurd (mixed f s e)
shapes_by (Stated s) (Framed f) line other plain also is it text e = absurd (mixed f s (sym e))
shapes_by (Stated s) (Stated t) line other plain also is it text e =
    ap Stated (one_canonical (statement_shape s) (statement_shape t) (statement_of line s is) (statement_of other t it) (given_right line s is) (given_right other t it) text)

pub same_shape : (a b : Line) → IsRead a → IsRead b → shape_text a ≡ shape_text b → line_shape a ≡ line_shape b
same_shape a b first second e =
    shapes_by a b first.line second.line first.plain second.plain first.is second.is e
    (one_text (shape_tokens a) (shape_tokens b) (tokens_right first.line a first.plain first.is) (tokens_right second.line b second.plain second.is)
    (sym (text_is a first.plain) ∙ e ∙ text_is b second.plain))

-- the text is one of the shape
text_of_shape : Line → List ℕ
text_of_shape Blank = []
text_of_shape (Framed f) = shape_text (Framed f)
text_of_shape (Stated s) = canonical s
text_of_shape (Faulty r) = []

text_by_shape : (said : Line) → shape_text said ≡ text_of_shape (line_shape said)
unfolding shape_text text_of_shape line_shape
text_by_shape Blank = refl
text_by_shape (Framed f) = refl
text_by_shape (Stated s) = refl
text_by_shape (Faulty r) = refl

pub same_text : (a b : Line) → line_shape a ≡ line_shape b → shape_text a ≡ shape_text b
same_text a b e = text_by_shape a ∙ ap text_of_shape e ∙ sym (text_by_shape b)
