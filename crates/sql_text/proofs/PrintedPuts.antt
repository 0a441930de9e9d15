-- Tokens put behind a line one after another.
use Rattle.std.proofs.Common.{◌≡◌, ℕ, ◌+◌, ◌<◌, ◌≤◌, List, [], ◌∷◌, ◌++◌, length, get_or, drop, map, refl, sym, ◌∙◌, ap, append_assoc, append-nil}
use Rattle.std.proofs.lemmas.List.{drop_more, drop_all}
use Rattle.sql_text.specs.Canonical.{gap, is_tight, mark_of, text_after, text_of, token_text}
use Rattle.sql_text.specs.Grammar.{joined, joined_after}
use Rattle.sql_text.specs.Written.{Written, empty_line, put, put_all}
use Rattle.sql_text.specs.declared.marks.Mark.{Mark}
use Rattle.sql_text.specs.declared.tokens.Token.{Token}
use Rattle.sql_text.specs.declared.tokens.Token.TheVariants.{Fixed}

pub put_all_append : (line : Written) (xs ys : List Token) → put_all line (xs ++ ys) ≡ put_all (put_all line xs) ys
unfolding put_all
put_all_append line [] ys = refl
put_all_append line (x ∷ xs) ys = put_all_append (put line x) xs ys

-- a list that is joined by a mark, element by element: what is left of it, put behind the line so far, gives the whole
pub joined_more : {X : Type 0} (f : X → List Token) (m : Mark) (line next whole : Written) (xs : List X) (i : ℕ) (x : X) → i < length xs → x ≡ get_or xs i x → next ≡ put_all (put line (Fixed m)) (f x) → put_all line (joined_after m (map f (drop i xs))) ≡ whole → put_all next (joined_after m (map f (drop (i + 1) xs))) ≡ whole
unfolding put_all joined_after
joined_more {X} f m line next whole xs i x h at e so_far =
    let tail : List Token = joined_after m (map f (drop (i + 1) xs)) in
    let split : drop i xs ≡ x ∷ drop (i + 1) xs = drop_more xs i x h ∙ ap (λ (y : X). y ∷ drop (i + 1) xs) (sym at) in
    let whole_is : put_all (put line (Fixed m)) (f x ++ tail) ≡ whole = ap (λ (rest : List X). put_all line (joined_after m (map f rest))) (sym split) ∙ so_far in
    ap (λ (w : Written). put_all w tail) e ∙ (sym (put_all_append (put line (Fixed m)) (f x) tail) ∙ whole_is)

pub joined_all : {X : Type 0} (f : X → List Token) (m : Mark) (before start line : Written) (all : List X) (first : X) (others : List X) (i : ℕ) → all ≡ first ∷ others → start ≡ put_all before (f first) → length others ≤ i → put_all line (joined_after m (map f (drop i others))) ≡ put_all start (joined_after m (map f others)) → line ≡ put_all before (joined m (map f all))
unfolding put_all joined joined_after
joined_all {X} f m before start line all first others i e begun h so_far =
    let done : put_all line (joined_after m (map f (drop i others))) ≡ line = ap (λ (rest : List X). put_all line (joined_after m (map f rest))) (drop_all i others h) in
    let tail : List Token = joined_after m (map f others) in
    sym done ∙ (so_far ∙ (ap (λ (w : Written). put_all w tail) begun ∙ (sym (put_all_append before (f first) tail) ∙ ap (λ (rest : List X). put_all before (joined m (map f rest))) (sym e))))

after_put : (text : List ℕ) (before : Token) (tokens : List Token) → (put_all (record { text = text; last = mark_of before }) tokens).text ≡ text ++ text_after before tokens
unfolding put_all text_after
after_put text before [] = sym (append-nil text)
after_put text before (token ∷ rest) =
    let space : List ℕ = gap (is_tight (mark_of before) (mark_of token)) in
    after_put (text ++ (space ++ token_text token)) token rest
    ∙ (append_assoc text (space ++ token_text token) (text_after token rest)
    ∙ ap (λ (w : List ℕ). text ++ w) (append_assoc space (token_text token) (text_after token rest)))

-- the text of tokens put behind an empty line is theirs
pub text_put : (tokens : List Token) → (put_all empty_line tokens).text ≡ text_of tokens
unfolding put_all text_of gap
text_put [] = refl
text_put (token ∷ rest) = after_put (token_text token) token rest
