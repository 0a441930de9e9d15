-- Lists that are built element by element: what is left, put behind what is there, gives the whole.
use Rattle.std.proofs.Common.{◌≡◌, ℕ, ◌+◌, ◌<◌, ◌≤◌, List, [], ◌∷◌, ◌++◌, length, get_or, drop, map, sym, ◌∙◌, ap, append_assoc, append-nil}
use Rattle.std.proofs.lemmas.List.{drop_more, drop_all}
use Rattle.sql_text.specs.declared.Name.{Name}
use Rattle.workload_file.specs.LineTexts.{names_text}

pub mapped_more : {X Y : Type 0} (f : X → Y) (done next : List Y) (whole : List Y) (xs : List X) (i : ℕ) (x : X) (y : Y) → i < length xs → x ≡ get_or xs i x → y ≡ f x → next ≡ done ++ y ∷ []
    → done ++ map f (drop i xs) ≡ whole → next ++ map f (drop (i + 1) xs) ≡ whole
mapped_more {X} {Y} f done next whole xs i x y h at is e so_far =
    let tail : List Y = map f (drop (i + 1) xs) in
    let split : drop i xs ≡ x ∷ drop (i + 1) xs = drop_more xs i x h ∙ ap (λ (z : X). z ∷ drop (i + 1) xs) (sym at) in
    ap (λ (l : List Y). l ++ tail) e ∙ append_assoc done (y ∷ []) tail ∙ ap (λ (z : Y). done ++ z ∷ tail) is ∙ ap (λ (rest : List X). done ++ map f rest) (sym split) ∙ so_far

pub mapped_end : {X Y : Type 0} (f : X → Y) (done whole : List Y) (xs : List X) (i : ℕ) → length xs ≤ i → done ++ map f (drop i xs) ≡ whole → done ≡ whole
mapped_end {X} {Y} f done whole xs i h so_far = sym (append-nil done) ∙ ap (λ (rest : List X). done ++ map f rest) (sym (drop_all i xs h)) ∙ so_far

pub names_more : (text next whole : List ℕ) (xs : List Name) (i : ℕ) (x : Name) → i < length xs → x ≡ get_or xs i x → next ≡ text ++ 32 ∷ x.bytes
    → text ++ names_text (drop i xs) ≡ whole → next ++ names_text (drop (i + 1) xs) ≡ whole
unfolding names_text
names_more text next whole xs i x h at e so_far =
    let tail : List ℕ = names_text (drop (i + 1) xs) in
    let split : drop i xs ≡ x ∷ drop (i + 1) xs = drop_more xs i x h ∙ ap (λ (z : Name). z ∷ drop (i + 1) xs) (sym at) in
    ap (λ (l : List ℕ). l ++ tail) e ∙ append_assoc text (32 ∷ x.bytes) tail ∙ ap (λ (rest : List Name). text ++ names_text rest) (sym split) ∙ so_far

pub names_end : (text whole : List ℕ) (xs : List Name) (i : ℕ) → length xs ≤ i → text ++ names_text (drop i xs) ≡ whole → text ≡ whole
unfolding names_text
names_end text whole xs i h so_far = sym (append-nil text) ∙ ap (λ (rest : List Name). text ++ names_text rest) (sym (drop_all i xs h)) ∙ so_far
