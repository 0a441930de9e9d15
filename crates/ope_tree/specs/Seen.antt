-- What contracts see of a tree: its column, the names of its nodes, and whether it is spent; and the code of that, by which proofs tell two apart.
use Rattle.std.specs.Prelude.{◌≡◌, ℕ, ◌<◌, ◌^◌, Bool, true, false, List, [], ◌∷◌, ◌++◌, Option, Some, None, refl}
use Rattle.std.specs.Coded.{Coded, code_by, coded×, coded_ℕ, coded_bool, coded_list, coded_option}
use Rattle.std.proofs.Common.{ap, ◌∙◌, append_assoc}
use Rattle.mope_base.specs.declared.body.Body.{Body}
use Rattle.tree_model.specs.Trees.{Tree, leaf, node, inorder}
use Rattle.tree_model.specs.Items.{Item, live}
use Rattle.tree_model.specs.Columns.{Column, empty_column}
use Rattle.tree_model.specs.ColumnLaws.{IsKept}
use Rattle.ope_tree.specs.declared.nodes.Node.{Node}
use Rattle.ope_tree.specs.declared.shape.Shape.{Shape}
use Rattle.ope_tree.specs.Nodes.{tree_of, names_of, IsLink}

pub record Seen : Type 0 where
  pub column : Column Body
  pub names : Tree ℕ
  pub spent : Bool

-- an empty tree
unfoldable pub empty_seen : Bool → Seen
empty_seen spent = record { column = empty_column Body; names = leaf; spent = spent }

-- by the nodes of an arena, the link to the root and the greatest number of items
abbrev pub column_of : List Node → Option ℕ → ℕ → Column Body
column_of nodes root most = record { tree = tree_of nodes root; most = most }

abbrev pub seen_of : List Node → Option ℕ → ℕ → Bool → Seen
seen_of nodes root most spent = record { column = column_of nodes root most; names = names_of nodes root; spent = spent }

-- what is true of the fields of every tree
pub record IsSound (nodes : List Node) (root : Option ℕ) (alive most : ℕ) (spent : Bool) : Type 0 where
  pub is_link : IsLink nodes root
  pub kept : IsKept Body (column_of nodes root most)
  pub alive_is : alive ≡ live (inorder (tree_of nodes root))
  pub few : most < 2 ^ 32
  pub gone : spent ≡ true → root ≡ None
  pub fresh : spent ≡ true → most ≡ 0

-- the shape is that of a tree over these nodes, which isn't spent
abbrev pub IsShape : List Node → Shape → Type 0
IsShape nodes shape = IsSound nodes shape.root shape.alive shape.most false

-- the column that the tree of a shape is
abbrev pub column_in : List Node → Shape → Column Body
column_in nodes shape = column_of nodes shape.root shape.most

-- ---- a tree as a list of marks: None for an empty tree, an item after both trees of its node

abbrev pub marks : {A : Type 0} → Tree A → List (Option A)
marks leaf = None ∷ []
marks (node l x r) = marks l ++ (marks r ++ Some x ∷ [])

abbrev pub pushed : {A : Type 0} → Option A → List (Tree A) → List (Tree A)
pushed None stack = leaf ∷ stack
pushed (Some x) [] = []
pushed (Some x) (r ∷ []) = []
pushed (Some x) (r ∷ l ∷ stack) = node l x r ∷ stack

abbrev pub read_marks : {A : Type 0} → List (Tree A) → List (Option A) → List (Tree A)
read_marks stack [] = stack
read_marks stack (m ∷ more) = read_marks (pushed m stack) more

abbrev pub top : {A : Type 0} → List (Tree A) → Tree A
top [] = leaf
top (t ∷ stack) = t

pub read_marks-marks : {A : Type 0} (t : Tree A) (stack : List (Tree A)) (more : List (Option A)) → read_marks stack (marks t ++ more) ≡ read_marks (t ∷ stack) more
read_marks-marks leaf stack more = refl
read_marks-marks (node l x r) stack more =
    ap (λ (ms : List (Option _)). read_marks stack ms) (append_assoc (marks l) (marks r ++ Some x ∷ []) more ∙ ap (λ (ms : List (Option _)). marks l ++ ms) (append_assoc (marks r) (Some x ∷ []) more))
    ∙ read_marks-marks l stack (marks r ++ (Some x ∷ more))
    ∙ read_marks-marks r (l ∷ stack) (Some x ∷ more)

pub marks-back : {A : Type 0} (t : Tree A) → top (read_marks [] (marks t)) ≡ t
marks-back leaf = refl
marks-back (node l x r) =
    ap (λ (ts : List (Tree _)). top ts) (read_marks-marks l [] (marks r ++ Some x ∷ []) ∙ read_marks-marks r (l ∷ []) (Some x ∷ []))

abbrev pub tree_code : {A : Type 0} → Coded A → Coded (Tree A)
tree_code {A} c = code_by (List (Option A)) (coded_list (coded_option c)) marks (λ ms. top (read_marks [] ms)) marks-back

abbrev pub body_code : Coded Body
body_code = code_by (ℕ × ℕ) (coded× coded_ℕ coded_ℕ) (λ b. (b.nonce, b.masked)) (λ p. record { nonce = p.0; masked = p.1 }) (λ _. refl)

abbrev pub item_code : Coded (Item Body)
item_code = code_by (Body × ℕ) (coded× body_code coded_ℕ) (λ i. (i.body, i.count)) (λ p. record { body = p.0; count = p.1 }) (λ _. refl)

abbrev pub column_code : Coded (Column Body)
column_code = code_by (Tree (Item Body) × ℕ) (coded× (tree_code item_code) coded_ℕ) (λ c. (c.tree, c.most)) (λ p. record { tree = p.0; most = p.1 }) (λ _. refl)

abbrev pub seen_code : Coded Seen
seen_code = code_by (Column Body × (Tree ℕ × Bool)) (coded× column_code (coded× (tree_code coded_ℕ) coded_bool)) (λ s. (s.column, (s.names, s.spent))) (λ p. record { column = p.0; names = p.1.0; spent = p.1.1 }) (λ _. refl)
