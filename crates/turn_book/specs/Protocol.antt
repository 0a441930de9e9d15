-- The rule that each step of the book keeps, and what each step tells its pass.
use Rattle.std.specs.Prelude.{ℕ, suc, ◌≡◌, ◌≢◌, eqb, ◌+◌, ◌-◌, ◌%◌, ◌<◌, ◌≤◌, ◌⊎◌, Bool, true, false, List, [], ◌∷◌, ◌++◌, length, Option, Some, None}
use mathlib.Core.Option as maybe
use mathlib.Core.List.{IsPrefix}
use lib.ListN.{get_elem?}
use Rattle.atomic_table.specs.Table.{State, Me, Step, rest}
use Rattle.atomic_table.specs.Seated.{TableId}
use Rattle.turn_book.specs.declared.view.View.{View}
use Rattle.turn_book.specs.declared.view.Stage.{Stage}
use Rattle.turn_book.specs.declared.view.Stage.TheVariants.{Idle, Waits, Turn, Spent}
use Rattle.turn_book.specs.Accounts.{items_of, Each}

-- what became of a number: a seat can still give it away, or a pass at a seat has it, or its pass was joined into another
pub data Fate : Type 0 where
  stocked : ℕ → Fate
  borne : ℕ → Fate
  over : Fate

abbrev pub chosen : {A : Type 0} → Bool → A → A → A
chosen true x y = x
chosen false x y = y

-- the function f, but a at m
abbrev pub updated : {A : Type 0} → (ℕ → A) → ℕ → A → ℕ → A
updated f m a n = chosen (eqb n m) a (f n)

module _ {I : Type 0} where
  -- it was not joined into another
  abbrev pub IsLive : Stage I → Type 0
  IsLive Idle = Unit {0}
  IsLive (Waits t) = Unit {0}
  IsLive (Turn t now) = Unit {0}
  IsLive Spent = ⊥

  -- how many tickets it has that are not used up
  abbrev pub tickets_at : Stage I → ℕ
  tickets_at Idle = 0
  tickets_at (Waits t) = 1
  tickets_at (Turn t now) = 1
  tickets_at Spent = 0

  abbrev pub passes_at : Stage I → ℕ → ℕ
  passes_at Idle n = suc n
  passes_at (Waits t) n = suc n
  passes_at (Turn t now) n = suc n
  passes_at Spent n = 0

module _ {I O : Type 0} where
  abbrev pub tickets_of : View I O → ℕ
  tickets_of v = tickets_at v.stage

  -- how many passes it can become
  abbrev pub passes_of : View I O → ℕ
  passes_of v = passes_at v.stage (v.stock_to - v.stock_from)

-- both lists are beginnings of this one, which is one of them
abbrev pub IsLongerOf : {I : Type 0} → List I → List I → List I → Type 0
IsLongerOf xs ys l = IsPrefix xs l × IsPrefix ys l × ((l ≡ xs) ⊎ (l ≡ ys))

-- f of each, added up
abbrev pub total : {A : Type 0} → (A → ℕ) → List A → ℕ
total f [] = 0
total f (x ∷ xs) = f x + total f xs

-- What the book knows of a live pass at a seat
pub record Stands {I O : Type 0} (number : I → ℕ) (passes : ℕ) (history : List I) (origin : O) (fate : ℕ → Fate) (seat : ℕ) (v : View I O) : Type 0 where
  pub same_origin : v.origin ≡ Some origin
  pub seen : IsPrefix v.seen history
  pub told : IsPrefix v.told history
  pub below : v.number < passes
  pub bears : fate v.number ≡ borne seat
  pub mine : items_of number v.number history ≡ v.mine
  pub ended : Each (λ e. (fate e.0 ≡ over) × (items_of number e.0 history ≡ e.1)) v.ended
  pub stock_below : v.stock_to ≤ passes
  pub stock : (n : ℕ) → v.stock_from ≤ n → n < v.stock_to → (fate n ≡ stocked seat) × (items_of number n history ≡ [])

module _ {T I : Type 0} (history : List I) (served drawn : ℕ) (who : ℕ → ℕ) (value : Option T) (seat : ℕ) where
  -- A ticket is known by its remainder. The one that is served has the value at home until its pass takes it
  abbrev pub Knows : Stage I → Type 0
  Knows Idle = Unit {0}
  Knows (Waits t) = (k : ℕ) × (k % 18446744073709551616 ≡ t) × (served ≤ k) × (k < drawn) × (who k ≡ seat) × (k ≡ served → (y : T) × (value ≡ Some y))
  Knows (Turn t now) = (who served ≡ seat) × (served < drawn) × (now ≡ history) × (value ≡ None)
  Knows Spent = Unit {0}

abbrev pub shelf : {T : Type 0} → Option T → maybe.Option (Option T)
shelf (Some y) = maybe.some (Some y)
shelf None = maybe.none

module _ {T I O : Type 0} (items : T → List I) (origin_of : T → O) (history : List I) (origin : O) (served drawn : ℕ) where
  -- the value at home has the history; where it is out, a ticket is served
  abbrev pub AtHome : Option T → Type 0
  AtHome (Some y) = (items y ≡ history) × (origin_of y ≡ origin)
  AtHome None = served < drawn

-- Word 0 is the length of the history, word 1 the tickets drawn, and word 2 the ticket that is served
pub record Kept {T I O : Type 0} (items : T → List I) (origin_of : T → O) (number : I → ℕ) (passes : ℕ) (s : State (Option T) (View I O)) : Type 0 where
  pub history : List I
  pub origin : O
  pub served : ℕ
  pub drawn : ℕ
  pub who : ℕ → ℕ
  pub fate : ℕ → Fate
  pub value : Option T
  pub words_are : s.words ≡ length history ∷ drawn % 18446744073709551616 ∷ served % 18446744073709551616 ∷ []
  pub home_is : s.homes ≡ shelf value ∷ []
  pub tickets : served + total tickets_of s.views ≡ drawn
  pub few : total passes_of s.views < 18446744073709551616
  pub at_home : AtHome items origin_of history origin served drawn value
  pub beyond : (n : ℕ) → passes ≤ n → items_of number n history ≡ []
  pub live : (j : ℕ) (v : View I O) → get_elem? s.views j ≡ maybe.some v → IsLive v.stage → Stands number passes history origin fate j v
  pub knows : (j : ℕ) (v : View I O) → get_elem? s.views j ≡ maybe.some v → Knows history served drawn who value j v.stage

module _ {I O : Type 0} where
  abbrev pub first_view : O → ℕ → View I O
  first_view o passes = record { stage = Idle; number = 0; origin = Some o; seen = []; told = []; mine = []; ended = []; stock_from = 1; stock_to = passes }

  abbrev pub spent_view : View I O
  spent_view = record { stage = Spent; number = 0; origin = None; seen = []; told = []; mine = []; ended = []; stock_from = 0; stock_to = 0 }

  abbrev pub at_stage : View I O → Stage I → View I O
  at_stage v st = record { stage = st; number = v.number; origin = v.origin; seen = v.seen; told = v.told; mine = v.mine; ended = v.ended; stock_from = v.stock_from; stock_to = v.stock_to }

  abbrev pub having_seen : View I O → List I → View I O
  having_seen v l = record { stage = v.stage; number = v.number; origin = v.origin; seen = l; told = v.told; mine = v.mine; ended = v.ended; stock_from = v.stock_from; stock_to = v.stock_to }

  -- the pass has the turn t, and the history is now this one
  abbrev pub having_made : (I → ℕ) → View I O → ℕ → List I → View I O
  having_made number v t l = record { stage = Turn t l; number = v.number; origin = v.origin; seen = l; told = v.told; mine = items_of number v.number l; ended = v.ended; stock_from = v.stock_from; stock_to = v.stock_to }

  abbrev pub with_less_stock : View I O → View I O
  with_less_stock v = record { stage = v.stage; number = v.number; origin = v.origin; seen = v.seen; told = v.told; mine = v.mine; ended = v.ended; stock_from = suc v.stock_from; stock_to = v.stock_to }

  abbrev pub split_off : View I O → View I O
  split_off v = record { stage = Idle; number = v.stock_from; origin = v.origin; seen = v.seen; told = []; mine = []; ended = []; stock_from = 0; stock_to = 0 }

  abbrev pub joined : View I O → View I O → View I O
  joined v w = record { stage = v.stage; number = v.number; origin = v.origin; seen = v.seen; told = w.seen; mine = v.mine; ended = v.ended ++ (w.number, w.mine) ∷ w.ended; stock_from = v.stock_from; stock_to = v.stock_to }

-- What the steps tell: of the step, what the pass knew and held, the number found, and what it knows and holds then
module _ {T I O : Type 0} where
  -- the ticket is the number found
  abbrev pub Draws : Step (Option T) → Me (Option T) (View I O) → ℕ → Me (Option T) (View I O) → Type 0
  Draws st m found m' = m' ≡ (at_stage m.0 (Waits found), m.1)

  module _ (items : T → List I) (origin_of : T → O) (number : I → ℕ) where
    -- it has the turn t and the value, whose history begins with what the pass has seen, and has its items and no others of it
    abbrev pub Gains : ℕ → Me (Option T) (View I O) → Me (Option T) (View I O) → Type 0
    Gains t m m' = (y : T) × (m' ≡ (at_stage m.0 (Turn t (items y)), (0, Some y) ∷ m.1)) × (m.0.origin ≡ Some (origin_of y)) × IsPrefix m.0.seen (items y) × (items_of number m.0.number (items y) ≡ m.0.mine)

    -- where the ticket is served, the pass has the turn; else nothing changed
    abbrev pub Looks : Step (Option T) → Me (Option T) (View I O) → ℕ → Me (Option T) (View I O) → Type 0
    Looks st m found m' = (t : ℕ) → m.0.stage ≡ Waits t → (found ≡ t → Gains t m m') × (found ≢ t → m' ≡ m)

  -- the pass sees the history, whose length was found
  abbrev pub Sees : (I → ℕ) → Step (Option T) → Me (Option T) (View I O) → ℕ → Me (Option T) (View I O) → Type 0
  Sees number st m found m' = (t : ℕ) (now : List I) → m.0.stage ≡ Turn t now → (m' ≡ (having_seen m.0 now, m.1)) × (found ≡ length now) × (items_of number m.0.number now ≡ m.0.mine)

  -- the history is now that of the value that is to be given
  abbrev pub Counts : (I → ℕ) → List I → Step (Option T) → Me (Option T) (View I O) → ℕ → Me (Option T) (View I O) → Type 0
  Counts number next st m found m' = (t : ℕ) (now : List I) → m.0.stage ≡ Turn t now → m' ≡ (having_made number m.0 t next, m.1)

  -- the turn is over, and the value is at home
  abbrev pub PassesOn : Step (Option T) → Me (Option T) (View I O) → ℕ → Me (Option T) (View I O) → Type 0
  PassesOn st m found m' = (t : ℕ) (now : List I) → m.0.stage ≡ Turn t now → m' ≡ (at_stage m.0 Idle, rest m.1)

  -- of what it had seen and what it was told of, the longer one
  abbrev pub Compares : Step (Option T) → Me (Option T) (View I O) → ℕ → Me (Option T) (View I O) → Type 0
  Compares st m found m' = m.0.stage ≡ Idle → (l : List I) × (m' ≡ (having_seen m.0 l, m.1)) × IsLongerOf m.0.seen m.0.told l

-- the seat is one of this table, which has three words and one slot
abbrev pub Fits : TableId → TableId → Type 0
Fits seat table = (seat ≡ table) × (table.words ≡ 3) × (table.slots ≡ 1)

-- the history is the one that was seen, or that and one item of this number
abbrev pub Follows : {I : Type 0} → (I → ℕ) → ℕ → List I → List I → Type 0
Follows {I} number n seen next = (next ≡ seen) ⊎ ((x : I) × (next ≡ seen ++ x ∷ []) × (number x ≡ n))
