-- A client by what it does: its tasks, where its walk stands, and that its transaction is there.
use Rattle.std.proofs.Common.{◌≡◌, refl, sym, ap, subst, ◌∙◌, ℕ, zero, suc, ◌+◌, ◌<◌, ◌≤◌, List, [], ◌∷◌, drop, length, get_or, Option, Some, None, arith}
use Rattle.std.proofs.lemmas.List.{at_drop_more, at_drop_all, drop_all, length-drop}
use Rattle.mope_base.specs.declared.numbers.TableNo.{TableNo}
use Rattle.mope_base.specs.declared.numbers.ColNo.{ColNo}
use Rattle.walk_proto.specs.declared.messages.Reply.{Reply}
use Rattle.walk_proto.specs.declared.messages.Request.{Request}
use Rattle.workload.specs.declared.script.Act.{Act}
use Rattle.workload.specs.declared.script.Act.TheVariants as act
use Rattle.workload.specs.declared.script.Piece.{Piece}
use Rattle.workload.specs.Transaction.{table_named}
use Rattle.proxy.specs.declared.dialogue.Dialogue.{Dialogue}
use Rattle.proxy.specs.declared.doing.Doing.{Doing}
use Rattle.proxy.specs.declared.doing.Doing.TheVariants as doing
use Rattle.proxy.specs.declared.doing.Stop.{Stop}
use Rattle.proxy.specs.Client.{Setting, Client, first_request, request_for, wants, hears, heard_at, heard_by}
use Rattle.proxy.specs.declared.outcomes.Want.TheVariants as want
use Rattle.proxy.specs.Party.{wanted, first_want, want_for}
use Rattle.proxy.proofs.ListLemmas.{first_of-none}
use Rattle.proxy.specs.Standing.{first_of, Fits, IsPlaced, client_in, tasks_left, stop_in, acts_from, acts_at, piece_at, piece_of, closing_of}
use Rattle.proxy.specs.Tasks.{Task, opens, looks, looks_then, act_then, acts_then, acts_of, last_task, does, constants_of}

pub placed_opening : (d : Dialogue) → d.doing ≡ doing.Opening → Fits d → d.place < length d.script
unfolding IsPlaced
placed_opening d is fits = subst (λ (x : Doing). IsPlaced x d.place (length d.script)) is fits.placed

pub placed_looking : (d : Dialogue) (t : TableNo) (column : ColNo) (constant : ℕ) (stop : Option Stop)
    → d.doing ≡ doing.Looking t column constant stop → Fits d → d.place < length d.script
unfolding IsPlaced
placed_looking d t column constant stop is fits = subst (λ (x : Doing). IsPlaced x d.place (length d.script)) is fits.placed

pub placed_acting : (d : Dialogue) → d.doing ≡ doing.Acting → Fits d → d.place < length d.script
unfolding IsPlaced
placed_acting d is fits = subst (λ (x : Doing). IsPlaced x d.place (length d.script)) is fits.placed

pub placed_closing : (d : Dialogue) → d.doing ≡ doing.Closing → Fits d → d.place < length d.script
unfolding IsPlaced
placed_closing d is fits = subst (λ (x : Doing). IsPlaced x d.place (length d.script)) is fits.placed

pub is_placed : (x : Doing) (place count : ℕ) → place < count → IsPlaced x place count
unfolding IsPlaced
is_placed doing.Opening place count low = low
is_placed (doing.Looking t column constant stop) place count low = low
is_placed doing.Acting place count low = low
is_placed doing.Closing place count low = low
is_placed doing.Nothing place count low = tt

pub tasks_opening : (d : Dialogue) → d.doing ≡ doing.Opening
    → (client_in d).tasks ≡ opens ∷ acts_from (drop d.act (acts_of (piece_of d))) d.constant (closing_of d)
unfolding client_in tasks_left
tasks_opening d is = ap (λ (x : Doing). tasks_left x (piece_of d) d.act d.constant) is

pub tasks_looking : (d : Dialogue) (t : TableNo) (column : ColNo) (constant : ℕ) (stop : Option Stop) → d.doing ≡ doing.Looking t column constant stop
    → (client_in d).tasks ≡ looks t column constant ∷ acts_from (drop d.act (acts_of (piece_of d))) d.constant (closing_of d)
unfolding client_in tasks_left
tasks_looking d t column constant stop is = ap (λ (x : Doing). tasks_left x (piece_of d) d.act d.constant) is

pub stop_looking : (d : Dialogue) (t : TableNo) (column : ColNo) (constant : ℕ) (stop : Option Stop) → d.doing ≡ doing.Looking t column constant stop
    → (client_in d).looking ≡ stop
unfolding client_in stop_in
stop_looking d t column constant stop is = ap stop_in is

pub stop_opening : (d : Dialogue) → d.doing ≡ doing.Opening → (client_in d).looking ≡ None
unfolding client_in stop_in
stop_opening d is = ap stop_in is

pub stop_acting : (d : Dialogue) → d.doing ≡ doing.Acting → (client_in d).looking ≡ None
unfolding client_in stop_in
stop_acting d is = ap stop_in is

pub tasks_acting : (d : Dialogue) → d.doing ≡ doing.Acting
    → (client_in d).tasks ≡ acts_at (drop d.act (acts_of (piece_of d))) (closing_of d)
unfolding client_in tasks_left
tasks_acting d is = ap (λ (x : Doing). tasks_left x (piece_of d) d.act d.constant) is

pub tasks_closing : (d : Dialogue) → d.doing ≡ doing.Closing → (client_in d).tasks ≡ closing_of d
unfolding client_in tasks_left
tasks_closing d is = ap (λ (x : Doing). tasks_left x (piece_of d) d.act d.constant) is

pub tasks_nothing : (d : Dialogue) → d.doing ≡ doing.Nothing → (client_in d).tasks ≡ []
unfolding client_in tasks_left
tasks_nothing d is = ap (λ (x : Doing). tasks_left x (piece_of d) d.act d.constant) is

-- the tasks from a statement whose constants have their places
pub acts_at-some : (acts : List Act) (i : ℕ) (a : Act) (later : List Task) → i < length acts → a ≡ get_or acts i a
    → acts_at (drop i acts) later ≡ does a ∷ acts_then (drop (i + 1) acts) later
unfolding acts_at
acts_at-some acts i a later within is =
    at_drop_more (λ l. acts_at l later) acts i a within
    ∙ ap (λ (x : Act). does x ∷ acts_then (drop (i + 1) acts) later) (sym is)

pub acts_at-none : (acts : List Act) (i : ℕ) (later : List Task) → length acts ≤ i → acts_at (drop i acts) later ≡ later
unfolding acts_at
acts_at-none acts i later past = at_drop_all (λ l. acts_at l later) acts i past

-- none of its constants was taken up
pub acts_from-zero : (acts : List Act) (later : List Task) → acts_from acts 0 later ≡ acts_then acts later
unfolding acts_from acts_then act_then
acts_from-zero [] later = refl
acts_from-zero (a ∷ acts) later = refl

-- the statement in hand, where its constants have their places
pub tasks_doing : (d : Dialogue) (p : Piece) (acts : List Act) (a : Act) → d.doing ≡ doing.Acting → p ≡ piece_of d → acts ≡ acts_of p
    → d.act < length acts → a ≡ get_or acts d.act a
    → (client_in d).tasks ≡ does a ∷ acts_then (drop (d.act + 1) (acts_of (piece_of d))) (closing_of d)
tasks_doing d p acts a is piece_is acts_are within a_is =
    let all : acts ≡ acts_of (piece_of d) = acts_are ∙ ap acts_of piece_is in
    tasks_acting d is
    ∙ acts_at-some (acts_of (piece_of d)) d.act a (closing_of d)
    (subst (λ l. d.act < length l) all within) (subst (λ l. a ≡ get_or l d.act a) all a_is)

-- past its last statement
pub tasks_past : (d : Dialogue) (p : Piece) (acts : List Act) → d.doing ≡ doing.Acting → p ≡ piece_of d → acts ≡ acts_of p
    → length acts ≤ d.act → (client_in d).tasks ≡ closing_of d
tasks_past d p acts is piece_is acts_are past =
    let all : acts ≡ acts_of (piece_of d) = acts_are ∙ ap acts_of piece_is in
    tasks_acting d is ∙ acts_at-none (acts_of (piece_of d)) d.act (closing_of d) (subst (λ l. length l ≤ d.act) all past)

-- a request and an effect by the task in hand
pub wants_first : (s : Setting) (c : Client) (task : Task) (later : List Task) → c.tasks ≡ task ∷ later → wants s c ≡ Some (request_for s c task)
unfolding wants first_request
wants_first s c task later is = ap (first_request s c) is

pub wants_none : (s : Setting) (c : Client) → c.tasks ≡ [] → wants s c ≡ None
unfolding wants first_request
wants_none s c is = ap (first_request s c) is

pub hears_first : (s : Setting) (c : Client) (r : Reply) (task : Task) (later : List Task) → c.tasks ≡ task ∷ later
    → hears s c r ≡ heard_by s task later r c
unfolding hears heard_at
hears_first s c r task later is = ap (λ l. heard_at s l r c) is

-- a constant is taken up
looks_then-some : (t : TableNo) (constants : List (ColNo × ℕ)) (k : ℕ) (x : ColNo × ℕ) (later : List Task) → Some x ≡ first_of (drop k constants)
    → looks_then t (drop k constants) later ≡ looks t x.0 x.1 ∷ looks_then t (drop (k + 1) constants) later
unfolding first_of looks_then
looks_then-some t [] k x later here =
    absurd (let e : Some x ≡ None = here ∙ ap first_of (drop_all k [] (omega arith)) in cc)
looks_then-some t (y ∷ constants) zero x later here =
    let e : x ≡ y = cc in ap (λ (z : ColNo × ℕ). looks t z.0 z.1 ∷ looks_then t constants later) (sym e)
looks_then-some t (y ∷ constants) (suc k) x later here =
    let e : suc k + 1 ≡ suc (k + 1) = omega arith in rw e (looks_then-some t constants k x later here)

pub acts_from-some : (acts : List Act) (i : ℕ) (a : Act) (k : ℕ) (x : ColNo × ℕ) (later : List Task) → i < length acts → a ≡ get_or acts i a
    → Some x ≡ first_of (drop k (constants_of a))
    → looks (table_named a) x.0 x.1 ∷ acts_from (drop i acts) (k + 1) later ≡ acts_from (drop i acts) k later
unfolding acts_from
acts_from-some acts i a k x later within is here =
    let step : (n : ℕ) → acts_from (drop i acts) n later ≡ looks_then (table_named a) (drop n (constants_of a)) (does a ∷ acts_then (drop (i + 1) acts) later) =
    λ n. at_drop_more (λ l. acts_from l n later) acts i a within
    ∙ ap (λ (y : Act). looks_then (table_named y) (drop n (constants_of y)) (does y ∷ acts_then (drop (i + 1) acts) later)) (sym is) in
    ap (λ l. looks (table_named a) x.0 x.1 ∷ l) (step (k + 1))
    ∙ sym (looks_then-some (table_named a) (constants_of a) k x (does a ∷ acts_then (drop (i + 1) acts) later) here)
    ∙ sym (step k)

-- all constants of a statement have their places
pub acts_from-done : (acts : List Act) (i : ℕ) (a : Act) (k : ℕ) (later : List Task) → i < length acts → a ≡ get_or acts i a
    → None ≡ first_of (drop k (constants_of a)) → acts_at (drop i acts) later ≡ acts_from (drop i acts) k later
unfolding acts_from looks_then
acts_from-done acts i a k later within is none =
    acts_at-some acts i a later within is
    ∙ ap (λ l. looks_then (table_named a) l (does a ∷ acts_then (drop (i + 1) acts) later)) (sym (first_of-none (drop k (constants_of a)) none))
    ∙ ap (λ (y : Act). looks_then (table_named y) (drop k (constants_of y)) (does y ∷ acts_then (drop (i + 1) acts) later)) is
    ∙ sym (at_drop_more (λ l. acts_from l k later) acts i a within)

pub acts_from-none : (acts : List Act) (i k : ℕ) (later : List Task) → length acts ≤ i → later ≡ acts_from (drop i acts) k later
unfolding acts_from
acts_from-none acts i k later past = sym (at_drop_all (λ l. acts_from l k later) acts i past)

-- what a statement wants
want_does : (a : Act) → want_for (does a) ≡ want.Act
unfolding does want_for
want_does (act.Insert t values) = refl
want_does (act.Ask ask) = refl

want_some : (acts : List Act) (later : List Task) → 0 < length acts → first_want (acts_at acts later) ≡ want.Act
unfolding acts_at first_want
want_some [] later some = absurd (omega arith)
want_some (a ∷ acts) later some = want_does a

pub want_acts : (d : Dialogue) (p : Piece) (acts : List Act) → d.doing ≡ doing.Acting → p ≡ piece_of d → acts ≡ acts_of p
    → d.act < length acts → wanted (client_in d) ≡ want.Act
unfolding wanted first_want
want_acts d p acts is piece_is acts_are within =
    let all : acts ≡ acts_of (piece_of d) = acts_are ∙ ap acts_of piece_is in
    ap first_want (tasks_acting d is)
    ∙ want_some (drop d.act (acts_of (piece_of d))) (closing_of d)
    (omega (arith, length-drop d.act (acts_of (piece_of d)), ap length all))
