-- The requests of statements, and a client before its first.
use Rattle.std.proofs.Common.{◌≡◌, refl, sym, ap, subst, ◌∙◌, ℕ, suc, ◌+◌, ◌<◌, ◌≤◌, ◌^◌, Bool, true, false, not, ltb, List, [], ◌∷◌, map, drop, length, get_or, Option, Some, None, arith}
use Rattle.std.specs.List.{sum_by}
use Rattle.std.proofs.lemmas.Bool.{lt-ltb}
use Rattle.std.proofs.lemmas.List.Sums.{sum_by-drop_more, sum_by-cons}
use Rattle.mope_base.specs.declared.body.Body.{Body}
use Rattle.mope_base.specs.declared.numbers.TableNo.{TableNo}
use Rattle.value_cipher.specs.Cipher.{sealed}
use Rattle.walk_proto.specs.declared.messages.Asked.{Asked}
use Rattle.walk_proto.specs.declared.messages.Request.TheVariants as request
use Rattle.workload.specs.declared.script.Act.{Act}
use Rattle.workload.specs.declared.script.Act.TheVariants as act
use Rattle.workload.specs.declared.script.Answer.{Answer}
use Rattle.workload.specs.declared.script.Ask.{Ask}
use Rattle.workload.specs.declared.script.DoneTxn.{DoneTxn}
use Rattle.workload.specs.declared.script.Piece.{Piece}
use Rattle.workload.specs.declared.script.Piece.TheVariants as piece
use Rattle.workload.specs.Validity.{inserted_numbers, numbers_inserted}
use Rattle.proxy.specs.declared.dialogue.Dialogue.{Dialogue}
use Rattle.proxy.specs.declared.doing.Doing.TheVariants as doing
use Rattle.proxy.specs.declared.doing.Doing.{Doing}
use Rattle.proxy.specs.declared.doing.Stop.{Stop}
use Rattle.proxy.specs.Client.{Client, cells_from, wants, request_for, starts, taking_up}
use Rattle.proxy.specs.Standing.{Fits, IsPlaced, client_in, setting_in, values_left, piece_at, no_piece, opening_where, tasks_left, stop_in, piece_of, closing_of}
use Rattle.proxy.specs.Tasks.{Task, opens, acts_of, acts_then, last_task, does, asked_of, tasks_of}
use Rattle.proxy.proofs.StandingLemmas.{tasks_doing, wants_first, acts_from-zero, is_placed}

-- what is known of a statement that was read at the place in hand
pub record Reads (d : Dialogue) (p : Piece) (acts : List Act) (a : Act) : Type 0 where
  pub piece_is : p ≡ piece_of d
  pub acts_are : acts ≡ acts_of p
  pub within : d.act < length acts
  pub is : a ≡ get_or acts d.act a

pub wants_row : (d : Dialogue) (p : Piece) (acts : List Act) (a : Act) (t : TableNo) (values : List ℕ) (bodies : List Body)
    → d.doing ≡ doing.Acting → Reads d p acts a → a ≡ act.Insert t values
    → bodies ≡ map (sealed d.pads) (cells_from (setting_in d) d.seals values)
    → wants (setting_in d) (client_in d) ≡ Some (request.Insert t bodies)
unfolding client_in setting_in request_for does
wants_row d p acts a t values bodies acting reads row are =
    wants_first (setting_in d) (client_in d) (does a) (acts_then (drop (d.act + 1) (acts_of (piece_of d))) (closing_of d))
    (tasks_doing d p acts a acting reads.piece_is reads.acts_are reads.within reads.is)
    ∙ ap (λ (x : Act). Some (request_for (setting_in d) (client_in d) (does x))) row
    ∙ ap (λ (l : List Body). Some (request.Insert t l)) (sym are)

pub wants_ask : (d : Dialogue) (p : Piece) (acts : List Act) (a : Act) (ask : Ask) (asked : Asked)
    → d.doing ≡ doing.Acting → Reads d p acts a → a ≡ act.Ask ask → asked ≡ asked_of ask
    → wants (setting_in d) (client_in d) ≡ Some (request.Query asked)
unfolding request_for does
wants_ask d p acts a ask asked acting reads asks are =
    wants_first (setting_in d) (client_in d) (does a) (acts_then (drop (d.act + 1) (acts_of (piece_of d))) (closing_of d))
    (tasks_doing d p acts a acting reads.piece_is reads.acts_are reads.within reads.is)
    ∙ ap (λ (x : Act). Some (request_for (setting_in d) (client_in d) (does x))) asks
    ∙ ap (λ (x : Asked). Some (request.Query x)) (sym are)

-- the values that are left, the statement in hand apart
pub values-acting : (d : Dialogue) (p : Piece) (acts : List Act) (a : Act) → Reads d p acts a
    → values_left d.script d.place d.act ≡ inserted_numbers a + values_left d.script d.place (d.act + 1)
unfolding values_left
values-acting d p acts a reads =
    let all : acts ≡ acts_of (piece_of d) = reads.acts_are ∙ ap acts_of reads.piece_is in
    let within : d.act < length (acts_of (piece_of d)) = subst (λ l. d.act < length l) all reads.within in
    let is : a ≡ get_or (acts_of (piece_of d)) d.act a = subst (λ l. a ≡ get_or l d.act a) all reads.is in
    let step = sum_by-drop_more inserted_numbers (acts_of (piece_of d)) d.act a within in
    let same = ap inserted_numbers is in
    omega (arith, step, same)

-- the values of a row fit beside those that were sealed
pub row-fits : (d : Dialogue) (p : Piece) (acts : List Act) (a : Act) (t : TableNo) (values : List ℕ) → Reads d p acts a → a ≡ act.Insert t values
    → Fits d → d.seals + length values < 2 ^ 32
unfolding inserted_numbers
row-fits d p acts a t values reads row fits =
    let left = values-acting d p acts a reads in
    let many = ap inserted_numbers row in
    let few = fits.few_values in
    omega (arith, left, many, few)

-- the values of a transaction are those of its statements
pub numbers_are : (p : Piece) → numbers_inserted p ≡ sum_by inserted_numbers (acts_of p)
unfolding numbers_inserted acts_of
numbers_are (piece.Txn acts rollback) = refl
numbers_are (piece.Rebuild t column) = refl

-- a transaction is there
opening-some : (n : ℕ) → opening_where (ltb 0 (suc n)) ≡ doing.Opening
unfolding opening_where
opening-some n = ap opening_where (lt-ltb 0 (suc n) (omega arith))

-- a client that is new
fresh_tasks : (script : List Piece) (x : Doing) → x ≡ opening_where (ltb 0 (length script)) → tasks_left x (piece_at script 0) 0 0 ≡ (starts script).tasks
unfolding starts taking_up opening_where tasks_left piece_at tasks_of
fresh_tasks [] x is = ap (λ (y : Doing). tasks_left y no_piece 0 0) is
fresh_tasks (p ∷ script) x is =
    ap (λ (y : Doing). tasks_left y p 0 0) (is ∙ opening-some (length script)) ∙ ap (λ l. opens ∷ l) (acts_from-zero (acts_of p) (last_task p ∷ []))

fresh_stop : (script : List Piece) (x : Doing) → x ≡ opening_where (ltb 0 (length script)) → stop_in x ≡ None
unfolding opening_where stop_in
fresh_stop [] x is = ap stop_in is
fresh_stop (p ∷ script) x is = ap stop_in (is ∙ opening-some (length script))

fresh_rest : (script : List Piece) → starts script ≡ (let c : Client = record { tasks = (starts script).tasks; looking = None; seals = 0; base = 0; answers = []; place = 1; rest = drop 1 script; done = [] } in c)
unfolding starts taking_up
fresh_rest [] = refl
fresh_rest (p ∷ script) = refl

pub fresh_client : (d : Dialogue) → d.doing ≡ opening_where (ltb 0 (length d.script)) → d.place ≡ 0 → d.act ≡ 0 → d.constant ≡ 0 → d.seals ≡ 0
    → d.base ≡ 0 → d.answers ≡ [] → d.done ≡ [] → client_in d ≡ starts d.script
unfolding client_in
fresh_client d doing_is place act constant seals base answers done =
    ap (λ (x : ℕ × ℕ × ℕ × ℕ × ℕ × List Answer × List DoneTxn).
    let c : Client = record { tasks = tasks_left d.doing (piece_at d.script x.0) x.1 x.2; looking = stop_in d.doing; seals = x.3; base = x.4; answers = x.5; place = suc x.0; rest = drop (suc x.0) d.script; done = x.6 } in c)
    (let e : (d.place, d.act, d.constant, d.seals, d.base, d.answers, d.done) ≡ (0, 0, 0, 0, 0, [], []) = cc in e)
    ∙ ap (λ (l : List Task). let c : Client = record { tasks = l; looking = stop_in d.doing; seals = 0; base = 0; answers = []; place = 1; rest = drop 1 d.script; done = [] } in c) (fresh_tasks d.script d.doing doing_is)
    ∙ ap (λ (o : Option Stop). let c : Client = record { tasks = (starts d.script).tasks; looking = o; seals = 0; base = 0; answers = []; place = 1; rest = drop 1 d.script; done = [] } in c) (fresh_stop d.script d.doing doing_is)
    ∙ sym (fresh_rest d.script)

-- what holds of it
fresh_placed : (script : List Piece) (x : Doing) → x ≡ opening_where (ltb 0 (length script)) → IsPlaced x 0 (length script)
unfolding opening_where IsPlaced
fresh_placed [] x is = let P : Doing → Type 0 = λ y. IsPlaced y 0 0 in subst P (sym is) tt
fresh_placed (p ∷ script) x is = is_placed x 0 (length (p ∷ script)) (omega arith)

fresh_values : (script : List Piece) → values_left script 0 0 ≡ sum_by numbers_inserted script
unfolding values_left piece_at acts_of
fresh_values [] = refl
fresh_values (p ∷ script) = sym (sum_by-cons numbers_inserted p script ∙ ap (λ n. n + sum_by numbers_inserted script) (numbers_are p))

pub fresh_fits : (d : Dialogue) → d.doing ≡ opening_where (ltb 0 (length d.script)) → d.place ≡ 0 → d.act ≡ 0 → d.seals ≡ 0
    → length d.script < 2 ^ 32 → sum_by numbers_inserted d.script < 2 ^ 32 → d.first ≤ 2 ^ 63 → 1 ≤ d.session.0 → d.session.0 ≤ 64 → Fits d
fresh_fits d doing_is place act seals pieces numbers first from to = record {
  placed = let P : ℕ → Type 0 = λ n. IsPlaced d.doing n (length d.script) in subst P (sym place) (fresh_placed d.script d.doing doing_is);
  few_pieces = pieces;
  few_values =
      let e : d.seals + values_left d.script d.place d.act ≡ 0 + values_left d.script 0 0 = cc in
      let all = fresh_values d.script in
      omega (arith, e, all);
  first = first;
  session_from = from;
  session_to = to;
}
