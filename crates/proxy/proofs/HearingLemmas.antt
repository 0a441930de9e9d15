-- What a reply makes of a client, task by task.
use Rattle.std.proofs.Common.{◌≡◌, refl, sym, ap, subst, ◌∙◌, ℕ, suc, ◌+◌, ◌<◌, ◌≤◌, ◌^◌, Bool, true, false, not, ◌&&◌, ltb, eqb, List, [], ◌∷◌, ◌++◌, drop, length, get_or, Option, Some, None, IfSome, inl, inr, arith}
use Rattle.std.specs.List.{sum_by}
use Rattle.std.proofs.lemmas.Bool.{cases_lt, lt-ltb, le-ltb, ltb-true, and_parts}
use Rattle.std.proofs.lemmas.List.{drop_more, drop_all, get_or_past}
use Rattle.std.proofs.Math.Seq.{drop-cons}
use Rattle.std.proofs.lemmas.List.Sums.{sum_by-cons, sum_by-drop_more}
use Rattle.mope_base.specs.declared.body.Body.{Body}
use Rattle.mope_base.specs.declared.numbers.ColNo.{ColNo}
use Rattle.mope_base.specs.declared.numbers.SessionNo.{SessionNo}
use Rattle.mope_base.specs.declared.numbers.TableNo.{TableNo}
use Rattle.value_cipher.specs.Cipher.{unseal_of}
use Rattle.walk_proto.specs.declared.messages.How.{How}
use Rattle.walk_proto.specs.declared.messages.Reply.{Reply}
use Rattle.walk_proto.specs.declared.messages.Reply.TheVariants as reply
use Rattle.workload.specs.declared.script.Act.{Act}
use Rattle.workload.specs.declared.script.Act.TheVariants as act
use Rattle.workload.specs.declared.script.Answer.{Answer}
use Rattle.workload.specs.declared.script.Answer.TheVariants as answer
use Rattle.workload.specs.declared.script.Ask.{Ask}
use Rattle.workload.specs.declared.script.DoneTxn.{DoneTxn}
use Rattle.workload.specs.declared.script.End.{End}
use Rattle.workload.specs.declared.script.End.TheVariants as end
use Rattle.workload.specs.declared.script.Piece.{Piece}
use Rattle.workload.specs.declared.script.Piece.TheVariants as piece
use Rattle.workload.specs.Validity.{inserted_numbers, numbers_inserted}
use Rattle.proxy.specs.declared.dialogue.Dialogue.{Dialogue}
use Rattle.proxy.specs.declared.doing.Doing.{Doing}
use Rattle.proxy.specs.declared.doing.Doing.TheVariants as doing
use Rattle.proxy.specs.declared.doing.Stop.{Stop}
use Rattle.proxy.specs.Allowed.{allowed, fits_first, fits_task, leads_with, may_lead_on, is_spelled}
use Rattle.proxy.specs.Client.{Setting, Client, hears, heard_by, opened_by, led_by, put_by, ended_by, with_answer, answer_in, answering, sealing, ending, taking_up, stop_below, end_told}
use Rattle.proxy.specs.Standing.{Fits, IsPlaced, IsRow, SameSession, Heard, GoesOn, AnswersWith, EndsWith, first_of, client_in, setting_in, values_left, piece_at, no_piece, piece_of, closing_of, tasks_from, tasks_left, stop_in, statement_in, acts_from, going_to, answered_to, opening_where, rolls_back}
use Rattle.proxy.specs.Tasks.{Task, opens, looks, puts_row, asks, closes, rebuilds, acts_of, acts_then, does, last_task, tasks_of}
use Rattle.proxy.proofs.ListLemmas.{first_of-drop, first_of-past}
use Rattle.proxy.proofs.StandingLemmas.{hears_first, tasks_opening, tasks_looking, stop_looking, tasks_acting, tasks_closing, tasks_nothing, tasks_doing, acts_from-zero, is_placed, stop_acting, stop_opening}
use Rattle.proxy.proofs.RequestLemmas.{Reads, values-acting, numbers_are}

-- a client whose transaction goes on
pub gone_on : (d : Dialogue) (p : Piece) (x : Doing) (act constant count : ℕ) → p ≡ piece_of d
    → tasks_left x p act count ≡ acts_from (drop act (acts_of p)) constant (last_task p ∷ []) → stop_in x ≡ None
    → client_in (record d { doing = x; act = act; constant = count }) ≡ going_to (tasks_from d act constant) (client_in d)
unfolding client_in going_to
gone_on d p x act constant count piece_is tasks stop =
    ap (λ (l : List Task). let c : Client = record (client_in d) { tasks = l; looking = stop_in x } in c)
    (ap (λ (q : Piece). tasks_left x q act count) (sym piece_is) ∙ tasks
    ∙ ap (λ (q : Piece). acts_from (drop act (acts_of q)) constant (last_task q ∷ [])) piece_is)
    ∙ ap (λ (o : Option Stop). let c : Client = record (client_in d) { tasks = tasks_from d act constant; looking = o } in c) stop

-- what holds of a client stays where no more values are left
pub fits_kept : (d e : Dialogue) → SameSession d e → e.place ≡ d.place → d.place < length d.script
    → e.seals + values_left d.script d.place e.act ≤ d.seals + values_left d.script d.place d.act → Fits d → Fits e
fits_kept d e same place low left fits = record {
  placed = is_placed e.doing e.place (length e.script) (omega (arith, place, ap length same.script, low));
  few_pieces = omega (arith, ap length same.script, fits.few_pieces);
  few_values =
      let all : e.seals + values_left e.script e.place e.act ≡ e.seals + values_left d.script d.place e.act =
      ap (λ (x : List Piece × ℕ). e.seals + values_left x.0 x.1 e.act) (let q : (e.script, e.place) ≡ (d.script, d.place) = cc (same.script) in q) in
      let few = fits.few_values in
      omega (arith, all, left, few);
  first = omega (arith, same.first, fits.first);
  session_from = subst (λ (x : SessionNo). 1 ≤ x.0) (sym same.session) fits.session_from;
  session_to = subst (λ (x : SessionNo). x.0 ≤ 64) (sym same.session) fits.session_to;
}

-- the begin
pub heard_begin : (d : Dialogue) (how : How) (table number : ℕ) → d.doing ≡ doing.Opening
    → going_to (tasks_from d d.act d.constant) (record (client_in d) { base = number })
    ≡ hears (setting_in d) (client_in d) (reply.Ended how table number)
unfolding going_to heard_by opened_by
heard_begin d how table number is =
    ap (λ (o : Option Stop). let c : Client = record (client_in d) { tasks = tasks_from d d.act d.constant; looking = o; base = number } in c) (sym (stop_opening d is))
    ∙ sym (hears_first (setting_in d) (client_in d) (reply.Ended how table number) _ _ (tasks_opening d is))

-- a walk
pub heard_node : (d : Dialogue) (t : TableNo) (column : ColNo) (constant : ℕ) (stop : Option Stop) (below : Stop) (body : Body)
    → d.doing ≡ doing.Looking t column constant stop → below ≡ stop_below stop (unseal_of d.pads body)
    → client_in (record d { doing = doing.Looking t column constant (Some below) }) ≡ hears (setting_in d) (client_in d) (reply.Node body)
unfolding client_in tasks_left stop_in heard_by led_by setting_in
heard_node d t column constant stop below body is below_is =
    ap (λ (o : Stop). let c : Client = record (client_in d) { tasks = looks t column constant ∷ tasks_from d d.act d.constant; looking = Some o } in c)
    (below_is ∙ ap (λ (o : Option Stop). stop_below o (unseal_of d.pads body)) (sym (stop_looking d t column constant stop is)))
    ∙ ap (λ (l : List Task). let c : Client = record (client_in d) { tasks = l; looking = Some (stop_below (client_in d).looking (unseal_of d.pads body)) } in c) (sym (tasks_looking d t column constant stop is))
    ∙ sym (hears_first (setting_in d) (client_in d) (reply.Node body) _ _ (tasks_looking d t column constant stop is))

pub heard_placed : (d : Dialogue) (t : TableNo) (column : ColNo) (constant : ℕ) (stop : Option Stop) → d.doing ≡ doing.Looking t column constant stop
    → going_to (tasks_from d d.act d.constant) (client_in d) ≡ hears (setting_in d) (client_in d) reply.Placed
unfolding going_to heard_by led_by
heard_placed d t column constant stop is =
    sym (hears_first (setting_in d) (client_in d) reply.Placed _ _ (tasks_looking d t column constant stop is))

room_below : (constant : ℕ) (stop : Option Stop) → may_lead_on constant stop ≡ true → IfSome stop (λ (s : Stop). s.steps < 255)
unfolding may_lead_on
room_below constant None may = tt
room_below constant (Some stop) may =
    let low = ltb-true (suc stop.steps) 63 (and_parts (not (eqb constant stop.value)) (ltb (suc stop.steps) 63) may).1 in omega (arith, low)

pub allowed_room : (d : Dialogue) (t : TableNo) (column : ColNo) (constant : ℕ) (stop : Option Stop) (body : Body)
    → d.doing ≡ doing.Looking t column constant stop → allowed (client_in d) (reply.Node body) ≡ true → IfSome stop (λ (s : Stop). s.steps < 255)
unfolding allowed fits_first fits_task leads_with is_spelled
allowed_room d t column constant stop body is may =
    room_below constant stop
    (ap (may_lead_on constant) (sym (stop_looking d t column constant stop is))
    ∙ sym (ap (λ l. fits_first (client_in d).looking l (reply.Node body)) (tasks_looking d t column constant stop is))
    ∙ (and_parts (fits_first (client_in d).looking (client_in d).tasks (reply.Node body)) true may).0)

pub client_with_base : (d : Dialogue) (n : ℕ) → client_in (record d { base = n }) ≡ record (client_in d) { base = n }
unfolding client_in
client_with_base d n = refl

-- a client that a reply leaves as it is
pub heard_same : (d : Dialogue) (r : Reply) → hears (setting_in d) (client_in d) r ≡ client_in d → Fits d → Heard d d r
heard_same d r same fits = record {
  client = sym same;
  session = record { pads = refl; first = refl; session = refl; script = refl };
  fits = fits;
}

-- one that goes on where it stood
pub heard_goes : (d e : Dialogue) (constant : ℕ) (r : Reply) → GoesOn d e d.act constant → d.place < length d.script
    → going_to (tasks_from d d.act constant) (client_in d) ≡ hears (setting_in d) (client_in d) r → Fits d → Heard d e r
heard_goes d e constant r goes low same fits = record {
  client = goes.client ∙ same;
  session = goes.session;
  fits =
      let left : values_left d.script d.place e.act ≡ values_left d.script d.place d.act = ap (values_left d.script d.place) goes.act in
      fits_kept d e goes.session goes.place low (omega (arith, left, goes.seals)) fits;
}

-- the next transaction of a script, at a place from 0
taken_up : (script : List Piece) (at : ℕ) (x : Doing) (seals place : ℕ) (done : List DoneTxn) → x ≡ opening_where (ltb at (length script))
    → taking_up (drop at script) (let c : Client = record { tasks = []; looking = None; seals = seals; base = 0; answers = []; place = place; rest = []; done = done } in c)
    ≡ (let c : Client = record { tasks = tasks_left x (piece_at script at) 0 0; looking = stop_in x; seals = seals; base = 0; answers = []; place = place; rest = drop (suc at) script; done = done } in c)
unfolding taking_up opening_where tasks_left stop_in tasks_of piece_at
taken_up script at x seals place done is =
    elim (cases_lt at (length script)) [
      | inl low ↦
          ap (λ (l : List Piece). taking_up l (let c : Client = record { tasks = []; looking = None; seals = seals; base = 0; answers = []; place = place; rest = []; done = done } in c)) (drop-cons script at no_piece low)
          ∙ ap (λ (l : List Task). let c : Client = record { tasks = opens ∷ l; looking = None; seals = seals; base = 0; answers = []; place = place; rest = drop (suc at) script; done = done } in c) (sym (acts_from-zero (acts_of (piece_at script at)) (last_task (piece_at script at) ∷ [])))
          ∙ sym (ap (λ (y : Doing). let c : Client = record { tasks = tasks_left y (piece_at script at) 0 0; looking = stop_in y; seals = seals; base = 0; answers = []; place = place; rest = drop (suc at) script; done = done } in c) (is ∙ ap opening_where (lt-ltb at (length script) low)))
      | inr high ↦
          ap (λ (l : List Piece). taking_up l (let c : Client = record { tasks = []; looking = None; seals = seals; base = 0; answers = []; place = place; rest = []; done = done } in c)) (drop_all at script high)
          ∙ ap (λ (l : List Piece). let c : Client = record { tasks = []; looking = None; seals = seals; base = 0; answers = []; place = place; rest = l; done = done } in c) (sym (drop_all (suc at) script (omega arith)))
          ∙ sym (ap (λ (y : Doing). let c : Client = record { tasks = tasks_left y (piece_at script at) 0 0; looking = stop_in y; seals = seals; base = 0; answers = []; place = place; rest = drop (suc at) script; done = done } in c) (is ∙ ap opening_where (le-ltb at (length script) high)))
    ]

opened_placed : (script : List Piece) (at : ℕ) (x : Doing) → x ≡ opening_where (ltb at (length script)) → IsPlaced x at (length script)
unfolding opening_where IsPlaced
opened_placed script at x is =
    elim (cases_lt at (length script)) [
      | inl low ↦ is_placed x at (length script) low
      | inr high ↦
          let P : Doing → Type 0 = λ y. IsPlaced y at (length script) in
          subst P (sym (is ∙ ap opening_where (le-ltb at (length script) high))) tt
    ]

-- a client whose transaction has ended
pub ended_client : (d : Dialogue) (x : End) (count : ℕ) (next : Doing) (answers left : List Answer) (done : List DoneTxn)
    → next ≡ opening_where (ltb (d.place + 1) (length d.script)) → answers ≡ d.answers → left ≡ []
    → done ≡ d.done ++ record { session = d.session; place = d.place + 1; base = d.base; end = x; answers = answers } ∷ []
    → client_in (record d { place = d.place + 1; doing = next; act = 0; constant = 0; base = 0; seals = d.seals + count; answers = left; done = done })
    ≡ ending (setting_in d) x (record (client_in d) { seals = d.seals + count })
unfolding client_in setting_in ending
ended_client d x count next answers left done next_is answers_are none done_is =
    let one : d.place + 1 ≡ suc d.place = omega arith in
    let txn : ℕ → List Answer → DoneTxn = λ n l. record { session = d.session; place = n; base = d.base; end = x; answers = l } in
    let made : done ≡ d.done ++ txn (suc d.place) d.answers ∷ [] =
    done_is ∙ ap (λ (l : List Answer). d.done ++ txn (d.place + 1) l ∷ []) answers_are ∙ ap (λ (n : ℕ). d.done ++ txn n d.answers ∷ []) one in
    ap (λ (l : List Answer). let c : Client = record { tasks = tasks_left next (piece_at d.script (d.place + 1)) 0 0; looking = stop_in next; seals = d.seals + count; base = 0; answers = l; place = suc (d.place + 1); rest = drop (suc (d.place + 1)) d.script; done = done } in c) none
    ∙ ap (λ (l : List DoneTxn). let c : Client = record { tasks = tasks_left next (piece_at d.script (d.place + 1)) 0 0; looking = stop_in next; seals = d.seals + count; base = 0; answers = []; place = suc (d.place + 1); rest = drop (suc (d.place + 1)) d.script; done = l } in c) made
    ∙ ap (λ (n : ℕ). let c : Client = record { tasks = tasks_left next (piece_at d.script n) 0 0; looking = stop_in next; seals = d.seals + count; base = 0; answers = []; place = suc n; rest = drop (suc n) d.script; done = d.done ++ txn (suc d.place) d.answers ∷ [] } in c) one
    ∙ sym (taken_up d.script (suc d.place) next (d.seals + count) (suc (suc d.place)) (d.done ++ txn (suc d.place) d.answers ∷ []) (next_is ∙ ap (λ (n : ℕ). opening_where (ltb n (length d.script))) one))

pub ended_placed : (d : Dialogue) (next : Doing) → next ≡ opening_where (ltb (d.place + 1) (length d.script)) → IsPlaced next (d.place + 1) (length d.script)
ended_placed d next is = opened_placed d.script (d.place + 1) next is

-- the values of the next transactions
next_values : (script : List Piece) (place : ℕ) → values_left script (suc place) 0 ≤ sum_by numbers_inserted (drop (suc place) script)
unfolding values_left piece_at acts_of
next_values script place =
    elim (cases_lt (suc place) (length script)) [
      | inl low ↦
          let all = ap (sum_by numbers_inserted) (drop-cons script (suc place) no_piece low)
          ∙ sum_by-cons numbers_inserted (get_or script (suc place) no_piece) (drop (suc (suc place)) script) in
          let own = numbers_are (get_or script (suc place) no_piece) in
          omega (arith, all, own)
      | inr high ↦
          let none = ap (λ (p : Piece). sum_by inserted_numbers (acts_of p)) (get_or_past script (suc place) no_piece high) in
          let past = ap (sum_by numbers_inserted) (drop_all (suc (suc place)) script (omega arith)) in
          let past2 = ap (sum_by numbers_inserted) (drop_all (suc place) script high) in
          omega (arith, none, past, past2)
    ]

-- what holds of a client whose transaction has ended
pub fits_ended : (d e : Dialogue) (x : End) (count : ℕ) → EndsWith d e x count → count ≤ sum_by inserted_numbers (drop d.act (acts_of (piece_of d)))
    → Fits d → Fits e
unfolding values_left
fits_ended d e x count ends few fits = record {
  placed = subst (λ (l : List Piece). IsPlaced e.doing e.place (length l)) (sym ends.session.script) ends.placed;
  few_pieces = omega (arith, ap length ends.session.script, fits.few_pieces);
  few_values =
      let all : e.seals + values_left e.script e.place e.act ≡ (d.seals + count) + values_left d.script (suc d.place) 0 =
      let q : (e.seals, e.script, e.place, e.act) ≡ (d.seals + count, d.script, suc d.place, 0) = cc (ends.session.script, ends.seals, ends.place, ends.act) in
      ap (λ (y : ℕ × List Piece × ℕ × ℕ). y.0 + values_left y.1 y.2 y.3) q in
      let next = next_values d.script d.place in
      omega (arith, all, next, few, fits.few_values);
  first = omega (arith, ends.session.first, fits.first);
  session_from = subst (λ (y : SessionNo). 1 ≤ y.0) (sym ends.session.session) fits.session_from;
  session_to = subst (λ (y : SessionNo). y.0 ≤ 64) (sym ends.session.session) fits.session_to;
}

placed_by : (x : Doing) (place count : ℕ) (p : Piece) (act constant : ℕ) (task : Task) (later : List Task)
    → tasks_left x p act constant ≡ task ∷ later → IsPlaced x place count → place < count
unfolding tasks_left IsPlaced
placed_by doing.Opening place count p act constant task later some placed = placed
placed_by (doing.Looking t column value stop) place count p act constant task later some placed = placed
placed_by doing.Acting place count p act constant task later some placed = placed
placed_by doing.Closing place count p act constant task later some placed = placed
placed_by doing.Nothing place count p act constant task later some placed = absurd (let e : [] ≡ task ∷ later = some in cc)

ended_last : (s : Setting) (p : Piece) (how : How) (table number : ℕ) (c : Client)
    → ending s (end_told (rolls_back p) how table number) c ≡ heard_by s (last_task p) [] (reply.Ended how table number) c
unfolding rolls_back last_task heard_by ended_by
ended_last s (piece.Txn acts rollback) how table number c = refl
ended_last s (piece.Rebuild t column) how table number c = refl

-- a transaction is there where a task is
pub placed_some : (d : Dialogue) (task : Task) (later : List Task) → (client_in d).tasks ≡ task ∷ later → Fits d → d.place < length d.script
unfolding client_in
placed_some d task later some fits = placed_by d.doing d.place (length d.script) (piece_of d) d.act d.constant task later some fits.placed

-- the end that a server tells
pub heard_end : (d : Dialogue) (how : How) (table number : ℕ) → (client_in d).tasks ≡ closing_of d
    → ending (setting_in d) (end_told (rolls_back (piece_of d)) how table number) (client_in d) ≡ hears (setting_in d) (client_in d) (reply.Ended how table number)
heard_end d how table number tasks =
    ended_last (setting_in d) (piece_of d) how table number (client_in d)
    ∙ sym (hears_first (setting_in d) (client_in d) (reply.Ended how table number) _ _ tasks)
