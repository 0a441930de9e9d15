-- The replies that answer a statement or end a transaction, and those that change nothing.
use Rattle.std.proofs.Common.{◌≡◌, refl, sym, ap, subst, ◌∙◌, ℕ, suc, ◌+◌, ◌<◌, ◌≤◌, ◌^◌, List, [], ◌∷◌, ◌++◌, drop, length, get_or, Option, Some, None, inl, inr, arith}
use Rattle.std.specs.List.{sum_by}
use Rattle.std.proofs.lemmas.Bool.{cases_lt}
use Rattle.std.proofs.lemmas.List.Sums.{sum_by-drop_more}
use Rattle.mope_base.specs.declared.body.Body.{Body}
use Rattle.mope_base.specs.declared.numbers.SessionNo.{SessionNo}
use Rattle.mope_base.specs.declared.numbers.ColNo.{ColNo}
use Rattle.mope_base.specs.declared.numbers.TableNo.{TableNo}
use Rattle.walk_proto.specs.declared.messages.How.{How}
use Rattle.walk_proto.specs.declared.messages.Reply.{Reply}
use Rattle.walk_proto.specs.declared.messages.Reply.TheVariants as reply
use Rattle.workload.specs.declared.script.Act.{Act}
use Rattle.workload.specs.declared.script.Act.TheVariants as act
use Rattle.workload.specs.declared.script.Answer.{Answer}
use Rattle.workload.specs.declared.script.Answer.TheVariants as answer
use Rattle.workload.specs.declared.script.Ask.{Ask}
use Rattle.workload.specs.declared.script.End.{End}
use Rattle.workload.specs.declared.script.End.TheVariants as end
use Rattle.workload.specs.declared.script.Piece.{Piece}
use Rattle.workload.specs.declared.script.Piece.TheVariants as piece
use Rattle.workload.specs.Validity.{inserted_numbers, numbers_inserted}
use Rattle.proxy.specs.declared.dialogue.Dialogue.{Dialogue}
use Rattle.proxy.specs.declared.doing.Doing.TheVariants as doing
use Rattle.proxy.specs.declared.doing.Stop.{Stop}
use Rattle.proxy.specs.Client.{Setting, Client, hears, heard_by, opened_by, led_by, put_by, ended_by, with_answer, answer_in, answering, sealing, ending, end_told, heard_at}
use Rattle.proxy.specs.Standing.{Fits, IsRow, SameSession, Heard, AnswersWith, EndsWith, first_of, client_in, setting_in, values_left, piece_of, closing_of, tasks_from, statement_in, answered_to, rolls_back, going_to}
use Rattle.proxy.specs.Tasks.{Task, looks, acts_of, acts_then, does, last_task}
use Rattle.proxy.proofs.ListLemmas.{first_of-drop, first_of-past}
use Rattle.proxy.proofs.StandingLemmas.{hears_first, tasks_opening, tasks_looking, tasks_doing, tasks_nothing, acts_from-zero, placed_acting, stop_acting}
use Rattle.proxy.proofs.RequestLemmas.{Reads, values-acting}
use Rattle.proxy.proofs.HearingLemmas.{fits_kept, fits_ended, heard_end, heard_same}

-- replies that change nothing
opened_other : (later : List Task) (r : Reply) (c : Client) → ((how : How) (table number : ℕ) → r ≡ reply.Ended how table number → ⊥)
    → opened_by later r c ≡ c
unfolding opened_by
opened_other later (reply.Node body) c other = refl
opened_other later reply.Placed c other = refl
opened_other later (reply.Rows width bodies) c other = refl
opened_other later (reply.Count number) c other = refl
opened_other later (reply.Ended how table number) c other = absurd (other how table number refl)
opened_other later (reply.No code value) c other = refl

led_other : (key : List ℕ) (later : List Task) (r : Reply) (c : Client) → ((body : Body) → r ≡ reply.Node body → ⊥) → (r ≡ reply.Placed → ⊥)
    → led_by key later r c ≡ c
unfolding led_by
led_other key later (reply.Node body) c node placed = absurd (node body refl)
led_other key later reply.Placed c node placed = absurd (placed refl)
led_other key later (reply.Rows width bodies) c node placed = refl
led_other key later (reply.Count number) c node placed = refl
led_other key later (reply.Ended how table number) c node placed = refl
led_other key later (reply.No code value) c node placed = refl

ended_other : (s : Setting) (p : Piece) (r : Reply) (c : Client) → ((how : How) (table number : ℕ) → r ≡ reply.Ended how table number → ⊥)
    → heard_by s (last_task p) [] r c ≡ c
unfolding last_task heard_by ended_by
ended_other s (piece.Txn acts rollback) (reply.Node body) c other = refl
ended_other s (piece.Txn acts rollback) reply.Placed c other = refl
ended_other s (piece.Txn acts rollback) (reply.Rows width bodies) c other = refl
ended_other s (piece.Txn acts rollback) (reply.Count number) c other = refl
ended_other s (piece.Txn acts rollback) (reply.Ended how table number) c other = absurd (other how table number refl)
ended_other s (piece.Txn acts rollback) (reply.No code value) c other = refl
ended_other s (piece.Rebuild t column) (reply.Node body) c other = refl
ended_other s (piece.Rebuild t column) reply.Placed c other = refl
ended_other s (piece.Rebuild t column) (reply.Rows width bodies) c other = refl
ended_other s (piece.Rebuild t column) (reply.Count number) c other = refl
ended_other s (piece.Rebuild t column) (reply.Ended how table number) c other = absurd (other how table number refl)
ended_other s (piece.Rebuild t column) (reply.No code value) c other = refl

put_other : (s : Setting) (t : TableNo) (values : List ℕ) (later : List Task) (r : Reply) (c : Client) → ((number : ℕ) → r ≡ reply.Count number → ⊥)
    → ((code value : ℕ) → r ≡ reply.No code value → ⊥) → put_by s t values later r c ≡ c
unfolding put_by
put_other s t values later (reply.Node body) c count nos = refl
put_other s t values later reply.Placed c count nos = refl
put_other s t values later (reply.Rows width bodies) c count nos = refl
put_other s t values later (reply.Count number) c count nos = absurd (count number refl)
put_other s t values later (reply.Ended how table number) c count nos = refl
put_other s t values later (reply.No code value) c count nos = absurd (nos code value refl)

pub begin_other : (d : Dialogue) (r : Reply) → d.doing ≡ doing.Opening → ((how : How) (table number : ℕ) → r ≡ reply.Ended how table number → ⊥)
    → Fits d → Heard d d r
unfolding heard_by
begin_other d r is other fits =
    heard_same d r (hears_first (setting_in d) (client_in d) r _ _ (tasks_opening d is) ∙ opened_other _ r (client_in d) other) fits

pub walk_other : (d : Dialogue) (t : TableNo) (column : ColNo) (constant : ℕ) (stop : Option Stop) (r : Reply) → d.doing ≡ doing.Looking t column constant stop
    → ((body : Body) → r ≡ reply.Node body → ⊥) → (r ≡ reply.Placed → ⊥) → Fits d → Heard d d r
unfolding heard_by
walk_other d t column constant stop r is node placed fits =
    heard_same d r
    (hears_first (setting_in d) (client_in d) r _ _ (tasks_looking d t column constant stop is)
    ∙ led_other (setting_in d).key _ r (client_in d) node placed) fits

pub end_other : (d : Dialogue) (r : Reply) → (client_in d).tasks ≡ closing_of d → ((how : How) (table number : ℕ) → r ≡ reply.Ended how table number → ⊥)
    → Fits d → Heard d d r
end_other d r tasks other fits =
    heard_same d r (hears_first (setting_in d) (client_in d) r _ _ tasks ∙ ended_other (setting_in d) (piece_of d) r (client_in d) other) fits

-- the end
no_more_sealed : (d : Dialogue) → (let c : Client = record (client_in d) { seals = d.seals + 0 } in c) ≡ client_in d
unfolding client_in
no_more_sealed d =
    let e : d.seals + 0 ≡ d.seals = omega arith in
    ap (λ (n : ℕ). let c : Client = record (client_in d) { seals = n } in c) e

pub heard_ended : (d e : Dialogue) (x : End) (how : How) (table number : ℕ) (r : Reply) → EndsWith d e x 0 → (client_in d).tasks ≡ closing_of d
    → x ≡ end_told (rolls_back (piece_of d)) how table number → r ≡ reply.Ended how table number → Fits d → Heard d e r
heard_ended d e x how table number r ends tasks x_is r_is fits = record {
  client =
      ends.client
      ∙ ap (λ (c : Client). ending (setting_in d) x c) (no_more_sealed d)
      ∙ ap (λ (y : End). ending (setting_in d) y (client_in d)) x_is
      ∙ heard_end d how table number tasks
      ∙ ap (λ (q : Reply). hears (setting_in d) (client_in d) q) (sym r_is);
  session = ends.session;
  fits = fits_ended d e x 0 ends (omega arith) fits;
}

-- a statement that was read at the place in hand
pub statement_reads : (d : Dialogue) (a : Act) → statement_in d ≡ Some a → Reads d (piece_of d) (acts_of (piece_of d)) a
unfolding statement_in
statement_reads d a some =
    elim (cases_lt d.act (length (acts_of (piece_of d)))) [
      | inl low ↦
          let e : Some (get_or (acts_of (piece_of d)) d.act a) ≡ Some a = sym (first_of-drop (acts_of (piece_of d)) d.act a low) ∙ some in
          record { piece_is = refl; acts_are = refl; within = low; is = cc }
      | inr high ↦ absurd (let e : None ≡ Some a = sym (first_of-past (acts_of (piece_of d)) d.act high) ∙ some in cc)
    ]

-- a row as the statement in hand
row_in : (t : TableNo) (count : ℕ) (o : Option Act) → IsRow t count o → (values : List ℕ) × (o ≡ Some (act.Insert t values)) × (length values ≡ count)
unfolding IsRow
row_in t count None row = absurd row
row_in t count (Some (act.Insert table values)) row = (values, ap (λ (x : TableNo). Some (act.Insert x values)) row.0, row.1)
row_in t count (Some (act.Ask ask)) row = absurd row

-- the values of a row are among those that are left
row_left : (d : Dialogue) (t : TableNo) (values : List ℕ) → Reads d (piece_of d) (acts_of (piece_of d)) (act.Insert t values)
    → values_left d.script d.place d.act ≡ length values + values_left d.script d.place (d.act + 1)
unfolding inserted_numbers
row_left d t values reads = values-acting d (piece_of d) (acts_of (piece_of d)) (act.Insert t values) reads

pub row_room : (d : Dialogue) (t : TableNo) (count : ℕ) → IsRow t count (statement_in d) → Fits d → d.seals + count < 2 ^ 32
row_room d t count row fits =
    let found = row_in t count (statement_in d) row in
    let left = row_left d t found.0 (statement_reads d (act.Insert t found.0) found.1) in
    let many = found.2 in
    let few = fits.few_values in
    omega (arith, left, many, few)

tasks_read : (d : Dialogue) (a : Act) → d.doing ≡ doing.Acting → Reads d (piece_of d) (acts_of (piece_of d)) a
    → (client_in d).tasks ≡ does a ∷ acts_then (drop (d.act + 1) (acts_of (piece_of d))) (closing_of d)
tasks_read d a is reads = tasks_doing d (piece_of d) (acts_of (piece_of d)) a is reads.piece_is reads.acts_are reads.within reads.is

fits_answered : (d e : Dialogue) (a : Answer) (count : ℕ) → AnswersWith d e a count → d.place < length d.script
    → count + values_left d.script d.place (d.act + 1) ≤ values_left d.script d.place d.act → Fits d → Fits e
fits_answered d e a count answers low left fits =
    let all : values_left d.script d.place e.act ≡ values_left d.script d.place (d.act + 1) = ap (values_left d.script d.place) answers.act in
    fits_kept d e answers.session answers.place low (omega (arith, all, left, answers.seals)) fits

answered_is : (d : Dialogue) (a : Answer) (count : ℕ) → d.doing ≡ doing.Acting
    → answered_to a count (tasks_from d (d.act + 1) 0) (client_in d)
    ≡ answering a (acts_then (drop (d.act + 1) (acts_of (piece_of d))) (closing_of d)) (let c : Client = record (client_in d) { seals = (client_in d).seals + count } in c)
unfolding answered_to answering
answered_is d a count is =
    ap (λ (l : List Task). let c : Client = record (client_in d) { tasks = l; looking = None; seals = (client_in d).seals + count; answers = (client_in d).answers ++ a ∷ [] } in c)
    (acts_from-zero (drop (d.act + 1) (acts_of (piece_of d))) (closing_of d))
    ∙ ap (λ (o : Option Stop). let c : Client = record (client_in d) { tasks = acts_then (drop (d.act + 1) (acts_of (piece_of d))) (closing_of d); looking = o; seals = (client_in d).seals + count; answers = (client_in d).answers ++ a ∷ [] } in c)
    (sym (stop_acting d is))

pub heard_row : (d e : Dialogue) (t : TableNo) (count number : ℕ) (r : Reply) → AnswersWith d e answer.Inserted count → d.doing ≡ doing.Acting
    → IsRow t count (statement_in d) → r ≡ reply.Count number → Fits d → Heard d e r
unfolding does heard_by put_by sealing
heard_row d e t count number r answers is row r_is fits =
    let found = row_in t count (statement_in d) row in
    let reads = statement_reads d (act.Insert t found.0) found.1 in
    let left = row_left d t found.0 reads in
    let many = found.2 in
    record {
      client =
          answers.client ∙ answered_is d answer.Inserted count is
          ∙ ap (λ (n : ℕ). answering answer.Inserted (acts_then (drop (d.act + 1) (acts_of (piece_of d))) (closing_of d)) (let c : Client = record (client_in d) { seals = (client_in d).seals + n } in c)) (sym many)
          ∙ sym (hears_first (setting_in d) (client_in d) (reply.Count number) _ _ (tasks_read d (act.Insert t found.0) is reads))
          ∙ ap (λ (q : Reply). hears (setting_in d) (client_in d) q) (sym r_is);
      session = answers.session;
      fits = fits_answered d e answer.Inserted count answers (placed_acting d is fits) (omega (arith, left, many)) fits;
    }

pub heard_full : (d e : Dialogue) (t : TableNo) (count code value : ℕ) (r : Reply) → EndsWith d e (end.Full t) count → d.doing ≡ doing.Acting
    → IsRow t count (statement_in d) → r ≡ reply.No code value → Fits d → Heard d e r
unfolding does heard_by put_by sealing client_in inserted_numbers
heard_full d e t count code value r ends is row r_is fits =
    let found = row_in t count (statement_in d) row in
    let reads = statement_reads d (act.Insert t found.0) found.1 in
    let many = found.2 in
    let step = sum_by-drop_more inserted_numbers (acts_of (piece_of d)) d.act (act.Insert t found.0) reads.within in
    let own = ap inserted_numbers reads.is in
    record {
      client =
          ends.client
          ∙ ap (λ (n : ℕ). ending (setting_in d) (end.Full t) (let c : Client = record (client_in d) { seals = d.seals + n } in c)) (sym many)
          ∙ sym (hears_first (setting_in d) (client_in d) (reply.No code value) _ _ (tasks_read d (act.Insert t found.0) is reads))
          ∙ ap (λ (q : Reply). hears (setting_in d) (client_in d) q) (sym r_is);
      session = ends.session;
      fits = fits_ended d e (end.Full t) count ends (omega (arith, step, own, many)) fits;
    }

pub row_other : (d : Dialogue) (t : TableNo) (count : ℕ) (r : Reply) → d.doing ≡ doing.Acting → IsRow t count (statement_in d)
    → ((number : ℕ) → r ≡ reply.Count number → ⊥) → ((code value : ℕ) → r ≡ reply.No code value → ⊥) → Fits d → Heard d d r
unfolding does heard_by
row_other d t count r is row counts nos fits =
    let found = row_in t count (statement_in d) row in
    let reads = statement_reads d (act.Insert t found.0) found.1 in
    heard_same d r
    (hears_first (setting_in d) (client_in d) r _ _ (tasks_read d (act.Insert t found.0) is reads)
    ∙ put_other (setting_in d) t found.0 _ r (client_in d) counts nos) fits

-- a statement that was read is the one in hand
pub statement_is : (d : Dialogue) (p : Piece) (acts : List Act) (a : Act) → Reads d p acts a → statement_in d ≡ Some a
unfolding statement_in
statement_is d p acts a reads =
    let all : acts ≡ acts_of (piece_of d) = reads.acts_are ∙ ap acts_of reads.piece_is in
    first_of-drop (acts_of (piece_of d)) d.act a (subst (λ l. d.act < length l) all reads.within)
    ∙ ap (λ (x : Act). Some x) (sym (subst (λ l. a ≡ get_or l d.act a) all reads.is))

pub is_row : (d : Dialogue) (p : Piece) (acts : List Act) (a : Act) (t : TableNo) (values : List ℕ) (count : ℕ) → Reads d p acts a
    → a ≡ act.Insert t values → length values ≡ count → IsRow t count (statement_in d)
unfolding IsRow
is_row d p acts a t values count reads row many =
    subst (λ (o : Option Act). IsRow t count o) (sym (statement_is d p acts a reads ∙ ap (λ (x : Act). Some x) row)) (refl, many)

-- an answer to a statement that asks
pub heard_answer : (d e : Dialogue) (pads : List ℕ) (p : Piece) (acts : List Act) (a : Act) (ask : Ask) (x : Answer) (r : Reply)
    → AnswersWith (record d { pads = pads }) e x 0 → pads ≡ d.pads → d.doing ≡ doing.Acting → Reads d p acts a → a ≡ act.Ask ask
    → Some x ≡ answer_in d.pads ask.verb r → Fits d → Heard d e r
unfolding does heard_by with_answer setting_in client_in
heard_answer d e pads p acts a ask x r answers pads_are is reads asks gives fits =
    let here : Reads d (piece_of d) (acts_of (piece_of d)) a = statement_reads d a (statement_is d p acts a reads) in
    let same : SameSession d e = record { pads = answers.session.pads ∙ pads_are; first = answers.session.first; session = answers.session.session; script = answers.session.script } in
    let own : AnswersWith d e x 0 = record { client = answers.client; session = same; place = answers.place; act = answers.act; seals = answers.seals } in
    let left = values-acting d (piece_of d) (acts_of (piece_of d)) a here in
    let none : d.seals + 0 ≡ d.seals = omega arith in
    record {
      client =
          answers.client ∙ answered_is d x 0 is
          ∙ ap (λ (n : ℕ). answering x (acts_then (drop (d.act + 1) (acts_of (piece_of d))) (closing_of d)) (let c : Client = record (client_in d) { seals = n } in c)) none
          ∙ ap (λ (o : Option Answer). with_answer o (acts_then (drop (d.act + 1) (acts_of (piece_of d))) (closing_of d)) (client_in d)) gives
          ∙ sym (ap (λ (y : Act). heard_by (setting_in d) (does y) (acts_then (drop (d.act + 1) (acts_of (piece_of d))) (closing_of d)) r (client_in d)) asks)
          ∙ sym (hears_first (setting_in d) (client_in d) r _ _ (tasks_read d a is here));
      session = same;
      fits = fits_answered d e x 0 own (placed_acting d is fits) (omega (arith, left)) fits;
    }

pub no_answer : (d : Dialogue) (pads : List ℕ) (p : Piece) (acts : List Act) (a : Act) (ask : Ask) (r : Reply)
    → pads ≡ d.pads → d.doing ≡ doing.Acting → Reads d p acts a → a ≡ act.Ask ask → None ≡ answer_in d.pads ask.verb r → Fits d
    → Heard d (record d { pads = pads }) r
unfolding does heard_by with_answer setting_in client_in
no_answer d pads p acts a ask r pads_are is reads asks none fits =
    let here : Reads d (piece_of d) (acts_of (piece_of d)) a = statement_reads d a (statement_is d p acts a reads) in
    record {
      client =
          ap (λ (o : Option Answer). with_answer o (acts_then (drop (d.act + 1) (acts_of (piece_of d))) (closing_of d)) (client_in d)) none
          ∙ sym (ap (λ (y : Act). heard_by (setting_in d) (does y) (acts_then (drop (d.act + 1) (acts_of (piece_of d))) (closing_of d)) r (client_in d)) asks)
          ∙ sym (hears_first (setting_in d) (client_in d) r _ _ (tasks_read d a is here));
      session = record { pads = pads_are; first = refl; session = refl; script = refl };
      fits = fits_kept d (record d { pads = pads }) (record { pads = pads_are; first = refl; session = refl; script = refl }) refl (placed_acting d is fits) (omega arith) fits;
    }

pub heard_nothing : (d : Dialogue) (r : Reply) → d.doing ≡ doing.Nothing → Fits d → Heard d d r
unfolding hears heard_at
heard_nothing d r is fits = heard_same d r (ap (λ l. heard_at (setting_in d) l r (client_in d)) (tasks_nothing d is)) fits
