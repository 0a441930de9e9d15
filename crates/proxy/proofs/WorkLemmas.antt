-- How much is left to do for a client at most, and that each reply that it allows leaves less.
use Rattle.std.proofs.Common.{◌≡◌, refl, sym, ap, subst, ◌∙◌, ℕ, suc, ◌+◌, ◌-◌, ◌<◌, ◌≤◌, Bool, true, false, ◌&&◌, not, eqb, ltb, List, [], ◌∷◌, ◌++◌, map, length, Option, Some, None, arith}
use Rattle.std.proofs.lemmas.Bool.{ltb-true, and_parts}
use Rattle.mope_base.specs.declared.body.Body.{Body}
use Rattle.mope_base.specs.declared.numbers.ColNo.{ColNo}
use Rattle.mope_base.specs.declared.numbers.TableNo.{TableNo}
use Rattle.value_cipher.specs.Cipher.{unseal_of}
use Rattle.walk_proto.specs.declared.messages.How.{How}
use Rattle.walk_proto.specs.declared.messages.Reply.{Reply}
use Rattle.walk_proto.specs.declared.messages.Reply.TheVariants as reply
use Rattle.workload.specs.declared.script.Answer.{Answer}
use Rattle.workload.specs.declared.script.End.{End}
use Rattle.workload.specs.declared.script.End.TheVariants as end
use Rattle.workload.specs.declared.script.Piece.{Piece}
use Rattle.workload.specs.declared.script.Verb.{Verb}
use Rattle.workload.specs.declared.script.Verb.TheVariants as verb
use Rattle.proxy.specs.declared.doing.Stop.{Stop}
use Rattle.proxy.specs.Allowed.{allowed, fits_first, fits_task, opens_with, leads_with, puts_with, answers_with, closes_with, rebuilds_with, fits_rows, fits_count, may_lead_on, is_spelled}
use Rattle.proxy.specs.Client.{Setting, Client, hears, heard_at, heard_by, opened_by, led_by, put_by, ended_by, with_answer, answer_in, rows_answer, count_answer, answering, sealing, ending, taking_up, stop_below, end_told}
use Rattle.proxy.specs.Tasks.{Task, opens, looks, puts_row, asks, closes, rebuilds, tasks_of}

-- the exchanges of a walk that stands there
unfoldable pub walk_work : Option Stop → ℕ
walk_work None = 65
walk_work (Some stop) = suc (63 - stop.steps)

unfoldable pub task_work : Option Stop → Task → ℕ
task_work looking opens = 1
task_work looking (looks t column constant) = walk_work looking
task_work looking (puts_row t values) = 1
task_work looking (asks ask) = 1
task_work looking (closes rollback acts) = 1
task_work looking (rebuilds t column) = 1

unfoldable pub later_work : List Task → ℕ
later_work [] = 0
later_work (task ∷ tasks) = task_work None task + later_work tasks

unfoldable pub tasks_work : Option Stop → List Task → ℕ
tasks_work looking [] = 0
tasks_work looking (task ∷ tasks) = task_work looking task + later_work tasks

unfoldable pub pieces_work : List Piece → ℕ
pieces_work [] = 0
pieces_work (p ∷ pieces) = later_work (tasks_of p) + pieces_work pieces

-- the exchanges that a client makes at most
unfoldable pub client_work : Client → ℕ
client_work c = tasks_work c.looking c.tasks + pieces_work c.rest

walk_work-le : (looking : Option Stop) → walk_work looking ≤ 65
unfolding walk_work
walk_work-le None = omega arith
walk_work-le (Some stop) = omega arith

task_work-le : (looking : Option Stop) (task : Task) → task_work looking task ≤ task_work None task
unfolding task_work walk_work
task_work-le looking opens = omega arith
task_work-le looking (looks t column constant) = walk_work-le looking
task_work-le looking (puts_row t values) = omega arith
task_work-le looking (asks ask) = omega arith
task_work-le looking (closes rollback acts) = omega arith
task_work-le looking (rebuilds t column) = omega arith

walk_work-some : (looking : Option Stop) → 1 ≤ walk_work looking
unfolding walk_work
walk_work-some None = omega arith
walk_work-some (Some stop) = omega arith

task_work-some : (looking : Option Stop) (task : Task) → 1 ≤ task_work looking task
unfolding task_work
task_work-some looking opens = omega arith
task_work-some looking (looks t column constant) = walk_work-some looking
task_work-some looking (puts_row t values) = omega arith
task_work-some looking (asks ask) = omega arith
task_work-some looking (closes rollback acts) = omega arith
task_work-some looking (rebuilds t column) = omega arith

tasks_work-le : (looking : Option Stop) (tasks : List Task) → tasks_work looking tasks ≤ later_work tasks
unfolding tasks_work later_work
tasks_work-le looking [] = omega arith
tasks_work-le looking (task ∷ tasks) = omega (arith, task_work-le looking task)

-- the task in hand is done
done_less : (old looking : Option Stop) (task : Task) (later : List Task) (rest : List Piece)
    → tasks_work looking later + pieces_work rest < tasks_work old (task ∷ later) + pieces_work rest
unfolding tasks_work
done_less old looking task later rest = omega (arith, tasks_work-le looking later, task_work-some old task)

same_work : (tasks : List Task) → tasks_work None tasks ≡ later_work tasks
unfolding tasks_work later_work
same_work [] = refl
same_work (task ∷ tasks) = refl

-- the transaction has ended
taking_work : (rest : List Piece) (c : Client) → c.tasks ≡ [] → c.looking ≡ None → c.rest ≡ [] → client_work (taking_up rest c) ≡ pieces_work rest
unfolding taking_up client_work pieces_work tasks_work later_work
taking_work [] c tasks looking none = ap (λ l. tasks_work c.looking l + pieces_work c.rest) tasks ∙ ap (λ r. 0 + pieces_work r) none
taking_work (p ∷ rest) c tasks looking none = ap (λ o. tasks_work o (tasks_of p) + pieces_work rest) looking ∙ ap (λ n. n + pieces_work rest) (same_work (tasks_of p))

ended_less : (s : Setting) (e : End) (c : Client) (task : Task) (later : List Task)
    → client_work (ending s e c) < tasks_work c.looking (task ∷ later) + pieces_work c.rest
unfolding ending tasks_work
ended_less s e c task later =
    let w : client_work (ending s e c) ≡ pieces_work c.rest = taking_work c.rest _ refl refl refl in
    omega (arith, w, task_work-some c.looking task)

step_less : (constant value : ℕ) (looking : Option Stop) → may_lead_on constant looking ≡ true → walk_work (Some (stop_below looking value)) < walk_work looking
unfolding walk_work stop_below may_lead_on
step_less constant value None may = omega arith
step_less constant value (Some stop) may =
    let low = ltb-true (suc stop.steps) 63 (and_parts (not (eqb constant stop.value)) (ltb (suc stop.steps) 63) may).1 in omega (arith, low)

node_less : (constant value : ℕ) (looking : Option Stop) (t : TableNo) (column : ColNo) → may_lead_on constant looking ≡ true
    → task_work (Some (stop_below looking value)) (looks t column constant) < task_work looking (looks t column constant)
unfolding task_work
node_less constant value looking t column may = step_less constant value looking may

rows_less : (key : List ℕ) (v : Verb) (width : ℕ) (bodies : List Body) (later : List Task) (c : Client) (task : Task) → fits_rows v width (length bodies) ≡ true
    → client_work (with_answer (rows_answer key v width bodies) later c) < tasks_work c.looking (task ∷ later) + pieces_work c.rest
unfolding rows_answer with_answer answering client_work fits_rows
rows_less key (verb.Rows columns order limit) width bodies later c task fits = done_less c.looking c.looking task later c.rest
rows_less key verb.Count width bodies later c task fits = absurd (let e : false ≡ true = fits in cc)
rows_less key (verb.Min column) width bodies later c task fits = done_less c.looking c.looking task later c.rest
rows_less key (verb.Max column) width bodies later c task fits = done_less c.looking c.looking task later c.rest
rows_less key verb.Delete width bodies later c task fits = absurd (let e : false ≡ true = fits in cc)

count_less : (v : Verb) (number : ℕ) (later : List Task) (c : Client) (task : Task) → fits_count v ≡ true
    → client_work (with_answer (count_answer v number) later c) < tasks_work c.looking (task ∷ later) + pieces_work c.rest
unfolding count_answer with_answer answering client_work fits_count
count_less (verb.Rows columns order limit) number later c task fits = absurd (let e : false ≡ true = fits in cc)
count_less verb.Count number later c task fits = done_less c.looking c.looking task later c.rest
count_less (verb.Min column) number later c task fits = absurd (let e : false ≡ true = fits in cc)
count_less (verb.Max column) number later c task fits = absurd (let e : false ≡ true = fits in cc)
count_less verb.Delete number later c task fits = done_less c.looking c.looking task later c.rest

node_left : (s : Setting) (t : TableNo) (column : ColNo) (constant : ℕ) (later : List Task) (body : Body) (c : Client) → c.tasks ≡ looks t column constant ∷ later
    → may_lead_on constant c.looking ≡ true
    → tasks_work (Some (stop_below c.looking (unseal_of s.key body))) c.tasks + pieces_work c.rest
    < tasks_work c.looking (looks t column constant ∷ later) + pieces_work c.rest
unfolding tasks_work
node_left s t column constant later body c is may =
    let here = ap (tasks_work (Some (stop_below c.looking (unseal_of s.key body)))) is in
    let less = node_less constant (unseal_of s.key body) c.looking t column may in
    omega (arith, here, less)

-- a reply to the task in hand leaves less
heard_less : (s : Setting) (task : Task) (later : List Task) (r : Reply) (c : Client) → c.tasks ≡ task ∷ later → fits_task c.looking task r ≡ true
    → client_work (heard_by s task later r c) < tasks_work c.looking (task ∷ later) + pieces_work c.rest
unfolding fits_task opens_with leads_with puts_with answers_with closes_with rebuilds_with heard_by opened_by led_by put_by ended_by answer_in sealing answering client_work tasks_work
heard_less s opens later (reply.Node body) c is fits = absurd (let e : false ≡ true = fits in cc)
heard_less s opens later reply.Placed c is fits = absurd (let e : false ≡ true = fits in cc)
heard_less s opens later (reply.Rows width bodies) c is fits = absurd (let e : false ≡ true = fits in cc)
heard_less s opens later (reply.Count number) c is fits = absurd (let e : false ≡ true = fits in cc)
heard_less s opens later (reply.Ended how table number) c is fits = done_less c.looking c.looking opens later c.rest
heard_less s opens later (reply.No code value) c is fits = absurd (let e : false ≡ true = fits in cc)
heard_less s (looks t column constant) later (reply.Node body) c is fits = node_left s t column constant later body c is fits
heard_less s (looks t column constant) later reply.Placed c is fits = done_less c.looking None (looks t column constant) later c.rest
heard_less s (looks t column constant) later (reply.Rows width bodies) c is fits = absurd (let e : false ≡ true = fits in cc)
heard_less s (looks t column constant) later (reply.Count number) c is fits = absurd (let e : false ≡ true = fits in cc)
heard_less s (looks t column constant) later (reply.Ended how table number) c is fits = absurd (let e : false ≡ true = fits in cc)
heard_less s (looks t column constant) later (reply.No code value) c is fits = absurd (let e : false ≡ true = fits in cc)
heard_less s (puts_row t values) later (reply.Node body) c is fits = absurd (let e : false ≡ true = fits in cc)
heard_less s (puts_row t values) later reply.Placed c is fits = absurd (let e : false ≡ true = fits in cc)
heard_less s (puts_row t values) later (reply.Rows width bodies) c is fits = absurd (let e : false ≡ true = fits in cc)
heard_less s (puts_row t values) later (reply.Count number) c is fits = done_less c.looking c.looking (puts_row t values) later c.rest
heard_less s (puts_row t values) later (reply.Ended how table number) c is fits = absurd (let e : false ≡ true = fits in cc)
heard_less s (puts_row t values) later (reply.No code value) c is fits = ended_less s (end.Full t) (record c { seals = c.seals + length values }) (puts_row t values) later
heard_less s (asks ask) later (reply.Node body) c is fits = absurd (let e : false ≡ true = fits in cc)
heard_less s (asks ask) later reply.Placed c is fits = absurd (let e : false ≡ true = fits in cc)
heard_less s (asks ask) later (reply.Rows width bodies) c is fits = rows_less s.key ask.verb width bodies later c (asks ask) fits
heard_less s (asks ask) later (reply.Count number) c is fits = count_less ask.verb number later c (asks ask) fits
heard_less s (asks ask) later (reply.Ended how table number) c is fits = absurd (let e : false ≡ true = fits in cc)
heard_less s (asks ask) later (reply.No code value) c is fits = absurd (let e : false ≡ true = fits in cc)
heard_less s (closes rollback acts) later (reply.Node body) c is fits = absurd (let e : false ≡ true = fits in cc)
heard_less s (closes rollback acts) later reply.Placed c is fits = absurd (let e : false ≡ true = fits in cc)
heard_less s (closes rollback acts) later (reply.Rows width bodies) c is fits = absurd (let e : false ≡ true = fits in cc)
heard_less s (closes rollback acts) later (reply.Count number) c is fits = absurd (let e : false ≡ true = fits in cc)
heard_less s (closes rollback acts) later (reply.Ended how table number) c is fits = ended_less s (end_told rollback how table number) c (closes rollback acts) later
heard_less s (closes rollback acts) later (reply.No code value) c is fits = absurd (let e : false ≡ true = fits in cc)
heard_less s (rebuilds t column) later (reply.Node body) c is fits = absurd (let e : false ≡ true = fits in cc)
heard_less s (rebuilds t column) later reply.Placed c is fits = absurd (let e : false ≡ true = fits in cc)
heard_less s (rebuilds t column) later (reply.Rows width bodies) c is fits = absurd (let e : false ≡ true = fits in cc)
heard_less s (rebuilds t column) later (reply.Count number) c is fits = absurd (let e : false ≡ true = fits in cc)
heard_less s (rebuilds t column) later (reply.Ended how table number) c is fits = ended_less s (end_told false how table number) c (rebuilds t column) later
heard_less s (rebuilds t column) later (reply.No code value) c is fits = absurd (let e : false ≡ true = fits in cc)

first_less : (s : Setting) (tasks : List Task) (r : Reply) (c : Client) → c.tasks ≡ tasks → fits_first c.looking tasks r ≡ true
    → client_work (heard_at s tasks r c) < tasks_work c.looking tasks + pieces_work c.rest
unfolding fits_first heard_at
first_less s [] r c is fits = absurd (let e : false ≡ true = fits in cc)
first_less s (task ∷ later) r c is fits = heard_less s task later r c is fits

pub hears_less : (s : Setting) (c : Client) (r : Reply) → allowed c r ≡ true → client_work (hears s c r) < client_work c
unfolding allowed hears client_work
hears_less s c r may = first_less s c.tasks r c refl (and_parts (fits_first c.looking c.tasks r) (is_spelled r) may).0
