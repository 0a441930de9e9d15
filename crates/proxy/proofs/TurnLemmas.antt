-- What a proxy makes of a reply.
use Rattle.std.proofs.Common.{◌≡◌, refl, sym, ap, subst, ◌∙◌, ℕ, drop, Bool, true, false, List, [], ◌∷◌, ◌++◌, Option, Some, None}
use Rattle.mope_base.specs.declared.numbers.SessionNo.{SessionNo}
use Rattle.workload.specs.declared.script.Act.{Act}
use Rattle.workload.specs.declared.script.Piece.{Piece}
use Rattle.walk_proto.specs.declared.messages.Exchange.{Exchange}
use Rattle.walk_proto.specs.declared.messages.Reply.{Reply}
use Rattle.walk_proto.specs.declared.messages.Request.{Request}
use Rattle.proxy.specs.declared.dialogue.Dialogue.{Dialogue}
use Rattle.proxy.specs.declared.doing.Doing.{Doing}
use Rattle.proxy.specs.declared.doing.Doing.TheVariants as doing
use Rattle.proxy.specs.declared.outcomes.Step.{Step}
use Rattle.proxy.specs.declared.outcomes.Step.TheVariants as step
use Rattle.proxy.specs.declared.outcomes.Want.{Want}
use Rattle.proxy.specs.declared.turning.Stage.{Stage}
use Rattle.proxy.specs.declared.turning.Stage.TheVariants as stage
use Rattle.proxy.specs.Allowed.{allowed}
use Rattle.proxy.specs.Client.{Setting, Client, wants, hears, first_request, request_for}
use Rattle.proxy.specs.Inside.{party_by, phase_in, Holds, IsRunning}
use Rattle.proxy.specs.Party.{Party, Phase, fresh, waits, finished, stuck, spent, told, told_by, said, noted, wanted, heard_if, going_on, phase_for, IsDue}
use Rattle.proxy.specs.Standing.{Fits, Heard, SameSession, setting_in, setting_by, client_in, tasks_left, acts_at, piece_of}
use Rattle.proxy.specs.Tasks.{Task, acts_of, last_task}

-- an exchange that was written down
pub noted_here : (log after : List Exchange) (request r : Request) (reply got : Reply) (w : Option Request)
    → after ≡ log ++ record { request = request; reply = reply } ∷ [] → Some request ≡ w → reply ≡ got → w ≡ Some r
    → after ≡ noted true log (record { request = r; reply = got })
unfolding noted
noted_here log after request r reply got w are is same wants_it =
    let e : request ≡ r = (let q : Some request ≡ Some r = is ∙ wants_it in cc) in
    are ∙ ap (λ (x : Request). log ++ record { request = x; reply = reply } ∷ []) e
    ∙ ap (λ (x : Reply). log ++ record { request = r; reply = x } ∷ []) same

-- what stays of the settings
pub same_setting : (d e : Dialogue) → SameSession d e → setting_in e ≡ setting_in d
unfolding setting_in
same_setting d e same =
    ap (λ (k : List ℕ). setting_by k e.first e.session) same.pads
    ∙ ap (λ (n : ℕ). setting_by d.pads n e.session) same.first
    ∙ ap (λ (s : SessionNo). setting_by d.pads d.first s) same.session

-- a reply that is allowed
pub heard_allowed : (d e : Dialogue) (keep : Bool) (log after : List Exchange) (r : Request) (got : Reply) → Heard d e got
    → allowed (client_in d) got ≡ true → after ≡ noted keep log (record { request = r; reply = got })
    → party_by e keep after stage.Talking ≡ heard_if (allowed (client_in d) got) r got (party_by d keep log stage.Talking)
unfolding party_by heard_if going_on phase_in
heard_allowed d e keep log after r got heard ok noted_is =
    ap (λ (s : Setting). let p : Party = record { setting = s; keep = keep; client = client_in e; log = after; phase = phase_for (wants s (client_in e)) } in p) (same_setting d e heard.session)
    ∙ ap (λ (c : Client). let p : Party = record { setting = setting_in d; keep = keep; client = c; log = after; phase = phase_for (wants (setting_in d) c) } in p) heard.client
    ∙ ap (λ (l : List Exchange). let p : Party = record { setting = setting_in d; keep = keep; client = hears (setting_in d) (client_in d) got; log = l; phase = phase_for (wants (setting_in d) (hears (setting_in d) (client_in d) got)) } in p) noted_is
    ∙ sym (ap (λ b. heard_if b r got (party_by d keep log stage.Talking)) ok)

-- one that isn't
pub heard_refused : (d : Dialogue) (keep : Bool) (log : List Exchange) (s : Stage) (r : Request) (got : Reply)
    → s ≡ stage.Stuck (wanted (client_in d)) got → allowed (client_in d) got ≡ false
    → party_by d keep log s ≡ heard_if (allowed (client_in d) got) r got (party_by d keep log stage.Talking)
unfolding party_by heard_if phase_in
heard_refused d keep log s r got s_is no_way =
    ap (λ (x : Stage). party_by d keep log x) s_is
    ∙ sym (ap (λ b. heard_if b r got (party_by d keep log stage.Talking)) no_way)

pub holds_talking : (s : Stage) (d : Dialogue) → s ≡ stage.Talking → Holds s d → Fits d
unfolding Holds
holds_talking s d is holds = subst (λ (x : Stage). Holds x d) is holds

pub holds_fresh : (s : Stage) (d : Dialogue) → s ≡ stage.Fresh → Holds s d → Fits d
unfolding Holds
holds_fresh s d is holds = subst (λ (x : Stage). Holds x d) is holds

pub holds_now : (s : Stage) (d : Dialogue) → s ≡ stage.Talking → Fits d → Holds s d
unfolding Holds
holds_now s d is fits = subst (λ (x : Stage). Holds x d) (sym is) fits

pub runs_now : (s : Stage) → s ≡ stage.Talking → IsRunning s
unfolding IsRunning
runs_now s is = subst IsRunning (sym is) tt

-- a call by where the proxy stands
pub told_fresh : (d : Dialogue) (keep : Bool) (log : List Exchange) (got : Option Reply)
    → party_by d keep log stage.Talking ≡ told got (party_by d keep log stage.Fresh)
unfolding party_by told told_by going_on phase_in
told_fresh d keep log got = refl

told_waiting : (w : Option Request) (p : Party) → told_by (phase_for w) None p ≡ p
unfolding told_by phase_for
told_waiting None p = refl
told_waiting (Some r) p = refl

pub told_none : (d : Dialogue) (keep : Bool) (log : List Exchange) → party_by d keep log stage.Talking ≡ told None (party_by d keep log stage.Talking)
unfolding party_by told phase_in
told_none d keep log = sym (told_waiting (wants (setting_in d) (client_in d)) (party_by d keep log stage.Talking))

pub told_ended : (d : Dialogue) (keep : Bool) (log : List Exchange) (got : Option Reply) → wants (setting_in d) (client_in d) ≡ None
    → party_by d keep log stage.Talking ≡ told got (party_by d keep log stage.Talking)
unfolding party_by told told_by phase_in phase_for
told_ended d keep log got none =
    sym (ap (λ (w : Option Request). told_by (phase_for w) got (party_by d keep log stage.Talking)) none)

pub told_stuck : (d : Dialogue) (keep : Bool) (log : List Exchange) (want : Want) (bad : Reply) (got : Option Reply)
    → party_by d keep log (stage.Stuck want bad) ≡ told got (party_by d keep log (stage.Stuck want bad))
unfolding party_by told told_by phase_in
told_stuck d keep log want bad got = refl

pub told_reply : (d : Dialogue) (keep : Bool) (log : List Exchange) (r : Request) (got : Reply) (after : Party) → wants (setting_in d) (client_in d) ≡ Some r
    → after ≡ heard_if (allowed (client_in d) got) r got (party_by d keep log stage.Talking)
    → after ≡ told (Some got) (party_by d keep log stage.Talking)
unfolding party_by told told_by phase_in phase_for
told_reply d keep log r got after some is =
    is ∙ sym (ap (λ (w : Option Request). told_by (phase_for w) (Some got) (party_by d keep log stage.Talking)) some)

option_some : (o : Option Request) → (o ≡ None → ⊥) → (r : Request) × (o ≡ Some r)
option_some None some = absurd (some refl)
option_some (Some r) some = (r, refl)

-- what a client wants that has not ended
pub wants_some : (s : Setting) (c : Client) → (wants s c ≡ None → ⊥) → (r : Request) × (wants s c ≡ Some r)
wants_some s c some = option_some (wants s c) some

-- what is said
pub said_send : (s : Stage) (w : Option Request) (r : Request) → s ≡ stage.Talking → Some r ≡ w → said (phase_in s w) ≡ Some (step.Send r)
unfolding said phase_in phase_for
said_send s w r is some = ap (λ (x : Stage). said (phase_in x w)) is ∙ ap (λ (o : Option Request). said (phase_for o)) (sym some)

pub said_done : (s : Stage) (w : Option Request) → s ≡ stage.Talking → None ≡ w → said (phase_in s w) ≡ Some step.Done
unfolding said phase_in phase_for
said_done s w is none = ap (λ (x : Stage). said (phase_in x w)) is ∙ ap (λ (o : Option Request). said (phase_for o)) (sym none)

pub said_strange : (s : Stage) (w : Option Request) (want : Want) (bad got : Reply) → s ≡ stage.Stuck want bad → got ≡ bad
    → said (phase_in s w) ≡ Some (step.Strange want got)
unfolding said phase_in
said_strange s w want bad got is same =
    ap (λ (x : Stage). said (phase_in x w)) is ∙ ap (λ (x : Reply). Some (step.Strange want x)) (sym same)

acts_some : (acts : List Act) (t : Task) → acts_at acts (t ∷ []) ≡ [] → ⊥
unfolding acts_at
acts_some [] t none = cc
acts_some (a ∷ acts) t none = cc

-- the script has ended exactly where nothing is to be done
tasks_some : (x : Doing) (p : Piece) (act constant : ℕ) → ((x ≡ doing.Nothing) → ⊥) → tasks_left x p act constant ≡ [] → ⊥
unfolding tasks_left
tasks_some doing.Opening p act constant some none = cc
tasks_some (doing.Looking t column value stop) p act constant some none = cc
tasks_some doing.Acting p act constant some none = acts_some (drop act (acts_of p)) (last_task p) none
tasks_some doing.Closing p act constant some none = cc
tasks_some doing.Nothing p act constant some none = some refl

request_some : (s : Setting) (c : Client) (tasks : List Task) → first_request s c tasks ≡ None → tasks ≡ []
unfolding first_request
request_some s c [] none = refl
request_some s c (t ∷ tasks) none = absurd (let e : Some (request_for s c t) ≡ None = none in cc)

pub not_ended : (d : Dialogue) → (d.doing ≡ doing.Nothing → ⊥) → wants (setting_in d) (client_in d) ≡ None → ⊥
unfolding wants client_in
not_ended d some none =
    tasks_some d.doing (piece_of d) d.act d.constant some (request_some (setting_in d) (client_in d) (client_in d).tasks none)

pub holds_stuck : (s : Stage) (d : Dialogue) (want : Want) (got : Reply) → s ≡ stage.Stuck want got → Fits d → Holds s d
unfolding Holds
holds_stuck s d want got is fits = subst (λ (x : Stage). Holds x d) (sym is) fits

pub runs_stuck : (s : Stage) (want : Want) (got : Reply) → s ≡ stage.Stuck want got → IsRunning s
unfolding IsRunning
runs_stuck s want got is = subst IsRunning (sym is) tt

-- new places for pads change nothing that is seen
pub reserved : (d : Dialogue) (pads : List ℕ) → pads ≡ d.pads → (let e : Dialogue = record d { pads = pads } in e) ≡ d
reserved d pads same = ap (λ (k : List ℕ). let e : Dialogue = record d { pads = k } in e) same

-- what is said is due
due_for : (w : Option Request) (s : Setting) (c : Client) → wants s c ≡ w → IsDue (phase_for w) s c
unfolding phase_for
due_for None s c is = is
due_for (Some r) s c is = is

pub due_by : (st : Stage) (s : Setting) (c : Client) → IsDue (phase_in st (wants s c)) s c
unfolding phase_in
due_by stage.Fresh s c = tt
due_by stage.Talking s c = due_for (wants s c) s c refl
due_by (stage.Stuck want got) s c = tt
due_by stage.Spent s c = tt

-- a proxy that is spent stays so
pub told_spent : (p : Party) (got : Option Reply) → p.phase ≡ spent → (told got p).phase ≡ spent
unfolding told told_by
told_spent p got is = ap (λ (x : Phase). (told_by x got p).phase) is ∙ is

not_spent_for : (w : Option Request) → phase_for w ≡ spent → ⊥
unfolding phase_for
not_spent_for None is = cc
not_spent_for (Some r) is = cc

pub not_spent : (st : Stage) (w : Option Request) → IsRunning st → phase_in st w ≡ spent → ⊥
unfolding phase_in IsRunning
not_spent stage.Fresh w runs is = runs
not_spent stage.Talking w runs is = not_spent_for w is
not_spent (stage.Stuck want got) w runs is = cc
not_spent stage.Spent w runs is = runs
