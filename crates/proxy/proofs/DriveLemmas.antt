-- A proxy over a log, exchange by exchange, and how much is left to do.
use Rattle.std.proofs.Common.{◌≡◌, refl, sym, ap, subst, ◌∙◌, ℕ, suc, ◌+◌, ◌-◌, ◌<◌, ◌≤◌, Bool, true, false, ◌&&◌, not, eqb, ltb, List, [], ◌∷◌, ◌++◌, length, Option, Some, None, ◌⊎◌, inl, inr, append_assoc, arith}
use Rattle.std.proofs.lemmas.Bool.{cases_Bool, ltb-true, and_parts}
use Rattle.walk_proto.specs.declared.messages.Exchange.{Exchange}
use Rattle.walk_proto.specs.declared.messages.Reply.{Reply}
use Rattle.walk_proto.specs.declared.messages.Request.{Request}
use Rattle.proxy.specs.declared.outcomes.Driven.TheVariants as driven
use Rattle.proxy.specs.declared.outcomes.Finished.{Finished}
use Rattle.proxy.specs.declared.outcomes.Step.{Step}
use Rattle.proxy.specs.declared.outcomes.Step.TheVariants as step
use Rattle.proxy.specs.declared.outcomes.Want.{Want}
use Rattle.proxy.specs.Allowed.{allowed}
use Rattle.proxy.specs.Client.{Setting, Client, wants, hears}
use Rattle.proxy.specs.Party.{Party, Phase, fresh, waits, finished, stuck, spent, told, told_by, noted, noted_all, wanted, heard_if, going_on, phase_for, IsDue, Stops, said, DrivenOver}
use Rattle.proxy.proofs.WorkLemmas.{client_work, hears_less}
use Rattle.proxy.specs.Talk.{Talk, AllAllowed, client_after, HasEnded}

abbrev pub one : Request → Reply → Exchange
one r got = record { request = r; reply = got }

-- a log with one exchange more
talk_more : (s : Setting) (c : Client) (log : List Exchange) (r : Request) (got : Reply) → Talk s c log → wants s (client_after s c log) ≡ Some r
    → Talk s c (log ++ one r got ∷ [])
unfolding Talk client_after
talk_more s c [] r got talk is = (is, tt)
talk_more s c (e ∷ log) r got talk is = (talk.0, talk_more s (hears s c e.reply) log r got talk.1 is)

allowed_more : (s : Setting) (c : Client) (log : List Exchange) (r : Request) (got : Reply) → AllAllowed s c log
    → allowed (client_after s c log) got ≡ true → AllAllowed s c (log ++ one r got ∷ [])
unfolding AllAllowed client_after
allowed_more s c [] r got all ok = (ok, tt)
allowed_more s c (e ∷ log) r got all ok = (all.0, allowed_more s (hears s c e.reply) log r got all.1 ok)

after_more : (s : Setting) (c : Client) (log : List Exchange) (r : Request) (got : Reply)
    → client_after s c (log ++ one r got ∷ []) ≡ hears s (client_after s c log) got
unfolding client_after
after_more s c [] r got = refl
after_more s c (e ∷ log) r got = after_more s (hears s c e.reply) log r got

noted_more : (keep : Bool) (kept log : List Exchange) (e : Exchange) → noted_all keep kept (log ++ e ∷ []) ≡ noted keep (noted_all keep kept log) e
unfolding noted_all
noted_more keep kept [] e = refl
noted_more keep kept (x ∷ log) e = noted_more keep (noted keep kept x) log e

-- a proxy that has come from another over a log and goes on
pub record Along (p q : Party) (log : List Exchange) : Type 0 where
  pub setting : q.setting ≡ p.setting
  pub keep : q.keep ≡ p.keep
  pub talk : Talk p.setting p.client log
  pub allows : AllAllowed p.setting p.client log
  pub client : q.client ≡ client_after p.setting p.client log
  pub kept : q.log ≡ noted_all p.keep p.log log

-- where it has come to
unfoldable pub Comes : Phase → Party → Party → List Exchange → Type 0
Comes fresh p q log = ⊥
Comes (waits r) p q log = Along p q log × (wants p.setting (client_after p.setting p.client log) ≡ Some r)
Comes finished p q log = Along p q log × HasEnded p.setting (client_after p.setting p.client log)
Comes (stuck want got) p q log = Talk p.setting p.client log × ((p.phase ≡ stuck want got × log ≡ []) ⊎ Stops p log want got)
Comes spent p q log = ⊥

-- a reply takes a proxy on
along_more : (p q : Party) (log : List Exchange) (r : Request) (got : Reply) → Along p q log → wants p.setting (client_after p.setting p.client log) ≡ Some r
    → allowed q.client got ≡ true
    → Along p (going_on (record q { client = hears q.setting q.client got; log = noted q.keep q.log (one r got) })) (log ++ one r got ∷ [])
unfolding going_on
along_more p q log r got along is ok = record {
  setting = along.setting;
  keep = along.keep;
  talk = talk_more p.setting p.client log r got along.talk is;
  allows = allowed_more p.setting p.client log r got along.allows (ap (λ (c : Client). allowed c got) (sym along.client) ∙ ok);
  client =
      ap (λ (s : Setting). hears s q.client got) along.setting
      ∙ ap (λ (c : Client). hears p.setting c got) along.client
      ∙ sym (after_more p.setting p.client log r got);
  kept =
      ap (λ (b : Bool). noted b q.log (one r got)) along.keep
      ∙ ap (λ (l : List Exchange). noted p.keep l (one r got)) along.kept
      ∙ sym (noted_more p.keep p.log log (one r got));
}

comes_on : (w : Option Request) (p q : Party) (log : List Exchange) → Along p q log → wants q.setting q.client ≡ w → Comes (phase_for w) p q log
unfolding Comes phase_for
comes_on None p q log along is = (along, ap (λ (s : Setting). wants s (client_after p.setting p.client log)) (sym along.setting) ∙ ap (wants q.setting) (sym along.client) ∙ is)
comes_on (Some r) p q log along is = (along, ap (λ (s : Setting). wants s (client_after p.setting p.client log)) (sym along.setting) ∙ ap (wants q.setting) (sym along.client) ∙ is)

comes_if : (b : Bool) (p q : Party) (log : List Exchange) (r : Request) (got : Reply) → allowed q.client got ≡ b → Along p q log
    → wants p.setting (client_after p.setting p.client log) ≡ Some r → Comes (heard_if b r got q).phase p (heard_if b r got q) (log ++ one r got ∷ [])
unfolding heard_if Comes going_on
comes_if true p q log r got ok along is =
    comes_on (wants q.setting (hears q.setting q.client got)) p
    (going_on (record q { client = hears q.setting q.client got; log = noted q.keep q.log (one r got) })) (log ++ one r got ∷ [])
    (along_more p q log r got along is ok) refl
comes_if false p q log r got refused along is = (
  talk_more p.setting p.client log r got along.talk is,
  inr (record {
    before = log;
    request = r;
    last = refl;
    allows = along.allows;
    refuses = ap (λ (c : Client). allowed c got) (sym along.client) ∙ refused;
    wants = ap wanted along.client;
  }),
)

-- the next exchange
pub comes_next : (p q : Party) (log : List Exchange) (r : Request) (got : Reply) → q.phase ≡ waits r → Comes q.phase p q log
    → Comes (told (Some got) q).phase p (told (Some got) q) (log ++ one r got ∷ [])
unfolding told told_by Comes
comes_next p q log r got is comes =
    let here = subst (λ (x : Phase). Comes x p q log) is comes in
    subst (λ (x : Phase). Comes (told_by x (Some got) q).phase p (told_by x (Some got) q) (log ++ one r got ∷ [])) (sym is)
    (comes_if (allowed q.client got) p q log r got refl here.0 here.1)

-- the talk up to now
comes_talk : (x : Phase) (p q : Party) (log : List Exchange) → Comes x p q log → Talk p.setting p.client log
unfolding Comes
comes_talk fresh p q log comes = absurd comes
comes_talk (waits r) p q log comes = comes.0.talk
comes_talk finished p q log comes = comes.0.talk
comes_talk (stuck want got) p q log comes = comes.0
comes_talk spent p q log comes = absurd comes

pub talk_of : (p q : Party) (log : List Exchange) → Comes q.phase p q log → Talk p.setting p.client log
talk_of p q log comes = comes_talk q.phase p q log comes

pub talk_next : (p q : Party) (log : List Exchange) (r : Request) (got : Reply) → q.phase ≡ waits r → Comes q.phase p q log
    → Talk p.setting p.client (log ++ one r got ∷ [])
talk_next p q log r got is comes = talk_of p (told (Some got) q) (log ++ one r got ∷ []) (comes_next p q log r got is comes)

-- where a proxy begins
along_start : (p : Party) (x : Phase) → Along p (record p { phase = x }) []
unfolding Talk AllAllowed client_after noted_all
along_start p x = record { setting = refl; keep = refl; talk = tt; allows = tt; client = refl; kept = refl }

comes_from : (x : Phase) (p : Party) (st : Step) → p.phase ≡ x → said (told_by x None p).phase ≡ Some st
    → IsDue (told_by x None p).phase (told_by x None p).setting (told_by x None p).client → Comes (told_by x None p).phase p (told_by x None p) []
unfolding told_by going_on
comes_from fresh p st is says due =
    comes_on (wants p.setting p.client) p (record p { phase = phase_for (wants p.setting p.client) }) [] (along_start p (phase_for (wants p.setting p.client))) refl
comes_from (waits r) p st is says due =
    let here : Comes (waits r) p p [] = unfold Comes in unfold client_after in (along_start p p.phase, subst (λ (x : Phase). IsDue x p.setting p.client) is due) in
    subst (λ (x : Phase). Comes x p p []) (sym is) here
comes_from finished p st is says due =
    let here : Comes finished p p [] = unfold Comes in unfold client_after in (along_start p p.phase, subst (λ (x : Phase). IsDue x p.setting p.client) is due) in
    subst (λ (x : Phase). Comes x p p []) (sym is) here
comes_from (stuck want got) p st is says due =
    let here : Comes (stuck want got) p p [] = unfold Comes in unfold Talk in (tt, inl (is, refl)) in
    subst (λ (x : Phase). Comes x p p []) (sym is) here
comes_from spent p st is says due =
    absurd (let e : None ≡ Some st = unfold said in (sym (ap said is) ∙ says) in cc)

pub comes_first : (p : Party) (st : Step) → said (told None p).phase ≡ Some st → IsDue (told None p).phase (told None p).setting (told None p).client
    → Comes (told None p).phase p (told None p) []
unfolding told
comes_first p st says due = comes_from p.phase p st refl says due

-- what was said tells where a proxy stands
pub said_sends : (x : Phase) (r : Request) → said x ≡ Some (step.Send r) → x ≡ waits r
unfolding said
said_sends fresh r is = cc
said_sends (waits q) r is = cc
said_sends finished r is = cc
said_sends (stuck want got) r is = cc
said_sends spent r is = cc

pub said_ends : (x : Phase) → said x ≡ Some step.Done → x ≡ finished
unfolding said
said_ends fresh is = cc
said_ends (waits q) is = cc
said_ends finished is = refl
said_ends (stuck want got) is = cc
said_ends spent is = cc

pub said_stops : (x : Phase) (want : Want) (got : Reply) → said x ≡ Some (step.Strange want got) → x ≡ stuck want got
unfolding said
said_stops fresh want got is = cc
said_stops (waits q) want got is = cc
said_stops finished want got is = cc
said_stops (stuck w g) want got is = cc
said_stops spent want got is = cc

pub driven_to_end : (p q : Party) (log : List Exchange) (f : Finished) → said q.phase ≡ Some step.Done → Comes q.phase p q log
    → f.txns ≡ q.client.done → f.log ≡ q.log → DrivenOver p log (driven.Finished f)
unfolding DrivenOver Comes
driven_to_end p q log f is comes txns kept =
    let here = subst (λ (x : Phase). Comes x p q log) (said_ends q.phase is) comes in
    record {
      allows = here.0.allows;
      ended = here.1;
      transactions = txns ∙ ap (λ (c : Client). c.done) here.0.client;
      kept = kept ∙ here.0.kept;
    }

pub driven_to_stop : (p q : Party) (log : List Exchange) (want : Want) (got : Reply) → said q.phase ≡ Some (step.Strange want got) → Comes q.phase p q log
    → DrivenOver p log (driven.Strange want got)
unfolding DrivenOver Comes
driven_to_stop p q log want got is comes = (subst (λ (x : Phase). Comes x p q log) (said_stops q.phase want got is) comes).1

-- how many exchanges a proxy makes at most
unfoldable pub phase_work : Phase → Client → ℕ
phase_work fresh c = 0
phase_work (waits r) c = suc (client_work c)
phase_work finished c = 0
phase_work (stuck want got) c = 0
phase_work spent c = 0

unfoldable pub work_in : Party → ℕ
work_in p = phase_work p.phase p.client

work_for : (w : Option Request) (c : Client) → phase_work (phase_for w) c ≤ suc (client_work c)
unfolding phase_work phase_for
work_for None c = omega arith
work_for (Some r) c = omega arith

work_if : (b : Bool) (q : Party) (r : Request) (got : Reply) → allowed q.client got ≡ b → work_in (heard_if b r got q) < suc (client_work q.client)
unfolding work_in heard_if going_on phase_work
work_if true q r got ok =
    let some = work_for (wants q.setting (hears q.setting q.client got)) (hears q.setting q.client got) in
    let less = hears_less q.setting q.client got ok in
    omega (arith, some, less)
work_if false q r got refused = omega arith

pub work_less : (q q2 : Party) (r : Request) (got : Reply) → q.phase ≡ waits r → q2 ≡ told (Some got) q → work_in q2 < work_in q
unfolding told told_by
work_less q q2 r got is moved =
    let here : work_in q ≡ suc (client_work q.client) = unfold work_in in unfold phase_work in ap (λ (x : Phase). phase_work x q.client) is in
    let there : work_in q2 ≡ work_in (heard_if (allowed q.client got) r got q) = ap work_in moved ∙ ap (λ (x : Phase). work_in (told_by x (Some got) q)) is in
    let less = work_if (allowed q.client got) q r got refl in
    omega (arith, here, there, less)

-- the same after calls whose results are known by equations
pub comes_begun : (p q : Party) (st : Step) → q ≡ told None p → said q.phase ≡ Some st → IsDue q.phase q.setting q.client → Comes q.phase p q []
comes_begun p q st moved says due =
    subst (λ (x : Party). Comes x.phase p x []) (sym moved)
    (comes_first p st (ap (λ (x : Party). said x.phase) (sym moved) ∙ says) (subst (λ (x : Party). IsDue x.phase x.setting x.client) moved due))

pub comes_moved : (p q q2 : Party) (log : List Exchange) (r : Request) (got : Reply) → said q.phase ≡ Some (step.Send r) → Comes q.phase p q log
    → q2 ≡ told (Some got) q → Comes q2.phase p q2 (log ++ one r got ∷ [])
comes_moved p q q2 log r got says comes moved =
    subst (λ (x : Party). Comes x.phase p x (log ++ one r got ∷ [])) (sym moved) (comes_next p q log r got (said_sends q.phase r says) comes)
