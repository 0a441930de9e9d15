-- The exchanges that sessions have made: with one more after a step, and that some bytes give those of a session that rests.
use Rattle.std.proofs.Common.{◌≡◌, ◌∙◌, ap, refl, sym, subst, ℕ, suc, Bool, true, false, eqb, List, [], ◌∷◌, ◌++◌, map, Some, inl, inr, append-nil, ◌+◌, ◌≤◌, ◌<◌, length, arith}
use Rattle.std.proofs.lemmas.Bool.{cases_eq, eq-eqb, ne_eqb}
use Rattle.std.proofs.lemmas.List.{length-map}
use Rattle.mope_base.specs.declared.numbers.SessionNo.{SessionNo}
use Rattle.mope_base.specs.Lists.{Each}
use Rattle.walk_proto.specs.declared.messages.Exchange.{Exchange}
use Rattle.walk_proto.specs.declared.messages.Request.{Request}
use Rattle.workload.specs.declared.script.Workload.{Workload}
use Rattle.workload.specs.Validity.{IsValid}
use Rattle.proxy.specs.declared.outcomes.Settings.{Settings}
use Rattle.proxy.specs.Party.{waits}
use Rattle.transaction_laws.specs.Walks.{exchanged}
use Rattle.transaction_laws.specs.Readable.{IsReadable}
use Rattle.run_laws.specs.Worlds.{RunSetting}
use Rattle.run_laws.specs.Schedules.{Underway, stepped, due_at}
use Rattle.run_laws.specs.SteppingLaws.{HasSaid}
use Rattle.run_laws.proofs.NextSteps.{others_have_said}
use Rattle.run_laws.specs.WorldRuns.{session_at}
use Rattle.run_laws.specs.SeatLaws.{IsSession}
use Rattle.step_core.specs.Cores.{Sitting, Cored, run_setting, seat_in, Follows, HaveMade}
use Rattle.step_core.specs.Outcomes.{Outcome, outcome}
use Rattle.step_core.specs.Shown.{own_exchange, said_by, AreMade}
use Rattle.step_core.specs.Sittings.{StandsAt}
use Rattle.step_core.proofs.FollowsOn.{Comes, comes}
use Rattle.step_core.proofs.SessionLists.{numbered}

own-more : (b : Bool) (e : Exchange) (said more : List Exchange) → own_exchange b e (said ++ more) ≡ own_exchange b e said ++ more
unfolding own_exchange
own-more true e said more = refl
own-more false e said more = refl

said-more : (m : ℕ) (shown : List (SessionNo × Exchange)) (n : SessionNo) (e : Exchange) → said_by m (shown ++ (n, e) ∷ []) ≡ said_by m shown ++ own_exchange (eqb n.0 m) e []
unfolding said_by
said-more m [] n e = refl
said-more m (x ∷ shown) n e =
    ap (λ (said : List Exchange). own_exchange (eqb x.0.0 m) x.1 said) (said-more m shown n e)
    ∙ own-more (eqb x.0.0 m) x.1 (said_by m shown) (own_exchange (eqb n.0 m) e [])

said-its : (m : ℕ) (shown : List (SessionNo × Exchange)) (n : SessionNo) (e : Exchange) → n.0 ≡ m → said_by m (shown ++ (n, e) ∷ []) ≡ said_by m shown ++ e ∷ []
unfolding own_exchange
said-its m shown n e same = said-more m shown n e ∙ ap (λ (b : Bool). said_by m shown ++ own_exchange b e []) (eq-eqb n.0 m same)

said-other : (m : ℕ) (shown : List (SessionNo × Exchange)) (n : SessionNo) (e : Exchange) → (n.0 ≡ m → ⊥) → said_by m (shown ++ (n, e) ∷ []) ≡ said_by m shown
unfolding own_exchange
said-other m shown n e apart = said-more m shown n e ∙ ap (λ (b : Bool). said_by m shown ++ own_exchange b e []) (ne_eqb n.0 m apart) ∙ append-nil (said_by m shown)

-- of one session
made-at : (s : RunSetting) (u : Underway) (n m : SessionNo) (e : Exchange) (shown : List (SessionNo × Exchange)) → ((before : List Exchange) → HasSaid u n before → HasSaid (stepped s u n) n (before ++ e ∷ [])) → HasSaid u m (said_by m.0 shown)
    → HasSaid (stepped s u n) m (said_by m.0 (shown ++ (n, e) ∷ []))
made-at s u n m e shown says said =
    elim (cases_eq n.0 m.0) as (λ _. HasSaid (stepped s u n) m (said_by m.0 (shown ++ (n, e) ∷ []))) [
      | inl same ↦
          subst (λ (l : List Exchange). HasSaid (stepped s u n) m l) (sym (said-its m.0 shown n e same))
          (subst (λ (k : ℕ). HasSaid (stepped s u n) (numbered k) (said_by m.0 shown ++ e ∷ [])) same
          (says (said_by m.0 shown) (subst (λ (k : ℕ). HasSaid u (numbered k) (said_by m.0 shown)) (sym same) said)))
      | inr apart ↦
          subst (λ (l : List Exchange). HasSaid (stepped s u n) m l) (sym (said-other m.0 shown n e apart))
          (others_have_said s u n m (said_by m.0 shown) (λ (e : m.0 ≡ n.0). apart (sym e)) said)
    ]

pub made-on : (settings : Settings) (w : Workload) (u : Underway) (c : Cored) (i : ℕ) (x : Sitting) (r : Request) (came : Outcome) (shown : List (SessionNo × Exchange)) → IsValid w → Follows settings w u c → StandsAt i x c.sittings → x.party.phase ≡ waits r
    → outcome (record { 0 = suc i }) c.state.current r x.conn.conn ≡ Some came → AreMade w u shown → AreMade w (stepped (run_setting settings) u (record { 0 = suc i })) (shown ++ (record { 0 = suc i }, record { request = r; reply = came.reply }) ∷ [])
unfolding exchanged
made-on settings w u c i x r came shown valid follows there waits_it is made m known =
    let goes_on : Comes (run_setting settings) w u c.state.current (map seat_in c.sittings) (numbered (suc i)) x r came = comes settings w u c i x r came valid follows there waits_it is in
    made-at (run_setting settings) u (numbered (suc i)) m (exchanged r came.reply) shown goes_on.said (made m known)

-- ---- a session that rests

log-of : (settings : Settings) (u : Underway) (number k : ℕ) (l : List Sitting) → HaveMade settings u number l → number ≤ k → k < number + length l → due_at u.due k ≡ [] → Each IsReadable (session_at u.run.sessions k).log
unfolding HaveMade
log-of settings u number k [] have from to rests = absurd (omega (arith, from, to))
log-of settings u number k (x ∷ l) have from to rests =
    elim (cases_eq number k) as (λ _. Each IsReadable (session_at u.run.sessions k).log) [
      | inl same ↦
          let log : (session_at u.run.sessions k).log ≡ have.0.0 =
          subst (λ (m : ℕ). (session_at u.run.sessions m).log ≡ have.0.0 ++ due_at u.due m) same have.0.1
          ∙ ap (λ (due : List Exchange). have.0.0 ++ due) rests
          ∙ append-nil have.0.0 in
          subst (λ (made : List Exchange). Each IsReadable made) (sym log) have.0.2.readable
      | inr apart ↦ log-of settings u (suc number) k l have.1 (omega (arith, from, apart)) (omega (arith, to)) rests
    ]

pub readable-log : (settings : Settings) (w : Workload) (u : Underway) (c : Cored) → Follows settings w u c → (n : SessionNo) → IsSession w n → due_at u.due n.0 ≡ [] → Each IsReadable (session_at u.run.sessions n.0).log
readable-log settings w u c follows n known rests =
    log-of settings u 1 n.0 c.sittings follows.made known.from (omega (arith, known.to, length-map c.sittings seat_in, follows.upheld.many)) rests
