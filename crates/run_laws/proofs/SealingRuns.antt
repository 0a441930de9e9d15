-- All that the server sees of a run are seals of its sessions' cells.
use Rattle.std.proofs.Common.{◌≡◌, ℕ, zero, suc, ◌+◌, ◌*◌, ◌^◌, ◌<◌, ◌≤◌, List, [], ◌∷◌, map, length, get_or, refl, ap, ◌∙◌, sym, subst, inl, inr, arith}
use Rattle.std.proofs.lemmas.Bool.{cases_lt}
use Rattle.std.proofs.lemmas.List.{length-map, get_or_past}
use Rattle.mope_base.specs.Lists.{Each}
use Rattle.mope_base.specs.declared.body.Body.{Body}
use Rattle.mope_base.specs.declared.numbers.SessionNo.{SessionNo}
use Rattle.value_cipher.specs.Cipher.{sealed, nonce_at}
use Rattle.value_cipher.proofs.CipherLemmas.{nonce-sealed, nonce_at-distinct, nonce_at-within}
use Rattle.workload.specs.declared.script.Workload.{Workload}
use Rattle.workload.specs.Run.{Position, position_at}
use Rattle.workload.specs.Validity.{IsValid}
use Rattle.proxy.specs.Client.{Setting, cells_from}
use Rattle.run_laws.specs.Worlds.{RunSetting, session_setting}
use Rattle.run_laws.specs.WorldRuns.{Session, new_session, WorldRun, first_run, session_at, next_turn, world_turn, world_turns, world_run}
use Rattle.run_laws.specs.CellLaws.{log_bodies, sent_bodies, IsSent, WasSent, NoncesDiffer, SealsCells}
use Rattle.run_laws.proofs.Lasting.{Lasts, first-lasts}
use Rattle.run_laws.proofs.TurnCases.{turn-lasts}
use Rattle.run_laws.proofs.KnownCells.{sent-append}
use Rattle.run_laws.proofs.RunSteps.{through-turns, through-run}
use Rattle.run_laws.proofs.SealingActs.{each-front}
use Rattle.run_laws.proofs.SealingTurns.{Seals, Grows, first-seals, turn-seals-from, turn-grows, script-few}

pub record Both (s : RunSetting) (w : Workload) (Q : Body → Type 0) (r : WorldRun) : Type 0 where
  pub lasts : Lasts s w r
  pub closed : ((k : SessionNo) → Each Q (sent_bodies (session_at r.sessions k.0).log)) → Seals s w Q r

module _ (s : RunSetting) (w : Workload) (Q : Body → Type 0) (valid : IsValid w) where
  -- what was sent before a turn is sent after it
  before : (r next : WorldRun) (k : SessionNo) → Grows r next k → Each Q (sent_bodies (session_at next.sessions k.0).log) → Each Q (sent_bodies (session_at r.sessions k.0).log)
  before r next k grows all =
      (each-front Q (sent_bodies (session_at r.sessions k.0).log) (sent_bodies grows.more)
      (subst (Each Q) (ap sent_bodies grows.is ∙ sent-append (session_at r.sessions k.0).log grows.more) all)).0

  turn : (r : WorldRun) (n : SessionNo) → Both s w Q r → Both s w Q (world_turn s r n)
  unfolding world_turn next_turn
  turn r n both =
      let p : Position = position_at r.plain.positions n.0 in
      record {
        lasts = turn-lasts s w r n valid both.lasts;
        closed = λ asked. turn-seals-from s w Q r n valid both.lasts (both.closed (λ k. before r (world_turn s r n) k (turn-grows s w r n both.lasts p refl k) (asked k))) p refl (asked n);
      }

  first-both : Both s w Q (first_run s w)
  first-both = record { lasts = first-lasts s w; closed = λ asked. first-seals s w Q }

  after-turns : (sessions : List SessionNo) → Both s w Q (world_turns s (first_run s w) sessions)
  after-turns sessions = through-turns s (Both s w Q) turn (first_run s w) sessions first-both

  after-run : (sessions : List SessionNo) → Both s w Q (world_run s w sessions)
  after-run sessions = through-run s (Both s w Q) turn w sessions first-both

-- ---- what was sent was sent

each-place : (P : Body → Type 0) (l : List Body) → ((j : ℕ) (x : Body) → j < length l → get_or l j x ≡ x → P x) → Each P l
unfolding Each
each-place P [] all = tt
each-place P (y ∷ l) all = (all 0 y (omega arith) refl, each-place P l (λ j x lt is. all (suc j) x (omega (arith, lt)) is))

was-sent : (s : RunSetting) (w : Workload) (r : WorldRun) → Lasts s w r → (i : ℕ) (k : SessionNo) → k.0 ≡ i → Each (WasSent w r) (sent_bodies (session_at r.sessions i).log)
unfolding session_at sent_bodies new_session Each
was-sent s w r lasts zero k is = tt
was-sent s w r lasts (suc i) k is =
    elim (cases_lt i (length r.sessions)) as (λ _. Each (WasSent w r) (sent_bodies (get_or r.sessions i new_session).log)) [
      | inl within ↦ each-place (WasSent w r) (sent_bodies (get_or r.sessions i new_session).log) (λ (j : ℕ) (x : Body) (lt : j < length (sent_bodies (get_or r.sessions i new_session).log)) (at : get_or (sent_bodies (get_or r.sessions i new_session).log) j x ≡ x).
          let n : SessionNo = record { 0 = suc i } in
          record { session = n; counter = j; from = omega arith; to = omega (arith, within, lasts.sessions); within = lt; is = at })
      | inr past ↦ subst (λ (x : Session). Each (WasSent w r) (sent_bodies x.log)) (sym (get_or_past r.sessions i new_session past)) tt
    ]

each-of : (P : Session → Type 0) (sessions : List Session) → ((i : ℕ) → i < length sessions → P (get_or sessions i new_session)) → Each P sessions
unfolding Each
each-of P [] all = tt
each-of P (x ∷ sessions) all = (all 0 (omega arith), each-of P sessions (λ i lt. all (suc i) (omega (arith, lt))))

log-at : (s : RunSetting) (w : Workload) (Q : Body → Type 0) (r : WorldRun) → Seals s w Q r → (i : ℕ) → Each Q (log_bodies (get_or r.sessions i new_session).log)
unfolding session_at
log-at s w Q r seals i = let n : SessionNo = record { 0 = suc i } in (seals.sessions n).known

length-cells : (st : Setting) (count : ℕ) (values : List ℕ) → length (cells_from st count values) ≡ length values
unfolding cells_from
length-cells st count [] = refl
length-cells st count (v ∷ values) = ap suc (length-cells st (suc count) values)

sealed-at : (key : List ℕ) (st : Setting) (count : ℕ) (values : List ℕ) (j : ℕ) (d : Body) → j < length values → (get_or (map (sealed key) (cells_from st count values)) j d).nonce ≡ nonce_at st.first st.session.0 (count + j)
unfolding cells_from
sealed-at key st count [] j d lt = absurd (omega (arith, lt))
sealed-at key st count (v ∷ values) zero d lt = nonce-sealed key (record { nonce = nonce_at st.first st.session.0 count; value = v }) ∙ ap (nonce_at st.first st.session.0) (omega arith)
sealed-at key st count (v ∷ values) (suc j) d lt = sealed-at key st (suc count) values j d (omega (arith, lt)) ∙ ap (nonce_at st.first st.session.0) (omega arith)

sent-of : (s : RunSetting) (w : Workload) (Q : Body → Type 0) (r : WorldRun) → IsValid w → Seals s w Q r → (n : SessionNo) → IsSent s w n (sent_bodies (session_at r.sessions n.0).log)
sent-of s w Q r valid seals n = let own = seals.sessions n in record { values = own.values; numbers = own.numbers; few = omega (arith, own.few, script-few w n.0 valid); bodies = own.sent }

-- the nonce of a body that a session sent
record NonceIs (s : RunSetting) (n : SessionNo) (sent : List Body) (i : ℕ) (d : Body) : Type 0 where
  few : i < 2 ^ 32
  nonce : (get_or sent i d).nonce ≡ nonce_at s.first n.0 (0 + i)

sent-nonce : (s : RunSetting) (w : Workload) (n : SessionNo) (sent : List Body) (i : ℕ) (d : Body) → IsSent s w n sent → i < length sent → NonceIs s n sent i d
unfolding session_setting
sent-nonce s w n sent i d own lt =
    let st : Setting = session_setting s n in
    let many : length sent ≡ length own.values = ap length own.bodies ∙ length-map (cells_from st 0 own.values) (sealed s.key) ∙ length-cells st 0 own.values in
    let here : i < length own.values = omega (arith, lt, many) in
    record { few = omega (arith, here, own.few); nonce = ap (λ (l : List Body). (get_or l i d).nonce) own.bodies ∙ sealed-at s.key st 0 own.values i d here }

body-within : (s : RunSetting) (w : Workload) (r : WorldRun) → ((n : SessionNo) → IsSent s w n (sent_bodies (session_at r.sessions n.0).log)) → (body : Body) → WasSent w r body → (s.first ≤ body.nonce) × (body.nonce < s.first + length w.sessions * 2 ^ 32)
body-within s w r sent body was =
    let sent_here : List Body = sent_bodies (session_at r.sessions was.session.0).log in
    let is : NonceIs s was.session sent_here was.counter body = sent-nonce s w was.session sent_here was.counter body (sent was.session) was.within in
    let nonce : body.nonce ≡ nonce_at s.first was.session.0 (0 + was.counter) = ap (λ (b : Body). b.nonce) (sym was.is) ∙ is.nonce in
    let within = nonce_at-within s.first (length w.sessions) was.session.0 (0 + was.counter) was.from was.to (omega (arith, is.few)) in
    (omega (arith, nonce, within.0), omega (arith, nonce, within.1))

nonces-differ : (s : RunSetting) (w : Workload) (r : WorldRun) → ((n : SessionNo) → IsSent s w n (sent_bodies (session_at r.sessions n.0).log)) → NoncesDiffer r
nonces-differ s w r sent n m i j d e from from_m lt lt_m same =
    let one : NonceIs s n (sent_bodies (session_at r.sessions n.0).log) i d = sent-nonce s w n (sent_bodies (session_at r.sessions n.0).log) i d (sent n) lt in
    let other : NonceIs s m (sent_bodies (session_at r.sessions m.0).log) j e = sent-nonce s w m (sent_bodies (session_at r.sessions m.0).log) j e (sent m) lt_m in
    let both = nonce_at-distinct s.first n.0 (0 + i) m.0 (0 + j) from from_m (omega (arith, one.few)) (omega (arith, other.few)) (sym one.nonce ∙ same ∙ other.nonce) in
    (both.0, omega (arith, both.1))

seals-cells : (s : RunSetting) (w : Workload) (r : WorldRun) → IsValid w → Both s w (WasSent w r) r → SealsCells s w r
seals-cells s w r valid both =
    let seals : Seals s w (WasSent w r) r = both.closed (λ (k : SessionNo). was-sent s w r both.lasts k.0 k refl) in
    let sent : (n : SessionNo) → IsSent s w n (sent_bodies (session_at r.sessions n.0).log) = sent-of s w (WasSent w r) r valid seals in
    record {
      sent = sent;
      logs = each-of (λ (session : Session). Each (WasSent w r) (log_bodies session.log)) r.sessions (λ i lt. log-at s w (WasSent w r) r seals i);
      turns = seals.turns;
      differ = nonces-differ s w r sent;
      within = body-within s w r sent;
    }

pub turns_seal_cells : (s : RunSetting) (w : Workload) → IsValid w → (sessions : List SessionNo) → SealsCells s w (world_turns s (first_run s w) sessions)
turns_seal_cells s w valid sessions = let r : WorldRun = world_turns s (first_run s w) sessions in seals-cells s w r valid (after-turns s w (WasSent w r) valid sessions)

pub run_seals_cells : (s : RunSetting) (w : Workload) → IsValid w → (sessions : List SessionNo) → SealsCells s w (world_run s w sessions)
run_seals_cells s w valid sessions = let r : WorldRun = world_run s w sessions in seals-cells s w r valid (after-run s w (WasSent w r) valid sessions)
