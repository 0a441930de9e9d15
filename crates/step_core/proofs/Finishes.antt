-- At the end of a run each script came to what the run says, and a watch was shown all exchanges.
use Rattle.std.proofs.Common.{◌≡◌, refl, sym, ◌∙◌, ap, subst, ℕ, zero, suc, ◌+◌, ◌<◌, ◌≤◌, Bool, true, false, List, [], ◌∷◌, ◌++◌, map, length, drop, inl, inr, arith}
use Rattle.std.proofs.Math.Seq.{drop-length}
use Rattle.std.proofs.lemmas.List.{append_assoc, append-nil, length-map}
use Rattle.mope_base.specs.Lists.{Each}
use Rattle.mope_base.specs.declared.numbers.SessionNo.{SessionNo}
use Rattle.walk_proto.specs.declared.messages.Exchange.{Exchange}
use Rattle.workload.specs.Run.{session_numbers}
use Rattle.workload.specs.Validity.{IsValid}
use Rattle.workload.specs.declared.script.Piece.{Piece}
use Rattle.workload.specs.declared.script.Workload.{Workload}
use Rattle.proxy.specs.Party.{finished, noted, noted_all}
use Rattle.proxy.specs.declared.outcomes.Finished.{Finished}
use Rattle.proxy.specs.declared.outcomes.Settings.{Settings}
use Rattle.server_conn.specs.declared.receipt.Receipt.{Receipt}
use Rattle.transaction_laws.specs.Readable.{IsReadable}
use Rattle.run_laws.specs.ScheduleLaws.{HasNothingLeft}
use Rattle.run_laws.specs.Schedules.{Underway, due_at}
use Rattle.run_laws.specs.SeatLaws.{IsSession}
use Rattle.run_laws.specs.Seats.{Seat, done_by}
use Rattle.run_laws.specs.SteppingLaws.{IsAtEnd, HasSaid}
use Rattle.run_laws.specs.TellingLaws.{version_now}
use Rattle.run_laws.specs.WorldRuns.{WorldRun, session_at, world_finished}
use Rattle.run_laws.specs.Worlds.{first_version}
use Rattle.step_core.specs.Cores.{Cored, Follows, HasReadable, Sitting, end_of, finished_in, kept_if, run_setting, seat_in}
use Rattle.step_core.specs.Endings.{EndsFirst, FirstFinished}
use Rattle.step_core.specs.Shown.{AreAll, AreMade, GrowsTo, said_by}
use Rattle.step_core.specs.Sittings.{HasFinished, StandsAt, finished_of}
use Rattle.step_core.proofs.Ended.{first-all}
use Rattle.step_core.proofs.Ending.{at-end, nothing-left}
use Rattle.step_core.proofs.Places.{at_place, Made, made-at, known-at, stands-seat}

-- ---- the exchanges that were kept

noted-true : (log made : List Exchange) → noted_all true log made ≡ log ++ made
unfolding noted_all noted
noted-true log [] = sym (append-nil log)
noted-true log (e ∷ made) = noted-true (log ++ e ∷ []) made ∙ append_assoc log (e ∷ []) made

noted-false : (log made : List Exchange) → noted_all false log made ≡ log
unfolding noted_all noted
noted-false log [] = refl
noted-false log (e ∷ made) = noted-false log made

kept-all : (keep : Bool) (made : List Exchange) → noted_all keep [] made ≡ kept_if keep made
unfolding kept_if
kept-all true made = noted-true [] made
kept-all false made = noted-false [] made

kept-readable : (keep : Bool) (made : List Exchange) → Each IsReadable made → Each IsReadable (kept_if keep made)
unfolding kept_if Each
kept-readable true made all = all
kept-readable false made all = tt

-- ---- lists of sittings and of sessions

map-numbers : (f : Sitting → Finished) (h : SessionNo → Finished) (k : ℕ) (sittings : List Sitting) (scripts : List (List Piece)) → length sittings ≡ length scripts
    → ((i n : ℕ) (x : Sitting) → StandsAt i x sittings → i + k ≡ n → f x ≡ h (record { 0 = n })) → map f sittings ≡ map h (session_numbers k scripts)
unfolding StandsAt session_numbers
map-numbers f h k [] [] many same = refl
map-numbers f h k [] (script ∷ scripts) many same = absurd (omega (arith, many))
map-numbers f h k (x ∷ sittings) [] many same = absurd (omega (arith, many))
map-numbers f h k (x ∷ sittings) (script ∷ scripts) many same =
    let rest : length sittings ≡ length scripts = omega (arith, many) in
    let none : 0 + k ≡ k = omega arith in
    let head : f x ≡ h (record { 0 = k }) = same 0 k x refl none in
    let tail : map f sittings ≡ map h (session_numbers (suc k) scripts) =
    map-numbers f h (suc k) sittings scripts rest (λ (i n : ℕ) (y : Sitting) (stands : StandsAt i y sittings) (count : i + suc k ≡ n). same (suc i) n y stands (further i k n count)) in
    ap (λ (y : Finished). y ∷ map f sittings) head ∙ ap (λ (l : List Finished). h (record { 0 = k }) ∷ l) tail
  where
    further : (i k n : ℕ) → i + suc k ≡ n → suc i + k ≡ n
    further i k n count = omega (arith, count)

each-readable : (sittings : List Sitting) → ((i : ℕ) (x : Sitting) → StandsAt i x sittings → HasReadable (finished_of x)) → Each HasReadable (map finished_of sittings)
unfolding StandsAt Each
each-readable [] readable = tt
each-readable (x ∷ sittings) readable = (readable 0 x refl, each-readable sittings (λ (i : ℕ) (y : Sitting) (stands : StandsAt i y sittings). readable (suc i) y stands))

each-stands : (sittings : List Sitting) → Each HasFinished sittings → (i : ℕ) (x : Sitting) → StandsAt i x sittings → HasFinished x
unfolding StandsAt Each
each-stands [] all i x stands = absurd stands
each-stands (y ∷ sittings) all zero x stands = subst HasFinished stands all.0
each-stands (y ∷ sittings) all (suc i) x stands = each-stands sittings all.1 i x stands

record Stands (i : ℕ) (sittings : List Sitting) : Type 0 where
  sitting : Sitting
  stands : StandsAt i sitting sittings

stands-there : (sittings : List Sitting) (i : ℕ) → i < length sittings → Stands i sittings
unfolding StandsAt
stands-there [] i less = absurd (omega (arith, less))
stands-there (x ∷ sittings) zero less = record { sitting = x; stands = refl }
stands-there (x ∷ sittings) (suc i) less =
    let rest : i < length sittings = omega (arith, less) in
    let there : Stands i sittings = stands-there sittings i rest in
    record { sitting = there.sitting; stands = there.stands }

-- ---- a core whose sessions have all finished

one-finished : (settings : Settings) (w : Workload) (u : Underway) (c : Cored) (i : ℕ) (x : Sitting) → IsValid w → Follows settings w u c → StandsAt i x c.sittings → HasFinished x → finished_of x ≡ finished_in settings.keep u.run (at_place i)
unfolding finished_of finished_in seat_in
one-finished settings w u c i x valid follows stands over =
    let end : IsAtEnd (run_setting settings) u (map seat_in c.sittings) (at_place i) = at-end settings w u c i x valid follows stands over in
    let made : Made settings u (at_place i) x = made-at settings w u c i x follows stands in
    let done : x.party.client.done ≡ done_by (suc i) u.run.plain.done = sym (ap (λ (seat : Seat). seat.client.done) (stands-seat c.sittings i x stands)) ∙ end.done in
    let all : made.exchanges ≡ (session_at u.run.sessions (suc i)).log = sym (made.whole ∙ ap (λ (l : List Exchange). made.exchanges ++ l) end.left.rests ∙ append-nil made.exchanges) in
    let log : x.party.log ≡ kept_if settings.keep (session_at u.run.sessions (suc i)).log = made.has.log ∙ kept-all settings.keep made.exchanges ∙ ap (kept_if settings.keep) all in
    ap (λ t. let f : Finished = record { txns = t; log = x.party.log } in f) done
    ∙ ap (λ l. let f : Finished = record { txns = done_by (suc i) u.run.plain.done; log = l } in f) log

count-of : (settings : Settings) (w : Workload) (u : Underway) (c : Cored) → Follows settings w u c → length c.sittings ≡ length w.sessions
count-of settings w u c follows = sym (length-map c.sittings seat_in) ∙ follows.upheld.many

all-finished : (settings : Settings) (w : Workload) (u : Underway) (c : Cored) → IsValid w → Follows settings w u c → Each HasFinished c.sittings → map finished_of c.sittings ≡ map (finished_in settings.keep u.run) (session_numbers 1 w.sessions)
all-finished settings w u c valid follows all =
    map-numbers finished_of (finished_in settings.keep u.run) 1 c.sittings w.sessions (count-of settings w u c follows)
    (λ (i n : ℕ) (x : Sitting) (stands : StandsAt i x c.sittings) (count : i + 1 ≡ n).
    subst (λ (m : ℕ). finished_of x ≡ finished_in settings.keep u.run (record { 0 = m })) (next i n count) (one-finished settings w u c i x valid follows stands (each-stands c.sittings all i x stands)))
  where
    next : (i n : ℕ) → i + 1 ≡ n → suc i ≡ n
    next i n count = omega (arith, count)

one-readable : (settings : Settings) (w : Workload) (u : Underway) (c : Cored) (i : ℕ) (x : Sitting) → Follows settings w u c → StandsAt i x c.sittings → HasReadable (finished_of x)
unfolding finished_of
one-readable settings w u c i x follows stands =
    let made : Made settings u (at_place i) x = made-at settings w u c i x follows stands in
    subst (λ (l : List Exchange). Each IsReadable l) (sym (made.has.log ∙ kept-all settings.keep made.exchanges)) (kept-readable settings.keep made.exchanges made.has.readable)

-- ---- all exchanges

none-due : (settings : Settings) (w : Workload) (u : Underway) (c : Cored) → IsValid w → Follows settings w u c → Each HasFinished c.sittings → (k : ℕ) → IsSession w (record { 0 = k }) → due_at u.due k ≡ []
unfolding due_at
none-due settings w u c valid follows all zero known = refl
none-due settings w u c valid follows all (suc i) known =
    let many : length c.sittings ≡ length w.sessions = count-of settings w u c follows in
    let to : suc i ≤ length w.sessions = known.to in
    let less : i < length c.sittings = omega (arith, many, to) in
    let there : Stands i c.sittings = stands-there c.sittings i less in
    (nothing-left settings w u c i there.sitting valid follows there.stands (each-stands c.sittings all i there.sitting there.stands)).rests

are-all : (settings : Settings) (w : Workload) (u : Underway) (c : Cored) → IsValid w → Follows settings w u c → Each HasFinished c.sittings → (shown : List (SessionNo × Exchange)) → AreMade w u shown → AreAll w u.run shown
are-all settings w u c valid follows all shown made = λ n known.
    sym (append-nil (said_by n.0 shown)) ∙ ap (λ (l : List Exchange). said_by n.0 shown ++ l) (sym (none-due settings w u c valid follows all n.0 known)) ∙ (made n known).whole

-- ---- at the end

pub run-at-end : (settings : Settings) (w : Workload) (u : Underway) (c : Cored) (told then : List (SessionNo × Receipt) → Type 0) → (ends : EndsFirst settings w u (length w.sessions) c told then) → ends.underway.run ≡ end_of (run_setting settings) w u
unfolding session_numbers world_finished
run-at-end settings w u c told then ends =
    sym (ap (λ (l : List (List Piece)). world_finished (run_setting settings) ends.underway.run (session_numbers (suc (length w.sessions)) l)) (drop-length w.sessions)) ∙ ends.rest

pub all-over : (settings : Settings) (w : Workload) (u : Underway) (c : Cored) (told then : List (SessionNo × Receipt) → Type 0) → EndsFirst settings w u (length w.sessions) c told then → Each HasFinished c.sittings
all-over settings w u c told then ends =
    let many : length c.sittings ≡ length w.sessions = count-of settings w ends.underway c ends.follows in
    let within : length c.sittings ≤ length w.sessions = omega (arith, many) in
    first-all (length w.sessions) c.sittings ends.over within

pub scripts-end : (settings : Settings) (w : Workload) (u : Underway) (c : Cored) (told then : List (SessionNo × Receipt) → Type 0) → IsValid w → EndsFirst settings w u (length w.sessions) c told then
    → map finished_of c.sittings ≡ map (finished_in settings.keep (end_of (run_setting settings) w u)) (session_numbers 1 w.sessions)
scripts-end settings w u c told then valid ends =
    all-finished settings w ends.underway c valid ends.follows (all-over settings w u c told then ends)
    ∙ ap (λ (r : WorldRun). map (finished_in settings.keep r) (session_numbers 1 w.sessions)) (run-at-end settings w u c told then ends)

pub readable-end : (settings : Settings) (w : Workload) (u : Underway) (c : Cored) (told then : List (SessionNo × Receipt) → Type 0) → EndsFirst settings w u (length w.sessions) c told then → Each HasReadable (map finished_of c.sittings)
readable-end settings w u c told then ends = each-readable c.sittings (λ (i : ℕ) (x : Sitting) (stands : StandsAt i x c.sittings). one-readable settings w ends.underway c i x ends.follows stands)

pub turns-end : (settings : Settings) (w : Workload) (u : Underway) (c : Cored) (told then : List (SessionNo × Receipt) → Type 0) → EndsFirst settings w u (length w.sessions) c told then → c.state.turns ≡ (end_of (run_setting settings) w u).turns
turns-end settings w u c told then ends = ends.follows.turns ∙ ap (λ (r : WorldRun). r.turns) (run-at-end settings w u c told then ends)

pub first-end : (settings : Settings) (w : Workload) (u : Underway) (c : Cored) (told then : List (SessionNo × Receipt) → Type 0) → EndsFirst settings w u (length w.sessions) c told then → c.state.first ≡ first_version (run_setting settings) w
first-end settings w u c told then ends = ends.follows.first

pub current-end : (settings : Settings) (w : Workload) (u : Underway) (c : Cored) (told then : List (SessionNo × Receipt) → Type 0) → EndsFirst settings w u (length w.sessions) c told then → c.state.current ≡ version_now (run_setting settings) w (end_of (run_setting settings) w u)
current-end settings w u c told then ends = ends.follows.upheld.leads ∙ ap (λ (r : WorldRun). version_now (run_setting settings) w r) (run-at-end settings w u c told then ends)

pub shows-end : (settings : Settings) (w : Workload) (u : Underway) (c : Cored) (told then : List (SessionNo × Receipt) → Type 0) → IsValid w → EndsFirst settings w u (length w.sessions) c told then
    → (shown : List (SessionNo × Exchange)) → AreMade w u shown → GrowsTo told then shown (AreAll w (end_of (run_setting settings) w u))
shows-end settings w u c told then valid ends shown made =
    let grown : GrowsTo told then shown (AreMade w ends.underway) = ends.shows shown made in
    let all : AreAll w ends.underway.run (shown ++ grown.more) = are-all settings w ends.underway c valid ends.follows (all-over settings w u c told then ends) (shown ++ grown.more) grown.holds in
    record {
      more = grown.more;
      holds = subst (λ (r : WorldRun). AreAll w r (shown ++ grown.more)) (run-at-end settings w u c told then ends) all;
      tells = grown.tells;
    }
