-- Each exchange leaves less to do for the clients of a core.
use Rattle.std.proofs.Common.{◌≡◌, ap, ℕ, zero, suc, ◌+◌, ◌<◌, List, [], ◌∷◌, set, get_or, length, arith}
use Rattle.std.specs.List.{sum_by}
use Rattle.std.proofs.lemmas.List.Sums.{sum_by-set}
use Rattle.mope_base.specs.declared.numbers.SessionNo.{SessionNo}
use Rattle.mope_top.specs.Ran.{Hears, Leads}
use Rattle.mope_top.proofs.Rounds.{LeadsOn}
use Rattle.proxy.proofs.DriveLemmas.{work_in, work_less}
use Rattle.step_core.specs.Cores.{Cored, Sitting}
use Rattle.step_core.specs.Sittings.{HasHeard, HeardBy, StandsAt}

-- how many exchanges the clients of a core make at most
unfoldable pub core_work : Cored → ℕ
core_work c = sum_by (λ (x : Sitting). work_in x.party) c.sittings

stands-within : (i : ℕ) (x : Sitting) (sittings : List Sitting) → StandsAt i x sittings → i < length sittings
unfolding StandsAt
stands-within i x [] stands = absurd stands
stands-within zero x (y ∷ sittings) stands = omega arith
stands-within (suc i) x (y ∷ sittings) stands =
    let within : i < length sittings = stands-within i x sittings stands in
    omega (arith, within)

stands-at : (i : ℕ) (x : Sitting) (sittings : List Sitting) → StandsAt i x sittings → get_or sittings i x ≡ x
unfolding StandsAt
stands-at i x [] stands = absurd stands
stands-at zero x (y ∷ sittings) stands = stands
stands-at (suc i) x (y ∷ sittings) stands = stands-at i x sittings stands

hears-less : (n : SessionNo) (c d : Cored) → Hears n c d → core_work d < core_work c
unfolding core_work HeardBy
hears-less n c d hears =
    let f : Sitting → ℕ = λ (x : Sitting). work_in x.party in
    let place : ℕ = hears.0 in
    let heard : HasHeard place c.sittings d.sittings = hears.2 in
    let after : sum_by f d.sittings ≡ sum_by f (set c.sittings place heard.new) = ap (sum_by f) heard.stands in
    let sum : sum_by f (set c.sittings place heard.new) + f (get_or c.sittings place heard.old) ≡ sum_by f c.sittings + f heard.new =
    sum_by-set f c.sittings place heard.new heard.old (stands-within place heard.old c.sittings heard.stood) in
    let at : f (get_or c.sittings place heard.old) ≡ f heard.old = ap f (stands-at place heard.old c.sittings heard.stood) in
    let less : f heard.new < f heard.old = work_less heard.old.party heard.new.party heard.request heard.reply heard.asked heard.heard in
    omega (arith, after, sum, at, less)

leads-less : (count : ℕ) (c d : Cored) → Leads count c d → 0 < count → core_work d < core_work c
unfolding Leads
leads-less zero c d leads some = absurd (let no : ⊥ = omega (arith, some) in no)
leads-less (suc zero) c d leads some =
    let first : core_work leads.1.0 < core_work c = hears-less leads.0 c leads.1.0 leads.1.1 in
    let same : core_work d ≡ core_work leads.1.0 = unfold core_work in ap (sum_by (λ (x : Sitting). work_in x.party)) leads.1.2 in
    omega (arith, first, same)
leads-less (suc (suc count)) c d leads some =
    let first : core_work leads.1.0 < core_work c = hears-less leads.0 c leads.1.0 leads.1.1 in
    let later : core_work d < core_work leads.1.0 = leads-less (suc count) leads.1.0 d leads.1.2 (omega arith) in
    omega (arith, first, later)

pub leads_less : (c d : Cored) → LeadsOn c d → core_work d < core_work c
leads_less c d on = leads-less on.0 c d on.2 on.1
