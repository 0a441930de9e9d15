-- The state of the program after a turn, put together from the steps of its code.
use Rattle.std.proofs.Common.{◌≡◌, refl, sym, ◌∙◌, ap, subst, ℕ, suc, max, ◌+◌, ◌<◌, ◌≤◌, Bool, true, false, List, [], ◌∷◌, ◌++◌, map, drop, length, get_or, set, Option, Some, None, MatchOption, Result, Ok, Err, OnOk, arith}
use Rattle.std.proofs.lemmas.Bool.{false≢true, true≢false}
use Rattle.std.proofs.lemmas.List.{set-set, set-get_or, get_or_read, drop_more, drop_all}
use Rattle.mope_base.specs.declared.numbers.TableNo.{TableNo}
use Rattle.mope_base.specs.declared.numbers.SessionNo.{SessionNo}
use Rattle.workload.specs.declared.plain.PlainDb.{PlainDb}
use Rattle.workload.specs.declared.script.Act.{Act}
use Rattle.workload.specs.declared.script.Answer.{Answer}
use Rattle.workload.specs.declared.script.End.{End}
use Rattle.workload.specs.declared.script.End.TheVariants as end
use Rattle.workload.specs.declared.script.Piece.{Piece}
use Rattle.mope_base.specs.Lists.{Each}
use Rattle.workload.specs.Transaction.{Work, Trial, table_named, work_of, Wish, ends, commits, wish_of, wish_after}
use Rattle.workload.specs.History.{effect_on}
use Rattle.plain_db.specs.declared.trying.Tried.{Tried}
use Rattle.plain_db.specs.declared.state.Place.{Place}
use Rattle.plain_db.specs.declared.state.Standing.{Standing}
use Rattle.plain_db.specs.declared.state.Standing.TheVariants as standing
use Rattle.plain_db.specs.declared.state.State.{State}
use Rattle.plain_db.specs.Trying.{ShowsWork, Goes, Stops}
use Rattle.plain_db.specs.Running.{written_by, wish_by, moved_state, ended_state, BegunBy, committed_state, changed_in, installed_state, SettledBy, BeganBy, StandingFits, StateFits, PieceFits, ready_standing}
use Rattle.plain_db.specs.Turned.{TurnedBy}
use Rattle.plain_db.proofs.NumberLemmas.{each-at}

pub ended-by : (state mid new : State) (s : SessionNo) (k ended n base : ℕ) (e : End) (answers : List Answer) → n ≡ suc ended
    → mid ≡ moved_state state s k (record { ended = n; standing = standing.Ready })
    → (let next : State = record mid { done = mid.done ++ record { session = s; place = n; base = base; end = e; answers = answers } ∷ [] } in new ≡ next)
    → new ≡ ended_state state s k ended base e answers
unfolding ended_state moved_state
ended-by state mid new s k ended n base e answers count moved done =
    done
    ∙ ap (λ (m : State). let next : State = record m { done = m.done ++ record { session = s; place = n; base = base; end = e; answers = answers } ∷ [] } in next) moved
    ∙ ap (λ c.
    let m : State = moved_state state s k (record { ended = c; standing = standing.Ready }) in
    let next : State = record m { done = m.done ++ record { session = s; place = c; base = base; end = e; answers = answers } ∷ [] } in next) count

pub wish-some : (ops : List TableNo) → (length ops ≡ 0 → ⊥) → commits ≡ wish_by None false ops
unfolding wish_by
wish-some [] some = absurd (some refl)
wish-some (t ∷ ops) some = refl

wish-going : (rollback : Bool) (acts : List Act) → wish_after rollback acts ≡ wish_by None rollback (map table_named acts)
unfolding wish_after wish_by
wish-going true acts = refl
wish-going false [] = refl
wish-going false (op ∷ ops) = refl

pub wish-same : (o : Option TableNo) (rollback : Bool) (tried : Tried) (trial : Trial)
    → MatchOption o (Goes tried trial) (λ t. Stops t tried trial) → wish_by o rollback tried.ops ≡ wish_of rollback trial
unfolding wish_of wish_by
wish-same None rollback tried trial goes =
    ap (λ ops. wish_by None rollback ops) goes.shows.ops ∙ sym (wish-going rollback goes.work.ops) ∙ ap (λ t. wish_of rollback t) (sym goes.is)
wish-same (Some t) rollback tried trial stops = ap (λ t. wish_of rollback t) (sym stops.is)

pub work-same : (o : Option TableNo) (tried : Tried) (trial : Trial)
    → MatchOption o (Goes tried trial) (λ t. Stops t tried trial) → ShowsWork tried (work_of trial)
unfolding work_of
work-same None tried trial goes = subst (λ t. ShowsWork tried (work_of t)) (sym goes.is) goes.shows
work-same (Some t) tried trial stops = subst (λ t. ShowsWork tried (work_of t)) (sym stops.is) stops.shows

pub begun-ends : (state new : State) (s : SessionNo) (k ended : ℕ) (e : End) (tried : Tried) (work : Work) (wish : Wish) → ends e ≡ wish
    → ShowsWork tried work → new ≡ ended_state state s k ended state.version e tried.answers → BegunBy wish state new s k ended work
unfolding BegunBy
begun-ends state new s k ended e tried work wish is shows end_state =
    subst (λ w. BegunBy w state new s k ended work) is (end_state ∙ ap (λ answers. ended_state state s k ended state.version e answers) shows.answers)

pub begun-commits : (state new : State) (s : SessionNo) (k ended : ℕ) (tried : Tried) (work : Work) (wish : Wish) → commits ≡ wish
    → ShowsWork tried work → new ≡ moved_state state s k (record { ended = ended; standing = standing.Committing state.version tried })
    → BegunBy wish state new s k ended work
unfolding BegunBy
begun-commits state new s k ended tried work wish is shows moved =
    subst (λ w. BegunBy w state new s k ended work) is (tried, shows, moved)

pub committed-by : (state new : State) (s : SessionNo) (k ended n base : ℕ) (current : PlainDb) (written : List ℕ) (work : Tried) (present : Piece) → n ≡ suc state.version
    → current ≡ effect_on present state.current → written ≡ written_by work.ops n state.written
    → (let mid : State = record state { version = n; current = current; written = written } in new ≡ ended_state mid s k ended base (end.Committed n) work.answers)
    → new ≡ committed_state None state s k ended base work present
unfolding committed_state ended_state moved_state
committed-by state new s k ended n base current written work present count redone writes ended_by =
    ended_by
    ∙ ap (λ db. let mid : State = record state { version = n; current = db; written = written } in ended_state mid s k ended base (end.Committed n) work.answers) redone
    ∙ ap (λ l. let mid : State = record state { version = n; current = effect_on present state.current; written = l } in ended_state mid s k ended base (end.Committed n) work.answers) writes
    ∙ ap (λ c.
    let mid : State = record state { version = c; current = effect_on present state.current; written = written_by work.ops c state.written } in
    ended_state mid s k ended base (end.Committed c) work.answers) count

pub changed-left : (written laid : ℕ) → laid < written → written ≡ max written laid
changed-left written laid h = omega arith

pub changed-right : (written laid : ℕ) → written ≤ laid → laid ≡ max written laid
changed-right written laid h = omega arith

pub installed-by : (state new : State) (s : SessionNo) (k ended n base : ℕ) (laid : List ℕ) (t : TableNo) (answers : List Answer) → n ≡ suc state.version
    → laid ≡ set state.laid t.0 n → answers ≡ []
    → (let mid : State = record state { version = n; laid = laid } in new ≡ ended_state mid s k ended base (end.Installed n) answers)
    → new ≡ installed_state false state s k ended base t
unfolding installed_state ended_state moved_state
installed-by state new s k ended n base laid t answers count lays none ended_by =
    ended_by
    ∙ ap (λ a. let mid : State = record state { version = n; laid = laid } in ended_state mid s k ended base (end.Installed n) a) none
    ∙ ap (λ l. let mid : State = record state { version = n; laid = l } in ended_state mid s k ended base (end.Installed n) []) lays
    ∙ ap (λ c. let mid : State = record state { version = c; laid = set state.laid t.0 c } in ended_state mid s k ended base (end.Installed c) []) count

-- the state may have any place where the turn puts one

pub ended-places : (state : State) (places : List Place) (x : Place) (s : SessionNo) (k ended base : ℕ) (e : End) (answers : List Answer)
    → places ≡ set state.places k x
    → (let other : State = record state { places = places } in ended_state other s k ended base e answers) ≡ ended_state state s k ended base e answers
unfolding ended_state moved_state
ended-places state places x s k ended base e answers put =
    ap (λ l.
    let next : State = record state {
      places = l;
      taken = state.taken ++ s ∷ [];
      done = state.done ++ record { session = s; place = suc ended; base = base; end = e; answers = answers } ∷ [];
    } in
    next) (ap (λ l. set l k (record { ended = suc ended; standing = standing.Ready })) put ∙ set-set state.places k x (record { ended = suc ended; standing = standing.Ready }))

pub committed-places : (o : Option (TableNo × ℕ)) (state : State) (places : List Place) (x : Place) (s : SessionNo) (k ended base : ℕ) (work : Tried) (present : Piece)
    → places ≡ set state.places k x
    → (let other : State = record state { places = places } in committed_state o other s k ended base work present) ≡ committed_state o state s k ended base work present
unfolding committed_state ended_state moved_state
committed-places (Some newer) state places x s k ended base work present put =
    ended-places state places x s k ended base (end.Conflict newer.0 newer.1) work.answers put
committed-places None state places x s k ended base work present put =
    ap (λ (m : State).
    let next : State = record m { version = suc state.version; current = effect_on present state.current; written = written_by work.ops (suc state.version) state.written } in
    next) (ended-places state places x s k ended base (end.Committed (suc state.version)) work.answers put)

pub installed-places : (stale : Bool) (state : State) (places : List Place) (x : Place) (s : SessionNo) (k ended base : ℕ) (t : TableNo)
    → places ≡ set state.places k x
    → (let other : State = record state { places = places } in installed_state stale other s k ended base t) ≡ installed_state stale state s k ended base t
unfolding installed_state ended_state moved_state changed_in
installed-places true state places x s k ended base t put =
    ended-places state places x s k ended base (end.Stale t (changed_in state t)) [] put
installed-places false state places x s k ended base t put =
    ap (λ (m : State). let next : State = record m { version = suc state.version; laid = set state.laid t.0 (suc state.version) } in next)
    (ended-places state places x s k ended base (end.Installed (suc state.version)) [] put)

pub places-back : (state : State) (places back : List Place) (x place : Place) (k : ℕ) → places ≡ set state.places k x → back ≡ set places k place
    → place ≡ get_or state.places k place → (let other : State = record state { places = back } in other ≡ state)
places-back state places back x place k put again given =
    ap (λ l. let other : State = record state { places = l } in other)
    (again ∙ ap (λ l. set l k place) put ∙ set-set state.places k x place ∙ ap (λ p. set state.places k p) given ∙ set-get_or state.places k place)

pub standing-fits : (tables : ℕ) (state : State) (k : ℕ) (place : Place) → StateFits tables state → k < length state.places → place ≡ get_or state.places k place
    → StandingFits tables place.ended place.standing
standing-fits tables state k place fits here given =
    subst (λ (p : Place). StandingFits tables p.ended p.standing) (sym given) (fits.standings k place here)

pub settled-at : (script : List Piece) (state new : State) (s : SessionNo) (k : ℕ) (place : Place) → k < length state.places → place ≡ get_or state.places k place
    → SettledBy script place.standing state new s k place.ended
    → (d : Place) → SettledBy script (get_or state.places k d).standing state new s k (get_or state.places k d).ended
settled-at script state new s k place here given settled d =
    subst (λ (p : Place). SettledBy script p.standing state new s k p.ended) (get_or_read state.places k place here given d) settled

pub turned-at : (script : List Piece) (state new : State) (s : SessionNo) (k : ℕ) (place : Place) → k < length state.places → place ≡ get_or state.places k place
    → TurnedBy script place.standing state new s k place.ended
    → (d : Place) → TurnedBy script (get_or state.places k d).standing state new s k (get_or state.places k d).ended
turned-at script state new s k place here given turned d =
    subst (λ (p : Place). TurnedBy script p.standing state new s k p.ended) (get_or_read state.places k place here given d) turned

pub turned-ready : (script : List Piece) (state new : State) (s : SessionNo) (k ended : ℕ) (standing : Standing) → ready_standing standing ≡ true
    → BeganBy (drop ended script) state new s k ended → TurnedBy script standing state new s k ended
unfolding ready_standing TurnedBy
turned-ready script state new s k ended standing.Ready e began = began
turned-ready script state new s k ended (standing.Committing base work) e began = absurd (false≢true e)
turned-ready script state new s k ended (standing.Installing base t) e began = absurd (false≢true e)

pub turned-settled : (script : List Piece) (state new : State) (s : SessionNo) (k ended : ℕ) (standing : Standing) → ready_standing standing ≡ false
    → SettledBy script standing state new s k ended → TurnedBy script standing state new s k ended
unfolding ready_standing TurnedBy
turned-settled script state new s k ended standing.Ready e settled = absurd (true≢false e)
turned-settled script state new s k ended (standing.Committing base work) e settled = settled
turned-settled script state new s k ended (standing.Installing base t) e settled = settled

pub began-piece : (script : List Piece) (state new : State) (s : SessionNo) (k ended : ℕ) (present d : Piece) → ended < length script
    → present ≡ get_or script ended d → BeganBy (present ∷ drop (ended + 1) script) state new s k ended
    → BeganBy (drop ended script) state new s k ended
began-piece script state new s k ended present d within here began =
    subst (λ l. BeganBy l state new s k ended) (ap (λ p. p ∷ drop (ended + 1) script) here ∙ sym (drop_more script ended d within)) began

pub began-none : (script : List Piece) (state : State) (s : SessionNo) (k ended : ℕ) → length script ≤ ended → BeganBy (drop ended script) state state s k ended
unfolding BeganBy
began-none script state s k ended past = subst (λ l. BeganBy l state state s k ended) (sym (drop_all ended script past)) refl

pub piece-fits : (tables : ℕ) (script : List Piece) (i : ℕ) (present : Piece) → Each (PieceFits tables) script → i < length script
    → present ≡ get_or script i present → PieceFits tables present
piece-fits tables script i present fits within here = subst (PieceFits tables) (sym here) (each-at (PieceFits tables) script i present fits within)
