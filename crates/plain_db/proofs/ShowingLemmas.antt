-- The state of the program stands for that of the run after each turn.
use Rattle.std.proofs.Common.{◌≡◌, refl, sym, ◌∙◌, ap, subst, ℕ, zero, suc, max, ◌<◌, Bool, true, false, ltb, List, [], ◌∷◌, ◌++◌, map, drop, length, get_or, set, Option, Some, None, inl, inr, arith}
use Rattle.std.proofs.lemmas.Bool.{cases_eq}
use Rattle.std.proofs.lemmas.List.{length-set, get_or-set_same, get_or-set_other, set-get_or, map-set, map-append, length_push}
use Rattle.mope_base.specs.declared.numbers.TableNo.{TableNo}
use Rattle.mope_base.specs.declared.numbers.ColNo.{ColNo}
use Rattle.mope_base.specs.declared.numbers.SessionNo.{SessionNo}
use Rattle.workload.specs.declared.script.Act.{Act}
use Rattle.workload.specs.declared.script.Answer.{Answer}
use Rattle.workload.specs.declared.script.DoneTxn.{DoneTxn}
use Rattle.workload.specs.declared.script.End.{End}
use Rattle.workload.specs.declared.script.End.TheVariants as end
use Rattle.workload.specs.declared.script.Piece.{Piece}
use Rattle.workload.specs.declared.script.Piece.TheVariants as piece
use Rattle.workload.specs.declared.script.Workload.{Workload}
use Rattle.workload.specs.History.{effect_on}
use Rattle.workload.specs.Transaction.{Work, table_named, trial_of, work_of, Wish, ends, commits, wish_of}
use Rattle.workload.specs.Run.{Run, Turn, TurnKind, began, committed, conflicted, installed, found_stale, Position, ready, committing, installing, Stamps, unstamped, number_of, position_at, with_position, moved, with_done, begun, begin_turn, stamps_of, lowest_newer, merged, stamped, committed_unless, commit_turn, last_change, installed_unless, install_turn, turn_from, take_turn, settled_from, settled}
use Rattle.plain_db.specs.declared.trying.Tried.{Tried}
use Rattle.plain_db.specs.declared.state.Place.{Place}
use Rattle.plain_db.specs.declared.state.Standing.{Standing}
use Rattle.plain_db.specs.declared.state.Standing.TheVariants as standing
use Rattle.plain_db.specs.declared.state.State.{State}
use Rattle.plain_db.specs.Trying.{ShowsWork}
use Rattle.plain_db.specs.Running.{newer_in, written_by, IsCommitting, IsInstalling, ShowsStanding, ShowsPlaces, ShowsRun, moved_state, ended_state, BegunBy, committed_state, changed_in, installed_state, piece_after, SettledBy, BeganBy}
use Rattle.plain_db.specs.Turned.{TurnedBy}
use Rattle.plain_db.proofs.CommittingLemmas.{newer-stamps, written-stamps}
use Rattle.plain_db.proofs.EffectLemmas.{commit-effect}
use Rattle.plain_db.proofs.RunInvariant.{RunHolds}

places-set : (w : Workload) (places : List Place) (positions : List Position) (k : ℕ) (place : Place) (q : Position) → ShowsPlaces w places positions
    → k < length places → ShowsStanding (get_or w.sessions k []) place.ended place.standing q
    → ShowsPlaces w (set places k place) (set positions k q)
places-set w places positions k place q h here stands = record {
  sizes = length-set places k place ∙ h.sizes ∙ sym (length-set positions k q);
  each = λ i d within.
      elim (cases_eq i k) as (λ _. ShowsStanding (get_or w.sessions i []) (get_or (set places k place) i d).ended (get_or (set places k place) i d).standing (get_or (set positions k q) i (ready 1 []))) [
        | inl same ↦
            rw (same, get_or-set_same places k place d here, get_or-set_same positions k q (ready 1 []) (omega (arith, here, h.sizes))) stands
        | inr other ↦
            rw (get_or-set_other places k i place d other, get_or-set_other positions k i q (ready 1 []) other)
            (h.each i d (omega (arith, within, length-set places k place)))
      ];
}

shows-moved : (w : Workload) (state : State) (r : Run) (s : SessionNo) (k number : ℕ) (place : Place) (kind : TurnKind) (q : Position) → ShowsRun w state r
    → s.0 ≡ suc k → k < length state.places → ShowsStanding (get_or w.sessions k []) place.ended place.standing q
    → ShowsRun w (moved_state state s k place) (moved r s number kind q)
unfolding moved_state moved number_of with_position
shows-moved w state r s k number place kind q h session here stands = record {
  version = h.version;
  current = h.current;
  written = h.written;
  laid = h.laid;
  places =
      subst (λ l. ShowsPlaces w (set state.places k place) l) (ap (λ n. with_position r.positions n q) (sym session))
      (places-set w state.places r.positions k place q h.places here stands);
  taken =
      ap (λ l. l ++ s ∷ []) h.taken
      ∙ sym (map-append (λ (t : Turn). t.session) r.turns (record { session = s; place = number; kind = kind } ∷ []));
  done = h.done;
}

shows-ended : (w : Workload) (state : State) (r : Run) (s : SessionNo) (k ended base : ℕ) (kind : TurnKind) (e : End) (answers : List Answer) → ShowsRun w state r
    → s.0 ≡ suc k → k < length state.places
    → ShowsRun w (ended_state state s k ended base e answers)
    (with_done (moved r s (suc ended) kind (ready (suc (suc ended)) (drop (suc ended) (get_or w.sessions k [])))) s (suc ended) base e answers)
unfolding ended_state with_done ShowsStanding number_of moved
shows-ended w state r s k ended base kind e answers h session here =
    let place : Place = record { ended = suc ended; standing = standing.Ready } in
    let step : ShowsRun w (moved_state state s k place) (moved r s (suc ended) kind (ready (suc (suc ended)) (drop (suc ended) (get_or w.sessions k [])))) =
    shows-moved w state r s k (suc ended) place kind _ h session here refl in
    record {
      version = step.version;
      current = step.current;
      written = step.written;
      laid = step.laid;
      places = step.places;
      taken = step.taken;
      done = ap (λ l. l ++ record { session = s; place = suc ended; base = base; end = e; answers = answers } ∷ []) h.done;
    }

-- stamps, number by number

laid-get : (stamps : List Stamps) (i : ℕ) → (get_or stamps i unstamped).laid ≡ get_or (map (λ (s : Stamps). s.laid) stamps) i 0
unfolding unstamped
laid-get [] i = refl
laid-get (s ∷ stamps) zero = refl
laid-get (s ∷ stamps) (suc i) = laid-get stamps i

written-get : (stamps : List Stamps) (i : ℕ) → (get_or stamps i unstamped).written ≡ get_or (map (λ (s : Stamps). s.written) stamps) i 0
unfolding unstamped
written-get [] i = refl
written-get (s ∷ stamps) zero = refl
written-get (s ∷ stamps) (suc i) = written-get stamps i

laid-kept : (stamps : List Stamps) (i number : ℕ)
    → map (λ (s : Stamps). s.laid) (set stamps i (record (get_or stamps i unstamped) { written = number })) ≡ map (λ (s : Stamps). s.laid) stamps
laid-kept stamps i number =
    map-set (λ (s : Stamps). s.laid) stamps i (record (get_or stamps i unstamped) { written = number })
    ∙ ap (λ n. set (map (λ (s : Stamps). s.laid) stamps) i n) (laid-get stamps i)
    ∙ set-get_or (map (λ (s : Stamps). s.laid) stamps) i 0

laid-stamped : (ops : List Act) (number : ℕ) (stamps : List Stamps)
    → map (λ (s : Stamps). s.laid) (stamped ops number stamps) ≡ map (λ (s : Stamps). s.laid) stamps
unfolding stamped
laid-stamped [] number stamps = refl
laid-stamped (op ∷ ops) number stamps =
    laid-stamped ops number (set stamps (table_named op).0 (record (get_or stamps (table_named op).0 unstamped) { written = number }))
    ∙ laid-kept stamps (table_named op).0 number

written-kept : (stamps : List Stamps) (i number : ℕ)
    → map (λ (s : Stamps). s.written) (set stamps i (record (get_or stamps i unstamped) { laid = number })) ≡ map (λ (s : Stamps). s.written) stamps
written-kept stamps i number =
    map-set (λ (s : Stamps). s.written) stamps i (record (get_or stamps i unstamped) { laid = number })
    ∙ ap (λ n. set (map (λ (s : Stamps). s.written) stamps) i n) (written-get stamps i)
    ∙ set-get_or (map (λ (s : Stamps). s.written) stamps) i 0

-- a commit

shows-committed : (w : Workload) (state : State) (r : Run) (s : SessionNo) (k ended base : ℕ) (tried : Tried) (work : Work) (present : Piece) (found : Option (TableNo × ℕ)) → ShowsRun w state r
    → s.0 ≡ suc k → k < length state.places → ShowsWork tried work
    → (found ≡ None → effect_on present r.current ≡ merged work.ops work.copy r.current)
    → ShowsRun w (committed_state found state s k ended base tried present)
    (committed_unless found r s (suc ended) base work (drop (suc ended) (get_or w.sessions k [])))
unfolding committed_state committed_unless ended_state moved_state with_done moved number_of
shows-committed w state r s k ended base tried work present (Some newer) h session here shows effect =
    subst (λ answers. ShowsRun w (ended_state state s k ended base (end.Conflict newer.0 newer.1) answers) (committed_unless (Some newer) r s (suc ended) base work (drop (suc ended) (get_or w.sessions k []))))
    (sym shows.answers)
    (shows-ended w state r s k ended base (conflicted newer.0 newer.1) (end.Conflict newer.0 newer.1) work.answers h session here)
shows-committed w state r s k ended base tried work present None h session here shows effect =
    let step : ShowsRun w (ended_state state s k ended base end.Read [])
    (with_done (moved r s (suc ended) (committed (suc (number_of r)) work.ops) (ready (suc (suc ended)) (drop (suc ended) (get_or w.sessions k [])))) s (suc ended) base end.Read []) =
    shows-ended w state r s k ended base (committed (suc (number_of r)) work.ops) end.Read [] h session here in
    record {
      version = omega (arith, h.version, length_push r.older r.current);
      current = ap (λ db. effect_on present db) h.current ∙ effect refl;
      written =
          ap (λ l. written_by l (suc state.version) state.written) shows.ops
          ∙ ap (λ v. written_by (map table_named work.ops) (suc v) state.written) h.version
          ∙ ap (λ l. written_by (map table_named work.ops) (suc (length r.older)) l) h.written
          ∙ written-stamps work.ops (suc (length r.older)) r.stamps;
      laid = h.laid ∙ sym (laid-stamped work.ops (suc (length r.older)) r.stamps);
      places = step.places;
      taken = step.taken;
      done =
          ap (λ l. l ++ record { session = s; place = suc ended; base = base; end = end.Committed (suc state.version); answers = tried.answers } ∷ []) h.done
          ∙ ap (λ v. let t : DoneTxn = record { session = s; place = suc ended; base = base; end = end.Committed (suc v); answers = tried.answers } in r.done ++ t ∷ []) h.version
          ∙ ap (λ a. let t : DoneTxn = record { session = s; place = suc ended; base = base; end = end.Committed (suc (length r.older)); answers = a } in r.done ++ t ∷ []) shows.answers;
    }

newer-same : (state : State) (r : Run) (w : Workload) (base : ℕ) (tried : Tried) (work : Work) → ShowsRun w state r → ShowsWork tried work
    → newer_in 0 state.written base tried.touched ≡ lowest_newer 0 r.stamps base work.touched
newer-same state r w base tried work h shows =
    ap (λ l. newer_in 0 l base tried.touched) h.written
    ∙ ap (λ l. newer_in 0 (map (λ (s : Stamps). s.written) r.stamps) base l) shows.touched
    ∙ newer-stamps 0 r.stamps base work.touched

pub shows-commit : (w : Workload) (state new : State) (r : Run) (s : SessionNo) (k ended base : ℕ) (tried : Tried) (work : Work) → ShowsRun w state r
    → RunHolds w r → s.0 ≡ suc k → k < length state.places → ShowsWork tried work
    → position_at r.positions s.0 ≡ committing (suc ended) base work (drop (suc ended) (get_or w.sessions k []))
    → SettledBy (get_or w.sessions k []) (standing.Committing base tried) state new s k ended
    → ShowsRun w new (commit_turn r s (suc ended) base work (drop (suc ended) (get_or w.sessions k [])))
unfolding commit_turn SettledBy
shows-commit w state new r s k ended base tried work h holds session here shows stands settled =
    subst (λ n. ShowsRun w n (committed_unless (lowest_newer 0 r.stamps base work.touched) r s (suc ended) base work (drop (suc ended) (get_or w.sessions k []))))
    (sym (settled ∙ ap (λ o. committed_state o state s k ended base tried (piece_after (get_or w.sessions k []) ended)) (newer-same state r w base tried work h shows)))
    (shows-committed w state r s k ended base tried work (piece_after (get_or w.sessions k []) ended) (lowest_newer 0 r.stamps base work.touched) h session here shows
    (λ unfound. commit-effect w r s k ended base work (drop (suc ended) (get_or w.sessions k [])) session stands holds unfound))

-- an install

changed-same : (w : Workload) (state : State) (r : Run) (t : TableNo) → ShowsRun w state r → changed_in state t ≡ last_change (stamps_of r t)
unfolding changed_in last_change stamps_of
changed-same w state r t h =
    ap (λ l. max (get_or l t.0 0) (get_or state.laid t.0 0)) h.written
    ∙ ap (λ l. max (get_or (map (λ (s : Stamps). s.written) r.stamps) t.0 0) (get_or l t.0 0)) h.laid
    ∙ ap (λ n. max n (get_or (map (λ (s : Stamps). s.laid) r.stamps) t.0 0)) (sym (written-get r.stamps t.0))
    ∙ ap (λ n. max (get_or r.stamps t.0 unstamped).written n) (sym (laid-get r.stamps t.0))

shows-installed : (w : Workload) (state : State) (r : Run) (s : SessionNo) (k ended base : ℕ) (t : TableNo) (column : ColNo) (stale : Bool) → ShowsRun w state r
    → s.0 ≡ suc k → k < length state.places
    → ShowsRun w (installed_state stale state s k ended base t) (installed_unless stale r s (suc ended) base t column (drop (suc ended) (get_or w.sessions k [])))
unfolding installed_state installed_unless ended_state moved_state with_done moved number_of stamps_of
shows-installed w state r s k ended base t column true h session here =
    let step : ShowsRun w (ended_state state s k ended base (end.Stale t (last_change (stamps_of r t))) [])
    (with_done (moved r s (suc ended) (found_stale t (last_change (stamps_of r t))) (ready (suc (suc ended)) (drop (suc ended) (get_or w.sessions k [])))) s (suc ended) base (end.Stale t (last_change (stamps_of r t))) []) =
    shows-ended w state r s k ended base (found_stale t (last_change (stamps_of r t))) (end.Stale t (last_change (stamps_of r t))) [] h session here in
    subst (λ n. ShowsRun w (ended_state state s k ended base (end.Stale t n) []) (installed_unless true r s (suc ended) base t column (drop (suc ended) (get_or w.sessions k []))))
    (sym (changed-same w state r t h)) step
shows-installed w state r s k ended base t column false h session here =
    let step : ShowsRun w (ended_state state s k ended base end.Read [])
    (with_done (moved r s (suc ended) (installed (suc (number_of r)) t column) (ready (suc (suc ended)) (drop (suc ended) (get_or w.sessions k [])))) s (suc ended) base end.Read []) =
    shows-ended w state r s k ended base (installed (suc (number_of r)) t column) end.Read [] h session here in
    record {
      version = omega (arith, h.version, length_push r.older r.current);
      current = h.current;
      written = h.written ∙ sym (written-kept r.stamps t.0 (suc (length r.older)));
      laid =
          ap (λ v. set state.laid t.0 (suc v)) h.version
          ∙ ap (λ l. set l t.0 (suc (length r.older))) h.laid
          ∙ sym (map-set (λ (s : Stamps). s.laid) r.stamps t.0 (record (get_or r.stamps t.0 unstamped) { laid = suc (length r.older) }));
      places = step.places;
      taken = step.taken;
      done =
          ap (λ l. l ++ record { session = s; place = suc ended; base = base; end = end.Installed (suc state.version); answers = [] } ∷ []) h.done
          ∙ ap (λ v. let t : DoneTxn = record { session = s; place = suc ended; base = base; end = end.Installed (suc v); answers = [] } in r.done ++ t ∷ []) h.version;
    }

pub shows-install : (w : Workload) (state new : State) (r : Run) (s : SessionNo) (k ended base : ℕ) (t : TableNo) (column : ColNo) → ShowsRun w state r
    → s.0 ≡ suc k → k < length state.places → SettledBy (get_or w.sessions k []) (standing.Installing base t) state new s k ended
    → ShowsRun w new (install_turn r s (suc ended) base t column (drop (suc ended) (get_or w.sessions k [])))
unfolding install_turn SettledBy
shows-install w state new r s k ended base t column h session here settled =
    subst (λ n. ShowsRun w n (installed_unless (ltb base (last_change (stamps_of r t))) r s (suc ended) base t column (drop (suc ended) (get_or w.sessions k []))))
    (sym (settled ∙ ap (λ n. installed_state (ltb base n) state s k ended base t) (changed-same w state r t h)))
    (shows-installed w state r s k ended base t column (ltb base (last_change (stamps_of r t))) h session here)

-- a begin

shows-begun : (w : Workload) (state new : State) (r : Run) (s : SessionNo) (k ended : ℕ) (work : Work) (wish : Wish) → ShowsRun w state r
    → s.0 ≡ suc k → k < length state.places → BegunBy wish state new s k ended work
    → ShowsRun w new (begun wish r s (suc ended) work (drop (suc ended) (get_or w.sessions k [])))
unfolding begun BegunBy ShowsStanding
shows-begun w state new r s k ended work (ends e) h session here by =
    subst (λ n. ShowsRun w n (begun (ends e) r s (suc ended) work (drop (suc ended) (get_or w.sessions k []))))
    (sym (by ∙ ap (λ v. ended_state state s k ended v e work.answers) h.version))
    (shows-ended w state r s k ended (number_of r) (began (number_of r)) e work.answers h session here)
shows-begun w state new r s k ended work commits h session here by =
    let place : Place = record { ended = ended; standing = standing.Committing state.version by.0 } in
    let script : List Piece = get_or w.sessions k [] in
    let stands : IsCommitting script ended state.version (committing (suc ended) (number_of r) work (drop (suc ended) script)) (ShowsWork by.0) =
    record { work = work; shows = by.1; stands = ap (λ v. committing (suc ended) v work (drop (suc ended) script)) (sym h.version) } in
    subst (λ n. ShowsRun w n (moved r s (suc ended) (began (number_of r)) (committing (suc ended) (number_of r) work (drop (suc ended) script))))
    (sym by.2) (shows-moved w state r s k (suc ended) place (began (number_of r)) _ h session here stands)

drop-rest : (script : List Piece) (n : ℕ) (present : Piece) (rest : List Piece) → drop n script ≡ present ∷ rest → rest ≡ drop (suc n) script
drop-rest [] zero present rest e = cc
drop-rest [] (suc n) present rest e = cc
drop-rest (p ∷ script) zero present rest e = ap (λ l. drop 1 l) (sym e)
drop-rest (p ∷ script) (suc n) present rest e = drop-rest script n present rest e

shows-began : (w : Workload) (state new : State) (r : Run) (s : SessionNo) (k ended : ℕ) (pieces : List Piece) → ShowsRun w state r
    → s.0 ≡ suc k → k < length state.places → drop ended (get_or w.sessions k []) ≡ pieces
    → BeganBy pieces state new s k ended → ShowsRun w new (turn_from (ready (suc ended) pieces) r s)
unfolding BeganBy turn_from begin_turn ShowsStanding
shows-began w state new r s k ended [] h session here left by = subst (λ n. ShowsRun w n r) (sym by) h
shows-began w state new r s k ended (piece.Txn statements rollback ∷ rest) h session here left by =
    let script : List Piece = get_or w.sessions k [] in
    let began_by : BegunBy (wish_of rollback (trial_of r.current statements)) state new s k ended (work_of (trial_of r.current statements)) =
    subst (λ db. BegunBy (wish_of rollback (trial_of db statements)) state new s k ended (work_of (trial_of db statements))) h.current by in
    subst (λ l. ShowsRun w new (begun (wish_of rollback (trial_of r.current statements)) r s (suc ended) (work_of (trial_of r.current statements)) l))
    (sym (drop-rest script ended (piece.Txn statements rollback) rest left))
    (shows-begun w state new r s k ended (work_of (trial_of r.current statements)) (wish_of rollback (trial_of r.current statements)) h session here began_by)
shows-began w state new r s k ended (piece.Rebuild t column ∷ rest) h session here left by =
    let place : Place = record { ended = ended; standing = standing.Installing state.version t } in
    let script : List Piece = get_or w.sessions k [] in
    let stands : IsInstalling script ended state.version t (installing (suc ended) (number_of r) t column rest) =
    record {
      column = column;
      stands =
          ap (λ v. installing (suc ended) v t column rest) (sym h.version)
          ∙ ap (λ l. installing (suc ended) state.version t column l) (drop-rest script ended (piece.Rebuild t column) rest left);
    } in
    subst (λ n. ShowsRun w n (moved r s (suc ended) (began (number_of r)) (installing (suc ended) (number_of r) t column rest)))
    (sym by) (shows-moved w state r s k (suc ended) place (began (number_of r)) _ h session here stands)

-- a turn of a session, and what it settles, by its standing

pub position-here : (w : Workload) (state : State) (r : Run) (s : SessionNo) (k : ℕ) (d : Place) → ShowsRun w state r → s.0 ≡ suc k → k < length state.places
    → ShowsStanding (get_or w.sessions k []) (get_or state.places k d).ended (get_or state.places k d).standing (position_at r.positions s.0)
unfolding position_at
position-here w state r s k d h session here =
    subst (λ n. ShowsStanding (get_or w.sessions k []) (get_or state.places k d).ended (get_or state.places k d).standing (position_at r.positions n))
    (sym session) (h.places.each k d here)

turned-standing : (w : Workload) (state new : State) (r : Run) (s : SessionNo) (k ended : ℕ) (stands : Standing) (p : Position) → ShowsRun w state r
    → RunHolds w r → position_at r.positions s.0 ≡ p → s.0 ≡ suc k → k < length state.places → ShowsStanding (get_or w.sessions k []) ended stands p
    → TurnedBy (get_or w.sessions k []) stands state new s k ended → ShowsRun w new (turn_from p r s)
unfolding ShowsStanding TurnedBy turn_from
turned-standing w state new r s k ended standing.Ready p h holds at session here is by =
    subst (λ q. ShowsRun w new (turn_from q r s)) (sym is) (shows-began w state new r s k ended (drop ended (get_or w.sessions k [])) h session here refl by)
turned-standing w state new r s k ended (standing.Committing base tried) p h holds at session here is by =
    subst (λ q. ShowsRun w new (turn_from q r s)) (sym is.stands) (shows-commit w state new r s k ended base tried is.work h holds session here is.shows (at ∙ is.stands) by)
turned-standing w state new r s k ended (standing.Installing base t) p h holds at session here is by =
    subst (λ q. ShowsRun w new (turn_from q r s)) (sym is.stands) (shows-install w state new r s k ended base t is.column h session here by)

settled-standing : (w : Workload) (state new : State) (r : Run) (s : SessionNo) (k ended : ℕ) (stands : Standing) (p : Position) → ShowsRun w state r
    → RunHolds w r → position_at r.positions s.0 ≡ p → s.0 ≡ suc k → k < length state.places → ShowsStanding (get_or w.sessions k []) ended stands p
    → SettledBy (get_or w.sessions k []) stands state new s k ended → ShowsRun w new (settled_from p r s)
unfolding ShowsStanding SettledBy settled_from
settled-standing w state new r s k ended standing.Ready p h holds at session here is by =
    subst (λ q. ShowsRun w new (settled_from q r s)) (sym is) (subst (λ n. ShowsRun w n r) (sym by) h)
settled-standing w state new r s k ended (standing.Committing base tried) p h holds at session here is by =
    subst (λ q. ShowsRun w new (settled_from q r s)) (sym is.stands) (shows-commit w state new r s k ended base tried is.work h holds session here is.shows (at ∙ is.stands) by)
settled-standing w state new r s k ended (standing.Installing base t) p h holds at session here is by =
    subst (λ q. ShowsRun w new (settled_from q r s)) (sym is.stands) (shows-install w state new r s k ended base t is.column h session here by)

unfoldable pub no_place : Place
no_place = record { ended = 0; standing = standing.Ready }

pub shows-turned : (w : Workload) (state new : State) (r : Run) (s : SessionNo) (k : ℕ) → ShowsRun w state r → RunHolds w r → s.0 ≡ suc k → k < length state.places
    → ((d : Place) → TurnedBy (get_or w.sessions k []) (get_or state.places k d).standing state new s k (get_or state.places k d).ended)
    → ShowsRun w new (take_turn r s)
unfolding take_turn
shows-turned w state new r s k h holds session here by =
    turned-standing w state new r s k (get_or state.places k no_place).ended (get_or state.places k no_place).standing (position_at r.positions s.0) h holds refl session here
    (position-here w state r s k no_place h session here) (by no_place)

pub shows-settled : (w : Workload) (state new : State) (r : Run) (s : SessionNo) (k : ℕ) → ShowsRun w state r → RunHolds w r → s.0 ≡ suc k → k < length state.places
    → ((d : Place) → SettledBy (get_or w.sessions k []) (get_or state.places k d).standing state new s k (get_or state.places k d).ended)
    → ShowsRun w new (settled r s)
unfolding settled
shows-settled w state new r s k h holds session here by =
    settled-standing w state new r s k (get_or state.places k no_place).ended (get_or state.places k no_place).standing (position_at r.positions s.0) h holds refl session here
    (position-here w state r s k no_place h session here) (by no_place)
