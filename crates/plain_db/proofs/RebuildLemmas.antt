-- The install turn of a rebuild keeps what holds of a run.
use Rattle.std.proofs.Common.{◌≡◌, refl, sym, ◌∙◌, ap, subst, ℕ, suc, max, ◌-◌, ◌<◌, ◌≤◌, Bool, true, false, ◌||◌, ltb, List, [], ◌∷◌, ◌++◌, inl, inr, arith}
use Rattle.std.specs.List.{list_any}
use Rattle.std.proofs.lemmas.Bool.{cases_lt, ltb-true, or_cases, or_left, or_right}
use Rattle.mope_base.specs.declared.numbers.TableNo.{TableNo}
use Rattle.mope_base.specs.declared.numbers.ColNo.{ColNo}
use Rattle.mope_base.specs.declared.numbers.SessionNo.{SessionNo}
use Rattle.workload.specs.declared.script.DoneTxn.{DoneTxn}
use Rattle.workload.specs.declared.script.End.TheVariants as end
use Rattle.workload.specs.declared.script.Piece.{Piece}
use Rattle.workload.specs.declared.script.Piece.TheVariants as piece
use Rattle.workload.specs.declared.script.Workload.{Workload}
use Rattle.workload.specs.Run.{Run, Turn, installed, found_stale, Position, installing, Stamps, number_of, version_of, position_at, moved, with_done, stamps_of, last_change, installed_unless, install_turn}
use Rattle.workload.specs.History.{number_got, full_shown, piece_at, answers_on, full_on, effect_on, HasCause, IsShown, writes, lays}
use Rattle.plain_db.proofs.StampLemmas.{stamps_at}
use Rattle.plain_db.proofs.VersionLemmas.{version-new, number-next, version-current}
use Rattle.mope_base.specs.Lists.{Each}
use Rattle.plain_db.proofs.ChainLemmas.{seen_by, seen, Numbered}
use Rattle.plain_db.proofs.RunInvariant.{Extends, TxnHolds, StoreHolds, place_in, base_in, IsRebuilding, Doing, SessionHolds, RunHolds}
use Rattle.plain_db.proofs.StepLemmas.{is_over, MakesVersion}
use Rattle.plain_db.proofs.EndLemmas as ending
use Rattle.plain_db.proofs.StoreLemmas.{MakesNone, later-none, store-none, later-version}
use Rattle.plain_db.proofs.InstallLemmas.{Installs, store-install}
use Rattle.plain_db.proofs.BeginLemmas.{piece-here, repeats_by}

any_left : (p q : Turn → Bool) (turns : List Turn) → list_any p turns ≡ true → list_any (λ turn. p turn || q turn) turns ≡ true
any_left p q [] e = e
any_left p q (turn ∷ turns) e =
    elim (or_cases (p turn) (list_any p turns) e) as (λ _. ((p turn || q turn) || list_any (λ turn. p turn || q turn) turns) ≡ true) [
      | inl here ↦ or_left _ _ (or_left (p turn) (q turn) here)
      | inr there ↦ or_right _ _ (any_left p q turns there)
    ]

any_right : (p q : Turn → Bool) (turns : List Turn) → list_any q turns ≡ true → list_any (λ turn. p turn || q turn) turns ≡ true
any_right p q [] e = e
any_right p q (turn ∷ turns) e =
    elim (or_cases (q turn) (list_any q turns) e) as (λ _. ((p turn || q turn) || list_any (λ turn. p turn || q turn) turns) ≡ true) [
      | inl here ↦ or_left _ _ (or_right (p turn) (q turn) here)
      | inr there ↦ or_right _ _ (any_right p q turns there)
    ]

max_left : (a b : ℕ) → b < a → max a b ≡ a
max_left a b h = omega arith

max_right : (a b : ℕ) → a ≤ b → max a b ≡ b
max_right a b h = omega arith

-- the turn that last changed a table
changed : (w : Workload) (r : Run) (t : TableNo) → StoreHolds w r → 0 < last_change (stamps_of r t)
    → list_any (λ (turn : Turn). writes t (last_change (stamps_of r t)) turn.kind || lays t (last_change (stamps_of r t)) turn.kind) r.turns ≡ true
unfolding last_change stamps_of stamps_at
changed w r t store positive =
    let stamp : Stamps = stamps_of r t in
    elim (cases_lt stamp.laid stamp.written) as (λ _. list_any (λ (turn : Turn). writes t (max stamp.written stamp.laid) turn.kind || lays t (max stamp.written stamp.laid) turn.kind) r.turns ≡ true) [
      | inl written ↦
          let n : max stamp.written stamp.laid ≡ stamp.written = max_left stamp.written stamp.laid written in
          any_left (λ (turn : Turn). writes t (max stamp.written stamp.laid) turn.kind) (λ (turn : Turn). lays t (max stamp.written stamp.laid) turn.kind) r.turns
          (subst (λ k. list_any (λ (turn : Turn). writes t k turn.kind) r.turns ≡ true) (sym n) (store.written t (omega arith)))
      | inr laid ↦
          let n : max stamp.written stamp.laid ≡ stamp.laid = max_right stamp.written stamp.laid laid in
          any_right (λ (turn : Turn). writes t (max stamp.written stamp.laid) turn.kind) (λ (turn : Turn). lays t (max stamp.written stamp.laid) turn.kind) r.turns
          (subst (λ k. list_any (λ (turn : Turn). lays t k turn.kind) r.turns ≡ true) (sym n) (store.laid t (omega (arith, n, positive))))
    ]

is_stale : (w : Workload) (r : Run) (s : SessionNo) (place base : ℕ) (t : TableNo) (column : ColNo) (rest : List Piece)
    → base < last_change (stamps_of r t)
    → position_at r.positions s.0 ≡ installing place base t column rest → RunHolds w r
    → RunHolds w (installed_unless true r s place base t column rest)
unfolding installed_unless moved with_done place_in base_in Doing is_over Each MakesVersion answers_on full_on full_shown Numbered seen seen_by number_got number_of HasCause
is_stale w r s place base t column rest above here holds =
    let p : Position = installing place base t column rest in
    let session : SessionHolds w r s.0 p = subst (λ q. SessionHolds w r s.0 q) here (holds.sessions s.0) in
    let rebuilding : IsRebuilding r base t column rest session.pieces = session.doing in
    let present : Piece = piece.Rebuild t column in
    let newer : ℕ = last_change (stamps_of r t) in
    let turn : Turn = record { session = s; place = place; kind = found_stale t newer } in
    let done : DoneTxn = record { session = s; place = place; base = base; end = end.Stale t newer; answers = [] } in
    let next : Run = installed_unless true r s place base t column rest in
    let none : MakesNone r next turn = record { older = refl; current = refl; stamps = refl; turns = refl } in
    let later : Extends r next = later-none r next turn none in
    let is : piece_at w s place ≡ present =
    piece-here w s session.finished present rest place (session.script ∙ ap (λ l. session.finished ++ l) rebuilding.is) session.place in
    let shown : IsShown next done (found_stale t newer) (λ kind. writes t newer kind || lays t newer kind) =
    record { before = r.turns; after = []; own = refl; caused = changed w r t holds.store (omega (arith, above)) } in
    let txn : TxnHolds w next done = record {
      numbered = omega (arith, rebuilding.within, later.grows);
      repeats = repeats_by w next done (version_of r base) present is (later.versions base rebuilding.within) refl refl tt;
      cause = (above, shown);
    } in
    ending.ends w r next s.0 p present rest done session rebuilding.is holds
    (record { later = later; positions = refl; done = refl; own = (refl, tt) })
    (ap is_over here) rebuilding.within
    (record { session = refl; place = refl; base = refl; makes = refl })
    txn (store-none w r next turn none holds.store)

makes_version : (w : Workload) (r : Run) (s : SessionNo) (place base : ℕ) (t : TableNo) (column : ColNo) (rest : List Piece)
    → position_at r.positions s.0 ≡ installing place base t column rest → RunHolds w r
    → RunHolds w (installed_unless false r s place base t column rest)
unfolding installed_unless moved with_done place_in base_in Doing is_over Each MakesVersion answers_on full_on effect_on full_shown Numbered seen seen_by number_got HasCause
makes_version w r s place base t column rest here holds =
    let p : Position = installing place base t column rest in
    let session : SessionHolds w r s.0 p = subst (λ q. SessionHolds w r s.0 q) here (holds.sessions s.0) in
    let rebuilding : IsRebuilding r base t column rest session.pieces = session.doing in
    let present : Piece = piece.Rebuild t column in
    let number : ℕ = suc (number_of r) in
    let turn : Turn = record { session = s; place = place; kind = installed number t column } in
    let done : DoneTxn = record { session = s; place = place; base = base; end = end.Installed number; answers = [] } in
    let next : Run = installed_unless false r s place base t column rest in
    let made : Installs r next t column turn = record { older = refl; current = refl; stamps = refl; turns = refl; kind = refl } in
    let later : Extends r next = later-version r next turn refl refl in
    let count : number_of next ≡ suc (number_of r) = number-next r next refl in
    let is : piece_at w s place ≡ present =
    piece-here w s session.finished present rest place (session.script ∙ ap (λ l. session.finished ++ l) rebuilding.is) session.place in
    let before : suc (number_of r) - 1 ≡ number_of r = omega arith in
    let stands : version_of next (seen done) ≡ r.current =
    ap (λ n. version_of next n) before ∙ later.versions (number_of r) (omega arith) ∙ version-current r in
    let txn : TxnHolds w next done = record {
      numbered = (omega (arith, rebuilding.within), omega (arith, count));
      repeats = repeats_by w next done r.current present is stands refl refl (sym (version-new r next number refl (omega arith)));
      cause = tt;
    } in
    ending.ends w r next s.0 p present rest done session rebuilding.is holds
    (record { later = later; positions = refl; done = refl; own = (refl, tt) })
    (ap is_over here) rebuilding.within
    (record { session = refl; place = refl; base = refl; makes = (count, refl) })
    txn (store-install w r next t column turn made holds.store)

install_unless_holds : (w : Workload) (r : Run) (s : SessionNo) (place base : ℕ) (t : TableNo) (column : ColNo) (rest : List Piece) (stale : Bool)
    → ltb base (last_change (stamps_of r t)) ≡ stale
    → position_at r.positions s.0 ≡ installing place base t column rest → RunHolds w r
    → RunHolds w (installed_unless stale r s place base t column rest)
install_unless_holds w r s place base t column rest true e here holds = is_stale w r s place base t column rest (ltb-true base (last_change (stamps_of r t)) e) here holds
install_unless_holds w r s place base t column rest false e here holds = makes_version w r s place base t column rest here holds

pub install_holds : (w : Workload) (r : Run) (s : SessionNo) (place base : ℕ) (t : TableNo) (column : ColNo) (rest : List Piece)
    → position_at r.positions s.0 ≡ installing place base t column rest → RunHolds w r → RunHolds w (install_turn r s place base t column rest)
unfolding install_turn
install_holds w r s place base t column rest here holds =
    install_unless_holds w r s place base t column rest (ltb base (last_change (stamps_of r t))) refl here holds
