-- A commit turn keeps what holds of a run.
use Rattle.std.proofs.Common.{◌≡◌, refl, sym, ◌∙◌, ap, subst, ℕ, suc, ◌+◌, ◌-◌, true, List, [], ◌++◌, Option, Some, None, arith}
use Rattle.std.specs.List.{list_any}
use Rattle.mope_base.specs.declared.numbers.TableNo.{TableNo}
use Rattle.mope_base.specs.declared.numbers.SessionNo.{SessionNo}
use Rattle.workload.specs.declared.script.DoneTxn.{DoneTxn}
use Rattle.workload.specs.declared.script.End.TheVariants as end
use Rattle.workload.specs.declared.script.Piece.{Piece}
use Rattle.workload.specs.declared.script.Piece.TheVariants as piece
use Rattle.workload.specs.declared.script.Workload.{Workload}
use Rattle.workload.specs.Transaction.{Work, work_of}
use Rattle.workload.specs.Run.{Run, Turn, committed, conflicted, Position, committing, number_of, version_of, position_at, moved, with_done, names, lowest_newer, committed_unless, commit_turn}
use Rattle.workload.specs.History.{number_got, full_met, full_shown, piece_at, answers_on, full_on, effect_on, HasCause, IsShown, writes}
use Rattle.plain_db.proofs.TableOutcomes.{size}
use Rattle.plain_db.proofs.MergeLemmas.{RepeatsOn, repeats_on}
use Rattle.plain_db.proofs.StampLemmas.{stamps_at, none_newer, IsNewer, some_newer}
use Rattle.plain_db.proofs.VersionLemmas.{version-new, number-next, version-current}
use Rattle.mope_base.specs.Lists.{Each}
use Rattle.plain_db.proofs.ChainLemmas.{seen_by, seen, Numbered}
use Rattle.plain_db.proofs.RunInvariant.{Extends, TxnHolds, place_in, base_in, IsTried, Doing, SessionHolds, RunHolds}
use Rattle.plain_db.proofs.StepLemmas.{is_over, MakesVersion}
use Rattle.plain_db.proofs.EndLemmas as ending
use Rattle.plain_db.proofs.StoreLemmas.{MakesNone, later-none, store-none, later-version, Commits, store-commit, size_current}
use Rattle.plain_db.proofs.BeginLemmas.{piece-here, repeats_by}

-- the commit of a transaction whose touched table was written after its base
conflicts : (w : Workload) (r : Run) (s : SessionNo) (place base : ℕ) (work : Work) (rest : List Piece) (newer : TableNo × ℕ)
    → lowest_newer 0 r.stamps base work.touched ≡ Some newer
    → position_at r.positions s.0 ≡ committing place base work rest → RunHolds w r
    → RunHolds w (committed_unless (Some newer) r s place base work rest)
unfolding committed_unless moved with_done place_in base_in Doing is_over Each MakesVersion answers_on full_on full_met full_shown work_of Numbered seen seen_by number_got number_of HasCause
conflicts w r s place base work rest newer found here holds =
    let p : Position = committing place base work rest in
    let session : SessionHolds w r s.0 p = subst (λ q. SessionHolds w r s.0 q) here (holds.sessions s.0) in
    let tried : IsTried r base work rest session.pieces = session.doing in
    let present : Piece = piece.Txn tried.statements tried.rollback in
    let turn : Turn = record { session = s; place = place; kind = conflicted newer.0 newer.1 } in
    let t : DoneTxn = record { session = s; place = place; base = base; end = end.Conflict newer.0 newer.1; answers = work.answers } in
    let next : Run = committed_unless (Some newer) r s place base work rest in
    let none : MakesNone r next turn = record { older = refl; current = refl; stamps = refl; turns = refl } in
    let later : Extends r next = later-none r next turn none in
    let is : piece_at w s place ≡ present =
    piece-here w s session.finished present rest place (session.script ∙ ap (λ l. session.finished ++ l) tried.is) session.place in
    let is_newer : IsNewer 0 r.stamps base newer = some_newer 0 r.stamps base work.touched newer found in
    let at_table : newer.0.0 ≡ is_newer.place = omega (arith, is_newer.table) in
    let stamp : (stamps_at r.stamps newer.0.0).written ≡ newer.1 =
    ap (λ i. (stamps_at r.stamps i).written) at_table ∙ sym is_newer.stamp in
    let caused : list_any (λ (turn : Turn). writes newer.0 newer.1 turn.kind) r.turns ≡ true =
    subst (λ n. list_any (λ (turn : Turn). writes newer.0 n turn.kind) r.turns ≡ true) stamp
    (holds.store.written newer.0 (omega (arith, stamp, is_newer.above))) in
    let shown : IsShown next t (conflicted newer.0 newer.1) (writes newer.0 newer.1) =
    record { before = r.turns; after = []; own = refl; caused = caused } in
    let txn : TxnHolds w next t = record {
      numbered = omega (arith, tried.within, later.grows);
      repeats =
          repeats_by w next t (version_of r base) present is (later.versions base tried.within)
          (ap (λ trial. (work_of trial).answers) tried.tried) (ap full_met tried.tried) tt;
      cause = (is_newer.above, shown);
    } in
    ending.ends w r next s.0 p present rest t session tried.is holds
    (record { later = later; positions = refl; done = refl; own = (refl, tt) })
    (ap is_over here) tried.within
    (record { session = refl; place = refl; base = refl; makes = refl })
    txn (store-none w r next turn none holds.store)

-- the commit that makes a version
makes_version : (w : Workload) (r : Run) (s : SessionNo) (place base : ℕ) (work : Work) (rest : List Piece)
    → lowest_newer 0 r.stamps base work.touched ≡ None
    → position_at r.positions s.0 ≡ committing place base work rest → RunHolds w r
    → RunHolds w (committed_unless None r s place base work rest)
unfolding committed_unless moved with_done place_in base_in Doing is_over Each MakesVersion answers_on full_on effect_on full_met full_shown work_of Numbered seen seen_by number_got HasCause
makes_version w r s place base work rest unfound here holds =
    let p : Position = committing place base work rest in
    let session : SessionHolds w r s.0 p = subst (λ q. SessionHolds w r s.0 q) here (holds.sessions s.0) in
    let tried : IsTried r base work rest session.pieces = session.doing in
    let present : Piece = piece.Txn tried.statements tried.rollback in
    let number : ℕ = suc (number_of r) in
    let turn : Turn = record { session = s; place = place; kind = committed number work.ops } in
    let t : DoneTxn = record { session = s; place = place; base = base; end = end.Committed number; answers = work.answers } in
    let next : Run = committed_unless None r s place base work rest in
    let made : Commits r next work.ops work.copy turn = record { older = refl; current = refl; stamps = refl; turns = refl; kind = refl } in
    let later : Extends r next = later-version r next turn refl refl in
    let count : number_of next ≡ suc (number_of r) = number-next r next refl in
    let is : piece_at w s place ≡ present =
    piece-here w s session.finished present rest place (session.script ∙ ap (λ l. session.finished ++ l) tried.is) session.place in
    let sizes : size (version_of r base) ≡ size r.current = holds.store.sizes base ∙ sym (size_current w r holds.store) in
    let repeats : RepeatsOn work r.current tried.statements =
    repeats_on (version_of r base) r.current tried.statements work tried.tried sizes
    (λ i named. holds.store.unchanged i base
    (none_newer 0 r.stamps base work.touched unfound i (let same : i ≡ 0 + i = omega arith in ap (λ k. names work.touched k) (sym same) ∙ named))) in
    let before : suc (number_of r) - 1 ≡ number_of r = omega arith in
    let stands : version_of next (seen t) ≡ r.current =
    ap (λ n. version_of next n) before ∙ later.versions (number_of r) (omega arith) ∙ version-current r in
    let txn : TxnHolds w next t = record {
      numbered = (omega (arith, tried.within), omega (arith, count));
      repeats =
          repeats_by w next t r.current present is stands
          (ap (λ trial. (work_of trial).answers) repeats.goes ∙ repeats.answers) (ap full_met repeats.goes)
          (ap (λ trial. (work_of trial).copy) repeats.goes ∙ repeats.makes ∙ sym (version-new r next number refl (omega arith)));
      cause = tt;
    } in
    ending.ends w r next s.0 p present rest t session tried.is holds
    (record { later = later; positions = refl; done = refl; own = (refl, tt) })
    (ap is_over here) tried.within
    (record { session = refl; place = refl; base = refl; makes = (count, refl) })
    txn (store-commit w r next work.ops work.copy turn made holds.store)

commit_unless_holds : (w : Workload) (r : Run) (s : SessionNo) (place base : ℕ) (work : Work) (rest : List Piece) (found : Option (TableNo × ℕ))
    → lowest_newer 0 r.stamps base work.touched ≡ found
    → position_at r.positions s.0 ≡ committing place base work rest → RunHolds w r
    → RunHolds w (committed_unless found r s place base work rest)
commit_unless_holds w r s place base work rest None e here holds = makes_version w r s place base work rest e here holds
commit_unless_holds w r s place base work rest (Some newer) e here holds = conflicts w r s place base work rest newer e here holds

pub commit_holds : (w : Workload) (r : Run) (s : SessionNo) (place base : ℕ) (work : Work) (rest : List Piece)
    → position_at r.positions s.0 ≡ committing place base work rest → RunHolds w r → RunHolds w (commit_turn r s place base work rest)
unfolding commit_turn
commit_holds w r s place base work rest here holds =
    commit_unless_holds w r s place base work rest (lowest_newer 0 r.stamps base work.touched) refl here holds
