-- The state of the program fits what a turn needs, where it stands for a state that turns lead to.
use Rattle.std.proofs.Common.{◌≡◌, refl, sym, ◌∙◌, ap, subst, ℕ, suc, ◌+◌, ◌^◌, ◌<◌, ◌≤◌, List, [], ◌∷◌, ◌++◌, drop, length, get_or, arith}
use Rattle.std.proofs.lemmas.List.{length-map, length-append}
use Rattle.mope_base.specs.declared.numbers.TableNo.{TableNo}
use Rattle.workload.specs.declared.plain.PlainDb.{PlainDb}
use Rattle.workload.specs.declared.script.Act.{Act}
use Rattle.workload.specs.declared.script.Act.TheVariants as act
use Rattle.workload.specs.declared.script.Decl.{Decl}
use Rattle.workload.specs.declared.script.Piece.{Piece}
use Rattle.workload.specs.declared.script.Piece.TheVariants as piece
use Rattle.workload.specs.declared.script.Verb.{Verb}
use Rattle.workload.specs.declared.script.Verb.TheVariants as verb
use Rattle.workload.specs.declared.script.Workload.{Workload}
use Rattle.workload.specs.PlainDatabase.{empty_table, empty_database}
use Rattle.mope_base.specs.Lists.{Each}
use Rattle.workload.specs.Validity.{IsValid, IsValidAct, IsValidVerb, IsValidPiece, IsValidScript}
use Rattle.workload.specs.Transaction.{table_named}
use Rattle.workload.specs.Run.{Run, Turn, Position, ready, committing, installing, Stamps, number_of, version_of, position_at}
use Rattle.workload.specs.History.{script_of}
use Rattle.plain_db.specs.declared.state.Standing.{Standing}
use Rattle.plain_db.specs.declared.state.Standing.TheVariants as standing
use Rattle.plain_db.specs.declared.state.State.{State}
use Rattle.plain_db.specs.Answerable.{IsNarrow}
use Rattle.plain_db.specs.Trying.{AllNumbered, Fits}
use Rattle.plain_db.specs.Running.{ShowsStanding, ShowsRun, StandingFits, StateFits, PieceFits}
use Rattle.plain_db.specs.Reached.{IsReached}
use Rattle.plain_db.proofs.TableOutcomes.{size}
use Rattle.plain_db.proofs.NumberLemmas.{each-get}
use Rattle.plain_db.proofs.VersionLemmas.{version-current}
use Rattle.plain_db.proofs.StoreLemmas.{size_current}
use Rattle.plain_db.proofs.RunInvariant.{StoreHolds, Doing, place_in, IsTried, IsRebuilding, SessionHolds, RunHolds}
use Rattle.plain_db.proofs.FitLemmas.{reached_holds, reached_fits, copy-numbered}

-- how many tables there are
table-count : (w : Workload) (r : Run) → StoreHolds w r → length r.stamps ≡ length w.tables
unfolding size empty_database
table-count w r store = sym (store.sizes 0) ∙ ap size store.first ∙ length-map w.tables (λ _. empty_table)

pub state-tables : (w : Workload) (state : State) (r : Run) → ShowsRun w state r → IsReached w r → length state.current.tables ≡ length w.tables
unfolding size
state-tables w state r h reached =
    let store : StoreHolds w r = (reached_holds w r reached).store in
    ap (λ (db : PlainDb). length db.tables) h.current ∙ size_current w r store ∙ table-count w r store

pub version-count : (w : Workload) (state : State) (r : Run) → ShowsRun w state r → IsReached w r → state.version ≤ length state.taken
version-count w state r h reached =
    omega (arith, h.version, (reached_fits w r reached).count, ap length h.taken, length-map r.turns (λ (t : Turn). t.session))

pub place-count : (w : Workload) (state : State) (r : Run) → ShowsRun w state r → IsReached w r → length state.places ≡ length w.sessions
place-count w state r h reached = h.places.sizes ∙ (reached_holds w r reached).size

empty-script : (tables : List Decl) → IsValidScript tables []
unfolding Each
empty-script tables = let h : 0 < 2 ^ 32 = omega arith in record { valid = tt; few_pieces = h; few_numbers = h }

pub script-valid : (w : Workload) (k : ℕ) → IsValid w → IsValidScript w.tables (get_or w.sessions k [])
script-valid w k valid = each-get (IsValidScript w.tables) w.sessions k [] valid.scripts (empty-script w.tables)

each-middle : (P : Piece → Type 0) (xs : List Piece) (x : Piece) (ys : List Piece) → Each P (xs ++ x ∷ ys) → P x
unfolding Each
each-middle P [] x ys h = h.0
each-middle P (y ∷ xs) x ys h = each-middle P xs x ys h.1

-- a session in the midst of a transaction hasn't ended its script
unended : (w : Workload) (r : Run) (k ended : ℕ) (p : Position) (present : Piece) (rest : List Piece) (session : SessionHolds w r (suc k) p) → session.pieces ≡ present ∷ rest
    → place_in p ≡ suc ended → ended + 1 ≤ length (get_or w.sessions k [])
unfolding script_of
unended w r k ended p present rest session pieces place =
    let script : length (get_or w.sessions k []) ≡ length session.finished + length session.pieces = ap length session.script ∙ length-append session.finished session.pieces in
    omega (arith, script, ap length pieces, session.place, place)

present-valid : (w : Workload) (r : Run) (k : ℕ) (p : Position) (present : Piece) (rest : List Piece) (session : SessionHolds w r (suc k) p) → session.pieces ≡ present ∷ rest
    → IsValid w → IsValidPiece w.tables present
unfolding script_of
present-valid w r k p present rest session pieces valid =
    each-middle (IsValidPiece w.tables) session.finished present rest
    (subst (Each (IsValidPiece w.tables)) (session.script ∙ ap (λ l. session.finished ++ l) pieces) (script-valid w k valid).valid)

standing-holds : (w : Workload) (r : Run) (k ended : ℕ) (stands : Standing) (p : Position) → IsValid w → IsReached w r → SessionHolds w r (suc k) p
    → ShowsStanding (get_or w.sessions k []) ended stands p → StandingFits (length w.tables) ended stands
unfolding ShowsStanding StandingFits Doing place_in
standing-holds w r k ended standing.Ready p valid reached session is = tt
standing-holds w r k ended (standing.Committing base tried) p valid reached session is =
    let here : SessionHolds w r (suc k) (committing (suc ended) base is.work (drop (suc ended) (get_or w.sessions k []))) =
    subst (λ q. SessionHolds w r (suc k) q) is.stands session in
    let doing : IsTried r base is.work (drop (suc ended) (get_or w.sessions k [])) here.pieces = here.doing in
    omega (arith, unended w r k ended _ (piece.Txn doing.statements doing.rollback) _ here doing.is refl, (script-valid w k valid).few_pieces)
standing-holds w r k ended (standing.Installing base t) p valid reached session is =
    let here : SessionHolds w r (suc k) (installing (suc ended) base t is.column (drop (suc ended) (get_or w.sessions k []))) =
    subst (λ q. SessionHolds w r (suc k) q) is.stands session in
    let doing : IsRebuilding r base t is.column (drop (suc ended) (get_or w.sessions k [])) here.pieces = here.doing in (
      (present-valid w r k _ (piece.Rebuild t is.column) _ here doing.is valid).0,
      omega (arith, unended w r k ended _ (piece.Rebuild t is.column) _ here doing.is refl, (script-valid w k valid).few_pieces),
    )

pub state-fits : (w : Workload) (state : State) (r : Run) → IsValid w → ShowsRun w state r → IsReached w r → state.version < 2 ^ 63
    → StateFits (length state.current.tables) state
unfolding position_at
state-fits w state r valid h reached version =
    let holds : RunHolds w r = reached_holds w r reached in
    let tables : length state.current.tables ≡ length w.tables = state-tables w state r h reached in
    let stamps : length r.stamps ≡ length w.tables = table-count w r holds.store in
    record {
      few = omega (arith, tables, valid.few_tables);
      current = refl;
      numbered = subst AllNumbered (version-current r ∙ sym h.current) ((reached_fits w r reached).numbered (number_of r));
      written = omega (arith, ap length h.written, length-map r.stamps (λ (s : Stamps). s.written), stamps, tables);
      laid = omega (arith, ap length h.laid, length-map r.stamps (λ (s : Stamps). s.laid), stamps, tables);
      version = version;
      standings = λ i d within.
          subst (λ n. StandingFits n (get_or state.places i d).ended (get_or state.places i d).standing) (sym tables)
          (standing-holds w r i (get_or state.places i d).ended (get_or state.places i d).standing (get_or r.positions i (ready 1 [])) valid reached (holds.sessions (suc i)) (h.places.each i d within));
    }

-- a valid script's statements can be answered

verb-narrow : (tables : List Decl) (t : TableNo) (v : Verb) → IsValidVerb tables t v → IsNarrow v
verb-narrow tables t (verb.Rows columns order limit) h = h.1
verb-narrow tables t verb.Count h = tt
verb-narrow tables t (verb.Min column) h = tt
verb-narrow tables t (verb.Max column) h = tt
verb-narrow tables t verb.Delete h = tt

act-fits : (tables : List Decl) (n : ℕ) (statement : Act) → n ≡ length tables → IsValidAct tables statement → Fits n statement
unfolding table_named
act-fits tables n (act.Insert t values) e h = record { is_there = omega (arith, h.0, e); narrow = tt }
act-fits tables n (act.Ask ask) e h = record { is_there = omega (arith, h.0, e); narrow = verb-narrow tables ask.table ask.verb h.3 }

acts-fit : (tables : List Decl) (n : ℕ) (statements : List Act) → n ≡ length tables → Each (IsValidAct tables) statements → Each (Fits n) statements
unfolding Each
acts-fit tables n [] e h = tt
acts-fit tables n (statement ∷ statements) e h = (act-fits tables n statement e h.0, acts-fit tables n statements e h.1)

piece-fits : (tables : List Decl) (n : ℕ) (p : Piece) → n ≡ length tables → IsValidPiece tables p → PieceFits n p
unfolding PieceFits
piece-fits tables n (piece.Txn statements rollback) e h = acts-fit tables n statements e h.0
piece-fits tables n (piece.Rebuild t column) e h = tt

pub pieces-fit : (tables : List Decl) (n : ℕ) (pieces : List Piece) → n ≡ length tables → Each (IsValidPiece tables) pieces → Each (PieceFits n) pieces
unfolding Each
pieces-fit tables n [] e h = tt
pieces-fit tables n (p ∷ pieces) e h = (piece-fits tables n p e h.0, pieces-fit tables n pieces e h.1)
