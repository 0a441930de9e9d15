-- A new core follows the run of its workload before the first entry.
use Rattle.std.proofs.Common.{◌≡◌, sym, ◌∙◌, ap, subst, false, List, [], ◌∷◌, map, length}
use Rattle.mope_base.specs.Lists.{Each}
use Rattle.mope_base.specs.Modes.{is_same_time}
use Rattle.versions.specs.Databases.{first_database}
use Rattle.workload.specs.PlainDatabase.{row_limit}
use Rattle.workload.specs.Validity.{IsValid, IsValidDecl, IsValidScript}
use Rattle.workload.specs.declared.script.Decl.{Decl}
use Rattle.workload.specs.declared.script.Piece.{Piece}
use Rattle.workload.specs.declared.script.Workload.{Workload}
use Rattle.proxy.specs.declared.outcomes.Settings.{Settings}
use Rattle.txn_core.specs.Courses.{Course}
use Rattle.run_laws.specs.Schedules.{first_underway}
use Rattle.run_laws.specs.Worlds.{first_version, widths_of}
use Rattle.step_core.specs.Cores.{Follows, run_setting}
use Rattle.step_core.specs.Inside.{AreNumbered, IsCore, cored, sitting_of}
use Rattle.step_core.specs.Sittings.{IsNarrow, IsShort, first_sittings}
use Rattle.step_core.specs.declared.seat.Seat.{Seat}
use Rattle.step_core.proofs.StartFollows.{start-follows}

narrow-each : (tables : List Decl) → Each IsValidDecl tables → Each IsNarrow tables
unfolding Each
narrow-each [] valid = tt
narrow-each (d ∷ tables) valid = ((valid.0.some_column, valid.0.few_columns), narrow-each tables valid.1)

short-each : (tables : List Decl) (scripts : List (List Piece)) → Each (IsValidScript tables) scripts → Each IsShort scripts
unfolding Each
short-each tables [] valid = tt
short-each tables (script ∷ scripts) valid = ((valid.0.few_pieces, valid.0.few_numbers), short-each tables scripts valid.1)

pub narrow-tables : (w : Workload) (tables : List Decl) → IsValid w → tables ≡ w.tables → Each IsNarrow tables
narrow-tables w tables valid is = subst (λ (l : List Decl). Each IsNarrow l) (sym is) (narrow-each w.tables valid.tables)

pub short-scripts : (w : Workload) (scripts : List (List Piece)) → IsValid w → scripts ≡ w.sessions → Each IsShort scripts
short-scripts w scripts valid is = subst (λ (l : List (List Piece)). Each IsShort l) (sym is) (short-each w.tables w.sessions valid.scripts)

pub new-follows : (settings : Settings) (w : Workload) (state : Course) (seats : List Seat) (tables : List Decl) (scripts : List (List Piece)) → IsValid w → tables ≡ w.tables → scripts ≡ w.sessions
    → state.first ≡ first_database (map (λ (d : Decl). length d.columns) tables) (is_same_time settings.mode) row_limit → state.turns ≡ [] → state.current ≡ state.first
    → map sitting_of seats ≡ first_sittings settings 1 scripts → Follows settings w (first_underway (run_setting settings) w) (cored state seats false)
unfolding cored run_setting first_version widths_of
new-follows settings w state seats tables scripts valid same_tables same_scripts first turns current sittings =
    start-follows settings w (cored state seats false) valid
    (first ∙ ap (λ (l : List Decl). first_database (map (λ (d : Decl). length d.columns) l) (is_same_time settings.mode) row_limit) same_tables)
    turns current
    (sittings ∙ ap (λ (l : List (List Piece)). first_sittings settings 1 l) same_scripts)

pub new-core : (settings : Settings) (w : Workload) (state : Course) (seats : List Seat) → IsValid w → AreNumbered 1 seats → Follows settings w (first_underway (run_setting settings) w) (cored state seats false) → IsCore state seats false
unfolding IsCore
new-core settings w state seats valid numbered follows =
    (numbered, record { settings = settings; workload = w; underway = first_underway (run_setting settings) w; valid = valid; follows = follows })
