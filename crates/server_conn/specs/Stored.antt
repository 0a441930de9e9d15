-- The code of what contracts see of a connection, by which proofs tell two of them apart.
use Rattle.std.specs.Prelude.{◌≡◌, ◌⊎◌, ℕ, Bool, true, false, List, Option, Some, None, refl}
use Rattle.std.proofs.Common.{inl, inr}
use Rattle.std.specs.Coded.{Coded, code_by, coded×, coded⊎, coded_ℕ, coded_bool, coded_list, coded_option}
use Rattle.mope_base.specs.declared.body.Body.{Body}
use Rattle.mope_base.specs.declared.numbers.TableNo.{TableNo}
use Rattle.mope_base.specs.declared.numbers.ColNo.{ColNo}
use Rattle.tree_model.specs.declared.Place.{Place}
use Rattle.tree_model.specs.declared.Place.TheVariants.{Found, Gap}
use Rattle.tree_model.specs.Trees.{Tree}
use Rattle.tree_model.specs.Items.{Item}
use Rattle.table_model.specs.Stores.{Shelf}
use Rattle.ope_tree.specs.Seen.{tree_code, body_code, item_code}
use Rattle.enc_table.specs.Seen.{shelf_code}
use Rattle.versions.specs.declared.op.Op.{Op}
use Rattle.versions.specs.declared.op.Op.TheVariants as op
use Rattle.versions.specs.Databases.{Database, database_code}
use Rattle.server_conn.specs.Connections.{Mark, Walk, Held, Due, commit, install, Conn, idle, begins, holds, awaits}
use Rattle.server_conn.specs.Handling.{Seen}

abbrev pub table_code : Coded TableNo
table_code = code_by ℕ coded_ℕ (λ t. t.0) (λ n. record { 0 = n }) (λ _. refl)

abbrev pub column_code : Coded ColNo
column_code = code_by ℕ coded_ℕ (λ c. c.0) (λ n. record { 0 = n }) (λ _. refl)

abbrev pub of_place : Place → ℕ ⊎ ℕ
of_place (Found rank) = inl rank
of_place (Gap rank) = inr rank

abbrev pub to_place : ℕ ⊎ ℕ → Place
to_place (inl rank) = Found rank
to_place (inr rank) = Gap rank

pub place-back : (p : Place) → to_place (of_place p) ≡ p
place-back (Found rank) = refl
place-back (Gap rank) = refl

abbrev pub place_code : Coded Place
place_code = code_by (ℕ ⊎ ℕ) (coded⊎ coded_ℕ coded_ℕ) of_place to_place place-back

abbrev pub of_op : Op → (TableNo × (List Place × List Body)) ⊎ (TableNo × List ℕ)
of_op (op.Insert table places bodies) = inl (table, (places, bodies))
of_op (op.Delete table rows) = inr (table, rows)

abbrev pub to_op : (TableNo × (List Place × List Body)) ⊎ (TableNo × List ℕ) → Op
to_op (inl p) = op.Insert p.0 p.1.0 p.1.1
to_op (inr p) = op.Delete p.0 p.1

pub op-back : (o : Op) → to_op (of_op o) ≡ o
op-back (op.Insert table places bodies) = refl
op-back (op.Delete table rows) = refl

abbrev pub op_code : Coded Op
op_code = code_by ((TableNo × (List Place × List Body)) ⊎ (TableNo × List ℕ)) (coded⊎ (coded× table_code (coded× (coded_list place_code) (coded_list body_code))) (coded× table_code (coded_list coded_ℕ))) of_op to_op op-back

abbrev pub mark_code : Coded Mark
mark_code = code_by (ℕ × (ℕ × Place)) (coded× coded_ℕ (coded× coded_ℕ place_code)) (λ m. (m.table, (m.column, m.place))) (λ p. record { table = p.0; column = p.1.0; place = p.1.1 }) (λ _. refl)

abbrev pub walk_code : Coded Walk
walk_code = code_by (ℕ × (ℕ × (ℕ × Tree (Item Body)))) (coded× coded_ℕ (coded× coded_ℕ (coded× coded_ℕ (tree_code item_code)))) (λ w. (w.table, (w.column, (w.before, w.part)))) (λ p. record { table = p.0; column = p.1.0; before = p.1.1.0; part = p.1.1.1 }) (λ _. refl)

abbrev pub held_code : Coded Held
held_code = code_by (Database × (List (Shelf Body) × (List TableNo × (List Op × (List Mark × Option Walk))))) (coded× database_code (coded× (coded_list shelf_code) (coded× (coded_list table_code) (coded× (coded_list op_code) (coded× (coded_list mark_code) (coded_option walk_code)))))) (λ h. (h.base, (h.shelves, (h.touched, (h.ops, (h.marks, h.walk)))))) (λ p. record { base = p.0; shelves = p.1.0; touched = p.1.1.0; ops = p.1.1.1.0; marks = p.1.1.1.1.0; walk = p.1.1.1.1.1 }) (λ _. refl)

abbrev pub of_due : Due → Option (TableNo × ColNo)
of_due commit = None
of_due (install table column) = Some (table, column)

abbrev pub to_due : Option (TableNo × ColNo) → Due
to_due None = commit
to_due (Some p) = install p.0 p.1

pub due-back : (due : Due) → to_due (of_due due) ≡ due
due-back commit = refl
due-back (install table column) = refl

abbrev pub due_code : Coded Due
due_code = code_by (Option (TableNo × ColNo)) (coded_option (coded× table_code column_code)) of_due to_due due-back

abbrev pub of_conn : Conn → Bool ⊎ (Held × Option Due)
of_conn idle = inl false
of_conn begins = inl true
of_conn (holds h) = inr (h, None)
of_conn (awaits h due) = inr (h, Some due)

abbrev pub to_holds : Held → Option Due → Conn
to_holds h None = holds h
to_holds h (Some due) = awaits h due

abbrev pub to_conn : Bool ⊎ (Held × Option Due) → Conn
to_conn (inl false) = idle
to_conn (inl true) = begins
to_conn (inr p) = to_holds p.0 p.1

pub conn-back : (k : Conn) → to_conn (of_conn k) ≡ k
conn-back idle = refl
conn-back begins = refl
conn-back (holds h) = refl
conn-back (awaits h due) = refl

abbrev pub conn_code : Coded Conn
conn_code = code_by (Bool ⊎ (Held × Option Due)) (coded⊎ coded_bool (coded× held_code (coded_option due_code))) of_conn to_conn conn-back

abbrev pub seen_code : Coded Seen
seen_code = code_by (Conn × Bool) (coded× conn_code coded_bool) (λ s. (s.conn, s.spent)) (λ p. record { conn = p.0; spent = p.1 }) (λ _. refl)
