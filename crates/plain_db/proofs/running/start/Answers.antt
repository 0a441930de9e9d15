use Rattle.std.proofs.Common.{◌∙◌, ap, refl, length, List, replicate}
use Rattle.workload.specs.declared.script.Decl.{Decl}
use Rattle.workload.specs.declared.script.Piece.{Piece}
use Rattle.workload.specs.PlainDatabase.{empty_table}
use Rattle.plain_db.specs.Running.{first_place}
use Rattle.plain_db.proofs.RunningLemmas.{starts}
use Rattle.plain_db.proofs.running.start.Goals as goal

pub returns : goal.returns
returns c =
    starts c.args.w.now _ refl
    (c.in_ok-tables.ensures ∙ ap (λ (l : List Decl). replicate (length l) empty_table) c.as_slice-count.ensures)
    (c.in_ok-written.ensures ∙ ap (λ (l : List Decl). replicate (length l) 0) c.as_slice-count.ensures)
    (c.in_ok-laid.ensures ∙ ap (λ (l : List Decl). replicate (length l) 0) c.as_slice-count.ensures)
    (c.in_ok-places.ensures ∙ ap (λ (l : List (List Piece)). replicate (length l) first_place) c.as_slice.ensures)
    c.new.ensures c.new-2.ensures
