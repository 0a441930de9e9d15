-- Without a number nothing is taken out.
use Rattle.std.proofs.Common.{◌∙◌, ◌≡◌, ◌==◌, ℕ, Bool, true, false, List, length, ap, sym, refl}
use Rattle.server_conn.specs.Serving.{after_statement}
use Rattle.server_conn.specs.Inside.{held_in}
use Rattle.server_conn.proofs.Seeing.{ok-then}
use Rattle.server_conn.proofs.Taking.{no-numbers, there-are}
use Rattle.server_conn.proofs.querying.delete_all.Goals as goal

pub leave-requires-clause-txn : goal.leave-requires-clause-txn
leave-requires-clause-txn c = c.requires.txn

pub leave-requires-clause-closed : goal.leave-requires-clause-closed
leave-requires-clause-closed c = c.requires.closed

pub returns-then-is_empty-clause-held : goal.returns-then-is_empty-clause-held
returns-then-is_empty-clause-held c =
    let none : (length c.args.numbers == 0) ≡ true = sym (ap (λ (ns : List ℕ). length ns == 0) c.as_slice.ensures) ∙ sym c.is_empty.ensures ∙ c.if-is_empty.true in
    ok-then c.leave.result (λ is. is ∙ ap (after_statement c.args.table) (no-numbers c.args.table c.args.numbers (held_in c.args.txn.now) none)) c.leave.ensures.held

pub returns-then-is_empty-clause-txn : goal.returns-then-is_empty-clause-txn
returns-then-is_empty-clause-txn c = c.leave.ensures.txn

pub same-numbers : goal.same-numbers
same-numbers c = refl

pub delete-requires-clause-txn : goal.delete-requires-clause-txn
delete-requires-clause-txn c = c.requires.txn

pub delete-requires-clause-closed : goal.delete-requires-clause-closed
delete-requires-clause-closed c = c.requires.closed

pub delete-requires-clause-there : goal.delete-requires-clause-there
delete-requires-clause-there c = c.requires.there

pub delete-requires-clause-some : goal.delete-requires-clause-some
delete-requires-clause-some c =
    there-are c.args.numbers (sym (ap (λ (ns : List ℕ). length ns == 0) c.as_slice.ensures) ∙ sym c.is_empty.ensures ∙ c.if-is_empty.false)

pub delete-requires-clause-rise : goal.delete-requires-clause-rise
delete-requires-clause-rise c = c.requires.rise

pub delete-requires-clause-live : goal.delete-requires-clause-live
delete-requires-clause-live c = c.requires.live

pub returns-clause-held : goal.returns-clause-held
returns-clause-held c = c.delete.ensures.held

pub returns-clause-txn : goal.returns-clause-txn
returns-clause-txn c = c.delete.ensures.txn
