-- The begin and the end of a transaction.
use Rattle.std.proofs.Common.{◌≡◌, ℕ, Bool, true, false, not, ◌&&◌, ◌==◌, List, [], ◌∷◌, is_some, Option, Some, None, refl, ap, ap₂, ◌∙◌}
use Rattle.std.proofs.lemmas.Bool.{eq-eqb}
use Rattle.mope_base.specs.declared.numbers.TableNo.{TableNo}
use Rattle.mope_base.specs.declared.numbers.ColNo.{ColNo}
use Rattle.versions.specs.Databases.{Database}
use Rattle.versions.specs.declared.op.Op.{Op}
use Rattle.walk_proto.specs.Rules.{is_ended}
use Rattle.walk_proto.specs.declared.messages.How.TheVariants as how
use Rattle.walk_proto.specs.declared.messages.Reply.TheVariants as reply
use Rattle.walk_proto.specs.declared.messages.Request.TheVariants as request
use Rattle.workload.specs.declared.script.Act.{Act}
use Rattle.proxy.specs.Allowed.{allowed, is_spelled, fits_first, fits_task, opens_with, is_begin, closes_with, is_end, is_commit_end, rebuilds_with, is_install_end}
use Rattle.proxy.specs.Client.{Setting, Client, wants, first_request, request_for, hears, heard_at, heard_by, opened_by, ended_by, end_told, closed_by, ending}
use Rattle.proxy.specs.Tasks.{Task, closes}
use Rattle.server_conn.specs.Connections.{Walk, Held, held_on, commit, install, idle, holds, awaits, wants_commit, wants_install}
use Rattle.server_conn.specs.Checks.{is_fresh, refusal, checks, first_failing, reason_or, walk_open, unknown_table, unknown_column, in_transaction}
use Rattle.server_conn.specs.Serving.{serve, served_idle, served_unless, effect, ended_by as ends_by, committed, closed, began, ended, step_to}
use Rattle.transaction_laws.specs.Meetings.{doing}
use Rattle.transaction_laws.specs.Ends.{begun_on, EndsAtOnce, HasOps, HasColumnOf, BeginMeets, CloseMeets, CommitMeets, ConflictMeets, InstallMeets, StaleMeets}
use Rattle.transaction_laws.proofs.Inserting.{meets_once, no_fault}

pub begin_meets : BeginMeets
unfolding doing wants first_request request_for serve served_idle began step_to allowed is_spelled fits_first fits_task opens_with is_begin hears heard_at heard_by opened_by begun_on is_ended
begin_meets s later c d = record { wanted = refl; asked = refl; answered = refl; allows = refl; client_is = refl }

-- ---- without a turn

end-checked : (keeps : Bool) (h : Held) → h.walk ≡ None → refusal (request.End keeps) h ≡ None
unfolding refusal checks first_failing reason_or
end-checked keeps h closed_walk = ap (λ (w : Option Walk). reason_or (is_some w) walk_open None) closed_walk

serve-end : (keeps : Bool) (h : Held) → h.walk ≡ None → serve (request.End keeps) (holds h) ≡ ends_by keeps h
unfolding serve served_unless effect
serve-end keeps h closed_walk = ap (λ (found : Option ℕ). served_unless found (request.End keeps) h) (end-checked keeps h closed_walk)

no_ops : (ops : List Op) (h : Held) → EndsAtOnce false ops → committed ops h ≡ closed h
unfolding EndsAtOnce committed
no_ops [] h at_once = refl
no_ops (o ∷ ops) h at_once = absurd at_once

ends_closed : (rollback : Bool) (h : Held) → EndsAtOnce rollback h.ops → ends_by (not rollback) h ≡ closed h
unfolding ends_by
ends_closed true h at_once = refl
ends_closed false h at_once = no_ops h.ops h at_once

close-allows : (rollback : Bool) (acts : List Act) (later : List Task) (c : Client) (number : ℕ) → allowed (doing (closes rollback acts ∷ later) c) (reply.Ended how.Closed 0 number) ≡ true
unfolding doing allowed is_spelled fits_first fits_task closes_with is_end is_commit_end is_ended
close-allows true acts later c number = refl
close-allows false acts later c number = refl

close-hears : (s : Setting) (rollback : Bool) (acts : List Act) (later : List Task) (c : Client) (number : ℕ) → hears s (doing (closes rollback acts ∷ later) c) (reply.Ended how.Closed 0 number) ≡ ending s (closed_by rollback) c
unfolding doing hears heard_at heard_by ended_by end_told ending
close-hears s rollback acts later c number = refl

close-wants : (s : Setting) (rollback : Bool) (acts : List Act) (later : List Task) (c : Client) → wants s (doing (closes rollback acts ∷ later) c) ≡ Some (request.End (not rollback))
unfolding doing wants first_request request_for
close-wants s rollback acts later c = refl

pub close_meets : CloseMeets
unfolding closed step_to
close_meets s rollback acts later c h closed_walk at_once =
    meets_once s (doing (closes rollback acts ∷ later) c) (ending s (closed_by rollback) c) (holds h) idle (request.End (not rollback)) (reply.Ended how.Closed 0 h.base.number)
    (close-wants s rollback acts later c) (close-allows rollback acts later c h.base.number) (serve-end (not rollback) h closed_walk ∙ ends_closed rollback h at_once) (close-hears s rollback acts later c h.base.number)

-- ---- commits

some_ops : (ops : List Op) (h : Held) → HasOps ops → committed ops h ≡ record { served = wants_commit; conn = awaits h commit }
unfolding HasOps committed
some_ops [] h has = absurd has
some_ops (o ∷ ops) h has = refl

asks-commit : (h : Held) → h.walk ≡ None → HasOps h.ops → serve (request.End true) (holds h) ≡ record { served = wants_commit; conn = awaits h commit }
unfolding ends_by
asks-commit h closed_walk has = serve-end true h closed_walk ∙ some_ops h.ops h has

pub commit_meets : CommitMeets
unfolding doing wants first_request request_for ended step_to allowed is_spelled fits_first fits_task closes_with is_end is_commit_end is_ended hears heard_at heard_by ended_by end_told ending
commit_meets s acts later c h number closed_walk has = record { wanted = refl; asked = asks-commit h closed_walk has; answered = refl; allows = refl; client_is = refl }

pub conflict_meets : ConflictMeets
unfolding doing wants first_request request_for ended step_to allowed is_spelled fits_first fits_task closes_with is_end is_commit_end is_ended hears heard_at heard_by ended_by end_told ending
conflict_meets s acts later c h t number closed_walk has named = record {
  wanted = refl;
  asked = asks-commit h closed_walk has;
  answered = refl;
  allows = ap₂ (λ (a b : Bool). a && b) named (no_fault (not (t.0 == 0)));
  client_is = refl;
}

-- ---- installs

rebuild-checked : {a b : Bool} → a ≡ false → b ≡ false → reason_or false walk_open (reason_or a unknown_table (reason_or b unknown_column (reason_or false in_transaction None))) ≡ None
unfolding reason_or
rebuild-checked {a} {b} table there = ap (λ (z : Bool). reason_or z unknown_table (reason_or b unknown_column (reason_or false in_transaction None))) table ∙ ap (λ (z : Bool). reason_or z unknown_column (reason_or false in_transaction None)) there

asks-install : (t : TableNo) (column : ColNo) (d : Database) → HasColumnOf t column d → serve (request.Rebuild t column) (holds (held_on d)) ≡ record { served = wants_install t column; conn = awaits (held_on d) (install t column) }
unfolding serve served_unless effect refusal checks first_failing held_on is_fresh
asks-install t column d there = ap (λ (found : Option ℕ). served_unless found (request.Rebuild t column) (held_on d)) (rebuild-checked there.has_table there.has_column)

pub install_meets : InstallMeets
unfolding doing wants first_request request_for ended step_to allowed is_spelled fits_first fits_task rebuilds_with is_install_end is_ended hears heard_at heard_by ended_by end_told ending
install_meets s t column later c d number there = record { wanted = refl; asked = asks-install t column d there; answered = refl; allows = refl; client_is = refl }

pub stale_meets : StaleMeets
unfolding doing wants first_request request_for ended step_to allowed is_spelled fits_first fits_task rebuilds_with is_install_end is_ended hears heard_at heard_by ended_by end_told ending
stale_meets s t column later c d number there = record {
  wanted = refl;
  asked = asks-install t column d there;
  answered = refl;
  allows = ap₂ (λ (a b : Bool). a && b) (eq-eqb t.0 t.0 refl) (no_fault (not (t.0 == 0)));
  client_is = refl;
}
