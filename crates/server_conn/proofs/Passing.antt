-- A request to a transaction: it is refused, or has its effect; and what a request that isn't refused says of the transaction.
use Rattle.std.proofs.Common.{◌≡◌, ℕ, zero, suc, ◌<◌, ◌≤◌, Bool, true, false, not, List, [], ◌∷◌, length, Option, Some, None, refl, ap, sym, subst, ◌∙◌, arith, is_some}
use Rattle.walk_proto.specs.declared.messages.Request.{Request}
use Rattle.server_conn.specs.Connections.{Held, Walk, Step, holds}
use Rattle.server_conn.specs.Checks.{reason_or, first_failing, checks, refusal}
use Rattle.server_conn.specs.Inside.{refused_by, step_by}
use Rattle.server_conn.specs.Serving.{step_to, effect, table_in, refused, served_unless, serve}

refused-is : (code : ℕ) (r : Request) (h : Held) → step_by (refused_by code (table_in r)) h ≡ refused code r h
unfolding step_by refused_by refused
refused-is zero r h = refl
refused-is (suc code) r h = refl

pub serve-refused : (r : Request) (h : Held) (code : ℕ) → refusal r h ≡ Some code → step_by (refused_by code (table_in r)) h ≡ serve r (holds h)
unfolding serve served_unless
serve-refused r h code is = refused-is code r h ∙ sym (ap (λ (o : Option ℕ). served_unless o r h) is)

pub serve-effect : (r : Request) (h : Held) → refusal r h ≡ None → effect r h ≡ serve r (holds h)
unfolding serve served_unless
serve-effect r h is = sym (ap (λ (o : Option ℕ). served_unless o r h) is)

-- ---- checks that were passed

pub passed : (b : Bool) (reason : ℕ) (other : Option ℕ) → reason_or b reason other ≡ None → (b ≡ false) × (other ≡ None)
unfolding reason_or
passed true reason other e = cc
passed false reason other e = (refl, e)

pub failed : (b : Bool) (reason : ℕ) (other : Option ℕ) → b ≡ true → reason_or b reason other ≡ Some reason
unfolding reason_or
failed true reason other e = refl
failed false reason other e = cc

pub went_on : (b : Bool) (reason : ℕ) (other : Option ℕ) → b ≡ false → reason_or b reason other ≡ other
unfolding reason_or
went_on true reason other e = cc
went_on false reason other e = refl

pub closed-is : (walk : Option Walk) → is_some walk ≡ false → walk ≡ None
closed-is None e = refl
closed-is (Some w) e = cc

pub true-is : (b : Bool) → not b ≡ false → b ≡ true
true-is true e = refl
true-is false e = cc
