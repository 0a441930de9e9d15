-- The rules of a Query, one by one.
use Rattle.std.proofs.Common.{◌≡◌, ◌≤◌, ℕ, Bool, true, false, not, nat_lt, IsTrue, is_some, length, refl, arith}
use Rattle.std.proofs.lemmas.Bool.{and_parts}
use Rattle.std.proofs.lemmas.Bool.Decides.{nat_tests}
use Rattle.walk_proto.specs.Rules.{is_asked, are_ops, is_wrong_target, is_wrong_order, is_wrong_order_column, is_wrong_limited, is_wrong_query_width}
use Rattle.walk_proto.specs.Spelling.{flag}
use Rattle.walk_proto.specs.declared.messages.Asked.{Asked}

pub record AskedParts (a : Asked) : Type 0 where
  pub verb : nat_lt 4 a.verb ≡ false
  pub target : is_wrong_target a.verb a.target ≡ false
  pub order : is_wrong_order a.verb a.order ≡ false
  pub order_column : is_wrong_order_column a.order a.order_column ≡ false
  pub limited : is_wrong_limited a.verb (flag (is_some a.limit)) ≡ false
  pub width : is_wrong_query_width a.verb (length a.columns) ≡ false
  pub conds : nat_lt 8 (length a.conds) ≡ false
  pub ops : IsTrue (are_ops a.conds)

pub not_wrong : (b : Bool) → not b ≡ true → b ≡ false
not_wrong true h = cc
not_wrong false h = refl

pub asked_parts : (a : Asked) → IsTrue (is_asked a) → AskedParts a
unfolding is_asked
asked_parts a ok =
    let p7 = and_parts _ _ ok in
    let p6 = and_parts _ _ p7.0 in
    let p5 = and_parts _ _ p6.0 in
    let p4 = and_parts _ _ p5.0 in
    let p3 = and_parts _ _ p4.0 in
    let p2 = and_parts _ _ p3.0 in
    let p1 = and_parts _ _ p2.0 in
    record {
      verb = not_wrong _ p1.0;
      target = not_wrong _ p1.1;
      order = not_wrong _ p2.1;
      order_column = not_wrong _ p3.1;
      limited = not_wrong _ p4.1;
      width = not_wrong _ p5.1;
      conds = not_wrong _ p6.1;
      ops = p7.1;
    }

pub narrow : (verb width : ℕ) → is_wrong_query_width verb width ≡ false → width ≤ 8
narrow verb width h = grind (arith, nat_tests)

pub asked_fits : (a : Asked) → IsTrue (is_asked a) → (length a.columns ≤ 8) × (length a.conds ≤ 8)
asked_fits a ok =
    let parts = asked_parts a ok in
    let few : nat_lt 8 (length a.conds) ≡ false = parts.conds in
    (narrow a.verb (length a.columns) parts.width, grind (arith, nat_tests))
