-- The order of the history, by three numbers.
use Rattle.std.proofs.Common.{◌≡◌, ℕ, Bool, true, false, not, ◌&&◌, ◌||◌, eqb, ltb, leb, nat_cmp, is_lt, arith}
use Rattle.std.proofs.lemmas.Bool.Decides.{nat_tests}
use Rattle.std.specs.Ordering.{ordering_then}
use Rattle.workload.specs.declared.script.DoneTxn.{DoneTxn}
use Rattle.workload.specs.History.{rank_of, comes_before}
use Rattle.workload.proofs.StableSort.{IsOrder}

-- the order by three numbers
abbrev in_turn : (r s p q t o : ℕ) → Bool
in_turn r s p q t o = ltb r q || (eqb r q && (ltb s t || (eqb s t && leb p o)))

in_turn-total : (r s p q t o : ℕ) → in_turn r s p q t o ≡ false → in_turn q t o r s p ≡ true
in_turn-total r s p q t o h = grind (arith, nat_tests)

in_turn-chain : (r s p q t o x y z : ℕ) → in_turn r s p q t o ≡ true → in_turn q t o x y z ≡ true → in_turn r s p x y z ≡ true
in_turn-chain r s p q t o x y z h k = grind (arith, nat_tests)

in_turn-compared : (r s p q t o : ℕ) → is_lt (ordering_then (ordering_then (nat_cmp r q) (nat_cmp s t)) (nat_cmp p o)) ≡ not (in_turn q t o r s p)
in_turn-compared r s p q t o = grind (arith, nat_tests)

pub history-order : IsOrder comes_before
unfolding comes_before
history-order = record {
  total = λ x y h. in_turn-total (rank_of x) x.session.0 x.place (rank_of y) y.session.0 y.place h;
  chain = λ x y z h k. in_turn-chain (rank_of x) x.session.0 x.place (rank_of y) y.session.0 y.place (rank_of z) z.session.0 z.place h k;
}

pub history-compared : (a b : DoneTxn)
    → is_lt (ordering_then (ordering_then (nat_cmp (rank_of a) (rank_of b)) (nat_cmp a.session.0 b.session.0)) (nat_cmp a.place b.place))
    ≡ not (comes_before b a)
unfolding comes_before
history-compared a b = in_turn-compared (rank_of a) a.session.0 a.place (rank_of b) b.session.0 b.place
