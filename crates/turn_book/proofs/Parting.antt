-- Passes are split and joined: their numbers change hands, and the rule stays.
use Rattle.std.proofs.Common.{◌≡◌, ◌≢◌, ℕ, suc, ◌-◌, ◌<◌, ◌≤◌, List, ◌∷◌, length, set, Option, sym, refl, ap, ◌∙◌, subst, ⊎_elim, arith}
use mathlib.Core.Option.{some}
use lib.ListN.{get_elem?}
use Rattle.atomic_table.specs.Table.{State, Splits, Joins}
use Rattle.atomic_table.proofs.Lists.{set_else}
use Rattle.turn_book.specs.declared.view.View.{View}
use Rattle.turn_book.specs.declared.view.Stage.{Stage}
use Rattle.turn_book.specs.declared.view.Stage.TheVariants.{Idle}
use Rattle.turn_book.specs.Accounts.{items_of, Each}
use Rattle.turn_book.specs.Protocol.{Fate, borne, over, updated, IsLive, tickets_at, passes_at, tickets_of, passes_of, Stands, Knows, Kept, with_less_stock, split_off, joined, spent_view}
use Rattle.turn_book.proofs.Totals.{total_set, total_snoc, at_end}
use Rattle.turn_book.proofs.Histories.{each_map, each_append}
use Rattle.turn_book.proofs.Turning.{kind_of, seat_of, updated_here, updated_else, each_set}

clash : (m n : ℕ) → m ≡ n → m < n → ⊥
clash m n same less = omega arith

module _ {I : Type 0} (number : I → ℕ) where
  -- what became of the number m changes, which no pair has
  ended_else : (h : List I) (f : ℕ → Fate) (m : ℕ) (to : Fate) → ¬ (f m ≡ over) → (es : List (ℕ × List I)) → Each (λ e. (f e.0 ≡ over) × (items_of number e.0 h ≡ e.1)) es
      → Each (λ e. (updated f m to e.0 ≡ over) × (items_of number e.0 h ≡ e.1)) es
  ended_else h f m to apart es e = each_map _ _ (λ (p : ℕ × List I) k. (updated_else f m to p.0 (λ is. apart (ap f (sym is) ∙ k.0)) ∙ k.0, k.1)) es e

  -- the number m is over
  ended_over : (h : List I) (f : ℕ → Fate) (m : ℕ) → ¬ (f m ≡ over) → (es : List (ℕ × List I)) → Each (λ e. (f e.0 ≡ over) × (items_of number e.0 h ≡ e.1)) es
      → Each (λ e. (updated f m over e.0 ≡ over) × (items_of number e.0 h ≡ e.1)) es
  ended_over h f m apart es e = ended_else h f m over apart es e

module _ {I O : Type 0} (number : I → ℕ) (passes : ℕ) where
  -- the number m is none of the seat's, and what becomes of it doesn't touch the seat
  stands_else : (h : List I) (o : O) (f : ℕ → Fate) (m : ℕ) (to : Fate) (j : ℕ) (v : View I O) → ¬ (f m ≡ over) → ¬ (seat_of (f m) ≡ j) → Stands number passes h o f j v → Stands number passes h o (updated f m to) j v
  stands_else h o f m to j v lasts apart k = record {
    same_origin = k.same_origin;
    seen = k.seen;
    told = k.told;
    below = k.below;
    bears = updated_else f m to v.number (λ is. apart (ap seat_of (ap f (sym is) ∙ k.bears))) ∙ k.bears;
    mine = k.mine;
    ended = ended_else number h f m to lasts v.ended k.ended;
    stock_below = k.stock_below;
    stock = λ n from up. let s = k.stock n from up in (updated_else f m to n (λ is. apart (ap seat_of (ap f (sym is) ∙ s.0))) ∙ s.0, s.1);
  }

module _ {T I O : Type 0} (items : T → List I) (origin_of : T → O) (number : I → ℕ) (passes : ℕ) where
  abbrev D : Type 0
  D = View I O

  abbrev Rule : State (Option T) D → Type 0
  Rule = Kept items origin_of number passes

  pub splits : (id : ℕ) (v : D) → v.stage ≡ Idle → v.stock_from < v.stock_to → Splits Rule id v (with_less_stock v) (split_off v)
  splits id v idle left s r at = let w : D = with_less_stock v in let u : D = split_off v in let vs : List D = set s.views id w in let m : ℕ = v.stock_from in
      let stands = r.live id v at (subst IsLive (sym idle) tt) in
      let here = stands.stock m (omega arith) left in
      let lasts : ¬ (r.fate m ≡ over) = λ e. clash 0 2 (ap kind_of (sym here.0 ∙ e)) (omega arith) in
      let under : v.stock_to ≤ passes = stands.stock_below in
      let fate' : ℕ → Fate = updated r.fate m (borne (length vs)) in
      let a = total_set tickets_of s.views id v w at in let b = total_set passes_of s.views id v w at in let c = r.tickets in let d = r.few in
      let a' = total_snoc tickets_of vs u in let b' = total_snoc passes_of vs u in
      let parts : passes_of v ≡ suc (v.stock_to - v.stock_from) = ap (λ (st : Stage I). passes_at st (v.stock_to - v.stock_from)) idle in
      let parts' : passes_of w ≡ suc (v.stock_to - suc v.stock_from) = ap (λ (st : Stage I). passes_at st (v.stock_to - suc v.stock_from)) idle in record {
        history = r.history;
        origin = r.origin;
        served = r.served;
        drawn = r.drawn;
        who = r.who;
        fate = fate';
        value = r.value;
        words_are = r.words_are;
        home_is = r.home_is;
        tickets = omega arith;
        few = omega arith;
        at_home = r.at_home;
        beyond = r.beyond;
        live = λ j x e alive. ⊎_elim
            (λ (t : get_elem? vs j ≡ some x). each_set items origin_of number passes (λ i y. IsLive y.stage → Stands number passes r.history r.origin fate' i y) s.views id w
            (λ _. record {
              same_origin = stands.same_origin;
              seen = stands.seen;
              told = stands.told;
              below = stands.below;
              bears = updated_else r.fate m (borne (length vs)) v.number (λ is. clash 0 1 (sym (ap kind_of (sym stands.bears ∙ (ap r.fate is ∙ here.0)))) (omega arith)) ∙ stands.bears;
              mine = stands.mine;
              ended = ended_else number r.history r.fate m (borne (length vs)) lasts v.ended stands.ended;
              stock_below = stands.stock_below;
              stock = λ n from up. let q = stands.stock n (omega arith) up in (updated_else r.fate m (borne (length vs)) n (λ is. omega arith) ∙ q.0, q.1);
            })
            (λ i y other there. λ alive'. stands_else number passes r.history r.origin r.fate m (borne (length vs)) i y lasts (λ is. other (sym is ∙ ap seat_of here.0)) (r.live i y there alive'))
            j x t alive)
            (λ (t : (j ≡ length vs) × (u ≡ x)). subst (λ (z : ℕ × D). Stands number passes r.history r.origin fate' z.0 z.1) (λ i. (sym t.0 i, t.1 i)) record {
              same_origin = stands.same_origin;
              seen = stands.seen;
              told = (r.history, refl);
              below = omega arith;
              bears = updated_here r.fate m (borne (length vs));
              mine = here.1;
              ended = tt;
              stock_below = omega arith;
              stock = λ n from up. absurd (omega arith);
            })
            (at_end vs u x j e);
        knows = λ j x e. ⊎_elim
            (λ (t : get_elem? vs j ≡ some x). each_set items origin_of number passes (λ i y. Knows r.history r.served r.drawn r.who r.value i y.stage) s.views id w (r.knows id v at) (λ i y _ there. r.knows i y there) j x t)
            (λ (t : (j ≡ length vs) × (u ≡ x)). subst (λ (y : D). Knows r.history r.served r.drawn r.who r.value j y.stage) t.1 tt)
            (at_end vs u x j e);
      }

  pub joins : (id : ℕ) (v : D) (other : ℕ) (w : D) → v.stage ≡ Idle → w.stage ≡ Idle → Joins Rule id v other w (joined v w) spent_view
  joins id v other w idle idle' s r at apart there = let u : D = joined v w in let vs : List D = set s.views id u in
      let was : get_elem? s.views other ≡ some w = sym (set_else s.views id other u apart) ∙ there in
      let mine = r.live id v at (subst IsLive (sym idle) tt) in let his = r.live other w was (subst IsLive (sym idle') tt) in
      let m : ℕ = w.number in
      let lasts : ¬ (r.fate m ≡ over) = λ e. clash 1 2 (ap kind_of (sym his.bears ∙ e)) (omega arith) in
      let fate' : ℕ → Fate = updated r.fate m over in
      let a = total_set tickets_of s.views id v u at in let b = total_set passes_of s.views id v u at in let c = r.tickets in let d = r.few in
      let a' = total_set tickets_of vs other w spent_view there in let b' = total_set passes_of vs other w spent_view there in
      let none_out : tickets_of w ≡ 0 = ap tickets_at idle' in
      let stays : ¬ (seat_of (r.fate m) ≡ id) = λ is. apart (sym (ap seat_of his.bears) ∙ is) in
      let base = stands_else number passes r.history r.origin r.fate m over id v lasts stays mine in record {
        history = r.history;
        origin = r.origin;
        served = r.served;
        drawn = r.drawn;
        who = r.who;
        fate = fate';
        value = r.value;
        words_are = r.words_are;
        home_is = r.home_is;
        tickets = omega arith;
        few = omega arith;
        at_home = r.at_home;
        beyond = r.beyond;
        live = each_set items origin_of number passes (λ i y. IsLive y.stage → Stands number passes r.history r.origin fate' i y) vs other spent_view (λ bad. absurd bad)
            (λ j x away e. each_set items origin_of number passes (λ i y. i ≢ other → IsLive y.stage → Stands number passes r.history r.origin fate' i y) s.views id u
            (λ _ _. record {
              same_origin = base.same_origin;
              seen = base.seen;
              told = his.seen;
              below = base.below;
              bears = base.bears;
              mine = base.mine;
              ended = each_append _ v.ended ((w.number, w.mine) ∷ w.ended) base.ended ((updated_here r.fate m over, his.mine), ended_over number r.history r.fate m lasts w.ended his.ended);
              stock_below = base.stock_below;
              stock = base.stock;
            })
            (λ i y _ at' away' alive. stands_else number passes r.history r.origin r.fate m over i y lasts (λ is. away' (sym is ∙ ap seat_of his.bears)) (r.live i y at' alive))
            j x e away);
        knows = each_set items origin_of number passes (λ i y. Knows r.history r.served r.drawn r.who r.value i y.stage) vs other spent_view tt
            (λ j x _ e. each_set items origin_of number passes (λ i y. Knows r.history r.served r.drawn r.who r.value i y.stage) s.views id u (r.knows id v at) (λ i y _ at'. r.knows i y at') j x e);
      }
