-- Each step of the book keeps its rule.
use Rattle.std.proofs.Common.{◌≡◌, ◌≢◌, ℕ, suc, ◌+◌, ◌-◌, ◌%◌, ◌^◌, ◌<◌, ◌≤◌, Bool, List, [], ◌∷◌, ◌++◌, length, get_or, set, Option, Some, None, unwrap_or, sym, refl, ap, ◌∙◌, subst, inl, inr, ⊎_elim, arith, eq-eqb, ne_eqb}
use Rattle.std.proofs.Math.Nat.{mod-add-mod}
use mathlib.Core.Logic.{dite}
use mathlib.Core.Option.{some, none}
use mathlib.Core.List.{IsPrefix}
use native.Mathlib.Decide.{ℕ_discrete, dec_le}
use lib.ListN.{get_elem?}
use lib.Seq.{set-get_or}
use Rattle.atomic_table.specs.Table.{State, Me, step, keeps, takes, gives, stepped, put_back, Allows}
use Rattle.atomic_table.proofs.Lists.{at_set, one_turn}
use Rattle.turn_book.specs.declared.view.View.{View}
use Rattle.turn_book.specs.declared.view.Stage.{Stage}
use Rattle.turn_book.specs.declared.view.Stage.TheVariants.{Idle, Waits, Turn, Spent}
use Rattle.turn_book.specs.Accounts.{items_of, Each}
use Rattle.turn_book.specs.Protocol.{Fate, stocked, borne, over, chosen, updated, IsLive, tickets_at, passes_at, tickets_of, passes_of, Stands, Knows, shelf, AtHome, Kept, at_stage, having_seen, having_made, Draws, Looks, Sees, Counts, PassesOn, Compares}
use Rattle.turn_book.proofs.Totals.{total_set, total_le}
use Rattle.turn_book.proofs.Histories.{items_other, each_map, prefix_self, prefix_trans, prefix_shorter}

-- a number that tells the three fates apart
abbrev pub kind_of : Fate → ℕ
kind_of (stocked j) = 0
kind_of (borne j) = 1
kind_of over = 2

abbrev pub seat_of : Fate → ℕ
seat_of (stocked j) = j
seat_of (borne j) = j
seat_of over = 0

module _ {A : Type 0} (f : ℕ → A) where
  pub updated_here : (m : ℕ) (a : A) → updated f m a m ≡ a
  updated_here m a = ap (λ (b : Bool). chosen b a (f m)) (eq-eqb m m refl)

  pub updated_else : (m : ℕ) (a : A) (n : ℕ) → n ≢ m → updated f m a n ≡ f n
  updated_else m a n apart = ap (λ (b : Bool). chosen b a (f n)) (ne_eqb n m apart)

module _ {I : Type 0} where
  abbrev ticket_in : Stage I → ℕ
  ticket_in (Waits t) = t
  ticket_in (Turn t now) = t
  ticket_in st = 0

  abbrev now_in : Stage I → List I
  now_in (Turn t now) = now
  now_in st = []

  fewer_tickets : (n : ℕ) (st : Stage I) → tickets_at st ≤ passes_at st n
  fewer_tickets n Idle = omega arith
  fewer_tickets n (Waits t) = omega arith
  fewer_tickets n (Turn t now) = omega arith
  fewer_tickets n Spent = omega arith

module _ {T I : Type 0} where
  -- more tickets were drawn
  knows_later : (h : List I) (served drawn drawn' : ℕ) (who who' : ℕ → ℕ) (value : Option T) (j : ℕ) → drawn ≤ drawn' → ((k : ℕ) → k < drawn → who' k ≡ who k)
      → (st : Stage I) → Knows h served drawn who value j st → Knows h served drawn' who' value j st
  knows_later h served drawn drawn' who who' value j more same Idle k = tt
  knows_later h served drawn drawn' who who' value j more same (Waits t) k = let below : k.0 < drawn = k.3 in (k.0, k.1, k.2, omega arith, same k.0 below ∙ k.4, k.5)
  knows_later h served drawn drawn' who who' value j more same (Turn t now) k = let below : served < drawn = k.1 in (same served below ∙ k.0, omega arith, k.2, k.3)
  knows_later h served drawn drawn' who who' value j more same Spent k = tt

  -- the pass whose ticket is served did something to the value or the history
  knows_beside : (h h' : List I) (served drawn : ℕ) (who : ℕ → ℕ) (value value' : Option T) (j : ℕ) → ¬ (j ≡ who served)
      → (st : Stage I) → Knows h served drawn who value j st → Knows h' served drawn who value' j st
  knows_beside h h' served drawn who value value' j other Idle k = tt
  knows_beside h h' served drawn who value value' j other (Waits t) k = (k.0, k.1, k.2, k.3, k.4, λ is. absurd (other (sym k.4 ∙ ap who is)))
  knows_beside h h' served drawn who value value' j other (Turn t now) k = absurd (other (sym k.0))
  knows_beside h h' served drawn who value value' j other Spent k = tt

  -- the next ticket is served
  knows_next : (h : List I) (served drawn : ℕ) (who : ℕ → ℕ) (value : Option T) (y : T) (j : ℕ) → ¬ (j ≡ who served)
      → (st : Stage I) → Knows h served drawn who value j st → Knows h (served + 1) drawn who (Some y) j st
  knows_next h served drawn who value y j other Idle k = tt
  knows_next h served drawn who value y j other (Waits t) k = let ne : ¬ (k.0 ≡ served) = λ is. other (sym k.4 ∙ ap who is) in let le : served ≤ k.0 = k.2 in
      (k.0, k.1, omega (arith, ne), k.3, k.4, λ _. (y, refl))
  knows_next h served drawn who value y j other (Turn t now) k = absurd (other (sym k.0))
  knows_next h served drawn who value y j other Spent k = tt

module _ {I : Type 0} (number : I → ℕ) where
  ended_grown : (h : List I) (f : ℕ → Fate) (x : I) → ¬ (f (number x) ≡ over) → (es : List (ℕ × List I)) → Each (λ e. (f e.0 ≡ over) × (items_of number e.0 h ≡ e.1)) es
      → Each (λ e. (f e.0 ≡ over) × (items_of number e.0 (h ++ x ∷ []) ≡ e.1)) es
  ended_grown h f x apart es e = each_map _ _ (λ (p : ℕ × List I) k. (k.0, items_other number p.0 h x (λ is. apart (ap f is ∙ k.0)) ∙ k.1)) es e

module _ {I O : Type 0} (number : I → ℕ) (passes : ℕ) where
  restaged : (h : List I) (o : O) (f : ℕ → Fate) (j : ℕ) (v : View I O) (st : Stage I) → Stands number passes h o f j v → Stands number passes h o f j (at_stage v st)
  restaged h o f j v st k = record { same_origin = k.same_origin; seen = k.seen; told = k.told; below = k.below; bears = k.bears; mine = k.mine; ended = k.ended; stock_below = k.stock_below; stock = k.stock }

  reseen : (h : List I) (o : O) (f : ℕ → Fate) (j : ℕ) (v : View I O) (l : List I) → IsPrefix l h → Stands number passes h o f j v → Stands number passes h o f j (having_seen v l)
  reseen h o f j v l p k = record { same_origin = k.same_origin; seen = p; told = k.told; below = k.below; bears = k.bears; mine = k.mine; ended = k.ended; stock_below = k.stock_below; stock = k.stock }

  stands_grown : (h : List I) (o : O) (f : ℕ → Fate) (j : ℕ) (v : View I O) (x : I) (i : ℕ) → f (number x) ≡ borne i → ¬ (j ≡ i) → Stands number passes h o f j v → Stands number passes (h ++ x ∷ []) o f j v
  stands_grown h o f j v x i is apart k = record {
    same_origin = k.same_origin;
    seen = prefix_trans v.seen h (h ++ x ∷ []) k.seen (x ∷ [], refl);
    told = prefix_trans v.told h (h ++ x ∷ []) k.told (x ∷ [], refl);
    below = k.below;
    bears = k.bears;
    mine = items_other number v.number h x (λ same. apart (ap seat_of (sym k.bears ∙ (ap f (sym same) ∙ is)))) ∙ k.mine;
    ended = ended_grown number h f x (λ e. let bad : 1 ≡ 2 = ap kind_of (sym is ∙ e) in omega arith) v.ended k.ended;
    stock_below = k.stock_below;
    stock = λ n from to. let s = k.stock n from to in (s.0, items_other number n h x (λ same. let bad : 1 ≡ 0 = ap kind_of (sym is ∙ (ap f same ∙ s.0)) in omega arith) ∙ s.1);
  }

module _ {T I O : Type 0} (items : T → List I) (origin_of : T → O) (number : I → ℕ) (passes : ℕ) where
  abbrev D : Type 0
  D = View I O

  abbrev St : Type 0
  St = State (Option T) D

  abbrev M : Type 0
  M = Me (Option T) D

  abbrev Rule : St → Type 0
  Rule = Kept items origin_of number passes

  pub each_set : (Q : ℕ → D → Type 0) (vs : List D) (me : ℕ) (w : D) → Q me w → ((j : ℕ) (d : D) → j ≢ me → get_elem? vs j ≡ some d → Q j d)
      → (j : ℕ) (d : D) → get_elem? (set vs me w) j ≡ some d → Q j d
  each_set Q vs me w mine others j d e = ⊎_elim (λ (t : (j ≡ me) × (w ≡ d)). subst (λ (x : ℕ × D). Q x.0 x.1) (λ i. (sym t.0 i, t.1 i)) mine)
      (λ (t : (j ≢ me) × (get_elem? vs j ≡ some d)). others j d t.0 t.1) (at_set vs me j w d e)

  -- a step that changes no word, and the view of one seat
  unmoved : (s : St) (r : Rule s) (i id : ℕ) (cs : List (ℕ × Option T)) (v w : D) → get_elem? s.views id ≡ some v → tickets_of w ≡ tickets_of v → passes_of w ≡ passes_of v
      → (IsLive w.stage → Stands number passes r.history r.origin r.fate id w) → Knows r.history r.served r.drawn r.who r.value id w.stage
      → Rule (stepped s i (get_or s.words i 0) id cs w keeps)
  unmoved s r i id cs v w at same same' stands knows = subst (λ (ws : List ℕ). Rule record { words = ws; homes = s.homes; views = set s.views id w }) (sym (set-get_or s.words i 0))
      (let a = total_set tickets_of s.views id v w at in let b = total_set passes_of s.views id v w at in let c = r.tickets in let d = r.few in record {
        history = r.history;
        origin = r.origin;
        served = r.served;
        drawn = r.drawn;
        who = r.who;
        fate = r.fate;
        value = r.value;
        words_are = r.words_are;
        home_is = r.home_is;
        tickets = omega arith;
        few = omega arith;
        at_home = r.at_home;
        beyond = r.beyond;
        live = each_set (λ j d. IsLive d.stage → Stands number passes r.history r.origin r.fate j d) s.views id w stands (λ j d _. r.live j d);
        knows = each_set (λ j d. Knows r.history r.served r.drawn r.who r.value j d.stage) s.views id w knows (λ j d _. r.knows j d);
      })

  home_of : (h : List I) (o : O) (served drawn : ℕ) (value : Option T) → AtHome items origin_of h o served drawn value → drawn ≡ served → (y : T) × (value ≡ Some y)
  home_of h o served drawn (Some y) k e = (y, refl)
  home_of h o served drawn None k e = let less : served < drawn = k in absurd (omega arith)

  home_later : (h : List I) (o : O) (served drawn drawn' : ℕ) (value : Option T) → drawn ≤ drawn' → AtHome items origin_of h o served drawn value → AtHome items origin_of h o served drawn' value
  home_later h o served drawn drawn' (Some y) le k = k
  home_later h o served drawn drawn' None le k = let less : served < drawn = k in omega arith

  pub draws : (slots id : ℕ) (me : M) → me.0.stage ≡ Idle → Allows Rule slots id me 1 (λ n. (n + 1) % 2 ^ 64) (Draws (step slots 1 1 0 none) me)
  draws slots id me idle s r _ at _ = let v : D = me.0 in let x : ℕ = get_or s.words 1 0 in let w : D = at_stage v (Waits x) in
      let who' : ℕ → ℕ = updated r.who r.drawn id in
      let a = total_set tickets_of s.views id v w at in let b = total_set passes_of s.views id v w at in let c = r.tickets in let d = r.few in
      let was : tickets_of v ≡ 0 = ap tickets_at idle in let parts : passes_of v ≡ suc (v.stock_to - v.stock_from) = ap (λ (st : Stage I). passes_at st (v.stock_to - v.stock_from)) idle in (
        w,
        keeps,
        tt,
        record {
          history = r.history;
          origin = r.origin;
          served = r.served;
          drawn = r.drawn + 1;
          who = who';
          fate = r.fate;
          value = r.value;
          words_are = ap (λ (ws : List ℕ). set ws 1 ((get_or ws 1 0 + 1) % 18446744073709551616)) r.words_are
              ∙ ap (λ (n : ℕ). length r.history ∷ n ∷ r.served % 18446744073709551616 ∷ []) (mod-add-mod r.drawn 18446744073709551616 1);
          home_is = r.home_is;
          tickets = omega arith;
          few = omega arith;
          at_home = home_later r.history r.origin r.served r.drawn (r.drawn + 1) r.value (omega arith) r.at_home;
          beyond = r.beyond;
          live = each_set (λ j d. IsLive d.stage → Stands number passes r.history r.origin r.fate j d) s.views id w
              (λ _. restaged number passes r.history r.origin r.fate id v (Waits x) (r.live id v at (subst IsLive (sym idle) tt))) (λ j d _. r.live j d);
          knows = each_set (λ j d. Knows r.history r.served (r.drawn + 1) who' r.value j d.stage) s.views id w
              (r.drawn, sym (ap (λ (ws : List ℕ). get_or ws 1 0) r.words_are), omega arith, omega arith, updated_here r.who r.drawn id, home_of r.history r.origin r.served r.drawn r.value r.at_home)
              (λ j d _ e. knows_later r.history r.served r.drawn (r.drawn + 1) r.who who' r.value j (omega arith) (λ k less. updated_else r.who r.drawn id k (λ is. omega arith)) d.stage (r.knows j d e));
        },
        refl,
      )

  few_tickets : (s : St) (r : Rule s) → r.drawn < r.served + 18446744073709551616
  few_tickets s r = let a = total_le tickets_of passes_of (λ (v : D). fewer_tickets (v.stock_to - v.stock_from) v.stage) s.views in let b = r.tickets in let c = r.few in omega arith

  pub looks : (slots id t : ℕ) (me : M) → me.0.stage ≡ Waits t → Allows Rule slots id me 2 (λ n. n) (Looks items origin_of number (step slots 2 0 0 none) me)
  looks slots id t me waits s r _ at _ = let v : D = me.0 in dite (ℕ_discrete (get_or s.words 2 0) t)
      (λ hit. let known = subst (Knows r.history r.served r.drawn r.who r.value id) waits (r.knows id v at) in
      let stands = r.live id v at (subst IsLive (sym waits) tt) in
      let below : known.0 < r.drawn = known.3 in let few = few_tickets s r in
      let is : r.served ≡ known.0 = one_turn r.served known.0 18446744073709551616 known.2 (omega arith) (sym (ap (λ (ws : List ℕ). get_or ws 2 0) r.words_are) ∙ (hit ∙ sym known.1)) in
      let home = known.5 (sym is) in let y : T = home.0 in let w : D = at_stage v (Turn t (items y)) in
      let kept = subst (AtHome items origin_of r.history r.origin r.served r.drawn) home.1 r.at_home in
      let mine : r.who r.served ≡ id = ap r.who is ∙ known.4 in let less : r.served < r.drawn = omega arith in
      let a = total_set tickets_of s.views id v w at in let b = total_set passes_of s.views id v w at in let c = r.tickets in let d = r.few in
      let was : tickets_of v ≡ 1 = ap tickets_at waits in let parts : passes_of v ≡ suc (v.stock_to - v.stock_from) = ap (λ (st : Stage I). passes_at st (v.stock_to - v.stock_from)) waits in (
        w,
        takes 0 (Some y),
        ap (λ hs. get_elem? hs 0) r.home_is ∙ ap (λ (z : Option T). some (shelf z)) home.1,
        subst (λ (ws : List ℕ). Rule record { words = ws; homes = set s.homes 0 none; views = set s.views id w }) (sym (set-get_or s.words 2 0)) record {
          history = r.history;
          origin = r.origin;
          served = r.served;
          drawn = r.drawn;
          who = r.who;
          fate = r.fate;
          value = None;
          words_are = r.words_are;
          home_is = ap (λ hs. set hs 0 none) r.home_is;
          tickets = omega arith;
          few = omega arith;
          at_home = less;
          beyond = r.beyond;
          live = each_set (λ j d. IsLive d.stage → Stands number passes r.history r.origin r.fate j d) s.views id w
              (λ _. restaged number passes r.history r.origin r.fate id v (Turn t (items y)) stands) (λ j d _. r.live j d);
          knows = each_set (λ j d. Knows r.history r.served r.drawn r.who None j d.stage) s.views id w (mine, less, kept.0, refl)
              (λ j d other e. knows_beside r.history r.history r.served r.drawn r.who r.value None j (λ same. other (same ∙ mine)) d.stage (r.knows j d e));
        },
        (λ t' waits'. let same : t ≡ t' = ap ticket_in (sym waits ∙ waits') in (
          (λ _. (
            y,
            ap (λ (z : ℕ). (at_stage v (Turn z (items y)), (0, Some y) ∷ me.1)) same,
            stands.same_origin ∙ ap Some (sym kept.1),
            subst (IsPrefix v.seen) (sym kept.0) stands.seen,
            subst (λ (l : List I). items_of number v.number l ≡ v.mine) (sym kept.0) stands.mine,
          )),
          λ miss. absurd (miss (hit ∙ same)),
        )),
      ))
      (λ miss. (
        v,
        keeps,
        tt,
        unmoved s r 2 id me.1 v v at refl refl (r.live id v at) (r.knows id v at),
        (λ t' waits'. let same : t ≡ t' = ap ticket_in (sym waits ∙ waits') in ((λ hit. absurd (miss (hit ∙ sym same))), λ _. refl)),
      ))

  pub sees : (slots id t : ℕ) (now : List I) (me : M) → me.0.stage ≡ Turn t now → Allows Rule slots id me 0 (λ n. n) (Sees number (step slots 0 0 0 none) me)
  sees slots id t now me turn s r _ at _ = let v : D = me.0 in let w : D = having_seen v now in let known = subst (Knows r.history r.served r.drawn r.who r.value id) turn (r.knows id v at) in
      let stands = r.live id v at (subst IsLive (sym turn) tt) in (
        w,
        keeps,
        tt,
        unmoved s r 0 id me.1 v w at refl refl (λ _. reseen number passes r.history r.origin r.fate id v now (subst (λ (l : List I). IsPrefix l r.history) (sym known.2) (prefix_self r.history)) stands) (r.knows id v at),
        (λ t' now' turn'. let e : now ≡ now' = ap now_in (sym turn ∙ turn') in let all : r.history ≡ now' = sym known.2 ∙ e in
            (ap (λ (l : List I). (having_seen v l, me.1)) e, ap (λ (ws : List ℕ). get_or ws 0 0) r.words_are ∙ ap length all, subst (λ (l : List I). items_of number v.number l ≡ v.mine) all stands.mine)),
      )

  pub counts : (slots id t : ℕ) (me : M) (next : List I) (n : ℕ) → me.0.stage ≡ Turn t me.0.seen → (x : I) → next ≡ me.0.seen ++ x ∷ [] → number x ≡ me.0.number → n ≡ length next
      → Allows Rule slots id me 0 (λ _. n) (λ _. Counts number next (step slots 0 n 0 none) me n)
  counts slots id t me next n turn x grows own long s r _ at _ = let v : D = me.0 in let h : List I = r.history ++ x ∷ [] in let w : D = having_made number v t h in
      let known = subst (Knows r.history r.served r.drawn r.who r.value id) turn (r.knows id v at) in
      let stands = r.live id v at (subst IsLive (sym turn) tt) in
      let is : next ≡ h = grows ∙ ap (λ (l : List I). l ++ x ∷ []) known.2 in
      let bears : r.fate (number x) ≡ borne id = ap r.fate own ∙ stands.bears in
      let under : number x < passes = subst (λ (k : ℕ). k < passes) (sym own) stands.below in
      let a = total_set tickets_of s.views id v w at in let b = total_set passes_of s.views id v w at in let c = r.tickets in let d = r.few in
      let was : tickets_of v ≡ 1 = ap tickets_at turn in let parts : passes_of v ≡ suc (v.stock_to - v.stock_from) = ap (λ (st : Stage I). passes_at st (v.stock_to - v.stock_from)) turn in (
        w,
        keeps,
        tt,
        record {
          history = h;
          origin = r.origin;
          served = r.served;
          drawn = r.drawn;
          who = r.who;
          fate = r.fate;
          value = r.value;
          words_are = ap (λ (ws : List ℕ). set ws 0 n) r.words_are ∙ ap (λ (k : ℕ). k ∷ r.drawn % 18446744073709551616 ∷ r.served % 18446744073709551616 ∷ []) (long ∙ ap length is);
          home_is = r.home_is;
          tickets = omega arith;
          few = omega arith;
          at_home = subst (AtHome items origin_of h r.origin r.served r.drawn) (sym known.3) known.1;
          beyond = λ m far. items_other number m r.history x (λ same. omega arith) ∙ r.beyond m far;
          live = each_set (λ j d. IsLive d.stage → Stands number passes h r.origin r.fate j d) s.views id w
              (λ _. record {
                same_origin = stands.same_origin;
                seen = prefix_self h;
                told = prefix_trans v.told r.history h stands.told (x ∷ [], refl);
                below = stands.below;
                bears = stands.bears;
                mine = refl;
                ended = ended_grown number r.history r.fate x (λ e. let bad : 1 ≡ 2 = ap kind_of (sym bears ∙ e) in omega arith) v.ended stands.ended;
                stock_below = stands.stock_below;
                stock = λ k from to. let q = stands.stock k from to in (q.0, items_other number k r.history x (λ same. let bad : 1 ≡ 0 = ap kind_of (sym bears ∙ (ap r.fate same ∙ q.0)) in omega arith) ∙ q.1);
              })
              (λ j d other e alive. stands_grown number passes r.history r.origin r.fate j d x id bears other (r.live j d e alive));
          knows = each_set (λ j d. Knows h r.served r.drawn r.who r.value j d.stage) s.views id w (known.0, known.1, refl, known.3)
              (λ j d other e. knows_beside r.history h r.served r.drawn r.who r.value r.value j (λ same. other (same ∙ known.0)) d.stage (r.knows j d e));
        },
        (λ t' now' turn'. let same : t ≡ t' = ap ticket_in (sym turn ∙ turn') in
            ap (λ (z : ℕ × List I). (having_made number v z.0 z.1, me.1)) (λ i. (same i, sym is i))),
      )

  pub passes_on : (slots id t : ℕ) (me : M) (y : T) → me.0.stage ≡ Turn t (items y) → me.0.origin ≡ Some (origin_of y) → me.1 ≡ (0, Some y) ∷ []
      → Allows Rule slots id me 2 (λ n. (n + 1) % 2 ^ 64) (PassesOn (step slots 2 1 0 none) me)
  passes_on slots id t me y turn from out s r _ at _ = let v : D = me.0 in let w : D = at_stage v Idle in
      let known = subst (Knows r.history r.served r.drawn r.who r.value id) turn (r.knows id v at) in
      let stands = r.live id v at (subst IsLive (sym turn) tt) in let less : r.served < r.drawn = known.1 in
      let a = total_set tickets_of s.views id v w at in let b = total_set passes_of s.views id v w at in let c = r.tickets in let d = r.few in
      let was : tickets_of v ≡ 1 = ap tickets_at turn in let parts : passes_of v ≡ suc (v.stock_to - v.stock_from) = ap (λ (st : Stage I). passes_at st (v.stock_to - v.stock_from)) turn in (
        w,
        gives,
        tt,
        record {
          history = r.history;
          origin = r.origin;
          served = r.served + 1;
          drawn = r.drawn;
          who = r.who;
          fate = r.fate;
          value = Some y;
          words_are = ap (λ (ws : List ℕ). set ws 2 ((get_or ws 2 0 + 1) % 18446744073709551616)) r.words_are
              ∙ ap (λ (n : ℕ). length r.history ∷ r.drawn % 18446744073709551616 ∷ n ∷ []) (mod-add-mod r.served 18446744073709551616 1);
          home_is = ap (put_back s.homes) out ∙ ap (λ hs. set hs 0 (some (Some y))) r.home_is;
          tickets = omega arith;
          few = omega arith;
          at_home = (known.2, ap (λ (z : Option O). unwrap_or z r.origin) (sym from ∙ stands.same_origin));
          beyond = r.beyond;
          live = each_set (λ j d. IsLive d.stage → Stands number passes r.history r.origin r.fate j d) s.views id w
              (λ _. restaged number passes r.history r.origin r.fate id v Idle stands) (λ j d _. r.live j d);
          knows = each_set (λ j d. Knows r.history (r.served + 1) r.drawn r.who (Some y) j d.stage) s.views id w tt
              (λ j d other e. knows_next r.history r.served r.drawn r.who r.value y j (λ same. other (same ∙ known.0)) d.stage (r.knows j d e));
        },
        (λ t' now' turn'. refl),
      )

  pub compares : (slots id : ℕ) (me : M) → me.0.stage ≡ Idle → Allows Rule slots id me 0 (λ n. n) (Compares (step slots 0 0 0 none) me)
  compares slots id me idle s r _ at _ = let v : D = me.0 in let stands = r.live id v at (subst IsLive (sym idle) tt) in dite (dec_le (length v.seen) (length v.told))
      (λ shorter. (
        having_seen v v.told,
        keeps,
        tt,
        unmoved s r 0 id me.1 v (having_seen v v.told) at refl refl (λ _. reseen number passes r.history r.origin r.fate id v v.told stands.told stands) (r.knows id v at),
        (λ _. (v.told, refl, (prefix_shorter v.seen v.told r.history stands.seen stands.told shorter, prefix_self v.told, inr refl))),
      ))
      (λ longer. (
        v,
        keeps,
        tt,
        unmoved s r 0 id me.1 v v at refl refl (r.live id v at) (r.knows id v at),
        (λ _. (v.seen, refl, (prefix_self v.seen, prefix_shorter v.told v.seen r.history stands.told stands.seen (omega (arith, longer)), inl refl))),
      ))
