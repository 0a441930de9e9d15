-- What statements send are the seals of cells of their session in order; and where these are of a kind, so is all that is said.
use Rattle.std.proofs.Common.{◌≡◌, ℕ, suc, ◌+◌, ◌<◌, ◌≤◌, Bool, true, false, List, [], ◌∷◌, ◌++◌, map, length, refl, ap, ap₂, ◌∙◌, sym, subst, arith, append-nil, length-append}
use Rattle.std.specs.List.{sum_by}
use Rattle.std.proofs.lemmas.List.{map-append}
use Rattle.std.proofs.lemmas.List.Sums.{sum_by-cons}
use Rattle.mope_base.specs.Lists.{Each}
use Rattle.mope_base.specs.declared.body.Body.{Body}
use Rattle.mope_base.specs.declared.numbers.TableNo.{TableNo}
use Rattle.mope_base.specs.declared.numbers.ColNo.{ColNo}
use Rattle.mope_base.specs.declared.numbers.SessionNo.{SessionNo}
use Rattle.tree_model.specs.declared.Side.TheVariants.{Left, Right}
use Rattle.tree_model.specs.Trees.{Tree, leaf, node}
use Rattle.tree_model.specs.Items.{Item}
use Rattle.table_model.specs.Stores.{Store}
use Rattle.table_model.specs.Soundness.{column_at, AllWide}
use Rattle.table_model.specs.Operations.{ValueOp, ops_on}
use Rattle.value_cipher.specs.Cipher.{Cell, value_of, sealed, nonce_at}
use Rattle.versions.specs.Databases.{Database}
use Rattle.walk_proto.specs.declared.messages.Exchange.{Exchange}
use Rattle.walk_proto.specs.declared.messages.Request.{Request}
use Rattle.walk_proto.specs.declared.messages.Request.TheVariants as request
use Rattle.workload.specs.declared.script.Act.{Act}
use Rattle.workload.specs.declared.script.Act.TheVariants as act
use Rattle.workload.specs.declared.script.Workload.{Workload}
use Rattle.workload.specs.Transaction.{Work, Trial, going, stopped, table_named, after_act}
use Rattle.workload.specs.Validity.{IsValidAct, inserted_numbers}
use Rattle.proxy.specs.Client.{Client, Setting, cells_from}
use Rattle.proxy.specs.Tasks.{constants_of}
use Rattle.transaction_laws.specs.Constants.{store_at, walks_log}
use Rattle.transaction_laws.specs.Queries.{query_request}
use Rattle.transaction_laws.specs.Transactions.{Tried, ops_of, tried_by, act_tried, unless_stopped, acts_tried, request_of, reply_of, act_log, acts_log, held_in}
use Rattle.transaction_laws.specs.Walks.{exchanged, onward_by, walk_log}
use Rattle.transaction_laws.proofs.Shown.{shown-sound}
use Rattle.transaction_laws.proofs.Querying.{declared-tables, declared-columns}
use Rattle.transaction_laws.proofs.Stepping.{Runs, Setup, at_work}
use Rattle.run_laws.specs.Worlds.{RunSetting, session_setting}
use Rattle.run_laws.specs.CellLaws.{request_bodies, reply_bodies, log_bodies, sent_bodies, act_numbers, acts_numbers, IsNumberOf}
use Rattle.run_laws.proofs.KnownCells.{KnownStores, KnownOps, sent-append, ops-known, ops-more, insert-known, about-known, said-known, log-more, walks-known, reply-known, cells-known}
use Rattle.run_laws.proofs.Written.{act-runs}
use Rattle.plain_db.proofs.EachLemmas.{each-append}

-- ---- what is sent

sent-onward : (here below : Bool) (left right : List Exchange) → sent_bodies left ≡ [] → sent_bodies right ≡ [] → sent_bodies (onward_by here below left right) ≡ []
unfolding onward_by sent_bodies request_bodies exchanged
sent-onward true below left right one two = refl
sent-onward false true left right one two = one
sent-onward false false left right one two = two

sent-walk : (key : List ℕ) (x : ℕ) (r : Request) → request_bodies r ≡ [] → (tree : Tree (Item Cell)) → sent_bodies (walk_log key x r tree) ≡ []
unfolding walk_log sent_bodies request_bodies exchanged
sent-walk key x r none leaf = ap (λ (l : List Body). l ++ []) none
sent-walk key x r none (node left item right) =
    ap₂ (λ (l m : List Body). l ++ m) none (sent-onward _ _ _ _ (sent-walk key x (request.Go Left) refl left) (sent-walk key x (request.Go Right) refl right))

sent-walks : (key : List ℕ) (t : TableNo) (constants : List (ColNo × ℕ)) (store : Store Cell) → sent_bodies (walks_log key t constants store) ≡ []
unfolding walks_log sent_bodies request_bodies
sent-walks key t [] store = refl
sent-walks key t (constant ∷ constants) store =
    sent-append (walk_log key constant.1 (request.WalkStart t constant.0) (column_at store.columns constant.0.0).tree) (walks_log key t constants store)
    ∙ ap₂ (λ (l m : List Body). l ++ m) (sent-walk key constant.1 (request.WalkStart t constant.0) refl (column_at store.columns constant.0.0).tree) (sent-walks key t constants store)

pub cells-more : (st : Setting) (count : ℕ) (xs ys : List ℕ) → cells_from st count (xs ++ ys) ≡ cells_from st count xs ++ cells_from st (count + length xs) ys
unfolding cells_from
cells-more st count [] ys = ap (λ (k : ℕ). cells_from st k ys) (omega arith)
cells-more st count (x ∷ xs) ys =
    ap (λ (l : List Cell). record { nonce = nonce_at st.first st.session.0 count; value = x } ∷ l)
    (cells-more st (suc count) xs ys ∙ ap (λ (k : ℕ). cells_from st (suc count) xs ++ cells_from st k ys) (omega arith))

numbers-counted : (a : Act) → inserted_numbers a ≡ length (act_numbers a)
unfolding inserted_numbers act_numbers
numbers-counted (act.Insert t values) = refl
numbers-counted (act.Ask ask) = refl

pub each-front : {A : Type 0} (P : A → Type 0) (xs ys : List A) → Each P (xs ++ ys) → Each P xs × Each P ys
unfolding Each
each-front P [] ys h = (tt, h)
each-front P (x ∷ xs) ys h = let rest = each-front P xs ys h.1 in ((h.0, rest.0), rest.1)

-- ---- one statement

module _ (s : RunSetting) (w : Workload) (n : SessionNo) (Q : Body → Type 0) where
  abbrev st : Setting
  st = session_setting s n

  -- what statements seal, and what they leave
  pub record ActsSeal (count : ℕ) (last : Tried) (log : List Exchange) (most : ℕ) : Type 0 where
    pub stores : KnownStores s.key Q last.stores
    pub ops : KnownOps s.key Q last.ops
    pub known : Each Q (log_bodies log)
    pub values : List ℕ
    pub numbers : Each (IsNumberOf w n) values
    pub few : length values ≤ most
    pub seals : last.seals ≡ count + length values
    pub sent : sent_bodies log ≡ map (sealed s.key) (cells_from st count values)

  ops-of-known : (a : Act) (tried : Tried) → Each Q (request_bodies (request_of st a tried)) → KnownOps s.key Q (ops_of st a tried)
  unfolding ops_of request_of request_bodies session_setting
  ops-of-known (act.Insert t xs) tried asked = insert-known s.key Q t.0 (cells_from st tried.seals xs) (cells-known s.key Q (cells_from st tried.seals xs) asked)
  ops-of-known (act.Ask ask) tried asked = about-known s.key Q ask.verb ask.table _

  asked-is : (a : Act) (tried : Tried) → request_bodies (request_of st a tried) ≡ map (sealed s.key) (cells_from st tried.seals (act_numbers a))
  unfolding request_of request_bodies act_numbers session_setting query_request cells_from
  asked-is (act.Insert t xs) tried = refl
  asked-is (act.Ask ask) tried = refl

  module _ (d : Database) (base : List (Store Cell)) (setup : Setup st w.tables d) where
    answered-known : (a : Act) (trial : Trial) (work : Work) (stores : List (Store Cell)) (ops : List (ValueOp Cell)) (seals : ℕ) → Runs st w.tables d base (at_work work stores ops seals) → IsValidAct w.tables a → KnownStores s.key Q stores
        → Each Q (reply_bodies (reply_of st a trial (at_work work stores ops seals)))
    unfolding reply_of reply_bodies session_setting Each held_in
    answered-known a (stopped t more) work stores ops seals runs valid known = tt
    answered-known (act.Insert t xs) (going more) work stores ops seals runs valid known = tt
    answered-known (act.Ask ask) (going more) work stores ops seals runs valid known =
        let there : ask.table.0 < length stores = omega (arith, valid.0, declared-tables w.tables stores runs.declared) in
        let sound = shown-sound s.key stores (held_in s.key d base (at_work work stores ops seals)) ask.table runs.shows there in
        reply-known s.key Q w.tables ask stores known
        (subst (λ (k : ℕ). AllWide k (store_at stores ask.table).rows) (sym (declared-columns w.tables stores ask.table runs.declared there)) sound.wide) valid.3

    act-known : (a : Act) (work : Work) (stores : List (Store Cell)) (ops : List (ValueOp Cell)) (seals : ℕ) → Runs st w.tables d base (at_work work stores ops seals) → IsValidAct w.tables a → KnownStores s.key Q stores
        → Each Q (request_bodies (request_of st a (at_work work stores ops seals))) → Each Q (log_bodies (act_log st a (at_work work stores ops seals)))
    unfolding act_log session_setting exchanged Each log_bodies
    act-known a work stores ops seals runs valid known asked =
        let tried : Tried = at_work work stores ops seals in
        log-more s.key Q (walks_log s.key (table_named a) (constants_of a) (store_at stores (table_named a))) (exchanged (request_of st a tried) (reply_of st a (after_act (going work) a) tried) ∷ [])
        (walks-known s.key Q (table_named a) (constants_of a) stores known)
        (said-known s.key Q (exchanged (request_of st a tried) (reply_of st a (after_act (going work) a) tried)) [] asked (answered-known a (after_act (going work) a) work stores ops seals runs valid known) tt)

    act-asks : (a : Act) (tried : Tried) → sent_bodies (act_log st a tried) ≡ request_bodies (request_of st a tried)
    unfolding act_log session_setting exchanged sent_bodies
    act-asks a tried =
        sent-append (walks_log s.key (table_named a) (constants_of a) (store_at tried.stores (table_named a))) (exchanged (request_of st a tried) (reply_of st a (after_act tried.plain a) tried) ∷ [])
        ∙ ap (λ (l : List Body). l ++ (request_bodies (request_of st a tried) ++ [])) (sent-walks s.key (table_named a) (constants_of a) (store_at tried.stores (table_named a)))
        ∙ append-nil (request_bodies (request_of st a tried))

    act-sent : (a : Act) (tried : Tried) → sent_bodies (act_log st a tried) ≡ map (sealed s.key) (cells_from st tried.seals (act_numbers a))
    act-sent a tried = act-asks a tried ∙ asked-is a tried

    -- ---- statements one after the other

    one-more : (a : Act) (acts : List Act) (tried : Tried) (trial : Trial) (rest : List Exchange) (last : Tried) → KnownStores s.key Q tried.stores → KnownOps s.key Q tried.ops
        → Each (IsNumberOf w n) (act_numbers a) → Each Q (log_bodies (act_log st a tried))
        → ((next : Work) → trial ≡ going next → ActsSeal (tried.seals + inserted_numbers a) last rest (sum_by inserted_numbers acts))
        → ActsSeal tried.seals (unless_stopped trial (tried_by st d.same_time a trial tried) last) (act_log st a tried ++ unless_stopped trial [] rest) (sum_by inserted_numbers (a ∷ acts))
    unfolding unless_stopped tried_by
    one-more a acts tried (stopped t work) rest last stores ops numbers known later = record {
      stores = stores;
      ops = ops;
      known = subst (λ (l : List Exchange). Each Q (log_bodies l)) (sym (append-nil (act_log st a tried))) known;
      values = act_numbers a;
      numbers = numbers;
      few = omega (arith, numbers-counted a, sum_by-cons inserted_numbers a acts);
      seals = ap (λ (k : ℕ). tried.seals + k) (numbers-counted a);
      sent = ap sent_bodies (append-nil (act_log st a tried)) ∙ act-sent a tried;
    }
    one-more a acts tried (going work) rest last stores ops numbers known later =
        let after : ActsSeal (tried.seals + inserted_numbers a) last rest (sum_by inserted_numbers acts) = later work refl in
        record {
          stores = after.stores;
          ops = after.ops;
          known = log-more s.key Q (act_log st a tried) rest known after.known;
          values = act_numbers a ++ after.values;
          numbers = each-append (IsNumberOf w n) (act_numbers a) after.values numbers after.numbers;
          few = omega (arith, after.few, numbers-counted a, sum_by-cons inserted_numbers a acts, length-append (act_numbers a) after.values);
          seals = omega (arith, after.seals, numbers-counted a, length-append (act_numbers a) after.values);
          sent = sent-append (act_log st a tried) rest
              ∙ ap₂ (λ (x y : List Body). x ++ y) (act-sent a tried) (after.sent ∙ ap (λ (k : ℕ). map (sealed s.key) (cells_from st (tried.seals + k) after.values)) (numbers-counted a))
              ∙ sym (map-append (sealed s.key) (cells_from st tried.seals (act_numbers a)) (cells_from st (tried.seals + length (act_numbers a)) after.values))
              ∙ ap (map (sealed s.key)) (sym (cells-more st tried.seals (act_numbers a) after.values));
        }

    go-on : (acts : List Act) (a : Act) (next : Work) (tried : Tried)
        → ((work : Work) (stores : List (Store Cell)) (ops : List (ValueOp Cell)) (seals : ℕ) → Runs st w.tables d base (at_work work stores ops seals) → KnownStores s.key Q stores → KnownOps s.key Q ops → Each Q (sent_bodies (acts_log st d.same_time acts (at_work work stores ops seals)))
        → ActsSeal seals (acts_tried st d.same_time acts (at_work work stores ops seals)) (acts_log st d.same_time acts (at_work work stores ops seals)) (sum_by inserted_numbers acts))
        → Runs st w.tables d base (tried_by st d.same_time a (going next) tried) → KnownStores s.key Q tried.stores → KnownOps s.key Q tried.ops → KnownOps s.key Q (ops_of st a tried)
        → Each Q (sent_bodies (unless_stopped (going next) [] (acts_log st d.same_time acts (tried_by st d.same_time a (going next) tried))))
        → ActsSeal (tried.seals + inserted_numbers a) (acts_tried st d.same_time acts (tried_by st d.same_time a (going next) tried)) (acts_log st d.same_time acts (tried_by st d.same_time a (going next) tried)) (sum_by inserted_numbers acts)
    unfolding tried_by unless_stopped
    go-on acts a next tried later runs stores ops more asked =
        later next (ops_on d.same_time value_of (ops_of st a tried) tried.stores) (tried.ops ++ ops_of st a tried) (tried.seals + inserted_numbers a) runs
        (ops-known s.key Q d.same_time (ops_of st a tried) tried.stores more stores) (ops-more s.key Q tried.ops (ops_of st a tried) ops more) asked

    pub acts-seal : (acts : List Act) (c : Client) → Each (IsValidAct w.tables) acts → Each (IsNumberOf w n) (acts_numbers acts) → (work : Work) (stores : List (Store Cell)) (ops : List (ValueOp Cell)) (seals : ℕ)
        → Runs st w.tables d base (at_work work stores ops seals) → KnownStores s.key Q stores → KnownOps s.key Q ops → Each Q (sent_bodies (acts_log st d.same_time acts (at_work work stores ops seals)))
        → ActsSeal seals (acts_tried st d.same_time acts (at_work work stores ops seals)) (acts_log st d.same_time acts (at_work work stores ops seals)) (sum_by inserted_numbers acts)
    unfolding acts_tried act_tried acts_log acts_numbers Each log_bodies sent_bodies cells_from
    acts-seal [] c valid numbers work stores ops seals runs known on asked = record { stores = known; ops = on; known = tt; values = []; numbers = tt; few = omega arith; seals = omega arith; sent = refl }
    acts-seal (a ∷ acts) c valid numbers work stores ops seals runs known on asked =
        let tried : Tried = at_work work stores ops seals in
        let trial : Trial = after_act (going work) a in
        let parts = each-front (IsNumberOf w n) (act_numbers a) (acts_numbers acts) numbers in
        let next_runs : Runs st w.tables d base (tried_by st d.same_time a trial tried) = act-runs st w.tables d base setup a c work stores ops seals runs valid.0 in
        let later : Trial → List Exchange = λ (t : Trial). unless_stopped t [] (acts_log st d.same_time acts (tried_by st d.same_time a t tried)) in
        let asks = each-front Q (sent_bodies (act_log st a tried)) (sent_bodies (later trial)) (subst (Each Q) (sent-append (act_log st a tried) (later trial)) asked) in
        let here : Each Q (request_bodies (request_of st a tried)) = subst (Each Q) (act-asks a tried) asks.0 in
        one-more a acts tried trial (acts_log st d.same_time acts (tried_by st d.same_time a trial tried)) (acts_tried st d.same_time acts (tried_by st d.same_time a trial tried)) known on parts.0
        (act-known a work stores ops seals runs valid.0 known here)
        (λ (next : Work) (is : trial ≡ going next).
        subst (λ (t : Trial). ActsSeal (seals + inserted_numbers a) (acts_tried st d.same_time acts (tried_by st d.same_time a t tried)) (acts_log st d.same_time acts (tried_by st d.same_time a t tried)) (sum_by inserted_numbers acts)) (sym is)
        (go-on acts a next tried (acts-seal acts c valid.1 parts.1) (subst (λ (t : Trial). Runs st w.tables d base (tried_by st d.same_time a t tried)) is next_runs) known on
        (ops-of-known a tried here) (subst (λ (t : Trial). Each Q (sent_bodies (later t))) is asks.1)))
