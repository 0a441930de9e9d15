-- The message that bytes spell is the only one: what each field is, read off the bytes.
use Rattle.std.proofs.Common.{◌≡◌, ◌<◌, ◌-◌, ◌^◌, ℕ, zero, suc, true, false, is_some, unwrap_or, List, [], ◌∷◌, ◌++◌, length, take, drop, replicate, Option, None, Some, IfSome, IsTrue, refl, ap, sym, ◌∙◌}
use Rattle.std.proofs.Common.{append_assoc}
use Rattle.std.proofs.lemmas.List.{append-nil}
use Rattle.std.specs.Bool.{if◌then◌else◌, ◌==◌}
use Rattle.std.specs.List.{flat_map}
use Rattle.std.proofs.Math.Seq.{take-append_seam}
use Rattle.std.proofs.lemmas.Bool.{and_parts, ltb-true}
use Rattle.byteorder.specs.Endian.{big_number, big_bytes}
use Rattle.byteorder.specs.Numbers.{big_number-reads_back}
use Rattle.mope_base.specs.declared.numbers.ColNo.{ColNo}
use Rattle.mope_base.specs.declared.numbers.TableNo.{TableNo}
use Rattle.tree_model.specs.declared.Side.{Side}
use Rattle.tree_model.specs.declared.Side.TheVariants.{Left, Right}
use Rattle.mope_base.specs.declared.body.Body.{Body}
use Rattle.walk_proto.specs.Faults.{at}
use Rattle.walk_proto.specs.Rules.{IsRequest, IsReply, is_asked, is_rows}
use Rattle.walk_proto.specs.Shapes.{BodiesFit, RequestFits, ReplyFits}
use Rattle.walk_proto.specs.Spelling.{flag, how_byte, body_bytes, cond_bytes, column_bytes, limit_bytes, columns_bytes, conds_bytes, asked_bytes, request_bytes, reply_bytes}
use Rattle.walk_proto.specs.declared.messages.Asked.{Asked}
use Rattle.walk_proto.specs.declared.messages.How.{How}
use Rattle.walk_proto.specs.declared.messages.How.TheVariants.{Began, Closed, Committed, Conflict, Installed, Stale}
use Rattle.walk_proto.specs.declared.messages.Reply.{Reply}
use Rattle.walk_proto.specs.declared.messages.Reply.TheVariants.{Node, Placed, Rows, Count, Ended, No}
use Rattle.walk_proto.specs.declared.messages.Request.{Request}
use Rattle.walk_proto.specs.declared.messages.Request.TheVariants.{Begin, WalkStart, Go, Found, Insert, Query, End, Rebuild}
use Rattle.walk_proto.proofs.AskedParts.{asked_fits}
use Rattle.walk_proto.proofs.RulesOf.{spelled_query, query_conds}

abbrev table_no : ℕ → TableNo
table_no n = record { 0 = n }

abbrev col_no : ℕ → ColNo
col_no n = record { 0 = n }

abbrev side_at : ℕ → Side
side_at n = if n == 0 then Left else Right

abbrev how_at : ℕ → How
how_at n = if n == 0 then Began else if n == 1 then Closed else if n == 2 then Committed else if n == 3 then Conflict else if n == 4 then Installed else Stale

abbrev body_at : List ℕ → Body
body_at xs = record { nonce = big_number 8 xs; masked = big_number 8 (drop 8 xs) }

abbrev bodies_at : ℕ → List ℕ → List Body
bodies_at zero xs = []
bodies_at (suc n) xs = body_at xs ∷ bodies_at n (drop 16 xs)

abbrev conds_at : List ℕ → List (ℕ × ℕ)
conds_at [] = []
conds_at (x ∷ []) = []
conds_at (x ∷ y ∷ rest) = (x, y) ∷ conds_at rest

abbrev limit_at : ℕ → List ℕ → Option ℕ
limit_at limited xs = if limited == 0 then None else Some (big_number 8 xs)

abbrev asked_at : List ℕ → Asked
asked_at b = record {
  table = table_no (at b 1);
  verb = at b 2;
  target = at b 3;
  order = at b 4;
  order_column = at b 5;
  limit = limit_at (at b 6) (drop 7 b);
  columns = take (at b 15) (drop 16 b);
  conds = conds_at (drop 25 b);
}

abbrev request_at : List ℕ → Request
request_at b = if at b 0 == 1 then Begin else if at b 0 == 2 then WalkStart (table_no (at b 1)) (col_no (at b 2)) else if at b 0 == 3 then Go (side_at (at b 1)) else if at b 0 == 4 then Found else if at b 0 == 5 then Insert (table_no (at b 1)) (bodies_at (at b 2) (drop 3 b)) else if at b 0 == 6 then Query (asked_at b) else if at b 0 == 7 then End (at b 1 == 1) else Rebuild (table_no (at b 1)) (col_no (at b 2))

abbrev reply_at : List ℕ → Reply
reply_at b = if at b 0 == 9 then Node (body_at (drop 1 b)) else if at b 0 == 10 then Placed else if at b 0 == 11 then Rows (at b 1) (bodies_at (big_number 4 (drop 2 b)) (drop 6 b)) else if at b 0 == 12 then Count (big_number 8 (drop 1 b)) else if at b 0 == 13 then Ended (how_at (at b 1)) (at b 2) (big_number 8 (drop 3 b)) else No (at b 1) (big_number 4 (drop 2 b))

body_back : (body : Body) (rest : List ℕ) → body.nonce < 2 ^ 64 → body.masked < 2 ^ 64 → body_at (body_bytes body ++ rest) ≡ body
unfolding body_bytes
body_back body rest hn hm =
    let n : big_number 8 (big_bytes 8 body.nonce ++ (big_bytes 8 body.masked ++ rest)) ≡ body.nonce = big_number-reads_back 8 body.nonce (big_bytes 8 body.masked ++ rest) hn in
    let m : big_number 8 (big_bytes 8 body.masked ++ rest) ≡ body.masked = big_number-reads_back 8 body.masked rest hm in
    ap (λ (k : ℕ). let it : Body = record { nonce = k; masked = big_number 8 (big_bytes 8 body.masked ++ rest) } in it) n ∙ ap (λ (k : ℕ). let it : Body = record { nonce = body.nonce; masked = k } in it) m

past_body : (body : Body) (rest : List ℕ) → drop 16 (body_bytes body ++ rest) ≡ rest
unfolding body_bytes
past_body body rest = refl

bodies_back : (bodies : List Body) → BodiesFit bodies → bodies_at (length bodies) (flat_map body_bytes bodies) ≡ bodies
unfolding BodiesFit
bodies_back [] fits = refl
bodies_back (body ∷ rest) fits =
    let first = body_back body (flat_map body_bytes rest) fits.0 fits.1 in
    let after : drop 16 (body_bytes body ++ flat_map body_bytes rest) ≡ flat_map body_bytes rest = past_body body (flat_map body_bytes rest) in
    ap (λ b. b ∷ bodies_at (length rest) (drop 16 (body_bytes body ++ flat_map body_bytes rest))) first ∙ ap (λ xs. body ∷ bodies_at (length rest) xs) after ∙ ap (λ bs. body ∷ bs) (bodies_back rest fits.2)

conds_back : (conds : List (ℕ × ℕ)) → conds_at (flat_map cond_bytes conds) ≡ conds
conds_back [] = refl
conds_back (cond ∷ rest) = ap (λ cs. cond ∷ cs) (conds_back rest)

limit_back : (limit : Option ℕ) (rest : List ℕ) → IfSome limit (λ n. n < 2 ^ 64) → limit_at (flag (is_some limit)) (big_bytes 8 (unwrap_or limit 0) ++ rest) ≡ limit
limit_back None rest fits = refl
limit_back (Some n) rest fits = ap Some (big_number-reads_back 8 n rest fits)

columns_back : (columns : List ℕ) (rest : List ℕ) → take (length columns) (column_bytes columns ++ rest) ≡ columns
unfolding column_bytes
columns_back columns rest = rw append_assoc (take-append_seam columns (replicate (8 - length columns) 0 ++ rest))

query_limit_back : (a : Asked) → IfSome a.limit (λ n. n < 2 ^ 64) → limit_at (at (spelled_query a) 6) (drop 7 (spelled_query a)) ≡ a.limit
unfolding asked_bytes limit_bytes
query_limit_back a fits = limit_back a.limit (columns_bytes a.columns ++ conds_bytes a.conds) fits

query_columns_back : (a : Asked) → take (at (spelled_query a) 15) (drop 16 (spelled_query a)) ≡ a.columns
unfolding asked_bytes limit_bytes columns_bytes
query_columns_back a = columns_back a.columns (conds_bytes a.conds)

asked_is : (a : Asked) (limit : Option ℕ) (columns : List ℕ) (conds : List (ℕ × ℕ)) → limit ≡ a.limit → columns ≡ a.columns → conds ≡ a.conds → record a { limit = limit; columns = columns; conds = conds } ≡ a
asked_is a limit columns conds el ec ed = rw (el, ec, ed) refl

asked_back : (a : Asked) → IsTrue (is_asked a) → IfSome a.limit (λ n. n < 2 ^ 64) → asked_at (spelled_query a) ≡ a
unfolding asked_bytes limit_bytes columns_bytes
asked_back a ok fits =
    let few = (asked_fits a ok).0 in
    asked_is a _ _ _ (query_limit_back a fits) (query_columns_back a) (ap conds_at (query_conds a few) ∙ conds_back a.conds)

pub request_back : (r : Request) → IsRequest r → RequestFits r → request_at (request_bytes r) ≡ r
unfolding request_bytes
request_back Begin ok fits = refl
request_back (WalkStart table column) ok fits = refl
request_back (Go Left) ok fits = refl
request_back (Go Right) ok fits = refl
request_back Found ok fits = refl
request_back (Insert table bodies) ok fits = ap (λ bs. Insert table bs) (bodies_back bodies fits)
request_back (Query a) ok fits = ap Query (asked_back a ok fits)
request_back (End true) ok fits = refl
request_back (End false) ok fits = refl
request_back (Rebuild table column) ok fits = refl

how_back : (how : How) → how_at (how_byte how) ≡ how
how_back Began = refl
how_back Closed = refl
how_back Committed = refl
how_back Conflict = refl
how_back Installed = refl
how_back Stale = refl

pub reply_back : (r : Reply) → IsReply r → ReplyFits r → reply_at (reply_bytes r) ≡ r
unfolding reply_bytes is_rows BodiesFit
reply_back (Node body) ok fits = ap Node (ap body_at (sym (append-nil (body_bytes body))) ∙ body_back body [] fits.0 fits.1)
reply_back Placed ok fits = refl
reply_back (Rows width bodies) ok fits =
    let n = length bodies in
    let short : n < 256 ^ 4 = ltb-true n (2 ^ 32) (and_parts _ _ ok).1 in
    ap (λ k. Rows width (bodies_at k (flat_map body_bytes bodies))) (big_number-reads_back 4 n (flat_map body_bytes bodies) short) ∙ ap (λ bs. Rows width bs) (bodies_back bodies fits)
reply_back (Count number) ok fits = ap Count (big_number-reads_back 8 number [] fits)
reply_back (Ended how table number) ok fits = ap (λ h. Ended h table (big_number 8 (big_bytes 8 number))) (how_back how) ∙ ap (λ k. Ended how table k) (big_number-reads_back 8 number [] fits)
reply_back (No code value) ok fits = ap (λ k. No code k) (big_number-reads_back 4 value [] fits)

-- two requests of the same bytes are one
pub same_request : (r q : Request) → IsRequest r → IsRequest q → RequestFits r → RequestFits q → request_bytes r ≡ request_bytes q → r ≡ q
same_request r q okr okq fr fq e = sym (request_back r okr fr) ∙ ap request_at e ∙ request_back q okq fq

-- two replies of the same bytes are one
pub same_reply : (r q : Reply) → IsReply r → IsReply q → ReplyFits r → ReplyFits q → reply_bytes r ≡ reply_bytes q → r ≡ q
same_reply r q okr okq fr fq e = sym (reply_back r okr fr) ∙ ap reply_at e ∙ reply_back q okq fq
