-- The statements of generated workloads: their canonical lines give them, and aren't long.
use Rattle.std.proofs.Common.{◌≡◌, ℕ, false, ◌+◌, ◌^◌, ◌<◌, ◌≤◌, lit≤, lit<, List, [], ◌++◌, length, None, codes, refl, ◌∙◌, ap, arith, length-append}
use Rattle.std.proofs.lemmas.Fmt.{length-decimal-le}
use Rattle.std.specs.Fmt.{decimal}
use Rattle.sql_text.specs.Canonical.{canonical, gap, text_after, text_of}
use Rattle.sql_text.specs.Grammar.{IsStatement, cond_tokens, direction_tokens, joined, joined_after, limit_tokens, ninth, ninth_column, ninth_in, first_of, order_tokens, statement_tokens, test_tokens, what_tokens, where_tokens}
use Rattle.sql_text.specs.Lexing.{AreTokens}
use Rattle.sql_text.specs.Words.{IsName, keyword_of, keywords}
use Rattle.sql_text.specs.declared.statements.Stmt.{Stmt}
use Rattle.sql_text.specs.declared.statements.Stmt.TheVariants.{Begin, Commit}
use Rattle.workload_file.specs.GeneratedText.{count_above, count_between, delete_of, greatest_five, insert_of, least_below, rebuild}

-- a statement that is read from its canonical line, which has at most 99 bytes
pub record IsFine (s : Stmt) : Type 0 where
  pub statement : IsStatement s
  pub tokens : AreTokens (statement_tokens false s)
  pub few : ninth s ≡ None
  pub short : length (canonical s) ≤ 99

g_named : IsName (codes "g")
unfolding keyword_of keywords
g_named = record { letter = refl; word = refl; short = lit≤ tt; free = refl }

a_named : IsName (codes "a")
unfolding keyword_of keywords
a_named = record { letter = refl; word = refl; short = lit≤ tt; free = refl }

b_named : IsName (codes "b")
unfolding keyword_of keywords
b_named = record { letter = refl; word = refl; short = lit≤ tt; free = refl }

fits : (n : ℕ) → n < 1000000 → n < 2 ^ 64
fits n small = omega (arith, small)

digits : (n : ℕ) → n < 1000000 → length (decimal n) ≤ 6
digits n small = length-decimal-le 6 n (lit< tt) small (fits n small)

one_number : (front back line : List ℕ) (n : ℕ) → n < 1000000 → length front + length back ≤ 80 → line ≡ front ++ (decimal n ++ back) → length line ≤ 99
one_number front back line n small h e =
    let size = ap length e ∙ length-append front (decimal n ++ back) in
    let rest = length-append (decimal n) back in
    let few = digits n small in
    omega (arith, size, rest, few, h)

two_numbers : (front middle back line : List ℕ) (n m : ℕ) → n < 1000000 → m < 1000000 → length front + length middle + length back ≤ 80 → line ≡ front ++ (decimal n ++ (middle ++ (decimal m ++ back))) → length line ≤ 99
two_numbers front middle back line n m small less h e =
    let size = ap length e ∙ length-append front (decimal n ++ (middle ++ (decimal m ++ back))) in
    let rest = length-append (decimal n) (middle ++ (decimal m ++ back)) in
    let more = length-append middle (decimal m ++ back) in
    let last = length-append (decimal m) back in
    let few = digits n small in
    let also = digits m less in
    omega (arith, size, rest, more, last, few, also, h)

pub fine_begin : IsFine Begin
unfolding statement_tokens ninth canonical text_of text_after
fine_begin = record { statement = tt; tokens = (tt, tt); few = refl; short = lit≤ tt }

pub fine_commit : IsFine Commit
unfolding statement_tokens ninth canonical text_of text_after
fine_commit = record { statement = tt; tokens = (tt, tt); few = refl; short = lit≤ tt }

pub fine_rebuild : IsFine rebuild
unfolding rebuild statement_tokens ninth canonical text_of text_after gap
fine_rebuild = record { statement = tt; tokens = (tt, (g_named, (tt, (a_named, (tt, tt))))); few = refl; short = lit≤ tt }

pub fine_insert : (p q : ℕ) → p < 1000000 → q < 1000000 → IsFine (insert_of p q)
unfolding insert_of statement_tokens joined joined_after ninth canonical text_of text_after gap
fine_insert p q small less = record {
  statement = tt;
  tokens = (tt, (tt, (g_named, (tt, (tt, (fits p small, (tt, (fits q less, (tt, tt)))))))));
  few = refl;
  short = two_numbers (codes "INSERT INTO g VALUES (") (codes ", ") (codes ")") _ p q small less (lit≤ tt) refl;
}

pub fine_between : (p q : ℕ) → p < 1000000 → q < 1000000 → IsFine (count_between p q)
unfolding count_between statement_tokens what_tokens where_tokens joined joined_after cond_tokens test_tokens order_tokens limit_tokens ninth ninth_column ninth_in first_of canonical text_of text_after gap
fine_between p q small less = record {
  statement = (refl, refl);
  tokens = (tt, (tt, (tt, (tt, (tt, (tt, (g_named, (tt, (a_named, (tt, (fits p small, (tt, (fits q less, tt)))))))))))));
  few = refl;
  short = two_numbers (codes "SELECT COUNT(*) FROM g WHERE a BETWEEN ") (codes " AND ") [] _ p q small less (lit≤ tt) refl;
}

pub fine_above : (q : ℕ) → q < 1000000 → IsFine (count_above q)
unfolding count_above statement_tokens what_tokens where_tokens joined joined_after cond_tokens test_tokens order_tokens limit_tokens ninth ninth_column ninth_in first_of canonical text_of text_after gap
fine_above q less = record {
  statement = (refl, refl);
  tokens = (tt, (tt, (tt, (tt, (tt, (tt, (g_named, (tt, (b_named, (tt, (fits q less, tt)))))))))));
  few = refl;
  short = one_number (codes "SELECT COUNT(*) FROM g WHERE b > ") [] _ q less (lit≤ tt) refl;
}

pub fine_least : (p : ℕ) → p < 1000000 → IsFine (least_below p)
unfolding least_below statement_tokens what_tokens where_tokens joined joined_after cond_tokens test_tokens order_tokens limit_tokens ninth ninth_column ninth_in first_of canonical text_of text_after gap
fine_least p small = record {
  statement = (refl, refl);
  tokens = (tt, (tt, (tt, (b_named, (tt, (tt, (g_named, (tt, (a_named, (tt, (fits p small, tt)))))))))));
  few = refl;
  short = one_number (codes "SELECT MIN(b) FROM g WHERE a < ") [] _ p small (lit≤ tt) refl;
}

pub fine_greatest : (p : ℕ) → p < 1000000 → IsFine (greatest_five p)
unfolding greatest_five statement_tokens what_tokens where_tokens joined joined_after cond_tokens test_tokens order_tokens direction_tokens limit_tokens ninth ninth_column ninth_in first_of canonical text_of text_after gap
fine_greatest p small = record {
  statement = tt;
  tokens = (tt, (a_named, (tt, (b_named, (tt, (g_named, (tt, (a_named, (tt, (fits p small, (tt, (tt, (b_named, (tt, (tt, (lit< tt, tt))))))))))))))));
  few = refl;
  short = two_numbers (codes "SELECT a, b FROM g WHERE a >= ") (codes " ORDER BY b DESC LIMIT ") [] _ p 5 small (lit< tt) (lit≤ tt) refl;
}

pub fine_delete : (p : ℕ) → p < 1000000 → IsFine (delete_of p)
unfolding delete_of statement_tokens where_tokens joined joined_after cond_tokens test_tokens ninth ninth_in canonical text_of text_after gap
fine_delete p small = record {
  statement = tt;
  tokens = (tt, (tt, (g_named, (tt, (a_named, (tt, (fits p small, tt)))))));
  few = refl;
  short = one_number (codes "DELETE FROM g WHERE a = ") [] _ p small (lit≤ tt) refl;
}
