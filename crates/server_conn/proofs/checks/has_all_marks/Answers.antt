use Rattle.std.proofs.Common.{◌≡◌, ◌∙◌, ℕ, length, ap, sym, leb, arith}
use Rattle.std.proofs.lemmas.List.{length-map}
use Rattle.server_conn.specs.Inside.{held_in, mark_of}
use Rattle.server_conn.proofs.checks.has_all_marks.Goals as goal

pub returns : goal.returns
unfolding held_in
returns c =
    let many : c.len.result ≡ length c.args.txn.now.marks.items = omega (arith, c.len.ensures, c.args.txn.now.marks.ok.0) in
    ap (λ (n : ℕ). leb 16 n) (many ∙ sym (length-map c.args.txn.now.marks.items mark_of))
