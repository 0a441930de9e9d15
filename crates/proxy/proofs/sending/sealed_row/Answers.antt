use Rattle.std.proofs.Common.{◌≡◌, ◌∙◌, ◌+◌, ◌++◌, ap, sym, get_or, drop, ℕ, List}
use Rattle.mope_base.specs.declared.body.Body.{Body}
use Rattle.value_cipher.specs.Cipher.{seal_of}
use Rattle.proxy.specs.Standing.{setting_by}
use Rattle.proxy.proofs.SealLemmas.{bodies_from, bodies-next, bodies-all}
use Rattle.proxy.proofs.sending.sealed_row.Goals as goal

pub values-preserved : goal.values-preserved
values-preserved c = record {
  bodies =
      bodies-next c.args.pads.now (setting_by c.args.pads.now c.args.first c.args.session) c.args.count c.values.i c.args.values.now
      c.values.bodies.items _ c.seal.result c.values-test.true c.values.invariant.bodies
      (c.seal.ensures.body
      ∙ ap (λ (key : List ℕ). seal_of key c.nonce_of-nonce.result (get_or c.args.values.now c.values.i 0)) c.values.invariant.stays
      ∙ ap (λ (n : ℕ). seal_of c.args.pads.now n (get_or c.args.values.now c.values.i 0)) c.nonce_of-nonce.ensures)
      ∙ ap (λ (l : List Body). l ++ bodies_from c.args.pads.now (setting_by c.args.pads.now c.args.first c.args.session) (c.args.count + (c.values.i + 1)) (drop (c.values.i + 1) c.args.values.now)) (sym c.in_ok-push.ensures.items);
  stays = c.seal.ensures.stays ∙ c.values.invariant.stays;
}

pub returns-clause-bodies : goal.returns-clause-bodies
returns-clause-bodies c =
    c.from_vec.ensures
    ∙ bodies-all c.args.pads.now (setting_by c.args.pads.now c.args.first c.args.session) c.args.count c.values.i c.args.values.now
    c.values.bodies.items _ c.values-test.false c.values.invariant.bodies
