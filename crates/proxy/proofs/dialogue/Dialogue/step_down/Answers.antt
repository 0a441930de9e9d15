use Rattle.std.proofs.Common.{◌≡◌, ◌∙◌, ap, sym, refl, arith, ℕ}
use Rattle.proxy.specs.Client.{stop_below}
use Rattle.proxy.specs.Standing.{Fits, client_in}
use Rattle.proxy.proofs.StandingLemmas.{placed_looking}
use Rattle.proxy.proofs.HearingLemmas.{heard_node, fits_kept}
use Rattle.proxy.proofs.dialogue.Dialogue.step_down.Goals as goal

pub returns : goal.returns
unfolding client_in
returns c = record {
  client =
      heard_node c.args.self.now c.args.table c.args.column c.args.constant c.args.stop c.stop_below.result c.args.body c.requires.looking
      (c.stop_below.ensures ∙ ap (λ (n : ℕ). stop_below c.args.stop n) c.unseal-value.ensures.value);
  session = record { pads = c.unseal-value.ensures.stays; first = refl; session = refl; script = refl };
  fits =
      fits_kept c.args.self.now _ (record { pads = c.unseal-value.ensures.stays; first = refl; session = refl; script = refl }) refl
      (placed_looking c.args.self.now c.args.table c.args.column c.args.constant c.args.stop c.requires.looking c.requires.fits) (omega arith) c.requires.fits;
}
