-- One more body whose words fit.
use Rattle.std.proofs.Common.{◌≡◌, ℕ, suc, ◌+◌, ◌<◌, ◌^◌, List, [], ◌∷◌, ◌++◌, length, take, get_or, arith, subst, sym, ◌∙◌, ap}
use Rattle.std.proofs.Math.Seq.{take-suc}
use Rattle.mope_base.specs.declared.body.Body.{Body}
use Rattle.walk_proto.specs.Shapes.{BodiesFit}

pub fits_push : (bodies : List Body) (body : Body) → BodiesFit bodies → body.nonce < 2 ^ 64 → body.masked < 2 ^ 64 → BodiesFit (bodies ++ body ∷ [])
unfolding BodiesFit
fits_push [] body fits nonce masked = (nonce, masked, tt)
fits_push (b ∷ rest) body fits nonce masked = (fits.0, fits.1, fits_push rest body fits.2 nonce masked)

-- none of them
pub fits_none : BodiesFit []
unfolding BodiesFit
fits_none = tt

-- the next of a list of bodies
pub fits_next : (bodies : List Body) (i : ℕ) (d : Body) → i < length bodies → BodiesFit (take i bodies) → BodiesFit (get_or bodies i d ∷ []) → BodiesFit (take (i + 1) bodies)
unfolding BodiesFit
fits_next bodies i d within fits next =
    let e : suc i ≡ i + 1 = omega arith in
    subst BodiesFit (sym (take-suc bodies i d within) ∙ ap (λ n. take n bodies) e) (fits_push (take i bodies) (get_or bodies i d) fits next.0 next.1)
