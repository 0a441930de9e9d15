use Rattle.std.proofs.Common.{◌∙◌, ap, ◌++◌, ◌∷◌, []}
use Rattle.std.proofs.lemmas.List.{replicate_more}
use Rattle.plain_db.specs.Running.{first_place}
use Rattle.plain_db.proofs.running.first_places.Goals as goal

pub places-preserved : goal.places-preserved
unfolding first_place
places-preserved c =
    c.in_ok-push.ensures.items ∙ ap (λ l. l ++ first_place ∷ []) c.places.invariant ∙ replicate_more c.places._i first_place
