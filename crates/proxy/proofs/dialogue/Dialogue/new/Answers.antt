use Rattle.std.proofs.Common.{◌≡◌, ◌∙◌, ap, refl, List, ℕ, ltb, length}
use Rattle.proxy.specs.Client.{Setting}
use Rattle.proxy.specs.Party.{setting_of}
use Rattle.proxy.specs.Standing.{setting_in, opening_where}
use Rattle.proxy.proofs.RequestLemmas.{fresh_client, fresh_fits}
use Rattle.proxy.proofs.dialogue.Dialogue.new.Goals as goal

pub returns-clause-setting : goal.returns-clause-setting
unfolding setting_in setting_of
returns-clause-setting c =
    ap (λ (key : List ℕ). let s : Setting = record { key = key; first = c.args.settings.first; session = c.args.session } in s) c.new.ensures

pub returns-clause-client : goal.returns-clause-client
returns-clause-client c =
    fresh_client _ (c.opening_if-doing.ensures ∙ ap (λ l. opening_where (ltb 0 (length l))) c.as_slice.ensures) refl refl refl refl refl c.new-2.ensures c.new-3.ensures

pub returns-clause-fits : goal.returns-clause-fits
returns-clause-fits c =
    fresh_fits _ (c.opening_if-doing.ensures ∙ ap (λ l. opening_where (ltb 0 (length l))) c.as_slice.ensures) refl refl refl c.requires.pieces c.requires.numbers c.requires.first c.requires.session_from c.requires.session_to
