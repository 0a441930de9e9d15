use Rattle.std.proofs.Common.{◌≡◌, ◌∙◌, ap, sym, length, set, arith}
use Rattle.plain_db.specs.declared.state.Place.{Place}
use Rattle.std.proofs.lemmas.Result.{on_ok_weaker}
use Rattle.plain_db.specs.Running.{SettledBy, StandingFits, changed_in}
use Rattle.plain_db.proofs.TurningLemmas.{committed-places, installed-places, places-back, standing-fits, settled-at}
use Rattle.plain_db.proofs.turning.settle.Goals as goal

pub commit-requires-clause-few : goal.commit-requires-clause-few
unfolding StandingFits
commit-requires-clause-few c =
    (rw c.in-Committing.is at (standing-fits (length c.args.state.now.current.tables) c.args.state.now c.args.k c.replace_at-ended.result c.requires.fits c.requires.here c.replace_at-ended.ensures.given))

pub install-requires-clause-few : goal.install-requires-clause-few
unfolding StandingFits
install-requires-clause-few c =
    (rw c.in-Installing.is at (standing-fits (length c.args.state.now.current.tables) c.args.state.now c.args.k c.replace_at-ended.result c.requires.fits c.requires.here c.replace_at-ended.ensures.given)).1

pub install-requires-clause-is_there : goal.install-requires-clause-is_there
unfolding StandingFits
install-requires-clause-is_there c =
    omega (arith, (rw c.in-Installing.is at (standing-fits (length c.args.state.now.current.tables) c.args.state.now c.args.k c.replace_at-ended.result c.requires.fits c.requires.here c.replace_at-ended.ensures.given)).0, c.requires.fits.laid)

pub returns-in-Ready : goal.returns-in-Ready
unfolding SettledBy
returns-in-Ready c = λ d.
    let back : c.replace_at.new.items ≡ set c.replace_at-ended.new.items c.args.k c.replace_at-ended.result =
    c.replace_at.ensures.left
    ∙ ap (λ standing. let p : Place = record { ended = c.replace_at-ended.result.ended; standing = standing } in set c.replace_at-ended.new.items c.args.k p) (sym c.in-Ready.is) in
    settled-at c.args.script.now c.args.state.now _ c.args.s c.args.k c.replace_at-ended.result c.requires.here c.replace_at-ended.ensures.given
    (rw c.in-Ready.is (places-back c.args.state.now c.replace_at-ended.new.items c.replace_at.new.items _ c.replace_at-ended.result c.args.k c.replace_at-ended.ensures.left back c.replace_at-ended.ensures.given)) d

pub returns-in-Committing : goal.returns-in-Committing
unfolding SettledBy
returns-in-Committing c = λ d.
    on_ok_weaker c.commit.result (λ settled.
    settled-at c.args.script.now c.args.state.now c.commit.new.state c.args.s c.args.k c.replace_at-ended.result c.requires.here c.replace_at-ended.ensures.given
    (rw c.in-Committing.is (
    settled ∙ committed-places _ c.args.state.now c.replace_at-ended.new.items _ c.args.s c.args.k c.replace_at-ended.result.ended c.in-Committing.base c.in-Committing.work _ c.replace_at-ended.ensures.left)) d)
    c.commit.ensures

pub returns-in-Installing : goal.returns-in-Installing
unfolding SettledBy changed_in
returns-in-Installing c = λ d.
    on_ok_weaker c.install.result (λ settled.
    settled-at c.args.script.now c.args.state.now c.install.new.state c.args.s c.args.k c.replace_at-ended.result c.requires.here c.replace_at-ended.ensures.given
    (rw c.in-Installing.is (settled ∙ installed-places _ c.args.state.now c.replace_at-ended.new.items _ c.args.s c.args.k c.replace_at-ended.result.ended c.in-Installing.base c.in-Installing.table c.replace_at-ended.ensures.left)) d)
    c.install.ensures
