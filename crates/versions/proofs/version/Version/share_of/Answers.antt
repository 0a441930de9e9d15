use Rattle.std.proofs.Common.{◌<◌, length, ◌∙◌, ap, arith}
use Rattle.std.proofs.lemmas.List.{length-map}
use Rattle.std.specs.Arc.{arc_value}
use Rattle.mope_base.specs.Modes.{is_same_time}
use Rattle.enc_table.specs.Seen.{Seen}
use Rattle.versions.specs.Databases.{Database}
use Rattle.versions.specs.Inside.{tables_of}
use Rattle.versions.proofs.Members.{shared-at, share-member}
use Rattle.versions.proofs.version.Version.share_of.Goals as goal

pub returns-clause-value : goal.returns-clause-value
returns-clause-value c =
    let within : c.args.table.0 < length c.self.inside.tables.items = omega (arith, c.requires, ap (λ (d : Database). length d.shelves) c.self.view_is, length-map (tables_of c.self.inside.tables.items) (λ (t : Seen). t.shelf), length-map c.self.inside.tables.items arc_value) in
    c.in_ok-share.ensures
    ∙ rw (← c.self.view_is)
    (shared-at c.self.inside.number (is_same_time c.self.inside.mode) c.self.inside.limit c.self.inside.tables.items c.args.table.0 c.index.result.now c.self.invariant.members within c.index.ensures)

pub returns-clause-member : goal.returns-clause-member
returns-clause-member c =
    let within : c.args.table.0 < length c.self.inside.tables.items = omega (arith, c.requires, ap (λ (d : Database). length d.shelves) c.self.view_is, length-map (tables_of c.self.inside.tables.items) (λ (t : Seen). t.shelf), length-map c.self.inside.tables.items arc_value) in
    rw (c.in_ok-share.ensures, ← c.self.view_is)
    (share-member (is_same_time c.self.inside.mode) c.self.inside.limit c.self.inside.tables.items c.args.table.0 c.index.result.now c.self.invariant.members within c.index.ensures)
