use Rattle.std.proofs.Common.{◌≡◌, subst}
use Rattle.std.specs.Prelude.{Option, IfSome}
use Rattle.fix_interval.specs.Tree.{enc}
use Rattle.path_shape.specs.Outlines.{place_form}
use Rattle.term_ground.specs.inner.Extents.{by_ends}
use Rattle.term_ground.specs.declared.extents.extent.Extent.{Extent}
use Rattle.term_ground.proofs.Walking.{passage-known}
use Rattle.term_ground.proofs.coverage.covering.with_passage.Goals as goal

pub returns-in-Some-Some : goal.returns-in-Some-Some
returns-in-Some-Some c =
    let passage = c.args.passage in
    let stretches = c.args.leg.now.stretches in
    let at = by_ends c.in-Some-Some.at in
    let found = c.args.leg.now.sections_are c.in-Some-Some.sections c.in-Some-Some.is-1 in
    let same : enc (place_form passage.place) ≡ at =
    subst (λ (o : Option Extent). IfSome o (λ extent. enc (place_form passage.place) ≡ by_ends extent)) c.in-Some-Some.is-0 c.extent_at.ensures in
    passage-known at passage c.args.lengths stretches c.counted.result c.counted-in-Some-Some.result c.counted-in-Some-Some-2.result same
    (c.counted.ensures stretches.source found.source) (c.counted-in-Some-Some.ensures stretches.middle found.middle) (c.counted-in-Some-Some-2.ensures stretches.receiver found.receiver)
