use Rattle.std.proofs.Common.{◌≡◌, ◌∙◌, ◌≤◌, arith, refl, sym, subst, List, map}
use Rattle.fix_interval.specs.Interval.{Interval}
use Rattle.fix_interval.specs.Tree.{Known, enc}
use Rattle.term_ground.specs.inner.EndRegions.{known_attenuations}
use Rattle.term_ground.specs.Ground.{ground}
use Rattle.term_ground.specs.declared.legs.region.Region.TheVariants.{Source, Receiver}
use Rattle.term_ground.specs.Limits.{HasHeights, AreLimited}
use Rattle.term_ground.proofs.Shares.{by-shares}
use Rattle.term_ground.proofs.TermBounds.{ground-between, share-small}
use Rattle.term_ground.proofs.attenuation.a_gr_between.Goals.{After-are_hard}
use Rattle.term_ground.proofs.attenuation.a_gr_between.Goals as goal

value : (c : After-are_hard) (found : List Interval) → found ≡ map enc (known_attenuations c.shares-shares.result c.args.path.now)
    → found ≡ map enc (ground c.args.zones.now c.args.g0 c.args.path.now (Known c.args.path.now.dp))
value c found is =
    let shares = c.shares-shares in
    is
    ∙ by-shares c.args.zones.now c.args.g0 c.args.path.now shares.result.source shares.result.middle shares.result.receiver shares.ensures.source shares.ensures.middle shares.ensures.receiver

bounds : (c : After-are_hard) (found : List Interval) → found ≡ map enc (known_attenuations c.shares-shares.result c.args.path.now)
    → c.args.g0 ≤ 100 → HasHeights c.args.path.now → AreLimited found
bounds c found is g heights =
    subst (λ (found : List Interval). AreLimited found) (sym (value c found is))
    (ground-between c.args.zones.now c.args.g0 c.args.path.now c.requires.path g heights)

pub returns-then-are_hard-clause-value : goal.returns-then-are_hard-clause-value
returns-then-are_hard-clause-value c = value (goal.at.returns-then-are_hard-clause-value c).After-are_hard _ c.between_hard_ends.ensures

pub returns-then-are_hard-clause-bounds : goal.returns-then-are_hard-clause-bounds
returns-then-are_hard-clause-bounds c = bounds (goal.at.returns-then-are_hard-clause-bounds c).After-are_hard _ c.between_hard_ends.ensures

pub returns-else-are_hard-clause-value : goal.returns-else-are_hard-clause-value
returns-else-are_hard-clause-value c =
    value (goal.at.returns-else-are_hard-clause-value c).After-are_hard c.in_bands.result
    (c.in_bands.ensures c.shares-shares.result refl
    (rw (c.requires.source, c.growths_over-growths.ensures) at c.end_region-at_source.ensures)
    (rw (c.requires.receiver, c.growths_over-growths.ensures) at c.end_region-at_receiver.ensures))

pub returns-else-are_hard-clause-bounds : goal.returns-else-are_hard-clause-bounds
returns-else-are_hard-clause-bounds c =
    bounds (goal.at.returns-else-are_hard-clause-bounds c).After-are_hard c.in_bands.result
    (c.in_bands.ensures c.shares-shares.result refl
    (rw (c.requires.source, c.growths_over-growths.ensures) at c.end_region-at_source.ensures)
    (rw (c.requires.receiver, c.growths_over-growths.ensures) at c.end_region-at_receiver.ensures))

pub end_region-at_source-requires : goal.end_region-at_source-requires
end_region-at_source-requires c =
    rw (c.shares-shares.ensures.source) (share-small Source c.args.zones.now c.args.g0 c.args.path.now (Known c.args.path.now.dp) (omega arith))

pub end_region-at_receiver-requires : goal.end_region-at_receiver-requires
end_region-at_receiver-requires c =
    rw (c.shares-shares.ensures.receiver) (share-small Receiver c.args.zones.now c.args.g0 c.args.path.now (Known c.args.path.now.dp) (omega arith))
