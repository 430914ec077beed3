use Rattle.std.proofs.Common.{◌≡◌, refl, ap, sym, arith, []}
use Rattle.std.proofs.lemmas.List.{nil_from_length}
use Rattle.fix_interval.specs.Tree.{Known}
use Rattle.term_ground.specs.declared.legs.region.Region.TheVariants.{Source, Middle, Receiver}
use Rattle.term_ground.specs.declared.legs.stretch.Regional.{Regional}
use Rattle.path_shape.specs.Forms.{zero_form}
use Rattle.term_ground.specs.Regions.{share_of, region_start, region_end, middle_from}
use Rattle.term_ground.specs.inner.Walks.{summed, stretch_of}
use Rattle.term_ground.proofs.Same.{share-is}
use Rattle.term_ground.proofs.Shares.{share-alone}
use Rattle.term_ground.proofs.coverage.share.shares.Goals as goal

pub returns-clause-source : goal.returns-clause-source
unfolding share_of
returns-clause-source c =
    let path = c.args.path.now in
    let sum : c.sums-sums.result.source ≡ summed c.args.zones.now c.factor-outside.result path c.factor-outside.result (stretch_of Source path) =
    ap (λ (r : Regional). r.source) c.sums-sums.ensures in
    rw (c.share.ensures, c.exact-zero.ensures, sum)
    (share-is c.args.zones.now c.args.g0 path (region_start Source path (Known path.dp)) (region_end Source path (Known path.dp)) (Known path.dp) zero_form c.factor-outside.result (stretch_of Source path) c.factor-outside.ensures refl refl)

pub returns-clause-middle : goal.returns-clause-middle
unfolding share_of
returns-clause-middle c =
    let path = c.args.path.now in
    let sum : c.sums-sums.result.middle ≡ summed c.args.zones.now c.factor-outside.result path c.factor-outside.result (stretch_of Middle path) =
    ap (λ (r : Regional). r.middle) c.sums-sums.ensures in
    rw (c.share-2.ensures, c.middle_from.ensures, sum)
    (share-is c.args.zones.now c.args.g0 path (region_start Middle path (Known path.dp)) (region_end Middle path (Known path.dp)) (Known path.dp) (middle_from c.args.path.now) c.factor-outside.result (stretch_of Middle path) c.factor-outside.ensures refl refl)

pub returns-clause-receiver : goal.returns-clause-receiver
unfolding share_of
returns-clause-receiver c =
    let path = c.args.path.now in
    let sum : c.sums-sums.result.receiver ≡ summed c.args.zones.now c.factor-outside.result path c.factor-outside.result (stretch_of Receiver path) =
    ap (λ (r : Regional). r.receiver) c.sums-sums.ensures in
    rw (c.share-3.ensures, c.exact-zero.ensures, sum)
    (share-is c.args.zones.now c.args.g0 path (region_start Receiver path (Known path.dp)) (region_end Receiver path (Known path.dp)) (Known path.dp) zero_form c.factor-outside.result (stretch_of Receiver path) c.factor-outside.ensures refl refl)

pub returns-then-g0-le100-clause-source : goal.returns-then-g0-le100-clause-source
returns-then-g0-le100-clause-source c =
    let empty : c.args.zones.now ≡ [] = nil_from_length c.args.zones.now (grind (arith, c.is_empty.ensures, c.if-is_empty.true)) in
    rw (empty, c.alike.ensures, c.factor-outside.ensures) (sym (share-alone Source c.args.g0 c.args.path.now (omega arith)))

pub returns-then-g0-le100-clause-middle : goal.returns-then-g0-le100-clause-middle
returns-then-g0-le100-clause-middle c =
    let empty : c.args.zones.now ≡ [] = nil_from_length c.args.zones.now (grind (arith, c.is_empty.ensures, c.if-is_empty.true)) in
    rw (empty, c.alike.ensures, c.factor-outside.ensures) (sym (share-alone Middle c.args.g0 c.args.path.now (omega arith)))

pub returns-then-g0-le100-clause-receiver : goal.returns-then-g0-le100-clause-receiver
returns-then-g0-le100-clause-receiver c =
    let empty : c.args.zones.now ≡ [] = nil_from_length c.args.zones.now (grind (arith, c.is_empty.ensures, c.if-is_empty.true)) in
    rw (empty, c.alike.ensures, c.factor-outside.ensures) (sym (share-alone Receiver c.args.g0 c.args.path.now (omega arith)))
