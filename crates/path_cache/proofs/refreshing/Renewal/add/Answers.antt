use Rattle.std.proofs.Common.{◌≡◌, ◌++◌, rules, ap, ◌∙◌, length, subst, sym}
use Rattle.path_cache.specs.inner.OfOneSource.{refreshed_of_one}
use Rattle.path_cache.specs.Origins.{Ascend, bundles_from, bundle_from}
use Rattle.path_cache.specs.inner.Origins.{place_after}
use Rattle.path_cache.proofs.Ascending.{from-more, ascend-more}
use Rattle.path_cache.proofs.refreshing.Renewal.add.Goals as goal

pub returns-then-not-within-clause-bundles : goal.returns-then-not-within-clause-bundles
returns-then-not-within-clause-bundles g c = search rules steps 2000000

pub returns-then-not-within-clause-steps : goal.returns-then-not-within-clause-steps
returns-then-not-within-clause-steps g c = search rules steps 2000000

pub returns-clause-bundles : goal.returns-clause-bundles
returns-clause-bundles g c =
    let kept = c.args.self.now.kept.now in
    let olds = c.args.origins.now.list.items in
    let one : bundle_from kept c.in_ok-origin.origin ≡ refreshed_of_one c.args.self.now.scene.now c.args.self.now.receiver.now kept c.args.self.now.marks.now c.args.source.now =
    search rules steps 2000000 in
    ap (bundles_from kept) c.in_ok-push.ensures.list ∙ from-more kept olds c.in_ok-origin.origin ∙ ap (λ bs. bundles_from kept olds ++ bs) one

pub returns-clause-ascend : goal.returns-clause-ascend
returns-clause-ascend g c ascends =
    let olds = c.args.origins.now.list.items in
    let next = c.args.origins.now.next in
    subst (Ascend 0 c.push.new.self.list.items) (sym c.in_ok-push.ensures.next)
    (subst (λ os. Ascend 0 os (place_after next c.in_ok-origin.origin)) (sym c.in_ok-push.ensures.list)
    (ascend-more 0 olds next (length c.args.self.now.kept.now) c.in_ok-origin.origin ascends c.in_ok-origin.ensures.place))

pub returns-clause-steps : goal.returns-clause-steps
returns-clause-steps g c = search rules steps 2000000
