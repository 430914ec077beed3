use Rattle.std.proofs.Common.{◌≡◌, ◌+◌, ◌++◌, ◌∷◌, [], length, sym, ap, ◌∙◌, arith}
use Rattle.std.specs.Option.{option_to_list}
use Rattle.std.specs.Vec.Iter.{into_iter_items}
use Rattle.path_cache.specs.Origins.{bundle_from, bundles_from}
use Rattle.path_cache.proofs.Ascending.{ascend-le, first-kept, first-new, one-moved}
use Rattle.path_cache.proofs.origins.copied.Goals as goal
use Rattle.path_cache.proofs.origins.copied.Goals.{in-Kept+in_ok-bundle-in-Kept, in-New}

pub copy_at-requires : goal.copy_at-requires
copy_at-requires c =
    let kept = c.args.kept.now in
    let rest = into_iter_items c.next.new.self in
    let ascend = c.loop-origin.invariant.ascend in
    let here = first-kept (into_iter_items c.loop-origin.origin-iterator) c.in-Some.origin rest c.in-Kept.place ascend.0 (length kept) c.in-Some.ensures.steps.0 c.in-Kept.is ascend.1 in
    omega (arith, ascend-le (c.in-Kept.place + 1) rest (length kept) here.1)

pub loop-origin-preserved : goal.loop-origin-preserved
loop-origin-preserved c =
    let kept = c.args.kept.now in
    let origins = into_iter_items c.loop-origin.origin-iterator in
    let rest = into_iter_items c.next.new.self in
    let inv = c.loop-origin.invariant in
    let is = c.in-Some.ensures.steps.0 in
    let all = bundles_from kept c.args.origins.items in
    let pushed : c.push.new.self.items ≡ c.loop-origin.bundles.items ++ c.match-origin.bundle ∷ [] = c.in_ok-push.ensures.items in
    elim c.match-origin.branch [
      | in-Kept+in_ok-bundle-in-Kept w ↦
          let here = first-kept origins c.in-Some.origin rest w.in-Kept.place inv.ascend.0 (length kept) is w.in-Kept.is inv.ascend.1 in
          let one : bundle_from kept c.in-Some.origin ≡ c.match-origin.bundle ∷ [] =
          ap (bundle_from kept) w.in-Kept.is ∙ ap option_to_list w.in_ok-bundle-in-Kept.ensures ∙ ap (λ x. x ∷ []) (sym w.bundle-is) in
          record {
            ascend = (w.in-Kept.place + 1, here.1);
            all = ap (λ bs. bs ++ bundles_from kept rest) pushed
                ∙ one-moved kept c.loop-origin.bundles.items origins c.in-Some.origin rest c.match-origin.bundle all is one inv.all;
          }
      | in-New w ↦
          let one : bundle_from kept c.in-Some.origin ≡ c.match-origin.bundle ∷ [] = ap (bundle_from kept) w.in-New.is ∙ ap (λ x. x ∷ []) (sym (w.bundle-is ∙ w.into_inner-bundle.ensures)) in
          record {
            ascend = (inv.ascend.0, first-new origins c.in-Some.origin rest w.in-New.bundle inv.ascend.0 (length kept) is w.in-New.is inv.ascend.1);
            all = ap (λ bs. bs ++ bundles_from kept rest) pushed
                ∙ one-moved kept c.loop-origin.bundles.items origins c.in-Some.origin rest c.match-origin.bundle all is one inv.all;
          }
    ]
