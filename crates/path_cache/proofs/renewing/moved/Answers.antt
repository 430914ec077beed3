use Rattle.std.proofs.Common.{◌≡◌, ◌+◌, ◌-◌, ◌≤◌, ◌++◌, ◌∷◌, [], drop, length, sym, ap, ◌∙◌, subst, arith}
use Rattle.std.specs.Prelude.{vec_capacity}
use Rattle.std.specs.Option.{option_to_list}
use Rattle.std.proofs.lemmas.List.{length-append, length-drop}
use Rattle.std.specs.Vec.Iter.{into_iter_items}
use Rattle.path_cache.specs.Origins.{Ascend, bundle_from, bundles_from}
use Rattle.path_cache.proofs.Ascending.{ascend-le, first-kept, first-new, one-moved, behind-it, there-is, drop-on}
use Rattle.path_cache.proofs.renewing.moved.Goals as goal
use Rattle.path_cache.proofs.renewing.moved.Goals.{in-Kept, in-New}

pub item_behind-bundle-requires : goal.item_behind-bundle-requires
item_behind-bundle-requires c =
    let kept = c.args.kept.items in
    let next = c.loop-origin.next in
    let here = first-kept (into_iter_items c.loop-origin.origin-iterator) c.in-Some.origin (into_iter_items c.next.new.self) c.in-Kept.place next (length kept) c.in-Some.ensures.steps.0 c.in-Kept.is c.loop-origin.invariant.ascend in
    omega (arith, here.0, ascend-le (c.in-Kept.place + 1) (into_iter_items c.next.new.self) (length kept) here.1, c.loop-origin.rest.rest.ok.0, ap length c.loop-origin.invariant.rest, length-drop next kept)

pub loop-origin-preserved : goal.loop-origin-preserved
loop-origin-preserved c =
    let kept = c.args.kept.items in
    let next = c.loop-origin.next in
    let origins = into_iter_items c.loop-origin.origin-iterator in
    let rest = into_iter_items c.next.new.self in
    let inv = c.loop-origin.invariant in
    let is = c.in-Some.ensures.steps.0 in
    let pushed : c.push_reserved.new.self.items ≡ c.loop-origin.bundles.items ++ c.match-origin.bundle ∷ [] = c.push_reserved.ensures.items in
    let room : length c.push_reserved.new.self.items + length rest ≤ vec_capacity c.push_reserved.new.self =
    omega (arith, ap length pushed, length-append c.loop-origin.bundles.items (c.match-origin.bundle ∷ []), ap length is, inv.room, c.push_reserved.ensures.capacity) in
    elim c.match-origin.branch [
      | in-Kept w ↦
          let place = w.in-Kept.place in
          let b = w.item_behind-bundle.result in
          let here = first-kept origins c.in-Some.origin rest place next (length kept) is w.in-Kept.is inv.ascend in
          let there : drop place kept ≡ b ∷ into_iter_items w.item_behind-bundle.new.rest =
          drop-on kept next place here.0 ∙ ap (drop (place - next)) (sym inv.rest) ∙ w.item_behind-bundle.ensures in
          let one : bundle_from kept c.in-Some.origin ≡ b ∷ [] = ap (bundle_from kept) w.in-Kept.is ∙ ap option_to_list (there-is kept place b (into_iter_items w.item_behind-bundle.new.rest) there) in
          let bundles : c.push_reserved.new.self.items ≡ c.loop-origin.bundles.items ++ b ∷ [] = pushed ∙ ap (λ x. c.loop-origin.bundles.items ++ x ∷ []) w.bundle-is in
          record {
            ascend = subst (λ k. Ascend k rest (length kept)) (sym w.next-is) here.1;
            rest = ap into_iter_items w.rest-is ∙ sym (behind-it kept place b (into_iter_items w.item_behind-bundle.new.rest) there) ∙ ap (λ k. drop k kept) (sym w.next-is);
            all = ap (λ bs. bs ++ bundles_from kept rest) bundles
                ∙ one-moved kept c.loop-origin.bundles.items origins c.in-Some.origin rest b (bundles_from kept c.args.origins.items) is one inv.all;
            room = room;
          }
      | in-New w ↦
          let boxed = w.in-New.bundle in
          let b = boxed.value in
          let one : bundle_from kept c.in-Some.origin ≡ b ∷ [] = ap (bundle_from kept) w.in-New.is in
          let bundles : c.push_reserved.new.self.items ≡ c.loop-origin.bundles.items ++ b ∷ [] = pushed ∙ ap (λ x. c.loop-origin.bundles.items ++ x ∷ []) (w.bundle-is ∙ w.into_inner-bundle.ensures) in
          record {
            ascend = subst (λ k. Ascend k rest (length kept)) (sym w.next-is) (first-new origins c.in-Some.origin rest boxed next (length kept) is w.in-New.is inv.ascend);
            rest = ap into_iter_items w.rest-is ∙ inv.rest ∙ ap (λ k. drop k kept) (sym w.next-is);
            all = ap (λ bs. bs ++ bundles_from kept rest) bundles
                ∙ one-moved kept c.loop-origin.bundles.items origins c.in-Some.origin rest b (bundles_from kept c.args.origins.items) is one inv.all;
            room = room;
          }
    ]
