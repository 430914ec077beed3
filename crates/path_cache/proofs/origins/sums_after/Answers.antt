use Rattle.std.proofs.Common.{◌≡◌, ◌+◌, ◌<◌, ◌≤◌, ◌++◌, ◌∷◌, [], drop, take, length, sym, ap, ◌∙◌, subst, arith}
use Rattle.std.proofs.lemmas.List.{length-append, length-take-le, length-drop}
use Rattle.std.proofs.lemmas.Grind.{common_steps}
use Rattle.path_cache.specs.Sums.{Fits}
use Rattle.path_cache.specs.Origins.{Ascend, bundle_from, bundles_from}
use Rattle.path_cache.proofs.Ascending.{here-kept, here-new, ascend-le, few-from, some-at, kept-at, and-then, drop-here}
use Rattle.path_cache.proofs.Summing.{have-room}
use Rattle.path_cache.proofs.origins.sums_after.Goals as goal
use Rattle.path_cache.proofs.origins.sums_after.Goals.{in-Kept, in-New}

pub take_off_between-requires-clause-to : goal.take_off_between-requires-clause-to
take_off_between-requires-clause-to c =
    let origins = c.args.origins.now in
    let i = c.loop-origin.origin-index in
    let here = here-kept origins i c.origin-item.result c.in-Kept.place c.loop-origin.next (length c.args.kept.now) c.loop-origin-test.true c.origin-item.is c.in-Kept.is c.loop-origin.invariant.ascend in
    omega (arith, ascend-le (c.in-Kept.place + 1) (drop (i + 1) origins) (length c.args.kept.now) here.1)

pub overflow_add-next : goal.overflow_add-next
overflow_add-next c =
    let origins = c.args.origins.now in
    let i = c.loop-origin.origin-index in
    let here = here-kept origins i c.origin-item.result c.in-Kept.place c.loop-origin.next (length c.args.kept.now) c.loop-origin-test.true c.origin-item.is c.in-Kept.is c.loop-origin.invariant.ascend in
    omega (arith, ascend-le (c.in-Kept.place + 1) (drop (i + 1) origins) (length c.args.kept.now) here.1, c.requires.few_kept)

pub add-requires : goal.add-requires
add-requires c =
    let kept = c.args.kept.now in
    let so_far = take c.loop-origin.origin-index c.args.origins.now in
    let rest = drop c.loop-origin.next kept in
    let few : length (bundles_from kept so_far ++ rest) ≤ 256 = omega (arith, length-append (bundles_from kept so_far) rest, few-from kept so_far, length-take-le c.loop-origin.origin-index c.args.origins.now (omega (arith, c.loop-origin-test.true)), length-drop c.loop-origin.next kept, c.loop-origin-test.true, c.requires.few, c.requires.few_kept) in
    have-room (bundles_from kept so_far ++ rest) c.loop-origin.after c.loop-origin.invariant.fit few

pub loop-origin-preserved : goal.loop-origin-preserved
loop-origin-preserved c =
    let kept = c.args.kept.now in
    let origins = c.args.origins.now in
    let i = c.loop-origin.origin-index in
    let origin = c.origin-item.result in
    let below = c.loop-origin-test.true in
    let is = c.origin-item.is in
    let so_far = bundles_from kept (take i origins) in
    let next = c.loop-origin.next in
    let inv = c.loop-origin.invariant in
    elim c.match-origin.branch [
      | in-Kept w ↦
          let place = w.in-Kept.place in
          let here = here-kept origins i origin place next (length kept) below is w.in-Kept.is inv.ascend in
          let inside : place < length kept = omega (arith, ascend-le (place + 1) (drop (i + 1) origins) (length kept) here.1) in
          let b = some-at kept place inside in
          let one : bundle_from kept origin ≡ b.0 ∷ [] = ap (bundle_from kept) w.in-Kept.is ∙ kept-at kept place b.0 inside ∙ ap (λ x. x ∷ []) (sym b.1) in
          let fit : Fits w.take_off_between.new.self (so_far ++ b.0 ∷ drop (place + 1) kept) =
          subst (λ rest. Fits w.take_off_between.new.self (so_far ++ rest)) (drop-here kept place b.0 inside b.1) (w.take_off_between.ensures so_far inv.fit) in
          let after : Fits w.take_off_between.new.self (bundles_from kept (take (i + 1) origins) ++ drop (place + 1) kept) =
          subst (Fits w.take_off_between.new.self) (and-then kept origins i origin b.0 (drop (place + 1) kept) below is one) fit in
          record {
            ascend = subst (λ k. Ascend k (drop (i + 1) origins) (length kept)) (sym w.next-is) here.1;
            fit = subst (λ s. Fits s (bundles_from kept (take (i + 1) origins) ++ drop c.match-origin.next kept)) (sym w.after-is)
                (subst (λ k. Fits w.take_off_between.new.self (bundles_from kept (take (i + 1) origins) ++ drop k kept)) (sym w.next-is) after);
          }
      | in-New w ↦
          let boxed = w.in-New.bundle in
          let b = w.deref.result.now in
          let one : bundle_from kept origin ≡ b ∷ [] = ap (bundle_from kept) w.in-New.is ∙ ap (λ x. x ∷ []) (sym w.deref.ensures) in
          let after : Fits w.add.new.self (bundles_from kept (take (i + 1) origins) ++ drop next kept) =
          subst (Fits w.add.new.self) (and-then kept origins i origin b (drop next kept) below is one) (w.add.ensures so_far (drop next kept) inv.fit) in
          record {
            ascend = subst (λ k. Ascend k (drop (i + 1) origins) (length kept)) (sym w.next-is) (here-new origins i origin boxed next (length kept) below is w.in-New.is inv.ascend);
            fit = subst (λ s. Fits s (bundles_from kept (take (i + 1) origins) ++ drop c.match-origin.next kept)) (sym w.after-is)
                (subst (λ k. Fits w.add.new.self (bundles_from kept (take (i + 1) origins) ++ drop k kept)) (sym w.next-is) after);
          }
    ]

pub returns : goal.returns
returns c = grind (arith, common_steps)
