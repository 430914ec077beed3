use Rattle.std.proofs.Common.{◌+◌, get_or, ap, ◌∙◌, arith, length, flat_map}
use Rattle.std.specs.Prelude.{sum_by}
use Rattle.std.proofs.lemmas.Grind.{common_steps}
use Rattle.std.proofs.lemmas.List.{take_all}
use Rattle.path_calc.specs.Lengths.{is_within}
use Rattle.path_cache.specs.Refreshed.{refreshed_bundle, is_wanted}
use Rattle.path_cache.specs.inner.OfOneSource.{refreshed_of_one, steps_of_one}
use Rattle.path_cache.proofs.WithinReach.{flat-within, count-within, count-so-far}
use Rattle.path_cache.proofs.Ascending.{ascend-up}
use Rattle.path_cache.proofs.refreshing.origins_of.Goals as goal

pub add-requires : goal.add-requires
add-requires g c = grind (arith, common_steps)

pub returns-clause-value : goal.returns-clause-value
returns-clause-value g c =
    let book = c.args.renewal.now.scene.now in
    let r = c.args.renewal.now.receiver.now in
    c.loop-place.invariant.bundles
    ∙ (ap (flat_map (refreshed_of_one book r c.args.renewal.now.kept.now c.args.renewal.now.marks.now)) (take_all c.loop-place.place book.sources (omega (arith, ap length c.sources-source-items.ensures.value)))
    ∙ flat-within (λ s. is_within book.globals.reach s.at r.at) (refreshed_bundle book r c.args.renewal.now.kept.now c.args.renewal.now.marks.now) book.sources)

pub returns-clause-ascend : goal.returns-clause-ascend
returns-clause-ascend g c =
    let inv = c.loop-place.invariant in
    ascend-up 0 c.loop-place.origins.list.items c.loop-place.origins.next (length c.args.renewal.now.kept.now) inv.ascend inv.next

pub returns-clause-few : goal.returns-clause-few
returns-clause-few g c = omega (arith, c.loop-place.invariant.few, c.loop-place.auto.place-end, ap length c.sources-source-items.ensures.value, c.sources-source-items.ensures.within.lists.sources)

pub returns-clause-steps : goal.returns-clause-steps
returns-clause-steps g c =
    let book = c.args.renewal.now.scene.now in
    let r = c.args.renewal.now.receiver.now in
    c.loop-place.invariant.steps
    ∙ (ap (λ ss. c.args.steps.now + sum_by (steps_of_one book r c.args.renewal.now.kept.now c.args.renewal.now.marks.now) ss) (take_all c.loop-place.place book.sources (omega (arith, ap length c.sources-source-items.ensures.value)))
    ∙ ap (λ n. c.args.steps.now + n) (count-within (λ s. is_within book.globals.reach s.at r.at) (is_wanted c.args.renewal.now.kept.now c.args.renewal.now.marks.now) book.sources))

pub loop-place-preserved : goal.loop-place-preserved
loop-place-preserved g c = grind (arith, common_steps)

pub returns-in_err-add-clause-most : goal.returns-in_err-add-clause-most
returns-in_err-add-clause-most g c =
    let book = c.args.renewal.now.scene.now in
    let r = c.args.renewal.now.receiver.now in
    count-so-far (steps_of_one book r c.args.renewal.now.kept.now c.args.renewal.now.marks.now) book.sources c.loop-place.place c.source-item.result c.args.steps.now c.loop-place.steps c.add.new.steps _
    (c.source-item.is ∙ ap (λ ss. get_or ss c.loop-place.place c.source-item.result) c.sources-source-items.ensures.value)
    (omega (arith, c.loop-place-test.true, ap length c.sources-source-items.ensures.value))
    c.loop-place.invariant.steps c.add.ensures.steps
    (count-within (λ s. is_within book.globals.reach s.at r.at) (is_wanted c.args.renewal.now.kept.now c.args.renewal.now.marks.now) book.sources)

pub returns-clause-most : goal.returns-clause-most
returns-clause-most g c = omega (arith, returns-clause-steps g c)
