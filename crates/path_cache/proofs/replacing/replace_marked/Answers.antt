use Rattle.std.proofs.Common.{◌≡◌, ◌+◌, ◌<◌, ◌≤◌, List, length, get_or, sym, ap, ◌∙◌, subst, arith}
use Rattle.std.specs.Prelude.{All, count_by, slice_get, slice_set}
use Rattle.std.proofs.lemmas.List.{take_all, length-map, get_or-map}
use Rattle.scene_parts.specs.Parts.{Source}
use Rattle.path_calc.specs.Bundles.{Bundle}
use Rattle.path_calc.specs.Prepared.{PreparedSource, prepared_of}
use Rattle.path_cache.specs.declared.replacing.Replaced.{Replaced}
use Rattle.path_cache.specs.declared.replacing.Replacing.{Replacing}
use Rattle.path_cache.specs.Refreshed.{is_wanted, count_wanted}
use Rattle.path_cache.specs.Sums.{Fits}
use Rattle.path_cache.specs.Renewals.{with_each}
use Rattle.path_cache.proofs.Ascending.{some-at}
use Rattle.path_cache.proofs.Standing.{as-many, counted, all-refreshed, one-wanted, wanted-more, unwanted-more, past-plain, past-marked, still-there}
use Rattle.path_cache.proofs.replacing.replace_marked.Given.{Over}
use Rattle.path_cache.proofs.replacing.replace_marked.Goals as goal
use Rattle.path_cache.proofs.replacing.replace_marked.Goals.{After-calculated, then-marked+in_ok-bundle+in_ok-put, else-marked}

-- each source is prepared
pub bounds-renewal-place : goal.bounds-renewal-place
bounds-renewal-place g c =
    let book = c.args.renewal.now.scene.now in
    let prepared = ap length c.args.renewal.now.of_sources ∙ length-map book.sources prepared_of in
    omega (arith, c.loop-place-test.true, c.args.renewal.now.keeps.one_each, as-many book c.args.renewal.now.receiver.now c.args.renewal.now.kept.now c.requires.stand, prepared)

pub calculated-requires : goal.calculated-requires
calculated-requires g c =
    let book = c.args.renewal.now.scene.now in
    let i = c.loop-place.place in
    let s = c.index-sources-place.result in
    let from = c.index-renewal-place.result in
    let below : i < length book.sources =
    omega (arith, c.loop-place-test.true, c.args.renewal.now.keeps.one_each, as-many book c.args.renewal.now.receiver.now c.args.renewal.now.kept.now c.requires.stand) in
    let s-is : s ≡ get_or book.sources i s = c.index-sources-place.is ∙ ap (λ (ss : List Source). get_or ss i s) c.sources-sources.ensures.value in
    ap (λ (ps : List PreparedSource). get_or ps i from) c.args.renewal.now.of_sources
    ∙ get_or-map prepared_of book.sources i s from below
    ∙ ap prepared_of (sym s-is)

-- with the step for a marked bundle no more are counted than are wanted
no-more : (g : Over) (c : After-calculated g) → c.calculated.new.steps
    ≤ c.args.steps.now + count_wanted c.args.renewal.now.scene.now c.args.renewal.now.receiver.now c.args.renewal.now.kept.now c.args.renewal.now.marks.now
no-more g c =
    let book = c.args.renewal.now.scene.now in
    let kept = c.args.renewal.now.kept.now in
    let i = c.loop-place.place in
    let s = c.index-sources-place.result in
    let below : i < length kept = omega (arith, c.loop-place-test.true, c.args.renewal.now.keeps.one_each) in
    let b = some-at kept i below in
    let s-is : s ≡ get_or book.sources i s = c.index-sources-place.is ∙ ap (λ (ss : List Source). get_or ss i s) c.sources-sources.ensures.value in
    let one = one-wanted book c.args.renewal.now.receiver.now kept c.requires.stand c.args.renewal.now.marks.now c.args.renewal.now.keeps i b.0 s below b.1 s-is c.if-marked.true in
    omega (arith, one, c.calculated.ensures.step, c.loop-place.invariant.steps)

pub returns-in_err-bundle-clause-most : goal.returns-in_err-bundle-clause-most
returns-in_err-bundle-clause-most g c = no-more g (goal.at.returns-in_err-bundle-clause-most g c).After-calculated

pub returns-in_err-put-clause-most : goal.returns-in_err-put-clause-most
returns-in_err-put-clause-most g c = no-more g (goal.at.returns-in_err-put-clause-most g c).After-calculated

pub put-requires-clause-stands : goal.put-requires-clause-stands
put-requires-clause-stands g c =
    let book = c.args.renewal.now.scene.now in
    let kept = c.args.renewal.now.kept.now in
    let i = c.loop-place.place in
    let s = c.index-sources-place.result in
    let below : i < length kept = omega (arith, c.loop-place-test.true, c.args.renewal.now.keeps.one_each) in
    let b = some-at kept i below in
    let s-is : s ≡ get_or book.sources i s = c.index-sources-place.is ∙ ap (λ (ss : List Source). get_or ss i s) c.sources-sources.ensures.value in
    ap (λ (bs : List Bundle). slice_get bs i) c.loop-place.invariant.row
    ∙ still-there book c.args.renewal.now.receiver.now kept c.requires.stand c.args.renewal.now.marks.now c.args.renewal.now.keeps i b.0 s below b.1 s-is

pub loop-place-preserved : goal.loop-place-preserved
loop-place-preserved g c =
    let book = c.args.renewal.now.scene.now in
    let r = c.args.renewal.now.receiver.now in
    let kept = c.args.renewal.now.kept.now in
    let marks = c.args.renewal.now.marks.now in
    let stand = c.requires.stand in
    let can = c.args.renewal.now.keeps in
    let i = c.loop-place.place in
    let inv = c.loop-place.invariant in
    let below : i < length kept = omega (arith, c.loop-place-test.true, can.one_each) in
    let b = some-at kept i below in
    elim c.if-marked.branch [
      | then-marked+in_ok-bundle+in_ok-put w ↦
          let s = w.index-sources-place.result in
          let value = w.in_ok-bundle.bundle.value in
          let s-is : s ≡ get_or book.sources i s = w.index-sources-place.is ∙ ap (λ (ss : List Source). get_or ss i s) c.sources-sources.ensures.value in
          let more = wanted-more book r kept stand marks can i b.0 s below b.1 s-is w.if-marked.true in
          record {
            row = ap (λ (row : Replacing). with_each row.news.items kept) w.row-is
                ∙ w.in_ok-put.ensures.bundles
                ∙ ap (λ (bs : List Bundle). slice_set bs i value) inv.row
                ∙ past-marked book r kept stand marks can i b.0 s below b.1 s-is value w.in_ok-bundle.ensures.value w.if-marked.true;
            places = subst (λ (row : Replacing). All (λ (replaced : Replaced). replaced.place < length kept) row.news.items) (sym w.row-is) (w.in_ok-put.ensures.places inv.places);
            fit = subst (λ (row : Replacing). Fits row.sums (with_each row.news.items kept)) (sym w.row-is) w.in_ok-put.ensures.fit;
            steps = omega (arith, w.steps-is, w.calculated.ensures.step, inv.steps, more);
          }
      | else-marked w ↦
          let s = some-at book.sources i (omega (arith, below, as-many book r kept stand)) in
          let same = unwanted-more book r kept stand marks can i b.0 s.0 below b.1 s.1 w.if-marked.false in
          record {
            row = ap (λ (row : Replacing). with_each row.news.items kept) w.row-is
                ∙ inv.row
                ∙ past-plain book r kept stand marks can i b.0 s.0 below b.1 s.1 w.if-marked.false;
            places = subst (λ (row : Replacing). All (λ (replaced : Replaced). replaced.place < length kept) row.news.items) (sym w.row-is) inv.places;
            fit = subst (λ (row : Replacing). Fits row.sums (with_each row.news.items kept)) (sym w.row-is) inv.fit;
            steps = omega (arith, w.steps-is, inv.steps, same);
          }
    ]

pub returns-clause-value : goal.returns-clause-value
returns-clause-value g c =
    c.loop-place.invariant.row
    ∙ all-refreshed c.args.renewal.now.scene.now c.args.renewal.now.receiver.now c.args.renewal.now.kept.now c.requires.stand c.args.renewal.now.marks.now c.args.renewal.now.keeps c.loop-place.place
    (omega (arith, c.loop-place-test.false, c.args.renewal.now.keeps.one_each))

pub returns-clause-steps : goal.returns-clause-steps
returns-clause-steps g c =
    let book = c.args.renewal.now.scene.now in
    let r = c.args.renewal.now.receiver.now in
    let kept = c.args.renewal.now.kept.now in
    let marks = c.args.renewal.now.marks.now in
    let many = as-many book r kept c.requires.stand in
    c.loop-place.invariant.steps
    ∙ ap (λ (ss : List Source). c.args.steps.now + count_by (is_wanted kept marks) ss) (take_all c.loop-place.place book.sources (omega (arith, many, c.loop-place-test.false, c.args.renewal.now.keeps.one_each)))
    ∙ ap (λ n. c.args.steps.now + n) (counted book r kept c.requires.stand marks c.args.renewal.now.keeps)

pub returns-clause-most : goal.returns-clause-most
returns-clause-most g c = omega (arith, returns-clause-steps g c)
