use Rattle.std.proofs.Common.{◌≡◌, ◌≤◌, ◌∙◌, length, ap, sym, subst, arith}
use Rattle.std.specs.Prelude.{List}
use Rattle.path_calc.specs.Bundles.{Bundle}
use Rattle.path_cache.specs.Refreshed.{refreshed}
use Rattle.path_cache.specs.Renewals.{Gives}
use Rattle.path_cache.specs.Standing.{AreOfEach}
use Rattle.map_board.specs.inner.Held.{no_marks}
use Rattle.map_board.specs.Views.{Job}
use Rattle.map_board.proofs.jobs.Job.answered_by.Goals as goal

pub with_kept-bundles-requires : goal.with_kept-bundles-requires
with_kept-bundles-requires c =
    let job = c.args.self in
    let wanted : List Bundle = refreshed job.scene job.receiver job.kept job.marks in
    (wanted, subst (λ (j : Job). Gives c.args.calculation.renewed j.kept wanted) (sym c.self.view_is) c.requires.gives)

pub invariant_of-result-2 : goal.invariant_of-result-2
invariant_of-result-2 c =
    let job = c.args.self in
    let wanted : List Bundle = refreshed job.scene job.receiver job.kept job.marks in
    let gives : Gives c.args.calculation.renewed c.self.inside.kept.items wanted =
    subst (λ (j : Job). Gives c.args.calculation.renewed j.kept wanted) (sym c.self.view_is) c.requires.gives in
    let same : c.with_kept-bundles.result.bundles.items ≡ wanted = c.with_kept-bundles.ensures wanted gives in
    let few : length c.with_kept-bundles.result.bundles.items ≤ 128 = omega (arith, ap length same, c.requires.few) in
    record {
      plain = c.requires.plain ∙ ap no_marks (sym same);
      few = few;
      levels = c.levels.ensures.fitting c.with_kept-bundles.result.bundles.items (omega (arith, few)) c.with_kept-bundles.result.fit;
      fit = c.with_kept-bundles.result.fit;
      of_each = λ known. subst (λ (j : Job). AreOfEach j.scene.sources c.with_kept-bundles.result.bundles.items) (sym c.self.view_is)
          (subst (AreOfEach job.scene.sources) (sym same) (c.requires.of_each known));
    }

pub returns : goal.returns
returns c =
    let job = c.args.self in
    let wanted : List Bundle = refreshed job.scene job.receiver job.kept job.marks in
    let gives : Gives c.args.calculation.renewed c.self.inside.kept.items wanted =
    subst (λ (j : Job). Gives c.args.calculation.renewed j.kept wanted) (sym c.self.view_is) c.requires.gives in
    let same : c.with_kept-bundles.result.bundles.items ≡ wanted = c.with_kept-bundles.ensures wanted gives in
    let few : length c.with_kept-bundles.result.bundles.items ≤ 128 = omega (arith, ap length same, c.requires.few) in
    record {
      version = ap (λ (j : Job). j.version) c.self.view_is;
      receiver = ap (λ (j : Job). j.receiver) c.self.view_is;
      scene = ap (λ (j : Job). j.scene) c.self.view_is;
      bundles = same;
      levels = c.levels.ensures.fitting c.with_kept-bundles.result.bundles.items (omega (arith, few)) c.with_kept-bundles.result.fit;
    }
