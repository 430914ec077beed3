use Rattle.std.proofs.Common.{◌≡◌, arith, subst, ◌∙◌}
use Rattle.std.specs.Prelude.{IfSome}
use Rattle.std.proofs.lemmas.Grind.{common_steps}
use Rattle.path_cache.specs.Standing.{AreOfEach}
use Rattle.map_board.specs.Views.{Job}
use Rattle.map_board.proofs.Ordered.{noted-if}
use Rattle.map_board.proofs.jobs.Job.returned.Goals as goal

pub invariant_of-cache : goal.invariant_of-cache
invariant_of-cache c = grind (arith, common_steps)

pub returns-clause-order : goal.returns-clause-order
returns-clause-order c =
    let b = c.self.inside in
    subst (λ (j : Job). IfSome c.mark_by_all.new.cache.order (λ v. (v ≡ j.version) × AreOfEach j.scene.sources j.kept)) c.self.view_is
    (noted-if b.stand b.version c.mark_by_all.new.cache.order (AreOfEach b.scene.value.sources b.kept.items) (c.mark_by_all.ensures.order ∙ c.version_if.ensures)
    c.self.invariant.1.of_each)
