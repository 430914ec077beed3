use Rattle.std.proofs.Common.{◌≡◌, ◌≤◌, ℕ, ◌+◌, subst, ◌∙◌}
use Rattle.std.specs.Prelude.{OnOk}
use Rattle.path_cache.specs.Refreshed.{count_wanted}
use Rattle.path_cache.proofs.renewing.refresh_sums.Goals as goal

pub returns-clause-steps : goal.returns-clause-steps
returns-clause-steps g c =
    let made = c.of-renewal-2.ensures in
    let scene = made.scene ∙ c.beside-scene.ensures ∙ c.by-scene.ensures in
    subst (λ (n : ℕ). OnOk c.refresh_sums_prepared-2.result (c.refresh_sums_prepared-2.new.steps ≡ c.args.steps.now + n))
    (λ i. count_wanted (scene i) (made.receiver i) (made.kept i) (made.marks i)) c.refresh_sums_prepared-2.ensures.steps

pub returns-clause-most : goal.returns-clause-most
returns-clause-most g c =
    let made = c.of-renewal-2.ensures in
    let scene = made.scene ∙ c.beside-scene.ensures ∙ c.by-scene.ensures in
    subst (λ (n : ℕ). c.refresh_sums_prepared-2.new.steps ≤ c.args.steps.now + n)
    (λ i. count_wanted (scene i) (made.receiver i) (made.kept i) (made.marks i)) c.refresh_sums_prepared-2.ensures.most
