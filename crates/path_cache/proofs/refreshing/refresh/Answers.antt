use Rattle.std.proofs.Common.{◌≡◌, ◌≤◌, ℕ, ◌+◌, List, subst, ◌∙◌, arith}
use Rattle.std.specs.Prelude.{IfOk, OnOk}
use Rattle.std.proofs.lemmas.Grind.{common_steps}
use Rattle.path_calc.specs.Bundles.{Bundle}
use Rattle.path_cache.specs.Refreshed.{refreshed, count_wanted}
use Rattle.path_cache.proofs.refreshing.refresh.Goals as goal

pub returns-clause-value : goal.returns-clause-value
returns-clause-value g c =
    let made = c.of-renewal-2.ensures in
    let scene = made.scene ∙ c.beside-scene.ensures ∙ c.by-scene.ensures in
    subst (λ (bs : List Bundle). IfOk c.refresh_prepared-2.result (λ bundles. bundles.items ≡ bs))
    (λ i. refreshed (scene i) (made.receiver i) (made.kept i) (made.marks i)) c.refresh_prepared-2.ensures.value

pub returns-clause-steps : goal.returns-clause-steps
returns-clause-steps g c =
    let made = c.of-renewal-2.ensures in
    let scene = made.scene ∙ c.beside-scene.ensures ∙ c.by-scene.ensures in
    subst (λ (n : ℕ). OnOk c.refresh_prepared-2.result (c.refresh_prepared-2.new.steps ≡ c.args.steps.now + n))
    (λ i. count_wanted (scene i) (made.receiver i) (made.kept i) (made.marks i)) c.refresh_prepared-2.ensures.steps

pub by-scene-requires : goal.by-scene-requires
by-scene-requires g c = grind (arith, common_steps)

pub returns-clause-most : goal.returns-clause-most
returns-clause-most g c =
    let made = c.of-renewal-2.ensures in
    let scene = made.scene ∙ c.beside-scene.ensures ∙ c.by-scene.ensures in
    subst (λ (n : ℕ). c.refresh_prepared-2.new.steps ≤ c.args.steps.now + n)
    (λ i. count_wanted (scene i) (made.receiver i) (made.kept i) (made.marks i)) c.refresh_prepared-2.ensures.most
