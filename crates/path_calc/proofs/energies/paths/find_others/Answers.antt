use Rattle.std.proofs.Common.{◌≡◌, ap, subst, ◌∙◌, List, [], ◌∷◌, ◌++◌, map}
use Rattle.std.specs.Prelude.{flat_map, OnOk}
use Rattle.scene_geom.specs.Bands.{all_bands}
use Rattle.path_calc.specs.declared.bundles.segments.Seg.{Seg}
use Rattle.path_calc.specs.declared.bundles.segments.Seg.TheVariants.{Straight}
use Rattle.path_calc.specs.inner.Propagations.{Reflected}
use Rattle.path_calc.specs.inner.Tracing.{segments_in_band}
use Rattle.path_calc.proofs.energies.paths.find_others.Goals as goal

pub returns-clause-trace : goal.returns-clause-trace
returns-clause-trace c =
    let ends = c.args.between.now.ends in
    let line = Straight ends.s ends.r ∷ [] in
    let chains = flat_map (segments_in_band ends c.args.between.now.scene.now.obstacles) all_bands in
    let walls = λ (found : List Reflected). map (λ (path : Reflected). path.wall) found in
    let others : c.lateral_screening.new.trace ≡ line ++ chains =
    c.in_ok-lateral_screening.ensures.trace
    ∙ ap (λ (l : List Seg). l ++ chains) (c.in_ok-push.ensures ∙ ap (λ (l : List Seg). l ++ line) c.clear.ensures) in
    subst (λ (l : List Seg). OnOk c.add_walls.result (c.add_walls.new.trace ≡ l)) (
    ap (λ (l : List Seg). l ++ walls c.as_slice-2.result.now) others
    ∙ ap (λ (found : List Reflected). (line ++ chains) ++ walls found) c.as_slice-2.ensures.value) c.add_walls.ensures
