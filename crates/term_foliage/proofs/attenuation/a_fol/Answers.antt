use Rattle.std.proofs.Common.{sym, ap, ◌∙◌, map, subst, List, ◌*◌, ◌^◌, pos}
use Rattle.std.specs.List.{All}
use Rattle.fix_interval.specs.Bounds.{AreBetween}
use Rattle.fix_interval.specs.Interval.{Interval}
use Rattle.fix_interval.specs.Tree.{Known, enc}
use Rattle.scene_geom.specs.Bands.{all_bands}
use Rattle.term_foliage.specs.Foliage.{foliage_in, foliage_distance}
use Rattle.term_foliage.proofs.Bounds.{in-bands, none-distance, attenuations-between}
use Rattle.term_foliage.proofs.Counting.{any-some, any-none}
use Rattle.term_foliage.proofs.attenuation.a_fol.Goals as goal

pub returns-in-None-clause-value : goal.returns-in-None-clause-value
returns-in-None-clause-value c =
    c.in_bands.ensures
    ∙ ap (λ (i : Interval). map (λ band. enc (foliage_in band (Known i))) all_bands)
    (rw (c.mul.ensures, c.exact.ensures) (sym (none-distance c.args.foliage.now c.args.path.now (Known c.args.d) (any-none _ _ (sym c.in-None.is ∙ c.distance_through.ensures.value)))))
    ∙ in-bands (foliage_distance c.args.foliage.now c.args.path.now (Known c.args.d))

pub returns-in-Some-clause-value : goal.returns-in-Some-clause-value
returns-in-Some-clause-value c =
    c.in_bands-in-Some.ensures
    ∙ ap (λ (i : Interval). map (λ band. enc (foliage_in band (Known i))) all_bands) (any-some _ _ c.in-Some.through (sym c.in-Some.is ∙ c.distance_through.ensures.value))
    ∙ in-bands (foliage_distance c.args.foliage.now c.args.path.now (Known c.args.d))

pub returns-in-None-clause-bounds : goal.returns-in-None-clause-bounds
returns-in-None-clause-bounds c h =
    subst (λ (l : List Interval). All (AreBetween (pos 0) (pos (25 * 2 ^ 32))) l) (sym (returns-in-None-clause-value c)) (attenuations-between c.args.foliage.now c.args.path.now c.args.d h)

pub returns-in-Some-clause-bounds : goal.returns-in-Some-clause-bounds
returns-in-Some-clause-bounds c h =
    subst (λ (l : List Interval). All (AreBetween (pos 0) (pos (25 * 2 ^ 32))) l) (sym (returns-in-Some-clause-value c)) (attenuations-between c.args.foliage.now c.args.path.now c.args.d h)
