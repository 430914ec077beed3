use Rattle.std.proofs.Common.{sym, ap, subst, ◌∙◌, ◌^◌, pos, map}
use Rattle.std.specs.Option.{option_map}
use Rattle.fix_interval.specs.Bounds.{AreBetween}
use Rattle.fix_interval.specs.Interval.{Interval}
use Rattle.fix_interval.specs.Tree.{Known, Max, Min, Mul, enc}
use Rattle.path_shape.specs.Forms.{zero_form, one_form}
use Rattle.scene_geom.specs.Bands.{all_bands}
use Rattle.term_foliage.specs.Foliage.{foliage_in, foliage_distance}
use Rattle.term_foliage.proofs.Bounds.{in-bands, none-attenuations, distance-between}
use Rattle.term_foliage.proofs.Counting.{any-map, any-some, any-none}
use Rattle.term_foliage.proofs.distance.distance_through.Goals as goal

pub returns-in-None-clause-value : goal.returns-in-None-clause-value
returns-in-None-clause-value c =
    ap (option_map (λ (i : Interval). enc (Mul (Max zero_form (Min one_form (Known i))) (Known c.args.d)))) (sym c.in-None.is ∙ c.length_in_all.ensures)
    ∙ any-map (λ (i : Interval). enc (Mul (Max zero_form (Min one_form (Known i))) (Known c.args.d))) _ _

pub returns-in-Some-clause-value : goal.returns-in-Some-clause-value
returns-in-Some-clause-value c =
    rw (c.mul.ensures, c.max.ensures, c.min.ensures, c.exact.ensures, c.exact-in-Some.ensures)
    (ap (option_map (λ (i : Interval). enc (Mul (Max zero_form (Min one_form (Known i))) (Known c.args.d)))) (sym c.in-Some.is ∙ c.length_in_all.ensures)
    ∙ any-map (λ (i : Interval). enc (Mul (Max zero_form (Min one_form (Known i))) (Known c.args.d))) _ _)

pub returns-in-Some-clause-bounds : goal.returns-in-Some-clause-bounds
returns-in-Some-clause-bounds c h =
    subst (AreBetween (pos 0) (pos (2 ^ 60))) (sym (any-some _ _ c.mul.result (returns-in-Some-clause-value c)))
    (distance-between c.args.foliage.now c.args.path.now c.args.d h)

pub returns-in-None-clause-attenuations : goal.returns-in-None-clause-attenuations
returns-in-None-clause-attenuations c h =
    sym (none-attenuations c.args.foliage.now c.args.path.now c.args.d (any-none _ _ (sym c.in-None.is ∙ c.length_in_all.ensures)) h)

pub returns-in-Some-clause-attenuations : goal.returns-in-Some-clause-attenuations
returns-in-Some-clause-attenuations c h =
    ap (λ (i : Interval). map (λ band. enc (foliage_in band (Known i))) all_bands) (any-some _ _ c.mul.result (returns-in-Some-clause-value c))
    ∙ in-bands (foliage_distance c.args.foliage.now c.args.path.now (Known c.args.d))
