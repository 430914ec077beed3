-- The formulas of the condition for the size of a surface are sound: no divisor of a constant is 0.
use Rattle.std.proofs.Common.{ℕ, zero, suc, ◌<◌, arith}
use Rattle.std.specs.Prelude.{ℤ, pos, negsuc, ◌*ℤ◌, ◌<ℤ◌, unsigned_abs}
use Rattle.std.proofs.lemmas.Int.{ints}
use Rattle.fix_interval.specs.Tree.{Tree, IsSound}
use Rattle.scene_geom.specs.declared.plan.Side.{Side}
use Rattle.scene_geom.specs.declared.fractions.fraction.Frac.{Frac}
use Rattle.scene_geom.specs.declared.band.Band.{Band}
use Rattle.scene_geom.proofs.BandLemmas.{frequency-positive}
use Rattle.image_source.specs.Dimensions.{least_dimension, incidence, dimension_squared, legs_product, needed_squared}
use Rattle.image_source.specs.Laws.{ConditionIsSound}

square-positive : (d : ℤ) → pos 0 <ℤ d → 0 < unsigned_abs (d *ℤ d)
square-positive (pos zero) h = absurd (omega (arith, ints))
square-positive (pos (suc n)) h = omega (arith, ints)
square-positive (negsuc n) h = absurd (omega (arith, ints))

sound-least : (side : Side) (h : ℕ) → IsSound (least_dimension side h)
unfolding least_dimension
sound-least side h = (omega arith, omega arith)

sound-incidence : (side : Side) (p : Frac) (d : Tree) → IsSound d → IsSound (incidence side p d)
unfolding incidence
sound-incidence side p d k = ((omega arith, omega arith), k)

sound-legs : (p : Frac) (d : Tree) → IsSound d → IsSound (legs_product p d)
unfolding legs_product
sound-legs p d k = (square-positive p.d p.positive, k)

sound-dimension : (side : Side) (h : ℕ) (p : Frac) (d : Tree) → IsSound d → IsSound (dimension_squared side h p d)
unfolding dimension_squared
sound-dimension side h p d k = ((sound-least side h, sound-incidence side p d k), (sound-least side h, sound-incidence side p d k))

sound-needed : (p : Frac) (d : Tree) (band : Band) → IsSound d → IsSound (needed_squared p d band)
unfolding needed_squared
sound-needed p d band k = (frequency-positive band, sound-legs p d k)

pub condition-is-sound : ConditionIsSound
condition-is-sound side h p d band k = record { first = sound-dimension side h p d k; second = sound-needed p d band k }
