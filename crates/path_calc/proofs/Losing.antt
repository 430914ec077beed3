-- What foliage takes off in each band, and that nothing is taken off where nothing is in the way.
use Rattle.std.proofs.Common.{◌≡◌, pos, List, length, sym, ap, ◌∙◌, subst, arith}
use Rattle.std.specs.Prelude.{All, Option, Some, None, slice_index_or}
use Rattle.std.proofs.lemmas.Int.{ints}
use Rattle.std.proofs.lemmas.List.Elements.{All-get_or}
use Rattle.fix_interval.specs.Interval.{Interval}
use Rattle.fix_interval.specs.Values.{sub_of}
use Rattle.fix_interval.specs.Tree.{Known, Const, enc}
use Rattle.scene_geom.specs.declared.band.Band.{Band}
use Rattle.scene_geom.specs.Bands.{place_of}
use Rattle.scene_parts.specs.Parts.{Foliage}
use Rattle.path_shape.specs.declared.path.Path.{Path}
use Rattle.term_barrier.specs.Limits.{IsDistance}
use Rattle.term_foliage.specs.Foliage.{foliage_in, attenuations_over}
use Rattle.term_foliage.proofs.Bounds.{attenuations-between}
use Rattle.path_calc.specs.inner.Losses.{IsFoliageLoss, AreLosses, losses_along, loss_in}
use Rattle.path_calc.specs.inner.BarrierAttenuations.{attenuations_in}
use Rattle.path_calc.specs.inner.Ranges.{IsUnscreened, IsScreened}
use Rattle.path_calc.proofs.Eight.{at-place, place-below}
use Rattle.path_calc.proofs.Sums.{are-small, less-nothing}

pub losses-kept : (foliage : List Foliage) (path : Path) (d : Interval) (through : Option Interval) → IsDistance d
    → attenuations_over through ≡ losses_along foliage path d → AreLosses (attenuations_over through)
losses-kept foliage path d through h is =
    record { each = subst (All IsFoliageLoss) (sym is) (attenuations-between foliage path d h); bands = ap length is }

-- over a distance
pub loss-over : (losses : List Interval) (kept : Option Interval) (through : Interval) (band : Band) → losses ≡ attenuations_over kept → kept ≡ Some through
    → enc (foliage_in band (Known through)) ≡ loss_in losses band
loss-over losses kept through band seen is =
    sym (at-place (λ (b : Band). enc (foliage_in b (Known through))) (enc (Const (pos 0) 1)) band)
    ∙ ap (λ (ls : List Interval). loss_in ls band) (sym (seen ∙ ap attenuations_over is))

pub loss-between : (losses : List Interval) (band : Band) → AreLosses losses → IsFoliageLoss (loss_in losses band)
loss-between losses band are =
    All-get_or IsFoliageLoss losses (place_of band) (enc (Const (pos 0) 1)) (rw are.bands (place-below band)) are.each

-- a level less nothing, past foliage and past what screens it
pub nothing-lost : (losses : List Interval) (level : Interval) (band : Band) → IsScreened level → losses ≡ attenuations_over None → level ≡ sub_of level (loss_in losses band)
nothing-lost losses level band small is =
    sym (less-nothing level (are-small _ _ level small (omega (arith, ints)) (omega (arith, ints))))
    ∙ ap (sub_of level) (sym (at-place (λ (b : Band). enc (Const (pos 0) 1)) (enc (Const (pos 0) 1)) band))
    ∙ ap (λ (ls : List Interval). sub_of level (loss_in ls band)) (sym is)

pub nothing-screened : (bars : List Interval) (level default : Interval) (band : Band) → IsUnscreened level → bars ≡ attenuations_in None
    → level ≡ sub_of level (slice_index_or bars (place_of band) default)
nothing-screened bars level default band small is =
    sym (less-nothing level (are-small _ _ level small (omega (arith, ints)) (omega (arith, ints))))
    ∙ ap (sub_of level) (sym (at-place (λ (b : Band). enc (Const (pos 0) 1)) default band))
    ∙ ap (λ (ls : List Interval). sub_of level (slice_index_or ls (place_of band) default)) (sym is)
