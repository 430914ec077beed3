-- The energies of the sounds over the top, round the sides and by way of walls, added one after another, are the sum of all.
use Rattle.std.proofs.Common.{◌≡◌, pos, List, ◌∷◌, map, ap, subst, ◌∙◌}
use Rattle.std.specs.Prelude.{Option, Some, fold}
use Rattle.std.specs.Option.{option_map}
use Rattle.fix_interval.specs.Interval.{Interval}
use Rattle.fix_interval.specs.Tree.{Tree, Known, Const, Add, enc}
use Rattle.scene_geom.specs.declared.band.Band.{Band}
use Rattle.path_calc.specs.declared.lateral.LateralScreening.{LateralScreening}
use Rattle.path_calc.specs.declared.energies.paths.Paths.{Paths}
use Rattle.path_calc.specs.inner.Propagations.{Reflected}
use Rattle.path_calc.specs.inner.Losses.{loss_in}
use Rattle.path_calc.specs.Energies.{sum_form}
use Rattle.path_calc.specs.inner.Ranges.{IsSumOf}
use Rattle.path_calc.specs.inner.Strings.{both_of}
use Rattle.path_calc.specs.inner.Hearing.{power_at, level_before, past, with_energy, screening_at, lateral_at, screenings_at, reflected_energy, sum_after}
use Rattle.path_calc.proofs.Alike.{sum-on}
use Rattle.path_calc.proofs.Sums.{sound-and-more}

-- by what makes an energy of C_met and a level
module _ (energy : Tree → Tree → Tree) (paths : Paths) (band : Band) (emission : Interval) where
  -- the energy of a level past what screens it
  abbrev past_screen : Interval → Interval → Tree
  past_screen level screening = energy (Known paths.direct.correction) (past level screening (loss_in paths.direct.foliage band))

  abbrev more : Interval → Interval → Option Interval → Interval
  more level heard screening = with_energy heard (option_map (λ i. enc (past_screen level i)) screening)

  direct-and-lateral : (level over : Interval) (lateral : LateralScreening) (heard : Interval)
      → level ≡ enc (level_before paths.direct band (power_at paths.direct emission)) → over ≡ screening_at paths.direct band → both_of lateral ≡ lateral_at paths band
      → IsSumOf 1 (enc (past_screen level over)) → heard ≡ more level (more level (enc (past_screen level over)) lateral.left) lateral.right
      → heard ≡ enc (sum_form (map (past_screen (enc (level_before paths.direct band (power_at paths.direct emission)))) (screenings_at paths band)))
  direct-and-lateral level over lateral heard level-is over-is lateral-is small is =
      sound-and-more (past_screen level) over lateral.left lateral.right heard small is
      ∙ ap (λ (is : List Interval). enc (sum_form (map (past_screen level) (over ∷ is)))) lateral-is
      ∙ ap (λ (i : Interval). enc (sum_form (map (past_screen level) (i ∷ lateral_at paths band)))) over-is
      ∙ ap (λ (l : Interval). enc (sum_form (map (past_screen l) (screenings_at paths band)))) level-is

  pub all-sounds : (level over : Interval) (lateral : LateralScreening) (walls : List Reflected) (first left right all : Interval)
      → level ≡ enc (level_before paths.direct band (power_at paths.direct emission)) → over ≡ screening_at paths.direct band → both_of lateral ≡ lateral_at paths band → walls ≡ paths.reflected.items
      → first ≡ enc (past_screen level over) → IsSumOf 1 first → left ≡ more level first lateral.left → right ≡ more level left lateral.right
      → all ≡ enc (fold Add (Known right) (map (reflected_energy energy band emission) walls))
      → all ≡ sum_after energy paths band (Some emission)
  all-sounds level over lateral walls first left right all level-is over-is lateral-is walls-are first-is small left-is right-is is =
      let heard = direct-and-lateral level over lateral right level-is over-is lateral-is (subst (IsSumOf 1) first-is small)
      (right-is ∙ ap (λ (i : Interval). more level i lateral.right) (left-is ∙ ap (λ (i : Interval). more level i lateral.left) first-is)) in
      is
      ∙ ap (λ (ms : List Reflected). enc (fold Add (Known right) (map (reflected_energy energy band emission) ms))) walls-are
      ∙ sum-on (Const (pos 0) 1) (Known right) (map (past_screen (enc (level_before paths.direct band (power_at paths.direct emission)))) (screenings_at paths band))
      (map (reflected_energy energy band emission) paths.reflected.items) heard
