-- None so far is asked for.
use Rattle.std.proofs.Common.{◌≡◌, Bool, false, take}
use Rattle.std.specs.List.{list_any}
use Rattle.path_calc.proofs.reflected.reflections.is_any.Given as goal

abbrev pub invariant-loop-band : goal.invariant-loop-band
invariant-loop-band l = list_any (λ (band : Bool). band) (take l.band-index l.asked) ≡ false
