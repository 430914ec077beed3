-- What is heard with the paths so far.
use Rattle.std.proofs.Common.{◌≡◌, ◌+◌, take, map}
use Rattle.std.specs.Prelude.{fold}
use Rattle.fix_interval.specs.Tree.{Known, Add, enc}
use Rattle.path_calc.specs.inner.Ranges.{IsSumOf}
use Rattle.path_calc.specs.inner.Hearing.{downwind_energy, long_term_energy, reflected_energy}
use Rattle.path_calc.proofs.energies.hearing.with_reflected.Given as goal

abbrev pub invariant-loop-path : goal.invariant-loop-path
invariant-loop-path l = record {
  energy : l.all.energy ≡ enc (fold Add (Known l.fn.heard.energy) (map (reflected_energy downwind_energy l.band l.emission) (take l.path-index l.reflected)));
  long : l.all.long ≡ enc (fold Add (Known l.fn.heard.long) (map (reflected_energy (long_term_energy l.band) l.band l.emission) (take l.path-index l.reflected)));
  energy_bounds : IsSumOf (3 + l.path-index) l.all.energy;
  long_bounds : IsSumOf (3 + l.path-index) l.all.long;
}
