-- The energies so far are taken off, and the other sums are as they were.
use Rattle.std.proofs.Common.{◌≡◌, ℕ, ◌-◌, ◌<◌, ◌≤◌, pos, length, get_or}
use Rattle.std.specs.Prelude.{Some}
use Rattle.fix_interval.specs.Interval.{Interval}
use Rattle.energy_sum.specs.Sums.{units_of}
use Rattle.path_cache.proofs.sums.take_each_off.Given as goal

abbrev pub invariant-loop-place : goal.invariant-loop-place
invariant-loop-place l = record {
  eight : length l.sums ≡ 8;
  low : (k : ℕ) (d e : Interval) → k < l.place
      → (get_or l.sums k d).lo ≡ Some (pos (units_of (get_or l.fn.sums k d).lo - units_of (get_or l.energies k e).lo));
  high : (k : ℕ) (d e : Interval) → k < l.place
      → (get_or l.sums k d).hi ≡ Some (pos (units_of (get_or l.fn.sums k d).hi - units_of (get_or l.energies k e).hi));
  rest : (k : ℕ) (d : Interval) → l.place ≤ k → get_or l.sums k d ≡ get_or l.fn.sums k d;
}
