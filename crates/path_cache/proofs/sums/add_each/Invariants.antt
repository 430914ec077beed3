-- The energies so far are added, and the other sums are as they were.
use Rattle.std.proofs.Common.{◌≡◌, ℕ, ◌<◌, ◌≤◌, length, get_or}
use Rattle.fix_interval.specs.Interval.{Interval, IsInterval}
use Rattle.fix_interval.specs.Values.{add_of}
use Rattle.path_cache.proofs.sums.add_each.Given as goal

abbrev pub invariant-loop-place : goal.invariant-loop-place
invariant-loop-place l = record {
  eight : length l.sums ≡ 8;
  done : (k : ℕ) (d e : Interval) → k < l.place → get_or l.sums k d ≡ add_of (get_or l.fn.sums k d) (get_or l.energies k e);
  rest : (k : ℕ) (d : Interval) → l.place ≤ k → get_or l.sums k d ≡ get_or l.fn.sums k d;
  whole : (k : ℕ) (e : Interval) → k < l.place → IsInterval (get_or l.energies k e);
}
