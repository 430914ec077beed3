use Rattle.std.proofs.Common.{◌≡◌, ◌≤◌, unsigned_abs, drop, map}
use Rattle.std.specs.List.{fold}
use Rattle.std.specs.Int.{int_max, int_min}
use Rattle.scene_geom.specs.Point.{orient_of}
use Rattle.scene_geom.proofs.outline.extent.Given as goal

abbrev pub invariant-loop-c : goal.invariant-loop-c
invariant-loop-c l = record {
  least_within : unsigned_abs l.least ≤ 128000000000000;
  greatest_within : unsigned_abs l.greatest ≤ 128000000000000;
  least : fold int_min l.least (map (orient_of l.p l.q) (drop l.c-index l.rest)) ≡ fold int_min l.initial.least (map (orient_of l.p l.q) l.rest);
  greatest : fold int_max l.greatest (map (orient_of l.p l.q) (drop l.c-index l.rest)) ≡ fold int_max l.initial.greatest (map (orient_of l.p l.q) l.rest);
}
