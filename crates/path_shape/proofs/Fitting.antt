-- The legs of a path by way of a wall fit into the bounds under which sides are looked for on them.
use Rattle.std.proofs.Common.{◌≡◌, sym, subst}
use Rattle.fix_interval.specs.Interval.{Interval}
use Rattle.scene_geom.specs.declared.plan.Pt.{Pt}
use Rattle.scene_geom.specs.declared.directions.direction.Dir.{Dir}
use Rattle.scene_geom.specs.declared.fractions.fraction.Frac.{Frac}
use Rattle.scene_geom.specs.Direction.{FitsDirection}
use Rattle.scene_geom.specs.Fraction.{FitsEnd, rest_of}
use Rattle.scene_geom.proofs.Walls.{unfolded-fits}
use Rattle.path_shape.specs.declared.legs.Legs.{Legs}
use Rattle.path_shape.specs.declared.legs.Legs.TheVariants.{Two}
use Rattle.path_shape.specs.declared.path.Path.{Path}
use Rattle.path_shape.specs.Shape.{AreReflected, IsPath, LegsFit}

pub record FitLegs (first second : Dir) (p : Frac) : Type 0 where
  pub first_fits : FitsDirection first
  pub second_fits : FitsDirection second
  pub p_fits : FitsEnd p
  pub rest_fits : FitsEnd (rest_of p)

pub reflected-fit : (first second : Dir) (p : Frac) (s r : Pt) (dp : Interval) → AreReflected first second p s r dp → FitLegs first second p
reflected-fit first second p s r dp h =
    let fits = unfolded-fits h.side s r h.can_reflect in
    record {
      first_fits = subst FitsDirection (sym h.first_is) fits.first;
      second_fits = subst FitsDirection (sym h.second_is) fits.second;
      p_fits = subst FitsEnd (sym h.p_is) fits.p;
      rest_fits = subst (λ (q : Frac). FitsEnd (rest_of q)) (sym h.p_is) fits.rest;
    }

-- the legs of a path by way of a wall
pub path-fits : (path : Path) (first second : Dir) (p : Frac) → IsPath path → path.legs ≡ Two first second p → FitLegs first second p
path-fits path first second p is e =
    reflected-fit first second p path.s path.r path.dp (subst (λ (legs : Legs). LegsFit legs path.s path.r path.dp) e is)
