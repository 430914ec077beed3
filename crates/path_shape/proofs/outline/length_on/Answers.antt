use Rattle.std.proofs.lemmas.Int.{ints}
use Rattle.scene_geom.specs.declared.plan.Pt.{Pt}
use Rattle.scene_geom.specs.Direction.{direct}
use Rattle.std.proofs.Common.{rules, sym, subst, ◌≡◌}
use Rattle.scene_geom.specs.declared.directions.direction.Dir.{Dir}
use Rattle.scene_geom.specs.Fraction.{FitsEnd}
use Rattle.scene_geom.specs.Direction.{FitsDirection}
use Rattle.path_shape.specs.declared.legs.Legs.{Legs}
use Rattle.path_shape.specs.declared.legs.Legs.TheVariants.{One}
use Rattle.path_shape.specs.declared.path.Path.{Path}
use Rattle.path_shape.specs.Shape.{IsPath, LegsFit}
use Rattle.path_shape.proofs.Fitting.{path-fits}
use Rattle.path_shape.proofs.Walking.{joined-is}
use Rattle.path_shape.proofs.outline.length_on.Goals as goal

straight : (path : Path) (dir : Dir) → IsPath path → path.legs ≡ One dir → FitsDirection dir
straight path dir is e =
    let fits : LegsFit (One dir) path.s path.r path.dp = subst (λ (legs : Legs). LegsFit legs path.s path.r path.dp) e is in
    subst FitsDirection (sym fits.0) (direct-fits path.s path.r)
  where
    direct-fits : (s r : Pt) → FitsDirection (direct s r)
    direct-fits s r = search (rules, ints, s.x_in_plan, s.y_in_plan, r.x_in_plan, r.y_in_plan)

pub length_inside-requires : goal.length_inside-requires
length_inside-requires c = straight c.args.path.now _ c.requires c.in-One.is

pub on_first_leg-requires-clause-dir : goal.on_first_leg-requires-clause-dir
on_first_leg-requires-clause-dir c = (path-fits c.args.path.now _ _ _ c.requires c.in-Two.is).first_fits

pub on_first_leg-requires-clause-end : goal.on_first_leg-requires-clause-end
on_first_leg-requires-clause-end c = (path-fits c.args.path.now _ _ _ c.requires c.in-Two.is).p_fits

pub rest_after-requires : goal.rest_after-requires
rest_after-requires c = (path-fits c.args.path.now _ _ _ c.requires c.in-Two.is).p_fits

pub on_second_leg-requires-clause-dir : goal.on_second_leg-requires-clause-dir
on_second_leg-requires-clause-dir c = (path-fits c.args.path.now _ _ _ c.requires c.in-Two.is).second_fits

pub on_second_leg-requires-clause-end : goal.on_second_leg-requires-clause-end
on_second_leg-requires-clause-end c =
    subst FitsEnd (sym c.rest_after.ensures) (path-fits c.args.path.now _ _ _ c.requires c.in-Two.is).rest_fits

pub returns-in-Two : goal.returns-in-Two
returns-in-Two c =
    rw (c.joined.ensures, c.on_first_leg.ensures, c.on_second_leg.ensures, c.rest_after.ensures, c.in-Two.is)
    (joined-is _ _ _ _)
