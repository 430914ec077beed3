use Rattle.std.proofs.Common.{sym, subst}
use Rattle.scene_geom.specs.Fraction.{FitsEnd}
use Rattle.path_shape.proofs.Fitting.{path-fits}
use Rattle.term_ground.proofs.legs.route.route_of.Goals as goal

pub leg_from-requires-in-Two-clause-dir : goal.leg_from-requires-in-Two-clause-dir
leg_from-requires-in-Two-clause-dir c = (path-fits c.args.path.now _ _ _ c.requires c.in-Two.is).first_fits

pub leg_from-requires-in-Two-clause-end : goal.leg_from-requires-in-Two-clause-end
leg_from-requires-in-Two-clause-end c = (path-fits c.args.path.now _ _ _ c.requires c.in-Two.is).p_fits

pub leg_from-requires-in-Two-2-clause-dir : goal.leg_from-requires-in-Two-2-clause-dir
leg_from-requires-in-Two-2-clause-dir c = (path-fits c.args.path.now _ _ _ c.requires c.in-Two.is).second_fits

pub leg_from-requires-in-Two-2-clause-end : goal.leg_from-requires-in-Two-2-clause-end
leg_from-requires-in-Two-2-clause-end c =
    subst FitsEnd (sym c.rest_after.ensures) (path-fits c.args.path.now _ _ _ c.requires c.in-Two.is).rest_fits
