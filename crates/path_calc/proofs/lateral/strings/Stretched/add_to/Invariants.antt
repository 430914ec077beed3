-- What is added, and the segments from the corner where the string is, are all segments.
use Rattle.std.proofs.Common.{◌≡◌, ◌∷◌, [], ◌++◌, map, drop}
use Rattle.scene_geom.specs.Outline.{sides_along}
use Rattle.edge_chain.specs.Chain.{segments_of}
use Rattle.path_calc.specs.Trace.{straight}
use Rattle.path_calc.proofs.lateral.strings.Stretched.add_to.Given as goal

abbrev pub invariant-loop-corner : goal.invariant-loop-corner
invariant-loop-corner l =
    l.trace ++ map straight (sides_along (l.from ∷ (drop l.corner-index l.corner-items ++ l.ends.r ∷ [])))
    ≡ l.initial.trace ++ map straight (segments_of l.corner-items l.ends.s l.ends.r)
