-- Between code and definitions: the segments that a list of them holds.
use Rattle.std.specs.Prelude.{List, [], ◌∷◌}
use Rattle.path_calc.specs.declared.bundles.segments.Seg.{Seg}
use Rattle.path_calc.specs.declared.bundles.segments.Held.{Held}
use Rattle.path_calc.specs.declared.bundles.segments.Held.TheVariants.{Nothing, One, Many}

abbrev pub segments_in : Held → List Seg
segments_in (Nothing alloc) = []
segments_in (One alloc segment) = segment ∷ []
segments_in (Many segments) = segments.items
