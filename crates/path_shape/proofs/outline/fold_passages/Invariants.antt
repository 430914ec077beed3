use Rattle.std.proofs.Common.{[], ◌∷◌, ◌++◌, drop}
use Rattle.std.specs.List.{FoldsTo}
use Rattle.scene_geom.specs.Outline.{ring, sides_along, passages_of}
use Rattle.path_shape.proofs.outline.fold_passages.Given as goal

abbrev pub invariant-loop-next : goal.invariant-loop-next
invariant-loop-next g l =
    goal.F-IsAlwaysCallable g l.add
    × ((last : _)
    → FoldsTo (λ a passage b. goal.F-post g l.fn.add a passage b) l.value (passages_of (sides_along (l.corner ∷ (drop l.next-index l.rest ++ l.first ∷ []))) l.from l.dir) last
    → FoldsTo (λ a passage b. goal.F-post g l.fn.add a passage b) l.fn.start (passages_of (ring l.fn.outline) l.from l.dir) last)
