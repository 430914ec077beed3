-- No segment so far is blocked: what is left of the chain is blocked where all of it is.
use Rattle.std.proofs.Common.{◌≡◌, ◌++◌, ◌∷◌, [], drop}
use Rattle.std.specs.List.{list_any}
use Rattle.scene_geom.specs.Crossing.{blocks_of}
use Rattle.scene_geom.specs.Outline.{sides_along}
use Rattle.edge_chain.specs.Chain.{blocks_chain}
use Rattle.edge_chain.proofs.blocking.is_blocked.Given as goal

abbrev pub invariant-loop-point : goal.invariant-loop-point
invariant-loop-point l =
    list_any (λ segment. blocks_of l.side segment.from segment.to) (sides_along (l.from ∷ (drop l.point-index l.chain ++ l.r ∷ [])))
    ≡ blocks_chain l.chain l.fn.s l.r l.side
