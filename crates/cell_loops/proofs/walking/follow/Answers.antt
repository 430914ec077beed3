use Rattle.std.proofs.Common.{◌∙◌, sym, ap}
use Rattle.cell_loops.proofs.Edges.{bounds-on, bounds-next}
use Rattle.cell_loops.proofs.Walks.{walk-starts, walk-bounds, walk-inside, walk-next_inside, walk-ends_at, walk-on_at, walk-smaller_at}
use Rattle.cell_loops.specs.Plane.{Plane}
use Rattle.cell_loops.specs.declared.corners.Edge.{Edge}
use Rattle.cell_loops.specs.Boundary.{bounds}
use Rattle.cell_loops.specs.inner.Steps.{IsOn}
use Rattle.cell_loops.proofs.walking.follow.Goals as goal

pub loop-points-init : goal.loop-points-init
loop-points-init c = rw c.new-points.ensures.items (walk-starts _ _ _ c.requires.bounds c.requires.whole)

pub place-requires : goal.place-requires
place-requires c = bounds-on c.args.region.now c.loop-points.edge (walk-bounds c.requires.bounds c.loop-points.invariant)

pub bounds-walked-place : goal.bounds-walked-place
bounds-walked-place c = walk-inside _ c.requires.bounds c.loop-points.invariant c.place.ensures

pub next-next-requires-clause-bounds : goal.next-next-requires-clause-bounds
next-next-requires-clause-bounds c = walk-bounds c.requires.bounds c.loop-points.invariant

pub place-requires-in-loop-points : goal.place-requires-in-loop-points
place-requires-in-loop-points c =
    bounds-on c.args.region.now c.next-next.result
    (ap (bounds c.args.region.now) c.next-next.ensures ∙ bounds-next c.args.region.now c.loop-points.edge (walk-bounds c.requires.bounds c.loop-points.invariant))

pub bounds-walked-place-in-loop-points : goal.bounds-walked-place-in-loop-points
bounds-walked-place-in-loop-points c =
    walk-next_inside _ _ c.next-next.result c.requires.bounds c.loop-points.invariant c.next-next.ensures c.place-in-loop-points.ensures

pub returns-then-walked-place-clause-points : goal.returns-then-walked-place-clause-points
returns-then-walked-place-clause-points c =
    c.from_vec.ensures
    ∙ (walk-ends_at c.place.result c.place-in-loop-points.result c.next-next.result _ c.requires.bounds c.requires.unwalked c.loop-points.invariant
    c.place.ensures c.next-next.ensures c.place-in-loop-points.ensures c.in_ok-push_turn.ensures c.if-walked-place.true).turns

pub returns-then-walked-place-clause-walked : goal.returns-then-walked-place-clause-walked
returns-then-walked-place-clause-walked c =
    (walk-ends_at c.place.result c.place-in-loop-points.result c.next-next.result _ c.requires.bounds c.requires.unwalked c.loop-points.invariant
    c.place.ensures c.next-next.ensures c.place-in-loop-points.ensures c.in_ok-push_turn.ensures c.if-walked-place.true).walked

pub loop-points-smaller : goal.loop-points-smaller
loop-points-smaller c = walk-smaller_at c.place.result c.requires.bounds c.requires.unwalked c.loop-points.invariant c.place.ensures

pub loop-points-preserved : goal.loop-points-preserved
loop-points-preserved c =
    walk-on_at c.place.result c.place-in-loop-points.result c.next-next.result _ c.requires.bounds c.loop-points.invariant
    c.place.ensures c.next-next.ensures c.place-in-loop-points.ensures c.in_ok-push_turn.ensures c.if-walked-place.false
