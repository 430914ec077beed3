use Rattle.std.proofs.Common.{arith}
use Rattle.scene_parts.proofs.SideLemmas.{no_more_sides, barrier-fewer, barrier-read, building-read, building-read_last}
use Rattle.scene_parts.proofs.screening.edges.side_at.Goals as goal

pub bounds-corners-i : goal.bounds-corners-i
bounds-corners-i c = omega (arith, c.requires.within, no_more_sides c.args.shape c.args.corners.now)

pub bounds-corners-i-in-Barrier : goal.bounds-corners-i-in-Barrier
bounds-corners-i-in-Barrier c = barrier-fewer c.args.shape c.args.corners.now c.args.i c.in-Barrier.is c.requires.within

pub returns-in-Barrier : goal.returns-in-Barrier
returns-in-Barrier c =
    barrier-read c.args.shape c.args.corners.now c.args.i c.index-corners-i.result c.index-corners-i-in-Barrier.result c.in-Barrier.is
    (barrier-fewer c.args.shape c.args.corners.now c.args.i c.in-Barrier.is c.requires.within)
    c.index-corners-i.is c.index-corners-i-in-Barrier.is

pub returns-in-Building : goal.returns-in-Building
returns-in-Building c =
    building-read c.args.shape c.args.corners.now c.args.i c.index-corners-i.result c.index-corners-i-in-Building.result c.in-Building.is
    c.if-i-corners.true c.index-corners-i.is c.index-corners-i-in-Building.is

pub returns-in-Building-2 : goal.returns-in-Building-2
returns-in-Building-2 c =
    building-read_last c.args.shape c.args.corners.now c.args.i c.index-corners-i.result c.index-corners-0.result c.in-Building.is
    c.requires.within c.if-i-corners.false c.index-corners-i.is c.index-corners-0.is
