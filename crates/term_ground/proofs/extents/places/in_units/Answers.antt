use Rattle.std.proofs.Common.{sym, arith}
use Rattle.term_ground.proofs.ShortEnds.{place-down, place-up-exact, place-up}
use Rattle.term_ground.proofs.extents.places.in_units.Goals as goal

pub returns-then-second-d-eq0-clause-down : goal.returns-then-second-d-eq0-clause-down
returns-then-second-d-eq0-clause-down c = place-down c.args.n c.args.d (omega (arith, c.requires.before))

pub returns-else-second-d-eq0-clause-down : goal.returns-else-second-d-eq0-clause-down
returns-else-second-d-eq0-clause-down c = place-down c.args.n c.args.d (omega (arith, c.requires.before))

pub returns-then-second-d-eq0-clause-up : goal.returns-then-second-d-eq0-clause-up
returns-then-second-d-eq0-clause-up c =
    sym (place-up-exact c.args.n c.args.d (omega (arith, c.requires.before)) c.if-second-d-eq0.true)

pub returns-else-second-d-eq0-clause-up : goal.returns-else-second-d-eq0-clause-up
returns-else-second-d-eq0-clause-up c =
    sym (place-up c.args.n c.args.d (omega (arith, c.requires.before)) (omega (arith, c.if-second-d-eq0.false)))
