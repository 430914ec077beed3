use Rattle.std.proofs.Common.{arith}
use Rattle.std.proofs.lemmas.Int.{ints, clamps}
use Rattle.term_ground.proofs.extents.beyond.Goals as goal

pub returns : goal.returns
returns c =
    omega (arith, ints, clamps, c.requires.place, c.requires.end, c.requires.start, c.min.ensures.value, c.max.ensures.value)
