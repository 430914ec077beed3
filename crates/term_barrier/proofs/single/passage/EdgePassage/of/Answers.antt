use Rattle.std.proofs.Common.{refl}
use Rattle.term_barrier.specs.Edges.{slant}
use Rattle.term_barrier.proofs.single.passage.EdgePassage.of.Goals as goal

pub returns : goal.returns
unfolding slant
returns c =
    rw (
      c.slant.ensures,
      c.mul.ensures,
      c.mul-2.ensures,
      c.sub.ensures,
      c.mul-before.ensures,
      c.metres.ensures,
      c.rise-over_source.ensures,
      c.rise.ensures,
      c.rest.ensures,
      c.place-place.ensures,
      c.across-x.ensures,
      c.beside-y.ensures,
    )
    refl
