use Rattle.std.proofs.Common.{sym, ◌∙◌}
use Rattle.std.specs.Prelude.{None, Some}
use Rattle.term_foliage.proofs.Counting.{length-is}
use Rattle.term_foliage.proofs.distance.length_in.Goals as goal

pub returns-in-None : goal.returns-in-None
returns-in-None c = rw (← c.foliage.view_is) (length-is c.args.path.now c.foliage.inside.points c.foliage.inside.h None (sym c.in-None.is ∙ c.low_stretch.ensures))

pub returns-in-Some : goal.returns-in-Some
returns-in-Some c =
    rw (c.length_on.ensures, c.items.ensures, ← c.foliage.view_is)
    (length-is c.args.path.now c.foliage.inside.points c.foliage.inside.h (Some c.in-Some.stretch) (sym c.in-Some.is ∙ c.low_stretch.ensures))
