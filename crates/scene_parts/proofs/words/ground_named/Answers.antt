use Rattle.std.proofs.Common.{◌∙◌, sym, refl}
use Rattle.scene_parts.specs.Checking.{ground_of}
use Rattle.scene_parts.proofs.words.ground_named.Goals as goal

pub returns-then-is : goal.returns-then-is
unfolding ground_of
returns-then-is c = rw (sym c.is.ensures ∙ c.if-is.true) refl

pub returns-then-is-2 : goal.returns-then-is-2
unfolding ground_of
returns-then-is-2 c =
    rw (sym c.is.ensures ∙ c.if-is.false, sym c.is-else-is.ensures ∙ c.if-is-2.true) refl

pub returns-else-is-2 : goal.returns-else-is-2
unfolding ground_of
returns-else-is-2 c =
    rw (sym c.is.ensures ∙ c.if-is.false, sym c.is-else-is.ensures ∙ c.if-is-2.false) refl
