use Rattle.std.proofs.Common.{arith, refl}
use Rattle.std.proofs.lemmas.Int.{ints}
use Rattle.term_ground.proofs.PlacesOn.{before-start, behind-end}
use Rattle.term_ground.proofs.extents.places.short_place.Goals as goal

pub returns-then-n-le0 : goal.returns-then-n-le0
returns-then-n-le0 c =
    before-start c.args.n c.args.d c.requires.numerator c.requires.positive _ (omega (arith, ints, c.if-n-le0.true)) refl refl

pub returns-then-d-unsigned_abs : goal.returns-then-d-unsigned_abs
returns-then-d-unsigned_abs c =
    behind-end c.args.n c.args.d c.requires.numerator c.requires.positive _
    (omega (arith, ints, c.if-n-le0.false, c.unsigned_abs.ensures, c.if-d-unsigned_abs.true)) refl refl
