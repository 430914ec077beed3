use Rattle.std.proofs.Common.{◌∙◌, arith}
use Rattle.std.proofs.lemmas.Int.{ints}
use Rattle.image_source.proofs.Even.{FitsEven, evens, rise-fits, whole-fits, whole-is, at_place_eq}
use Rattle.image_source.proofs.placing.between.Goals as goal

heights : (c : goal.After-struct_told-2-1) → FitsEven c.from-start.result c.from.result c.args.t
heights c =
    evens c.from-start.result c.from.result c.args.t 4294967295 51660000000000000000000000 (omega (arith, ints, c.from-start.ensures, c.ranges.hs.fits))
    (omega (arith, ints, c.from.ensures, c.ranges.hr.fits)) c.requires.above c.requires.below
    (omega arith) (omega arith) (omega arith) (omega arith) (omega arith)

pub overflow_mul-result-2 : goal.overflow_mul-result-2
overflow_mul-result-2 c = rise-fits _ _ _ (heights c)

pub overflow_add-result : goal.overflow_add-result
overflow_add-result c = whole-fits _ _ _ (heights c)

pub returns : goal.returns
returns c = whole-is _ _ _ (heights c) ∙ at_place_eq _ _ _ _ c.args.t c.from-start.ensures c.from.ensures
