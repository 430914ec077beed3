use Rattle.std.proofs.Common.{◌∙◌, arith}
use Rattle.std.proofs.lemmas.Int.{ints}
use Rattle.image_source.proofs.Even.{FitsEven, evens, way-fits, rise-fits, whole-fits, whole-is, at_place_eq, still-short}
use Rattle.scene_geom.proofs.Whole.{product_fits}
use Rattle.image_source.proofs.placing.ahead_at.Goals as goal

places : (c : goal.After-struct_told-2-1) → FitsEven c.from-start.result c.from-end.result c.args.p
places c =
    evens c.from-start.result c.from-end.result c.args.p 128000000000000 256000000000000 (omega (arith, ints, c.from-start.ensures, still-short c.ahead.result c.ahead.ensures.within, c.ahead.ensures.within)) (omega (arith, ints, c.from-end.ensures, still-short c.ahead-2.result c.ahead-2.ensures.within, c.ahead-2.ensures.within)) c.requires.above c.requires.below
    (omega arith) (omega arith) (omega arith) (omega arith) (omega arith)

pub overflow_mul-result : goal.overflow_mul-result
overflow_mul-result c =
    product_fits c.from-start.result c.args.p.d 128000000000000 256000000000000 (omega (arith, ints, c.from-start.ensures, still-short c.ahead.result c.ahead.ensures.within, c.ahead.ensures.within)) c.requires.below (omega arith) (omega arith) (omega arith)

pub overflow_sub-result : goal.overflow_sub-result
overflow_sub-result c =
    way-fits c.from-start.result c.from-end.result c.args.p
    (evens c.from-start.result c.from-end.result c.args.p 128000000000000 256000000000000
    (omega (arith, ints, c.from-start.ensures, still-short c.ahead.result c.ahead.ensures.within, c.ahead.ensures.within))
    (omega (arith, ints, c.from-end.ensures, still-short c.ahead-2.result c.ahead-2.ensures.within, c.ahead-2.ensures.within))
    c.requires.above c.requires.below (omega arith) (omega arith) (omega arith) (omega arith) (omega arith))

pub overflow_mul-result-2 : goal.overflow_mul-result-2
overflow_mul-result-2 c = rise-fits _ _ _ (places c)

pub overflow_add-result : goal.overflow_add-result
overflow_add-result c = whole-fits _ _ _ (places c)

pub returns : goal.returns
returns c = whole-is _ _ _ (places c) ∙ at_place_eq _ _ _ _ c.args.p (c.from-start.ensures ∙ still-short c.ahead.result c.ahead.ensures.within ∙ c.ahead.ensures.value) (c.from-end.ensures ∙ still-short c.ahead-2.result c.ahead-2.ensures.within ∙ c.ahead-2.ensures.value)
