use Rattle.std.proofs.Common.{◌≡◌, arith, ap, ◌∙◌, refl}
use Rattle.std.specs.Prelude.{ℤ, pos, ◌*ℤ◌, int_lt, ◌&&◌, true}
use Rattle.scene_geom.proofs.Whole.{product_fits, product_is}
use Rattle.scene_geom.proofs.Walls.{dot-abs}
use Rattle.scene_geom.specs.Point.{along}
use Rattle.scene_geom.specs.Reflection.{squared_length}
use Rattle.image_source.specs.Mirrors.{at_place, ahead}
use Rattle.std.proofs.lemmas.Int.{ints}
use Rattle.image_source.proofs.Even.{still, still-short}
use Rattle.image_source.proofs.reflecting.strikes.Goals as goal

pub overflow_mul-result : goal.overflow_mul-result
overflow_mul-result c =
    product_fits c.from.result c.args.p.d 128000000000000 256000000000000 (omega (arith, ints, c.from.ensures, still-short c.ahead.result c.ahead.ensures.within, c.ahead.ensures.within)) c.requires.below (omega arith) (omega arith) (omega arith)

-- both tests, the first of which holds
both : (place place' end end' : ℤ) → place ≡ place' → end ≡ end' → int_lt (pos 0) place ≡ true → int_lt place end ≡ (int_lt (pos 0) place' && int_lt place' end')
both place place' end end' e f h = rw (← e, ← f, h) refl

pub returns-then-place-gt0 : goal.returns-then-place-gt0
returns-then-place-gt0 c =
    let side = c.args.side in
    let p = c.args.p in
    let place = still c.ahead_at-place.result (omega (arith, ints, c.ahead_at-place.type_inv)) in
    let end = product_is c.from.result p.d 128000000000000 256000000000000 (omega (arith, ints, c.from.ensures, still-short c.ahead.result c.ahead.ensures.within, c.ahead.ensures.within)) c.requires.below (omega arith) (omega arith) (omega arith) in
    let square = c.from.ensures ∙ still-short c.ahead.result c.ahead.ensures.within ∙ c.ahead.ensures.value ∙ dot-abs (along side) in
    rw
    (place, end)
    (both c.ahead_at-place.result (at_place (ahead side c.args.ends.s) (ahead side c.args.ends.r) p) (c.from.result *ℤ p.d) (pos (squared_length side) *ℤ p.d)
    c.ahead_at-place.ensures (ap (λ (z : ℤ). z *ℤ p.d) square) (rw place at c.if-place-gt0.true))
