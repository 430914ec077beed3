use Rattle.std.proofs.Common.{◌≡◌, ◌≤◌, ◌∙◌, arith, refl}
use Rattle.std.specs.Prelude.{ℤ, pos, ◌+ℤ◌, ◌*ℤ◌, unsigned_abs, int_lt, ◌&&◌, true, false}
use Rattle.std.proofs.lemmas.Int.{ints}
use Rattle.image_source.proofs.Even.{still, still-short}
use Rattle.image_source.proofs.facing.strikes.Goals as goal
use Rattle.image_source.proofs.facing.strikes.Goals.{After-product-2}
use mir.Syntax.{w64, w128}
use mir.Val.{to_z, of_z}

pub overflow_add-before : goal.overflow_add-before
overflow_add-before c = omega (arith, ints, c.requires.before, c.requires.behind, still-short c.args.before c.requires.before, still-short c.args.behind c.requires.behind)

-- sums as the code has them
short-sum : (x y : ℤ) → unsigned_abs x ≤ 128000000000000 → unsigned_abs y ≤ 128000000000000
    → to_z w64 (of_z w64 (to_z w64 (of_z w64 x) +ℤ to_z w64 (of_z w64 y))) ≡ x +ℤ y
short-sum x y hx hy = omega (arith, ints)

sum-is : (x y a b : ℤ) → x ≡ a → y ≡ b → unsigned_abs x ≤ 32768000000000000000000000000 → unsigned_abs y ≤ 32768000000000000000000000000
    → to_z w128 (of_z w128 (to_z w128 (of_z w128 x) +ℤ to_z w128 (of_z w128 y))) ≡ a +ℤ b
sum-is x y a b e f hx hy = omega (arith, ints)

times-same : (a b a' b' : ℤ) → a ≡ a' → b ≡ b' → a *ℤ b ≡ a' *ℤ b'
times-same a b a' b' e f = rw (e, f) refl

both : (place place' end end' : ℤ) → place ≡ place' → end ≡ end' → int_lt (pos 0) place ≡ true → int_lt place end ≡ (int_lt (pos 0) place' && int_lt place' end')
both place place' end end' e f h = rw (← e, ← f, h) refl

first : (place place' end' : ℤ) → place ≡ place' → int_lt (pos 0) place ≡ false → int_lt (pos 0) place ≡ (int_lt (pos 0) place' && int_lt place' end')
first place place' end' e h = rw (← e, h) refl

place-is : (c : After-product-2)
    → to_z w128 (of_z w128 (to_z w128 (of_z w128 c.product.result) +ℤ to_z w128 (of_z w128 c.product-2.result)))
    ≡ c.args.source *ℤ c.args.behind +ℤ c.args.receiver *ℤ c.args.before
place-is c =
    sum-is c.product.result c.product-2.result (c.args.source *ℤ c.args.behind) (c.args.receiver *ℤ c.args.before)
    (c.product.ensures.value ∙ times-same _ _ _ _ (still-short c.args.source c.requires.source) (still-short c.args.behind c.requires.behind))
    (c.product-2.ensures.value ∙ times-same _ _ _ _ (still-short c.args.receiver c.requires.receiver) (still-short c.args.before c.requires.before))
    c.product.ensures.within c.product-2.ensures.within

pub returns-then-place-gt0 : goal.returns-then-place-gt0
returns-then-place-gt0 c =
    let end : to_z w128 (of_z w128 c.product-then-place-gt0.result) ≡ c.args.end *ℤ (c.args.before +ℤ c.args.behind) =
    still c.product-then-place-gt0.result (omega (arith, c.product-then-place-gt0.ensures.within))
    ∙ c.product-then-place-gt0.ensures.value
    ∙ times-same _ _ _ _ (still-short c.args.end c.requires.end) (short-sum c.args.before c.args.behind c.requires.before c.requires.behind) in
    both _ _ _ _ (place-is (goal.at.returns-then-place-gt0 c).After-product-2) end c.if-place-gt0.true

pub returns-else-place-gt0 : goal.returns-else-place-gt0
returns-else-place-gt0 c = first _ _ (c.args.end *ℤ (c.args.before +ℤ c.args.behind)) (place-is (goal.at.returns-else-place-gt0 c).After-product-2) c.if-place-gt0.false
