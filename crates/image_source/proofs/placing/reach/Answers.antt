use Rattle.std.proofs.Common.{◌≡◌, ◌≤◌, ◌∙◌, refl, arith}
use Rattle.std.specs.Prelude.{ℤ, ◌+ℤ◌, ◌*ℤ◌, unsigned_abs}
use Rattle.std.proofs.lemmas.Int.{ints, fits_signed_from_abs}
use Rattle.scene_geom.proofs.Whole.{abs-mul}
use Rattle.image_source.proofs.Reaching.{still-wide, sum-within}
use Rattle.image_source.proofs.placing.reach.Goals as goal
use Rattle.image_source.proofs.placing.reach.Goals.{After-from-4}
use mir.Syntax.{w64}
use mir.Val.{SFits, to_z, of_z}

-- the numbers that are multiplied
record AreFew (a c b d : ℤ) : Type 0 where
  x : unsigned_abs a ≤ 4000000
  dx : unsigned_abs c ≤ 8000000
  y : unsigned_abs b ≤ 4000000
  dy : unsigned_abs d ≤ 8000000

few : (c : After-from-4) → AreFew c.from.result c.from-2.result c.from-3.result c.from-4.result
few c = record {
  x = omega (arith, ints, c.from.ensures, c.args.p.x_in_plan.low, c.args.p.x_in_plan.high);
  dx = omega (arith, ints, c.from-2.ensures, c.requires.across);
  y = omega (arith, ints, c.from-3.ensures, c.args.p.y_in_plan.low, c.args.p.y_in_plan.high);
  dy = omega (arith, ints, c.from-4.ensures, c.requires.upward);
}

-- a product as the code has it
product : (a c : ℤ) → unsigned_abs a ≤ 4000000 → unsigned_abs c ≤ 8000000 → to_z w64 (of_z w64 (to_z w64 (of_z w64 a) *ℤ to_z w64 (of_z w64 c))) ≡ a *ℤ c
product a c h k =
    rw (still-wide a (omega (arith, h)), still-wide c (omega (arith, k))) (still-wide (a *ℤ c) (omega (arith, abs-mul a c 4000000 8000000 h k)))

-- and a sum
sum-fits : (a c b d : ℤ) → AreFew a c b d
    → SFits w64 (to_z w64 (of_z w64 (to_z w64 (of_z w64 a) *ℤ to_z w64 (of_z w64 c))) +ℤ to_z w64 (of_z w64 (to_z w64 (of_z w64 b) *ℤ to_z w64 (of_z w64 d))))
sum-fits a c b d h =
    rw (product a c h.x h.dx, product b d h.y h.dy) (fits_signed_from_abs w64 (a *ℤ c +ℤ b *ℤ d) (omega (arith, sum-within a b c d h.x h.y h.dx h.dy)))

sum-is : (a c b d : ℤ) → AreFew a c b d
    → to_z w64 (of_z w64 (to_z w64 (of_z w64 (to_z w64 (of_z w64 a) *ℤ to_z w64 (of_z w64 c))) +ℤ to_z w64 (of_z w64 (to_z w64 (of_z w64 b) *ℤ to_z w64 (of_z w64 d))))) ≡ a *ℤ c +ℤ b *ℤ d
sum-is a c b d h =
    rw (product a c h.x h.dx, product b d h.y h.dy) (still-wide (a *ℤ c +ℤ b *ℤ d) (omega (arith, sum-within a b c d h.x h.y h.dx h.dy)))

same : (a c b d a' c' b' d' : ℤ) → a ≡ a' → c ≡ c' → b ≡ b' → d ≡ d' → a *ℤ c +ℤ b *ℤ d ≡ a' *ℤ c' +ℤ b' *ℤ d'
same a c b d a' c' b' d' e f g h = rw (e, f, g, h) refl

pub overflow_add-result : goal.overflow_add-result
overflow_add-result c = sum-fits _ _ _ _ (few c)

pub returns-clause-value : goal.returns-clause-value
returns-clause-value c =
    let x : c.from.result ≡ c.args.p.x = omega (arith, ints, c.from.ensures, c.args.p.x_in_plan.low, c.args.p.x_in_plan.high) in
    let dx : c.from-2.result ≡ c.args.dx = omega (arith, ints, c.from-2.ensures, c.requires.across) in
    let y : c.from-3.result ≡ c.args.p.y = omega (arith, ints, c.from-3.ensures, c.args.p.y_in_plan.low, c.args.p.y_in_plan.high) in
    let dy : c.from-4.result ≡ c.args.dy = omega (arith, ints, c.from-4.ensures, c.requires.upward) in
    sum-is _ _ _ _ (few c) ∙ same _ _ _ _ _ _ _ _ x dx y dy

pub returns-clause-within : goal.returns-clause-within
returns-clause-within c =
    let h = few c in
    rw (sum-is _ _ _ _ h) (sum-within c.from.result c.from-3.result c.from-2.result c.from-4.result h.x h.y h.dx h.dy)
