-- The length of a leg, and what holds of its pieces.
use Rattle.std.proofs.Common.{◌≡◌, ℕ, ◌+◌, ◌*◌, ◌≤◌, inl, inr, arith, true, ℤ, pos, negsuc, ◌-ℤ◌, ◌*ℤ◌}
use Rattle.std.specs.Prelude.{unsigned_abs}
use Rattle.std.proofs.lemmas.Int.{ints}
use Rattle.std.proofs.lemmas.Bool.{cases_lt}
use Rattle.std.proofs.lemmas.Bool.Decides.{nat_tests}
use Rattle.std.proofs.lemmas.Nat.{mul-le}
use Rattle.scene_geom.specs.Plan.{InPlan}
use Rattle.scene_geom.specs.declared.plan.Side.{Side}
use Rattle.scene_parts.specs.Sides.{squared_length}
use Rattle.command_lines.specs.Views.{LineSource}
use Rattle.line_sources.specs.Legs.{is_leg, count_of}
use Rattle.line_sources.specs.Gains.{gain_of}
use Rattle.line_sources.specs.Tiles.{AreFewest, IsTiled}
use Rattle.line_sources.proofs.CountLemmas.{count_of-fewest, fewest-few, fewest-short}
use Rattle.line_sources.proofs.Middles.{place-middle}
use Rattle.line_sources.proofs.Tiling.{GainFacts, gain_of-facts}

square-is : (z : ℤ) → z *ℤ z ≡ pos (unsigned_abs z * unsigned_abs z)
square-is (pos n) = omega (arith, ints)
square-is (negsuc n) = omega (arith, ints)

pub squared_length-is : (side : Side) → squared_length side ≡ unsigned_abs (side.to.x -ℤ side.from.x) * unsigned_abs (side.to.x -ℤ side.from.x) + unsigned_abs (side.to.y -ℤ side.from.y) * unsigned_abs (side.to.y -ℤ side.from.y)
squared_length-is side = rw (square-is (side.to.x -ℤ side.from.x), square-is (side.to.y -ℤ side.from.y)) (omega (arith, ints))

same : (a b : ℤ) → unsigned_abs (b -ℤ a) ≡ 0 → a ≡ b
same a b h = omega (arith, ints, h)

pub leg-long : (side : Side) → is_leg side ≡ true → 1 ≤ squared_length side
leg-long side leg =
    rw (squared_length-is side) (elim (cases_lt 0 (unsigned_abs (side.to.x -ℤ side.from.x))) [
      | inl across ↦ omega (arith, mul-le 1 1 (unsigned_abs (side.to.x -ℤ side.from.x)) (unsigned_abs (side.to.x -ℤ side.from.x)) across across)
      | inr none ↦ (elim (cases_lt 0 (unsigned_abs (side.to.y -ℤ side.from.y))) [
        | inl up ↦ omega (arith, mul-le 1 1 (unsigned_abs (side.to.y -ℤ side.from.y)) (unsigned_abs (side.to.y -ℤ side.from.y)) up up)
        | inr neither ↦
            (let x : side.from.x ≡ side.to.x = same side.from.x side.to.x (omega (arith, none)) in
            let y : side.from.y ≡ side.to.y = same side.from.y side.to.y (omega (arith, neither)) in
            absurd (grind (arith, ints, nat_tests)))
      ])
    ])

way-within : (a b : ℤ) → InPlan a → InPlan b → unsigned_abs (b -ℤ a) ≤ 8000000
way-within a b h k = omega (arith, ints, h.low, h.high, k.low, k.high)

pub leg-within : (side : Side) → squared_length side ≤ 128000000000000
leg-within side =
    let across = way-within side.from.x side.to.x side.from.x_in_plan side.to.x_in_plan in
    let up = way-within side.from.y side.to.y side.from.y_in_plan side.to.y_in_plan in
    rw (squared_length-is side)
    (omega (
      arith,
      mul-le (unsigned_abs (side.to.x -ℤ side.from.x)) (unsigned_abs (side.to.x -ℤ side.from.x)) 8000000 8000000 across across,
      mul-le (unsigned_abs (side.to.y -ℤ side.from.y)) (unsigned_abs (side.to.y -ℤ side.from.y)) 8000000 8000000 up up,
    ))

-- a leg in as few pieces as are short enough, and their gain
pub record LegFacts (n piece : ℕ) : Type 0 where
  pub fewest : AreFewest n piece (count_of n piece)
  pub least : count_of n piece * count_of n piece ≤ n
  pub most : n ≤ 1000000000000 * (count_of n piece * count_of n piece)
  pub gain : GainFacts n (count_of n piece) (gain_of n (count_of n piece))

pub leg-facts : (n piece : ℕ) → 1 ≤ n → n ≤ 128000000000000 → 1000 ≤ piece → piece ≤ 1000000 → LegFacts n piece
leg-facts n piece some small low high =
    let f = count_of-fewest n piece some (omega (arith, low)) in
    let least = fewest-few n piece (count_of n piece) some (omega (arith, low)) f in
    let most = fewest-short n piece (count_of n piece) high f in
    record { fewest = f; least = least; most = most; gain = gain_of-facts n (count_of n piece) (omega (arith, small)) f.some least most }

pub leg-tiled : (line : LineSource) (leg : Side) → is_leg leg ≡ true → 1000 ≤ line.piece → line.piece ≤ 1000000 → IsTiled line leg
leg-tiled line leg is low high =
    let f = leg-facts (squared_length leg) line.piece (leg-long leg is) (leg-within leg) low high in
    let count = count_of (squared_length leg) line.piece in
    record {
      pieces = f.fewest;
      middles = record {
        across = λ i less. place-middle leg.from.x leg.to.x i count leg.from.x_in_plan leg.to.x_in_plan less;
        up = λ i less. place-middle leg.from.y leg.to.y i count leg.from.y_in_plan leg.to.y_in_plan less;
      };
      powers = f.gain.gain;
    }
