use Rattle.std.proofs.Common.{◌≡◌, ℕ, ◌^◌, ◌≤◌, ◌<◌, arith}
use Rattle.std.specs.Prelude.{ℤ, pos, ◌-ℤ◌, ◌*ℤ◌, unsigned_abs}
use Rattle.std.proofs.lemmas.Int.{to_z-of_z, fits_signed_from_abs}
use Rattle.scene_geom.proofs.Walls.{part-within}
use Rattle.scene_geom.proofs.Whole.{abs-mul}
use Rattle.scene_geom.proofs.reflection.image_part.Goals as goal
use mir.Syntax.{w64}
use mir.Val.{SFits, to_z, of_z}

-- a number and what 64 bits keep of it
record Kept (z : ℤ) : Type 0 where
  fits : SFits w64 z
  is : to_z w64 (of_z w64 z) ≡ z

kept : (z : ℤ) (m : ℕ) → unsigned_abs z ≤ m → m < 2 ^ 63 → Kept z
kept z m h k =
    let f : SFits w64 z = fits_signed_from_abs w64 z (omega arith) in
    record { fits = f; is = to_z-of_z w64 z f }

record Parts (square way off normal : ℤ) : Type 0 where
  square_is : Kept square
  way_is : Kept way
  off_is : Kept off
  normal_is : Kept normal
  first : Kept (square *ℤ way)
  twice : Kept (pos 2 *ℤ off)
  second : Kept (pos 2 *ℤ off *ℤ normal)
  whole : Kept (square *ℤ way -ℤ pos 2 *ℤ off *ℤ normal)
  within : unsigned_abs (square *ℤ way -ℤ pos 2 *ℤ off *ℤ normal) ≤ 2110000000000000000

parts : (square way off normal : ℤ) → unsigned_abs square ≤ 68718952449 → unsigned_abs way ≤ 8000000 → unsigned_abs off ≤ 2970000000000 → unsigned_abs normal ≤ 262143
    → Parts square way off normal
parts square way off normal hs hw ho hn =
    let first : unsigned_abs (square *ℤ way) ≤ 549751619592000000 = abs-mul square way 68718952449 8000000 hs hw in
    let twice : unsigned_abs (pos 2 *ℤ off) ≤ 5940000000000 = abs-mul (pos 2) off 2 2970000000000 (omega arith) ho in
    let second : unsigned_abs (pos 2 *ℤ off *ℤ normal) ≤ 1557129420000000000 = abs-mul (pos 2 *ℤ off) normal 5940000000000 262143 twice hn in
    let within = part-within square way off normal hs hw ho hn in
    record {
      square_is = kept square 68718952449 hs (omega arith);
      way_is = kept way 8000000 hw (omega arith);
      off_is = kept off 2970000000000 ho (omega arith);
      normal_is = kept normal 262143 hn (omega arith);
      first = kept _ _ first (omega arith);
      twice = kept _ _ twice (omega arith);
      second = kept _ _ second (omega arith);
      whole = kept _ _ within (omega arith);
      within = within;
    }

pub overflow_mul-result-3 : goal.overflow_mul-result-3
overflow_mul-result-3 c =
    let p = parts c.args.square c.args.way c.args.off c.args.normal c.requires.square c.requires.way c.requires.off c.requires.normal in
    rw (p.off_is.is, p.twice.is, p.normal_is.is) p.second.fits

pub overflow_sub-result : goal.overflow_sub-result
overflow_sub-result c =
    let p = parts c.args.square c.args.way c.args.off c.args.normal c.requires.square c.requires.way c.requires.off c.requires.normal in
    rw (p.square_is.is, p.way_is.is, p.first.is, p.off_is.is, p.twice.is, p.normal_is.is, p.second.is) p.whole.fits

pub returns-clause-value : goal.returns-clause-value
returns-clause-value c =
    let p = parts c.args.square c.args.way c.args.off c.args.normal c.requires.square c.requires.way c.requires.off c.requires.normal in
    rw (p.square_is.is, p.way_is.is, p.first.is, p.off_is.is, p.twice.is, p.normal_is.is, p.second.is) p.whole.is

pub returns-clause-within : goal.returns-clause-within
returns-clause-within c =
    let p = parts c.args.square c.args.way c.args.off c.args.normal c.requires.square c.requires.way c.requires.off c.requires.normal in
    rw (p.square_is.is, p.way_is.is, p.first.is, p.off_is.is, p.twice.is, p.normal_is.is, p.second.is, p.whole.is) p.within
