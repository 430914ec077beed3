use Rattle.std.proofs.Common.{◌≡◌, ◌∙◌, ◌*◌, ap, arith, rules, to_z, of_z, w32}
use mir.Syntax.{w128}
use mir.Val.{SFits}
use Rattle.std.proofs.lemmas.Int.{ints, to_z-of_z}
use Rattle.fix_interval.specs.Lg.{lg_of}
use Rattle.enclose_log.proofs.Lengths.{length-root, roots}
use Rattle.line_sources.specs.Gains.{gain_of}
use Rattle.line_sources.proofs.Tiling.{piece-is_length, gain_of-facts, low-end-is}
use Rattle.line_sources.proofs.gains.gain.Goals as goal

pub lg-requires : goal.lg-requires
lg-requires c =
    let l = piece-is_length c.args.square c.args.count (omega arith) c.requires.some c.requires.least c.requires.most in
    let q = 1000000 * (c.args.count * c.args.count) in
    rw (c.piece_length-length.ensures ∙ length-root c.args.square q l) (omega (arith, ints, (roots c.args.square q l).low_positive))

-- the result is the gain
value : (c : goal.After-in_hundredths) → to_z w32 (of_z w32 c.in_hundredths.result) ≡ gain_of c.args.square c.args.count
value c =
    let fits : SFits w128 c.in-Some.low = search rules in
    let same : to_z w32 (of_z w32 c.in_hundredths.result) ≡ c.in_hundredths.result = omega (arith, ints) in
    same ∙ (simp to_z-of_z at c.in_hundredths.ensures)
    ∙ low-end-is c.args.square c.args.count c.lg.result (c.lg.ensures.value ∙ ap lg_of c.piece_length-length.ensures) c.in-Some.low c.in-Some.ensures.end

pub returns-in-Some-clause-value : goal.returns-in-Some-clause-value
returns-in-Some-clause-value c = value c

pub returns-in-Some-clause-tile : goal.returns-in-Some-clause-tile
returns-in-Some-clause-tile c =
    rw (value c) (gain_of-facts c.args.square c.args.count (omega arith) c.requires.some c.requires.least c.requires.most).gain

pub returns-in-Some-clause-low : goal.returns-in-Some-clause-low
returns-in-Some-clause-low c =
    rw (value c) (gain_of-facts c.args.square c.args.count (omega arith) c.requires.some c.requires.least c.requires.most).low

pub returns-in-Some-clause-high : goal.returns-in-Some-clause-high
returns-in-Some-clause-high c =
    rw (value c) (gain_of-facts c.args.square c.args.count (omega arith) c.requires.some c.requires.least c.requires.most).high
