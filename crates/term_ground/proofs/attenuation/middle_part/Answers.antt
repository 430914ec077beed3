use Rattle.std.proofs.Common.{◌≡◌, ◌∙◌, sym}
use Rattle.fix_interval.specs.Tree.{enc}
use Rattle.fix_interval.specs.Values.{less_of, pick_of}
use Rattle.fix_interval.specs.declared.truth.Truth.TheVariants.{Never}
use Rattle.term_ground.specs.Ground.{middle_part}
use Rattle.term_ground.specs.Regions.{middle_from}
use Rattle.term_ground.proofs.attenuation.middle_part.Goals as goal

pub returns-in-Never : goal.returns-in-Never
unfolding middle_part pick_of
returns-in-Never c =
    let path = c.args.path.now in
    let never : less_of (enc (middle_from path)) path.dp ≡ Never = rw c.middle_from-from.ensures at (sym c.less.ensures ∙ c.in-Never.is) in
    rw never c.exact.ensures
