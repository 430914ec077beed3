use Rattle.std.proofs.Common.{refl}
use Rattle.path_shape.proofs.Lengths.{path-found}
use Rattle.term_ground.specs.inner.EndRegions.{hard}
use Rattle.term_ground.proofs.TermBounds.{hard-end}
use Rattle.term_ground.proofs.attenuation.between_hard_ends.Goals as goal

pub returns : goal.returns
returns c =
    let path = c.args.path.now in
    let found = path-found path.legs path.s path.r path.dp c.requires.path in
    let source = hard-end hard c.args.shares.now.source path.hs path.dp c.requires.source_height found refl c.requires.source in
    let receiver = hard-end hard c.args.shares.now.receiver path.hr path.dp c.requires.receiver_height found refl c.requires.receiver in
    rw (
      ← source.at_125,
      ← source.at_250,
      ← source.at_500,
      ← source.at_1000,
      ← source.high,
      ← receiver.at_125,
      ← receiver.at_250,
      ← receiver.at_500,
      ← receiver.at_1000,
      ← receiver.high,
      c.sum.ensures,
      c.sum-above.ensures,
      c.middle_above.ensures,
      c.middle_at_63-at_63.ensures,
      c.middle_part.ensures,
      c.base-hard.ensures,
    )
