use Rattle.std.proofs.Common.{ap, length, arith}
use Rattle.scene_book.proofs.filing.insert_all.Goals as goal

pub unwrap-old-requires : goal.unwrap-old-requires
unwrap-old-requires g c =
    c.insert.ensures.succeeds (omega (arith, c.loop-key.invariant.room, ap length c.in-Some.ensures.steps.0))
