use Rattle.std.proofs.Common.{◌≡◌, drop, []}
use Rattle.scene_book.specs.Lists.{put_all}
use Rattle.scene_book.proofs.register.Register.copy.Given as goal

abbrev pub invariant-loop-thing : goal.invariant-loop-thing
invariant-loop-thing g l =
    put_all g.T.Named.slot.name_of (drop l.thing-index l.self) l.copied ≡ put_all g.T.Named.slot.name_of l.self []
