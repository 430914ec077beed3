use Rattle.std.proofs.Common.{◌≡◌, ◌+◌, ◌≤◌, length, drop}
use Rattle.scene_book.proofs.ListLemmas.{absent}
use Rattle.scene_book.proofs.register.Register.len_with_all.Given as goal

abbrev pub invariant-loop-new : goal.invariant-loop-new
invariant-loop-new g l = record {
  so_far : l.count + absent g.T.Named.slot.name_of (drop l.new-index l.news) l.self
      ≡ length l.self + absent g.T.Named.slot.name_of l.news l.self;
  few : l.count ≤ length l.self + l.new-index;
}
