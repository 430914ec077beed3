-- The frame so far holds the sides so far.
use Rattle.std.proofs.Common.{◌≡◌, fold, take, ℕ, ◌<◌, get_or}
use Rattle.part_grid.specs.declared.owned.Owned.{Owned}
use Rattle.part_grid.specs.inner.Index.{framed, no_frame, Holds}
use Rattle.part_grid.proofs.cells.frame.frame_of.Given as goal

abbrev pub invariant-loop-owned : goal.invariant-loop-owned
invariant-loop-owned l = record {
  value : l.frame ≡ fold framed no_frame (take l.owned-index l.sides);
  columns : l.frame.columns.high < 124;
  rows : l.frame.rows.high < 124;
  holds : (k : ℕ) (d : Owned) → k < l.owned-index → Holds l.frame (get_or l.sides k d).side;
}
