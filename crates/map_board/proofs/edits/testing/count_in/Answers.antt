use Rattle.std.proofs.Common.{ap, arith, length}
use Rattle.std.specs.Prelude.{Option, not}
use Rattle.map_board.specs.declared.rows.caches.Cache.{Cache}
use Rattle.map_board.specs.inner.Boards.{is_held_current}
use Rattle.map_board.specs.inner.Paths.{kept_in}
use Rattle.map_board.proofs.PathTests.{counted-many}
use Rattle.map_board.proofs.edits.testing.count_in.Goals as goal

pub returns-in-Some : goal.returns-in-Some
returns-in-Some c =
    let counts = not (is_held_current c.args.row.now) in
    let kept = ap (λ (o : Option Cache). length (kept_in counts o)) c.in-Some.is in
    omega (
      arith,
      c.min.ensures,
      c.len.ensures,
      c.len-in-Some.ensures,
      kept,
      counted-many counts c.in-Some.cache,
      c.in-Some.cache.bundles.ok.0,
      c.in-Some.cache.marks.ok.0,
    )
