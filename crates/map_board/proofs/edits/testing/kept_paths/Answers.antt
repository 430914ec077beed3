use Rattle.std.proofs.Common.{◌++◌, map, drop, ap, sym, ◌∙◌, append-nil}
use Rattle.std.proofs.lemmas.List.{drop_all}
use Rattle.map_board.specs.inner.Paths.{path_seen, paths_of}
use Rattle.map_board.proofs.PathTests.{none-of}
use Rattle.map_board.proofs.edits.testing.kept_paths.Goals as goal

pub returns : goal.returns
returns c =
    let i = c.loop-place.place in
    let so_far = map path_seen c.loop-place.paths.items in
    let left = drop i c.args.receivers.now in
    sym (append-nil so_far)
    ∙ (ap (λ l. so_far ++ l) (sym (none-of left) ∙ ap (paths_of left) (sym (drop_all i c.args.rows.now c.loop-place-test.false)))
    ∙ c.loop-place.invariant.so_far)
