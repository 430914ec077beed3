use Rattle.std.proofs.Common.{◌<◌, ◌≤◌, ◌∙◌, ◌++◌, ◌∷◌, [], ap, sym, arith, length, map, take, append_assoc}
use Rattle.std.specs.Prelude.{◌&&◌}
use Rattle.std.proofs.lemmas.List.{map-append, take_all}
use Rattle.map_board.specs.inner.Paths.{counted, path_seen, paths_to}
use Rattle.map_board.proofs.PathTests.{counted-many, next-counted}
use Rattle.map_board.proofs.edits.testing.push_paths.Goals as goal

pub loop-place-preserved : goal.loop-place-preserved
loop-place-preserved c =
    let cache = c.args.cache.now in
    let r = c.args.receiver.now in
    let i = c.loop-place.place in
    let before = map path_seen c.args.paths.now.items in
    let bundle = c.index.result.now in
    let mark = c.index-in-loop-place.result.now in
    let kepts = counted c.args.counts cache in
    let some : i < length cache.bundles.items = omega (arith, c.loop-place-test.true, c.min-count.ensures, c.len.ensures, cache.bundles.ok.0) in
    let more : i < length cache.marks.items = omega (arith, c.loop-place-test.true, c.min-count.ensures, c.len-2.ensures, cache.marks.ok.0) in
    record {
      so_far = ap (map path_seen) c.in_ok-push.ensures.items
          ∙ (map-append path_seen c.loop-place.paths.items _
          ∙ ((λ k. c.loop-place.invariant.so_far k ++ (r, (bundle, c.both.ensures k)) ∷ [])
          ∙ (append_assoc before (paths_to r (take i kepts)) ((r, (bundle, c.args.counts && mark)) ∷ [])
          ∙ ap (λ l. before ++ l)
          (sym (map-append (λ kept. (r, kept)) (take i kepts) ((bundle, c.args.counts && mark) ∷ []))
          ∙ ap (paths_to r) (sym (next-counted c.args.counts cache i bundle mark some more c.index.ensures c.index-in-loop-place.ensures))))));
    }

pub returns : goal.returns
returns c =
    let cache = c.args.cache.now in
    let all : length (counted c.args.counts cache) ≤ c.loop-place.place = omega (
      arith,
      c.loop-place-test.false,
      c.min-count.ensures,
      c.len.ensures,
      c.len-2.ensures,
      cache.bundles.ok.0,
      cache.marks.ok.0,
      counted-many c.args.counts cache,
    ) in
    c.loop-place.invariant.so_far
    ∙ ap (λ kepts. map path_seen c.args.paths.now.items ++ paths_to c.args.receiver.now kepts) (take_all c.loop-place.place (counted c.args.counts cache) all)
