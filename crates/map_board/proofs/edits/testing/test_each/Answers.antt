use Rattle.std.proofs.Common.{◌≡◌, ap, ◌∙◌, subst}
use Rattle.std.specs.List.{AllZip}
use Rattle.std.specs.Borrow.{Bor}
use Rattle.std.proofs.lemmas.Slice.Zip.{AllZip-map}
use Rattle.rayon.proofs.ListFacts.{AllZip-through}
use Rattle.map_board.specs.declared.edits.testing.Path.{Path}
use Rattle.scene_book.specs.declared.edits.Logged.{Logged}
use Rattle.map_board.specs.inner.Paths.{path_seen, test_of}
use Rattle.map_board.proofs.PathTests.{map-map}
use Rattle.map_board.proofs.edits.testing.test_each.Goals as goal

pub returns : goal.returns
returns g c =
    let paths = c.args.paths.now in
    let logged = c.args.logged.now in
    let gives = c.in_ok-tests.ensures.1 in
    let shown = gives.1 ∙ (ap (λ it. it.base.slice.now) c.map.ensures.base ∙ (ap (λ it. it.slice.now) c.with_min_len.ensures.base ∙ c.par_iter.ensures)) in
    let captured = ap (λ f. f.0.now) c.map.ensures.f in
    let seen = AllZip-through (λ (z : Bor Path). z.now) _ (λ (x : Path) y. y ≡ test_of logged (path_seen x))
    (λ z y e. e ∙ ap (λ (l : Logged). test_of l (path_seen z.now)) captured) gives.0 c.in_ok-tests.ensures.0 gives.2 in
    c.in_ok-tests.ensures.2
    ∙ (AllZip-map (λ (x : Path). test_of logged (path_seen x)) paths c.in_ok-tests.ensures.0
    (subst (λ xs. AllZip (λ (x : Path) y. y ≡ test_of logged (path_seen x)) xs c.in_ok-tests.ensures.0) shown seen)
    ∙ map-map (test_of logged) path_seen paths)
