use Rattle.std.proofs.Common.{subst}
use Rattle.std.specs.Prelude.{slice_get, IsSomeAnd}
use Rattle.path_calc.specs.Bundles.{Bundle}
use Rattle.map_board.specs.inner.Marks.{TouchesFrom}
use Rattle.map_board.proofs.OnePath.{one-marked, one-is-touched}
use Rattle.map_board.proofs.edits.renewing.mark_row.Goals as goal

pub returns-in-Some-clause-marks : goal.returns-in-Some-clause-marks
returns-in-Some-clause-marks c =
    let logged = c.args.change.now.logged in
    let cache = c.args.cache.now in
    one-marked logged.edit logged.old c.args.receiver.now cache.bundles.items c.in-Some.place
    (subst (λ bs. IsSomeAnd (slice_get bs c.in-Some.place) (λ (b : Bundle). TouchesFrom b.source logged.edit logged.old)) c.as_slice.ensures.value c.in-Some.ensures)
    cache.marks.items c.requires.kept.apart c.requires.kept.one_each

pub returns-in-Some-clause-one : goal.returns-in-Some-clause-one
returns-in-Some-clause-one c stale =
    let logged = c.args.change.now.logged in
    one-is-touched logged.edit logged.old c.args.receiver.now c.args.cache.now.bundles.items c.in-Some.place
    (subst (λ bs. IsSomeAnd (slice_get bs c.in-Some.place) (λ (b : Bundle). TouchesFrom b.source logged.edit logged.old)) c.as_slice.ensures.value c.in-Some.ensures)
