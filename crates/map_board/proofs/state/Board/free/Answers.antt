use Rattle.std.proofs.Common.{◌∙◌, ap, subst}
use Rattle.map_board.specs.Views.{Job}
use Rattle.map_board.specs.inner.Held.{IsJob}
use Rattle.map_board.specs.inner.Log.{entries_after}
use Rattle.map_board.specs.Rows.{with_row, row_named}
use Rattle.map_board.specs.inner.Back.{row_with}
use Rattle.map_board.proofs.Landings.{out-by-name, row-by-name, job-suits}
use Rattle.map_board.proofs.state.Board.free.Goals as goal

pub landing_of-place-requires : goal.landing_of-place-requires
landing_of-place-requires c = out-by-name c.requires.out c.name.ensures (ap (λ (j : Job). j.version) c.job.view_is)

pub returned-back-requires : goal.returned-back-requires
returned-back-requires c =
    c.landing_of-place.ensures.receiver c.requires.out.row (ap (λ n. row_named n c.args.self.now.rows) c.name.ensures ∙ c.requires.out.found) ∙ c.requires.out.receiver

pub land-requires : goal.land-requires
land-requires c =
    let job_place = c.job.inside.place in
    let back = c.returned-back.ensures in
    job-suits c.args.self.now c.landing_of-place.result.place c.returned-back.result c.args.job c.requires.out
    (row-by-name c.landing_of-place.result.place c.requires.out c.name.ensures c.landing_of-place.ensures.place) job_place (subst (IsJob job_place) c.job.view_is c.job.invariant.0) c.requires.fit
    c.landing_of-place.result.later.now (c.landing_of-place.ensures.later ∙ ap (λ (j : Job). entries_after c.args.self.now.journal j.version) c.job.view_is)
    back.levels back.bundles back.marks back.order

pub returns : goal.returns
returns c =
    c.land.ensures c.requires.out.row (row-by-name c.landing_of-place.result.place c.requires.out c.name.ensures c.landing_of-place.ensures.place)
    ∙ (λ i. record c.args.self.now { rows = with_row (c.requires.out.receiver i).name (row_with (c.returned-back.ensures.levels i)) c.args.self.now.rows })
