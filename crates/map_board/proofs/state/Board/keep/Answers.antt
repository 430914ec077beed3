use Rattle.std.proofs.Common.{◌≤◌, ◌∙◌, ap, subst, length}
use Rattle.map_board.specs.Views.{Answer}
use Rattle.map_board.specs.inner.Log.{entries_after}
use Rattle.map_board.specs.Rows.{with_row, row_named}
use Rattle.map_board.specs.inner.Back.{row_with}
use Rattle.map_board.proofs.Landings.{out-by-name, row-by-name, answer-suits}
use Rattle.map_board.proofs.state.Board.keep.Goals as goal

pub landing_of-place-requires : goal.landing_of-place-requires
landing_of-place-requires c = out-by-name c.requires.out c.name.ensures (ap (λ (a : Answer). a.version) c.answer.view_is)

pub landed-back-requires-clause-receiver : goal.landed-back-requires-clause-receiver
landed-back-requires-clause-receiver c =
    c.landing_of-place.ensures.receiver c.requires.out.row (ap (λ n. row_named n c.args.self.now.rows) c.name.ensures ∙ c.requires.out.found) ∙ c.requires.out.receiver

pub land-requires : goal.land-requires
land-requires c =
    let back = c.landed-back.ensures in
    answer-suits c.args.self.now c.landing_of-place.result.place c.landed-back.result c.args.answer c.requires.out
    (row-by-name c.landing_of-place.result.place c.requires.out c.name.ensures c.landing_of-place.ensures.place) c.requires.right
    (subst (λ (a : Answer). length a.bundles ≤ 128) c.answer.view_is c.answer.invariant.few) c.landing_of-place.result.later.now
    (c.landing_of-place.ensures.later ∙ ap (λ (a : Answer). entries_after c.args.self.now.journal a.version) c.answer.view_is)
    back.kept back.bundles back.marks back.order

pub returns : goal.returns
returns c =
    c.land.ensures c.requires.out.row (row-by-name c.landing_of-place.result.place c.requires.out c.name.ensures c.landing_of-place.ensures.place)
    ∙ (λ i. record c.args.self.now { rows = with_row (c.requires.out.receiver i).name (row_with (c.landed-back.ensures.kept i)) c.args.self.now.rows })
