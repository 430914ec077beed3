use Rattle.std.proofs.Common.{◌≡◌, ap, sym, subst, ◌∙◌, List}
use Rattle.std.specs.Prelude.{All}
use Rattle.scene_geom.specs.declared.band.Band.{Band}
use Rattle.scene_geom.specs.declared.reflection.Reflection.{Reflection}
use Rattle.path_shape.specs.declared.path.Path.{Path}
use Rattle.scene_parts.specs.declared.screening.crossing.Crossing.{Crossing}
use Rattle.image_source.specs.Mirrors.{IsMirror}
use Rattle.image_source.specs.LegCuts.{leg_crossings_of}
use Rattle.term_barrier.specs.Edges.{FitsEdge}
use Rattle.path_calc.specs.declared.direct.propagation.Propagation.{Propagation}
use Rattle.path_calc.specs.ReflectedPaths.{path_along}
use Rattle.path_calc.specs.inner.Hearing.{propagation_along, screened_by, bars_over, edges_among, is_asked, crossings_on}
use Rattle.path_calc.proofs.Reflecting.{square-kept, leg-crossings-fit}
use Rattle.path_calc.proofs.direct.propagation.Between.along_legs.Goals as goal

pub in_the_open-sound-requires-clause-square : goal.in_the_open-sound-requires-clause-square
in_the_open-sound-requires-clause-square c =
    square-kept c.args.side c.args.self.now.ends.s c.args.self.now.ends.r _ (c.mirror.view_is ∙ c.requires.mirror) c.mirror.invariant

pub screen-requires-clause-edges : goal.screen-requires-clause-edges
screen-requires-clause-edges c =
    subst (λ (cs : List Crossing). All (λ (crossing : Crossing). FitsEdge crossing.edge) cs)
    (sym (c.as_slice-2.ensures.value ∙ c.in_ok-list_on_legs.ensures ∙ ap crossings_on (c.as_slice.ensures.value ∙ c.in_ok-find_leg_crossings.ensures)))
    (leg-crossings-fit c.args.mirror.now c.args.self.now.ends c.args.self.now.scene.now.obstacles (subst IsMirror c.mirror.view_is c.mirror.invariant))

pub returns-clause-value : goal.returns-clause-value
returns-clause-value c =
    let book = c.args.self.now.scene.now in
    let ends = c.args.self.now.ends in
    let laid = c.args.mirror.now in
    let d = c.args.distance in
    let asked = is_asked c.args.asked.now in
    let found = c.as_slice-2.result.now in
    let along : propagation_along book c.reflected-path.result c.mirror.inside.plan2 d found asked
    ≡ propagation_along book (path_along ends laid) laid.square d (crossings_on (leg_crossings_of laid ends book.obstacles)) asked =
    ap (λ (p : Path). propagation_along book p c.mirror.inside.plan2 d found asked) (c.reflected-path.ensures.value ∙ ap (path_along ends) (sym c.requires.mirror))
    ∙ ap (λ (m : Reflection). propagation_along book (path_along ends laid) m.square d found asked) c.mirror.view_is
    ∙ ap (λ (cs : List Crossing). propagation_along book (path_along ends laid) laid.square d cs asked)
    (c.as_slice-2.ensures.value ∙ c.in_ok-list_on_legs.ensures ∙ ap crossings_on (c.as_slice.ensures.value ∙ c.in_ok-find_leg_crossings.ensures)) in
    c.in_ok-screen.ensures.value
    ∙ ap (λ (sent : Propagation). screened_by sent (bars_over c.reflected-path.result (λ (band : Band). edges_among band found) sent.distance sent.grounds asked)) c.in_the_open-sound.ensures.value
    ∙ along
