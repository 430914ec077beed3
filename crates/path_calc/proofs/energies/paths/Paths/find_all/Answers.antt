use Rattle.std.proofs.Common.{◌≡◌, ap, sym, subst, ◌∙◌, List, ◌∷◌, ◌++◌, map}
use Rattle.std.specs.Prelude.{Bool, false, All, flat_map, pos}
use Rattle.fix_interval.specs.Interval.{Interval}
use Rattle.fix_interval.specs.Tree.{enc}
use Rattle.scene_geom.specs.declared.band.Band.{Band}
use Rattle.scene_geom.specs.Bands.{all_bands}
use Rattle.scene_parts.specs.declared.screening.crossing.Crossing.{Crossing}
use Rattle.scene_parts.specs.declared.screening.ends.Ends.{Ends}
use Rattle.sight_cut.specs.Cuts.{crossings_of}
use Rattle.term_barrier.specs.Edges.{FitsEdge}
use Rattle.path_calc.specs.Lengths.{distance}
use Rattle.path_calc.specs.ReflectedPaths.{reflected_paths}
use Rattle.path_calc.specs.Surroundings.{path_of, ends_of}
use Rattle.scene_parts.specs.Parts.{Source, Receiver}
use Rattle.scene_geom.specs.Fraction.{over}
use Rattle.path_shape.specs.Shape.{plan_square}
use Rattle.path_shape.specs.declared.path.Path.{Path}
use Rattle.path_calc.specs.declared.direct.propagation.Propagation.{Propagation}
use Rattle.path_calc.specs.inner.Ends.{IsBetween, direct_path_of}
use Rattle.path_calc.specs.inner.Ranges.{IsOnMap}
use Rattle.path_calc.specs.inner.Strings.{d_z_over}
use Rattle.path_calc.specs.declared.bundles.segments.Seg.{Seg}
use Rattle.path_calc.specs.declared.bundles.segments.Seg.TheVariants.{Straight}
use Rattle.path_calc.specs.inner.Propagations.{Reflected}
use Rattle.path_calc.specs.inner.Tracing.{segments_in_band}
use Rattle.path_calc.specs.Prepared.{PreparedSource, prepared_of}
use Rattle.path_calc.specs.inner.Prepared.{has_power}
use Rattle.path_calc.specs.inner.Hearing.{propagation_along, screened_by, open_path, bars_over, edges_among, is_asked, direct_square, reflected_of}
use Rattle.path_calc.proofs.Tracing.{walls-are}
use Rattle.path_calc.proofs.Eight.{at-place}
use Rattle.path_calc.proofs.Fitting.{edges-fit}
use Rattle.path_calc.proofs.Heard.{direct-is, lateral-is}
use Rattle.path_calc.proofs.energies.paths.Paths.find_all.Goals as goal

pub screen-requires-clause-edges : goal.screen-requires-clause-edges
screen-requires-clause-edges c =
    subst (λ (cs : List Crossing). All (λ (crossing : Crossing). FitsEdge crossing.edge) cs) (sym (c.as_slice.ensures.value ∙ c.in_ok-find_crossings.ensures))
    (edges-fit c.args.between.now.ends c.args.between.now.scene.now.obstacles)

pub find_others-requires-clause-distance : goal.find_others-requires-clause-distance
find_others-requires-clause-distance c =
    subst (λ (sent : Propagation). IsOnMap sent.distance) (sym c.in_ok-screen.ensures.value) c.requires.near

pub returns-clause-value : goal.returns-clause-value
returns-clause-value c = λ (s : Source) (r : Receiver) (is : IsBetween c.args.between.now s r).
    let book = c.args.between.now.scene.now in
    let ends = c.args.between.now.ends in
    let d = c.screen.new.self.distance in
    let found = c.as_slice.result.now in
    let asked = is_asked c.powered.result in
    let edges = λ (band : Band). edges_among band found in
    let there = ends_of s r in
    let bars = λ (path : Path) (sent : Propagation). screened_by sent (bars_over path edges sent.distance sent.grounds asked) in
    let length : d ≡ enc (distance s.at s.h r.at r.h) =
    ap (λ (sent : Propagation). sent.distance) (c.in_ok-screen.ensures.value ∙ ap (bars c.args.path.now) c.requires.open)
    ∙ ap (λ (e : Ends). enc (distance e.s e.hs e.r e.hr)) is.ends in
    let powered : c.powered.result ≡ map (has_power (prepared_of s)) all_bands =
    c.powered.ensures ∙ ap (λ (p : PreparedSource). map (has_power p) all_bands) is.source in
    let along : c.screen.new.self ≡ propagation_along book (path_of s r) (direct_square s r) d found asked =
    c.in_ok-screen.ensures.value
    ∙ ap (bars c.args.path.now) c.requires.open
    ∙ ap (λ (path : Path). bars path (open_path book ends)) c.requires.path
    ∙ ap (λ (e : Ends). propagation_along book (direct_path_of e) (over (pos (plan_square e.s e.r)) (pos 1)) (enc (distance e.s e.hs e.r e.hr)) found asked) is.ends
    ∙ ap (λ (i : Interval). propagation_along book (path_of s r) (direct_square s r) i found asked) (sym length) in
    record {
      direct = direct-is c.screen.new.self book s r d found asked length
          (λ (band : Band). ap (λ (bs : List Bool). is_asked bs band) powered ∙ at-place (has_power (prepared_of s)) false band)
          (c.as_slice.ensures.value ∙ c.in_ok-find_crossings.ensures ∙ ap (λ (e : Ends). crossings_of e book.obstacles) is.ends)
          along;
      lateral = λ (band : Band). lateral-is (record { direct = c.screen.new.self; lateral = c.replace.result; reflected = c.replace-2.result }) book s r d band length (
          rw c.replace.ensures.value (c.in_ok-find_others.ensures.lateral band)
          ∙ ap (λ (e : Ends). d_z_over e book.obstacles d band) is.ends);
      reflected =
          rw c.replace-2.ensures.value c.in_ok-find_others.ensures.reflected
          ∙ ap (λ (e : Ends). map (reflected_of book.globals c.args.between.now.from.now e) (reflected_paths book e)) is.ends
          ∙ ap (λ (p : PreparedSource). map (reflected_of book.globals p there) (reflected_paths book there)) is.source;
    }

pub returns-clause-trace : goal.returns-clause-trace
returns-clause-trace c = λ (s : Source) (r : Receiver) (is : IsBetween c.args.between.now s r).
    let book = c.args.between.now.scene.now in
    let from = c.args.between.now.from.now in
    let there = ends_of s r in
    let line = λ (e : Ends) (walls : List Seg). Straight e.s e.r ∷ (flat_map (segments_in_band e book.obstacles) all_bands ++ walls) in
    let walls = λ (found : List Reflected). map (λ (path : Reflected). path.wall) found in
    c.in_ok-find_others.ensures.trace
    ∙ ap (λ (e : Ends). line e (walls c.find_others.new.buffers.reflected.items)) is.ends
    ∙ ap (λ (found : List Reflected). line there (walls found))
    (c.in_ok-find_others.ensures.reflected ∙ ap (λ (e : Ends). map (reflected_of book.globals from e) (reflected_paths book e)) is.ends)
    ∙ ap (line there) (walls-are book.globals from there (reflected_paths book there))
