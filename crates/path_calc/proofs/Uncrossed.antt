-- Where nothing crosses the line of sight, nothing screens: over the top A_bar is 0 dB, and no path leads round the sides.
use Rattle.std.proofs.Common.{◌≡◌, Bool, true, false, List, [], ◌∷◌, ◌++◌, map, refl, sym, ap, ◌∙◌, append-nil, arith}
use Rattle.std.specs.Prelude.{if◌then◌else◌}
use Rattle.std.specs.List.{list_any, flat_map}
use Rattle.std.proofs.lemmas.Int.{ints}
use Rattle.fix_interval.specs.Units.{unit}
use Rattle.fix_interval.specs.Interval.{Interval}
use Rattle.fix_interval.specs.Values.{ratio_of}
use Rattle.fix_interval.specs.Tree.{enc}
use Rattle.scene_geom.specs.declared.band.Band.{Band}
use Rattle.scene_geom.specs.Bands.{all_bands}
use Rattle.scene_parts.specs.Parts.{Obstacle}
use Rattle.path_shape.specs.declared.path.Path.{Path}
use Rattle.scene_parts.specs.declared.screening.edge.Edge.{Edge}
use Rattle.scene_parts.specs.declared.screening.ends.Ends.{Ends}
use Rattle.scene_parts.specs.declared.screening.crossing.Crossing.{Crossing}
use Rattle.sight_cut.specs.Cuts.{screens_in, crossings_of}
use Rattle.sight_cut.proofs.Edges.{crossings-are-edges}
use Rattle.term_barrier.specs.Diffraction.{whole}
use Rattle.term_barrier.specs.Limits.{IsScreening}
use Rattle.path_calc.specs.declared.bundles.segments.Seg.{Seg}
use Rattle.path_calc.specs.inner.Hearing.{edges_among, where_asked, bar_over, bars_over}
use Rattle.path_calc.specs.LateralPaths.{lateral_paths}
use Rattle.path_calc.specs.ScreeningSets.{is_renewed}
use Rattle.path_calc.specs.inner.Strings.{both_of, lateral_of, d_z_over}
use Rattle.path_calc.specs.Trace.{lateral_segments}
use Rattle.path_calc.specs.inner.Tracing.{segments_in_band}
use Rattle.path_calc.proofs.Eight.{map-same}
use Rattle.path_calc.proofs.Screened.{above-in}

-- ---- over the top

-- what is 0 dB where it is asked for is 0 dB
asked-or-not : (asked : Bool) (bar : Interval) → bar ≡ enc (whole 0) → where_asked asked bar ≡ enc (whole 0)
asked-or-not true bar zero = zero
asked-or-not false bar zero = refl

pub bars-are-zero : (bar : Interval) (path : Path) (d : Interval) (ground : List Interval) (crossings : List Crossing) (asked : Band → Bool)
    → bar ≡ enc (whole 0) → crossings ≡ []
    → map (λ (band : Band). bar) all_bands ≡ bars_over path (λ band. edges_among band crossings) d ground asked
bars-are-zero bar path d ground crossings asked zero none =
    map-same (λ (band : Band). bar) (λ band. where_asked (asked band) (bar_over path (edges_among band crossings) d ground band))
    (λ band. zero ∙ sym (asked-or-not (asked band) (bar_over path (edges_among band crossings) d ground band) (rw none refl))) all_bands

pub zero-screens : IsScreening (enc (whole 0))
unfolding ratio_of unit
zero-screens = record { lo = (omega (arith, ints), omega (arith, ints)); hi = (omega (arith, ints), omega (arith, ints)) }

-- ---- round the sides

no-path : (band : Band) (ends : Ends) (obstacles : List Obstacle) → crossings_of ends obstacles ≡ []
    → lateral_paths band ends obstacles ≡ []
no-path band ends obstacles none =
    let clear : list_any (screens_in band ends) obstacles ≡ false =
    above-in band ends obstacles
    ∙ ap (list_any (λ (edge : Edge). edge.above))
    (sym (crossings-are-edges band ends obstacles) ∙ ap (λ (cs : List Crossing). edges_among band cs) none) in
    rw clear refl

pub no-screening : (band : Band) (ends : Ends) (obstacles : List Obstacle) (d : Interval) → crossings_of ends obstacles ≡ []
    → both_of (lateral_of [] band) ≡ d_z_over ends obstacles d band
no-screening band ends obstacles d none =
    rw (no-path band ends obstacles none) refl

pub no-segments : (ends : Ends) (obstacles : List Obstacle) (trace : List Seg) → crossings_of ends obstacles ≡ []
    → trace ≡ trace ++ flat_map (segments_in_band ends obstacles) all_bands
no-segments ends obstacles trace none =
    sym (ap (λ (l : List Seg). trace ++ l) (among all_bands) ∙ append-nil trace)
  where
    within : (renewed : Bool) (segments : List Seg) → segments ≡ [] → (if renewed then segments else []) ≡ []
    within true segments empty = empty
    within false segments empty = refl

    in_band : (band : Band) → segments_in_band ends obstacles band ≡ []
    in_band band =
        within (is_renewed ends obstacles band) _
        (ap (flat_map (lateral_segments ends)) (no-path band ends obstacles none))

    among : (bands : List Band) → flat_map (segments_in_band ends obstacles) bands ≡ []
    among [] = refl
    among (band ∷ bands) = rw (in_band band) (among bands)
