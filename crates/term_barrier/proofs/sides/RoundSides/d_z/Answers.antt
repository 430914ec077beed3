use Rattle.std.proofs.Common.{◌≡◌, ap, sym, refl, ◌∙◌, List, map}
use Rattle.std.specs.Prelude.{Option, Some, None}
use Rattle.fix_interval.specs.Interval.{Interval}
use Rattle.scene_geom.specs.declared.band.Band.{Band}
use Rattle.scene_geom.specs.Bands.{all_bands}
use Rattle.term_barrier.specs.declared.pair.spacing.EdgeSpacing.{EdgeSpacing}
use Rattle.term_barrier.specs.Lateral.{in_band}
use Rattle.term_barrier.specs.inner.Reaching.{round_value}
use Rattle.term_barrier.proofs.Cornering.{in-bands}
use Rattle.term_barrier.proofs.sides.RoundSides.d_z.Goals as goal

-- the value of a band among those of all
among : (spacing : Option EdgeSpacing) (z : Interval) (seen : List Interval) (band : Band) → map (round_value spacing z) all_bands ≡ seen
    → round_value spacing z band ≡ in_band seen band
among spacing z seen band e = sym (in-bands (round_value spacing z) band) ∙ ap (λ (values : List Interval). in_band values band) e

pub returns-in-None : goal.returns-in-None
returns-in-None c =
    let z = c.self.inside.z in
    let value : c.single_attenuation.result ≡ round_value None z c.args.band = rw (c.single_attenuation.ensures, c.three_and.ensures, c.at_one_edge.ensures) refl in
    value ∙ ap (λ (spacing : Option EdgeSpacing). round_value spacing z c.args.band) (sym c.in-None.is)
    ∙ among c.self.inside.spacing z c.args.self.now c.args.band c.self.view_is

pub returns-in-Some : goal.returns-in-Some
returns-in-Some c =
    let z = c.self.inside.z in
    let value : c.double_attenuation.result ≡ round_value (Some c.in-Some.spacing) z c.args.band =
    rw (c.double_attenuation.ensures, c.three_and-in-Some.ensures, c.at_two_edges.ensures) refl in
    value ∙ ap (λ (spacing : Option EdgeSpacing). round_value spacing z c.args.band) (sym c.in-Some.is)
    ∙ among c.self.inside.spacing z c.args.self.now c.args.band c.self.view_is
