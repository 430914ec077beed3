use Rattle.std.proofs.Common.{ap, refl, ◌∙◌, ◌++◌, List}
use Rattle.scene_geom.specs.declared.band.Band.TheVariants.{Hz63, Hz125, Hz250, Hz500, Hz1000, Hz2000, Hz4000, Hz8000}
use Rattle.path_calc.specs.declared.bundles.segments.Seg.{Seg}
use Rattle.path_calc.specs.inner.Tracing.{segments_in_band}
use Rattle.path_calc.specs.inner.Ranges.{IsLateralScreening}
use Rattle.path_calc.specs.inner.Strings.{d_z_over}
use Rattle.path_calc.proofs.Pushed.{all-eight, eight-both}
use Rattle.path_calc.proofs.Tracing.{numbers-placed, none-before, after-is, eight-added}
use Rattle.path_calc.proofs.lateral.Sight.d_z.Goals as goal

pub d_z_in-requires-clause-strings : goal.d_z_in-requires-clause-strings
d_z_in-requires-clause-strings c = c.clear.ensures.stretched c.args.self.now.ends c.args.self.now.scene.now.obstacles

pub returns-clause-trace : goal.returns-clause-trace
returns-clause-trace c =
    let ends = c.args.self.now.ends in
    let obstacles = c.args.self.now.scene.now.obstacles in
    eight-added (segments_in_band ends obstacles) c.args.trace.now c.d_z_in.new.trace c.d_z_in-2.new.trace c.d_z_in-3.new.trace c.d_z_in-4.new.trace
    c.d_z_in-5.new.trace c.d_z_in-6.new.trace c.d_z_in-7.new.trace c.d_z_in-8.new.trace
    (c.in_ok-at_63.ensures.trace ∙ ap (λ (l : List Seg). c.args.trace.now ++ l) (after-is Hz63 ends obstacles _ (none-before ends obstacles _ c.clear.ensures.numbers)))
    (c.in_ok-at_125.ensures.trace ∙ ap (λ (l : List Seg). c.d_z_in.new.trace ++ l) (after-is Hz125 ends obstacles _ (c.in_ok-at_63.ensures.numbers ∙ numbers-placed Hz63 ends obstacles)))
    (c.in_ok-at_250.ensures.trace ∙ ap (λ (l : List Seg). c.d_z_in-2.new.trace ++ l) (after-is Hz250 ends obstacles _ (c.in_ok-at_125.ensures.numbers ∙ numbers-placed Hz125 ends obstacles)))
    (c.in_ok-at_500.ensures.trace ∙ ap (λ (l : List Seg). c.d_z_in-3.new.trace ++ l) (after-is Hz500 ends obstacles _ (c.in_ok-at_250.ensures.numbers ∙ numbers-placed Hz250 ends obstacles)))
    (c.in_ok-at_1000.ensures.trace ∙ ap (λ (l : List Seg). c.d_z_in-4.new.trace ++ l) (after-is Hz1000 ends obstacles _ (c.in_ok-at_500.ensures.numbers ∙ numbers-placed Hz500 ends obstacles)))
    (c.in_ok-at_2000.ensures.trace ∙ ap (λ (l : List Seg). c.d_z_in-5.new.trace ++ l) (after-is Hz2000 ends obstacles _ (c.in_ok-at_1000.ensures.numbers ∙ numbers-placed Hz1000 ends obstacles)))
    (c.in_ok-at_4000.ensures.trace ∙ ap (λ (l : List Seg). c.d_z_in-6.new.trace ++ l) (after-is Hz4000 ends obstacles _ (c.in_ok-at_2000.ensures.numbers ∙ numbers-placed Hz2000 ends obstacles)))
    (c.in_ok-at_8000.ensures.trace ∙ ap (λ (l : List Seg). c.d_z_in-7.new.trace ++ l) (after-is Hz8000 ends obstacles _ (c.in_ok-at_4000.ensures.numbers ∙ numbers-placed Hz4000 ends obstacles)))

pub d_z_in-requires-2-clause-strings : goal.d_z_in-requires-2-clause-strings
d_z_in-requires-2-clause-strings c = c.in_ok-at_63.ensures.strings

pub d_z_in-requires-3-clause-strings : goal.d_z_in-requires-3-clause-strings
d_z_in-requires-3-clause-strings c = c.in_ok-at_125.ensures.strings

pub d_z_in-requires-4-clause-strings : goal.d_z_in-requires-4-clause-strings
d_z_in-requires-4-clause-strings c = c.in_ok-at_250.ensures.strings

pub d_z_in-requires-5-clause-strings : goal.d_z_in-requires-5-clause-strings
d_z_in-requires-5-clause-strings c = c.in_ok-at_500.ensures.strings

pub d_z_in-requires-6-clause-strings : goal.d_z_in-requires-6-clause-strings
d_z_in-requires-6-clause-strings c = c.in_ok-at_1000.ensures.strings

pub d_z_in-requires-7-clause-strings : goal.d_z_in-requires-7-clause-strings
d_z_in-requires-7-clause-strings c = c.in_ok-at_2000.ensures.strings

pub d_z_in-requires-8-clause-strings : goal.d_z_in-requires-8-clause-strings
d_z_in-requires-8-clause-strings c = c.in_ok-at_4000.ensures.strings

pub returns-clause-value : goal.returns-clause-value
returns-clause-value c =
    eight-both (d_z_over c.args.self.now.ends c.args.self.now.scene.now.obstacles c.args.self.now.d) refl
    c.in_ok-at_63.ensures.value c.in_ok-at_125.ensures.value c.in_ok-at_250.ensures.value c.in_ok-at_500.ensures.value
    c.in_ok-at_1000.ensures.value c.in_ok-at_2000.ensures.value c.in_ok-at_4000.ensures.value c.in_ok-at_8000.ensures.value

pub returns-clause-bounds : goal.returns-clause-bounds
returns-clause-bounds c =
    all-eight IsLateralScreening _ _ _ _ _ _ _ _
    c.in_ok-at_63.ensures.bounds c.in_ok-at_125.ensures.bounds c.in_ok-at_250.ensures.bounds c.in_ok-at_500.ensures.bounds
    c.in_ok-at_1000.ensures.bounds c.in_ok-at_2000.ensures.bounds c.in_ok-at_4000.ensures.bounds c.in_ok-at_8000.ensures.bounds

pub d_z_in-requires-clause-measured : goal.d_z_in-requires-clause-measured
d_z_in-requires-clause-measured c = c.clear.ensures.measured c.args.self.now.ends c.args.self.now.d

pub d_z_in-requires-2-clause-measured : goal.d_z_in-requires-2-clause-measured
d_z_in-requires-2-clause-measured c = c.in_ok-at_63.ensures.measured

pub d_z_in-requires-3-clause-measured : goal.d_z_in-requires-3-clause-measured
d_z_in-requires-3-clause-measured c = c.in_ok-at_125.ensures.measured

pub d_z_in-requires-4-clause-measured : goal.d_z_in-requires-4-clause-measured
d_z_in-requires-4-clause-measured c = c.in_ok-at_250.ensures.measured

pub d_z_in-requires-5-clause-measured : goal.d_z_in-requires-5-clause-measured
d_z_in-requires-5-clause-measured c = c.in_ok-at_500.ensures.measured

pub d_z_in-requires-6-clause-measured : goal.d_z_in-requires-6-clause-measured
d_z_in-requires-6-clause-measured c = c.in_ok-at_1000.ensures.measured

pub d_z_in-requires-7-clause-measured : goal.d_z_in-requires-7-clause-measured
d_z_in-requires-7-clause-measured c = c.in_ok-at_2000.ensures.measured

pub d_z_in-requires-8-clause-measured : goal.d_z_in-requires-8-clause-measured
d_z_in-requires-8-clause-measured c = c.in_ok-at_4000.ensures.measured
