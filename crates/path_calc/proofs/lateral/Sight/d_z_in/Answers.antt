use Rattle.std.proofs.Common.{◌∙◌, ◌++◌, ap, List}
use Rattle.scene_parts.specs.declared.screening.crossing.Crossing.{Crossing}
use Rattle.path_calc.specs.inner.Strings.{both_of, numbers_in}
use Rattle.path_calc.specs.declared.bundles.segments.Seg.{Seg}
use Rattle.path_calc.proofs.Stretching.{both-are}
use Rattle.path_calc.proofs.Tracing.{strings-added}
use Rattle.path_calc.proofs.lateral.Sight.d_z_in.Goals as goal

pub returns-clause-value : goal.returns-clause-value
returns-clause-value c =
    ap both_of (c.d_z.ensures.value c.args.self.now.ends c.args.self.now.d c.in_ok-turn_to.ensures.measured)
    ∙ both-are _ c.args.self.now.ends c.args.self.now.scene.now.obstacles c.args.self.now.d c.args.band c.in_ok-turn_to.ensures.stretched
    (c.in_ok-turn_to.ensures.numbers ∙ ap (λ (cs : List Crossing). numbers_in c.args.band cs) c.requires.sight.crossings)

pub returns-clause-trace : goal.returns-clause-trace
returns-clause-trace c =
    c.in_ok-turn_to.ensures.trace
    ∙ ap (λ (l : List Seg). c.args.trace.now ++ l)
    (strings-added _ c.args.self.now.ends c.args.self.now.scene.now.obstacles c.args.band c.args.strings.now.numbers.items c.in_ok-turn_to.ensures.stretched
    (c.in_ok-turn_to.ensures.numbers ∙ ap (λ (cs : List Crossing). numbers_in c.args.band cs) c.requires.sight.crossings))

pub returns-clause-bounds : goal.returns-clause-bounds
returns-clause-bounds c = c.d_z.ensures.bounds c.args.self.now.ends c.args.self.now.d c.in_ok-turn_to.ensures.measured
