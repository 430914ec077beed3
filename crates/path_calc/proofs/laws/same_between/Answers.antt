use Rattle.std.proofs.Common.{ap, ◌∙◌}
use Rattle.scene_parts.specs.Parts.{Globals}
use Rattle.path_calc.specs.Surroundings.{Surroundings, surroundings_of}
use Rattle.path_calc.specs.Bundles.{bundle_over}
use Rattle.path_calc.proofs.laws.same_between.Goals as goal

pub returns : goal.returns
returns c = λ a b s r globals around.
    ap (λ (g : Globals). bundle_over g (surroundings_of a s r) s r) globals
    ∙ ap (λ (seen : Surroundings). bundle_over b.globals seen s r) around
