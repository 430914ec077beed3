use Rattle.std.proofs.Common.{◌∙◌, ap, ◌*◌, ℕ, ◌^◌}
use Rattle.fix_interval.specs.Round.{floor_root}
use Rattle.fix_interval.specs.Units.{unit-is}
use Rattle.fix_interval.proofs.roots.low_root.Goals as goal

pub returns : goal.returns
returns c = rw unit-is (c.root_down.ensures ∙ ap (λ (n : ℕ). floor_root (n * 2 ^ 32)) c.radicand.ensures.value)
