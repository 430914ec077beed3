use Rattle.std.proofs.lemmas.List.Elements.{All-nil}
use Rattle.std.proofs.lemmas.List.{get_or-replicate}
use Rattle.std.proofs.Common.{◌∙◌}
use Rattle.path_cache.specs.Sums.{HasEnergies, energy_at}
use Rattle.path_calc.specs.Bundles.{Bundle}
use Rattle.path_cache.proofs.Summing.{none-summed}
use Rattle.path_cache.proofs.sums.RowSums.zero.Goals as goal

pub returns : goal.returns
returns c = record {
  each = All-nil HasEnergies;
  total = none-summed (λ (b : Bundle). b.long) c.zero.result c.zero.ensures;
  bands = λ place below. none-summed (energy_at place) _ (get_or-replicate 8 place c.zero-2.result c.zero.result below ∙ c.zero-2.ensures);
}
