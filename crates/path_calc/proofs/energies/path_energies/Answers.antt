use Rattle.std.proofs.Common.{◌∙◌, sym, subst, List, map, pos}
use Rattle.std.specs.Prelude.{All}
use Rattle.std.proofs.lemmas.List.Elements.{All-map}
use Rattle.fix_interval.specs.Interval.{Interval}
use Rattle.fix_interval.specs.Tree.{Tree, Const}
use Rattle.scene_geom.specs.Bands.{all_bands}
use Rattle.path_calc.specs.declared.energies.hearing.Heard.{Heard}
use Rattle.path_calc.specs.Surroundings.{surroundings_of}
use Rattle.path_calc.specs.Energies.{long_energy, long_energy_in}
use Rattle.path_calc.specs.inner.Ranges.{IsSumOf}
use Rattle.path_calc.proofs.Sums.{sum-of-intervals, sum-of-map}
use Rattle.path_calc.proofs.Heard.{bands-heard, longs-heard}
use Rattle.path_calc.proofs.energies.path_energies.Goals as goal

pub returns-clause-bands : goal.returns-clause-bands
returns-clause-bands c = λ book s r are from.
    c.bands_of.ensures ∙ c.heard-heard.ensures.energies ∙ bands-heard c.args.paths.now c.args.from.now book s r from are

pub returns-clause-long : goal.returns-clause-long
unfolding long_energy
returns-clause-long c = λ book s r are from.
    let heard = c.heard-heard.result in
    let longs : List Interval = map (λ (h : Heard). h.long) heard in
    let trees : List Tree = map (long_energy_in book.globals (surroundings_of book s r) s r) all_bands in
    c.long_sum.ensures.value ∙ sym (sum-of-map (λ (h : Heard). h.long) heard)
    ∙ sum-of-intervals (Const (pos 0) 1) trees longs (
    c.heard-heard.ensures.longs ∙ longs-heard c.args.paths.now c.args.from.now book s r from are)

pub returns-clause-bands_bounds : goal.returns-clause-bands_bounds
returns-clause-bands_bounds c =
    subst (λ (es : List Interval). All (IsSumOf 16387) es) (sym c.bands_of.ensures) (All-map (IsSumOf 16387) (λ (h : Heard). h.energy) c.heard-heard.result c.heard-heard.ensures.energy_bounds)
