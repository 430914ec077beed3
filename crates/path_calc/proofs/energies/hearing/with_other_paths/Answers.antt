use Rattle.std.proofs.Common.{refl, arith}
use Rattle.path_calc.specs.inner.Hearing.{downwind_energy, long_term_energy, screening_at}
use Rattle.path_calc.proofs.AllSounds.{all-sounds}
use Rattle.path_calc.proofs.Bounds.{small-energies}
use Rattle.path_calc.proofs.energies.hearing.with_other_paths.Goals as goal

pub returns-clause-energy : goal.returns-clause-energy
returns-clause-energy c =
    all-sounds downwind_energy c.args.paths.now c.args.band c.args.emission c.args.level (screening_at c.args.paths.now.direct c.args.band) c.lateral_in-lateral.result c.as_slice.result.now
    c.args.over.energy c.with_lateral-left.result.energy c.with_lateral-right.result.energy c.with_reflected.result.energy
    c.requires.level refl c.lateral_in-lateral.ensures.value c.as_slice.ensures.value
    c.requires.energy c.requires.energy_bounds c.with_lateral-left.ensures.energy c.with_lateral-right.ensures.energy c.with_reflected.ensures.energy

pub returns-clause-long : goal.returns-clause-long
returns-clause-long c =
    all-sounds (long_term_energy c.args.band) c.args.paths.now c.args.band c.args.emission c.args.level (screening_at c.args.paths.now.direct c.args.band) c.lateral_in-lateral.result c.as_slice.result.now
    c.args.over.long c.with_lateral-left.result.long c.with_lateral-right.result.long c.with_reflected.result.long
    c.requires.level refl c.lateral_in-lateral.ensures.value c.as_slice.ensures.value
    c.requires.long c.requires.long_bounds c.with_lateral-left.ensures.long c.with_lateral-right.ensures.long c.with_reflected.ensures.long

pub with_lateral-left-requires-clause-energy : goal.with_lateral-left-requires-clause-energy
with_lateral-left-requires-clause-energy c = small-energies 1 c.args.over.energy (omega arith) c.requires.energy_bounds

pub with_lateral-left-requires-clause-long : goal.with_lateral-left-requires-clause-long
with_lateral-left-requires-clause-long c = small-energies 1 c.args.over.long (omega arith) c.requires.long_bounds

pub with_lateral-right-requires-clause-energy : goal.with_lateral-right-requires-clause-energy
with_lateral-right-requires-clause-energy c =
    small-energies 2 c.with_lateral-left.result.energy (omega arith) (c.with_lateral-left.ensures.energy_bounds 1 (omega arith) c.requires.energy_bounds)

pub with_lateral-right-requires-clause-long : goal.with_lateral-right-requires-clause-long
with_lateral-right-requires-clause-long c =
    small-energies 2 c.with_lateral-left.result.long (omega arith) (c.with_lateral-left.ensures.long_bounds 1 (omega arith) c.requires.long_bounds)

pub with_reflected-requires-clause-energy : goal.with_reflected-requires-clause-energy
with_reflected-requires-clause-energy c =
    c.with_lateral-right.ensures.energy_bounds 2 (omega arith) (c.with_lateral-left.ensures.energy_bounds 1 (omega arith) c.requires.energy_bounds)

pub with_reflected-requires-clause-long : goal.with_reflected-requires-clause-long
with_reflected-requires-clause-long c =
    c.with_lateral-right.ensures.long_bounds 2 (omega arith) (c.with_lateral-left.ensures.long_bounds 1 (omega arith) c.requires.long_bounds)
