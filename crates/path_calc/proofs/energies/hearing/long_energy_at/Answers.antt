use Rattle.std.proofs.Common.{refl, sym, ap, ◌∙◌, rules, to_z}
use Rattle.std.specs.Int.{w32}
use Rattle.std.proofs.Math.Facts.{to_z-of_z}
use Rattle.path_calc.proofs.Bounds.{weighted-level, small, small-weighted}
use Rattle.path_calc.proofs.Heard.{unweighted}
use Rattle.path_calc.proofs.energies.hearing.long_energy_at.Goals as goal

pub plus-requires-clause-first : goal.plus-requires-clause-first
plus-requires-clause-first c = small _ _ c.args.level c.requires.level refl

pub plus-requires-clause-second : goal.plus-requires-clause-second
plus-requires-clause-second c = small _ _ c.weight_in_decibels.result c.weight_in_decibels.ensures.bounds refl

pub minus-requires-clause-first : goal.minus-requires-clause-first
minus-requires-clause-first c = rw (c.plus.ensures) (small-weighted c.args.level c.weight_in_decibels.result c.requires.level c.weight_in_decibels.ensures.bounds)

pub minus-requires-clause-second : goal.minus-requires-clause-second
minus-requires-clause-second c = small _ _ c.args.c_met c.requires.weather refl

pub energy_at-requires : goal.energy_at-requires
energy_at-requires c =
    rw (c.minus.ensures, c.plus.ensures) (weighted-level c.args.level c.weight_in_decibels.result c.args.c_met c.requires.level c.weight_in_decibels.ensures.bounds c.requires.weather)

pub returns-then-is_nothing-clause-value : goal.returns-then-is_nothing-clause-value
returns-then-is_nothing-clause-value c =
    let weight = to_z-of_z {w = w32} {z = c.weight_of.result} (search rules) in
    unweighted c.args.band c.args.level c.args.c_met c.args.energy c.requires.level (sym c.weight_of.ensures.value ∙ sym weight ∙ ap (to_z w32) c.if-weight_of-eq0.true) (c.is_nothing.ensures c.if-is_nothing.true) c.requires.energy
