use Rattle.std.proofs.Common.{ap, ◌∙◌, rules, subst, sym, ℤ, pos, neg_ℤ, ◌*◌, ◌^◌}
use Rattle.std.specs.Int.{w32}
use Rattle.std.proofs.Math.Facts.{to_z-of_z}
use Rattle.fix_interval.specs.Interval.{Interval}
use Rattle.fix_interval.specs.Bounds.{AreBetween}
use Rattle.fix_interval.specs.Values.{ratio_of}
use Rattle.path_calc.proofs.Bounds.{directivity-within}
use Rattle.path_calc.proofs.prepared.directivity.Goals as goal

pub returns-clause-bounds : goal.returns-clause-bounds
returns-clause-bounds c =
    let directivity = to_z-of_z {w = w32} {z = c.source.inside.dc} (search rules) in
    subst (λ (i : Interval). AreBetween (neg_ℤ (pos (30 * 2 ^ 32))) (pos (20 * 2 ^ 32)) i) (sym (c.hundredths.ensures ∙ ap (λ (z : ℤ). ratio_of z 100) directivity)) (directivity-within c.source.inside.dc (record { low = c.source.invariant.directivity_low; high = c.source.invariant.directivity_high }))
