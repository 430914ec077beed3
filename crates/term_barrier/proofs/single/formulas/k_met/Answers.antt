use Rattle.std.proofs.Common.{◌≡◌, refl, sym, ◌∙◌, arith}
use Rattle.fix_interval.specs.Interval.{Interval}
use Rattle.fix_interval.specs.Values.{less_of, pick_of}
use Rattle.fix_interval.specs.declared.truth.Truth.TheVariants.{Never}
use Rattle.fix_interval.specs.Tree.{Known, enc}
use Rattle.term_barrier.specs.Diffraction.{whole, k_met}
use Rattle.term_barrier.proofs.Above.{max-low}
use Rattle.term_barrier.proofs.single.formulas.k_met.Goals as goal

-- K_met is 1 where z is never above 0
never-longer : (d_ss d_sr d z : Interval) → less_of (enc (whole 0)) z ≡ Never → enc (k_met (Known d_ss) (Known d_sr) (Known d) (Known z)) ≡ enc (whole 1)
unfolding k_met pick_of
never-longer d_ss d_sr d z never = rw never refl

pub returns-in-Never : goal.returns-in-Never
returns-in-Never c =
    c.exact-in-Never.ensures ∙ sym (never-longer c.args.d_ss c.args.d_sr c.args.d c.args.z (rw c.exact.ensures at (sym c.less-longer.ensures ∙ c.in-Never.is)))

pub returns-then-vanishes : goal.returns-then-vanishes
returns-then-vanishes c = c.of_ends.ensures ∙ sym (c.vanishes.ensures c.if-vanishes.true)

pub exp_neg-decay-requires : goal.exp_neg-decay-requires
exp_neg-decay-requires c = rw (c.max.ensures, c.exact-3.ensures) (max-low 0 _ (omega arith))
