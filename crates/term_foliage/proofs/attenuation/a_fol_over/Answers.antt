use Rattle.std.proofs.Common.{sym, subst, refl, ◌*◌, ◌^◌, pos}
use Rattle.fix_interval.specs.Bounds.{AreBetween}
use Rattle.term_foliage.proofs.Bounds.{over-between}
use Rattle.term_foliage.proofs.attenuation.a_fol_over.Goals as goal

pub returns-clause-value : goal.returns-clause-value
unfolding Rattle.term_foliage.specs.Foliage.foliage_in
returns-clause-value c =
    rw (c.pick.ensures, c.mul.ensures, c.per_metre.ensures, c.min-capped.ensures, c.pick-short.ensures, c.less-longer.ensures, c.less-shorter.ensures, c.exact.ensures, c.exact-2.ensures, c.exact-3.ensures, c.exact-4.ensures, c.over_short.ensures) refl

pub returns-clause-bounds : goal.returns-clause-bounds
returns-clause-bounds c h =
    subst (AreBetween (pos 0) (pos (25 * 2 ^ 32))) (sym (returns-clause-value c)) (over-between c.args.through c.args.band h)
