use Rattle.term_barrier.proofs.Above.{max-one}
use Rattle.term_barrier.proofs.single.formulas.ten_lg.Goals as goal

pub lg-requires : goal.lg-requires
lg-requires c = rw (c.max.ensures, c.exact-2.ensures) (max-one _)
