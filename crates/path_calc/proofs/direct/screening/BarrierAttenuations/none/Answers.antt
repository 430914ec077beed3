use Rattle.std.proofs.Common.{pos, refl}
use Rattle.fix_interval.specs.Tree.{Const, enc}
use Rattle.term_barrier.specs.Limits.{IsScreening}
use Rattle.path_calc.proofs.Pushed.{all-eight}
use Rattle.path_calc.proofs.Uncrossed.{zero-screens}
use Rattle.path_calc.proofs.direct.screening.BarrierAttenuations.none.Goals as goal

pub invariant_of-result : goal.invariant_of-result
invariant_of-result c =
    let zero = enc (Const (pos 0) 1) in
    record {
      each = all-eight IsScreening zero zero zero zero zero zero zero zero
          zero-screens zero-screens zero-screens zero-screens zero-screens zero-screens zero-screens zero-screens;
      bands = refl;
    }
