use Rattle.std.proofs.Common.{arith}
use Rattle.command_lines.specs.Values.{point_of}
use Rattle.command_lines.proofs.ItemLemmas.{pair_of-not_two}
use Rattle.command_lines.proofs.values.points.point_in.Goals as goal

pub returns-in_default : goal.returns-in_default
unfolding point_of
returns-in_default c = rw (← c.in_ok-items_in.ensures) (pair_of-not_two c.in_ok-items_in.field-0.now (λ two. omega (arith, two, c.in_default.len_below)))

pub returns-in_default-2 : goal.returns-in_default-2
unfolding point_of
returns-in_default-2 c = rw (← c.in_ok-items_in.ensures) (pair_of-not_two c.in_ok-items_in.field-0.now (λ two. omega (arith, two, c.in_default.len_at_least)))
