use Rattle.std.proofs.Common.{◌+◌, ◌/◌, arith, rules}
use Rattle.part_grid.proofs.Bits.{marks-none, zeros-are, zeros-made}
use Rattle.part_grid.proofs.numbers.marks.Marks.reset.Goals as goal

pub returns : goal.returns
returns c =
    let made = c.in_ok-resize_with.ensures.items in
    let zeros = zeros-made _ _ (c.args.count / 64 + 1) c.clear.new.self.items made.0 c.resize_with.new.self.items made.1 (λ p x q step. search (rules, step.met)) c.clear.ensures.items made.2 made.3 (omega (arith, c.in_ok-resize_with.ensures.len)) in
    marks-none c.resize_with.new.self.items (c.args.count / 64 + 1) c.args.count zeros

pub invariant_of-self-2 : goal.invariant_of-self-2
invariant_of-self-2 c =
    let made = c.in_ok-resize_with.ensures.items in
    let zeros = zeros-made _ _ (c.args.count / 64 + 1) c.clear.new.self.items made.0 c.resize_with.new.self.items made.1 (λ p x q step. search (rules, step.met)) c.clear.ensures.items made.2 made.3 (omega (arith, c.in_ok-resize_with.ensures.len)) in
    zeros-are c.resize_with.new.self.items (c.args.count / 64 + 1) c.args.count zeros (omega arith)
