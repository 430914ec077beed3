use Rattle.std.proofs.Common.{[], ◌≡◌, ◌∙◌, arith, ap, replicate}
use Rattle.part_grid.specs.inner.Register.{lists_of}
use Rattle.part_grid.proofs.Registers.{empty-lists, empty-register}
use Rattle.part_grid.proofs.numbers.register.Register.new.Goals as goal

pub returns : goal.returns
returns c =
    let all : c.loop.counter ≡ c.args.count = omega arith in
    ap (lists_of c.loop.newest.items) c.new.ensures.items ∙ ap (λ newest. lists_of newest []) c.loop.invariant ∙ ap (λ n. lists_of (replicate n 0) []) all ∙ empty-lists c.args.count

pub invariant_of-result : goal.invariant_of-result
invariant_of-result c = rw (c.loop.invariant, c.new.ensures.items) (empty-register c.loop.counter)
