use Rattle.std.proofs.Common.{◌≡◌, ◌∙◌, sym, arith}
use Rattle.fix_interval.specs.Round.{floor_root}
use Rattle.fix_interval.proofs.Rooting.{ceil_root-exact, ceil_root-inexact, floor_root-below}
use Rattle.fix_interval.proofs.roots.square_root.rounded_up.Goals as goal

pub returns-then-root-n-clause-value : goal.returns-then-root-n-clause-value
returns-then-root-n-clause-value c =
    let root : floor_root c.args.n ≡ c.from-root.result = sym (c.from-root.ensures ∙ c.root_down.ensures) in
    sym (ceil_root-exact c.args.n c.from-root.result root (omega arith))

pub returns-else-root-n-clause-value : goal.returns-else-root-n-clause-value
returns-else-root-n-clause-value c =
    let root : floor_root c.args.n ≡ c.from-root.result = sym (c.from-root.ensures ∙ c.root_down.ensures) in
    sym (ceil_root-inexact c.args.n c.from-root.result root (omega (arith, rw root at (floor_root-below c.args.n))))
