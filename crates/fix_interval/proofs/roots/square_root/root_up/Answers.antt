use Rattle.std.proofs.Common.{◌+◌, sym, arith}
use Rattle.fix_interval.proofs.Rooting.{ceil_root-square, ceil_root-next}
use Rattle.fix_interval.proofs.roots.square_root.root_up.Goals as goal

pub returns-in-Some-eq0-clause-value : goal.returns-in-Some-eq0-clause-value
returns-in-Some-eq0-clause-value c =
    sym (ceil_root-square c.args.n c.from-start.result (omega (arith, c.in-Some-eq0.ensures)))

pub returns-in-Some-clause-value : goal.returns-in-Some-clause-value
returns-in-Some-clause-value c =
    sym (ceil_root-next c.args.n c.from-start.result (omega (arith, c.in-Some.ensures)) (omega (arith, c.in-Some.ensures)))

pub returns-in-Some-2-clause-value : goal.returns-in-Some-2-clause-value
returns-in-Some-2-clause-value c =
    omega (arith, ceil_root-next c.args.n (c.from-start.result + 1) (omega (arith, c.in-Some-2.ensures)) (omega (arith, c.in-Some-2.ensures)))
