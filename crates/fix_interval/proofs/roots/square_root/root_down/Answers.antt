use Rattle.std.proofs.Common.{◌*◌, ◌%◌, ◌^◌, ◌+◌, ◌<◌, ◌≤◌, sym, rules}
use Rattle.fix_interval.proofs.Rooting.{floor_root-unique}
use Rattle.fix_interval.proofs.roots.square_root.root_down.Goals as goal

pub returns-then-is_root : goal.returns-then-is_root
returns-then-is_root c =
    let r = c.estimate-near.result in
    let found : (r * r ≤ c.args.n) × (c.args.n < (r + 1) * (r + 1)) = search rules in
    sym (floor_root-unique c.args.n r found.0 found.1)

pub returns-then-is_root-2 : goal.returns-then-is_root-2
returns-then-is_root-2 c =
    let r = (c.estimate-near.result + 1) % 2 ^ 64 in
    let found : (r * r ≤ c.args.n) × (c.args.n < (r + 1) * (r + 1)) = search rules in
    sym (floor_root-unique c.args.n r found.0 found.1)

pub returns-else-is_root-2 : goal.returns-else-is_root-2
returns-else-is_root-2 c =
    sym (floor_root-unique c.args.n c.isqrt.result c.isqrt.ensures.square_le c.isqrt.ensures.next_square_gt)
