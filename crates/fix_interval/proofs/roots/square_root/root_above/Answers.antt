use Rattle.std.proofs.Common.{ℕ, ◌+◌, ◌*◌, ◌<◌, ◌≤◌, sym, ap, ◌∙◌, rules}
use Rattle.fix_interval.proofs.Rooting.{ceil_root-next}
use Rattle.fix_interval.proofs.roots.square_root.root_above.Goals as goal

pub returns-then-is_next-clause-value : goal.returns-then-is_next-clause-value
returns-then-is_next-clause-value c =
    let r = c.args.below in
    let found : (r * r < c.args.n) × (c.args.n ≤ (r + 1) * (r + 1)) = search rules in
    ap (λ (k : ℕ). k + 1) c.from.ensures ∙ sym (ceil_root-next c.args.n r found.0 found.1)
