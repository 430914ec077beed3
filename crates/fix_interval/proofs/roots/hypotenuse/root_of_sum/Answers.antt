use Rattle.std.proofs.Common.{◌≡◌, ℕ, ◌+◌, ◌*◌, ◌<◌, ◌≤◌, ◌^◌, ◌∙◌, ap, arith}
use Rattle.fix_interval.specs.Round.{floor_root, ceil_root}
use Rattle.fix_interval.proofs.Squares.{root-found, root-interval}
use Rattle.fix_interval.proofs.roots.hypotenuse.root_of_sum.Goals as goal

pub of_ends-requires : goal.of_ends-requires
of_ends-requires c =
    let l = c.args.a.lo + c.args.b.lo in
    let h = c.args.a.hi + c.args.b.hi in
    let ordered : l ≤ h = omega (arith, c.args.a.ordered, c.args.b.ordered) in
    let small : h < 2 ^ 63 = omega (arith, c.args.a.short, c.args.b.short) in
    let low : c.root_down-low.result ≡ floor_root (l * 2 ^ 32) = c.root_down-low.ensures ∙ ap (λ (n : ℕ). floor_root (n * 2 ^ 32)) c.from.ensures in
    let high : c.root_up-high.result ≡ ceil_root (h * 2 ^ 32) = c.root_up-high.ensures.value ∙ ap (λ (n : ℕ). ceil_root (n * 2 ^ 32)) c.from-2.ensures in
    rw (c.from-3.ensures, root-found l h ordered small c.root_down-low.result c.root_up-high.result low high c.root_up-high.ensures.limited)
    (root-interval l h ordered small)

pub returns : goal.returns
returns c =
    let l = c.args.a.lo + c.args.b.lo in
    let h = c.args.a.hi + c.args.b.hi in
    let ordered : l ≤ h = omega (arith, c.args.a.ordered, c.args.b.ordered) in
    let small : h < 2 ^ 63 = omega (arith, c.args.a.short, c.args.b.short) in
    let low : c.root_down-low.result ≡ floor_root (l * 2 ^ 32) = c.root_down-low.ensures ∙ ap (λ (n : ℕ). floor_root (n * 2 ^ 32)) c.from.ensures in
    let high : c.root_up-high.result ≡ ceil_root (h * 2 ^ 32) = c.root_up-high.ensures.value ∙ ap (λ (n : ℕ). ceil_root (n * 2 ^ 32)) c.from-2.ensures in
    rw (c.of_ends.ensures, c.from-3.ensures) (root-found l h ordered small c.root_down-low.result c.root_up-high.result low high c.root_up-high.ensures.limited)
