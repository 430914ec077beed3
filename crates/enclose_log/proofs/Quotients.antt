-- Quotients rounded down and rounded up.
use Rattle.std.proofs.Common.{◌≡◌, ℕ, ◌+◌, ◌*◌, ◌/◌, ◌%◌, ◌<◌, min, sym, ap, ◌∙◌, arith}
use Rattle.std.proofs.Math.Nat.{mul-add-div_right}
use Rattle.std.proofs.lemmas.Nat.{div-add-mod', mul-mod_first}
use Rattle.std.specs.Int.{div_ceil}

-- a product's quotient from the quotient and the remainder of its first factor
pub quotient-parts : (n t c : ℕ) → 0 < t → n / t * c + n % t * c / t ≡ n * c / t
quotient-parts n t c positive =
    let split : n / t * c * t + n % t * c ≡ n * c =
    (let whole = ap (λ x. x * c) (div-add-mod' n t) in omega (arith, whole)) in
    sym (ap (λ x. x / t) (sym split) ∙ mul-add-div_right positive (n / t * c) (n % t * c))

-- the same rounded up: one more where something is left
pub quotient_up-parts : (n t c b : ℕ) → 0 < t → b ≡ min 1 (n % t * c % t) → n / t * c + n % t * c / t + b ≡ div_ceil (n * c) t
quotient_up-parts n t c b positive left =
    let same = quotient-parts n t c positive in
    let rest = mul-mod_first n c t in
    let less : min 1 (n % t * c % t) ≡ min 1 (n * c % t) = ap (λ x. min 1 x) rest in
    omega (arith, same, less, left)
