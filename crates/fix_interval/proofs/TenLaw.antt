-- What ten's value encloses, end by end.
use Rattle.std.proofs.Common.{◌≡◌, ℕ, suc, ◌+◌, ◌*◌, ◌/◌, ◌%◌, ◌^◌, ◌<◌, ◌≤◌, refl, sym, ap, ◌∙◌, subst, arith}
use Rattle.std.proofs.lemmas.Nat.{pow-add, mul-pow, div-add-mod', mod_below}
use Rattle.std.proofs.lemmas.Grind.{div_ceil_times}
use Rattle.std.proofs.Math.Nat.{one-le-pow, pow-le-pow_left, mul-le-mul_right, le_of_mul-le-mul_right, div-mul-le_self}
use Rattle.fix_interval.specs.Units.{unit, unit-is}
use Rattle.fix_interval.specs.Roots.{one_factor}
use Rattle.fix_interval.specs.Ten.{ten_factor_low, ten_factor_high, fraction_low, fraction_high, raised_low, raised_high}
use Rattle.fix_interval.proofs.Powers.{pow-mul, one-pow}
use Rattle.fix_interval.proofs.PowerLaw.{root_low-law, root_high-law, all_low-law, all_high-law}

-- ten's factors are roots of 10
roots_low : (j : ℕ) → ten_factor_low j ^ (2 ^ suc j) * 1 ≤ 10 * one_factor ^ (2 ^ suc j)
unfolding ten_factor_low
roots_low j = root_low-law 10 1 (10 * one_factor) (suc j) (omega arith)

pub fraction_low-law : (f : ℕ) → f < 2 ^ 32 → fraction_low f ^ unit ≤ 10 ^ f * one_factor ^ unit
unfolding fraction_low
fraction_low-law f small =
    let law = all_low-law 10 1 ten_factor_low 0 one_factor f 32 unit refl unit-is small roots_low (omega arith) in
    let exponent : 0 * unit + f ≡ f = omega arith in
    omega (arith, rw (exponent, one-pow f) at law)

roots_high : (j : ℕ) → 10 * one_factor ^ (2 ^ suc j) ≤ ten_factor_high j ^ (2 ^ suc j) * 1
unfolding ten_factor_high
roots_high j = root_high-law 10 1 (10 * one_factor) (suc j) (omega arith)

pub fraction_high-law : (f : ℕ) → f < 2 ^ 32 → 10 ^ f * one_factor ^ unit ≤ fraction_high f ^ unit
unfolding fraction_high
fraction_high-law f small =
    let law = all_high-law 10 1 ten_factor_high 0 one_factor f 32 unit refl unit-is small roots_high (omega arith) in
    let exponent : 0 * unit + f ≡ f = omega arith in
    omega (arith, rw (exponent, one-pow f) at law)

-- a factor of 2^-60 and a number of 2^-32
pub one_factor-split : (u : ℕ) → u ≡ 2 ^ 32 → one_factor ≡ 2 ^ 28 * u
one_factor-split u e = rw e refl

-- scaling by a power of ten, with everything raised to u
scaled-low : (u c k f p x : ℕ) → u ≡ 2 ^ 32 → x * (10 ^ 20 * c) ≤ p * 10 ^ k → 0 < c → one_factor ≡ c * u → p ^ u ≤ 10 ^ f * one_factor ^ u →
    10 ^ (20 * u) * x ^ u ≤ 10 ^ (k * u + f) * u ^ u
scaled-low u c k f p x e scaled positive split before =
    let powers : (x * (10 ^ 20 * c)) ^ u ≤ (p * 10 ^ k) ^ u = pow-le-pow_left scaled u in
    let left : (x * (10 ^ 20 * c)) ^ u ≡ x ^ u * (10 ^ (20 * u) * c ^ u) =
    mul-pow x (10 ^ 20 * c) u ∙ ap (λ y. x ^ u * y) (mul-pow (10 ^ 20) c u ∙ ap (λ y. y * c ^ u) (sym (pow-mul 10 20 u))) in
    let right : (p * 10 ^ k) ^ u ≡ p ^ u * 10 ^ (k * u) = mul-pow p (10 ^ k) u ∙ ap (λ y. p ^ u * y) (sym (pow-mul 10 k u)) in
    let known : x ^ u * (10 ^ (20 * u) * c ^ u) ≤ p ^ u * 10 ^ (k * u) = rw (← left, ← right) powers in
    let factor : one_factor ^ u ≡ c ^ u * u ^ u = ap (λ y. y ^ u) split ∙ mul-pow c u u in
    let after = mul-le-mul_right (10 ^ (k * u)) before in
    let sum = pow-add 10 (k * u) f in
    le_of_mul-le-mul_right {k = c ^ u} (rw sum (omega (arith, known, after, ap (λ y. 10 ^ f * y * 10 ^ (k * u)) factor))) (one-le-pow u c positive)

scaled-high : (u c k f p x : ℕ) → u ≡ 2 ^ 32 → p * 10 ^ k ≤ x * (10 ^ 20 * c) → 0 < c → one_factor ≡ c * u → 10 ^ f * one_factor ^ u ≤ p ^ u →
    10 ^ (k * u + f) * u ^ u ≤ 10 ^ (20 * u) * x ^ u
scaled-high u c k f p x e scaled positive split before =
    let powers : (p * 10 ^ k) ^ u ≤ (x * (10 ^ 20 * c)) ^ u = pow-le-pow_left scaled u in
    let left : (x * (10 ^ 20 * c)) ^ u ≡ x ^ u * (10 ^ (20 * u) * c ^ u) =
    mul-pow x (10 ^ 20 * c) u ∙ ap (λ y. x ^ u * y) (mul-pow (10 ^ 20) c u ∙ ap (λ y. y * c ^ u) (sym (pow-mul 10 20 u))) in
    let right : (p * 10 ^ k) ^ u ≡ p ^ u * 10 ^ (k * u) = mul-pow p (10 ^ k) u ∙ ap (λ y. p ^ u * y) (sym (pow-mul 10 k u)) in
    let known : p ^ u * 10 ^ (k * u) ≤ x ^ u * (10 ^ (20 * u) * c ^ u) = rw (← left, ← right) powers in
    let factor : one_factor ^ u ≡ c ^ u * u ^ u = ap (λ y. y ^ u) split ∙ mul-pow c u u in
    let after = mul-le-mul_right (10 ^ (k * u)) before in
    let sum = pow-add 10 (k * u) f in
    le_of_mul-le-mul_right {k = c ^ u} (rw sum (omega (arith, known, after, ap (λ y. 10 ^ f * y * 10 ^ (k * u)) factor))) (one-le-pow u c positive)

-- an exponent in units is its whole part and its fraction
pub parts : (s : ℕ) → s / unit * unit + s % unit ≡ s
parts s = div-add-mod' s unit

pub fraction-small : (s : ℕ) → s % unit < 2 ^ 32
fraction-small s = rw unit-is (mod_below s (2 ^ 32) (omega arith))

pub raised_low-law : (s : ℕ) → 10 ^ (20 * unit) * raised_low s ^ unit ≤ 10 ^ s * unit ^ unit
raised_low-law s =
    let p = fraction_low (s % unit) in
    let law = scaled-low unit (2 ^ 28) (s / unit) (s % unit) p (raised_low s) unit-is
    (div-mul-le_self (p * 10 ^ (s / unit)) (10 ^ 20 * 2 ^ 28)) (omega arith) (one_factor-split unit unit-is) (fraction_low-law (s % unit) (fraction-small s)) in
    let P : ℕ → Type 0 = λ n. 10 ^ (20 * unit) * raised_low s ^ unit ≤ 10 ^ n * unit ^ unit in
    subst P (parts s) law

pub raised_high-law : (s : ℕ) → 10 ^ s * unit ^ unit ≤ 10 ^ (20 * unit) * raised_high s ^ unit
raised_high-law s =
    let p = fraction_high (s % unit) in
    let law = scaled-high unit (2 ^ 28) (s / unit) (s % unit) p (raised_high s) unit-is
    (div_ceil_times (p * 10 ^ (s / unit)) (10 ^ 20 * 2 ^ 28) (omega arith)).0 (omega arith) (one_factor-split unit unit-is) (fraction_high-law (s % unit) (fraction-small s)) in
    let P : ℕ → Type 0 = λ n. 10 ^ n * unit ^ unit ≤ 10 ^ (20 * unit) * raised_high s ^ unit in
    subst P (parts s) law
