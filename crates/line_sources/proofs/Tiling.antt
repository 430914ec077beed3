-- The gain of a piece: its power of ten is at most the length of the piece, and less than 0.02 dB below it. No power is ever
-- evaluated, so the unit is u, a gain counts j + j parts of a logarithm, and logarithms count from -z.
use Rattle.std.proofs.Common.{◌≡◌, ℕ, suc, ◌+◌, ◌-◌, ◌*◌, ◌/◌, ◌^◌, ◌<◌, ◌≤◌, inl, inr, refl, sym, ap, ◌∙◌, arith, ℤ, pos, negsuc, neg_ℤ, ◌+ℤ◌, ◌-ℤ◌, ◌*ℤ◌, ◌≤ℤ◌}
use Rattle.std.specs.Prelude.{Option, Some, unwrap_or}
use Rattle.std.proofs.lemmas.Int.{ints}
use Rattle.std.proofs.lemmas.Bool.{cases_lt}
use Rattle.std.proofs.lemmas.Nat.{mul-le, pow-add, mul-pow}
use Rattle.std.proofs.Math.Nat.{one-le-pow, pow-le-pow_left, pow-le-pow_right, mul-le-mul_left, mul-le-mul_right, le_of_mul-le-mul_left, le_of_mul-le-mul_right, lt_of_mul-lt-mul_left, div-mul-le_self, lt-div-mul-add, div-eq_of_lt-le}
use Rattle.fix_interval.specs.Units.{unit, unit-is}
use Rattle.fix_interval.specs.Interval.{Interval}
use Rattle.fix_interval.specs.Round.{floor_of}
use Rattle.fix_interval.specs.Tree.{Lg, enc}
use Rattle.fix_interval.proofs.Powers.{pow-mul, bases}
use Rattle.enclose_log.proofs.Value.{low-lifted, high-lifted, exponents}
use Rattle.enclose_log.proofs.NearEnds.{low_exponent, high_exponent, lg_low-exponent}
use Rattle.enclose_log.proofs.Lengths.{IsLength, low_root, high_root, roots, length-ends, length-narrow}
use Rattle.line_sources.specs.Gains.{piece_length, gain_of}
use Rattle.line_sources.specs.Tiles.{IsTenAtMost, IsTenAbove, IsGain}

-- ---- powers

square-power : (r j u : ℕ) → (r * r) ^ (j * u) ≡ (r ^ u) ^ (j + j)
square-power r j u =
    let e : j * u + j * u ≡ u * (j + j) = omega arith in
    mul-pow r r (j * u) ∙ sym (pow-add r (j * u) (j * u)) ∙ ap (λ i. r ^ i) e ∙ pow-mul r u (j + j)

-- a product of two powers, as it is raised to u
lifted : (t j u q : ℕ) → (10 ^ t * q ^ j) ^ u ≡ 10 ^ (t * u) * (q ^ j) ^ u
lifted t j u q = mul-pow (10 ^ t) (q ^ j) u ∙ ap (λ x. x * (q ^ j) ^ u) (sym (pow-mul 10 t u))

-- as it is raised to j + j
doubled : (l j u r : ℕ) → (10 ^ l * r ^ u) ^ (j + j) ≡ 10 ^ (l * (j + j)) * (r ^ u) ^ (j + j)
doubled l j u r = mul-pow (10 ^ l) (r ^ u) (j + j) ∙ ap (λ x. x * (r ^ u) ^ (j + j)) (sym (pow-mul 10 l (j + j)))

turned : (z j u : ℕ) → z * u * (j + j) ≡ z * (j + j) * u
turned z j u = omega arith

-- the powers of a root and of its fraction
record Powers (r q n j u : ℕ) : Type 0 where
  root : (r * r * q) ^ (j * u) ≡ (r ^ u) ^ (j + j) * (q ^ j) ^ u
  fraction : (n * (u * u)) ^ (j * u) ≡ (n ^ j) ^ u * (u ^ u) ^ (j + j)

powers : (r q n j u : ℕ) → Powers r q n j u
powers r q n j u = record {
  root = mul-pow (r * r) q (j * u) ∙ ap (λ x. x * q ^ (j * u)) (square-power r j u) ∙ ap (λ x. (r ^ u) ^ (j + j) * x) (pow-mul q j u);
  fraction = mul-pow n (u * u) (j * u) ∙ ap (λ x. x * (u * u) ^ (j * u)) (pow-mul n j u) ∙ ap (λ x. (n ^ j) ^ u * x) (square-power u j u);
}

low-chained : (a b c v r q n : ℕ) → 0 < v → b * v ≤ c * r → a ≤ b → r * q ≤ n * v → a * q ≤ c * n
low-chained a b c v r q n positive low less root =
    le_of_mul-le-mul_right {k = v}
    (omega (arith, mul-le-mul_right (v * q) less, mul-le-mul_right q low, mul-le-mul_left c root)) positive

high-chained : (a b c v f q n : ℕ) → 0 < v → 0 < q → c * f ≤ b * v → n * v ≤ f * q → a * q ≤ c * n → a * (q * v) ≤ b * (q * v)
high-chained a b c v f q n positive some high root less =
    omega (arith, mul-le-mul_right v less, mul-le-mul_right q high, mul-le-mul_left c root)

-- ---- both sides

pub gain-not_above : (l t u r q n j z : ℕ) → 0 < u → t * u ≤ l * (j + j) → 10 ^ l * u ^ u ≤ 10 ^ (z * u) * r ^ u → r * r * q ≤ n * u * u
    → 10 ^ t * q ^ j ≤ 10 ^ (z * (j + j)) * n ^ j
gain-not_above l t u r q n j z positive less low root =
    let low_powers = rw (doubled l j u u, doubled (z * u) j u r) at (pow-le-pow_left low (j + j)) in
    let square : r * r * q ≤ n * (u * u) = omega (arith, root) in
    let p = powers r q n j u in
    let root_powers = rw (p.root, p.fraction) at (pow-le-pow_left square (j * u)) in
    let grown : 10 ^ (t * u) ≤ 10 ^ (l * (j + j)) = pow-le-pow_right {n = 10} (omega arith) less in
    let chained = low-chained (10 ^ (t * u)) (10 ^ (l * (j + j))) (10 ^ (z * u * (j + j))) ((u ^ u) ^ (j + j)) ((r ^ u) ^ (j + j)) ((q ^ j) ^ u) ((n ^ j) ^ u)
    (one-le-pow (j + j) (u ^ u) (one-le-pow u u positive)) low_powers grown root_powers in
    bases (10 ^ t * q ^ j) (10 ^ (z * (j + j)) * n ^ j) u positive
    (rw (lifted t j u q, lifted (z * (j + j)) j u n, ← turned z j u) chained)

pub gain-near : (h s u f q n j z : ℕ) → 0 < u → 0 < q → h * (j + j) < s * u → 10 ^ (z * u) * f ^ u ≤ 10 ^ h * u ^ u → n * u * u ≤ f * f * q
    → 10 ^ (z * (j + j)) * n ^ j < 10 ^ s * q ^ j
gain-near h s u f q n j z positive some more high root =
    elim (cases_lt (10 ^ (z * (j + j)) * n ^ j) (10 ^ s * q ^ j)) [
      | inl is ↦ is
      | inr not_less ↦ absurd (omega (arith, more, contrary not_less))
    ]
  where
    contrary : 10 ^ s * q ^ j ≤ 10 ^ (z * (j + j)) * n ^ j → s * u ≤ h * (j + j)
    contrary less =
        let high_powers = rw (doubled (z * u) j u f, doubled h j u u) at (pow-le-pow_left high (j + j)) in
        let square : n * (u * u) ≤ f * f * q = omega (arith, root) in
        let p = powers f q n j u in
        let root_powers = rw (p.root, p.fraction) at (pow-le-pow_left square (j * u)) in
        let less_powers = rw (lifted s j u q, lifted (z * (j + j)) j u n, ← turned z j u) at (pow-le-pow_left less u) in
        let whole : 0 < (u ^ u) ^ (j + j) = one-le-pow (j + j) (u ^ u) (one-le-pow u u positive) in
        let part : 0 < (q ^ j) ^ u = one-le-pow u (q ^ j) (one-le-pow j q some) in
        exponents (s * u) (h * (j + j)) ((q ^ j) ^ u * (u ^ u) ^ (j + j)) (mul-le 1 1 ((q ^ j) ^ u) ((u ^ u) ^ (j + j)) part whole)
        (high-chained (10 ^ (s * u)) (10 ^ (h * (j + j))) (10 ^ (z * u * (j + j))) ((u ^ u) ^ (j + j)) ((f ^ u) ^ (j + j)) ((q ^ j) ^ u) ((n ^ j) ^ u) whole part high_powers root_powers less_powers)

-- ---- exponents with a sign

pub at_most-shifted : (s z x y : ℕ) → 10 ^ s * x ≤ 10 ^ z * y → IsTenAtMost (pos s -ℤ pos z) x y
at_most-shifted s z x y h =
    elim (cases_lt s z) [
      | inl less ↦ (let parts : z ≡ s + suc (z - s - 1) = omega (arith, less) in
          let is : pos s -ℤ pos z ≡ negsuc (z - s - 1) = omega (arith, ints, less) in
          let power : 10 ^ z ≡ 10 ^ s * 10 ^ suc (z - s - 1) = ap (λ i. 10 ^ i) parts ∙ pow-add 10 s (suc (z - s - 1)) in
          rw is (le_of_mul-le-mul_left {k = 10 ^ s} (omega (arith, rw power at h)) (one-le-pow s 10 (omega arith))))
      | inr more ↦ (let parts : s ≡ z + (s - z) = omega (arith, more) in
          let is : pos s -ℤ pos z ≡ pos (s - z) = omega (arith, ints, more) in
          let power : 10 ^ s ≡ 10 ^ z * 10 ^ (s - z) = ap (λ i. 10 ^ i) parts ∙ pow-add 10 z (s - z) in
          rw is (le_of_mul-le-mul_left {k = 10 ^ z} (omega (arith, rw power at h)) (one-le-pow z 10 (omega arith))))
    ]

pub above-shifted : (s z x y : ℕ) → 10 ^ z * y < 10 ^ s * x → IsTenAbove (pos s -ℤ pos z) x y
above-shifted s z x y h =
    elim (cases_lt s z) [
      | inl less ↦ (let parts : z ≡ s + suc (z - s - 1) = omega (arith, less) in
          let is : pos s -ℤ pos z ≡ negsuc (z - s - 1) = omega (arith, ints, less) in
          let power : 10 ^ z ≡ 10 ^ s * 10 ^ suc (z - s - 1) = ap (λ i. 10 ^ i) parts ∙ pow-add 10 s (suc (z - s - 1)) in
          rw is (lt_of_mul-lt-mul_left (10 ^ s) (omega (arith, rw power at h))))
      | inr more ↦ (let parts : s ≡ z + (s - z) = omega (arith, more) in
          let is : pos s -ℤ pos z ≡ pos (s - z) = omega (arith, ints, more) in
          let power : 10 ^ s ≡ 10 ^ z * 10 ^ (s - z) = ap (λ i. 10 ^ i) parts ∙ pow-add 10 z (s - z) in
          rw is (lt_of_mul-lt-mul_left (10 ^ z) (omega (arith, rw power at h))))
    ]

-- a quotient by u, from which whole numbers of u are taken
floor_of-shifted : (s z u : ℕ) → 0 < u → floor_of (pos s -ℤ pos (z * u)) u ≡ pos (s / u) -ℤ pos z
floor_of-shifted s z u positive =
    by (s / u) (div-mul-le_self s u) (lt-div-mul-add {a = s} {b = u} positive)
  where
    by : (k : ℕ) → k * u ≤ s → s < k * u + u → floor_of (pos s -ℤ pos (z * u)) u ≡ pos k -ℤ pos z
    by k low high =
        elim (cases_lt s (z * u)) [
          | inl less ↦ (let is : pos s -ℤ pos (z * u) ≡ negsuc (z * u - s - 1) = omega (arith, ints, less) in
              let above : k < z = (elim (cases_lt k z) [ inl is_above ↦ is_above | inr up ↦ absurd (omega (arith, less, low, mul-le-mul_right u up)) ]) in
              let parts : z * u ≡ (z - k - 1) * u + k * u + u = (let e : z ≡ (z - k - 1) + k + 1 = omega (arith, above) in ap (λ i. i * u) e ∙ omega arith) in
              let quotient : (z * u - s - 1) / u ≡ z - k - 1 = div-eq_of_lt-le {k = z - k - 1} u {m = z * u - s - 1} (omega (arith, parts, high, less)) (omega (arith, parts, low, less)) in
              rw is (ap negsuc quotient ∙ omega (arith, ints, above)))
          | inr more ↦ (let is : pos s -ℤ pos (z * u) ≡ pos (s - z * u) = omega (arith, ints, more) in
              let above : z ≤ k = (elim (cases_lt k z) [ inl below ↦ (let up : k + 1 ≤ z = omega (arith, below) in absurd (omega (arith, more, high, mul-le-mul_right u up))) | inr is_above ↦ is_above ]) in
              let parts : k * u ≡ (k - z) * u + z * u = (let e : k ≡ (k - z) + z = omega (arith, above) in ap (λ i. i * u) e ∙ omega arith) in
              let quotient : (s - z * u) / u ≡ k - z = div-eq_of_lt-le {k = k - z} u {m = s - z * u} (omega (arith, parts, low, more)) (omega (arith, parts, high, more)) in
              rw is (ap pos quotient ∙ omega (arith, ints, above)))
        ]

-- ---- bounds

-- a fraction from a millionth to a million
gain-high : (t q n j z : ℕ) → 0 < q → n ≤ 10 ^ 6 * q → 10 ^ t * q ^ j ≤ 10 ^ z * n ^ j → t ≤ z + 6 * j
gain-high t q n j z some most h =
    let power : n ^ j ≤ 10 ^ (6 * j) * q ^ j = rw (pow-mul 10 6 j, ← mul-pow (10 ^ 6) q j) (pow-le-pow_left most j) in
    exponents t (z + 6 * j) (q ^ j) (one-le-pow j q some)
    (rw (pow-add 10 z (6 * j)) (omega (arith, h, mul-le-mul_left (10 ^ z) power)))

gain-low : (s q n j z : ℕ) → 0 < n → q ≤ 10 ^ 6 * n → 10 ^ z * n ^ j < 10 ^ s * q ^ j → z < s + 6 * j
gain-low s q n j z some most h =
    let power : q ^ j ≤ 10 ^ (6 * j) * n ^ j = rw (pow-mul 10 6 j, ← mul-pow (10 ^ 6) n j) (pow-le-pow_left most j) in
    below z (s + 6 * j) (n ^ j) (rw (pow-add 10 s (6 * j)) (omega (arith, h, mul-le-mul_left (10 ^ s) power)))
  where
    below : (a b y : ℕ) → 10 ^ a * y < 10 ^ b * y → a < b
    below a b y less =
        elim (cases_lt a b) [
          | inl is_less ↦ is_less
          | inr more ↦ absurd (omega (arith, less, mul-le-mul_right y (pow-le-pow_right {n = 10} (omega arith) {i = b} {j = a} more)))
        ]

-- ---- the gain

-- what a gain is, where t counts from -10,000
record Gained (n q : ℕ) : Type 0 where
  t : ℕ
  is : floor_of (pos 1000 *ℤ (pos (low_exponent (low_root n q)) -ℤ pos (10 * unit))) unit ≡ pos t -ℤ pos 10000
  not_above : 10 ^ t * q ^ 500 ≤ 10 ^ 10000 * n ^ 500
  near : 10 ^ 10000 * n ^ 500 < 10 ^ (t + 2) * q ^ 500

unit-positive : 0 < unit
unit-positive = rw unit-is (omega arith)

gained : (n q : ℕ) → IsLength n q → Gained n q
gained n q l =
    let r = roots n q l in
    let x = low_exponent (low_root n q) in
    let y = high_exponent (high_root n q) in
    let t = 1000 * x / unit in
    let down = div-mul-le_self (1000 * x) unit in
    let up = lt-div-mul-add {a = 1000 * x} {b = unit} unit-positive in
    let narrow = length-narrow n q l in
    let units : pos 1000 *ℤ (pos x -ℤ pos (10 * unit)) ≡ pos (1000 * x) -ℤ pos (10000 * unit) = omega (arith, ints) in
    record {
      t = t;
      is = rw units (floor_of-shifted (1000 * x) 10000 unit unit-positive);
      not_above = gain-not_above x t unit (low_root n q) q n 500 10 unit-positive (omega (arith, down)) (low-lifted (low_root n q) r.low_positive r.low_small) r.low;
      near = gain-near y (t + 2) unit (high_root n q) q n 500 10 unit-positive l.divisor (omega (arith, up, narrow)) (high-lifted (high_root n q) r.high_positive r.high_small) r.high;
    }

pub piece-is_length : (n count : ℕ) → n < 2 ^ 94 → 1 ≤ count → count * count ≤ n → n ≤ 1000000000000 * (count * count) → IsLength n (1000000 * (count * count))
piece-is_length n count small some least most =
    record { divisor = omega (arith, mul-le 1 1 count count some some); least = omega (arith, least); most = omega (arith, most); small = small }

low-end : (n count : ℕ) → IsLength n (1000000 * (count * count)) → gain_of n count ≡ floor_of (pos 1000 *ℤ (pos (low_exponent (low_root n (1000000 * (count * count)))) -ℤ pos (10 * unit))) unit
unfolding gain_of
low-end n count l =
    rw (length-ends n (1000000 * (count * count)) l, lg_low-exponent (low_root n (1000000 * (count * count)))) refl

pub record GainFacts (n count : ℕ) (t : ℤ) : Type 0 where
  pub gain : IsGain n count t
  pub low : neg_ℤ (pos 3001) ≤ℤ t
  pub high : t ≤ℤ pos 3000

pub gain_of-facts : (n count : ℕ) → n < 2 ^ 94 → 1 ≤ count → count * count ≤ n → n ≤ 1000000000000 * (count * count) → GainFacts n count (gain_of n count)
gain_of-facts n count small some least most =
    let l = piece-is_length n count small some least most in
    let q = 1000000 * (count * count) in
    let g = gained n q l in
    rw (low-end n count l ∙ g.is) (facts n count g.t q refl g.not_above g.near l)
  where
    facts : (n count t q : ℕ) → q ≡ 1000000 * (count * count) → 10 ^ t * q ^ 500 ≤ 10 ^ 10000 * n ^ 500 → 10 ^ 10000 * n ^ 500 < 10 ^ (t + 2) * q ^ 500 → IsLength n q → GainFacts n count (pos t -ℤ pos 10000)
    facts n count t q e not_above near l =
        let more : (pos t -ℤ pos 10000) +ℤ pos 2 ≡ pos (t + 2) -ℤ pos 10000 = omega (arith, ints) in
        let top : t ≤ 10000 + 6 * 500 = gain-high t q n 500 10000 l.divisor l.most not_above in
        let bottom : 10000 < (t + 2) + 6 * 500 = gain-low (t + 2) q n 500 10000 (omega (arith, l.least, l.divisor)) l.least near in
        record {
          gain = record {
            not_above = rw (← e) (at_most-shifted t 10000 (q ^ 500) (n ^ 500) not_above);
            near = rw (more, ← e) (above-shifted (t + 2) 10000 (q ^ 500) (n ^ 500) near);
          };
          low = omega (arith, ints, bottom);
          high = omega (arith, ints, top);
        }

-- the low end that the code reads
pub low-end-is : (n count : ℕ) (i : Interval) → i ≡ enc (Lg (piece_length n count)) → (z : ℤ) → Some z ≡ i.lo → floor_of (pos 1000 *ℤ z) unit ≡ gain_of n count
unfolding gain_of
low-end-is n count i e z f =
    ap (λ (lo : Option ℤ). floor_of (pos 1000 *ℤ unwrap_or lo (pos 0)) unit) f
    ∙ ap (λ (j : Interval). floor_of (pos 1000 *ℤ unwrap_or j.lo (pos 0)) unit) e
