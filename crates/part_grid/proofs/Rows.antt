-- The rows of a segment in the column of a point of it.
use Rattle.std.proofs.Common.{◌≡◌, ℕ, suc, ◌+◌, ◌-◌, ◌*◌, ◌/◌, ◌<◌, ◌≤◌, min, max, sym, ap, inl, inr, arith, mul_comm}
use Rattle.std.specs.Int.{abs_diff}
use Rattle.std.proofs.Math.Nat.{mul-le-mul_right}
use Rattle.std.proofs.lemmas.Bool.{cases_lt, cases_eq, eq-eqb, ne_eqb}
use Rattle.scene_geom.specs.declared.plan.Pt.{Pt}
use Rattle.part_grid.specs.Cells.{cell, from_edge, row_at, walk_rows}
use Rattle.part_grid.proofs.Means.{mean, IsAmid, mean-amid, mean-between, quotient-le}

-- ---- the weights of both ends at a place before or behind a point
record IsOnWay (X Z x : ℕ) : Type 0 where
  least : min X Z ≤ x
  greatest : x ≤ max X Z

way-length : (X Z x : ℕ) → IsOnWay X Z x → abs_diff x Z + abs_diff x X ≡ abs_diff X Z
way-length X Z x on = omega (arith, on.least, on.greatest)

lighter : (X g e m n : ℕ) → (X + g) * (m + n) ≤ X * m + (X + g + e) * n → g * m ≤ n * e
lighter X g e m n h = omega arith

heavier : (X g e m n : ℕ) → X * m + (X + g + e) * n ≤ (X + g) * (m + n) → n * e ≤ g * m
heavier X g e m n h = omega arith

-- for a way to the east
east-lighter : (X Z x m n : ℕ) → X < Z → IsOnWay X Z x → x * (m + n) ≤ X * m + Z * n → abs_diff x X * m ≤ n * abs_diff x Z
east-lighter X Z x m n h on e =
    let from : x ≡ X + (x - X) = omega (arith, on.least) in
    let to : Z ≡ X + (x - X) + (Z - x) = omega (arith, on.least, on.greatest) in
    let g : abs_diff x X ≡ x - X = omega (arith, on.least) in
    let f : abs_diff x Z ≡ Z - x = omega (arith, on.greatest) in
    rw (g, f) (lighter X (x - X) (Z - x) m n (omega (arith, ap (λ (w : ℕ). w * (m + n)) from, ap (λ (w : ℕ). w * n) to, e)))

east-heavier : (X Z x m n : ℕ) → X < Z → IsOnWay X Z x → X * m + Z * n ≤ x * (m + n) → n * abs_diff x Z ≤ abs_diff x X * m
east-heavier X Z x m n h on e =
    let from : x ≡ X + (x - X) = omega (arith, on.least) in
    let to : Z ≡ X + (x - X) + (Z - x) = omega (arith, on.least, on.greatest) in
    let g : abs_diff x X ≡ x - X = omega (arith, on.least) in
    let f : abs_diff x Z ≡ Z - x = omega (arith, on.greatest) in
    rw (g, f) (heavier X (x - X) (Z - x) m n (omega (arith, ap (λ (w : ℕ). w * (m + n)) from, ap (λ (w : ℕ). w * n) to, e)))

-- ---- the row at a place
row-mean : (p q : Pt) (x : ℕ) → IsOnWay (from_edge p.x) (from_edge q.x) x
    → row_at p q x ≡ mean (from_edge p.y) (from_edge q.y) (abs_diff x (from_edge q.x)) (abs_diff x (from_edge p.x))
row-mean p q x on =
    ap (λ (w : ℕ). (from_edge p.y * abs_diff x (from_edge q.x) + from_edge q.y * abs_diff x (from_edge p.x)) / (w * cell))
    (sym (way-length (from_edge p.x) (from_edge q.x) x on))

turned-way : (X Z x : ℕ) → IsOnWay X Z x → IsOnWay Z X x
turned-way X Z x on = record { least = omega (arith, on.least); greatest = omega (arith, on.greatest) }

-- the row of a point lies between the rows at a place to the west of it and one to the east
row-amid : (p q : Pt) (m n x1 x2 : ℕ) → (from_edge p.x ≡ from_edge q.x → ⊥) → 0 < m + n → IsOnWay (from_edge p.x) (from_edge q.x) x1 → IsOnWay (from_edge p.x) (from_edge q.x) x2
    → x1 * (m + n) ≤ from_edge p.x * m + from_edge q.x * n → from_edge p.x * m + from_edge q.x * n ≤ x2 * (m + n)
    → IsAmid (row_at p q x1) (mean (from_edge p.y) (from_edge q.y) m n) (row_at p q x2)
row-amid p q m n x1 x2 apart some on1 on2 west east =
    let X = from_edge p.x in let Z = from_edge q.x in let Y = from_edge p.y in let W = from_edge q.y in
    let l1 = way-length X Z x1 on1 in let l2 = way-length X Z x2 on2 in
    let at1 = row-mean p q x1 on1 in let at2 = row-mean p q x2 on2 in
    elim (cases_lt X Z) [
      | inl eastward ↦
          (let amid = mean-amid Y W m n (abs_diff x1 Z) (abs_diff x1 X) (abs_diff x2 Z) (abs_diff x2 X) some (omega arith) (omega arith)
          (east-lighter X Z x1 m n eastward on1 west) (east-heavier X Z x2 m n eastward on2 east) in
          record { least = omega (arith, amid.least, at1, at2); greatest = omega (arith, amid.greatest, at1, at2) })
      | inr westward ↦
          (let less : Z < X = omega (arith, apart) in
          let behind = east-lighter Z X x1 n m less (turned-way X Z x1 on1) (omega arith) in
          let before = east-heavier Z X x2 n m less (turned-way X Z x2 on2) (omega arith) in
          let amid = mean-amid Y W m n (abs_diff x2 Z) (abs_diff x2 X) (abs_diff x1 Z) (abs_diff x1 X) some (omega arith) (omega arith)
          (omega (arith, before, mul_comm m (abs_diff x2 X), mul_comm n (abs_diff x2 Z))) (omega (arith, behind, mul_comm m (abs_diff x1 X), mul_comm n (abs_diff x1 Z))) in
          record { least = omega (arith, amid.least, at1, at2); greatest = omega (arith, amid.greatest, at1, at2) })
    ]

-- ---- the rows of the walk in the column of a point
max-mul : (a b d s : ℕ) → a * d ≤ s → b * d ≤ s → max a b * d ≤ s
max-mul a b d s h k = elim (cases_lt a b) [ inl less ↦ (let is : max a b ≡ b = omega arith in rw is k) | inr more ↦ (let is : max a b ≡ a = omega arith in rw is h) ]

min-mul : (a b d s : ℕ) → s ≤ a * d → s ≤ b * d → s ≤ min a b * d
min-mul a b d s h k = elim (cases_lt a b) [ inl less ↦ (let is : min a b ≡ a = omega arith in rw is h) | inr more ↦ (let is : min a b ≡ b = omega arith in rw is k) ]

least-mul : (X Z m n : ℕ) → min X Z * (m + n) ≤ X * m + Z * n
least-mul X Z m n =
    elim (cases_lt X Z) [
      | inl less ↦ (let h : X ≤ Z = omega arith in let is : min X Z ≡ X = omega arith in rw is (omega (arith, mul-le-mul_right n h)))
      | inr more ↦ (let is : min X Z ≡ Z = omega arith in rw is (omega (arith, mul-le-mul_right m more)))
    ]

greatest-mul : (X Z m n : ℕ) → X * m + Z * n ≤ max X Z * (m + n)
greatest-mul X Z m n =
    elim (cases_lt X Z) [
      | inl less ↦ (let h : X ≤ Z = omega arith in let is : max X Z ≡ Z = omega arith in rw is (omega (arith, mul-le-mul_right m h)))
      | inr more ↦ (let is : max X Z ≡ X = omega arith in rw is (omega (arith, mul-le-mul_right n more)))
    ]

quotient-lt : (a b : ℕ) → 0 < b → a < (a / b + 1) * b
quotient-lt a b h = omega arith

-- the row of a point is one of the rows of the walk in its column
pub row-walked : (p q : Pt) (m n : ℕ) → 0 < m + n
    → ((walk_rows p q (mean (from_edge p.x) (from_edge q.x) m n)).low ≤ mean (from_edge p.y) (from_edge q.y) m n)
    × (mean (from_edge p.y) (from_edge q.y) m n ≤ (walk_rows p q (mean (from_edge p.x) (from_edge q.x) m n)).high)
row-walked p q m n some =
    let X = from_edge p.x in let Z = from_edge q.x in
    let c = mean X Z m n in
    let r = mean (from_edge p.y) (from_edge q.y) m n in
    let x1 = max (min X Z) (c * cell) in let x2 = min (max X Z) (suc c * cell) in
    elim (cases_eq X Z) [
      | inl same ↦
          (let amid = mean-between (from_edge p.y) (from_edge q.y) m n some in
          rw (eq-eqb X Z same) (amid.least, amid.greatest))
      | inr apart ↦
          (let column = mean-between X Z m n some in
          let low : c * ((m + n) * cell) ≤ X * m + Z * n = quotient-le (X * m + Z * n) ((m + n) * cell) (omega arith) in
          let high : X * m + Z * n < (c + 1) * ((m + n) * cell) = quotient-lt (X * m + Z * n) ((m + n) * cell) (omega arith) in
          let on1 : IsOnWay X Z x1 = record { least = omega arith; greatest = omega (arith, column.greatest) } in
          let on2 : IsOnWay X Z x2 = record { least = omega (arith, column.least); greatest = omega arith } in
          let west : x1 * (m + n) ≤ X * m + Z * n = max-mul (min X Z) (c * cell) (m + n) (X * m + Z * n) (least-mul X Z m n) (omega (arith, low)) in
          let east : X * m + Z * n ≤ x2 * (m + n) = min-mul (max X Z) (suc c * cell) (m + n) (X * m + Z * n) (greatest-mul X Z m n) (omega (arith, high)) in
          let amid = row-amid p q m n x1 x2 apart some on1 on2 west east in
          rw (ne_eqb X Z apart) (amid.least, amid.greatest))
    ]
