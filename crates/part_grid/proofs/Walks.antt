-- Whether the cells of a side meet a walk, column by column.
use Rattle.std.proofs.Common.{◌≡◌, ℕ, suc, ◌≤◌, ◌<◌, ◌+◌, ◌-◌, ◌*◌, min, max, Bool, true, false, refl, sym, ap, subst, ◌∙◌, arith}
use Rattle.std.specs.Prelude.{◌&&◌}
use Rattle.std.specs.List.{list_any, range_with_len}
use Rattle.std.proofs.lemmas.Bool.{and_parts, and_from, ne_eqb}
use Rattle.scene_geom.specs.declared.plan.Pt.{Pt}
use Rattle.scene_geom.specs.declared.plan.Side.{Side}
use Rattle.part_grid.specs.declared.cells.span.Span.{Span}
use Rattle.part_grid.specs.Span.{between, has, overlap, common, lines}
use Rattle.part_grid.specs.Cells.{cell, from_edge, row_at, columns_of, rows_of, columns_between, covers, walk_rows, cells_meet_of}
use Rattle.part_grid.proofs.Spans.{has-from, any-line, any-turn, any-end, any-common}

-- a column in which they share no row
pub unmet-turn : (side : Side) (p q : Pt) (low column : ℕ) (rows walked : Span) → low ≤ column → rows ≡ rows_of side → walked ≡ walk_rows p q column → false ≡ overlap rows walked
    → list_any (λ column. covers side column (walk_rows p q column)) (range_with_len low (column - low)) ≡ false
    → list_any (λ column. covers side column (walk_rows p q column)) (range_with_len low ((column + 1) - low)) ≡ false
unmet-turn side p q low column rows walked h is walk none before =
    let here : overlap (rows_of side) (walk_rows p q column) ≡ false = ap (λ (r : Span). overlap r (walk_rows p q column)) (sym is) ∙ ap (overlap rows) (sym walk) ∙ sym none in
    any-turn (λ column. covers side column (walk_rows p q column)) low column h
    ∙ rw (before, here) (and-none (has (columns_of side) column))
  where
    and-none : (b : Bool) → (b && false) ≡ false
    and-none true = refl
    and-none false = refl

-- the common columns are enough
pub met-common : (side : Side) (p q : Pt)
    → list_any (λ column. covers side column (walk_rows p q column)) (lines (common (columns_between p q) (columns_of side))) ≡ cells_meet_of side p q
met-common side p q =
    any-common (λ column. covers side column (walk_rows p q column)) (columns_between p q) (columns_of side)
    (λ n h. (and_parts (has (columns_of side) n) (overlap (rows_of side) (walk_rows p q n)) h).0)

pub unmet-end : (side : Side) (p q : Pt) (columns : Span) (column : ℕ) → columns ≡ common (columns_between p q) (columns_of side) → columns.low ≤ column
    → column - columns.low ≤ (columns.high + 1) - columns.low → columns.high + 1 ≤ column
    → list_any (λ column. covers side column (walk_rows p q column)) (range_with_len columns.low (column - columns.low)) ≡ false → false ≡ cells_meet_of side p q
unmet-end side p q columns column is h k end none =
    sym none ∙ any-end (λ column. covers side column (walk_rows p q column)) columns column h k end
    ∙ ap (λ (span : Span). list_any (λ column. covers side column (walk_rows p q column)) (lines span)) is ∙ met-common side p q

-- a column in which they share a row
pub met-here : (side : Side) (p q : Pt) (columns rows walked : Span) (column : ℕ) → columns ≡ common (columns_between p q) (columns_of side) → rows ≡ rows_of side → walked ≡ walk_rows p q column
    → columns.low ≤ column → column < columns.high + 1 → true ≡ overlap rows walked → true ≡ cells_meet_of side p q
met-here side p q columns rows walked column is rows-is walk h k met =
    let here : overlap (rows_of side) (walk_rows p q column) ≡ true = ap (λ (r : Span). overlap r (walk_rows p q column)) (sym rows-is) ∙ ap (overlap rows) (sym walk) ∙ sym met in
    let low : (common (columns_between p q) (columns_of side)).low ≤ column = subst (λ (s : Span). s.low ≤ column) is h in
    let high : column ≤ (common (columns_between p q) (columns_of side)).high = subst (λ (s : Span). column ≤ s.high) is (omega arith) in
    sym (any-line (λ column. covers side column (walk_rows p q column)) (columns_between p q) column
    (has-from (columns_between p q) column (omega arith) (omega arith))
    (and_from (has (columns_of side) column) (overlap (rows_of side) (walk_rows p q column)) (has-from (columns_of side) column (omega arith) (omega arith)) here))

-- the rows of a slanted walk, from the rows at both ends of the column
pub slanted-rows : (p q : Pt) (column west east a b : ℕ) (rows : Span) → (from_edge p.x ≡ from_edge q.x → ⊥) → west ≡ max (min (from_edge p.x) (from_edge q.x)) (column * cell)
    → east ≡ min (max (from_edge p.x) (from_edge q.x)) ((column + 1) * cell) → a ≡ row_at p q west → b ≡ row_at p q east → rows ≡ between a b → rows ≡ walk_rows p q column
slanted-rows p q column west east a b rows apart is-west is-east is-a is-b is =
    let next : column + 1 ≡ suc column = omega arith in
    let lower = is-a ∙ ap (row_at p q) is-west in
    let upper = is-b ∙ ap (row_at p q) (is-east ∙ ap (λ (n : ℕ). min (max (from_edge p.x) (from_edge q.x)) (n * cell)) next) in
    rw (ne_eqb (from_edge p.x) (from_edge q.x) apart) (is ∙ ap (λ (n : ℕ). between n b) lower ∙ ap (between (row_at p q (max (min (from_edge p.x) (from_edge q.x)) (column * cell)))) upper)
