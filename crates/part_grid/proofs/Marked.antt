-- Marks that are made row by row and column by column.
use Rattle.std.proofs.Common.{◌≡◌, ℕ, zero, suc, ◌+◌, ◌-◌, ◌<◌, ◌≤◌, Bool, true, false, ◌*◌, min, max, List, [], ◌∷◌, length, get_or, replicate, map, refl, sym, ap, subst, ◌∙◌, arith}
use Rattle.std.specs.Prelude.{◌||◌, ◌&&◌, ◌==◌, if◌then◌else◌}
use Rattle.std.specs.List.{list_any, range_with_len}
use Rattle.std.proofs.lemmas.Bool.{and_parts}
use Rattle.scene_geom.specs.declared.plan.Pt.{Pt}
use Rattle.scene_geom.specs.declared.plan.Side.{Side}
use Rattle.part_grid.specs.declared.cells.span.Span.{Span}
use Rattle.part_grid.specs.declared.cells.frame.Frame.{Frame}
use Rattle.part_grid.specs.declared.owned.Owned.{Owned}
use Rattle.part_grid.specs.Span.{between, has, overlap, common, lines}
use Rattle.part_grid.specs.Cells.{cell, from_edge, row_at, columns_of, rows_of, columns_between, rows_between, covers, walk_rows, cells_meet_of, boxes_meet}
use Rattle.part_grid.specs.inner.Index.{entered, has_cell, IsIndex, IsWithin}
use Rattle.part_grid.proofs.Spans.{any-start, any-turn, any-end, any-line, found-line, any-common, any-has, same-test, has-lines, has-from}

-- ---- what is marked so far
pub marks-start : (marked : Bool) (f : ℕ → Bool) (low : ℕ) → marked ≡ (marked || list_any f (range_with_len low (low - low)))
marks-start marked f low = rw (any-start f low) (none marked)
  where
    none : (b : Bool) → b ≡ (b || false)
    none true = refl
    none false = refl

pub marks-more : (new now old : Bool) (f : ℕ → Bool) (low n : ℕ) → low ≤ n → new ≡ (now || f n) → now ≡ (old || list_any f (range_with_len low (n - low)))
    → new ≡ (old || list_any f (range_with_len low ((n + 1) - low)))
marks-more new now old f low n h e before = rw (e, before, any-turn f low n h) (or-assoc old (list_any f (range_with_len low (n - low))) (f n))
  where
    or-assoc : (a b c : Bool) → ((a || b) || c) ≡ (a || (b || c))
    or-assoc true b c = refl
    or-assoc false b c = refl

pub marks-all : (now old : Bool) (f : ℕ → Bool) (span : Span) (n : ℕ) → span.low ≤ n → n - span.low ≤ (span.high + 1) - span.low → span.high + 1 ≤ n
    → now ≡ (old || list_any f (range_with_len span.low (n - span.low))) → now ≡ (old || list_any f (lines span))
marks-all now old f span n h k end e = e ∙ ap (λ (b : Bool). old || b) (any-end f span n h k end)

-- ---- what the entries of a column tell of a side
any-same : (f g : ℕ → Bool) (span : Span) → ((n : ℕ) → has span n ≡ true → f n ≡ g n) → list_any f (lines span) ≡ list_any g (lines span)
any-same f g span h =
    same-test (list_any f (lines span)) (list_any g (lines span))
    (λ e. let it = found-line f span e in any-line g span it.0 it.1 (sym (h it.0 it.1) ∙ it.2))
    (λ e. let it = found-line g span e in any-line f span it.0 it.1 (h it.0 it.1 ∙ it.2))

common-right : (a b : Span) (n : ℕ) → has (common a b) n ≡ true → has b n ≡ true
common-right a b n h = let at = has-lines (common a b) n h in has-from b n (omega (arith, at.0)) (omega (arith, at.1))

pub column-covers : (sides : List Owned) (frame : Frame) (lists : List (List ℕ)) (column k : ℕ) (d : Owned) (rows : Span) → IsIndex sides frame lists → has frame.columns column ≡ true → rows.low ≤ rows.high → k < length sides
    → list_any (λ row. entered lists frame column row k) (lines (common rows frame.rows)) ≡ covers (get_or sides k d).side column rows
column-covers sides frame lists column k d rows index at h below =
    let side = (get_or sides k d).side in
    any-same (λ row. entered lists frame column row k) (λ row. has_cell side column row) (common rows frame.rows)
    (λ row r. index.numbers column row k d at (common-right rows frame.rows row r) below)
    ∙ any-has (rows_of side) rows frame.rows (has (columns_of side) column) (omega arith) h (index.holds k d below).rows

-- ---- marks that are those of a test
pub marks-none : (marks : List Bool) (n i : ℕ) → marks ≡ replicate n false → get_or marks i false ≡ false
marks-none marks n i e = ap (λ (xs : List Bool). get_or xs i false) e ∙ none n i
  where
    none : (n i : ℕ) → get_or (replicate n false) i false ≡ false
    none zero i = refl
    none (suc n) zero = refl
    none (suc n) (suc i) = none n i

pub marks-are : (marks : List Bool) (test : Owned → Bool) (sides : List Owned) → length marks ≡ length sides → ((k : ℕ) (d : Owned) → k < length sides → get_or marks k false ≡ test (get_or sides k d)) → marks ≡ map test sides
marks-are [] test [] same h = refl
marks-are [] test (owned ∷ sides) same h = absurd (omega arith)
marks-are (b ∷ marks) test [] same h = absurd (omega arith)
marks-are (b ∷ marks) test (owned ∷ sides) same h =
    ap (λ (x : Bool). x ∷ marks) (h zero owned (omega arith))
    ∙ ap (λ (xs : List Bool). test owned ∷ xs) (marks-are marks test sides (omega arith) (λ k d below. h (suc k) d (omega arith)))

-- the cells of a side lie within the frame, so that no other columns matter
pub covered-common : (side : Side) (rows : ℕ → Span) (columns frame : Span) → IsWithin (columns_of side) frame
    → list_any (λ column. covers side column (rows column)) (lines (common columns frame)) ≡ list_any (λ column. covers side column (rows column)) (lines columns)
covered-common side rows columns frame within =
    any-common (λ column. covers side column (rows column)) columns frame
    (λ n h.
    let at = has-lines (columns_of side) n (and_parts (has (columns_of side) n) (overlap (rows_of side) (rows n)) h).0 in
    has-from frame n (omega (arith, at.0, at.1, within.low, within.high)) (omega (arith, at.0, at.1, within.low, within.high)))

-- a walk is enough within the frame
pub near-common : (side : Side) (p q : Pt) (frame : Span) → IsWithin (columns_of side) frame
    → list_any (λ column. covers side column (walk_rows p q column)) (lines (common (columns_between p q) frame)) ≡ cells_meet_of side p q
near-common side p q frame within = covered-common side (walk_rows p q) (columns_between p q) frame within

-- and a box
pub box-common : (side : Side) (low high : Pt) (frame : Span) → IsWithin (columns_of side) frame
    → list_any (λ column. covers side column (rows_between low high)) (lines (common (columns_between low high) frame)) ≡ boxes_meet side low high
box-common side low high frame within =
    let rows = overlap (rows_of side) (rows_between low high) in
    any-same (λ column. has (columns_of side) column && rows) (λ column. rows && has (columns_of side) column) (common (columns_between low high) frame) (λ n h. and-comm (has (columns_of side) n) rows)
    ∙ any-has (columns_of side) (columns_between low high) frame rows (omega arith) (omega arith) within
    ∙ and-comm rows (overlap (columns_of side) (columns_between low high))
  where
    and-comm : (x y : Bool) → (x && y) ≡ (y && x)
    and-comm true true = refl
    and-comm true false = refl
    and-comm false true = refl
    and-comm false false = refl

-- the rows of a walk are from a lesser to a greater
pub walk-ordered : (p q : Pt) (column : ℕ) → (walk_rows p q column).low ≤ (walk_rows p q column).high
walk-ordered p q column = at-test (from_edge p.x == from_edge q.x) (rows_between p q) (between (row_at p q (max (min (from_edge p.x) (from_edge q.x)) (column * cell))) (row_at p q (min (max (from_edge p.x) (from_edge q.x)) (suc column * cell)))) (omega arith) (omega arith)
  where
    at-test : (b : Bool) (r s : Span) → r.low ≤ r.high → s.low ≤ s.high → (if b then r else s).low ≤ (if b then r else s).high
    at-test true r s h k = h
    at-test false r s h k = k

-- a column more
pub columns-more : (sides : List Owned) (frame : Frame) (lists : List (List ℕ)) (low column k : ℕ) (d : Owned) (f : Side → ℕ → Bool) (rows : Span) (new now : Bool) → IsIndex sides frame lists
    → ((side : Side) → f side column ≡ covers side column rows) → has frame.columns column ≡ true → rows.low ≤ rows.high → k < length sides → low ≤ column
    → new ≡ (now || list_any (λ row. entered lists frame column row k) (lines (common rows frame.rows)))
    → now ≡ list_any (f (get_or sides k d).side) (range_with_len low (column - low))
    → new ≡ list_any (f (get_or sides k d).side) (range_with_len low ((column + 1) - low))
columns-more sides frame lists low column k d f rows new now index is at ordered below h e before =
    e ∙ ap (λ (b : Bool). b || list_any (λ row. entered lists frame column row k) (lines (common rows frame.rows))) before
    ∙ ap (λ (b : Bool). list_any (f (get_or sides k d).side) (range_with_len low (column - low)) || b) (column-covers sides frame lists column k d rows index at ordered below ∙ sym (is (get_or sides k d).side))
    ∙ sym (any-turn (f (get_or sides k d).side) low column h)

-- the columns of a walk within the frame
pub in-frame : (columns walk frame : Span) (n : ℕ) → columns ≡ common walk frame → columns.low ≤ n → n < columns.high + 1 → has frame n ≡ true
in-frame columns walk frame n is h k =
    let low : (common walk frame).low ≤ n = subst (λ (s : Span). s.low ≤ n) is h in
    let high : n ≤ (common walk frame).high = subst (λ (s : Span). n ≤ s.high) is (omega arith) in
    has-from frame n (omega arith) (omega arith)

-- all columns
pub columns-done : (f : Side → ℕ → Bool) (side : Side) (columns walk frame : Span) (column : ℕ) (now : Bool) → columns ≡ common walk frame → columns.low ≤ column
    → column - columns.low ≤ (columns.high + 1) - columns.low → columns.high + 1 ≤ column → now ≡ list_any (f side) (range_with_len columns.low (column - columns.low))
    → now ≡ list_any (f side) (lines (common walk frame))
columns-done f side columns walk frame column now is h k end e =
    e ∙ any-end (f side) columns column h k end ∙ ap (λ (span : Span). list_any (f side) (lines span)) is
