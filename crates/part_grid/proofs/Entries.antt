-- Numbers that are entered cell by cell.
use Rattle.std.proofs.Common.{◌≡◌, ℕ, zero, suc, ◌+◌, ◌-◌, ◌<◌, ◌≤◌, Bool, true, false, List, [], ◌∷◌, length, get_or, set, replicate, refl, sym, ap, ◌∙◌, inl, inr, arith}
use Rattle.std.specs.Prelude.{◌||◌, ◌&&◌, ◌==◌, nat_le, nat_lt}
use Rattle.std.specs.List.{list_any}
use Rattle.std.proofs.lemmas.Nat.{same_from_place}
use Rattle.std.proofs.lemmas.List.{get_or-set_same, get_or-set_other, get_or_read}
use Rattle.std.proofs.lemmas.Bool.{cases_eq, and_parts, and_from, eq-eqb, eqb-true, ltb-true, lt-ltb, le-ltb, ne_eqb, or_cases, leb-true, le-leb}
use Rattle.scene_geom.specs.declared.plan.Side.{Side}
use Rattle.part_grid.specs.declared.cells.span.Span.{Span}
use Rattle.part_grid.specs.declared.cells.frame.Frame.{Frame}
use Rattle.part_grid.specs.declared.owned.Owned.{Owned}
use Rattle.part_grid.specs.Span.{has, width}
use Rattle.part_grid.specs.inner.Index.{cell_at, entered, has_cell}
use Rattle.part_grid.proofs.Spans.{has-lines, has-from, same-test}

-- ---- one cell
-- two cells of the frame with one number are one
same-cell : (frame : Frame) (a r b s : ℕ) → has frame.columns a ≡ true → has frame.rows r ≡ true → has frame.columns b ≡ true → has frame.rows s ≡ true
    → cell_at frame a r ≡ cell_at frame b s → (a ≡ b) × (r ≡ s)
same-cell frame a r b s ha hr hb hs e =
    let la = has-lines frame.columns a ha in let lr = has-lines frame.rows r hr in let lb = has-lines frame.columns b hb in let ls = has-lines frame.rows s hs in
    let both = same_from_place (a - frame.columns.low) (r - frame.rows.low) (b - frame.columns.low) (s - frame.rows.low) (width frame.rows)
    (omega (arith, lr.0, lr.1)) (omega (arith, ls.0, ls.1)) e in
    (omega (arith, both.0, la.0, lb.0), omega (arith, both.1, lr.0, ls.0))

-- what is entered after a number is entered in a cell
pub entered-set : (lists : List (List ℕ)) (frame : Frame) (column row number a r k : ℕ) → has frame.columns column ≡ true → has frame.rows row ≡ true → cell_at frame column row < length lists
    → has frame.columns a ≡ true → has frame.rows r ≡ true
    → entered (set lists (cell_at frame column row) (number ∷ get_or lists (cell_at frame column row) [])) frame a r k
    ≡ (entered lists frame a r k || ((number == k) && ((a == column) && (r == row))))
entered-set lists frame column row number a r k hc hr below ha hs =
    let cell = cell_at frame column row in
    let newest = number ∷ get_or lists cell [] in
    elim (cases_eq (cell_at frame a r) cell) [
      | inl same ↦
          (let both = same-cell frame a r column row ha hs hc hr same in
          ap (list_any (λ n. n == k)) (ap (λ (i : ℕ). get_or (set lists cell newest) i []) same ∙ get_or-set_same lists cell newest [] below)
          ∙ ap (λ (i : ℕ). (number == k) || list_any (λ n. n == k) (get_or lists i [])) (sym same)
          ∙ turn (number == k) (entered lists frame a r k) ((a == column) && (r == row)) (and_from (a == column) (r == row) (eq-eqb a column both.0) (eq-eqb r row both.1)))
      | inr other ↦
          ap (list_any (λ n. n == k)) (get_or-set_other lists cell (cell_at frame a r) newest [] other)
          ∙ elsewhere (entered lists frame a r k) (number == k) ((a == column) && (r == row)) (λ e. other (apart e))
    ]
  where
    turn : (x y z : Bool) → z ≡ true → (x || y) ≡ (y || (x && z))
    turn x true z e = rw (or-true x) refl
      where
        or-true : (b : Bool) → (b || true) ≡ true
        or-true true = refl
        or-true false = refl
    turn true false z e = sym e
    turn false false z e = refl

    elsewhere : (x y z : Bool) → (z ≡ true → ⊥) → x ≡ (x || (y && z))
    elsewhere true y z never = refl
    elsewhere false true true never = absurd (never refl)
    elsewhere false true false never = refl
    elsewhere false false z never = refl

    apart : ((a == column) && (r == row)) ≡ true → cell_at frame a r ≡ cell_at frame column row
    apart e =
        let both = and_parts (a == column) (r == row) e in
        let same_column = eqb-true a column both.0 in let same_row = eqb-true r row both.1 in
        ap (λ (c : ℕ). cell_at frame c r) same_column ∙ ap (cell_at frame column) same_row

-- ---- the rows of a column, and the columns of a side
-- lines from the lowest up to a line
abbrev pub is_done : ℕ → ℕ → ℕ → Bool
is_done low n line = nat_le low line && nat_lt line n

done-more : (low n line : ℕ) → low ≤ n → is_done low (n + 1) line ≡ (is_done low n line || (line == n))
done-more low n line h =
    same-test (is_done low (n + 1) line) (is_done low n line || (line == n))
    (λ e.
    let both = and_parts (nat_le low line) (nat_lt line (n + 1)) e in
    let from = leb-true low line both.0 in let below = ltb-true line (n + 1) both.1 in
    elim (cases_eq line n) [
      | inl same ↦ rw (eq-eqb line n same) (or-true (is_done low n line))
      | inr other ↦ rw (and_from (nat_le low line) (nat_lt line n) (le-leb low line from) (lt-ltb line n (omega arith))) refl
    ])
    (λ e.
    elim (or_cases (is_done low n line) (line == n) e) [
      | inl before ↦ (let both = and_parts (nat_le low line) (nat_lt line n) before in and_from (nat_le low line) (nat_lt line (n + 1)) both.0 (lt-ltb line (n + 1) (omega (arith, ltb-true line n both.1))))
      | inr last ↦ (let same = eqb-true line n last in and_from (nat_le low line) (nat_lt line (n + 1)) (le-leb low line (omega arith)) (lt-ltb line (n + 1) (omega arith)))
    ])
  where
    or-true : (b : Bool) → (b || true) ≡ true
    or-true true = refl
    or-true false = refl

done-none : (low line : ℕ) → is_done low low line ≡ false
done-none low line = nothing (is_done low low line) (λ e. let both = and_parts (nat_le low line) (nat_lt line low) e in omega (arith, leb-true low line both.0, ltb-true line low both.1))
  where
    nothing : (b : Bool) → (b ≡ true → ⊥) → b ≡ false
    nothing true never = absurd (never refl)
    nothing false never = refl

done-all : (span : Span) (n line : ℕ) → span.low ≤ n → n - span.low ≤ (span.high + 1) - span.low → span.high + 1 ≤ n → is_done span.low n line ≡ has span line
done-all span n line h k e =
    same-test (is_done span.low n line) (has span line)
    (λ done. let both = and_parts (nat_le span.low line) (nat_lt line n) done in
    let from = leb-true span.low line both.0 in let below = ltb-true line n both.1 in has-from span line from (omega arith))
    (λ at. let lines = has-lines span line at in
    and_from (nat_le span.low line) (nat_lt line n) (le-leb span.low line lines.0) (lt-ltb line n (omega (arith, lines.1))))

-- a number that isn't entered yet, in one row more, and in all rows
pub rows-start : (old number same : Bool) (low row : ℕ) → old ≡ (old || (number && (same && is_done low low row)))
rows-start old number same low row = rw (done-none low row) (none old number same)
  where
    none : (x y z : Bool) → x ≡ (x || (y && (z && false)))
    none true y z = refl
    none false true true = refl
    none false true false = refl
    none false false z = refl

pub rows-more : (new now old number same : Bool) (low n row : ℕ) → low ≤ n → new ≡ (now || (number && (same && (row == n)))) → now ≡ (old || (number && (same && is_done low n row)))
    → new ≡ (old || (number && (same && is_done low (n + 1) row)))
rows-more new now old number same low n row h e before =
    rw (e, before, done-more low n row h) (join old number same (is_done low n row) (row == n))
  where
    join : (o k s d r : Bool) → ((o || (k && (s && d))) || (k && (s && r))) ≡ (o || (k && (s && (d || r))))
    join true k s d r = refl
    join false true true d r = refl
    join false true false d r = refl
    join false false s d r = refl

pub rows-all : (now old number same : Bool) (span : Span) (n row : ℕ) → span.low ≤ n → n - span.low ≤ (span.high + 1) - span.low → span.high + 1 ≤ n
    → now ≡ (old || (number && (same && is_done span.low n row))) → now ≡ (old || (number && (same && has span row)))
rows-all now old number same span n row h k end e = e ∙ ap (λ (b : Bool). old || (number && (same && b))) (done-all span n row h k end)

-- and the same for columns
pub columns-start : (old number rows : Bool) (low column : ℕ) → old ≡ (old || (number && (is_done low low column && rows)))
columns-start old number rows low column = rw (done-none low column) (none old number)
  where
    none : (x y : Bool) → x ≡ (x || (y && false))
    none true y = refl
    none false true = refl
    none false false = refl

pub columns-more : (new now old number rows : Bool) (low n column : ℕ) → low ≤ n → new ≡ (now || (number && ((column == n) && rows))) → now ≡ (old || (number && (is_done low n column && rows)))
    → new ≡ (old || (number && (is_done low (n + 1) column && rows)))
columns-more new now old number rows low n column h e before =
    rw (e, before, done-more low n column h) (join old number (is_done low n column) (column == n) rows)
  where
    join : (o k d c r : Bool) → ((o || (k && (d && r))) || (k && (c && r))) ≡ (o || (k && ((d || c) && r)))
    join true k d c r = refl
    join false true true true true = refl
    join false true true true false = refl
    join false true true false true = refl
    join false true true false false = refl
    join false true false c r = refl
    join false false d c r = refl

pub columns-all : (now old number rows : Bool) (span : Span) (n column : ℕ) → span.low ≤ n → n - span.low ≤ (span.high + 1) - span.low → span.high + 1 ≤ n
    → now ≡ (old || (number && (is_done span.low n column && rows))) → now ≡ (old || (number && (has span column && rows)))
columns-all now old number rows span n column h k end e = e ∙ ap (λ (b : Bool). old || (number && (b && rows))) (done-all span n column h k end)

-- ---- the sides
pub sides-start : (count cell number : ℕ) (covers : Bool) → list_any (λ n. n == number) (get_or (replicate count []) cell []) ≡ (nat_lt number 0 && covers)
sides-start count cell number covers = none count cell ∙ rw (le-ltb number 0 (omega arith)) refl
  where
    none : (count cell : ℕ) → list_any (λ n. n == number) (get_or (replicate count []) cell []) ≡ false
    none zero cell = refl
    none (suc count) zero = refl
    none (suc count) (suc cell) = none count cell

pub sides-more : (new now : Bool) (sides : List Owned) (i k column row : ℕ) (d owned : Owned) (side : Side) → owned ≡ get_or sides i owned → side ≡ owned.side → k < length sides → i < length sides
    → new ≡ (now || ((i == k) && has_cell side column row)) → now ≡ (nat_lt k i && has_cell (get_or sides k d).side column row)
    → new ≡ (nat_lt k (i + 1) && has_cell (get_or sides k d).side column row)
sides-more new now sides i k column row d owned side is side-is below at e before =
    let test = has_cell (get_or sides k d).side column row in
    elim (cases_eq i k) [
      | inl same ↦
          (let this : has_cell side column row ≡ test =
          ap (λ (s : Side). has_cell s column row) (side-is ∙ ap (λ (o : Owned). o.side) (get_or_read sides i owned at is d ∙ ap (λ (n : ℕ). get_or sides n d) same)) in
          let not_before : nat_lt k i ≡ false = le-ltb k i (omega arith) in
          let before_next : nat_lt k (i + 1) ≡ true = lt-ltb k (i + 1) (omega arith) in
          rw (e, before, this, not_before, before_next, eq-eqb i k same) refl)
      | inr other ↦
          (let not_this : (i == k) ≡ false = ne_eqb i k other in
          let same : nat_lt k (i + 1) ≡ nat_lt k i =
          same-test (nat_lt k (i + 1)) (nat_lt k i) (λ h. lt-ltb k i (omega (arith, ltb-true k (i + 1) h))) (λ h. lt-ltb k (i + 1) (omega (arith, ltb-true k i h))) in
          rw (e, before, not_this, same) (or-none (nat_lt k i && test)))
    ]
  where
    or-none : (b : Bool) → (b || false) ≡ b
    or-none true = refl
    or-none false = refl

pub sides-all : (sides : List Owned) (i k column row : ℕ) (d : Owned) (now : Bool) → k < length sides → length sides ≤ i
    → now ≡ (nat_lt k i && has_cell (get_or sides k d).side column row) → now ≡ has_cell (get_or sides k d).side column row
sides-all sides i k column row d now below end e = let before : nat_lt k i ≡ true = lt-ltb k i (omega arith) in e ∙ rw before refl
