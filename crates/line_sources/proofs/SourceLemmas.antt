-- The sources of a line, of which so many are made.
use Rattle.std.proofs.Common.{◌≡◌, ℕ, ◌+◌, ◌-◌, ◌≤◌, ◌<◌, inl, inr, refl, sym, ap, ◌∙◌, arith, List, [], ◌∷◌, ◌++◌, length, take, drop, get_or, drop-cons, add-one, append_assoc, append-nil, length-append, Bool, true, false, min}
use Rattle.std.specs.Prelude.{map, filter}
use Rattle.std.specs.List.{range_with_len}
use Rattle.std.proofs.lemmas.Bool.{cases_lt}
use Rattle.std.proofs.lemmas.List.{take_all, take-take, take-append-le, length-take-le, length-map, take_at}
use Rattle.std.proofs.lemmas.List.FromFn.{length-range_with_len, take-map-range_with_len}
use Rattle.std.proofs.Math.Seq.{take-append-add}
use Rattle.scene_geom.specs.declared.plan.Pt.{Pt}
use Rattle.scene_geom.specs.declared.plan.Side.{Side}
use Rattle.scene_geom.specs.Outline.{sides_along}
use Rattle.scene_parts.specs.Parts.{Source}
use Rattle.command_lines.specs.Views.{LineSource}
use Rattle.line_sources.specs.Legs.{is_leg, legs_of}
use Rattle.line_sources.specs.Pieces.{CutLeg, cut_of, source_at, sources_on, sources_along}

-- what stands behind the first m doesn't matter, however it is numbered
cut-step : {A : Type 0} (m : ℕ) (rest : ℕ → List A) (x : List A) → take m (take m x ++ rest (length (take m x))) ≡ take m (x ++ rest (length x))
cut-step m rest x =
    elim (cases_lt m (length x)) [
      | inl more ↦ (let whole : length (take m x) ≡ m = length-take-le m x (omega (arith, more)) in
          take-append-le m (take m x) (rest (length (take m x))) (omega (arith, whole)) ∙ take-take m m x (omega arith) ∙ sym (take-append-le m x (rest (length x)) (omega (arith, more))))
      | inr few ↦ rw (take_all m x few) refl
    ]

pub length-sources_on : (line : LineSource) (leg : CutLeg) (first : ℕ) → length (sources_on line leg first) ≡ leg.count
length-sources_on line leg first = length-map (range_with_len 0 leg.count) (λ (i : ℕ). source_at line leg (first + i) i) ∙ length-range_with_len 0 leg.count

-- the sources of a side and of the sides behind it
pub side-step : (line : LineSource) (items : List Source) (side : Side) (sides : List Side) (m : ℕ) (new : List Source)
    → new ≡ take m (items ++ sources_along line (length items) (filter is_leg (side ∷ [])))
    → take m (new ++ sources_along line (length new) (filter is_leg sides)) ≡ take m (items ++ sources_along line (length items) (filter is_leg (side ∷ sides)))
side-step line items side sides m new e = by (is_leg side) refl
  where
    on : List Source
    on = sources_on line (cut_of line side) (length items)

    by : (test : Bool) → is_leg side ≡ test
        → take m (new ++ sources_along line (length new) (filter is_leg sides)) ≡ take m (items ++ sources_along line (length items) (filter is_leg (side ∷ sides)))
    by true h =
        let same : new ≡ take m (items ++ on) = e ∙ rw h (ap (λ (l : List Source). take m (items ++ l)) (append-nil on)) in
        let long : length (items ++ on) ≡ length items + (cut_of line side).count = length-append items on ∙ ap (λ n. length items + n) (length-sources_on line (cut_of line side) (length items)) in
        rw (same, h) (cut-step m (λ n. sources_along line n (filter is_leg sides)) (items ++ on)
        ∙ rw long (ap (take m) (append_assoc items on (sources_along line (length items + (cut_of line side).count) (filter is_leg sides)))))
    by false h =
        let same : new ≡ take m items = e ∙ rw h (ap (take m) (append-nil items)) in
        rw (same, h) (cut-step m (λ n. sources_along line n (filter is_leg sides)) items)

-- the sources of a leg, as far as there is room
pub leg-end : (line : LineSource) (leg : CutLeg) (items : List Source) (m k : ℕ) → length items ≤ m → k ≡ min leg.count (m - length items)
    → items ++ map (λ i. source_at line leg (length items + i) i) (range_with_len 0 k) ≡ take m (items ++ sources_on line leg (length items))
leg-end line leg items m k room e =
    let f : ℕ → Source = λ i. source_at line leg (length items + i) i in
    let sum : m ≡ length items + (m - length items) = omega (arith, room) in
    let on = sources_on line leg (length items) in
    let cut : take m (items ++ on) ≡ items ++ take (m - length items) on = ap (λ n. take n (items ++ on)) sum ∙ take-append-add items on (m - length items) in
    sym (cut ∙ ap (λ (l : List Source). items ++ l) (rest f (m - length items) leg.count k e))
  where
    rest : (f : ℕ → Source) (room count k : ℕ) → k ≡ min count room → take room (map f (range_with_len 0 count)) ≡ map f (range_with_len 0 k)
    rest f room count k e =
        elim (cases_lt room count) [
          | inl less ↦ (let same : k ≡ room = omega (arith, e, less) in rw same (take-map-range_with_len f 0 count room (omega (arith, less))))
          | inr all ↦ (let same : k ≡ count = omega (arith, e, all) in
              rw same (take_all room (map f (range_with_len 0 count)) (omega (arith, all, length-map (range_with_len 0 count) f, length-range_with_len 0 count))))
        ]

-- a side that adds no source, since there are enough or since it is no leg
pub enough-stay : (items rest : List Source) (m : ℕ) → length items ≡ m → items ≡ take m (items ++ rest)
enough-stay items rest m e = sym (take_at items rest m e)

pub no_leg-stay : (line : LineSource) (items : List Source) (side : Side) (m : ℕ) → is_leg side ≡ false → length items ≤ m
    → items ≡ take m (items ++ sources_along line (length items) (filter is_leg (side ∷ [])))
no_leg-stay line items side m e few = rw e (sym (ap (take m) (append-nil items) ∙ take_all m items few))

-- the sources before the sides that are left
pub no_side-left : (line : LineSource) (items : List Source) (m : ℕ) (all : List Source) → length items ≤ m
    → take m (items ++ sources_along line (length items) []) ≡ take m all → items ≡ take m all
no_side-left line items m all few e = sym (ap (take m) (append-nil items) ∙ take_all m items few) ∙ e

-- a turn of the loop over the points
pub point-step : (line : LineSource) (all items new : List Source) (from to : Pt) (rest : List Pt) (m i : ℕ) → i < length rest → to ≡ get_or rest i to
    → new ≡ take m (items ++ sources_along line (length items) (filter is_leg (record { from = from; to = to } ∷ [])))
    → take m (items ++ sources_along line (length items) (legs_of (from ∷ drop i rest))) ≡ take m all
    → take m (new ++ sources_along line (length new) (legs_of (to ∷ drop (i + 1) rest))) ≡ take m all
point-step line all items new from to rest m i within read e so_far =
    let next : drop i rest ≡ to ∷ drop (i + 1) rest = rw (drop-cons rest i to within, add-one, ← read) refl in
    side-step line items (record { from = from; to = to }) (sides_along (to ∷ drop (i + 1) rest)) m new e ∙ (rw next at so_far)
