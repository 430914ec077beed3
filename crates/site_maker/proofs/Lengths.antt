-- A site's text is short.
use Rattle.std.proofs.Common.{◌≡◌, ℕ, zero, suc, ◌+◌, ◌*◌, ◌/◌, ◌<◌, ◌≤◌, ◌^◌, ◌==◌, List, [], ◌∷◌, ◌++◌, length, map, decimal, codes, if◌then◌else◌, true, false, arith, refl, lit<, lit≤}
use Rattle.std.proofs.Common.{ℤ, pos, negsuc, neg_ℤ, ◌+ℤ◌, ◌-ℤ◌, ◌≤ℤ◌, ◌<ℤ◌}
use Rattle.std.specs.Fmt.{signed_decimal}
use Rattle.std.specs.Int.Signed.{mag}
use Rattle.std.proofs.lemmas.Int.{ints}
use Rattle.std.proofs.lemmas.List.{length-append, length-map}
use Rattle.std.proofs.lemmas.Nat.{mod_below}
use Rattle.std.proofs.lemmas.Fmt.{length-decimal-le, length_signed_le}
use Rattle.site_maker.specs.Json.{Text, whole, signed, string, chars, with_commas, array, field, object_line}
use Rattle.site_maker.specs.Draws.{Drawing, gives, next_state, draw, draw_from, rectangle, times}
use Rattle.site_maker.specs.Parts.{does, named, point, corners, diagonal, source_line, building_line, barrier_line, zone_line, source, building, barrier, zone, part, count_of}
use Rattle.site_maker.specs.Site.{◌then◌, each_below, all_of, kind_at, edit, grid, settle, lines_of_site, site_text}
use Rattle.site_maker.specs.declared.rectangle.Rectangle.{Rectangle}
use Rattle.site_maker.specs.declared.kinds.Kind.{Kind}
use Rattle.site_maker.specs.declared.kinds.Kind.TheVariants.{Source, Building, Barrier, Zone}

-- a text that adds at most so many bytes to what follows it
pub record Within (most : ℕ) (text : Text) : Type 0 where
  pub adds : (rest : List ℕ) → length (text rest) ≤ most + length rest

abbrev pub AreWithin : ℕ → List Text → Type 0
AreWithin most [] = Unit {0}
AreWithin most (text ∷ texts) = Within most text × AreWithin most texts

raised : (few most : ℕ) (text : Text) → few ≤ most → Within few text → Within most text
raised few most text le within = record { adds = λ rest. omega (arith, within.adds rest) }

of_whole : (n : ℕ) → n < 2 ^ 32 → Within 11 (whole n)
of_whole n small = record { adds = λ rest. omega (arith, length-append (decimal n) rest, length-decimal-le 10 n (lit< tt) (omega arith) (omega arith)) }

-- a coordinate of a site
pub record IsNear (z : ℤ) : Type 0 where
  pub low : neg_ℤ (pos 1000000) ≤ℤ z
  pub high : z <ℤ pos 1000000

near_mag : (z : ℤ) → IsNear z → mag z < 1000000
near_mag (pos n) near = omega (arith, ints)
near_mag (negsuc n) near = omega (arith, ints)

of_signed : (z : ℤ) → IsNear z → Within 11 (signed z)
of_signed z near = record { adds = λ rest. omega (arith, length-append (signed_decimal z) rest, length_signed_le 7 z (omega (arith, near_mag z near)) (omega (arith, near_mag z near))) }

of_chars : (text : List ℕ) → Within (length text) (chars text)
of_chars text = record { adds = λ rest. omega (arith, length-append text rest) }

of_string : (most : ℕ) (text : Text) → Within most text → Within (most + 2) (string text)
of_string most text within = record { adds = λ rest. omega (arith, within.adds (34 ∷ rest)) }

of_field : (name : List ℕ) (most : ℕ) (value : Text) → Within most value → Within (length name + most + 3) (field name value)
of_field name most value within = record { adds = λ rest. omega (arith, length-append name (34 ∷ 58 ∷ value rest), within.adds rest) }

of_commas : (most : ℕ) (values : List Text) → AreWithin most values → Within (length values * (most + 1)) (with_commas values)
of_commas most [] within = record { adds = λ rest. omega arith }
of_commas most (value ∷ []) within = record { adds = λ rest. omega (arith, within.0.adds rest) }
of_commas most (value ∷ next ∷ more) within =
    let others = of_commas most (next ∷ more) within.1 in
    record { adds = λ rest. omega (arith, within.0.adds (44 ∷ with_commas (next ∷ more) rest), others.adds rest) }

of_array : (most : ℕ) (values : List Text) → AreWithin most values → Within (length values * (most + 1) + 2) (array values)
of_array most values within = let inner = of_commas most values within in record { adds = λ rest. omega (arith, inner.adds (93 ∷ rest)) }

line_length : (most : ℕ) (fields : List Text) → AreWithin most fields → length (object_line fields) ≤ length fields * (most + 1) + 3
line_length most fields within = let inner = of_commas most fields within in omega (arith, inner.adds (125 ∷ 10 ∷ []))

-- ---- fields, of at most 120 bytes each

does_within : (word : List ℕ) → length word ≤ 20 → Within 120 (does word)
does_within word short = raised _ 120 (does word) (omega arith) (of_field (codes "do") _ _ (of_string _ _ (of_chars word)))

letter_and_number : (letter : List ℕ) (number : ℕ) → number < 2 ^ 32 → Within (length letter + 11) (λ rest. letter ++ whole number rest)
letter_and_number letter number small = let digits = of_whole number small in record { adds = λ rest. omega (arith, length-append letter (whole number rest), digits.adds rest) }

named_within : (letter : List ℕ) (number : ℕ) → length letter ≤ 20 → number < 2 ^ 32 → Within 120 (named letter number)
named_within letter number short small = raised _ 120 (named letter number) (omega arith) (of_field (codes "name") _ _ (of_string _ _ (letter_and_number letter number small)))

field_within : (name : List ℕ) (few : ℕ) (value : Text) → length name + few + 3 ≤ 120 → Within few value → Within 120 (field name value)
field_within name few value le within = raised _ 120 (field name value) le (of_field name few value within)

-- ---- what is drawn

pub record AreNear (r : Rectangle) : Type 0 where
  pub left : IsNear r.left
  pub bottom : IsNear r.bottom
  pub right : IsNear r.right
  pub top : IsNear r.top

near_place : (n : ℕ) → n < 800000 → IsNear (pos n -ℤ pos 400000)
near_place n below = record { low = omega (arith, ints); high = omega (arith, ints) }

near_far : (n width : ℕ) → n < 800000 → width < 300000 → IsNear ((pos n -ℤ pos 400000) +ℤ pos width)
near_far n width below narrow = record { low = omega (arith, ints); high = omega (arith, ints) }

drawn_below : (many state : ℕ) → 0 < many → (draw many state).0 < many
drawn_below many state some = mod_below (next_state state / 2 ^ 33) many some

rectangle_near : (least many state : ℕ) → 0 < many → least + many ≤ 300000 → AreNear (rectangle least many state).0
rectangle_near least many state some fits =
    let second = next_state state in
    let third = next_state second in
    let fourth = next_state third in
    let x = drawn_below 800000 state (lit< tt) in
    let y = drawn_below 800000 second (lit< tt) in
    let width : least + (draw many third).0 < 300000 = omega (arith, drawn_below many third some) in
    let depth : least + (draw many fourth).0 < 300000 = omega (arith, drawn_below many fourth some) in record {
      left = near_place _ x;
      bottom = near_place _ y;
      right = near_far _ _ x width;
      top = near_far _ _ y depth;
    }

point_within : (x y : ℤ) → IsNear x → IsNear y → Within 26 (point x y)
point_within x y near_x near_y = of_array 11 (signed x ∷ signed y ∷ []) (of_signed x near_x, (of_signed y near_y, tt))

corners_within : (r : Rectangle) → AreNear r → Within 110 (corners r)
corners_within r near = of_array 26 (point r.left r.bottom ∷ point r.right r.bottom ∷ point r.right r.top ∷ point r.left r.top ∷ [])
    (point_within _ _ near.left near.bottom, (point_within _ _ near.right near.bottom, (point_within _ _ near.right near.top, (point_within _ _ near.left near.top, tt))))

diagonal_within : (r : Rectangle) → AreNear r → Within 110 (diagonal r)
diagonal_within r near = raised 56 110 (diagonal r) (lit≤ tt) (of_array 26 (point r.left r.bottom ∷ point r.right r.top ∷ []) (point_within _ _ near.left near.bottom, (point_within _ _ near.right near.top, tt)))

abbrev pub AreSmall : List ℕ → Type 0
AreSmall [] = Unit {0}
AreSmall (n ∷ ns) = (n < 2 ^ 32) × AreSmall ns

powers_within : (numbers : List ℕ) → AreSmall numbers → AreWithin 11 (map whole numbers)
powers_within [] small = tt
powers_within (n ∷ ns) small = (of_whole n small.0, powers_within ns small.1)

powers_small : (count state : ℕ) → AreSmall (times count (draw_from 8000 3000) state).0
powers_small zero state = tt
powers_small (suc count) state = (omega (arith, drawn_below 3000 state (lit< tt)), powers_small count (next_state state))

-- ---- lines, of at most 900 bytes each

source_line_short : (number : ℕ) (x y : ℤ) (h : ℕ) (lw : List ℕ) → number < 2 ^ 32 → IsNear x → IsNear y → h < 2 ^ 32 → AreSmall lw → length lw ≡ 8 → length (source_line number x y h lw) ≤ 900
source_line_short number x y h lw small near_x near_y h_small lw_small eight =
    let powers = of_array 11 (map whole lw) (powers_within lw lw_small) in
    let lw_within : Within 100 (array (map whole lw)) = raised _ 100 (array (map whole lw)) (omega (arith, length-map lw whole)) powers in
    let all = line_length 120 (does (codes "source") ∷ named (codes "s") number ∷ field (codes "kind") (string (chars (codes "industry"))) ∷ field (codes "x") (signed x) ∷ field (codes "y") (signed y) ∷ field (codes "h") (whole h) ∷ field (codes "lw") (array (map whole lw)) ∷ []) (
      does_within (codes "source") (lit≤ tt),
      (
        named_within (codes "s") number (lit≤ tt) small,
        (
          field_within (codes "kind") 10 (string (chars (codes "industry"))) (lit≤ tt) (of_string 8 (chars (codes "industry")) (of_chars (codes "industry"))),
          (field_within (codes "x") 11 (signed x) (lit≤ tt) (of_signed x near_x), (field_within (codes "y") 11 (signed y) (lit≤ tt) (of_signed y near_y), (field_within (codes "h") 11 (whole h) (lit≤ tt) (of_whole h h_small), (field_within (codes "lw") 100 (array (map whole lw)) (lit≤ tt) lw_within, tt)))),
        ),
      ),
    ) in
    omega (arith, all)

building_line_short : (number : ℕ) (base : Rectangle) (h rho : ℕ) → number < 2 ^ 32 → AreNear base → h < 2 ^ 32 → rho < 2 ^ 32 → length (building_line number base h rho) ≤ 900
building_line_short number base h rho small near h_small rho_small =
    let all = line_length 120 (does (codes "building") ∷ named (codes "b") number ∷ field (codes "points") (corners base) ∷ field (codes "h") (whole h) ∷ field (codes "rho") (whole rho) ∷ []) (
      does_within (codes "building") (lit≤ tt),
      (
        named_within (codes "b") number (lit≤ tt) small,
        (
          field_within (codes "points") 110 (corners base) (lit≤ tt) (corners_within base near),
          (field_within (codes "h") 11 (whole h) (lit≤ tt) (of_whole h h_small), (field_within (codes "rho") 11 (whole rho) (lit≤ tt) (of_whole rho rho_small), tt)),
        ),
      ),
    ) in
    omega (arith, all)

barrier_line_short : (number : ℕ) (along : Rectangle) (h : ℕ) → number < 2 ^ 32 → AreNear along → h < 2 ^ 32 → length (barrier_line number along h) ≤ 900
barrier_line_short number along h small near h_small =
    let all = line_length 120 (does (codes "barrier") ∷ named (codes "w") number ∷ field (codes "points") (diagonal along) ∷ field (codes "h") (whole h) ∷ field (codes "density") (chars (codes "20")) ∷ []) (
      does_within (codes "barrier") (lit≤ tt),
      (
        named_within (codes "w") number (lit≤ tt) small,
        (
          field_within (codes "points") 110 (diagonal along) (lit≤ tt) (diagonal_within along near),
          (field_within (codes "h") 11 (whole h) (lit≤ tt) (of_whole h h_small), (field_within (codes "density") 2 (chars (codes "20")) (lit≤ tt) (of_chars (codes "20")), tt)),
        ),
      ),
    ) in
    omega (arith, all)

zone_line_short : (number : ℕ) (outline : Rectangle) (g : ℕ) → number < 2 ^ 32 → AreNear outline → g < 2 ^ 32 → length (zone_line number outline g) ≤ 900
zone_line_short number outline g small near g_small =
    let all = line_length 120 (does (codes "zone") ∷ named (codes "z") number ∷ field (codes "points") (corners outline) ∷ field (codes "g") (whole g) ∷ []) (
      does_within (codes "zone") (lit≤ tt),
      (
        named_within (codes "z") number (lit≤ tt) small,
        (
          field_within (codes "points") 110 (corners outline) (lit≤ tt) (corners_within outline near),
          (field_within (codes "g") 11 (whole g) (lit≤ tt) (of_whole g g_small), tt),
        ),
      ),
    ) in
    omega (arith, all)

-- ---- drawings of lines

pub record IsShort (most : ℕ) (lines : Drawing (List ℕ)) : Type 0 where
  pub from : (state : ℕ) → length (lines state).0 ≤ most

small_draw : (least many state : ℕ) → 0 < many → least + many ≤ 2 ^ 32 → (draw_from least many state).0 < 2 ^ 32
small_draw least many state some fits = omega (arith, drawn_below many state some)

source_short : (number : ℕ) → number < 2 ^ 32 → IsShort 900 (source number)
source_short number small = record { from = λ state. let second = next_state state in let third = next_state second in source_line_short number _ _ _ (times 8 (draw_from 8000 3000) (next_state third)).0 small (near_place _ (drawn_below 800000 state (lit< tt))) (near_place _ (drawn_below 800000 second (lit< tt))) (small_draw 500 5000 third (lit< tt) (lit≤ tt)) (powers_small 8 (next_state third)) refl }

building_short : (number : ℕ) → number < 2 ^ 32 → IsShort 900 (building number)
building_short number small = record { from = λ state. let after = next_state (next_state (next_state (next_state state))) in building_line_short number _ _ _ small (rectangle_near 5000 30000 state (lit< tt) (lit≤ tt)) (small_draw 3000 20000 after (lit< tt) (lit≤ tt)) (rho_small (draw 2 (next_state after)).0) }
  where
    rho_small : (coin : ℕ) → (if coin == 0 then 0 else 800) < 2 ^ 32
    rho_small coin = elim (coin == 0) as (λ b. (if b then 0 else 800) < 2 ^ 32) [ true ↦ lit< tt | false ↦ lit< tt ]

barrier_short : (number : ℕ) → number < 2 ^ 32 → IsShort 900 (barrier number)
barrier_short number small = record { from = λ state. let after = next_state (next_state (next_state (next_state state))) in barrier_line_short number _ _ small (rectangle_near 1000 60000 state (lit< tt) (lit≤ tt)) (small_draw 2000 4000 after (lit< tt) (lit≤ tt)) }

zone_short : (number : ℕ) → number < 2 ^ 32 → IsShort 900 (zone number)
zone_short number small = record { from = λ state. let after = next_state (next_state (next_state (next_state state))) in zone_line_short number _ _ small (rectangle_near 20000 200000 state (lit< tt) (lit≤ tt)) (omega (arith, drawn_below 101 after (lit< tt))) }

part_short : (kind : Kind) (number : ℕ) → number < 2 ^ 32 → IsShort 900 (part kind number)
part_short Source number small = source_short number small
part_short Building number small = building_short number small
part_short Barrier number small = barrier_short number small
part_short Zone number small = zone_short number small

few : (kind : Kind) → (0 < count_of kind) × (count_of kind ≤ 12)
few Source = (lit< tt, lit≤ tt)
few Building = (lit< tt, lit≤ tt)
few Barrier = (lit< tt, lit≤ tt)
few Zone = (lit< tt, lit≤ tt)

edit_short : IsShort 900 edit
unfolding edit
edit_short = record { from = λ state. let kind = kind_at (draw 4 state).0 in let second = next_state state in (part_short kind (draw (count_of kind) second).0 (omega (arith, drawn_below (count_of kind) second (few kind).0, (few kind).1))).from (next_state second) }

then_short : (a b : ℕ) (first next : Drawing (List ℕ)) → IsShort a first → IsShort b next → IsShort (a + b) (first then next)
then_short a b first next short_first short_next = record { from = λ state. omega (arith, length-append (first state).0 (next (first state).1).0, short_first.from state, short_next.from (first state).1) }

each_short : (count : ℕ) (one : ℕ → Drawing (List ℕ)) → ((number : ℕ) → number < count → IsShort 900 (one number)) → IsShort (count * 900) (each_below count one)
unfolding each_below
each_short zero one short = record { from = λ state. omega arith }
each_short (suc count) one short =
    let before = each_short count one (λ number below. short number (omega arith)) in
    let both = then_short (count * 900) 900 (each_below count one) (one count) before (short count (omega arith)) in
    record { from = λ state. omega (arith, both.from state) }

all_short : (kind : Kind) → IsShort (count_of kind * 900) (all_of kind)
all_short kind = each_short (count_of kind) (part kind) (λ number below. part_short kind number (omega (arith, (few kind).1)))

settle_short : IsShort 16 (gives settle)
settle_short = record { from = λ state. lit≤ tt }

grid_short : IsShort 120 (gives grid)
grid_short = record { from = λ state. lit≤ tt }

-- the text of a whole site
pub site_short : (number : ℕ) → length (site_text number) ≤ 65536
unfolding site_text lines_of_site
site_short number =
    let two = then_short _ _ _ _ (all_short Source) (all_short Building) in
    let parts = then_short _ _ _ _ (then_short _ _ _ _ two (all_short Barrier)) (all_short Zone) in
    let settled = then_short _ _ _ _ (then_short _ _ _ _ parts grid_short) settle_short in
    let all = then_short _ _ _ _ (then_short _ _ _ _ settled (each_short 40 (λ n. edit) (λ n below. edit_short))) settle_short in
    let whole : length (site_text number) ≤ 8 * 900 + 12 * 900 + 4 * 900 + 4 * 900 + 120 + 16 + 40 * 900 + 16 = all.from number in omega (arith, whole)
