-- The parts of a generated site, each as the line of input that puts it.
use Rattle.std.specs.Prelude.{ℕ, ◌==◌, ℤ, List, [], ◌∷◌, ◌++◌, map, codes, if◌then◌else◌}
use Rattle.site_maker.specs.Draws.{Drawing, gives, ◌>>=◌, draw, draw_from, place, rectangle, times}
use Rattle.site_maker.specs.Json.{Text, whole, signed, string, chars, field, array, object_line}
use Rattle.site_maker.specs.declared.rectangle.Rectangle.{Rectangle}
use Rattle.site_maker.specs.declared.kinds.Kind.{Kind}
use Rattle.site_maker.specs.declared.kinds.Kind.TheVariants.{Source, Building, Barrier, Zone}

-- fields of a line: its word, and a name made of a letter and a number
abbrev pub does : List ℕ → Text
does word = field (codes "do") (string (chars word))

abbrev pub named : List ℕ → ℕ → Text
named letter number = field (codes "name") (string (λ rest. letter ++ whole number rest))

-- points of the plan: the corners of a rectangle from its lower left one on, counterclockwise, and two of them
abbrev pub point : ℤ → ℤ → Text
point x y = array (signed x ∷ signed y ∷ [])

abbrev pub corners : Rectangle → Text
corners r = array (
    point r.left r.bottom ∷ point r.right r.bottom ∷ point r.right r.top ∷ point r.left r.top ∷ [])

abbrev pub diagonal : Rectangle → Text
diagonal r = array (point r.left r.bottom ∷ point r.right r.top ∷ [])

-- ---- lines

abbrev pub source_line : ℕ → ℤ → ℤ → ℕ → List ℕ → List ℕ
source_line number x y h lw = object_line (
    does (codes "source") ∷ named (codes "s") number
    ∷ field (codes "kind") (string (chars (codes "industry")))
    ∷ field (codes "x") (signed x) ∷ field (codes "y") (signed y) ∷ field (codes "h") (whole h)
    ∷ field (codes "lw") (array (map whole lw)) ∷ [])

abbrev pub building_line : ℕ → Rectangle → ℕ → ℕ → List ℕ
building_line number base h rho = object_line (
    does (codes "building") ∷ named (codes "b") number ∷ field (codes "points") (corners base)
    ∷ field (codes "h") (whole h) ∷ field (codes "rho") (whole rho) ∷ [])

abbrev pub barrier_line : ℕ → Rectangle → ℕ → List ℕ
barrier_line number along h = object_line (
    does (codes "barrier") ∷ named (codes "w") number ∷ field (codes "points") (diagonal along)
    ∷ field (codes "h") (whole h) ∷ field (codes "density") (chars (codes "20")) ∷ [])

abbrev pub zone_line : ℕ → Rectangle → ℕ → List ℕ
zone_line number outline g = object_line (
    does (codes "zone") ∷ named (codes "z") number ∷ field (codes "points") (corners outline)
    ∷ field (codes "g") (whole g) ∷ [])

-- ---- parts

abbrev pub source : ℕ → Drawing (List ℕ)
source number = do
  x ← place
  y ← place
  h ← draw_from 500 5000
  lw ← times 8 (draw_from 8000 3000)
  gives (source_line number x y h lw)

abbrev pub building : ℕ → Drawing (List ℕ)
building number = do
  base ← rectangle 5000 30000
  h ← draw_from 3000 20000
  coin ← draw 2
  gives (building_line number base h (if coin == 0 then 0 else 800))

abbrev pub barrier : ℕ → Drawing (List ℕ)
barrier number = do
  along ← rectangle 1000 60000
  h ← draw_from 2000 4000
  gives (barrier_line number along h)

abbrev pub zone : ℕ → Drawing (List ℕ)
zone number = do
  outline ← rectangle 20000 200000
  g ← draw 101
  gives (zone_line number outline g)

-- a part of a kind, by its number
abbrev pub part : Kind → ℕ → Drawing (List ℕ)
part Source number = source number
part Building number = building number
part Barrier number = barrier number
part Zone number = zone number

-- how many parts of a kind a site has
abbrev pub count_of : Kind → ℕ
count_of Source = 8
count_of Building = 12
count_of Barrier = 4
count_of Zone = 4
