-- A generated site: its parts, a grid of receivers, a settle, forty edits, and another settle.
use Rattle.std.specs.Prelude.{ℕ, zero, suc, ◌==◌, List, [], ◌∷◌, ◌++◌, codes, if◌then◌else◌}
use Rattle.site_maker.specs.Draws.{Drawing, gives, ◌>>=◌, draw}
use Rattle.site_maker.specs.Json.{string, chars, field, object_line}
use Rattle.site_maker.specs.Parts.{does, part, count_of}
use Rattle.site_maker.specs.declared.kinds.Kind.{Kind}
use Rattle.site_maker.specs.declared.kinds.Kind.TheVariants.{Source, Building, Barrier, Zone}

-- the lines of one drawing, and then those of the next one
infixl 12 ◌then◌
abbrev pub ◌then◌ : Drawing (List ℕ) → Drawing (List ℕ) → Drawing (List ℕ)
first then next = do
  lines ← first
  more ← next
  gives (lines ++ more)

-- the drawings of the numbers below this one
unfoldable pub each_below : ℕ → (ℕ → Drawing (List ℕ)) → Drawing (List ℕ)
each_below zero one = gives []
each_below (suc number) one = each_below number one then one number

-- all parts of a kind
abbrev pub all_of : Kind → Drawing (List ℕ)
all_of kind = each_below (count_of kind) (part kind)

abbrev pub kind_at : ℕ → Kind
kind_at n =
    if n == 0 then Source else (if n == 1 then Building else (if n == 2 then Barrier else Zone))

-- an edit puts another part in the place of one
unfoldable pub edit : Drawing (List ℕ)
edit = do
  n ← draw 4
  number ← draw (count_of (kind_at n))
  part (kind_at n) number

-- receivers every 50 m
abbrev pub grid : List ℕ
grid = object_line (does (codes "grid") ∷ field (codes "name") (string (chars (codes "g")))
    ∷ field (codes "x") (chars (codes "-375000")) ∷ field (codes "y") (chars (codes "-375000"))
    ∷ field (codes "step") (chars (codes "50000")) ∷ field (codes "columns") (chars (codes "16"))
    ∷ field (codes "rows") (chars (codes "16")) ∷ field (codes "h") (chars (codes "4000")) ∷ [])

abbrev pub settle : List ℕ
settle = object_line (does (codes "settle") ∷ [])

-- the lines of a site, drawn from its number
unfoldable pub lines_of_site : Drawing (List ℕ)
lines_of_site =
    all_of Source then all_of Building then all_of Barrier then all_of Zone
    then gives grid then gives settle then each_below 40 (λ _. edit) then gives settle

unfoldable pub site_text : ℕ → List ℕ
site_text number = (lines_of_site number).0
