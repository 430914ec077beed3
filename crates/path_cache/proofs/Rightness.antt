-- A refresh of bundles that still stand gives the scene's bundles.
use Rattle.std.proofs.Common.{◌≡◌, suc, List, [], ◌∷◌, map, Some, None, refl, arith}
use Rattle.std.specs.Prelude.{Bool, Option, Contains, unwrap_or}
use Rattle.scene_parts.specs.Parts.{Receiver}
use Rattle.scene_book.specs.Book.{Book}
use Rattle.path_calc.specs.Bundles.{Bundle, bundle_of}
use Rattle.path_calc.specs.Show.{sources_within, bundles_of}
use Rattle.path_cache.specs.Refreshed.{unmarked, refreshed, refreshed_bundle, Stand}

-- what two functions make of a list, where they agree on its elements
map-on : {X Y : Type 0} (f g : X → Y) (xs : List X) → ((x : X) → Contains xs x → f x ≡ g x) → map f xs ≡ map g xs
map-on f g [] same = refl
map-on f g (x ∷ xs) same =
    let head = same x (0, omega arith, refl) in
    let tail = map-on f g xs (λ y c. same y (suc c.0, omega (arith, c.1), c.2)) in
    λ i. head i ∷ tail i

kept-or : (o : Option Bundle) (other : Bundle) → ((b : Bundle) → o ≡ Some b → b ≡ other) → unwrap_or o other ≡ other
kept-or None other same = refl
kept-or (Some b) other same = same b refl

pub refreshed-is : (book : Book) (r : Receiver) (kept : List Bundle) (marks : List Bool) → Stand book r kept marks
    → refreshed book r kept marks ≡ bundles_of book r
unfolding refreshed_bundle
refreshed-is book r kept marks stand =
    map-on (refreshed_bundle book r kept marks) (λ s. bundle_of book s r) (sources_within book r)
    (λ s c. kept-or (unmarked s.name kept marks) (bundle_of book s r) (λ b found. stand s b c found))
