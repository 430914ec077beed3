-- Kept bundles that stand exactly as the sources of a scene do.
use Rattle.std.specs.Prelude.{◌≡◌, true, Bool, List, length, map, All}
use Rattle.scene_parts.specs.Parts.{Source, Receiver}
use Rattle.scene_book.specs.Book.{Book}
use Rattle.path_calc.specs.Lengths.{is_within}
use Rattle.path_calc.specs.Bundles.{Bundle}
use Rattle.path_cache.specs.Refreshed.{refreshed}

-- a bundle of each source, in their order
abbrev pub AreOfEach : List Source → List Bundle → Type 0
AreOfEach sources bundles = map (λ bundle. bundle.source) bundles ≡ map (λ s. s.name) sources

-- so are the kept bundles of a receiver, and each source of the scene is within its reach
pub record StandAsSources (book : Book) (r : Receiver) (kept : List Bundle) : Type 0 where
  pub of_each : AreOfEach book.sources kept
  pub within : All (λ s. is_within book.globals.reach s.at r.at ≡ true) book.sources

-- where a refresh gives as many bundles as there are sources, they stand as the sources do
abbrev pub FullRowsStand : Type 0
FullRowsStand = (book : Book) (r : Receiver) (kept : List Bundle) (marks : List Bool)
    → length (refreshed book r kept marks) ≡ length book.sources → StandAsSources book r (refreshed book r kept marks)

-- where each source is within reach, a refresh gives as many bundles as there are sources
abbrev pub RowsWithinReachAreFull : Type 0
RowsWithinReachAreFull = (book : Book) (r : Receiver) (kept : List Bundle) (marks : List Bool)
    → All (λ s. is_within book.globals.reach s.at r.at ≡ true) book.sources
    → length (refreshed book r kept marks) ≡ length book.sources
