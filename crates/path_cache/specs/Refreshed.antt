-- The bundles of a receiver in a scene, where some were kept for it, of which some are marked as no longer the scene's.
use Rattle.std.specs.Prelude.{◌≡◌, ℕ, ◌≤◌, Bool, ◌&&◌, not, is_none, bytes_eq, List, length, map, count_by, find, Contains, Option, Some, unwrap_or}
use Rattle.std.specs.List.{zip}
use Rattle.std.specs.Option.{option_map}
use Rattle.scene_parts.specs.Parts.{Source, Receiver}
use Rattle.scene_book.specs.Book.{Book}
use Rattle.scene_book.specs.Lists.{AreApart}
use Rattle.path_calc.specs.Bundles.{Bundle, bundle_of}
use Rattle.path_calc.specs.Show.{sources_within, bundles_of}

-- a kept bundle beside its mark is that of the source of a name, and isn't marked
abbrev pub is_unmarked_of : List ℕ → Bundle × Bool → Bool
is_unmarked_of name kept = not kept.1 && bytes_eq name kept.0.source

-- the unmarked kept bundle of the source of a name. Bundles and marks stand in one order
abbrev pub unmarked : List ℕ → List Bundle → List Bool → Option Bundle
unmarked name kept marks = option_map (λ pair. pair.0) (find (is_unmarked_of name) (zip kept marks))

-- the unmarked kept bundle of a source exactly as it stands, where there is one, and else the scene's
unfoldable pub refreshed_bundle : Book → Receiver → List Bundle → List Bool → Source → Bundle
refreshed_bundle book r kept marks s = unwrap_or (unmarked s.name kept marks) (bundle_of book s r)

-- that of each source within reach, in the order of sources
abbrev pub refreshed : Book → Receiver → List Bundle → List Bool → List Bundle
refreshed book r kept marks = map (refreshed_bundle book r kept marks) (sources_within book r)

-- the bundle of a source is marked or missing
abbrev pub is_wanted : List Bundle → List Bool → Source → Bool
is_wanted kept marks s = is_none (unmarked s.name kept marks)

-- how many of the sources within reach have such a bundle
abbrev pub count_wanted : Book → Receiver → List Bundle → List Bool → ℕ
count_wanted book r kept marks = count_by (is_wanted kept marks) (sources_within book r)

-- what may be kept for a receiver: a bundle of each source at most, and a mark beside each
pub record CanRefresh (kept : List Bundle) (marks : List Bool) : Type 0 where
  pub one_each : length marks ≡ length kept
  pub few : length kept ≤ 128
  pub apart : AreApart (λ bundle. bundle.source) kept

-- each unmarked kept bundle of a source within reach is the scene's
abbrev pub Stand : Book → Receiver → List Bundle → List Bool → Type 0
Stand book r kept marks =
    (source : Source) (bundle : Bundle) → Contains (sources_within book r) source
    → unmarked source.name kept marks ≡ Some bundle → bundle ≡ bundle_of book source r

-- where they stand, a refresh gives the scene's bundles
abbrev pub StandingGivesTheScenes : Type 0
StandingGivesTheScenes = (book : Book) (r : Receiver) (kept : List Bundle) (marks : List Bool)
    → Stand book r kept marks → refreshed book r kept marks ≡ bundles_of book r

-- a scene with other receivers
abbrev pub with_receivers : List Receiver → Book → Book
with_receivers others book = record book { receivers = others }

-- with other receivers in the scene, a receiver has the same sources and bundles, and a refresh does the same
pub record AreAsWith (others : List Receiver) (book : Book) (r : Receiver) (kept : List Bundle)
    (marks : List Bool) : Type 0 where
  pub sources : sources_within (with_receivers others book) r ≡ sources_within book r
  pub bundles : bundles_of (with_receivers others book) r ≡ bundles_of book r
  pub refreshed : refreshed (with_receivers others book) r kept marks ≡ refreshed book r kept marks
  pub wanted : count_wanted (with_receivers others book) r kept marks ≡ count_wanted book r kept marks

-- so no refresh reads which receivers a scene has
abbrev pub ReceiversAreNotRead : Type 0
ReceiversAreNotRead = (others : List Receiver) (book : Book) (r : Receiver) (kept : List Bundle) (marks : List Bool)
    → AreAsWith others book r kept marks
