-- A refresh doesn't look at the receivers of a scene, only at the one that it is asked for.
use Rattle.std.proofs.Common.{◌≡◌, Bool, List, refl}
use Rattle.scene_parts.specs.Parts.{Source, Receiver}
use Rattle.scene_book.specs.Book.{Book}
use Rattle.path_calc.specs.Bundles.{Bundle, bundle_of}
use Rattle.path_calc.specs.Show.{sources_within, bundles_of}
use Rattle.path_cache.specs.Refreshed.{refreshed, refreshed_bundle, count_wanted, with_receivers, ReceiversAreNotRead}

pub bundle_of-receivers : (others : List Receiver) (book : Book) (s : Source) (r : Receiver) → bundle_of (with_receivers others book) s r ≡ bundle_of book s r
bundle_of-receivers others book s r = refl

pub sources_within-receivers : (others : List Receiver) (book : Book) (r : Receiver) → sources_within (with_receivers others book) r ≡ sources_within book r
sources_within-receivers others book r = refl

pub bundles_of-receivers : (others : List Receiver) (book : Book) (r : Receiver) → bundles_of (with_receivers others book) r ≡ bundles_of book r
bundles_of-receivers others book r = refl

pub refreshed_bundle-receivers : (others : List Receiver) (book : Book) (r : Receiver) (kept : List Bundle) (marks : List Bool) (s : Source)
    → refreshed_bundle (with_receivers others book) r kept marks s ≡ refreshed_bundle book r kept marks s
unfolding refreshed_bundle
refreshed_bundle-receivers others book r kept marks s = refl

pub refreshed-receivers : (others : List Receiver) (book : Book) (r : Receiver) (kept : List Bundle) (marks : List Bool)
    → refreshed (with_receivers others book) r kept marks ≡ refreshed book r kept marks
unfolding refreshed_bundle
refreshed-receivers others book r kept marks = refl

pub count_wanted-receivers : (others : List Receiver) (book : Book) (r : Receiver) (kept : List Bundle) (marks : List Bool)
    → count_wanted (with_receivers others book) r kept marks ≡ count_wanted book r kept marks
count_wanted-receivers others book r kept marks = refl

pub receivers-not-read : ReceiversAreNotRead
receivers-not-read others book r kept marks = record {
  sources = sources_within-receivers others book r;
  bundles = bundles_of-receivers others book r;
  refreshed = refreshed-receivers others book r kept marks;
  wanted = count_wanted-receivers others book r kept marks;
}
