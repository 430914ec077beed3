-- What contracts see of a bundle's fields.
use Rattle.path_calc.specs.declared.bundles.Bundle.TheInside.{Inside as BundleInside}
use Rattle.path_calc.specs.Bundles.{Bundle}

abbrev pub bundle_seen : BundleInside → Bundle
bundle_seen b = record {
  source = b.source;
  at = b.at;
  h = b.h;
  segs = b.segs;
  energy = b.energy;
  long = b.long;
}
