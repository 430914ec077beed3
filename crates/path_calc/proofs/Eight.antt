-- Lists of eight, one for each band.
use Rattle.std.proofs.Common.{◌<◌, lit<}
use Rattle.scene_geom.specs.declared.band.Band.{Band}
use Rattle.scene_geom.specs.declared.band.Band.TheVariants.{Hz63, Hz125, Hz250, Hz500, Hz1000, Hz2000, Hz4000, Hz8000}
use Rattle.scene_geom.specs.Bands.{place_of}
pub use Rattle.scene_geom.proofs.BandLemmas.{at-place}
pub use Rattle.term_barrier.proofs.Lists.{map-same}

pub place-below : (band : Band) → place_of band < 8
place-below Hz63 = lit< tt
place-below Hz125 = lit< tt
place-below Hz250 = lit< tt
place-below Hz500 = lit< tt
place-below Hz1000 = lit< tt
place-below Hz2000 = lit< tt
place-below Hz4000 = lit< tt
place-below Hz8000 = lit< tt
