-- How wide the regions of a path are.
use Rattle.fix_interval.specs.Values.{sub_of}
use Rattle.term_ground.specs.declared.legs.stretch.Stretches.{Stretches}
use Rattle.term_ground.specs.declared.legs.stretch.Regional.{Regional}

abbrev pub widths_of : Stretches → Regional
widths_of stretches = record {
  source = sub_of stretches.source.to stretches.source.from;
  middle = sub_of stretches.middle.to stretches.middle.from;
  receiver = sub_of stretches.receiver.to stretches.receiver.from;
}
