-- The box of two points in 32 bits.
use Rattle.scene_geom.specs.declared.plan.Pt.{Pt}
use Rattle.touch_test.specs.declared.boxes.LineBox.{LineBox}
use Rattle.touch_test.specs.declared.envelopes.Envelope.{Envelope}

-- the same box, of a receiver
abbrev pub box_of : LineBox → Pt → Envelope
box_of b to = record { to = to; west = b.west; south = b.south; east = b.east; north = b.north }
