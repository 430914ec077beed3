use Rattle.image_source.proofs.Meeting.{legs-meet-walls}
use Rattle.image_source.proofs.laws.legs_meet_walls.Goals as goal

pub returns : goal.returns
returns c = legs-meet-walls
