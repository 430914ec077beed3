use Rattle.scene_geom.proofs.Imaging.{legs-lead_to_images}
use Rattle.scene_geom.proofs.laws.legs_lead_to_images.Goals as goal

pub returns : goal.returns
returns c = legs-lead_to_images
