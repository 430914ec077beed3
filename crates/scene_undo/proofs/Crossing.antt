-- A kept version may cross threads.
use denote.Param.Send.{IsSend, sendable}
use Rattle.std.proofs.Crossing.{crosses}
use Rattle.scene_undo.specs.contracts.versions.KeptVersion as KeptVersion

pub KeptVersion-send : IsSend KeptVersion.the_row
KeptVersion-send = search (crosses, sendable) depth 80 fits 100000 steps 1000000
