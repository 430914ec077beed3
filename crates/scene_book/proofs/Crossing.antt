-- A scene may go to another thread, and threads may share it.
use denote.Param.Send.{IsSend, IsSync, sendable}
use Rattle.std.proofs.Crossing.{crosses}
use Rattle.scene_book.specs.contracts.scene.Scene as Scene

pub Scene-send : IsSend Scene.the_row
Scene-send = search (crosses, sendable) depth 80 fits 100000 steps 1000000

pub Scene-sync : IsSync Scene.the_row
Scene-sync = search (crosses, sendable) depth 80 fits 100000 steps 1000000
