-- What has room of the piece is what has room of the line and the piece.
use Rattle.std.proofs.Common.{◌-◌, length, arith}
use Rattle.std.proofs.lemmas.List.{take_min}
use Rattle.std.proofs.lemmas.Grind.{common_steps}
use Rattle.map_io.proofs.Lists.{take-append_room}
use Rattle.map_io.proofs.reader.gather.Goals as goal

pub returns-clause-items : goal.returns-clause-items
returns-clause-items c = grind (arith, common_steps, take-append_room 65536 c.args.line.now.items c.args.piece.now, take_min (65536 - length c.args.line.now.items) c.args.piece.now)
