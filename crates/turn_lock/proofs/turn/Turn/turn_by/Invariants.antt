use Rattle.std.proofs.Common.{◌∷◌, []}
use Rattle.std.specs.Prelude.{unwrap_or}
use Rattle.turn_lock.specs.History.{entry}
use Rattle.turn_lock.proofs.turn.Turn.turn_by.Given as goal

abbrev pub ghosts-end_turn : goal.ghosts-end_turn
ghosts-end_turn g a = record { added = entry (unwrap_or a.place.now.me.0.name 0) a.call.value a.reply.value ∷ [] }
