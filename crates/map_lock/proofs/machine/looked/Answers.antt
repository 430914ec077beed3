use Rattle.map_lock.proofs.machine.looked.Goals as goal

-- an edit that must fail breaks this goal: with an answer it is refused sooner
pub returns : goal.returns
returns c = c.look.ensures
