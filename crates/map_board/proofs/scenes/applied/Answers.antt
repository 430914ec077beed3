use Rattle.map_board.proofs.scenes.applied.Goals as goal

-- an edit that must fail breaks this goal: with an answer it is refused sooner
pub returns-clause-made : goal.returns-clause-made
returns-clause-made c = rw c.in_ok-after.ensures at c.in_ok-old.ensures.value
