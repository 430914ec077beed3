use Rattle.path_calc.proofs.bundles.calculation.bundle_between.Goals as goal

-- an edit that must fail breaks this goal: with an answer it is refused sooner
pub returns-clause-step : goal.returns-clause-step
returns-clause-step g c = c.tick.ensures
