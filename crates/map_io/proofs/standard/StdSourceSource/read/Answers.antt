use Rattle.map_io.proofs.Causes.{fault_counted}
use Rattle.map_io.proofs.standard.StdSourceSource.read.Goals as goal

pub returns-in-Err-clause-cause : goal.returns-in-Err-clause-cause
returns-in-Err-clause-cause g c = fault_counted _ _ _ c.counted.ensures.counted c.counted.ensures.later
