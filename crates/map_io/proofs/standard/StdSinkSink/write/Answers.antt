use Rattle.map_io.proofs.Causes.{fault_counted}
use Rattle.map_io.proofs.standard.StdSinkSink.write.Goals as goal

pub returns-in_default-clause-cause : goal.returns-in_default-clause-cause
returns-in_default-clause-cause g c = fault_counted _ _ _ c.counted.ensures.counted c.counted.ensures.later
