use Rattle.map_text.proofs.RoundingLemmas.{printed_around}
use Rattle.map_text.proofs.laws.printed_is_around.Goals as goal

pub returns : goal.returns
returns c = printed_around
