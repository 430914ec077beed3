use Rattle.scene_parts.proofs.NameLemmas.{name-is_any_name}
use Rattle.scene_parts.proofs.texts.PlainName.into_name.Goals as goal

pub invariant_of-result : goal.invariant_of-result
invariant_of-result c = name-is_any_name c.self.inside.bytes.items c.self.invariant

pub returns-clause-any_name : goal.returns-clause-any_name
returns-clause-any_name c = rw (← c.self.view_is) (name-is_any_name c.self.inside.bytes.items c.self.invariant)
