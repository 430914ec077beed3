use Rattle.std.proofs.Common.{ap, ◌∙◌}
use Rattle.fix_interval.specs.Interval.{Interval}
use Rattle.map_text.proofs.Spans.{nothing-level, nothing-is_level}
use Rattle.map_text.proofs.site_summary.SiteSummary.empty.Goals as goal

pub returns-clause-made : goal.returns-clause-made
returns-clause-made c = ap (λ (i : Interval). record { refused = 0; receivers = 0; span = i }) (c.exact.ensures ∙ nothing-level)

pub returns-clause-level : goal.returns-clause-level
returns-clause-level c = rw (c.exact.ensures ∙ nothing-level) nothing-is_level
