use Rattle.std.proofs.Common.{rules}
use Rattle.command_lines.specs.Fields.{with_fields}
use Rattle.command_lines.specs.Words.{given}
use Rattle.command_lines.proofs.words.part_words.setting.Goals as goal

pub returns : goal.returns
unfolding with_fields given
returns c = search rules
