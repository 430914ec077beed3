use Rattle.std.proofs.Common.{◌∙◌, string_bytes}
use Rattle.command_words.proofs.Ending.{odd_rest}
use Rattle.command_words.proofs.matching.are_odd.Goals as goal

pub returns-in-len1-up : goal.returns-in-len1-up
returns-in-len1-up c = c.has_bare.ensures ∙ odd_rest string_bytes c.args.words.now c.in-len1-up.len_at_least
