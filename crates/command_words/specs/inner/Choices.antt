-- The options as clap's contracts see them.
use Rattle.std.specs.Prelude.{◌≡◌, Bool, true, List, [], ◌∷◌, Option, Some, None, Result, Ok, Err, codes}
use Rattle.std.specs.List.{list_any}
use Rattle.std.specs.Str.{bytes_eq}
use Rattle.clap.specs.Values.{bool_text}
use Rattle.clap.specs.Words.{App, Rule, first_value, found_of, new_app, new_rule, one_text, with_rule}
use Rattle.clap.specs.declared.parser.matches.ArgMatches.{ArgMatches}
use Rattle.command_words.specs.declared.line.CommandLine.{CommandLine}
use Rattle.command_words.specs.declared.line.WordsFault.{WordsFault}
use Rattle.command_words.specs.declared.line.WordsFault.TheVariants.{Usage, NoMemory}
use Rattle.command_words.specs.Words.{Given, Text, line_if_right}
use Rattle.clap.specs.Simple.{on_top}
use Rattle.clap.specs.declared.builder.action.ArgAction.TheVariants.{Set, SetTrue}

abbrev pub flag_rule : Text → Rule
flag_rule name = record (new_rule name) { long = Some name; action = Some SetTrue }

abbrev pub valued_rule : Text → Rule
valued_rule name = record (new_rule name) { long = Some name; action = Some Set }

-- The command: four options, and no help.
abbrev pub helpless : App → App
helpless = on_top (λ shape. record shape { disable_help_flag = true })

abbrev pub noisemap_app : App
noisemap_app = with_rule (with_rule (with_rule (with_rule (helpless (new_app (codes "noisemap")))
    (flag_rule (codes "bands"))) (flag_rule (codes "counts")))
    (valued_rule (codes "workers"))) (valued_rule (codes "make"))

-- There are no words, or a bare `--` stands after the program's name.
abbrev pub has_bare : List Text → Bool
has_bare words = list_any (λ word. bytes_eq word (codes "--")) words

abbrev pub are_odd : List Text → Bool
are_odd [] = true
are_odd (name ∷ words) = has_bare words

-- The matches hold what is given.
pub record Holds (matches : ArgMatches) (given : Given) : Type 0 where
  pub bands : one_text (found_of matches) (codes "bands") ≡ Some (bool_text given.bands)
  pub counts : one_text (found_of matches) (codes "counts") ≡ Some (bool_text given.counts)
  pub workers : first_value (found_of matches) (codes "workers") ≡ given.workers
  pub make : first_value (found_of matches) (codes "make") ≡ given.make

-- The matches hold what the line says once its values are right. Usage means that there is no line.
abbrev pub MatchesLine : Result ArgMatches WordsFault → Option CommandLine → Type 0
MatchesLine (Ok matches) line = (given : Given) × Holds matches given × (line ≡ line_if_right given)
MatchesLine (Err Usage) line = line ≡ None
MatchesLine (Err NoMemory) line = Unit {0}
