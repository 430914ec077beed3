-- What the words of a command line say.
--
-- The words after the program's name are read one after the other: first which options they give, with
-- their values as texts, and then what the values mean.
use Rattle.std.specs.Prelude.{ℕ, ◌&&◌, ◌∷◌, [], Bool, true, false, List, length, codes}
use Rattle.std.specs.Prelude.{Option, Some, None, is_some, if◌then◌else◌, nat_le, option_map, option_and_then, ◌==◌}
use Rattle.std.specs.List.{list_all, list_any, before_first, after_first}
use Rattle.std.specs.Option.{option_map_or}
use Rattle.std.specs.Str.{bytes_eq}
use Rattle.std.specs.Str.Parse.{digits_value}
use Rattle.std.specs.Char.{is_ascii_digit}
use Rattle.command_words.specs.declared.line.CommandLine.{CommandLine}

abbrev pub Text : Type 0
Text = List ℕ

-- ---- which options are given

-- The options that take a value, and all options.
pub data Valued : Type 0 where
  of_workers : Valued
  of_make : Valued

pub data Choice : Type 0 where
  for_bands : Choice
  for_counts : Choice
  with_value : Valued → Choice

-- What the words so far gave: each option or none of it, and the text of a value.
pub record Given : Type 0 where
  pub bands : Bool
  pub counts : Bool
  pub workers : Option Text
  pub make : Option Text

abbrev pub nothing_given : Given
nothing_given = record { bands = false; counts = false; workers = None; make = None }

-- What the next word has to be: an option, or the value of the option before it.
pub data Next : Type 0 where
  an_option : Next
  a_value : Valued → Next

-- A word is a name, which ends before the first '=' (61), and what follows that sign, where there is one.
abbrev pub is_equals : ℕ → Bool
is_equals byte = byte == 61

abbrev pub name_in : Text → Text
name_in word = before_first is_equals word

abbrev pub value_in : Text → Option Text
value_in word = if list_any is_equals word then Some (after_first is_equals word) else None

abbrev pub option_named : Text → Option Choice
option_named name = if bytes_eq (codes "--bands") name then Some for_bands
    else if bytes_eq (codes "--counts") name then Some for_counts
    else if bytes_eq (codes "--workers") name then Some (with_value of_workers)
    else if bytes_eq (codes "--make") name then Some (with_value of_make)
    else None

-- Each option comes at most once. One without a value comes without a sign.
abbrev pub and_value : Given → Valued → Text → Option Given
and_value g of_workers text = if is_some g.workers then None else Some (record g { workers = Some text })
and_value g of_make text = if is_some g.make then None else Some (record g { make = Some text })

abbrev pub then_option : Option Given → Option (Given × Next)
then_option = option_map (λ g. (g, an_option))

abbrev pub and_option : Given → Option Choice → Option Text → Option (Given × Next)
and_option g None value = None
and_option g (Some for_bands) None =
    if g.bands then None else Some (record g { bands = true }, an_option)
and_option g (Some for_bands) (Some text) = None
and_option g (Some for_counts) None =
    if g.counts then None else Some (record g { counts = true }, an_option)
and_option g (Some for_counts) (Some text) = None
and_option g (Some (with_value option)) None = Some (g, a_value option)
and_option g (Some (with_value option)) (Some text) = then_option (and_value g option text)

-- What is given with one more word, and what may come next.
abbrev pub and_word : Given → Next → Text → Option (Given × Next)
and_word g an_option word = and_option g (option_named (name_in word)) (value_in word)
and_word g (a_value option) word = then_option (and_value g option word)

-- What is given with all these words more. No option is left without its value.
unfoldable pub given_by : Given → Next → List Text → Option Given
given_by g an_option [] = Some g
given_by g (a_value option) [] = None
given_by g next (word ∷ rest) =
    option_and_then (λ more. given_by more.0 more.1 rest) (and_word g next word)

-- ---- what the values mean

-- One to six ASCII digits.
abbrev pub is_number : Text → Bool
is_number text = nat_le 1 (length text) && (nat_le (length text) 6 && list_all is_ascii_digit text)

abbrev pub number : Text → ℕ
number text = digits_value 10 text

-- The number of workers is 0 to 16, and 0 where the option isn't given.
abbrev pub is_workers : Text → Bool
is_workers text = is_number text && nat_le (number text) 16

abbrev pub are_right : Given → Bool
are_right g = option_map_or is_workers g.workers true && option_map_or is_number g.make true

abbrev pub line_of : Given → CommandLine
line_of g = record {
  bands = g.bands;
  counts = g.counts;
  workers = option_map_or number g.workers 0;
  make = option_map number g.make;
}

abbrev pub line_if_right : Given → Option CommandLine
line_if_right g = if are_right g then Some (line_of g) else None

-- ---- the whole

-- What the words say, where they are a command line: the program's name, whatever it is, and then options.
abbrev pub command_line_of : List Text → Option CommandLine
command_line_of [] = None
command_line_of (name ∷ words) =
    option_and_then line_if_right (given_by nothing_given an_option words)
