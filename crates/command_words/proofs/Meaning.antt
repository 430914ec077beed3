-- A wrong value stays wrong, whatever words follow.
use Rattle.std.proofs.Common.{◌≡◌, ◌∙◌, ◌&&◌, Bool, cond, true, false, refl, sym, List, [], ◌∷◌, Option, Some, None, is_some, inl, inr, true≢false, codes}
use Rattle.std.proofs.lemmas.Bool.{cases_Bool}
use Rattle.std.specs.List.{list_any}
use Rattle.std.specs.Option.{option_map_or, option_and_then}
use Rattle.std.specs.Str.{bytes_eq}
use Rattle.std.proofs.lemmas.Slice.Eq.{bytes_eq-Decides}
use Rattle.command_words.specs.Words.{Choice, Given, Next, Text, Valued, a_value, an_option, and_option, and_value, and_word, are_right, for_bands, for_counts, given_by, is_number, is_workers, line_if_right, name_in, of_make, of_workers, option_named, then_option, value_in, with_value}
use Rattle.command_words.specs.declared.line.CommandLine.{CommandLine}
use Rattle.command_words.proofs.Spelling.{is_bare}

and_false : (b : Bool) → (b && false) ≡ false
and_false true = refl
and_false false = refl

-- what more is given stays wrong
abbrev pub StaysWrong : Option (Given × Next) → Type 0
StaysWrong None = Unit {0}
StaysWrong (Some more) = are_right more.0 ≡ false

second_wrong : (a b : Bool) → (true && b) ≡ false → (a && b) ≡ false
second_wrong true b wrong = wrong
second_wrong false b wrong = refl

first_wrong : (a b : Bool) → (a && true) ≡ false → (a && b) ≡ false
first_wrong true b wrong = absurd (true≢false wrong)
first_wrong false b wrong = refl

value_wrong : (g : Given) (option : Valued) (text : Text) → are_right g ≡ false → StaysWrong (then_option (and_value g option text))
value_wrong g of_workers text wrong = go g.workers wrong
  where
    go : (w : Option Text) → (option_map_or is_workers w true && option_map_or is_number g.make true) ≡ false
        → StaysWrong (then_option (cond (is_some w) None (Some (record g { workers = Some text }))))
    go None wrong = second_wrong (is_workers text) _ wrong
    go (Some t) wrong = tt
value_wrong g of_make text wrong = go g.make wrong
  where
    go : (m : Option Text) → (option_map_or is_workers g.workers true && option_map_or is_number m true) ≡ false
        → StaysWrong (then_option (cond (is_some m) None (Some (record g { make = Some text }))))
    go None wrong = first_wrong _ (is_number text) wrong
    go (Some t) wrong = tt

flag_wrong : (b : Bool) (more : Given × Next) → are_right more.0 ≡ false → StaysWrong (cond b None (Some more))
flag_wrong true more wrong = tt
flag_wrong false more wrong = wrong

option_wrong : (g : Given) (choice : Option Choice) (value : Option Text) → are_right g ≡ false → StaysWrong (and_option g choice value)
option_wrong g None value wrong = tt
option_wrong g (Some for_bands) None wrong = flag_wrong g.bands _ wrong
option_wrong g (Some for_bands) (Some text) wrong = tt
option_wrong g (Some for_counts) None wrong = flag_wrong g.counts _ wrong
option_wrong g (Some for_counts) (Some text) wrong = tt
option_wrong g (Some (with_value option)) None wrong = wrong
option_wrong g (Some (with_value option)) (Some text) wrong = value_wrong g option text wrong

word_wrong : (g : Given) (next : Next) (word : Text) → are_right g ≡ false → StaysWrong (and_word g next word)
word_wrong g an_option word wrong = option_wrong g (option_named (name_in word)) (value_in word) wrong
word_wrong g (a_value option) word wrong = value_wrong g option word wrong

-- the line that the words more give
abbrev pub line_by : Given → Next → List Text → Option CommandLine
line_by g next words = option_and_then line_if_right (given_by g next words)

abbrev pub line_after : Option (Given × Next) → List Text → Option CommandLine
line_after more rest = option_and_then line_if_right (option_and_then (λ m. given_by m.0 m.1 rest) more)

pub line_step : (g : Given) (next : Next) (word : Text) (rest : List Text) → line_by g next (word ∷ rest) ≡ line_after (and_word g next word) rest
unfolding given_by
line_step g an_option word rest = refl
line_step g (a_value option) word rest = refl

wrong_then : (rest : List Text) → ((g : Given) (next : Next) → are_right g ≡ false → line_by g next rest ≡ None)
    → (more : Option (Given × Next)) → StaysWrong more → line_after more rest ≡ None
wrong_then rest later None still = refl
wrong_then rest later (Some more) still = later more.0 more.1 still

pub wrong_line : (words : List Text) (g : Given) (next : Next) → are_right g ≡ false → line_by g next words ≡ None
unfolding given_by
wrong_line [] g an_option wrong = rw wrong refl
wrong_line [] g (a_value option) wrong = refl
wrong_line (word ∷ rest) g next wrong =
    line_step g next word rest ∙ wrong_then rest (wrong_line rest) (and_word g next word) (word_wrong g next word wrong)

pub wrong_after : (more : Option (Given × Next)) (rest : List Text) → StaysWrong more → line_after more rest ≡ None
wrong_after more rest wrong = wrong_then rest (wrong_line rest) more wrong

-- a value that is no number is wrong, or comes too often
pub no_number_wrong : (g : Given) (option : Valued) (text : Text) → is_number text ≡ false → StaysWrong (then_option (and_value g option text))
no_number_wrong g of_workers text wrong = go (is_some g.workers) (rw wrong refl)
  where
    go : (b : Bool) → are_right (record g { workers = Some text }) ≡ false
        → StaysWrong (then_option (cond b None (Some (record g { workers = Some text }))))
    go true wrong = tt
    go false wrong = wrong
no_number_wrong g of_make text wrong = go (is_some g.make) (rw wrong (and_false _))
  where
    go : (b : Bool) → are_right (record g { make = Some text }) ≡ false
        → StaysWrong (then_option (cond b None (Some (record g { make = Some text }))))
    go true wrong = tt
    go false wrong = wrong

-- ---- a bare `--`

pub same_bytes : (a b : Text) → bytes_eq a b ≡ true → a ≡ b
same_bytes a b e = (bytes_eq-Decides a b).0 e

bare_wrong : (g : Given) (next : Next) (word : Text) → word ≡ codes "--" → StaysWrong (and_word g next word)
bare_wrong g an_option word is = rw is tt
bare_wrong g (a_value option) word is = no_number_wrong g option word (rw is refl)

bare_then : (rest : List Text) → ((g : Given) (next : Next) → list_any is_bare rest ≡ true → line_by g next rest ≡ None)
    → (more : Option (Given × Next)) → list_any is_bare rest ≡ true → line_after more rest ≡ None
bare_then rest later None odd = refl
bare_then rest later (Some more) odd = later more.0 more.1 odd

pub bare_line : (words : List Text) (g : Given) (next : Next) → list_any is_bare words ≡ true → line_by g next words ≡ None
bare_line [] g next odd = absurd (true≢false (sym odd))
bare_line (word ∷ rest) g next odd = line_step g next word rest ∙ elim (cases_Bool (is_bare word)) [
  | inl bare ↦ wrong_after (and_word g next word) rest (bare_wrong g next word (same_bytes word (codes "--") bare))
  | inr plain ↦ bare_then rest (bare_line rest) (and_word g next word) (rw plain at odd)
]
