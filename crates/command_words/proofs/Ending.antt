-- The end of clap's parse: the defaults, the last checks, and what the matches hold.
use Rattle.std.proofs.Common.{◌≡◌, ◌∙◌, ◌⊎◌, ◌||◌, ◌-◌, ◌≤◌, ℕ, arith, length, take, drop, map, take_all, Bool, cond, true, false, refl, sym, ap, ap₂, subst, List, [], ◌∷◌, ◌++◌, Option, Some, None, is_some, inl, inr, codes}
use Rattle.std.specs.List.{list_any}
use Rattle.std.specs.Prelude.{slice_get}
use Rattle.std.specs.Option.{option_and_then}
use Rattle.clap.specs.Kinds.{HasKind, IsAmong, Kinds, or_else}
use Rattle.clap.specs.Faults.{check_fault, defaults_fault, fault_of, is_simple_and_free, settle_fault, walk_fault}
use Rattle.clap.specs.Matches.{found_of}
use Rattle.clap.specs.Simple.{App, built, is_simple, matches_of}
use Rattle.clap.specs.Values.{bool_text, kind_of}
use Rattle.clap.specs.Walk.{Row, Text, first_of, has_row, more_values, nothing_held, one_of, row_text, rows_of, settled, walk_from, with_default}
use Rattle.clap.specs.declared.error.kind.ErrorKind.{ErrorKind}
use Rattle.clap.specs.declared.error.kind.ErrorKind.TheVariants.{OutOfMemory}
use Rattle.clap.specs.declared.error.Error.{Error}
use Rattle.clap.specs.declared.parser.matches.ArgMatches.{ArgMatches}
use Rattle.clap.specs.declared.parser.matches.ValueSource.TheVariants.{CommandLine, DefaultValue}
use Rattle.clap.proofs.FaultLemmas.{leaf_fault}
use Rattle.clap.proofs.WalkLemmas.{first_value-rows, list_any-map, one_text-rows}
use Rattle.command_words.specs.inner.Choices.{Holds, are_odd, noisemap_app}
use Rattle.command_words.specs.Words.{Given, an_option, command_line_of, line_if_right, nothing_given}
use Rattle.command_words.proofs.Spelling.{is_bare}
use Rattle.command_words.proofs.Rows.{Finds, Looks, absent, bands_built, built_of, counts_built, flag_row, has_row-found, more_bands, more_counts, row_of, rules, top, value_row}
use Rattle.command_words.proofs.Walking.{at, some_kind}
use Rattle.command_words.proofs.Meaning.{bare_line}
use Rattle.command_words.proofs.Reading.{agrees, end_of, fault_from, or_else_then}
use Rattle.command_words.specs.Words.{of_make, of_workers}

-- ---- defaults

abbrev flag_last : Text → Bool → Row
flag_last id true = row_of id CommandLine (codes "true")
flag_last id false = row_of id DefaultValue (codes "false")

bands_last : (rows : List Row) (b : Bool) (c w m : Option Row) → Finds rows (flag_row (codes "bands") b) c w m
    → Finds (with_default rows bands_built) (Some (flag_last (codes "bands") b)) c w m
bands_last rows true c w m f =
    let has : has_row (codes "bands") rows ≡ true = has_row-found (codes "bands") rows ∙ ap is_some f.at_bands in
    rw has f
bands_last rows false c w m f =
    let none : has_row (codes "bands") rows ≡ false = has_row-found (codes "bands") rows ∙ ap is_some f.at_bands in
    let last = absent (codes "bands") (more_values DefaultValue (codes "false" ∷ [])) (row_of (codes "bands") DefaultValue (codes "false") ∷ []) rows none in
    rw (none, last) (more_bands rows DefaultValue (codes "false") None c w m f)

counts_last : (rows : List Row) (b w m : Option Row) (c : Bool) → Finds rows b (flag_row (codes "counts") c) w m
    → Finds (with_default rows counts_built) b (Some (flag_last (codes "counts") c)) w m
counts_last rows b w m true f =
    let has : has_row (codes "counts") rows ≡ true = has_row-found (codes "counts") rows ∙ ap is_some f.at_counts in
    rw has f
counts_last rows b w m false f =
    let none : has_row (codes "counts") rows ≡ false = has_row-found (codes "counts") rows ∙ ap is_some f.at_counts in
    let last = absent (codes "counts") (more_values DefaultValue (codes "false" ∷ [])) (row_of (codes "counts") DefaultValue (codes "false") ∷ []) rows none in
    rw (none, last) (more_counts rows DefaultValue (codes "false") b None w m f)

either : {X : Type 0} (b : Bool) (x : X) → cond b x x ≡ x
either true x = refl
either false x = refl

abbrev with_flags : List Row → List Row
with_flags rows = with_default (with_default rows bands_built) counts_built

abbrev with_all : List Row → List Row
with_all rows = with_default (with_default (with_flags rows) (built_of of_workers)) (built_of of_make)

all_is : (rows : List Row) → with_all rows ≡ with_flags rows
all_is rows = either _ (with_default (with_flags rows) (built_of of_workers)) ∙ either _ (with_flags rows)

-- no default is refused
no_default_fault : (rows : List Row) → defaults_fault rows rules ≡ []
unfolding defaults_fault
no_default_fault rows =
    ap₂ or_else (either (has_row (codes "bands") rows || false) [])
    (ap₂ or_else (either (has_row (codes "counts") (with_default rows bands_built) || false) [])
    (ap₂ or_else (either (has_row (codes "workers") (with_flags rows) || true) [])
    (ap₂ or_else (either (has_row (codes "make") (with_default (with_flags rows) (built_of of_workers)) || true) []) refl)))

-- ---- what the rows say

pub record Says (rows : List Row) (g : Given) : Type 0 where
  pub bands : one_of (codes "bands") rows ≡ Some (bool_text g.bands)
  pub counts : one_of (codes "counts") rows ≡ Some (bool_text g.counts)
  pub workers : first_of (codes "workers") rows ≡ g.workers
  pub make : first_of (codes "make") rows ≡ g.make

flag_says : (id : Text) (b : Bool) → option_and_then row_text (Some (flag_last id b)) ≡ Some (bool_text b)
flag_says id true = refl
flag_says id false = refl

value_says : (id : Text) (o : Option Text) → option_and_then (λ (r : Row). slice_get r.values 0) (value_row id o) ≡ o
value_says id None = refl
value_says id (Some t) = refl

says : (rows : List Row) (g : Given) → Looks rows g → Says (with_all rows) g
says rows g f =
    let last = counts_last (with_default rows bands_built) _ _ _ g.counts (bands_last rows g.bands _ _ _ f) in
    let first : Says (with_flags rows) g = record {
      bands = ap (option_and_then row_text) last.at_bands ∙ flag_says (codes "bands") g.bands;
      counts = ap (option_and_then row_text) last.at_counts ∙ flag_says (codes "counts") g.counts;
      workers = ap (option_and_then (λ (r : Row). slice_get r.values 0)) last.at_workers ∙ value_says (codes "workers") g.workers;
      make = ap (option_and_then (λ (r : Row). slice_get r.values 0)) last.at_make ∙ value_says (codes "make") g.make;
    } in
    subst (λ (r : List Row). Says r g) (sym (all_is rows)) first

-- ---- the whole parse

pub takes_options : is_simple_and_free noisemap_app ≡ true
takes_options = refl

pub is_simple_app : is_simple noisemap_app ≡ true
is_simple_app = refl

whole_fault : (name : Text) (words : List Text) → fault_of noisemap_app (name ∷ words) ≡ fault_from (walk_from (at [] None)) words
whole_fault name words =
    let w = walk_from (at [] None) in
    let end = end_of w words in
    leaf_fault (built noisemap_app) nothing_held words refl
    ∙ sym (or_else_then (walk_fault top [] w words) (settle_fault rules false end) (or_else (defaults_fault (settled rules end).rows rules) (check_fault top (with_all (settled rules end).rows) false)))
    ∙ ap (λ (f : Kinds). or_else (fault_from w words) (or_else f [])) (no_default_fault (settled rules end).rows)
    ∙ or_else_none (fault_from w words)
  where
    or_else_none : (f : Kinds) → or_else f [] ≡ f
    or_else_none [] = refl
    or_else_none (k ∷ ks) = refl

-- the words are taken, or they are refused and no line
pub record Read (words : List Text) : Type 0 where
  pub g : Given
  pub passed : fault_of noisemap_app words ≡ []
  pub line : command_line_of words ≡ line_if_right g
  pub says : Says (matches_of noisemap_app words) g

pub record Unread (words : List Text) : Type 0 where
  pub fails : fault_of noisemap_app words ≡ [] → ⊥
  pub none : command_line_of words ≡ None

read_after_name : (name : Text) (words : List Text) → list_any is_bare words ≡ false → Read (name ∷ words) ⊎ Unread (name ∷ words)
read_after_name name words odd = elim (agrees words nothing_given an_option [] None odd (refl, record { at_bands = refl; at_counts = refl; at_workers = refl; at_make = refl })) [
  | inl t ↦ inl (record {
    g = t.g;
    passed = whole_fault name words ∙ t.passed;
    line = ap (option_and_then line_if_right) t.is;
    says = says (settled rules (end_of (walk_from (at [] None)) words)).rows t.g t.looks;
  })
  | inr t ↦ inr (record { fails = λ none. t.fails (sym (whole_fault name words) ∙ none); none = t.none })
]

pub read : (words : List Text) → are_odd words ≡ false → Read words ⊎ Unread words
read [] odd = absurd (Rattle.std.proofs.Common.true≢false odd)
read (name ∷ words) odd = read_after_name name words odd

-- ---- what the call answers

pub line_at_ok : (words : List Text) (m : ArgMatches) → are_odd words ≡ false → fault_of noisemap_app words ≡ []
    → rows_of (found_of m) ≡ matches_of noisemap_app words → (given : Given) × Holds m given × (command_line_of words ≡ line_if_right given)
line_at_ok words m odd passed rows = elim (read words odd) [
  | inl r ↦ (
    r.g,
    record {
      bands = one_text-rows (found_of m) (codes "bands") ∙ ap (one_of (codes "bands")) rows ∙ r.says.bands;
      counts = one_text-rows (found_of m) (codes "counts") ∙ ap (one_of (codes "counts")) rows ∙ r.says.counts;
      workers = first_value-rows (found_of m) (codes "workers") ∙ ap (first_of (codes "workers")) rows ∙ r.says.workers;
      make = first_value-rows (found_of m) (codes "make") ∙ ap (first_of (codes "make")) rows ∙ r.says.make;
    },
    r.line,
  )
  | inr u ↦ absurd (u.fails passed)
]

not_among : (k : ErrorKind) (kinds : Kinds) → IsAmong k kinds → kinds ≡ [] → ⊥
not_among k [] among none = among
not_among k (x ∷ xs) among none = some_kind x xs none

fails_with : (words : List Text) (e : Error) → are_odd words ≡ false → HasKind (fault_of noisemap_app words) e → (kind_of e ≡ OutOfMemory → ⊥)
    → command_line_of words ≡ None
fails_with words e odd kinds other = elim (read words odd) [
  | inl r ↦ elim kinds [
    | inl memory ↦ absurd (other memory)
    | inr among ↦ absurd (not_among (kind_of e) (fault_of noisemap_app words) among r.passed)
  ]
  | inr u ↦ u.none
]

pub line_at_err : (a : App) (words : List Text) (e : Error) → a ≡ noisemap_app → are_odd words ≡ false → HasKind (fault_of a words) e
    → (kind_of e ≡ OutOfMemory → ⊥) → command_line_of words ≡ None
line_at_err a words e is odd kinds other = fails_with words e odd (subst (λ (b : App). HasKind (fault_of b words) e) is kinds) other

pub line_if_odd : (words : List Text) → are_odd words ≡ true → command_line_of words ≡ None
line_if_odd [] odd = refl
line_if_odd (name ∷ words) odd = bare_line words nothing_given an_option odd

-- the words after the name, as a part of all
whole_rest : {X : Type 0} (x : X) (xs : List X) → take (length (x ∷ xs) - 1) (drop 1 (x ∷ xs)) ≡ xs
whole_rest x xs =
    let rest : length (x ∷ xs) - 1 ≡ length xs = omega arith in
    ap (λ (n : ℕ). take n xs) rest ∙ take_all (length xs) xs (omega arith)

pub odd_rest : {X : Type 0} (text : X → Text) (words : List X) → 1 ≤ length words
    → list_any (λ word. is_bare (text word)) (take (length words - 1) (drop 1 words)) ≡ are_odd (map text words)
odd_rest text [] some = absurd (omega arith)
odd_rest text (x ∷ xs) some = ap (list_any (λ word. is_bare (text word))) (whole_rest x xs) ∙ list_any-map is_bare text xs
