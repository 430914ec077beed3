-- The rows that the uses of the options make.
use Rattle.std.proofs.Common.{◌≡◌, ◌∙◌, ◌&&◌, ◌||◌, Bool, cond, true, false, refl, subst, sym, ap, ap₂, List, [], ◌∷◌, ◌++◌, append-nil, Option, Some, None, is_some, true≢false, codes, option_map}
use Rattle.std.specs.List.{find}
use Rattle.std.specs.Str.{bytes_eq}
use Rattle.clap.specs.Kinds.{Kinds, or_else}
use Rattle.clap.specs.declared.error.kind.ErrorKind.TheVariants.{ArgumentConflict}
use Rattle.clap.specs.Faults.{use_fault}
use Rattle.clap.specs.Simple.{Shape, built, filled}
use Rattle.clap.specs.Walk.{Row, Rule, Text, at_row, has_row, more_values, used, with_values, without}
use Rattle.clap.specs.declared.builder.value_parser.Reading.TheVariants.{AsWritten}
use Rattle.clap.specs.declared.parser.matches.ValueSource.{ValueSource}
use Rattle.clap.specs.declared.parser.matches.ValueSource.TheVariants.{CommandLine}
use Rattle.command_words.specs.inner.Choices.{flag_rule, noisemap_app, valued_rule}
use Rattle.command_words.specs.Words.{Given, Valued, and_value, of_make, of_workers}

-- the command as clap builds it
abbrev pub top : Shape
top = (built noisemap_app).top

abbrev pub rules : List Rule
rules = top.rules

-- ---- searches in rows

abbrev pub found : Text → List Row → Option Row
found id rows = find (λ r. bytes_eq r.id id) rows

pub has_row-found : (id : Text) (rows : List Row) → has_row id rows ≡ is_some (found id rows)
has_row-found id [] = refl
has_row-found id (r ∷ rs) = go (bytes_eq r.id id) (has_row-found id rs)
  where
    go : (b : Bool) → has_row id rs ≡ is_some (found id rs) → (b || has_row id rs) ≡ is_some (cond b (Some r) (found id rs))
    go true e = refl
    go false e = e

pub absent : (id : Text) (change : Row → List Row) (missing : List Row) (rows : List Row) → has_row id rows ≡ false
    → at_row id change missing rows ≡ rows ++ missing
absent id change missing [] none = refl
absent id change missing (r ∷ rs) none = go (bytes_eq r.id id) none (absent id change missing rs)
  where
    go : (b : Bool) → (b || has_row id rs) ≡ false → (has_row id rs ≡ false → at_row id change missing rs ≡ rs ++ missing)
        → cond b (change r ++ rs) (r ∷ at_row id change missing rs) ≡ r ∷ (rs ++ missing)
    go true none later = absurd (true≢false none)
    go false none later = ap (λ (l : List Row). r ∷ l) (later none)

-- the first of the two
abbrev pub first_found : Option Row → Option Row → Option Row
first_found None other = other
first_found (Some r) other = Some r

pub first_or_none : (o : Option Row) → first_found o None ≡ o
first_or_none None = refl
first_or_none (Some r) = refl

pub found-append : (id : Text) (rows more : List Row) → found id (rows ++ more) ≡ first_found (found id rows) (found id more)
found-append id [] more = refl
found-append id (r ∷ rs) more = go (bytes_eq r.id id) (found-append id rs more)
  where
    go : (b : Bool) → found id (rs ++ more) ≡ first_found (found id rs) (found id more)
        → cond b (Some r) (found id (rs ++ more)) ≡ first_found (cond b (Some r) (found id rs)) (found id more)
    go true e = refl
    go false e = e

-- ---- the rows of the four options

-- what is found of each
pub record Finds (rows : List Row) (bands counts workers make : Option Row) : Type 0 where
  pub at_bands : found (codes "bands") rows ≡ bands
  pub at_counts : found (codes "counts") rows ≡ counts
  pub at_workers : found (codes "workers") rows ≡ workers
  pub at_make : found (codes "make") rows ≡ make

abbrev pub row_of : Text → ValueSource → Text → Row
row_of id source text =
    record { id = id; values = text ∷ []; count = None; source = Some source; reading = AsWritten }

kept : (id : Text) (rows more : List Row) (o : Option Row) → found id more ≡ None → found id rows ≡ o → found id (rows ++ more) ≡ o
kept id rows more o none is = found-append id rows more ∙ ap₂ first_found is none ∙ first_or_none o

new : (id : Text) (rows more : List Row) (r : Row) → found id more ≡ Some r → found id rows ≡ None → found id (rows ++ more) ≡ Some r
new id rows more r some none = found-append id rows more ∙ ap₂ first_found none some

module _ (rows : List Row) (source : ValueSource) (text : Text) (b c w m : Option Row) where
  pub more_bands : Finds rows None c w m → Finds (rows ++ row_of (codes "bands") source text ∷ []) (Some (row_of (codes "bands") source text)) c w m
  more_bands f = record {
    at_bands = new (codes "bands") rows _ _ refl f.at_bands;
    at_counts = kept (codes "counts") rows _ c refl f.at_counts;
    at_workers = kept (codes "workers") rows _ w refl f.at_workers;
    at_make = kept (codes "make") rows _ m refl f.at_make;
  }

  pub more_counts : Finds rows b None w m → Finds (rows ++ row_of (codes "counts") source text ∷ []) b (Some (row_of (codes "counts") source text)) w m
  more_counts f = record {
    at_bands = kept (codes "bands") rows _ b refl f.at_bands;
    at_counts = new (codes "counts") rows _ _ refl f.at_counts;
    at_workers = kept (codes "workers") rows _ w refl f.at_workers;
    at_make = kept (codes "make") rows _ m refl f.at_make;
  }

  pub more_workers : Finds rows b c None m → Finds (rows ++ row_of (codes "workers") source text ∷ []) b c (Some (row_of (codes "workers") source text)) m
  more_workers f = record {
    at_bands = kept (codes "bands") rows _ b refl f.at_bands;
    at_counts = kept (codes "counts") rows _ c refl f.at_counts;
    at_workers = new (codes "workers") rows _ _ refl f.at_workers;
    at_make = kept (codes "make") rows _ m refl f.at_make;
  }

  pub more_make : Finds rows b c w None → Finds (rows ++ row_of (codes "make") source text ∷ []) b c w (Some (row_of (codes "make") source text))
  more_make f = record {
    at_bands = kept (codes "bands") rows _ b refl f.at_bands;
    at_counts = kept (codes "counts") rows _ c refl f.at_counts;
    at_workers = kept (codes "workers") rows _ w refl f.at_workers;
    at_make = new (codes "make") rows _ _ refl f.at_make;
  }

-- ---- the rows of what is given

abbrev pub flag_row : Text → Bool → Option Row
flag_row id true = Some (row_of id CommandLine (codes "true"))
flag_row id false = None

abbrev pub value_row : Text → Option Text → Option Row
value_row id = option_map (row_of id CommandLine)

abbrev pub Looks : List Row → Given → Type 0
Looks rows g = Finds rows (flag_row (codes "bands") g.bands) (flag_row (codes "counts") g.counts)
    (value_row (codes "workers") g.workers) (value_row (codes "make") g.make)

-- ---- one use of an option

-- the built rule of each option
abbrev pub bands_built : Rule
bands_built = filled (flag_rule (codes "bands"))

abbrev pub counts_built : Rule
counts_built = filled (flag_rule (codes "counts"))

abbrev pub built_of : Valued → Rule
built_of of_workers = filled (valued_rule (codes "workers"))
built_of of_make = filled (valued_rule (codes "make"))

pub rules_are : rules ≡ bands_built ∷ counts_built ∷ built_of of_workers ∷ built_of of_make ∷ []
rules_are = refl

-- a use passes where it may be given, and leaves the rows of what is given then
abbrev pub UseFits : Option Given → Kinds → List Row → Type 0
UseFits None fault rows = fault ≡ [] → ⊥
UseFits (Some g) fault rows = (fault ≡ []) × Looks rows g

-- a new row stands at the end
appended : (id text : Text) (rows : List Row) → has_row id rows ≡ false
    → with_values id AsWritten CommandLine (text ∷ []) (without id rows) ≡ rows ++ row_of id CommandLine text ∷ []
appended id text rows none =
    let same : without id rows ≡ rows = absent id (λ _. []) [] rows none ∙ append-nil rows in
    ap (with_values id AsWritten CommandLine (text ∷ [])) same ∙ absent id (more_values CommandLine (text ∷ [])) (row_of id CommandLine text ∷ []) rows none

flag_fits : (g : Given) (given has : Bool) (rows : List Row) → has ≡ given → (given ≡ false → Looks rows g)
    → UseFits (cond given None (Some g)) (or_else (cond (has && true) (ArgumentConflict ∷ []) []) []) rows
flag_fits g true true rows same looks = λ e. (cc)
flag_fits g true false rows same looks = absurd (true≢false (sym same))
flag_fits g false true rows same looks = absurd (true≢false same)
flag_fits g false false rows same looks = (refl, looks refl)

flag_has : (id : Text) (b : Bool) → is_some (flag_row id b) ≡ b
flag_has id true = refl
flag_has id false = refl

value_has : (id : Text) (o : Option Text) → is_some (value_row id o) ≡ is_some o
value_has id None = refl
value_has id (Some t) = refl

value_none : (id : Text) (o : Option Text) → is_some o ≡ false → value_row id o ≡ None
value_none id None e = refl
value_none id (Some t) e = absurd (true≢false e)

module _ (rows : List Row) (g : Given) (f : Looks rows g) where
  has_bands : has_row (codes "bands") rows ≡ g.bands
  has_bands = has_row-found (codes "bands") rows ∙ ap is_some f.at_bands ∙ flag_has (codes "bands") g.bands

  has_counts : has_row (codes "counts") rows ≡ g.counts
  has_counts = has_row-found (codes "counts") rows ∙ ap is_some f.at_counts ∙ flag_has (codes "counts") g.counts

  has_workers : has_row (codes "workers") rows ≡ is_some g.workers
  has_workers = has_row-found (codes "workers") rows ∙ ap is_some f.at_workers ∙ value_has (codes "workers") g.workers

  has_make : has_row (codes "make") rows ≡ is_some g.make
  has_make = has_row-found (codes "make") rows ∙ ap is_some f.at_make ∙ value_has (codes "make") g.make

  pub use_bands : UseFits (cond g.bands None (Some (record g { bands = true }))) (use_fault false bands_built [] rows) (used bands_built [] rows)
  use_bands = flag_fits (record g { bands = true }) g.bands (has_row (codes "bands") rows) (used bands_built [] rows) has_bands
      (λ off. subst (λ (r : List Row). Looks r (record g { bands = true })) (sym (appended (codes "bands") (codes "true") rows (has_bands ∙ off)))
      (more_bands rows CommandLine (codes "true") None _ _ _ (record {
        at_bands = f.at_bands ∙ ap (flag_row (codes "bands")) off;
        at_counts = f.at_counts;
        at_workers = f.at_workers;
        at_make = f.at_make;
      })))

  pub use_counts : UseFits (cond g.counts None (Some (record g { counts = true }))) (use_fault false counts_built [] rows) (used counts_built [] rows)
  use_counts = flag_fits (record g { counts = true }) g.counts (has_row (codes "counts") rows) (used counts_built [] rows) has_counts
      (λ off. subst (λ (r : List Row). Looks r (record g { counts = true })) (sym (appended (codes "counts") (codes "true") rows (has_counts ∙ off)))
      (more_counts rows CommandLine (codes "true") _ None _ _ (record {
        at_bands = f.at_bands;
        at_counts = f.at_counts ∙ ap (flag_row (codes "counts")) off;
        at_workers = f.at_workers;
        at_make = f.at_make;
      })))

  pub use_value : (option : Valued) (text : Text)
      → UseFits (and_value g option text) (use_fault false (built_of option) (text ∷ []) rows) (used (built_of option) (text ∷ []) rows)
  use_value of_workers text = flag_fits (record g { workers = Some text }) (is_some g.workers) (has_row (codes "workers") rows) (used (built_of of_workers) (text ∷ []) rows) has_workers
      (λ off. subst (λ (r : List Row). Looks r (record g { workers = Some text })) (sym (appended (codes "workers") text rows (has_workers ∙ off)))
      (more_workers rows CommandLine text _ _ None _ (record {
        at_bands = f.at_bands;
        at_counts = f.at_counts;
        at_workers = f.at_workers ∙ value_none (codes "workers") g.workers off;
        at_make = f.at_make;
      })))
  use_value of_make text = flag_fits (record g { make = Some text }) (is_some g.make) (has_row (codes "make") rows) (used (built_of of_make) (text ∷ []) rows) has_make
      (λ off. subst (λ (r : List Row). Looks r (record g { make = Some text })) (sym (appended (codes "make") text rows (has_make ∙ off)))
      (more_make rows CommandLine text _ _ _ None (record {
        at_bands = f.at_bands;
        at_counts = f.at_counts;
        at_workers = f.at_workers;
        at_make = f.at_make ∙ value_none (codes "make") g.make off;
      })))
