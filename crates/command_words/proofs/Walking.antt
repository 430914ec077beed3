-- Clap's walk over the words, word by word, and what is given so far.
use Rattle.std.proofs.Common.{◌≡◌, ◌∙◌, ◌⊎◌, ◌||◌, ℕ, Bool, cond, true, false, refl, sym, subst, List, [], ◌∷◌, Option, Some, None, inl, inr, codes, option_map}
use Rattle.std.specs.Prelude.{slice_get}
use Rattle.std.specs.Str.{bytes_eq, chars}
use Rattle.clap.specs.Kinds.{Kinds, or_else}
use Rattle.clap.specs.Lexer.{long_of, short_of}
use Rattle.clap.specs.Faults.{flags_fault, long_fault, settle_fault, step_fault, turn_fault}
use Rattle.clap.specs.Walk.{Held, Row, Rule, Text, Walk, after_flag, after_step, arg_by_long, bundle_met, idle, long_met, option, settled, walk_from, walked}
use Rattle.clap.specs.declared.error.kind.ErrorKind.{ErrorKind}
use Rattle.clap.specs.declared.error.kind.ErrorKind.TheVariants.{UnknownArgument}
use Rattle.command_words.specs.Words.{Choice, Given, Next, Valued, a_value, an_option, and_option, and_value, and_word, for_bands, for_counts, name_in, of_make, of_workers, option_named, then_option, value_in, with_value}
use Rattle.command_words.proofs.Spelling.{IsPlain, IsShort, is_bare, name_of_long, spelled, value_of_long}
use Rattle.command_words.proofs.Meaning.{StaysWrong, no_number_wrong}
use Rattle.command_words.proofs.Rows.{Looks, UseFits, bands_built, built_of, counts_built, rules, top, use_bands, use_counts, use_value}
use Rattle.command_words.proofs.Spelling.{hyphen_no_number}

-- ---- lists of kinds

pub first_fails : (a b : Kinds) → (a ≡ [] → ⊥) → or_else a b ≡ [] → ⊥
first_fails [] b some e = some refl
first_fails (k ∷ ks) b some e = some e

pub some_kind : (k : ErrorKind) (ks : Kinds) → k ∷ ks ≡ [] → ⊥
some_kind k ks e = cc

-- ---- where the walk stands

abbrev pub id_of : Valued → Text
id_of of_workers = codes "workers"
id_of of_make = codes "make"

abbrev pub at : List Row → Option (Text × List Text) → Held
at rows pending = record { rows = rows; pending = pending; skip = 0 }

abbrev pub walk_at : Next → Held → Walk
walk_at an_option h = walk_from h
walk_at (a_value o) h = record (walk_from h) { waiting = option (id_of o) }

-- the rows and the open option agree with what is given
abbrev pub Stands : Next → List Row → Option (Text × List Text) → Given → Type 0
Stands an_option rows pending g = (settle_fault rules false (at rows pending) ≡ []) × Looks (settled rules (at rows pending)).rows g
Stands (a_value o) rows pending g = (pending ≡ Some (id_of o, [])) × Looks rows g

-- the word passes, and what may come next is the same
pub record Passes (more : Option (Given × Next)) (fault : Kinds) (w : Walk) : Type 0 where
  pub given : Given
  pub next : Next
  pub rows : List Row
  pub pending : Option (Text × List Text)
  pub is : more ≡ Some (given, next)
  pub passed : fault ≡ []
  pub walk : w ≡ walk_at next (at rows pending)
  pub stands : Stands next rows pending given

-- the word is refused, and nothing right can be given any more
pub record Refused (more : Option (Given × Next)) (fault : Kinds) : Type 0 where
  pub fails : fault ≡ [] → ⊥
  pub wrong : StaysWrong more

-- the word passes, but the option fails once it is settled
pub record Doomed (more : Option (Given × Next)) (fault : Kinds) (w : Walk) : Type 0 where
  pub rows : List Row
  pub pending : Option (Text × List Text)
  pub none : more ≡ None
  pub passed : fault ≡ []
  pub walk : w ≡ walk_from (at rows pending)
  pub fails : settle_fault rules false (at rows pending) ≡ [] → ⊥

abbrev pub StepFits : Option (Given × Next) → Kinds → Walk → Type 0
StepFits more fault w = Passes more fault w ⊎ (Refused more fault ⊎ Doomed more fault w)

-- ---- the options by their names

abbrev rule_named : Choice → Rule
rule_named for_bands = bands_built
rule_named for_counts = counts_built
rule_named (with_value o) = built_of o

by_long : (name : Text) → arg_by_long rules name ≡ option_map rule_named (option_named (45 ∷ 45 ∷ name))
by_long name = go (bytes_eq (codes "bands") name) (bytes_eq (codes "counts") name) (bytes_eq (codes "workers") name) (bytes_eq (codes "make") name)
  where
    go : (b c w m : Bool) → cond (b || false) (Some bands_built) (cond (c || false) (Some counts_built) (cond (w || false) (Some (built_of of_workers)) (cond (m || false) (Some (built_of of_make)) None)))
        ≡ option_map rule_named (cond b (Some for_bands) (cond c (Some for_counts) (cond w (Some (with_value of_workers)) (cond m (Some (with_value of_make)) None))))
    go true c w m = refl
    go false true w m = refl
    go false false true m = refl
    go false false false true = refl
    go false false false false = refl

-- ---- a long word

abbrev long_turn : Option Rule → Option Text → Text → Held → Kinds
long_turn found v word h =
    let m = after_flag rules idle word (long_met rules found v h).0 (long_met rules found v h).1 in
    or_else (long_fault rules false found v h) (step_fault top 1 m.0 m.1)

abbrev long_walked : Option Rule → Option Text → Text → Held → Walk
long_walked found v word h =
    let m = after_flag rules idle word (long_met rules found v h).0 (long_met rules found v h).1 in
    after_step rules word (walk_from h) m.0 m.1

pass_use : (m : Option Given) (settle fault : Kinds) (rows : List Row) (w : Walk) → settle ≡ [] → UseFits m fault rows → w ≡ walk_from (at rows None)
    → StepFits (then_option m) (or_else (or_else settle fault) []) w
pass_use None settle fault rows w none fits walk = inr (inl (record {
  fails = rw none (first_fails fault [] fits);
  wrong = tt;
}))
pass_use (Some g) settle fault rows w none fits walk = inl (record {
  given = g;
  next = an_option;
  rows = rows;
  pending = None;
  is = refl;
  passed = rw (none, fits.0) refl;
  walk = walk;
  stands = (refl, fits.1);
})

flag_then : (b : Bool) (g : Given) → then_option (cond b None (Some g)) ≡ cond b None (Some (g, an_option))
flag_then true g = refl
flag_then false g = refl

long_step : (rows : List Row) (pending : Option (Text × List Text)) (g : Given) → Stands an_option rows pending g
    → (choice : Option Choice) (v : Option Text) (word : Text)
    → StepFits (and_option g choice v) (long_turn (option_map rule_named choice) v word (at rows pending)) (long_walked (option_map rule_named choice) v word (at rows pending))
long_step rows pending g st None v word = inr (inl (record { fails = some_kind _ _; wrong = tt }))
long_step rows pending g st (Some for_bands) None word =
    subst (λ (m : Option (Given × Next)). StepFits m (long_turn (Some bands_built) None word (at rows pending)) (long_walked (Some bands_built) None word (at rows pending)))
    (flag_then g.bands (record g { bands = true }))
    (pass_use (cond g.bands None (Some (record g { bands = true }))) (settle_fault rules false (at rows pending)) _ _ _ st.0 (use_bands (settled rules (at rows pending)).rows g st.1) refl)
long_step rows pending g st (Some for_bands) (Some t) word = inr (inl (record { fails = some_kind _ _; wrong = tt }))
long_step rows pending g st (Some for_counts) None word =
    subst (λ (m : Option (Given × Next)). StepFits m (long_turn (Some counts_built) None word (at rows pending)) (long_walked (Some counts_built) None word (at rows pending)))
    (flag_then g.counts (record g { counts = true }))
    (pass_use (cond g.counts None (Some (record g { counts = true }))) (settle_fault rules false (at rows pending)) _ _ _ st.0 (use_counts (settled rules (at rows pending)).rows g st.1) refl)
long_step rows pending g st (Some for_counts) (Some t) word = inr (inl (record { fails = some_kind _ _; wrong = tt }))
long_step rows pending g st (Some (with_value of_workers)) None word = inl (record {
  given = g;
  next = a_value of_workers;
  rows = (settled rules (at rows pending)).rows;
  pending = Some (codes "workers", []);
  is = refl;
  passed = rw st.0 refl;
  walk = refl;
  stands = (refl, st.1);
})
long_step rows pending g st (Some (with_value of_make)) None word = inl (record {
  given = g;
  next = a_value of_make;
  rows = (settled rules (at rows pending)).rows;
  pending = Some (codes "make", []);
  is = refl;
  passed = rw st.0 refl;
  walk = refl;
  stands = (refl, st.1);
})
long_step rows pending g st (Some (with_value of_workers)) (Some t) word =
    pass_use (and_value g of_workers t) (settle_fault rules false (at rows pending)) _ _ _ st.0 (use_value (settled rules (at rows pending)).rows g st.1 of_workers t) refl
long_step rows pending g st (Some (with_value of_make)) (Some t) word =
    pass_use (and_value g of_make t) (settle_fault rules false (at rows pending)) _ _ _ st.0 (use_value (settled rules (at rows pending)).rows g st.1 of_make t) refl

-- where the option before fails to settle, each long word is refused
long_refused : (h : Held) → (settle_fault rules false h ≡ [] → ⊥) → (choice : Option Choice) (v : Option Text)
    → long_fault rules false (option_map rule_named choice) v h ≡ [] → ⊥
long_refused h fails None v = some_kind _ _
long_refused h fails (Some for_bands) None = first_fails _ _ fails
long_refused h fails (Some for_bands) (Some t) = some_kind _ _
long_refused h fails (Some for_counts) None = first_fails _ _ fails
long_refused h fails (Some for_counts) (Some t) = some_kind _ _
long_refused h fails (Some (with_value of_workers)) None = fails
long_refused h fails (Some (with_value of_make)) None = fails
long_refused h fails (Some (with_value of_workers)) (Some t) = first_fails _ _ fails
long_refused h fails (Some (with_value of_make)) (Some t) = first_fails _ _ fails

-- ---- a word where an option may stand

option_word : (rows : List Row) (pending : Option (Text × List Text)) (g : Given) → Stands an_option rows pending g → (x : ℕ) (xs : Text)
    → StepFits (and_word g an_option (45 ∷ 45 ∷ x ∷ xs))
    (turn_fault top [] (walk_from (at rows pending)) (45 ∷ 45 ∷ x ∷ xs)) (walked rules [] (walk_from (at rows pending)) (45 ∷ 45 ∷ x ∷ xs))
unfolding walked
option_word rows pending g st x xs =
    let word : Text = 45 ∷ 45 ∷ x ∷ xs in
    let name : Text = name_in (x ∷ xs) in
    let v : Option Text = value_in (x ∷ xs) in
    let h : Held = at rows pending in
    let step = long_step rows pending g st (option_named (45 ∷ 45 ∷ name)) v word in
    let by_rule = subst (λ (r : Option Rule). StepFits (and_option g (option_named (45 ∷ 45 ∷ name)) v) (long_turn r v word h) (long_walked r v word h)) (sym (by_long name)) step in
    let by_name = subst (λ (n : Text). StepFits (and_option g (option_named n) v) (long_turn (arg_by_long rules name) v word h) (long_walked (arg_by_long rules name) v word h)) (sym (name_of_long (x ∷ xs))) by_rule in
    subst (λ (t : Option Text). StepFits (and_option g (option_named (name_in word)) t) (long_turn (arg_by_long rules name) v word h) (long_walked (arg_by_long rules name) v word h)) (sym (value_of_long (x ∷ xs))) by_name

-- a word that isn't long is refused there, whatever stands open
plain_turn : (h : Held) (word : Text) → is_bare word ≡ false → long_of word ≡ None → short_of word ≡ None
    → turn_fault top [] (walk_from h) word ≡ UnknownArgument ∷ []
plain_turn h word odd long short = rw (odd, long, short) refl

short_turn : (rows : List Row) (pending : Option (Text × List Text)) (word : Text) (x : ℕ) (xs : Text) (c : Option ℕ) → is_bare word ≡ false → long_of word ≡ None
    → short_of word ≡ Some (x ∷ xs) → slice_get (chars (x ∷ xs)) 0 ≡ c → turn_fault top [] (walk_from (at rows pending)) word ≡ UnknownArgument ∷ []
unfolding flags_fault bundle_met
short_turn rows pending word x xs None odd long short first = rw (odd, long, short, first) refl
short_turn rows pending word x xs (Some c) odd long short first = rw (odd, long, short, first) refl

abbrev Fails : List Row → Option (Text × List Text) → Text → Type 0
Fails rows pending word = turn_fault top [] (walk_from (at rows pending)) word ≡ [] → ⊥

fails_as : (a : Kinds) (k : ErrorKind) (ks : Kinds) → a ≡ k ∷ ks → a ≡ [] → ⊥
fails_as a k ks e none = some_kind k ks (sym e ∙ none)

short_fails : (rows : List Row) (pending : Option (Text × List Text)) (word : Text) → is_bare word ≡ false → IsShort word → Fails rows pending word
short_fails rows pending word odd s = fails_as _ _ _ (short_turn rows pending word s.first s.more (slice_get (chars (s.first ∷ s.more)) 0) odd s.long s.short refl)

plain_fails : (rows : List Row) (pending : Option (Text × List Text)) (word : Text) → is_bare word ≡ false → IsPlain word → Fails rows pending word
plain_fails rows pending word odd s = fails_as _ _ _ (plain_turn (at rows pending) word odd s.long s.short)

unnamed_step : (g : Given) (word : Text) → option_named (name_in word) ≡ None → StaysWrong (and_word g an_option word)
unnamed_step g word none = rw none tt

pub option_fits : (rows : List Row) (pending : Option (Text × List Text)) (g : Given) → Stands an_option rows pending g → (word : Text) → is_bare word ≡ false
    → StepFits (and_word g an_option word) (turn_fault top [] (walk_from (at rows pending)) word) (walked rules [] (walk_from (at rows pending)) word)
option_fits rows pending g st word odd = elim (spelled word odd) [
  | inl long ↦ subst (λ (t : Text). StepFits (and_word g an_option t) (turn_fault top [] (walk_from (at rows pending)) t) (walked rules [] (walk_from (at rows pending)) t)) (sym long.spelled)
      (option_word rows pending g st long.first long.more)
  | inr (inl short) ↦ inr (inl (record { fails = short_fails rows pending word odd short; wrong = unnamed_step g word short.unnamed }))
  | inr (inr plain) ↦ inr (inl (record { fails = plain_fails rows pending word odd plain; wrong = unnamed_step g word plain.unnamed }))
]

-- where the option before fails to settle, each word is refused
long_fails : (rows : List Row) (pending : Option (Text × List Text)) (x : ℕ) (xs : Text) → (settle_fault rules false (at rows pending) ≡ [] → ⊥)
    → Fails rows pending (45 ∷ 45 ∷ x ∷ xs)
long_fails rows pending x xs fails =
    let name : Text = name_in (x ∷ xs) in
    first_fails _ _ (subst (λ (r : Option Rule). long_fault rules false r (value_in (x ∷ xs)) (at rows pending) ≡ [] → ⊥) (sym (by_long name))
    (long_refused (at rows pending) fails (option_named (45 ∷ 45 ∷ name)) (value_in (x ∷ xs))))

pub doomed_fails : (rows : List Row) (pending : Option (Text × List Text)) → (settle_fault rules false (at rows pending) ≡ [] → ⊥)
    → (word : Text) → is_bare word ≡ false → Fails rows pending word
doomed_fails rows pending fails word odd = elim (spelled word odd) [
  | inl long ↦ subst (λ (t : Text). Fails rows pending t) (sym long.spelled) (long_fails rows pending long.first long.more fails)
  | inr (inl short) ↦ short_fails rows pending word odd short
  | inr (inr plain) ↦ plain_fails rows pending word odd plain
]

-- ---- a word where a value has to stand

-- the word is taken as the value, which settles later
taken : (m : Option Given) (rows after : List Row) (pending : Option (Text × List Text)) (fault : Kinds) (w : Walk) → fault ≡ [] → w ≡ walk_from (at rows pending)
    → UseFits m (settle_fault rules false (at rows pending)) (settled rules (at rows pending)).rows → StepFits (then_option m) fault w
taken None rows after pending fault w passed walk fits = inr (inr (record {
  rows = rows;
  pending = pending;
  none = refl;
  passed = passed;
  walk = walk;
  fails = fits;
}))
taken (Some g) rows after pending fault w passed walk fits = inl (record {
  given = g;
  next = an_option;
  rows = rows;
  pending = pending;
  is = refl;
  passed = passed;
  walk = walk;
  stands = fits;
})

value_turn : (o : Valued) (rows : List Row) (word : Text) → is_bare word ≡ false → long_of word ≡ None → short_of word ≡ None
    → turn_fault top [] (walk_at (a_value o) (at rows (Some (id_of o, [])))) word ≡ []
value_turn of_workers rows word odd long short = rw (odd, long, short) refl
value_turn of_make rows word odd long short = rw (odd, long, short) refl

value_walked : (o : Valued) (rows : List Row) (word : Text) → is_bare word ≡ false → long_of word ≡ None → short_of word ≡ None
    → walked rules [] (walk_at (a_value o) (at rows (Some (id_of o, [])))) word ≡ walk_from (at rows (Some (id_of o, word ∷ [])))
unfolding walked
value_walked of_workers rows word odd long short = rw (odd, long, short) refl
value_walked of_make rows word odd long short = rw (odd, long, short) refl

value_use : (o : Valued) (rows : List Row) (g : Given) (word : Text) → Looks rows g
    → UseFits (and_value g o word) (settle_fault rules false (at rows (Some (id_of o, word ∷ [])))) (settled rules (at rows (Some (id_of o, word ∷ [])))).rows
value_use of_workers rows g word looks = use_value rows g looks of_workers word
value_use of_make rows g word looks = use_value rows g looks of_make word

-- what begins with a hyphen and isn't long: refused, or taken where no character can be read
abbrev ValueFits : Valued → List Row → Given → Text → Type 0
ValueFits o rows g word =
    StepFits (and_word g (a_value o) word) (turn_fault top [] (walk_at (a_value o) (at rows (Some (id_of o, [])))) word)
    (walked rules [] (walk_at (a_value o) (at rows (Some (id_of o, [])))) word)

plain_value : (o : Valued) (rows : List Row) (g : Given) (word : Text) → Looks rows g → is_bare word ≡ false → IsPlain word → ValueFits o rows g word
plain_value o rows g word looks odd s = taken (and_value g o word) rows rows (Some (id_of o, word ∷ [])) _ _
    (value_turn o rows word odd s.long s.short) (value_walked o rows word odd s.long s.short) (value_use o rows g word looks)

some_turn : (o : Valued) (rows : List Row) (word : Text) (x : ℕ) (xs : Text) (c : ℕ) → is_bare word ≡ false → long_of word ≡ None
    → short_of word ≡ Some (x ∷ xs) → slice_get (chars (x ∷ xs)) 0 ≡ Some c → turn_fault top [] (walk_at (a_value o) (at rows (Some (id_of o, [])))) word ≡ [] → ⊥
unfolding flags_fault bundle_met
some_turn of_workers rows word x xs c odd long short first = rw (odd, long, short, first) (some_kind _ _)
some_turn of_make rows word x xs c odd long short first = rw (odd, long, short, first) (some_kind _ _)

none_turn : (o : Valued) (rows : List Row) (word : Text) (x : ℕ) (xs : Text) → is_bare word ≡ false → long_of word ≡ None
    → short_of word ≡ Some (x ∷ xs) → slice_get (chars (x ∷ xs)) 0 ≡ None → turn_fault top [] (walk_at (a_value o) (at rows (Some (id_of o, [])))) word ≡ []
unfolding flags_fault bundle_met
none_turn of_workers rows word x xs odd long short first = rw (odd, long, short, first) refl
none_turn of_make rows word x xs odd long short first = rw (odd, long, short, first) refl

none_walked : (o : Valued) (rows : List Row) (word : Text) (x : ℕ) (xs : Text) → is_bare word ≡ false → long_of word ≡ None
    → short_of word ≡ Some (x ∷ xs) → slice_get (chars (x ∷ xs)) 0 ≡ None
    → walked rules [] (walk_at (a_value o) (at rows (Some (id_of o, [])))) word ≡ walk_from (at rows (Some (id_of o, word ∷ [])))
unfolding walked bundle_met
none_walked of_workers rows word x xs odd long short first = rw (odd, long, short, first) refl
none_walked of_make rows word x xs odd long short first = rw (odd, long, short, first) refl

short_value : (o : Valued) (rows : List Row) (g : Given) (word : Text) → Looks rows g → is_bare word ≡ false → IsShort word → ValueFits o rows g word
short_value o rows g word looks odd s = go (slice_get (chars (s.first ∷ s.more)) 0) refl
  where
    go : (c : Option ℕ) → slice_get (chars (s.first ∷ s.more)) 0 ≡ c → ValueFits o rows g word
    go None first = taken (and_value g o word) rows rows (Some (id_of o, word ∷ [])) _ _
        (none_turn o rows word s.first s.more odd s.long s.short first) (none_walked o rows word s.first s.more odd s.long s.short first) (value_use o rows g word looks)
    go (Some c) first = inr (inl (record {
      fails = some_turn o rows word s.first s.more c odd s.long s.short first;
      wrong = no_number_wrong g o word s.no_number;
    }))

unsettled : (o : Valued) (rows : List Row) → settle_fault rules false (at rows (Some (id_of o, []))) ≡ [] → ⊥
unsettled of_workers rows = some_kind _ _
unsettled of_make rows = some_kind _ _

-- a long word is no value
long_value_fails : (o : Valued) (rows : List Row) (x : ℕ) (xs : Text)
    → turn_fault top [] (walk_at (a_value o) (at rows (Some (id_of o, [])))) (45 ∷ 45 ∷ x ∷ xs) ≡ [] → ⊥
long_value_fails o rows x xs =
    let name : Text = name_in (x ∷ xs) in
    first_fails _ _ (subst (λ (r : Option Rule). long_fault rules false r (value_in (x ∷ xs)) (at rows (Some (id_of o, []))) ≡ [] → ⊥) (sym (by_long name))
    (long_refused (at rows (Some (id_of o, []))) (unsettled o rows) (option_named (45 ∷ 45 ∷ name)) (value_in (x ∷ xs))))

long_value : (o : Valued) (rows : List Row) (g : Given) (x : ℕ) (xs : Text) → ValueFits o rows g (45 ∷ 45 ∷ x ∷ xs)
long_value o rows g x xs = inr (inl (record {
  fails = long_value_fails o rows x xs;
  wrong = no_number_wrong g o (45 ∷ 45 ∷ x ∷ xs) (hyphen_no_number (45 ∷ x ∷ xs));
}))

value_fits : (o : Valued) (rows : List Row) (g : Given) → Looks rows g → (word : Text) → is_bare word ≡ false → ValueFits o rows g word
value_fits o rows g looks word odd = elim (spelled word odd) [
  | inl long ↦ subst (λ (t : Text). ValueFits o rows g t) (sym long.spelled) (long_value o rows g long.first long.more)
  | inr (inl short) ↦ short_value o rows g word looks odd short
  | inr (inr plain) ↦ plain_value o rows g word looks odd plain
]

-- ---- any word

pub word_fits : (next : Next) (rows : List Row) (pending : Option (Text × List Text)) (g : Given) → Stands next rows pending g → (word : Text) → is_bare word ≡ false
    → StepFits (and_word g next word) (turn_fault top [] (walk_at next (at rows pending)) word) (walked rules [] (walk_at next (at rows pending)) word)
word_fits an_option rows pending g st word odd = option_fits rows pending g st word odd
word_fits (a_value o) rows pending g st word odd =
    subst (λ (p : Option (Text × List Text)). StepFits (and_word g (a_value o) word) (turn_fault top [] (walk_at (a_value o) (at rows p)) word) (walked rules [] (walk_at (a_value o) (at rows p)) word))
    (sym st.0) (value_fits o rows g st.1 word odd)

pub open_fails : (o : Valued) (rows : List Row) (pending : Option (Text × List Text)) → pending ≡ Some (id_of o, []) → settle_fault rules false (at rows pending) ≡ [] → ⊥
open_fails o rows pending is = rw is (unsettled o rows)
