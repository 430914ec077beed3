-- All the words: clap takes them exactly where they give options whose values it takes as texts.
use Rattle.std.proofs.Common.{◌≡◌, ◌∙◌, ◌⊎◌, ◌||◌, Bool, true, false, refl, sym, ap, ap₂, subst, List, [], ◌∷◌, Option, Some, None, inl, inr, true≢false}
use Rattle.std.specs.List.{fold, list_any}
use Rattle.std.specs.Option.{option_and_then}
use Rattle.clap.specs.Kinds.{Kinds, or_else}
use Rattle.clap.specs.Faults.{settle_fault, turn_fault, walk_fault}
use Rattle.clap.specs.Walk.{Held, Row, Text, Walk, settled, walk_from, walked}
use Rattle.command_words.specs.Words.{Given, Next, a_value, an_option, and_word, given_by, line_if_right}
use Rattle.command_words.specs.declared.line.CommandLine.{CommandLine}
use Rattle.command_words.proofs.Spelling.{is_bare}
use Rattle.command_words.proofs.Meaning.{line_after, wrong_after}
use Rattle.command_words.proofs.Rows.{Looks, rules, top}
use Rattle.command_words.proofs.Walking.{Stands, StepFits, at, doomed_fails, first_fails, open_fails, walk_at, word_fits}

-- the walk's end, and the first fault up to there, with the option that is still open
abbrev pub end_of : Walk → List Text → Held
end_of w words = (fold (walked rules []) w words).held

abbrev pub fault_from : Walk → List Text → Kinds
fault_from w words = or_else (walk_fault top [] w words) (settle_fault rules false (end_of w words))

-- the words pass and give these options, or they fail and are no line
pub record Taken (given : Option Given) (fault : Kinds) (rows : List Row) : Type 0 where
  pub g : Given
  pub is : given ≡ Some g
  pub passed : fault ≡ []
  pub looks : Looks rows g

pub record Left (line : Option CommandLine) (fault : Kinds) : Type 0 where
  pub fails : fault ≡ [] → ⊥
  pub none : line ≡ None

abbrev pub Agrees : Option Given → Kinds → List Row → Type 0
Agrees given fault rows = Taken given fault rows ⊎ Left (option_and_then line_if_right given) fault

pub or_else_then : (a b c : Kinds) → or_else (or_else a b) c ≡ or_else a (or_else b c)
or_else_then [] b c = refl
or_else_then (k ∷ ks) b c = refl

-- one word, and then the others
fault_step : (w : Walk) (word : Text) (rest : List Text) → fault_from w (word ∷ rest) ≡ or_else (turn_fault top [] w word) (fault_from (walked rules [] w word) rest)
unfolding walk_fault
fault_step w word rest = or_else_then (turn_fault top [] w word) _ _

fails_first : (w : Walk) (word : Text) (rest : List Text) → (turn_fault top [] w word ≡ [] → ⊥) → fault_from w (word ∷ rest) ≡ [] → ⊥
fails_first w word rest fails none = first_fails _ _ fails (sym (fault_step w word rest) ∙ none)

passes_first : (w after : Walk) (word : Text) (rest : List Text) → turn_fault top [] w word ≡ [] → walked rules [] w word ≡ after
    → fault_from w (word ∷ rest) ≡ fault_from after rest
passes_first w after word rest passed walk = fault_step w word rest ∙ ap₂ (λ (f : Kinds) (v : Walk). or_else f (fault_from v rest)) passed walk

first_plain : (a b : Bool) → (a || b) ≡ false → a ≡ false
first_plain true b e = e
first_plain false b e = refl

others_plain : (a b : Bool) → (a || b) ≡ false → b ≡ false
others_plain true b e = absurd (true≢false e)
others_plain false b e = e

-- where the open option fails to settle, the words fail
doomed : (words : List Text) (rows : List Row) (pending : Option (Text × List Text)) → (settle_fault rules false (at rows pending) ≡ [] → ⊥)
    → list_any is_bare words ≡ false → fault_from (walk_from (at rows pending)) words ≡ [] → ⊥
unfolding walk_fault
doomed [] rows pending fails odd = fails
doomed (word ∷ rest) rows pending fails odd =
    fails_first (walk_from (at rows pending)) word rest (doomed_fails rows pending fails word (first_plain _ _ odd))

abbrev AgreesFrom : Given → Next → List Row → Option (Text × List Text) → List Text → Type 0
AgreesFrom g next rows pending words = Agrees (given_by g next words) (fault_from (walk_at next (at rows pending)) words)
    (settled rules (end_of (walk_at next (at rows pending)) words)).rows

agrees_step : (g : Given) (next : Next) (rows : List Row) (pending : Option (Text × List Text)) (word : Text) (rest : List Text)
    → ((h : Given) (after : Next) (rs : List Row) (p : Option (Text × List Text)) → Stands after rs p h → AgreesFrom h after rs p rest)
    → list_any is_bare rest ≡ false
    → StepFits (and_word g next word) (turn_fault top [] (walk_at next (at rows pending)) word) (walked rules [] (walk_at next (at rows pending)) word)
    → Agrees (option_and_then (λ m. given_by m.0 m.1 rest) (and_word g next word)) (fault_from (walk_at next (at rows pending)) (word ∷ rest))
    (settled rules (end_of (walk_at next (at rows pending)) (word ∷ rest))).rows
agrees_step g next rows pending word rest later plain (inl s) =
    let w : Walk = walk_at next (at rows pending) in
    let after : Walk = walk_at s.next (at s.rows s.pending) in
    let then_given = subst (λ (m : Option (Given × Next)). Agrees (option_and_then (λ m. given_by m.0 m.1 rest) m) (fault_from after rest) (settled rules (end_of after rest)).rows)
    (sym s.is) (later s.given s.next s.rows s.pending s.stands) in
    let then_rows = subst (λ (v : Walk). Agrees (option_and_then (λ m. given_by m.0 m.1 rest) (and_word g next word)) (fault_from after rest) (settled rules (end_of v rest)).rows)
    (sym s.walk) then_given in
    subst (λ (f : Kinds). Agrees (option_and_then (λ m. given_by m.0 m.1 rest) (and_word g next word)) f (settled rules (end_of (walked rules [] w word) rest)).rows)
    (sym (passes_first w after word rest s.passed s.walk)) then_rows
agrees_step g next rows pending word rest later plain (inr (inl s)) = inr (record {
  fails = fails_first (walk_at next (at rows pending)) word rest s.fails;
  none = wrong_after (and_word g next word) rest s.wrong;
})
agrees_step g next rows pending word rest later plain (inr (inr s)) = inr (record {
  fails = λ none. doomed rest s.rows s.pending s.fails plain
      (sym (passes_first (walk_at next (at rows pending)) (walk_from (at s.rows s.pending)) word rest s.passed s.walk) ∙ none);
  none = ap (λ (m : Option (Given × Next)). line_after m rest) s.none;
})

given_step : (g : Given) (next : Next) (word : Text) (rest : List Text) → given_by g next (word ∷ rest) ≡ option_and_then (λ m. given_by m.0 m.1 rest) (and_word g next word)
unfolding given_by
given_step g an_option word rest = refl
given_step g (a_value o) word rest = refl

pub agrees : (words : List Text) (g : Given) (next : Next) (rows : List Row) (pending : Option (Text × List Text)) → list_any is_bare words ≡ false
    → Stands next rows pending g → AgreesFrom g next rows pending words
unfolding walk_fault given_by
agrees [] g an_option rows pending odd st = inl (record { g = g; is = refl; passed = st.0; looks = st.1 })
agrees [] g (a_value o) rows pending odd st = inr (record { fails = open_fails o rows pending st.0; none = refl })
agrees (word ∷ rest) g next rows pending odd st =
    let plain : list_any is_bare rest ≡ false = others_plain _ _ odd in
    let step = agrees_step g next rows pending word rest (λ h after rs p stands. agrees rest h after rs p plain stands) plain
    (word_fits next rows pending g st word (first_plain _ _ odd)) in
    subst (λ (m : Option Given). Agrees m (fault_from (walk_at next (at rows pending)) (word ∷ rest)) (settled rules (end_of (walk_at next (at rows pending)) (word ∷ rest))).rows)
    (sym (given_step g next word rest)) step
