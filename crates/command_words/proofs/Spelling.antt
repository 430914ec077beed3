-- How a word is spelled: with two hyphens, with one, or with none.
use Rattle.std.proofs.Common.{◌≡◌, ◌∙◌, ◌+◌, ◌⊎◌, ◌&&◌, ◌==◌, ℕ, Bool, true, false, suc, refl, sym, ap, subst, arith, [], ◌∷◌, length, Some, None, inl, inr, true≢false, codes, ne_eqb}
use Rattle.std.specs.Prelude.{nat_le}
use Rattle.std.specs.List.{position_or_len}
use Rattle.std.specs.Str.{bytes_eq}
use Rattle.std.proofs.lemmas.Bool.{cases_Bool, cases_eq}
use Rattle.clap.specs.Lexer.{long_of, short_of}
use Rattle.command_words.specs.Words.{Text, is_equals, is_number, name_in, option_named, value_in}

-- ---- the name and the value of a word

before_sign : (x : ℕ) (xs : Text) → is_equals x ≡ true → name_in (x ∷ xs) ≡ []
before_sign x xs e = rw e refl

name_cons : (x : ℕ) (xs : Text) → is_equals x ≡ false → name_in (x ∷ xs) ≡ x ∷ name_in xs
name_cons x xs e =
    let next : 1 + position_or_len is_equals xs ≡ suc (position_or_len is_equals xs) = omega arith in
    rw (e, next) refl

value_cons : (x : ℕ) (xs : Text) → is_equals x ≡ false → value_in (x ∷ xs) ≡ value_in xs
value_cons x xs e =
    let next : (1 + position_or_len is_equals xs) + 1 ≡ suc (position_or_len is_equals xs + 1) = omega arith in
    rw (e, next) refl

pub name_of_long : (rest : Text) → name_in (45 ∷ 45 ∷ rest) ≡ 45 ∷ 45 ∷ name_in rest
name_of_long rest = name_cons 45 (45 ∷ rest) refl ∙ ap (λ (t : Text). 45 ∷ t) (name_cons 45 rest refl)

pub value_of_long : (rest : Text) → value_in (45 ∷ 45 ∷ rest) ≡ value_in rest
value_of_long rest = value_cons 45 (45 ∷ rest) refl ∙ value_cons 45 rest refl

-- ---- words that name no option

-- a name that begins with another byte than a hyphen
other_first : (x : ℕ) (xs : Text) → (45 ≡ x → ⊥) → option_named (x ∷ xs) ≡ None
other_first x xs other =
    let no : (45 == x) ≡ false = ne_eqb 45 x other in
    simp no

other_second : (x : ℕ) (xs : Text) → (45 ≡ x → ⊥) → option_named (45 ∷ x ∷ xs) ≡ None
other_second x xs other =
    let no : (45 == x) ≡ false = ne_eqb 45 x other in
    simp no

pub unnamed_first : (x : ℕ) (xs : Text) → (45 ≡ x → ⊥) → option_named (name_in (x ∷ xs)) ≡ None
unnamed_first x xs other = elim (cases_Bool (is_equals x)) [
  | inl sign ↦ ap option_named (before_sign x xs sign)
  | inr plain ↦ ap option_named (name_cons x xs plain) ∙ other_first x (name_in xs) other
]

pub unnamed_second : (x : ℕ) (xs : Text) → (45 ≡ x → ⊥) → option_named (name_in (45 ∷ x ∷ xs)) ≡ None
unnamed_second x xs other =
    let first : name_in (45 ∷ x ∷ xs) ≡ 45 ∷ name_in (x ∷ xs) = name_cons 45 (x ∷ xs) refl in
    elim (cases_Bool (is_equals x)) [
      | inl sign ↦ ap option_named (first ∙ ap (λ (t : Text). 45 ∷ t) (before_sign x xs sign))
      | inr plain ↦ ap option_named (first ∙ ap (λ (t : Text). 45 ∷ t) (name_cons x xs plain)) ∙ other_second x (name_in xs) other
    ]

-- a word that begins with a hyphen is no number
and_false : (b : Bool) → (b && false) ≡ false
and_false true = refl
and_false false = refl

pub hyphen_no_number : (xs : Text) → is_number (45 ∷ xs) ≡ false
hyphen_no_number xs = go (nat_le 1 (length (45 ∷ xs))) (nat_le (length (45 ∷ xs)) 6)
  where
    go : (a b : Bool) → (a && (b && false)) ≡ false
    go true b = and_false b
    go false b = refl

-- ---- the three forms

-- `--x..`, with a name and perhaps a value
pub record IsLong (word : Text) : Type 0 where
  pub first : ℕ
  pub more : Text
  pub spelled : word ≡ 45 ∷ 45 ∷ first ∷ more

-- `-x..`, which gives no option and is no number
pub record IsShort (word : Text) : Type 0 where
  pub first : ℕ
  pub more : Text
  pub long : long_of word ≡ None
  pub short : short_of word ≡ Some (first ∷ more)
  pub unnamed : option_named (name_in word) ≡ None
  pub no_number : is_number word ≡ false

-- any other word
pub record IsPlain (word : Text) : Type 0 where
  pub long : long_of word ≡ None
  pub short : short_of word ≡ None
  pub unnamed : option_named (name_in word) ≡ None

abbrev pub Spelled : Text → Type 0
Spelled word = IsLong word ⊎ (IsShort word ⊎ IsPlain word)

abbrev pub is_bare : Text → Bool
is_bare word = bytes_eq word (codes "--")

one_hyphen : (x : ℕ) (xs : Text) → (45 ≡ x → ⊥) → IsShort (45 ∷ x ∷ xs)
one_hyphen x xs other =
    let no : (x == 45) ≡ false = ne_eqb x 45 (λ e. other (sym e)) in
    record {
      first = x;
      more = xs;
      long = rw no refl;
      short = rw no refl;
      unnamed = unnamed_second x xs other;
      no_number = hyphen_no_number (x ∷ xs);
    }

no_hyphen : (x : ℕ) (xs : Text) → (45 ≡ x → ⊥) → IsPlain (x ∷ xs)
no_hyphen x xs other =
    let no : (x == 45) ≡ false = ne_eqb x 45 (λ e. other (sym e)) in
    record { long = rw no refl; short = rw no refl; unnamed = unnamed_first x xs other }

after_hyphens : (xs : Text) → is_bare (45 ∷ 45 ∷ xs) ≡ false → Spelled (45 ∷ 45 ∷ xs)
after_hyphens [] odd = absurd (true≢false odd)
after_hyphens (x ∷ xs) odd = inl (record { first = x; more = xs; spelled = refl })

after_hyphen : (xs : Text) → is_bare (45 ∷ xs) ≡ false → Spelled (45 ∷ xs)
after_hyphen [] odd = inr (inr (record { long = refl; short = refl; unnamed = refl }))
after_hyphen (x ∷ xs) odd = elim (cases_eq 45 x) [
  | inl same ↦ subst (λ (y : ℕ). Spelled (45 ∷ y ∷ xs)) same (after_hyphens xs (subst (λ (y : ℕ). is_bare (45 ∷ y ∷ xs) ≡ false) (sym same) odd))
  | inr other ↦ inr (inl (one_hyphen x xs other))
]

pub spelled : (word : Text) → is_bare word ≡ false → Spelled word
spelled [] odd = inr (inr (record { long = refl; short = refl; unnamed = refl }))
spelled (x ∷ xs) odd = elim (cases_eq 45 x) [
  | inl same ↦ subst (λ (y : ℕ). Spelled (y ∷ xs)) same (after_hyphen xs (subst (λ (y : ℕ). is_bare (y ∷ xs) ≡ false) (sym same) odd))
  | inr other ↦ inr (inr (no_hyphen x xs other))
]
