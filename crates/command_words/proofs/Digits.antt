-- What one to six digits are to the library's own reading of numbers.
use Rattle.std.proofs.Common.{◌≡◌, ◌<◌, ◌≤◌, ◌^◌, ◌&&◌, ℕ, Bool, true, false, refl, sym, ap₂, subst, arith, [], ◌∷◌, length, Result, Ok, true≢false, ne_eqb, rules, tests}
use Rattle.std.specs.Prelude.{nat_le}
use Rattle.std.specs.List.{list_all}
use Rattle.std.specs.Int.{IsInRange}
use Rattle.std.specs.Char.{is_ascii_digit}
use Rattle.std.specs.Str.Parse.{IsNumeral, ParsesUnsigned, digits_value, without_leading_plus}
use Rattle.std.specs.Result.{OkIff}
use Rattle.std.proofs.lemmas.Result.{Ok-from_Ok_iff}
use Rattle.std.proofs.lemmas.Str.Parse.{IsDigitsTest, IsNumeralModel, digits_value_short, numerals_by_value}
use Rattle.command_words.specs.Words.{Text, is_number, number}

abbrev AreDigits : Text → Type 0
AreDigits ds = list_all is_ascii_digit ds ≡ true

both : (a b : Bool) → (a && b) ≡ true → (a ≡ true) × (b ≡ true)
both true b e = (refl, e)
both false b e = absurd (true≢false (sym e))

in_range : (c : ℕ) → is_ascii_digit c ≡ true → IsInRange 48 57 c
in_range c e = search (rules, tests, both (nat_le 48 c) (nat_le c 57) e)

is_in_range : (c : ℕ) → IsInRange 48 57 c → is_ascii_digit c ≡ true
is_in_range c h = search (rules, tests, h)

tells : IsDigitsTest AreDigits
tells = record {
  empty = refl;
  parts = λ c cs e. (in_range c (both (is_ascii_digit c) (list_all is_ascii_digit cs) e).0, (both (is_ascii_digit c) (list_all is_ascii_digit cs) e).1);
  more = λ c cs h e. ap₂ (λ a b. a && b) (is_in_range c h) e;
}

model : IsNumeralModel AreDigits (digits_value 10)
model = numerals_by_value AreDigits tells

no_plus : (x : ℕ) (xs : Text) → is_ascii_digit x ≡ true → without_leading_plus (x ∷ xs) ≡ x ∷ xs
no_plus x xs digit =
    let range : IsInRange 48 57 x = in_range x digit in
    let low : 48 ≤ x = range.0 in
    let no : Rattle.std.proofs.Math.Dec.eqb x 43 ≡ false = ne_eqb x 43 (λ e. omega arith) in
    rw no refl

-- the parts of the test
pub record Parts (text : Text) : Type 0 where
  pub some : 1 ≤ length text
  pub short : length text ≤ 6
  pub digits : AreDigits text

parts : (text : Text) → is_number text ≡ true → Parts text
parts text e =
    let first = both (nat_le 1 (length text)) _ e in
    let second = both (nat_le (length text) 6) _ first.1 in
    record { some = search (rules, tests, first.0); short = search (rules, tests, second.0); digits = second.1 }

unsigned : (text : Text) → is_number text ≡ true → without_leading_plus text ≡ text
unsigned [] e = absurd (true≢false (sym e))
unsigned (x ∷ xs) e = no_plus x xs (both (is_ascii_digit x) (list_all is_ascii_digit xs) (parts (x ∷ xs) e).digits).0

fits : (text : Text) → is_number text ≡ true → IsNumeral 10 text × (digits_value 10 text < 2 ^ 32)
fits text e =
    let p = parts text e in
    let small : digits_value 10 text < 10 ^ 6 = digits_value_short model text 6 p.digits p.short in
    ((p.some, model.to text p.digits), omega arith)

pub parses : {E : Type 0} (text : Text) (r : Result ℕ E) → is_number text ≡ true → ParsesUnsigned 32 10 text r → r ≡ Ok (number text)
parses text r e parsed =
    Ok-from_Ok_iff r (IsNumeral 10 text × (digits_value 10 text < 2 ^ 32)) (number text)
    (subst (λ (t : Text). OkIff r (IsNumeral 10 t × (digits_value 10 t < 2 ^ 32)) (digits_value 10 t)) (unsigned text e) parsed) (fits text e)
