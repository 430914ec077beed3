-- What the test for UTF-8 answers.
use Rattle.std.proofs.Common.{◌≡◌, ℕ, List, Bool, true, false, refl}
use Rattle.std.specs.Prelude.{IsUtf8}
use Rattle.std.specs.Str.{is_utf8}
use Rattle.std.proofs.lemmas.Str.{IsUtf8-from_is_utf8}

untold : (bytes : List ℕ) (told : Bool) → is_utf8 bytes ≡ told → (IsUtf8 bytes → ⊥) → told ≡ false
untold bytes true is not_utf8 = absurd (not_utf8 (IsUtf8-from_is_utf8 bytes is))
untold bytes false is not_utf8 = refl

pub is_utf8-false : (bytes : List ℕ) → (IsUtf8 bytes → ⊥) → is_utf8 bytes ≡ false
is_utf8-false bytes not_utf8 = untold bytes (is_utf8 bytes) refl not_utf8
