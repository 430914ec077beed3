-- Things filed under their names.
use Rattle.std.specs.Prelude.{◌≡◌, ℕ, Bool, bytes_eq, List, [], ◌∷◌, Vec}
use Rattle.std.specs.declared.alloc.Global.{Global}

-- each key is the name of its thing
abbrev pub AreFiled : {T : Type 0} → (T → List ℕ) → List (Vec ℕ Global × T) → Type 0
AreFiled name_of [] = Unit {0}
AreFiled name_of (entry ∷ entries) = (entry.0.items ≡ name_of entry.1) × AreFiled name_of entries

-- two keys are one where their bytes are
abbrev pub same_key : Vec ℕ Global → Vec ℕ Global → Bool
same_key a b = bytes_eq a.items b.items
