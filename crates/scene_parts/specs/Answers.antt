-- Answers that may be faults: tests in a row, of which the first fault is the answer, and want of memory.
use Rattle.std.specs.Prelude.{◌≡◌, List, [], ◌∷◌, Bool, true, false, Option, None, Some, Result, Ok, Err}
use Rattle.scene_parts.specs.declared.faults.PartFault.{PartFault}
use Rattle.scene_parts.specs.declared.faults.PartFault.TheVariants.{NoMemory}

infixl 10 ◌>>=◌
abbrev pub ◌>>=◌ : {A B E : Type 0} → Result A E → (A → Result B E) → Result B E
(Ok x) >>= next = next x
(Err fault) >>= next = Err fault

infixl 10 ◌>>◌
abbrev pub ◌>>◌ : {A B E : Type 0} → Result A E → Result B E → Result B E
(Ok x) >> next = next
(Err fault) >> next = Err fault

-- a fact that is owed unless a test passes
abbrev pub Unless : Bool → Type 0 → Type 0
Unless true fact = Unit {0}
Unless false fact = fact

-- an answer is the expected one, unless it is the fault that there was no memory
abbrev pub MatchesUnlessMemory : {A E : Type 0} → (E → Bool) → Result A E → Result A E → Type 0
MatchesUnlessMemory lacks_memory (Ok x) expected = expected ≡ Ok x
MatchesUnlessMemory lacks_memory (Err fault) expected = Unless (lacks_memory fault) (expected ≡ Err fault)

-- that fault, of parts
abbrev pub lacks_memory : PartFault → Bool
lacks_memory NoMemory = true
lacks_memory fault = false

-- a test of each item in turn
abbrev pub each : {A B E : Type 0} → (A → Result B E) → List A → Result (List B) E
each test [] = Ok []
each test (x ∷ xs) = do
  y ← test x
  ys ← each test xs
  Ok (y ∷ ys)

-- a test of what is there
abbrev pub optional : {A B E : Type 0} → (A → Result B E) → Option A → Result (Option B) E
optional test None = Ok None
optional test (Some x) = do
  y ← test x
  Ok (Some y)
