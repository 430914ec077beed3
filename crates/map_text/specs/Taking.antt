-- What calls that write rows have left in the sink, by what they answer.
use Rattle.std.specs.Prelude.{◌≡◌, ◌<◌, ℕ, List, [], ◌∷◌, ◌++◌, length, flat_map, Option, Result, Ok, Err, OnOk, IsErrOf}
use Rattle.std.specs.Io.KnownBytes.{Appends}
use Rattle.map_io.specs.Causes.{Rose}
use Rattle.map_text.specs.declared.rows.Rows.{Rows}
use Rattle.map_text.specs.declared.stopped.Stopped.{Stopped}
use Rattle.map_text.specs.declared.stopped.Stopped.TheVariants.{WriteFault, NoMemory}

-- the bytes of rows, one after the other
abbrev pub joined : List (List ℕ) → List ℕ
joined rows = flat_map (λ row. row) rows

-- What was taken of the rows that are left: of the first a part that isn't the whole row, where the sink failed, and
-- nothing, where there was no memory.
abbrev pub IsBegun : Stopped → List ℕ → List (List ℕ) → Type 0
IsBegun NoMemory part rest = part ≡ []
IsBegun WriteFault part [] = ⊥
IsBegun WriteFault part (row ∷ rest) = (missing : List ℕ) × (row ≡ part ++ missing) × (0 < length missing)

-- The sink has taken some first rows whole, and of the next one what the reason allows, where it tells.
pub record TakesFront (stopped : Stopped) (before after : Option (List ℕ)) (rows : List (List ℕ)) : Type 0 where
  pub front : List (List ℕ)
  pub part : List ℕ
  pub rest : List (List ℕ)
  pub parts : rows ≡ front ++ rest
  pub begun : IsBegun stopped part rest
  pub taken : Appends before after (joined front ++ part)

-- all rows were taken, or a front of them
abbrev pub Takes : {X : Type 0} → Result X Stopped → Option (List ℕ) → Option (List ℕ) → List (List ℕ) → Type 0
Takes (Ok x) before after rows = Appends before after (joined rows)
Takes (Err stopped) before after rows = TakesFront stopped before after rows

-- The count of the sink's faults rose where a write fault is the answer, and is else as before.
pub record CausedByWriteFault {X : Type 0} (result : Result X Stopped) (before after : ℕ) : Type 0 where
  pub done : OnOk result (after ≡ before)
  pub memory : IsErrOf result NoMemory → after ≡ before
  pub fault : IsErrOf result WriteFault → Rose before after

-- rows that go to the same sink, of which the same are asked for
abbrev pub IsSameSink : {K : Type 0} → Rows K → Rows K → Type 0
IsSameSink old new =
    (new.bands ≡ old.bands) × (new.counts ≡ old.counts) × (new.out.ghost_name ≡ old.out.ghost_name)
