-- A line that lacks none of some fields has all of them.
use Rattle.std.proofs.Common.{◌≡◌, refl, arith, List, [], ◌∷◌, Some, None}
use Rattle.std.specs.Prelude.{Bool, true, false, not, if◌then◌else◌}
use Rattle.serde_json.specs.Data.{Data}
use Rattle.scene_parts.specs.declared.kinds.Field.{Field}
use Rattle.command_lines.specs.inner.Needed.{is_there, AreThere, first_missing}

more-there : (line : Data) (field : Field) (fields : List Field) (b : Bool) → is_there line field ≡ b → (first_missing line fields ≡ None → AreThere line fields)
    → (if not b then Some field else first_missing line fields) ≡ None → AreThere line (field ∷ fields)
more-there line field fields true is rest e = (is, rest e)
more-there line field fields false is rest e = grind (arith, e)

pub all-there : (line : Data) (fields : List Field) → first_missing line fields ≡ None → AreThere line fields
all-there line [] e = tt
all-there line (field ∷ fields) e = more-there line field fields (is_there line field) refl (all-there line fields) e
