-- What an edit leaves that doesn't touch a path or a receiver.
use Rattle.std.specs.Prelude.{◌≡◌, false, List, [], ◌∷◌, Contains, Option, Ok, map}
use Rattle.scene_parts.specs.Parts.{Source, Receiver}
use Rattle.scene_parts.specs.declared.parts.Part.{Part}
use Rattle.scene_book.specs.Book.{Book}
use Rattle.scene_book.specs.Applying.{apply_of}
use Rattle.scene_book.specs.declared.edits.Edit.{Edit}
use Rattle.path_calc.specs.Trace.{trace_of}
use Rattle.path_calc.specs.Bundles.{bundle_of}
use Rattle.path_calc.specs.Show.{sources_within, show_of}
use Rattle.touch_test.specs.Touches.{touches_path, touches_receiver}

-- a source is within reach of a receiver in both scenes, with the same trace and the same energies
pub record PathStays (a b : Book) (s : Source) (r : Receiver) : Type 0 where
  pub within : Contains (sources_within b r) s
  pub trace : trace_of a s r ≡ trace_of b s r
  pub bundle : bundle_of a s r ≡ bundle_of b s r

-- so it is where an accepted edit doesn't touch the path
abbrev pub UntouchedPathsStay : Type 0
UntouchedPathsStay = (edit : Edit) (a b : Book) (old : Option Part) (s : Source) (r : Receiver)
    → apply_of edit a ≡ Ok (b, old) → Contains (sources_within a r) s → touches_path edit a r s ≡ false
    → PathStays a b s r

-- a receiver has the same sources within reach in both scenes, in the same order, each with the same trace, and the
-- same levels are shown of it
pub record ReceiverStays (a b : Book) (r : Receiver) : Type 0 where
  pub sources : sources_within a r ≡ sources_within b r
  pub traces : map (λ s. trace_of a s r) (sources_within a r) ≡ map (λ s. trace_of b s r) (sources_within b r)
  pub shown : show_of a r ≡ show_of b r

abbrev pub UntouchedReceiversStay : Type 0
UntouchedReceiversStay = (edit : Edit) (a b : Book) (old : Option Part) (r : Receiver)
    → apply_of edit a ≡ Ok (b, old) → touches_receiver edit a r ≡ false → ReceiverStays a b r

-- Edits in a row, each accepted by the scene that the earlier ones left, and each such that this holds of it and that
-- scene
abbrev pub AcceptedInTurn : (Edit → Book → Type 0) → List Edit → Book → Book → Type 0
AcceptedInTurn Holds [] a b = a ≡ b
AcceptedInTurn Holds (edit ∷ edits) a b =
    (next : Book) × ((old : Option Part) × (apply_of edit a ≡ Ok (next, old)))
    × Holds edit a × AcceptedInTurn Holds edits next b

abbrev pub UntouchedPathsStayInTurn : Type 0
UntouchedPathsStayInTurn = (edits : List Edit) (a b : Book) (s : Source) (r : Receiver)
    → AcceptedInTurn (λ edit book. touches_path edit book r s ≡ false) edits a b → Contains (sources_within a r) s
    → PathStays a b s r

abbrev pub UntouchedReceiversStayInTurn : Type 0
UntouchedReceiversStayInTurn = (edits : List Edit) (a b : Book) (r : Receiver)
    → AcceptedInTurn (λ edit book. touches_receiver edit book r ≡ false) edits a b → ReceiverStays a b r
