-- Edits that leave sources, or obstacles, as they are.
use Rattle.std.specs.Prelude.{◌≡◌, Bool, true, false, map, Option, Ok}
use Rattle.scene_parts.specs.declared.parts.Part.{Part}
use Rattle.scene_parts.specs.declared.parts.Part.TheVariants as parts
use Rattle.scene_book.specs.Book.{Book}
use Rattle.scene_book.specs.Applying.{apply_of}
use Rattle.scene_book.specs.declared.edits.Edit.{Edit}
use Rattle.scene_book.specs.declared.edits.Edit.TheVariants as edits

-- an edit that a scene accepts leaves its sources as they are
abbrev pub LeavesSources : Edit → Book → Type 0
LeavesSources edit book =
    (after : Book) (old : Option Part) → apply_of edit book ≡ Ok (after, old) → after.sources ≡ book.sources

-- an edit with its old part leaves the names of the sources as they are, and their order, in every scene that accepts
-- it
abbrev pub LeavesSourceNames : Edit → Option Part → Type 0
LeavesSourceNames edit old =
    (book after : Book) → apply_of edit book ≡ Ok (after, old)
    → map (λ s. s.name) after.sources ≡ map (λ s. s.name) book.sources

abbrev pub is_source : Part → Bool
is_source (parts.Source source) = true
is_source part = false

-- an edit that a scene accepts leaves its obstacles as they are
abbrev pub LeavesObstacles : Edit → Book → Type 0
LeavesObstacles edit book =
    (after : Book) (old : Option Part) → apply_of edit book ≡ Ok (after, old) → after.obstacles ≡ book.obstacles

abbrev pub is_obstacle : Part → Bool
is_obstacle (parts.Obstacle obstacle) = true
is_obstacle part = false

-- an edit that puts receivers
abbrev pub puts_any_receiver : Edit → Bool
puts_any_receiver (edits.Put (parts.Receiver receiver)) = true
puts_any_receiver (edits.Grid grid) = true
puts_any_receiver edit = false
