-- The first noted edit after a version that names a receiver.
use Rattle.std.specs.Prelude.{ℕ, nat_lt, Bool, ◌&&◌, bytes_eq, List, find, Option}
use Rattle.std.specs.List.{list_any}
use Rattle.std.specs.Option.{option_map}
use Rattle.scene_book.specs.Grid.{receivers_of}
use Rattle.map_board.specs.declared.edits.namings.NamedReceivers.{NamedReceivers}
use Rattle.map_board.specs.declared.edits.namings.NamedReceivers.TheVariants as receivers
use Rattle.map_board.specs.declared.edits.namings.Naming.{Naming}

-- one of these receivers has a name
abbrev pub has_name : List ℕ → NamedReceivers → Bool
has_name name (receivers.One other) = bytes_eq other name
has_name name (receivers.Grid grid) = list_any (λ r. bytes_eq r.name name) (receivers_of grid)

-- an entry is of a later version and names the receiver of a name
abbrev pub names_after : ℕ → List ℕ → Naming → Bool
names_after version name naming = nat_lt version naming.version && has_name name naming.receivers

-- the version of the first such entry
abbrev pub first_noted : ℕ → List ℕ → List Naming → Option ℕ
first_noted version name namings = option_map (λ naming. naming.version) (find (names_after version name) namings)
