-- That levels don't depend on the order in which the parts of a scene stand.
use Rattle.std.specs.Prelude.{◌≡◌, ℕ, List, map}
use Rattle.scene_parts.specs.Parts.{Receiver}
use Rattle.scene_book.specs.Book.{Book}
use Rattle.scene_book.specs.Orders.{Shuffled, SameParts}
use Rattle.scene_undo.specs.Scenes.{IsScene}
use Rattle.path_calc.specs.Levels.{Levels}
use Rattle.path_calc.specs.Show.{show_of}

-- scenes of the same parts show each receiver with the same levels, to the last unit
abbrev pub OrderLaw : Type 0
OrderLaw = (a b : Book) (r : Receiver) → IsScene a → SameParts a b → show_of a r ≡ show_of b r

-- the name of a receiver with the levels that it has in a scene
abbrev pub shown : Book → Receiver → List ℕ × Levels
shown book r = (r.name, show_of book r)

-- they show the same receivers, each as often, with the same levels
abbrev pub ShownLaw : Type 0
ShownLaw = (a b : Book) → IsScene a → SameParts a b → Shuffled (map (shown a) a.receivers) (map (shown b) b.receivers)
