-- Scenes: the parts of each class in the order of insertion, and what holds of the whole scene.
use Rattle.std.specs.Prelude.{◌≡◌, ℕ, ◌≤◌, List, [], ◌++◌, length, nat_lt, Option, Result, Ok, Err, if◌then◌else◌}
use Rattle.std.specs.Option.{option_or}
use Rattle.scene_book.specs.Lists.{total, AreApart}
use Rattle.scene_parts.specs.Parts.{Source, Obstacle, Zone, Foliage, Receiver, Globals, Setting, default_globals, globals_with, sides_of}
use Rattle.scene_parts.specs.Answers.{◌>>◌}
use Rattle.scene_parts.specs.declared.parts.Part.{Part}
use Rattle.scene_parts.specs.declared.parts.Part.TheVariants as parts
use Rattle.scene_parts.specs.declared.parts.Class.{Class}
use Rattle.scene_parts.specs.declared.parts.Class.TheVariants as classes
use Rattle.scene_parts.specs.declared.kinds.Shape.{Shape}
use Rattle.scene_parts.specs.declared.kinds.Shape.TheVariants as shapes
use Rattle.scene_book.specs.declared.edits.EditFault.{EditFault}
use Rattle.scene_book.specs.declared.edits.EditFault.TheVariants.{Full}

pub record Book : Type 0 where
  pub sources : List Source
  pub obstacles : List Obstacle
  pub zones : List Zone
  pub foliage : List Foliage
  pub receivers : List Receiver
  pub globals : Globals

-- a scene without parts, in which nothing is set
abbrev pub empty_book : Book
empty_book =
    record { sources = []; obstacles = []; zones = []; foliage = []; receivers = []; globals = default_globals }

-- the sides of barriers and buildings together
abbrev pub side_total : List Obstacle → ℕ
side_total obstacles = total (λ obstacle. length (sides_of obstacle)) obstacles

abbrev pub with_setting : Setting → Book → Book
with_setting setting book = record book { globals = globals_with setting book.globals }

-- ---- how many parts a scene holds, each number named once

abbrev pub most_sources : ℕ
most_sources = 128

-- barriers and buildings together
abbrev pub most_obstacles : ℕ
most_obstacles = 4096

-- their sides together
abbrev pub most_sides : ℕ
most_sides = 16384

abbrev pub most_zones : ℕ
most_zones = 1024

abbrev pub most_foliage : ℕ
most_foliage = 1024

abbrev pub most_receivers : ℕ
most_receivers = 4096

-- ---- slots: one for each list of a scene

-- which list it is, how one is put in its place, what a part there is called, of which class it is and which part it
-- is, how many there may be, and whether a scene keeps that limit
pub record Slot (A : Type 0) : Type 0 where
  pub list_of : Book → List A
  pub with_list : List A → Book → Book
  pub name_of : A → List ℕ
  pub class_of : A → Class
  pub part_of : A → Part
  pub most : ℕ
  pub room : Book → Result (Unit {0}) EditFault

-- Full: more than the limit
abbrev pub at_most : Class → ℕ → ℕ → Result (Unit {0}) EditFault
at_most class limit count = if nat_lt limit count then Err (Full class limit) else Ok tt

-- classes in the order of their numbers
abbrev pub class_number : Class → ℕ
class_number classes.Source = 0
class_number classes.Barrier = 1
class_number classes.Building = 2
class_number classes.Zone = 3
class_number classes.Foliage = 4
class_number classes.Receiver = 5
class_number classes.Obstacle = 6
class_number classes.Side = 7

-- a barrier and a building are of different classes
abbrev pub class_of_shape : Shape → Class
class_of_shape shapes.Barrier = classes.Barrier
class_of_shape shapes.Building = classes.Building

abbrev pub source_slot : Slot Source
source_slot = record {
  list_of = λ book. book.sources;
  with_list = λ sources book. record book { sources = sources };
  name_of = λ s. s.name;
  class_of = λ s. classes.Source;
  part_of = parts.Source;
  most = most_sources;
  room = λ book. at_most classes.Source most_sources (length book.sources);
}

-- barriers and buildings, of which the sides are limited too
abbrev pub obstacle_slot : Slot Obstacle
obstacle_slot = record {
  list_of = λ book. book.obstacles;
  with_list = λ obstacles book. record book { obstacles = obstacles };
  name_of = λ o. o.name;
  class_of = λ o. class_of_shape o.shape;
  part_of = parts.Obstacle;
  most = most_obstacles;
  room = λ book. at_most classes.Obstacle most_obstacles (length book.obstacles)
      >> at_most classes.Side most_sides (side_total book.obstacles);
}

abbrev pub zone_slot : Slot Zone
zone_slot = record {
  list_of = λ book. book.zones;
  with_list = λ zones book. record book { zones = zones };
  name_of = λ z. z.name;
  class_of = λ z. classes.Zone;
  part_of = parts.Zone;
  most = most_zones;
  room = λ book. at_most classes.Zone most_zones (length book.zones);
}

abbrev pub foliage_slot : Slot Foliage
foliage_slot = record {
  list_of = λ book. book.foliage;
  with_list = λ foliage book. record book { foliage = foliage };
  name_of = λ f. f.name;
  class_of = λ f. classes.Foliage;
  part_of = parts.Foliage;
  most = most_foliage;
  room = λ book. at_most classes.Foliage most_foliage (length book.foliage);
}

abbrev pub receiver_slot : Slot Receiver
receiver_slot = record {
  list_of = λ book. book.receivers;
  with_list = λ receivers book. record book { receivers = receivers };
  name_of = λ r. r.name;
  class_of = λ r. classes.Receiver;
  part_of = parts.Receiver;
  most = most_receivers;
  room = λ book. at_most classes.Receiver most_receivers (length book.receivers);
}

-- what the slot of a part says of it
abbrev pub by_slot : {B : Type 0} → ((A : Type 0) → Slot A → A → B) → Part → B
by_slot says (parts.Source source) = says Source source_slot source
by_slot says (parts.Obstacle obstacle) = says Obstacle obstacle_slot obstacle
by_slot says (parts.Zone zone) = says Zone zone_slot zone
by_slot says (parts.Foliage foliage) = says Foliage foliage_slot foliage
by_slot says (parts.Receiver receiver) = says Receiver receiver_slot receiver

-- what all slots find, in the order of classes, and the first of it
abbrev pub of_slots : {B : Type 0} → ((A : Type 0) → Slot A → List B) → List B
of_slots finds =
    finds Source source_slot
    ++ finds Obstacle obstacle_slot
    ++ finds Zone zone_slot
    ++ finds Foliage foliage_slot
    ++ finds Receiver receiver_slot

abbrev pub first_of_slots : {B : Type 0} → ((A : Type 0) → Slot A → Option B) → Option B
first_of_slots finds =
    option_or (finds Source source_slot)
    (option_or (finds Obstacle obstacle_slot)
    (option_or (finds Zone zone_slot)
    (option_or (finds Foliage foliage_slot)
    (finds Receiver receiver_slot))))

-- something that holds of each slot
pub record OfEachSlot (Holds : (A : Type 0) → Slot A → Type 0) : Type 0 where
  pub sources : Holds Source source_slot
  pub obstacles : Holds Obstacle obstacle_slot
  pub zones : Holds Zone zone_slot
  pub foliage : Holds Foliage foliage_slot
  pub receivers : Holds Receiver receiver_slot

-- what every scene keeps: the limits
pub record IsWithin (book : Book) : Type 0 where
  pub lists : OfEachSlot (λ A slot. length (slot.list_of book) ≤ slot.most)
  pub sides : side_total book.obstacles ≤ most_sides

-- and in each list names that are apart: no two parts of it bear one name
abbrev pub NamesAreApart : Book → Type 0
NamesAreApart book = OfEachSlot (λ A slot. AreApart slot.name_of (slot.list_of book))

-- and the count of sides that it keeps
pub record IsKept (sides : ℕ) (book : Book) : Type 0 where
  pub count : sides ≡ side_total book.obstacles
  pub within : IsWithin book
  pub apart : NamesAreApart book
