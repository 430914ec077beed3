-- Slots: what holds of each, of a part and of the part of a name. Of the proofs these alone name the classes.
use Rattle.std.proofs.Common.{◌≡◌, ℕ, refl, List}
use Rattle.std.specs.Prelude.{Option, Some, None, option_map}
use Rattle.std.specs.Option.{option_or}
use Rattle.scene_parts.specs.Parts.{Source, Obstacle, Zone, Foliage, Receiver}
use Rattle.scene_parts.specs.declared.parts.Part.{Part}
use Rattle.scene_parts.specs.declared.parts.Part.TheVariants as parts
use Rattle.scene_book.specs.Lists.{named}
use Rattle.scene_book.specs.Book.{Book, Slot, OfEachSlot, source_slot, obstacle_slot, zone_slot, foliage_slot, receiver_slot}
use Rattle.scene_book.specs.Applying.{part_named}

-- what follows of any slot follows of each
pub each_to : {Holds Follows : (A : Type 0) → Slot A → Type 0}
    → ((A : Type 0) (slot : Slot A) → Holds A slot → Follows A slot)
    → OfEachSlot Holds → OfEachSlot Follows
each_to next each = record {
  sources = next Source source_slot each.sources;
  obstacles = next Obstacle obstacle_slot each.obstacles;
  zones = next Zone zone_slot each.zones;
  foliage = next Foliage foliage_slot each.foliage;
  receivers = next Receiver receiver_slot each.receivers;
}

-- what holds of the parts of each slot holds of every part
pub of_part : (Holds : Part → Type 0) → OfEachSlot (λ A slot. (x : A) → Holds (slot.part_of x))
    → (part : Part) → Holds part
of_part Holds each (parts.Source source) = each.sources source
of_part Holds each (parts.Obstacle obstacle) = each.obstacles obstacle
of_part Holds each (parts.Zone zone) = each.zones zone
of_part Holds each (parts.Foliage foliage) = each.foliage foliage
of_part Holds each (parts.Receiver receiver) = each.receivers receiver

first : {A : Type 0} (Holds : Option Part → Type 0) (f : A → Part) (found : Option A) (rest : Option Part)
    → ((x : A) → found ≡ Some x → Holds (Some (f x))) → Holds rest → Holds (option_or (option_map f found) rest)
first Holds f None rest here later = later
first Holds f (Some x) rest here later = here x refl

last : {A : Type 0} (Holds : Option Part → Type 0) (f : A → Part) (found : Option A)
    → ((x : A) → found ≡ Some x → Holds (Some (f x))) → Holds None → Holds (option_map f found)
last Holds f None here none = none
last Holds f (Some x) here none = here x refl

-- what holds of the part of a name in each slot, and of none, holds of the part of the name
pub of_named : (Holds : Option Part → Type 0) (book : Book) (name : List ℕ)
    → OfEachSlot (λ A slot. (x : A) → named slot.name_of name (slot.list_of book) ≡ Some x
    → Holds (Some (slot.part_of x)))
    → Holds None → Holds (part_named book name)
of_named Holds book name each none =
    first Holds parts.Source _ _ each.sources
    (first Holds parts.Obstacle _ _ each.obstacles
    (first Holds parts.Zone _ _ each.zones
    (first Holds parts.Foliage _ _ each.foliage
    (last Holds parts.Receiver _ each.receivers none))))
