-- When an edit is accepted, and what it leaves.
use Rattle.std.proofs.Common.{◌≡◌, ℕ, ◌≤◌, ◌*◌, refl, ap, arith, Bool, true, false, List, length}
use Rattle.std.specs.Prelude.{Option, Some, None, Result, Ok, Err, nat_lt, if◌then◌else◌}
use Rattle.scene_parts.specs.Parts.{Receiver, Grid, Setting, globals_with}
use Rattle.scene_parts.specs.Answers.{◌>>◌}
use Rattle.scene_parts.specs.declared.parts.Part.{Part}
use Rattle.scene_parts.specs.declared.parts.Part.TheVariants as parts
use Rattle.scene_parts.specs.declared.parts.Class.{Class}
use Rattle.scene_parts.specs.declared.parts.Class.TheVariants as classes
use Rattle.scene_book.specs.declared.edits.Edit.TheVariants as edits
use Rattle.scene_book.specs.declared.edits.EditFault.{EditFault}
use Rattle.scene_book.specs.declared.edits.EditFault.TheVariants.{Full}
use Rattle.scene_book.specs.Book.{most_obstacles, most_sides, most_receivers, Book, IsWithin, at_most, side_total}
use Rattle.scene_book.specs.Lists.{put_all}
use Rattle.scene_book.specs.Grid.{receivers_of}
use Rattle.scene_book.specs.Applying.{apply_of, put_of, put_where_room, remove_of, grid_of, own_class, holder, in_limits, all_own, taken, part_named, name_of, class_of, with_part, without, with_receivers, replaced}
use Rattle.scene_undo.proofs.Spaces.{Kin, kin-from, kin-owns, fine}

-- ---- answers in a row

pub then-ok : {X : Type 0} (r : Result (Unit {0}) EditFault) (next : Result X EditFault) (x : X) → (r >> next) ≡ Ok x
    → (r ≡ fine) × (next ≡ Ok x)
then-ok (Ok done) next x e = (refl, e)
then-ok (Err fault) next x e = cc

-- a scene and an old part as an answer
abbrev pub left : Book → Option Part → Result (Book × Option Part) EditFault
left book old = Ok (book, old)

pub left-book : (a b : Book) (old other : Option Part) → left a old ≡ left b other → a ≡ b
left-book a b old other e =
    let one : Book × Option Part = (a, old) in
    let two : Book × Option Part = (b, other) in
    let same : one ≡ two = cc in
    ap (λ (x : Book × Option Part). x.0) same

pub at_most-ok : (class : Class) (limit count : ℕ) → at_most class limit count ≡ fine → count ≤ limit
at_most-ok class limit count e = by (nat_lt limit count) refl e
  where
    by : (test : Bool) → nat_lt limit count ≡ test → (if test then Err (Full class limit) else fine) ≡ fine → count ≤ limit
    by true h e = cc
    by false h e = grind arith

pub at_most-fits : (class : Class) (limit count : ℕ) → count ≤ limit → at_most class limit count ≡ fine
at_most-fits class limit count few = by (nat_lt limit count) refl
  where
    by : (test : Bool) → nat_lt limit count ≡ test → (if test then Err (Full class limit) else fine) ≡ fine
    by true h = absurd (grind arith)
    by false h = refl

-- ---- accepted edits

pub record IsPut (part : Part) (a b : Book) : Type 0 where
  pub kin : Kin part (part_named a (name_of part))
  pub room : in_limits part (with_part part a) ≡ fine
  pub made : with_part part a ≡ b

pub put-accepted : (part : Part) (a b : Book) (old : Option Part) → apply_of (edits.Put part) a ≡ Ok (b, old) → IsPut part a b
unfolding apply_of put_of put_where_room
put-accepted part a b old e =
    let owned = then-ok (own_class (name_of part) (class_of part) (holder a (name_of part)))
    (in_limits part (with_part part a) >> left (with_part part a) (replaced part a)) (b, old) e in
    let room = then-ok (in_limits part (with_part part a)) (left (with_part part a) (replaced part a)) (b, old) owned.1 in
    record {
      kin = kin-from (name_of part) part (part_named a (name_of part)) owned.0;
      room = room.0;
      made = left-book (with_part part a) b (replaced part a) old room.1;
    }

pub put-accepts : (part : Part) (a : Book) → Kin part (part_named a (name_of part)) → in_limits part (with_part part a) ≡ fine
    → apply_of (edits.Put part) a ≡ left (with_part part a) (replaced part a)
unfolding apply_of put_of put_where_room
put-accepts part a kin room = rw (kin-owns (name_of part) part (part_named a (name_of part)) kin, room) refl

pub record IsRemoved (name : List ℕ) (a b : Book) : Type 0 where
  pub part : Part
  pub found : part_named a name ≡ Some part
  pub made : without name part a ≡ b

pub remove-accepted : (name : List ℕ) (a b : Book) (old : Option Part) → apply_of (edits.Remove name) a ≡ Ok (b, old) → IsRemoved name a b
unfolding apply_of remove_of
remove-accepted name a b old e = by (part_named a name) refl e
  where
    by : (found : Option Part) → part_named a name ≡ found → taken name found a ≡ left b old → IsRemoved name a b
    by None is e = cc
    by (Some part) is e = record { part = part; found = is; made = left-book (without name part a) b (Some part) old e }

pub remove-accepts : (name : List ℕ) (part : Part) (a : Book) → part_named a name ≡ Some part
    → apply_of (edits.Remove name) a ≡ left (without name part a) (Some part)
unfolding apply_of remove_of
remove-accepts name part a found = rw found refl

-- a scene with receivers put one after another
abbrev pub puts_in : List Receiver → Book → Book
puts_in news a = with_receivers a (put_all (λ r. r.name) news a.receivers)

pub record IsGridPut (grid : Grid) (a b : Book) : Type 0 where
  pub own : all_own a (receivers_of grid) ≡ fine
  pub room : length (puts_in (receivers_of grid) a).receivers ≤ most_receivers
  pub made : puts_in (receivers_of grid) a ≡ b

pub grid-accepted : (grid : Grid) (a b : Book) (old : Option Part) → apply_of (edits.Grid grid) a ≡ Ok (b, old) → IsGridPut grid a b
unfolding apply_of grid_of
grid-accepted grid a b old e =
    let after = puts_in (receivers_of grid) a in
    let full = at_most classes.Receiver most_receivers (length after.receivers) in
    let counted = then-ok (at_most classes.Receiver most_receivers (grid.columns * grid.rows))
    (all_own a (receivers_of grid) >> (full >> left after None)) (b, old) e in
    let owned = then-ok (all_own a (receivers_of grid)) (full >> left after None) (b, old) counted.1 in
    let room = then-ok full (left after None) (b, old) owned.1 in
    record {
      own = owned.0;
      room = at_most-ok classes.Receiver most_receivers (length after.receivers) room.0;
      made = left-book after b None old room.1;
    }

pub set-accepted : (setting : Setting) (a b : Book) (old : Option Part) → apply_of (edits.Set setting) a ≡ Ok (b, old)
    → record a { globals = globals_with setting a.globals } ≡ b
unfolding apply_of
set-accepted setting a b old e = left-book (record a { globals = globals_with setting a.globals }) b None old e

pub set-accepts : (setting : Setting) (a : Book)
    → apply_of (edits.Set setting) a ≡ left (record a { globals = globals_with setting a.globals }) None
unfolding apply_of
set-accepts setting a = refl

-- ---- room

-- a scene within the limits has room for each part of it
pub within-fits : (part : Part) (book : Book) → IsWithin book → in_limits part book ≡ fine
within-fits (parts.Obstacle o) book within =
    rw (at_most-fits classes.Obstacle most_obstacles (length book.obstacles) within.lists.obstacles)
    (at_most-fits classes.Side most_sides (side_total book.obstacles) within.sides)
within-fits part book within = search at_most-fits

pub put-within : (part : Part) (a : Book) → IsWithin a → in_limits part (with_part part a) ≡ fine → IsWithin (with_part part a)
put-within (parts.Obstacle o) a h room =
    let after = (with_part (parts.Obstacle o) a).obstacles in
    let both = then-ok (at_most classes.Obstacle most_obstacles (length after)) (at_most classes.Side most_sides (side_total after)) tt room in
    omega (arith, h, at_most-ok classes.Obstacle most_obstacles _ both.0, at_most-ok classes.Side most_sides _ both.1)
put-within part a h room = omega (arith, h, at_most-ok _ _ _ room)
