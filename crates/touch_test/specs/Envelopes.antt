-- Boxes in plan round the ways along which the paths of a receiver read obstacles, zones and foliage: what lies beyond
-- an edge of the box touches none of the paths by crossing them.
use Rattle.std.specs.Prelude.{◌≡◌, ◌≤ℤ◌, int_lt, Bool, true, false, not, ◌||◌, ◌==◌, ℕ, List, map, slice_set, All, Option}
use Rattle.std.specs.List.{list_any, list_all}
use Rattle.std.specs.Ordering.{int_eq}
use Rattle.scene_geom.specs.declared.plan.Pt.{Pt}
use Rattle.scene_geom.specs.declared.fractions.fraction.Frac.{Frac}
use Rattle.scene_geom.specs.declared.directions.direction.Dir.{Dir}
use Rattle.scene_geom.specs.Fraction.{rest_of}
use Rattle.scene_geom.specs.Direction.{direct}
use Rattle.scene_geom.specs.Reflection.{unfolded}
use Rattle.scene_parts.specs.Parts.{Receiver}
use Rattle.scene_parts.specs.declared.parts.Part.{Part}
use Rattle.scene_parts.specs.declared.parts.Part.TheVariants as parts
use Rattle.scene_book.specs.declared.edits.Edit.{Edit}
use Rattle.part_grid.specs.Laws.{LiesBetween}
use Rattle.path_shape.specs.Outlines.{whole}
use Rattle.path_calc.specs.Bundles.{Bundle}
use Rattle.path_calc.specs.declared.bundles.segments.Seg.{Seg}
use Rattle.path_calc.specs.declared.bundles.segments.Seg.TheVariants.{Straight, Legs}
use Rattle.touch_test.specs.declared.envelopes.Envelope.{Envelope}
use Rattle.touch_test.specs.Touches.{bundled, changed_parts, edit_touches, is_set, puts_by_grid}
use Rattle.touch_test.specs.Touches.{is_receiver, outline_of}

-- ---- what a box holds

-- the way from a point along a direction up to an end, in units of the direction
pub record HoldsWay (e : Envelope) (from : Pt) (dir : Dir) (end : Frac) : Type 0 where
  pub x : LiesBetween e.west e.east from.x dir.x dir.w end
  pub y : LiesBetween e.south e.north from.y dir.y dir.w end

-- a plan segment, or both legs of one
abbrev pub HoldsSegment : Envelope → Seg → Type 0
HoldsSegment e (Straight p q) = HoldsWay e p (direct p q) whole
HoldsSegment e (Legs wall s r) =
    let path = unfolded wall s r in HoldsWay e s path.first path.p × HoldsWay e r path.second (rest_of path.p)

-- a path to the receiver: its direct line, and the segments of its trace
pub record HoldsPath (e : Envelope) (bundle : Bundle) : Type 0 where
  pub line : HoldsWay e bundle.at (direct bundle.at e.to) whole
  pub trace : All (HoldsSegment e) bundle.segs

abbrev pub HoldsPaths : Envelope → List Bundle → Type 0
HoldsPaths e bundles = All (HoldsPath e) bundles

-- a box that was widened: it is of the same receiver, and holds what the other holds
pub record IsWider (e f : Envelope) : Type 0 where
  pub to : f.to ≡ e.to
  pub west : f.west ≤ℤ e.west
  pub south : f.south ≤ℤ e.south
  pub east : e.east ≤ℤ f.east
  pub north : e.north ≤ℤ f.north

-- ---- what lies beyond

-- all corners lie to the west of the box, or all to the east
abbrev pub lies_aside : Envelope → List Pt → Bool
lies_aside e corners = list_all (λ c. int_lt c.x e.west) corners || list_all (λ c. int_lt e.east c.x) corners

-- all to the south, or all to the north
abbrev pub lies_ahead : Envelope → List Pt → Bool
lies_ahead e corners = list_all (λ c. int_lt c.y e.south) corners || list_all (λ c. int_lt e.north c.y) corners

-- all corners lie beyond the same edge of the box
abbrev pub lies_beyond : Envelope → List Pt → Bool
lies_beyond e corners = lies_aside e corners || lies_ahead e corners

-- ---- edits

-- A part may touch a path in the box: a source, the receiver itself, an obstacle that reflects or isn't beyond an edge,
-- a part whose outline isn't
abbrev pub part_may_touch : Envelope → List ℕ → Part → Bool
part_may_touch e name (parts.Source source) = true
part_may_touch e name (parts.Obstacle o) = not (o.rho == 0) || not (lies_beyond e o.points)
part_may_touch e name (parts.Receiver receiver) = is_receiver name (parts.Receiver receiver)
part_may_touch e name part = not (lies_beyond e (outline_of part))

-- an edit with its old part may touch a path in the box to the receiver of a name
abbrev pub edit_may_reach : Envelope → List ℕ → Edit → Option Part → Bool
edit_may_reach e name edit old =
    is_set edit || puts_by_grid name edit || list_any (part_may_touch e name) (changed_parts edit old)

-- the box isn't of this receiver, but of one at another place
abbrev pub is_elsewhere : Envelope → Receiver → Bool
is_elsewhere e r = not (int_eq e.to.x r.at.x) || not (int_eq e.to.y r.at.y)

-- an edit with its old part may touch one of the paths to a receiver, as far as the box tells
abbrev pub edit_may_touch : Envelope → Receiver → Edit → Option Part → Bool
edit_may_touch e r edit old = is_elsewhere e r || edit_may_reach e r.name edit old

-- a box tells of edits that don't touch some paths: what may touch none by the box touches none
abbrev pub TellsOf : Envelope → List Bundle → Type 0
TellsOf e bundles = (r : Receiver) (edit : Edit) (old : Option Part) → edit_may_touch e r edit old ≡ false
    → list_any (edit_touches edit old) (map (bundled r) bundles) ≡ false

-- so does a box that holds the paths
abbrev pub FarEditsTouchNoPath : Type 0
FarEditsTouchNoPath = (e : Envelope) (bundles : List Bundle) → HoldsPaths e bundles → TellsOf e bundles

-- a box tells of a path in the place of any of those of which another box tells
abbrev pub TellsInPlace : Envelope → Envelope → Bundle → Type 0
TellsInPlace e f bundle = (told : List Bundle) (place : ℕ) → TellsOf e told → TellsOf f (slice_set told place bundle)

-- so does a wider one that holds that path
abbrev pub WiderBoxesTell : Type 0
WiderBoxesTell = (e f : Envelope) (bundle : Bundle) → IsWider e f → HoldsPath f bundle → TellsInPlace e f bundle

-- ---- between code and definitions

-- a point lies in the box
pub record HoldsPoint (e : Envelope) (p : Pt) : Type 0 where
  pub x : (e.west ≤ℤ p.x) × (p.x ≤ℤ e.east)
  pub y : (e.south ≤ℤ p.y) × (p.y ≤ℤ e.north)
