-- When an edit touches the path from a source to a receiver, and when it touches a receiver.
use Rattle.std.specs.Prelude.{ℕ, Bool, true, false, ◌||◌, bytes_eq, List, [], ◌++◌, map, Option, Some, None}
use Rattle.std.specs.List.{list_any}
use Rattle.std.specs.Option.{option_to_list}
use Rattle.scene_geom.specs.declared.plan.Pt.{Pt}
use Rattle.scene_geom.specs.declared.plan.Side.{Side}
use Rattle.scene_parts.specs.Parts.{Source, Receiver, Obstacle, Globals, sides_of}
use Rattle.scene_parts.specs.declared.parts.Part.{Part}
use Rattle.scene_parts.specs.declared.parts.Part.TheVariants as parts
use Rattle.scene_book.specs.Book.{Book}
use Rattle.scene_book.specs.Grid.{receivers_of}
use Rattle.scene_book.specs.Applying.{replaced, part_named}
use Rattle.scene_book.specs.declared.edits.Edit.{Edit}
use Rattle.scene_book.specs.declared.edits.Edit.TheVariants as edits
use Rattle.scene_parts.specs.declared.screening.ends.Ends.{Ends}
use Rattle.image_source.specs.Mirrors.{has_mirror}
use Rattle.path_calc.specs.Lengths.{is_within}
use Rattle.path_calc.specs.declared.bundles.segments.Seg.{Seg}
use Rattle.path_calc.specs.Surroundings.{ends_of}
use Rattle.path_calc.specs.Trace.{trace_of}
use Rattle.path_calc.specs.Bundles.{Bundle}
use Rattle.path_calc.specs.Show.{sources_within}
use Rattle.touch_test.specs.Crossings.{crosses_segment, meets_leg, meets_line}

-- a path as edits are tested on it: the names of its source and its receiver, its ends and its trace
pub record TracedPath : Type 0 where
  pub source : List ℕ
  pub receiver : List ℕ
  pub ends : Ends
  pub trace : List Seg

-- that of a source and a receiver in a scene
abbrev pub traced : Book → Receiver → Source → TracedPath
traced book r s =
    record { source = s.name; receiver = r.name; ends = ends_of s r; trace = trace_of book s r }

-- that of a bundle and its receiver
abbrev pub bundled : Receiver → Bundle → TracedPath
bundled r bundle = record {
  source = bundle.source;
  receiver = r.name;
  ends = record { s = bundle.at; hs = bundle.h; r = r.at; hr = r.h };
  trace = bundle.segs;
}

-- ---- parts

-- a side of an obstacle crosses a segment of a trace, or mirrors the source to the receiver
abbrev pub side_touches : Ends → List Seg → Obstacle → Side → Bool
side_touches ends trace o side = list_any (crosses_segment side) trace || has_mirror o side ends

abbrev pub obstacle_touches : Ends → List Seg → Obstacle → Bool
obstacle_touches ends trace o = list_any (side_touches ends trace o) (sides_of o)

-- an outline meets the direct line or a leg of a trace
abbrev pub outline_touches : Ends → List Seg → List Pt → Bool
outline_touches ends trace outline = meets_line outline ends.s ends.r || list_any (meets_leg outline) trace

-- the outline of a part that touches by its outline alone
abbrev pub outline_of : Part → List Pt
outline_of (parts.Zone zone) = zone.points
outline_of (parts.Foliage foliage) = foliage.points
outline_of part = []

-- To put or remove a part touches a path where the part is the path's source or receiver, an obstacle that crosses a
-- segment of its trace or mirrors its source to its receiver, or where its direct line or a leg leads over the outline
-- of the part
abbrev pub part_touches : TracedPath → Part → Bool
part_touches path (parts.Source source) = bytes_eq source.name path.source
part_touches path (parts.Obstacle o) = obstacle_touches path.ends path.trace o
part_touches path (parts.Receiver receiver) = bytes_eq receiver.name path.receiver
part_touches path part = outline_touches path.ends path.trace (outline_of part)

-- ---- edits

-- the old part of an edit: the one that a put replaces or a removal takes out
abbrev pub old_part : Edit → Book → Option Part
old_part (edits.Put part) book = replaced part book
old_part (edits.Remove name) book = part_named book name
old_part (edits.Grid grid) book = None
old_part (edits.Set setting) book = None

-- its new part: the one that a put brings
abbrev pub new_part : Edit → Option Part
new_part (edits.Put part) = Some part
new_part edit = None

-- the parts that an edit puts and removes, beside the receivers of a grid
abbrev pub changed_parts : Edit → Option Part → List Part
changed_parts edit old = option_to_list (new_part edit) ++ option_to_list old

-- an edit sets globals, or puts the receiver of a name by a grid
abbrev pub is_set : Edit → Bool
is_set (edits.Set setting) = true
is_set edit = false

abbrev pub puts_by_grid : List ℕ → Edit → Bool
puts_by_grid name (edits.Grid grid) = list_any (λ receiver. bytes_eq receiver.name name) (receivers_of grid)
puts_by_grid name edit = false

-- an edit with its old part touches a path
abbrev pub edit_touches : Edit → Option Part → TracedPath → Bool
edit_touches edit old path =
    is_set edit || puts_by_grid path.receiver edit || list_any (part_touches path) (changed_parts edit old)

-- an edit touches the path from a source to a receiver of the scene before it
abbrev pub touches_path : Edit → Book → Receiver → Source → Bool
touches_path edit book r s = edit_touches edit (old_part edit book) (traced book r s)

-- ---- receivers

-- a part is the receiver of a name, or a source within reach of a receiver
abbrev pub is_receiver : List ℕ → Part → Bool
is_receiver name (parts.Receiver receiver) = bytes_eq receiver.name name
is_receiver name part = false

abbrev pub is_source_within : ℕ → Receiver → Part → Bool
is_source_within reach r (parts.Source source) = is_within reach source.at r.at
is_source_within reach r part = false

-- an edit with its old part puts or removes the receiver of a name, alone or by a grid
abbrev pub names_receiver : List ℕ → Edit → Option Part → Bool
names_receiver name edit old = puts_by_grid name edit || list_any (is_receiver name) (changed_parts edit old)

-- An edit touches a receiver that has these paths: it sets globals, puts or removes this receiver or a source whose old
-- or new place is within reach, or touches one of the paths
abbrev pub edit_touches_any : Edit → Option Part → Globals → Receiver → List TracedPath → Bool
edit_touches_any edit old globals r paths =
    is_set edit
    || names_receiver r.name edit old
    || list_any (is_source_within globals.reach r) (changed_parts edit old)
    || list_any (edit_touches edit old) paths

-- an edit touches a receiver of the scene before it
abbrev pub touches_receiver : Edit → Book → Receiver → Bool
touches_receiver edit book r =
    edit_touches_any edit (old_part edit book) book.globals r (map (traced book r) (sources_within book r))
