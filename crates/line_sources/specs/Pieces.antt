-- The sources that a line is cut into, and the edits that put them.
use Rattle.std.specs.Prelude.{◌≡◌, ℕ, ◌≤◌, IsTrue, ◌+◌, ℤ, ◌+ℤ◌, List, [], ◌∷◌, ◌++◌, length, map, filter, Bool, ◌&&◌, not, nat_lt, ◌==◌, ◌||◌, take, drop, bytes_eq, Option, option_map, Result, Ok, Err, slice_index}
use Rattle.std.specs.Fmt.{decimal}
use Rattle.std.specs.List.{list_all, list_any, range_with_len}
use Rattle.std.specs.Char.{is_ascii_digit}
use Rattle.scene_geom.specs.declared.plan.Side.{Side}
use Rattle.scene_parts.specs.Parts.{Source, point_source, is_power}
use Rattle.scene_parts.specs.Sides.{squared_length}
use Rattle.scene_parts.specs.Answers.{◌>>◌}
use Rattle.scene_parts.specs.declared.parts.Part.TheVariants as parts
use Rattle.scene_book.specs.declared.edits.Edit.{Edit}
use Rattle.scene_book.specs.declared.edits.Edit.TheVariants as edits
use Rattle.scene_book.specs.declared.edits.EditFault.{EditFault}
use Rattle.scene_book.specs.declared.edits.EditFault.TheVariants.{NoSuchName}
use Rattle.scene_book.specs.Book.{Book}
use Rattle.scene_book.specs.Applying.{applied}
use Rattle.command_lines.specs.declared.commands.Command.{Command}
use Rattle.command_lines.specs.declared.commands.Command.TheVariants as commands
use Rattle.command_lines.specs.Views.{LineSource}
use Rattle.line_sources.specs.Legs.{legs_of, count_of, place_of}
use Rattle.line_sources.specs.Gains.{gain_of}

-- ---- the sources

-- the pieces of a leg: how many, and their power in each band
pub record CutLeg : Type 0 where
  pub side : Side
  pub count : ℕ
  pub lw : List (Option ℤ)

-- what every such leg keeps
pub record IsCutLeg (leg : CutLeg) : Type 0 where
  pub some : 1 ≤ leg.count
  pub few : leg.count ≤ 11314
  pub bands : length leg.lw ≡ 8
  pub powers : IsTrue (list_all is_power leg.lw)

-- the levels of a line with a gain
abbrev pub power_with : ℤ → Option ℤ → Option ℤ
power_with gain level = option_map (λ z. z +ℤ gain) level

abbrev pub powers_with : ℤ → List (Option ℤ) → List (Option ℤ)
powers_with gain lw = map (power_with gain) lw

-- a leg cut into so many pieces
abbrev pub cut_into : LineSource → Side → ℕ → CutLeg
cut_into line leg count =
    record { side = leg; count = count; lw = powers_with (gain_of (squared_length leg) count) line.lw }

-- a leg cut into as few pieces as are short enough
abbrev pub cut_of : LineSource → Side → CutLeg
cut_of line leg = cut_into line leg (count_of (squared_length leg) line.piece)

-- a name and a number, with `/` between them
abbrev pub numbered : List ℕ → ℕ → List ℕ
numbered name number = name ++ 47 ∷ [] ++ decimal number

-- the source of a piece of a leg; the number is that of the piece in the whole line
abbrev pub source_at : LineSource → CutLeg → ℕ → ℕ → Source
source_at line cut number i =
    point_source (numbered line.name number) line.kind (place_of cut.side i cut.count) line.h cut.lw line.dc

-- the sources of a leg, numbered on from a number
abbrev pub sources_on : LineSource → CutLeg → ℕ → List Source
sources_on line cut first = map (λ i. source_at line cut (first + i) i) (range_with_len 0 cut.count)

-- the sources of legs
abbrev pub sources_along : LineSource → ℕ → List Side → List Source
sources_along line first [] = []
sources_along line first (leg ∷ legs) =
    sources_on line (cut_of line leg) first ++ sources_along line (first + (cut_of line leg).count) legs

-- the sources of a line, numbered from 0 over all its legs
abbrev pub sources_of : LineSource → List Source
sources_of line = sources_along line 0 (legs_of line.points)

-- ---- pieces in a scene

-- a number as it is printed: `0`, or digits of which the first isn't `0`
abbrev pub is_numeral : List ℕ → Bool
is_numeral digits =
    nat_lt 0 (length digits) && list_all is_ascii_digit digits
    && (nat_lt 48 (slice_index digits 0) || (length digits == 1))

-- the name of a piece: the line's name, `/` and a number
abbrev pub is_piece : List ℕ → List ℕ → Bool
is_piece name text =
    nat_lt (length name) (length text) && bytes_eq (take (length name) text) name
    && (slice_index text (length name) == 47)
    && is_numeral (drop (length name + 1) text)

-- one of these sources has this name
abbrev pub is_put : List Source → List ℕ → Bool
is_put news name = list_any (λ new. bytes_eq name new.name) news

-- the names of the pieces of a line that are in a list of sources and not among its new ones
abbrev pub beyond : List ℕ → List Source → List Source → List (List ℕ)
beyond name news sources =
    filter (λ text. is_piece name text && not (is_put news text)) (map (λ source. source.name) sources)

-- ---- edits

abbrev pub puts : List Source → List Edit
puts sources = map (λ source. edits.Put (parts.Source source)) sources

abbrev pub removes : List (List ℕ) → List Edit
removes names = map edits.Remove names

-- no edit of the list is refused
abbrev pub all_accepted : List Edit → Book → Result (Unit {0}) EditFault
all_accepted list book = applied list book >> Ok tt

-- edits that are accepted one after the other, or the first fault
abbrev pub accepted : List Edit → Book → Result (List Edit) EditFault
accepted list book = applied list book >> Ok list

-- the puts of the new pieces, and then the removes of the others
abbrev pub edits_with : List ℕ → Book → List Source → List Edit
edits_with name book news = puts news ++ removes (beyond name news book.sources)

-- the edits of a line, or the first fault
unfoldable pub line_edits_of : LineSource → Book → Result (List Edit) EditFault
line_edits_of line book = accepted (edits_with line.name book (sources_of line)) book

-- the edits that take out all pieces of a line, or that there are none
abbrev pub removes_or_none : List ℕ → List (List ℕ) → Result (List Edit) EditFault
removes_or_none name [] = Err (NoSuchName name)
removes_or_none name (first ∷ rest) = Ok (removes (first ∷ rest))

abbrev pub unline_edits_of : List ℕ → Book → Result (List Edit) EditFault
unline_edits_of name book = removes_or_none name (beyond name [] book.sources)

-- the edits of a command that makes edits together, or the first fault; any other makes none here
abbrev pub batch_edits_of : Command → Book → Result (List Edit) EditFault
batch_edits_of (commands.Line line) book = line_edits_of line book
batch_edits_of (commands.Unline name) book = unline_edits_of name book
batch_edits_of other book = Ok []
