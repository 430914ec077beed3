-- What lines write, where their settles and looks were answered by these looks at the board.
use Rattle.std.specs.Prelude.{ℕ, ◌+◌, List, [], ◌∷◌, ◌++◌, length, map, slice_get, Option, Some, None}
use Rattle.command_words.specs.declared.line.CommandLine.{CommandLine}
use Rattle.command_lines.specs.Views.{Contour}
use Rattle.map_board.specs.declared.looks.LookAll.{LookAll}
use Rattle.cell_loops.specs.declared.corners.Corner.{Corner}
use Rattle.cell_loops.specs.declared.kinds.Family.{Family}
use Rattle.cell_loops.specs.declared.kinds.Family.TheVariants.{Inner, Outer}
use Rattle.cell_loops.specs.Plane.{plane_of}
use Rattle.cell_loops.specs.Boundary.{loops_of, points_of}
use Rattle.level_contours.specs.Looking.{cells_of}
use Rattle.level_contours.specs.Texts.{contour_rows}
use Rattle.map_text.specs.declared.heads.Head.TheVariants.{Settle, Look}
use Rattle.map_text.specs.Rows.{refused_row}
use Rattle.map_text.specs.Looks.{look_rows, counts_rows}
use Rattle.noise_map.specs.declared.lines.answer.Answer.{Answer}
use Rattle.noise_map.specs.declared.lines.answer.Answer.TheVariants.{Nothing, Refused, Settled, Looked, Contoured}
use Rattle.noise_map.specs.Effects.{Display, silent, refused, settled, known, contoured, Point, at_start, effect_at, passed_line}

-- ---- answers

abbrev pub settled_by : Option LookAll → Answer
settled_by None = Nothing
settled_by (Some look) = Settled look

abbrev pub looked_by : Option LookAll → Answer
looked_by None = Nothing
looked_by (Some look) = Looked look

abbrev pub contoured_by : Contour → Option LookAll → Answer
contoured_by contour None = Nothing
contoured_by contour (Some look) = Contoured contour look

-- what is shown of a line, with its look where it asks for one
abbrev pub answer_to : Display → Option LookAll → Answer
answer_to silent look = Nothing
answer_to (refused fault) look = Refused fault
answer_to settled look = settled_by look
answer_to known look = looked_by look
answer_to (contoured contour) look = contoured_by contour look

-- ---- rows

-- the loops of a family round the cells that a look shows, each by the corners at which it turns
abbrev pub loops_in : Contour → LookAll → Family → List (List Corner)
loops_in contour look family =
    let plane = plane_of contour.columns contour.rows (cells_of look contour) family in
    map (points_of plane) (loops_of plane)

-- the rows of contours: those of their loops
abbrev pub contour_rows_in : Contour → LookAll → List (List ℕ)
contour_rows_in contour look =
    contour_rows look.version contour (loops_in contour look Inner) (loops_in contour look Outer)

-- the rows of the line of this number, before which the version is this
abbrev pub rows_of : CommandLine → ℕ → ℕ → Answer → List (List ℕ)
rows_of words number version Nothing = []
rows_of words number version (Refused fault) = refused_row version number fault ∷ []
rows_of words number version (Settled look) = look_rows Settle words.bands look ++ counts_rows words.counts look
rows_of words number version (Looked look) = look_rows Look words.bands look
rows_of words number version (Contoured contour look) = contour_rows_in contour look

-- ---- lines

-- the rows of a line behind others: where it asks for a look, that is the next one
unfoldable pub line_rows : CommandLine → List LookAll → Point → List ℕ → List (List ℕ)
line_rows words looks point line =
    let answer = answer_to (effect_at point line).display (slice_get looks point.asked) in
    rows_of words (point.count + 1) (length point.past.journal) answer

-- those of lines behind others
abbrev pub text_from : CommandLine → List LookAll → Point → List (List ℕ) → List (List ℕ)
text_from words looks point [] = []
text_from words looks point (line ∷ more) =
    line_rows words looks point line ++ text_from words looks (passed_line point line) more

-- the text of all lines of a run: its rows, in their order
abbrev pub text_of : CommandLine → List LookAll → List (List ℕ) → List (List ℕ)
text_of words looks done = text_from words looks at_start done
