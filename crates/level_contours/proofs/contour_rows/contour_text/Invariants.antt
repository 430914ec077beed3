-- The text of the rows so far.
use Rattle.std.proofs.Common.{◌≡◌, take}
use Rattle.level_contours.specs.Texts.{text_of}
use Rattle.level_contours.proofs.contour_rows.contour_text.Given as goal

abbrev pub invariant-loop-row : goal.invariant-loop-row
invariant-loop-row l = l.text.items ≡ text_of (take l.row-index l.row-items)
