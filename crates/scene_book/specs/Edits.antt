-- The edit of what a line gives.
use Rattle.scene_parts.specs.declared.checks.checked.Checked.{Checked}
use Rattle.scene_parts.specs.declared.checks.checked.Checked.TheVariants as checked
use Rattle.scene_book.specs.declared.edits.Edit.{Edit}
use Rattle.scene_book.specs.declared.edits.Edit.TheVariants as edits

-- a part is put, a grid's receivers are put, a setting is set
abbrev pub edit_of : Checked → Edit
edit_of (checked.Part part) = edits.Put part
edit_of (checked.Grid grid) = edits.Grid grid
edit_of (checked.Set setting) = edits.Set setting
