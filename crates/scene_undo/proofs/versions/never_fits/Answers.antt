use Rattle.std.proofs.Common.{◌≡◌, ◌*◌, true, sym, ap, ◌∙◌, subst}
use Rattle.std.specs.Prelude.{nat_lt, IsErr}
use Rattle.scene_parts.specs.Parts.{Grid}
use Rattle.scene_book.specs.Applying.{apply_of}
use Rattle.scene_book.specs.declared.edits.Edit.{Edit}
use Rattle.scene_undo.proofs.KeptVersions.{large-refused}
use Rattle.scene_undo.proofs.versions.never_fits.Goals as goal

pub returns-in-Grid-clause-refused : goal.returns-in-Grid-clause-refused
returns-in-Grid-clause-refused c h book =
    let grid = c.in-Grid.grid in
    let many : nat_lt 4096 (grid.columns * grid.rows) ≡ true =
    ap (λ (g : Grid). nat_lt 4096 (g.columns * g.rows)) (sym c.grid.view_is)
    ∙ ((λ i. nat_lt (sym c.from-in-Grid-2.ensures i) (sym c.from.ensures i * sym c.from-in-Grid.ensures i)) ∙ h) in
    subst (λ (e : Edit). IsErr (apply_of e book)) (sym c.in-Grid.is) (large-refused grid book many)
