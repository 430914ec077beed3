-- Edits that leave the obstacles of a scene as they are.
use Rattle.std.proofs.Common.{◌≡◌, ℕ, false, List, refl, sym, ap, ◌∙◌}
use Rattle.std.specs.Prelude.{bytes_eq}
use Rattle.std.specs.List.{list_any}
use Rattle.scene_parts.specs.Parts.{Obstacle, Grid, Setting}
use Rattle.scene_parts.specs.declared.parts.Part.{Part}
use Rattle.scene_parts.specs.declared.parts.Part.TheVariants as parts
use Rattle.scene_book.specs.Book.{Book}
use Rattle.scene_book.specs.Applying.{with_part, without}
use Rattle.scene_book.specs.declared.edits.Edit.TheVariants as edits
use Rattle.scene_book.proofs.EditLemmas.{accepted-changes}
use Rattle.map_board.specs.inner.Sources.{LeavesObstacles, is_obstacle}
use Rattle.map_board.proofs.Receivers.{with-put, without-removed}
use Rattle.map_board.proofs.LeftSources.{none-taken}

-- a part that is no obstacle is put into another list
put-beside : (part : Part) (book : Book) → is_obstacle part ≡ false → (with_part part book).obstacles ≡ book.obstacles
put-beside (parts.Obstacle o) book other = absurd (cc other)
put-beside part book other = refl

pub put-leaves : (part : Part) (book : Book) → is_obstacle part ≡ false → LeavesObstacles (edits.Put part) book
put-leaves part book other after old e =
    let put = with-put part book after old e in ap (λ (b : Book). b.obstacles) (sym put.1) ∙ put-beside part book other

pub grid-leaves : (grid : Grid) (book : Book) → LeavesObstacles (edits.Grid grid) book
grid-leaves grid book after old e =
    let ch = accepted-changes (edits.Grid grid) book after old e in ap (λ (b : Book). b.obstacles) ch.0

pub set-leaves : (setting : Setting) (book : Book) → LeavesObstacles (edits.Set setting) book
set-leaves setting book after old e =
    let ch = accepted-changes (edits.Set setting) book after old e in ap (λ (b : Book). b.obstacles) ch

-- a part is taken out of another list, or is no obstacle of this name
left-beside : (name : List ℕ) (part : Part) (book : Book) → list_any (λ (o : Obstacle). bytes_eq name o.name) book.obstacles ≡ false → (without name part book).obstacles ≡ book.obstacles
left-beside name (parts.Obstacle obstacle) book none = none-taken (λ (o : Obstacle). o.name) name book.obstacles none
left-beside name part book none = refl

pub removal-leaves : (name : List ℕ) (book : Book) → list_any (λ (o : Obstacle). bytes_eq name o.name) book.obstacles ≡ false → LeavesObstacles (edits.Remove name) book
removal-leaves name book none after old e =
    let removed = without-removed name book after old e in ap (λ (b : Book). b.obstacles) (sym removed.2) ∙ left-beside name removed.0 book none
