-- Edits that leave the sources of a scene as they are.
use Rattle.std.proofs.Common.{◌≡◌, ℕ, Bool, true, false, cond, List, [], ◌∷◌, refl, sym, ap, ◌∙◌}
use Rattle.std.specs.Prelude.{bytes_eq, ◌||◌}
use Rattle.std.specs.List.{list_any}
use Rattle.scene_parts.specs.Parts.{Source, Grid, Setting}
use Rattle.scene_parts.specs.declared.parts.Part.{Part}
use Rattle.scene_parts.specs.declared.parts.Part.TheVariants as parts
use Rattle.scene_book.specs.Book.{Book}
use Rattle.scene_book.specs.Lists.{take_out}
use Rattle.scene_book.specs.Applying.{with_part, without}
use Rattle.scene_book.specs.declared.edits.Edit.TheVariants as edits
use Rattle.scene_book.proofs.EditLemmas.{accepted-changes}
use Rattle.map_board.specs.inner.Sources.{LeavesSources, is_source}
use Rattle.map_board.proofs.Receivers.{with-put, without-removed}

-- a part that is no source is put into another list
put-beside : (part : Part) (book : Book) → is_source part ≡ false → (with_part part book).sources ≡ book.sources
put-beside (parts.Source s) book other = absurd (cc other)
put-beside part book other = refl

pub put-leaves : (part : Part) (book : Book) → is_source part ≡ false → LeavesSources (edits.Put part) book
put-leaves part book other after old e =
    let put = with-put part book after old e in ap (λ (b : Book). b.sources) (sym put.1) ∙ put-beside part book other

pub grid-leaves : (grid : Grid) (book : Book) → LeavesSources (edits.Grid grid) book
grid-leaves grid book after old e =
    let ch = accepted-changes (edits.Grid grid) book after old e in ap (λ (b : Book). b.sources) ch.0

pub set-leaves : (setting : Setting) (book : Book) → LeavesSources (edits.Set setting) book
set-leaves setting book after old e =
    let ch = accepted-changes (edits.Set setting) book after old e in ap (λ (b : Book). b.sources) ch

-- nothing is taken out by a name that none bears
pub none-taken : {A : Type 0} (name_of : A → List ℕ) (name : List ℕ) (things : List A) → list_any (λ (x : A). bytes_eq name (name_of x)) things ≡ false → take_out name_of name things ≡ things
none-taken name_of name [] none = refl
none-taken {A} name_of name (first ∷ things) none = go (bytes_eq name (name_of first)) none (none-taken name_of name things) where
  go : (test : Bool) → (test || list_any (λ (x : A). bytes_eq name (name_of x)) things) ≡ false
      → (list_any (λ (x : A). bytes_eq name (name_of x)) things ≡ false → take_out name_of name things ≡ things)
      → cond test things (first ∷ take_out name_of name things) ≡ first ∷ things
  go true none rest = absurd (cc none)
  go false none rest = ap (λ behind. first ∷ behind) (rest none)

-- a part is taken out of another list, or is no source of this name
left-beside : (name : List ℕ) (part : Part) (book : Book) → list_any (λ (s : Source). bytes_eq name s.name) book.sources ≡ false → (without name part book).sources ≡ book.sources
left-beside name (parts.Source source) book none = none-taken (λ (s : Source). s.name) name book.sources none
left-beside name part book none = refl

pub removal-leaves : (name : List ℕ) (book : Book) → list_any (λ (s : Source). bytes_eq name s.name) book.sources ≡ false → LeavesSources (edits.Remove name) book
removal-leaves name book none after old e =
    let removed = without-removed name book after old e in ap (λ (b : Book). b.sources) (sym removed.2) ∙ left-beside name removed.0 book none
