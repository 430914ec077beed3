-- Trails of kept versions: from the newest scene each leads back to the one before.
use Rattle.std.proofs.Common.{◌≡◌, ℕ, zero, suc, ◌≤◌, ◌<◌, Bool, true, false, List, [], ◌∷◌, ◌++◌, length, refl, sym, ap, ◌∙◌, subst, arith, length-append}
use Rattle.std.specs.Prelude.{Option, Result, Ok, Err, All, filter, flat_map, nat_lt, nat_le, ◌==◌, ◌||◌}
use Rattle.std.proofs.lemmas.Bool.{ltb-true, ltb-false, eqb-true, le-ltb, le-leb, lt-leb}
use Rattle.std.proofs.lemmas.List.Elements.{All-head, All-tail}
use Rattle.scene_parts.specs.declared.parts.Part.{Part}
use Rattle.scene_book.specs.declared.edits.Edit.{Edit}
use Rattle.scene_book.specs.declared.edits.EditFault.{EditFault}
use Rattle.scene_book.specs.Book.{Book, empty_book}
use Rattle.scene_book.specs.Applying.{apply_of}
use Rattle.scene_book.specs.Orders.{SameParts}
use Rattle.scene_undo.specs.Scenes.{IsEdit}
use Rattle.scene_undo.specs.Inverse.{inverse_of}
use Rattle.scene_undo.specs.Versions.{is_kept}
use Rattle.scene_undo.specs.Laws.{LeadTo}
use Rattle.scene_undo.proofs.Undoing.{undo}
use Rattle.scene_undo.proofs.Trails.{same-parts, same-parts-on, lead-through}
use Rattle.map_board.specs.Journal.{book_after, book_after_all, scene_at, newest_scene}
use Rattle.noise_map.specs.Effects.{Past, no_past, undone_by, way_back, edits_back, with_edit, journal_with, journal_with_all, with_version, kept_with, kept_with_all}
use Rattle.noise_map.proofs.Journals.{IsJournal, AreTaken, IsStep, taken, version-scene, in-row, newest-behind, version-stays, last-version, journal-append, all-in, step-at, ways-edits, way-stays}

-- a scene has its own parts
same-as : (a b : Book) → a ≡ b → SameParts a b
same-as a b e = subst (SameParts a) e (same-parts a)

-- ---- versions up to one

abbrev pub AreUpTo : ℕ → List ℕ → Type 0
AreUpTo limit [] = Unit {0}
AreUpTo limit (version ∷ versions) = (version ≤ limit) × AreUpTo limit versions

up-further : (low high : ℕ) (versions : List ℕ) → low ≤ high → AreUpTo low versions → AreUpTo high versions
up-further low high [] up all = tt
up-further low high (version ∷ versions) up all = (omega (arith, all.0, up), up-further low high versions up all.1)

none-later : (to limit : ℕ) (versions : List ℕ) → limit ≤ to → AreUpTo limit versions → filter (nat_lt to) versions ≡ []
none-later to limit [] up all = refl
none-later to limit (version ∷ versions) up all =
    let early : nat_lt to version ≡ false = le-ltb to version (omega (arith, all.0, up)) in
    rw early (none-later to limit versions up all.1)

all-earlier : (to limit : ℕ) (versions : List ℕ) → limit ≤ to → AreUpTo limit versions → filter (λ v. nat_le v to) versions ≡ versions
all-earlier to limit [] up all = refl
all-earlier to limit (version ∷ versions) up all =
    let early : nat_le version to ≡ true = le-leb version to (omega (arith, all.0, up)) in
    rw early (ap (λ (vs : List ℕ). version ∷ vs) (all-earlier to limit versions up all.1))

-- what is kept is one of them
kept-up : (to limit : ℕ) (versions : List ℕ) → AreUpTo limit versions → is_kept to versions ≡ true → to ≤ limit
kept-up to limit [] all has = cc
kept-up to limit (version ∷ versions) all has = by (version == to) refl (kept-up to limit versions all.1) has
  where
    by : (test : Bool) → (version == to) ≡ test → (is_kept to versions ≡ true → to ≤ limit) → (test || is_kept to versions) ≡ true → to ≤ limit
    by true h later has = omega (arith, eqb-true version to h, all.0)
    by false h later has = later has

-- and so it is of those before a later one
still-kept : (to version : ℕ) (versions : List ℕ) → to < version → is_kept to (version ∷ versions) ≡ true → is_kept to versions ≡ true
still-kept to version versions below has = by (version == to) refl has
  where
    by : (test : Bool) → (version == to) ≡ test → (test || is_kept to versions) ≡ true → is_kept to versions ≡ true
    by true h has = absurd (omega (arith, eqb-true version to h, below))
    by false h has = has

-- ---- trails

-- versions of a journal, the newest first: the first has the parts of this scene; the edit of each led to it from the
-- parts of the next one, and the last is version 0
abbrev pub IsTrail : List Edit → Book → List ℕ → Type 0
IsTrail journal top [] = ⊥
IsTrail journal top (zero ∷ versions) = SameParts (scene_at journal 0) top × (versions ≡ [])
IsTrail journal top (suc before ∷ versions) =
    SameParts (scene_at journal (suc before)) top × (before < length journal) × AreUpTo before versions
    × IsTrail journal (scene_at journal before) versions

-- the same versions lead from another scene, where the first has its parts
from-scene : (journal : List Edit) (top other : Book) (version : ℕ) (versions : List ℕ) → IsTrail journal top (version ∷ versions)
    → SameParts (scene_at journal version) other → IsTrail journal other (version ∷ versions)
from-scene journal top other zero versions trail parts = (parts, trail.1)
from-scene journal top other (suc before) versions trail parts = (parts, trail.1, trail.2, trail.3)

first-parts : (journal : List Edit) (top : Book) (version : ℕ) (versions : List ℕ) → IsTrail journal top (version ∷ versions) → SameParts (scene_at journal version) top
first-parts journal top zero versions trail = trail.0
first-parts journal top (suc before) versions trail = trail.0

no-later : (limit : ℕ) (versions : List ℕ) → versions ≡ [] → AreUpTo limit versions
no-later limit versions none = rw none tt

-- all versions are up to the first
trail-up : (journal : List Edit) (top : Book) (version : ℕ) (versions : List ℕ) → IsTrail journal top (version ∷ versions) → AreUpTo version (version ∷ versions)
trail-up journal top zero versions trail = (omega arith, no-later 0 versions trail.1)
trail-up journal top (suc before) versions trail = (omega arith, up-further before (suc before) versions (omega arith) trail.2)

-- and to the last of the journal
pub trail-within : (journal : List Edit) (top : Book) (versions : List ℕ) → IsTrail journal top versions → AreUpTo (length journal) versions
trail-within journal top [] trail = absurd trail
trail-within journal top (zero ∷ versions) trail = (omega arith, no-later (length journal) versions trail.1)
trail-within journal top (suc before ∷ versions) trail =
    (omega (arith, trail.1), up-further before (length journal) versions (omega (arith, trail.1)) trail.2)

-- a longer journal has the same trail
trail-stays : (journal more : List Edit) (top : Book) (versions : List ℕ) → IsTrail journal top versions → IsTrail (journal ++ more) top versions
trail-stays journal more top [] trail = absurd trail
trail-stays journal more top (zero ∷ versions) trail = trail
trail-stays journal more top (suc before ∷ versions) trail = (
  subst (λ (s : Book). SameParts s top) (sym (version-stays journal more (suc before) (omega (arith, trail.1)))) trail.0,
  omega (arith, trail.1, length-append journal more),
  trail.2,
  subst (λ (s : Book). IsTrail (journal ++ more) s versions) (sym (version-stays journal more before (omega (arith, trail.1))))
      (trail-stays journal more (scene_at journal before) versions trail.3),
)

-- nor do the ways back of its versions change
pub ways-stay : (journal more : List Edit) (versions : List ℕ) → AreUpTo (length journal) versions
    → flat_map (way_back (journal ++ more)) versions ≡ flat_map (way_back journal) versions
ways-stay journal more [] past = refl
ways-stay journal more (version ∷ versions) past =
    let first : way_back (journal ++ more) version ≡ way_back journal version = way-stays journal more version past.0 in
    let rest : flat_map (way_back (journal ++ more)) versions ≡ flat_map (way_back journal) versions = ways-stay journal more versions past.1 in
    λ i. first i ++ rest i

-- ---- back along a trail

-- nothing is undone where no version is later
leads-nowhere : (journal : List Edit) (versions : List ℕ) (top from : Book) (to : ℕ) → filter (nat_lt to) versions ≡ []
    → SameParts (scene_at journal to) top → SameParts top from
    → LeadTo (scene_at journal to) (flat_map (way_back journal) (filter (nat_lt to) versions)) from
leads-nowhere journal versions top from to none first then =
    rw none (from, refl, same-parts-on (scene_at journal to) top from first then)

-- the edits that lead back to a kept version are accepted from any scene of the parts of the newest, and lead to its parts
pub trail-leads : (journal : List Edit) (versions : List ℕ) (top from : Book) (to : ℕ) → IsJournal journal → IsTrail journal top versions
    → is_kept to versions ≡ true → SameParts top from
    → LeadTo (scene_at journal to) (flat_map (way_back journal) (filter (nat_lt to) versions)) from
trail-leads journal [] top from to sound trail has parts = absurd trail
trail-leads journal (zero ∷ versions) top from to sound trail has parts =
    let up = trail-up journal top 0 versions trail in
    let here : zero ≡ to = omega (arith, kept-up to 0 (zero ∷ versions) up has) in
    leads-nowhere journal (zero ∷ versions) top from to (none-later to 0 (zero ∷ versions) (omega arith) up)
    (subst (λ (v : ℕ). SameParts (scene_at journal v) top) here trail.0) parts
trail-leads journal (suc before ∷ versions) top from to sound trail has parts =
    by (nat_lt to (suc before)) refl (λ mid later. trail-leads journal versions (scene_at journal before) mid to sound trail.3 later)
  where
    step : IsStep empty_book journal before
    step = step-at empty_book journal before trail.1 sound

    way : inverse_of step.edit (scene_at journal before) ≡ way_back journal (suc before)
    way = sym (ap (λ (e : Option Edit). undone_by e (scene_at journal before)) step.at)

    -- what the edit left has the parts of the scene from where it is undone
    left : SameParts (book_after step.edit (scene_at journal before)) from
    left =
        subst (λ (s : Book). SameParts s from) step.leads
        (same-parts-on (scene_at journal (suc before)) top from trail.0 parts)

    undone : LeadTo (scene_at journal before) (way_back journal (suc before)) from
    undone =
        subst (λ (es : List Edit). LeadTo (scene_at journal before) es from) way
        (undo step.edit (scene_at journal before) from (book_after step.edit (scene_at journal before)) (step.taken).old (step.taken).is
        (version-scene journal before sound) (step.taken).accepted left)

    by : (test : Bool) → nat_lt to (suc before) ≡ test
        → ((mid : Book) → is_kept to versions ≡ true → SameParts (scene_at journal before) mid → LeadTo (scene_at journal to) (flat_map (way_back journal) (filter (nat_lt to) versions)) mid)
        → LeadTo (scene_at journal to) (flat_map (way_back journal) (filter (nat_lt to) (suc before ∷ versions))) from
    by true h later =
        rw h
        (lead-through (scene_at journal before) (scene_at journal to) (way_back journal (suc before)) (flat_map (way_back journal) (filter (nat_lt to) versions)) from undone
        (λ mid parts. later mid (still-kept to (suc before) versions (ltb-true to (suc before) h) has) parts))
    by false h later =
        let up = trail-up journal top (suc before) versions trail in
        let here : suc before ≡ to = omega (arith, kept-up to (suc before) (suc before ∷ versions) up has, ltb-false to (suc before) h) in
        leads-nowhere journal (suc before ∷ versions) top from to
        (none-later to (suc before) (suc before ∷ versions) (ltb-false to (suc before) h) up)
        (subst (λ (v : ℕ). SameParts (scene_at journal v) top) here trail.0) parts

-- it and the versions before it are a trail to its scene
whole-stays : (journal : List Edit) (top : Book) (version to : ℕ) (versions : List ℕ) → IsTrail journal top (version ∷ versions) → version ≡ to
    → IsTrail journal (scene_at journal to) (filter (λ v. nat_le v to) (version ∷ versions))
whole-stays journal top version to versions trail here =
    let up = trail-up journal top version versions trail in
    subst (IsTrail journal (scene_at journal to)) (sym (all-earlier to version (version ∷ versions) (omega (arith, here)) up))
    (from-scene journal top (scene_at journal to) version versions trail
    (same-as (scene_at journal version) (scene_at journal to) (ap (scene_at journal) here)))

pub trail-shorter : (journal : List Edit) (versions : List ℕ) (top : Book) (to : ℕ) → IsTrail journal top versions → is_kept to versions ≡ true
    → IsTrail journal (scene_at journal to) (filter (λ v. nat_le v to) versions)
trail-shorter journal [] top to trail has = absurd trail
trail-shorter journal (zero ∷ versions) top to trail has =
    whole-stays journal top 0 to versions trail (omega (arith, kept-up to 0 (zero ∷ versions) (trail-up journal top 0 versions trail) has))
trail-shorter journal (suc before ∷ versions) top to trail has =
    by (nat_lt to (suc before)) refl (λ later. trail-shorter journal versions (scene_at journal before) to trail.3 later)
  where
    by : (test : Bool) → nat_lt to (suc before) ≡ test
        → (is_kept to versions ≡ true → IsTrail journal (scene_at journal to) (filter (λ v. nat_le v to) versions))
        → IsTrail journal (scene_at journal to) (filter (λ v. nat_le v to) (suc before ∷ versions))
    by true h later =
        let late : nat_le (suc before) to ≡ false = lt-leb (suc before) to (ltb-true to (suc before) h) in
        rw late (later (still-kept to (suc before) versions (ltb-true to (suc before) h) has))
    by false h later =
        let up = trail-up journal top (suc before) versions trail in
        whole-stays journal top (suc before) to versions trail (omega (arith, kept-up to (suc before) (suc before ∷ versions) up has, ltb-false to (suc before) h))

-- the first version of a trail may have any scene of its parts above it
pub trail-from : (journal : List Edit) (versions : List ℕ) (top other : Book) → IsTrail journal top versions → SameParts top other → IsTrail journal other versions
trail-from journal [] top other trail parts = absurd trail
trail-from journal (version ∷ versions) top other trail parts =
    from-scene journal top other version versions trail
    (same-parts-on (scene_at journal version) top other (first-parts journal top version versions trail) parts)

-- ---- what lines leave

-- accepted edits, and kept versions that lead back from the scene behind them
pub record IsSound (past : Past) : Type 0 where
  pub journal : IsJournal past.journal
  pub trail : IsTrail past.journal (newest_scene past.journal) past.kept

pub sound-start : IsSound no_past
sound-start = record { journal = tt; trail = (same-parts empty_book, refl) }

abbrev past_of : List Edit → List ℕ → Past
past_of journal kept = record { journal = journal; kept = kept }

-- an edit alone
sound-edit : (journal : List Edit) (kept : List ℕ) (edit : Edit) (answer : Result (Book × Option Part) EditFault)
    → apply_of edit (newest_scene journal) ≡ answer → IsEdit edit → IsSound (past_of journal kept)
    → IsSound (past_of (with_edit journal edit answer) (with_version (suc (length journal)) answer kept))
sound-edit journal kept edit (Err fault) e is sound = sound
sound-edit journal kept edit (Ok next) e is sound =
    let longer = journal ++ edit ∷ [] in
    let long : length longer ≡ suc (length journal) = omega (arith, length-append journal (edit ∷ [])) in
    let before : scene_at longer (length journal) ≡ newest_scene journal =
    version-stays journal (edit ∷ []) (length journal) (omega arith) ∙ last-version journal (length journal) (omega arith) in
    record {
      journal = journal-append journal (edit ∷ []) sound.journal (taken edit (newest_scene journal) next.0 next.1 is e, tt);
      trail = (
        same-as (scene_at longer (suc (length journal))) (newest_scene longer) (last-version longer (suc (length journal)) (omega (arith, long))),
        omega (arith, long),
        trail-within journal (newest_scene journal) kept sound.trail,
        subst (λ (s : Book). IsTrail longer s kept) (sym before) (trail-stays journal (edit ∷ []) (newest_scene journal) kept sound.trail),
      );
    }

-- edits one after the other, each kept where it is accepted
pub sound-edits : (journal edits : List Edit) (kept : List ℕ) → All IsEdit edits → IsSound (past_of journal kept)
    → IsSound (past_of (journal_with_all journal edits) (kept_with_all journal edits kept))
sound-edits journal [] kept all sound = sound
sound-edits journal (edit ∷ edits) kept all sound =
    sound-edits (journal_with journal edit) edits (kept_with journal edit kept) (All-tail IsEdit edit edits all)
    (sound-edit journal kept edit (apply_of edit (newest_scene journal)) refl (All-head IsEdit edit edits all) sound)

-- ---- an undo

-- where it leads: all its edits are accepted, one after the other, and lead to the parts of its version, from where the
-- versions that stay kept lead on
pub record HasLed (past : Past) (to : ℕ) (journal : List Edit) : Type 0 where
  pub taken : AreTaken (newest_scene past.journal) (edits_back to past)
  pub whole : journal ≡ past.journal ++ edits_back to past
  pub parts : SameParts (scene_at past.journal to) (newest_scene journal)
  pub sound : IsSound (past_of journal (filter (λ v. nat_le v to) past.kept))

pub undo-leads : (past : Past) (to : ℕ) → IsSound past → is_kept to past.kept ≡ true → HasLed past to (journal_with_all past.journal (edits_back to past))
undo-leads past to sound has =
    subst (HasLed past to) (sym grown) (record {
      taken = row.0;
      whole = refl;
      parts = parts;
      sound = record {
        journal = journal-append past.journal back sound.journal row.0;
        trail =
            trail-from longer (filter (λ v. nat_le v to) past.kept) (scene_at past.journal to) (newest_scene longer)
            (trail-stays past.journal back (scene_at past.journal to) (filter (λ v. nat_le v to) past.kept) (trail-shorter past.journal past.kept (newest_scene past.journal) to sound.trail has))
            parts;
      };
    })
  where
    back : List Edit
    back = edits_back to past

    longer : List Edit
    longer = past.journal ++ edits_back to past

    led : LeadTo (scene_at past.journal to) (edits_back to past) (newest_scene past.journal)
    led = trail-leads past.journal past.kept (newest_scene past.journal) (newest_scene past.journal) to sound.journal sound.trail has (same-parts (newest_scene past.journal))

    row : AreTaken (newest_scene past.journal) (edits_back to past) × (book_after_all (edits_back to past) (newest_scene past.journal) ≡ led.0)
    row = in-row (newest_scene past.journal) led.0 (edits_back to past) (ways-edits past.journal (filter (nat_lt to) past.kept) sound.journal) led.1

    grown : journal_with_all past.journal (edits_back to past) ≡ past.journal ++ edits_back to past
    grown = all-in past.journal (edits_back to past) row.0

    parts : SameParts (scene_at past.journal to) (newest_scene (past.journal ++ edits_back to past))
    parts = subst (SameParts (scene_at past.journal to)) (sym (newest-behind past.journal (edits_back to past) ∙ row.1)) led.2
