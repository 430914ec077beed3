-- Kept versions: in a journal that grows, with one more, and cut for an undo.
use Rattle.std.proofs.Common.{◌≡◌, ℕ, suc, ◌<◌, ◌≤◌, true, false, List, [], ◌∷◌, ◌++◌, length, refl, sym, ap, ◌∙◌, subst, arith, inl, inr, length-append}
use Rattle.std.specs.Prelude.{Bool, Vec, Option, Result, Ok, Err, IsErr, All, reverse, filter, flat_map, nat_lt, nat_le}
use Rattle.std.proofs.lemmas.Bool.Decides.{nat_tests}
use Rattle.std.proofs.lemmas.List.{append-nil, map-append}
use Rattle.std.proofs.lemmas.List.Elements.{All-nil, All-append, All-cons, All-head, All-tail, filter-append}
use Rattle.std.specs.declared.alloc.Global.{Global}
use Rattle.scene_parts.specs.declared.parts.Part.{Part}
use Rattle.scene_book.specs.Book.{Book}
use Rattle.scene_book.specs.Applying.{apply_of, lacks_memory}
use Rattle.scene_book.specs.declared.edits.Edit.{Edit}
use Rattle.scene_book.specs.declared.edits.EditFault.{EditFault}
use Rattle.scene_undo.specs.Inverse.{inverse_of}
use Rattle.scene_undo.specs.declared.versions.KeptVersion.{KeptVersion}
use Rattle.scene_undo.specs.Versions.{kept_in, EndsUpTo, IsCut}
use Rattle.scene_undo.proofs.KeptVersions.{reversed-cons, versions, versions-append, kept-one-more}
use Rattle.map_board.specs.Journal.{newest_scene}
use Rattle.map_board.specs.Showing.{accepted_edits}
use Rattle.map_text.specs.declared.refusals.Refusal.TheVariants.{Edit as OfEdit}
use Rattle.noise_map.specs.declared.run.editor.Editor.{Editor}
use Rattle.noise_map.specs.Effects.{silent, refused, way_back, edits_back, display_of_edit, with_edit, journal_with, journal_with_all, with_version, kept_with, kept_with_all}
use Rattle.noise_map.specs.inner.Steps.{past_of, IsKeptOf, Descends, Knows, HasMade, MakesOrLacks, MakesUnlessMemory, display_behind, kept_when, kept_when_all}
use Rattle.noise_map.proofs.Journals.{way-stays, way-last}

-- ---- lists

pub all-each : {X : Type 0} (P Q : X → Type 0) → ((x : X) → P x → Q x) → (xs : List X) → All P xs → All Q xs
all-each P Q each [] p = All-nil Q
all-each P Q each (x ∷ xs) p = All-cons Q x xs (each x (All-head P x xs p)) (all-each P Q each xs (All-tail P x xs p))

pub all-front : {X : Type 0} (P : X → Type 0) (xs ys : List X) → All P (xs ++ ys) → All P xs
all-front P [] ys all = All-nil P
all-front P (x ∷ xs) ys all = All-cons P x xs (All-head P x (xs ++ ys) all) (all-front P xs ys (All-tail P x (xs ++ ys) all))

all-back : {X : Type 0} (P : X → Type 0) (xs ys : List X) → All P (xs ++ ys) → All P ys
all-back P [] ys all = all
all-back P (x ∷ xs) ys all = all-back P xs ys (All-tail P x (xs ++ ys) all)

all-reversed : {X : Type 0} (P : X → Type 0) (xs : List X) → All P xs → All P (reverse xs)
all-reversed P [] all = all
all-reversed P (x ∷ xs) all =
    subst (λ ys. All P ys) (sym (reversed-cons x xs))
    (All-append P (reverse xs) (x ∷ []) (all-reversed P xs (All-tail P x xs all)) (All-cons P x [] (All-head P x xs all) (All-nil P)))

filter-all : {X : Type 0} (p : X → Bool) (xs : List X) → All (λ x. p x ≡ true) xs → filter p xs ≡ xs
filter-all p [] all = refl
filter-all p (x ∷ xs) all =
    let here : p x ≡ true = All-head (λ y. p y ≡ true) x xs all in
    let later = filter-all p xs (All-tail (λ y. p y ≡ true) x xs all) in
    rw here (ap (λ ys. x ∷ ys) later)

filter-none : {X : Type 0} (p : X → Bool) (xs : List X) → All (λ x. p x ≡ false) xs → filter p xs ≡ []
filter-none p [] all = refl
filter-none p (x ∷ xs) all =
    let here : p x ≡ false = All-head (λ y. p y ≡ false) x xs all in
    rw here (filter-none p xs (All-tail (λ y. p y ≡ false) x xs all))

-- ---- versions

all-versions : (P : ℕ → Type 0) (kept : List KeptVersion) → All (λ one. P one.version) kept → All P (versions kept)
all-versions P [] all = All-nil P
all-versions P (one ∷ kept) all =
    All-cons P one.version (versions kept) (All-head (λ (k : KeptVersion). P k.version) one kept all) (all-versions P kept (All-tail (λ (k : KeptVersion). P k.version) one kept all))

-- what holds of 0 and of all kept versions holds of all
all-kept : (P : ℕ → Type 0) (kept : List KeptVersion) → P 0 → All (λ one. P one.version) kept → All P (kept_in kept)
all-kept P kept first all =
    All-append P (reverse (versions kept)) (0 ∷ []) (all-reversed P (versions kept) (all-versions P kept all)) (All-cons P 0 [] first (All-nil P))

-- ---- a journal that grows

pub kept-on : (journal more : List Edit) (one : KeptVersion) → IsKeptOf journal one → IsKeptOf (journal ++ more) one
kept-on journal more one kept = record {
  some = kept.some;
  known = omega (arith, kept.known, length-append journal more);
  back = kept.back ∙ sym (way-stays journal more one.version kept.known);
}

kept-with-of : (journal : List Edit) (edit : Edit) (r : Result (Book × Option Part) EditFault) (kept : List KeptVersion) → All (IsKeptOf journal) kept → All (IsKeptOf (with_edit journal edit r)) kept
kept-with-of journal edit (Ok after) kept all = all-each (IsKeptOf journal) (IsKeptOf (journal ++ edit ∷ [])) (λ one. kept-on journal (edit ∷ []) one) kept all
kept-with-of journal edit (Err fault) kept all = all

-- all that is kept is so behind one more edit
pub kept-with-edit : (journal : List Edit) (edit : Edit) (kept : List KeptVersion) → All (IsKeptOf journal) kept → All (IsKeptOf (journal_with journal edit)) kept
kept-with-edit journal edit kept all = kept-with-of journal edit (apply_of edit (newest_scene journal)) kept all

-- ---- edits one after the other

pub kept_with_all-push : (journal done : List Edit) (edit : Edit) (kept : List ℕ)
    → kept_with_all journal (done ++ edit ∷ []) kept ≡ kept_with (journal_with_all journal done) edit (kept_with_all journal done kept)
kept_with_all-push journal [] edit kept = refl
kept_with_all-push journal (first ∷ done) edit kept = kept_with_all-push (journal_with journal first) done edit (kept_with journal first kept)

pub kept_when_all-push : (keeps : Bool) (journal done : List Edit) (edit : Edit) (kept : List ℕ)
    → kept_when_all keeps journal (done ++ edit ∷ []) kept ≡ kept_when keeps (journal_with_all journal done) edit (kept_when_all keeps journal done kept)
kept_when_all-push true journal done edit kept = kept_with_all-push journal done edit kept
kept_when_all-push false journal done edit kept = refl

-- ---- one more version

accepted-with : (journal : List Edit) (edit : Edit) (version : ℕ) (kept : List ℕ) (r : Result (Book × Option Part) EditFault) → display_of_edit r ≡ silent
    → (with_edit journal edit r ≡ journal ++ edit ∷ []) × (with_version version r kept ≡ version ∷ kept)
accepted-with journal edit version kept (Ok after) h = (refl, refl)
accepted-with journal edit version kept (Err fault) h = cc

refused-with : (version : ℕ) (kept : List ℕ) (r : Result (Book × Option Part) EditFault) (fault : EditFault) → display_of_edit r ≡ refused (OfEdit fault) → with_version version r kept ≡ kept
refused-with version kept (Ok after) fault h = cc
refused-with version kept (Err why) fault h = refl

-- an editor with other kept versions
abbrev pub keeping : Editor → Vec KeptVersion Global → Editor
keeping editor kept = record editor { kept = kept }

-- an accepted edit whose version is then kept
pub made-kept : (before mid : Editor) (room after : Vec KeptVersion Global) (edit : Edit) (one : KeptVersion) → Knows before → room.items ≡ before.kept.items
    → HasMade false (keeping before room) edit mid → display_behind before edit ≡ silent → mid.kept ≡ room → after.items ≡ mid.kept.items ++ one ∷ []
    → one.version ≡ mid.version → one.back ≡ inverse_of edit before.scene
    → HasMade true before edit (keeping mid after) × (display_behind before edit ≡ silent)
made-kept before mid room after edit one knows roomy made accepted same pushed number back =
    let journal = accepted_edits before.seat.mine in
    let with = accepted-with journal edit (suc (length journal)) (kept_in before.kept.items) (apply_of edit (newest_scene journal)) accepted in
    let grown : accepted_edits mid.seat.mine ≡ journal ++ edit ∷ [] = made.accepts ∙ with.0 in
    let newest : one.version ≡ suc (length journal) = number ∙ (made.knows.version ∙ (ap length grown ∙ omega (arith, length-append journal (edit ∷ [])))) in
    let kept_are : after.items ≡ before.kept.items ++ one ∷ [] = pushed ∙ ap (λ (ks : List KeptVersion). ks ++ one ∷ []) (ap (λ (v : Vec KeptVersion Global). v.items) same ∙ roomy) in
    let kept_is : kept_in after.items ≡ one.version ∷ kept_in before.kept.items = ap kept_in kept_are ∙ kept-one-more before.kept.items one in
    let is_kept_of : IsKeptOf (journal ++ edit ∷ []) one = record {
      some = omega (arith, newest);
      known = omega (arith, newest, length-append journal (edit ∷ []));
      back = back ∙ (ap (inverse_of edit) knows.scene ∙ (sym (way-last journal edit) ∙ ap (way_back (journal ++ edit ∷ [])) (sym newest)));
    } in
    let others = all-each (IsKeptOf journal) (IsKeptOf (journal ++ edit ∷ [])) (λ k. kept-on journal (edit ∷ []) k) before.kept.items knows.kept in
    let all_are : All (IsKeptOf (journal ++ edit ∷ [])) (before.kept.items ++ one ∷ []) =
    All-append (IsKeptOf (journal ++ edit ∷ [])) before.kept.items (one ∷ []) others (All-cons (IsKeptOf (journal ++ edit ∷ [])) one [] is_kept_of (All-nil (IsKeptOf (journal ++ edit ∷ [])))) in
    let below : All (λ (v : ℕ). v < one.version) (kept_in before.kept.items) =
    all-kept (λ v. v < one.version) before.kept.items (omega (arith, newest))
    (all-each (IsKeptOf journal) (λ k. k.version < one.version) (λ k is. omega (arith, newest, is.known)) before.kept.items knows.kept) in (
      record {
        goes = made.goes;
        accepts = made.accepts;
        knows = record {
          scene = made.knows.scene;
          version = made.knows.version;
          kept =
              subst (λ (es : List Edit). All (IsKeptOf es) after.items) (sym grown)
              (subst (λ (ks : List KeptVersion). All (IsKeptOf (journal ++ edit ∷ [])) ks) (sym kept_are) all_are);
          order = subst Descends (sym kept_is) (below, knows.order);
        };
        keeps_it = kept_is ∙ (ap (λ v. v ∷ kept_in before.kept.items) newest ∙ sym with.1);
      },
      accepted,
    )

-- a refused edit keeps no version
pub refused-kept : (before mid : Editor) (room : Vec KeptVersion Global) (edit : Edit) (fault : EditFault) → room.items ≡ before.kept.items → HasMade false (keeping before room) edit mid
    → display_behind before edit ≡ refused (OfEdit fault) → HasMade true before edit mid
refused-kept before mid room edit fault roomy made refusal =
    let journal = accepted_edits before.seat.mine in
    record {
      goes = made.goes;
      accepts = made.accepts;
      knows = made.knows;
      keeps_it =
          made.keeps_it
          ∙ (ap kept_in roomy ∙ sym (refused-with (suc (length journal)) (kept_in before.kept.items) (apply_of edit (newest_scene journal)) fault refusal));
    }

-- ---- cut for an undo

after_true : (to version : ℕ) → to < version → nat_lt to version ≡ true
after_true to version h = grind (arith, nat_tests)

after_false : (to version : ℕ) → version ≤ to → nat_lt to version ≡ false
after_false to version h = grind (arith, nat_tests)

upto_true : (to version : ℕ) → version ≤ to → nat_le version to ≡ true
upto_true to version h = grind (arith, nat_tests)

upto_false : (to version : ℕ) → to < version → nat_le version to ≡ false
upto_false to version h = grind (arith, nat_tests)

descends-back : (xs ys : List ℕ) → Descends (xs ++ ys) → Descends ys
descends-back [] ys d = d
descends-back (x ∷ xs) ys d = descends-back xs ys d.1

-- what ends with a version up to one has no later version
up-to : (to : ℕ) (kept : List KeptVersion) → EndsUpTo to kept → Descends (kept_in kept) → All (λ (v : ℕ). v ≤ to) (kept_in kept)
up-to to kept (inl none) order = subst (λ (ks : List KeptVersion). All (λ (v : ℕ). v ≤ to) (kept_in ks)) (sym none) (All-cons (λ (v : ℕ). v ≤ to) 0 [] (omega arith) (All-nil (λ (v : ℕ). v ≤ to)))
up-to to kept (inr last) order =
    let is : kept_in kept ≡ last.1.version ∷ kept_in last.0 = ap kept_in last.2 ∙ kept-one-more last.0 last.1 in
    let falls = subst Descends is order in
    subst (λ (vs : List ℕ). All (λ (v : ℕ). v ≤ to) vs) (sym is)
    (All-cons (λ (v : ℕ). v ≤ to) last.1.version (kept_in last.0) last.3
    (all-each (λ (v : ℕ). v < last.1.version) (λ (v : ℕ). v ≤ to) (λ v h. omega (arith, h, last.3)) (kept_in last.0) falls.0))

ways-are : (journal : List Edit) (later : List KeptVersion) → All (IsKeptOf journal) later → flat_map (λ (one : KeptVersion). one.back) later ≡ flat_map (way_back journal) (versions later)
ways-are journal [] all = refl
ways-are journal (one ∷ later) all =
    let here : one.back ≡ way_back journal one.version = (All-head (IsKeptOf journal) one later all).back in
    let rest = ways-are journal later (All-tail (IsKeptOf journal) one later all) in
    λ i. here i ++ rest i

versions-reversed : (kept : List KeptVersion) → versions (reverse kept) ≡ reverse (versions kept)
versions-reversed [] = refl
versions-reversed (one ∷ kept) =
    ap versions (reversed-cons one kept)
    ∙ (map-append (λ (k : KeptVersion). k.version) (reverse kept) (one ∷ [])
    ∙ (ap (λ vs. vs ++ one.version ∷ []) (versions-reversed kept) ∙ sym (reversed-cons one.version (versions kept))))

-- The later versions were cut off: an editor knows as much as before, keeps those up to the version, and has the edits that
-- lead back.
pub record WasCut (before : Editor) (to : ℕ) (after : Vec KeptVersion Global) (edits : List Edit) : Type 0 where
  pub knows : Knows (keeping before after)
  pub kept : kept_in after.items ≡ filter (λ v. nat_le v to) (kept_in before.kept.items)
  pub back : edits ≡ edits_back to (past_of before)

pub was-cut : (before : Editor) (to : ℕ) (after : Vec KeptVersion Global) (edits : List Edit) → Knows before → IsCut to before.kept.items after.items edits → WasCut before to after edits
was-cut before to after edits knows cut =
    let journal = accepted_edits before.seat.mine in
    let later = reverse (versions cut.later) in
    let all_kept : All (IsKeptOf journal) (after.items ++ cut.later) = subst (λ (ks : List KeptVersion). All (IsKeptOf journal) ks) cut.parts knows.kept in
    let is : kept_in before.kept.items ≡ later ++ kept_in after.items = ap kept_in cut.parts ∙ versions-append after.items cut.later in
    let order : Descends (kept_in after.items) = descends-back later (kept_in after.items) (subst Descends is knows.order) in
    let behind : All (λ (v : ℕ). to < v) later = all-reversed (λ (v : ℕ). to < v) (versions cut.later) (all-versions (λ (v : ℕ). to < v) cut.later cut.behind) in
    let front : All (λ (v : ℕ). v ≤ to) (kept_in after.items) = up-to to after.items cut.ends order in
    let stay : filter (λ v. nat_le v to) (later ++ kept_in after.items) ≡ kept_in after.items =
    filter-append (λ v. nat_le v to) later (kept_in after.items)
    ∙ (λ i. filter-none (λ v. nat_le v to) later (all-each (λ (v : ℕ). to < v) (λ v. nat_le v to ≡ false) (λ v h. upto_false to v h) later behind) i
    ++ filter-all (λ v. nat_le v to) (kept_in after.items) (all-each (λ (v : ℕ). v ≤ to) (λ v. nat_le v to ≡ true) (λ v h. upto_true to v h) (kept_in after.items) front) i) in
    let go : filter (nat_lt to) (later ++ kept_in after.items) ≡ later =
    filter-append (nat_lt to) later (kept_in after.items)
    ∙ ((λ i. filter-all (nat_lt to) later (all-each (λ (v : ℕ). to < v) (λ v. nat_lt to v ≡ true) (λ v h. after_true to v h) later behind) i
    ++ filter-none (nat_lt to) (kept_in after.items) (all-each (λ (v : ℕ). v ≤ to) (λ v. nat_lt to v ≡ false) (λ v h. after_false to v h) (kept_in after.items) front) i)
    ∙ append-nil later) in
    record {
      knows = record {
        scene = knows.scene;
        version = knows.version;
        kept = all-front (IsKeptOf journal) after.items cut.later all_kept;
        order = order;
      };
      kept = sym (ap (filter (λ v. nat_le v to)) is ∙ stay);
      back =
          cut.edits_are
          ∙ (ways-are journal (reverse cut.later) (all-reversed (IsKeptOf journal) cut.later (all-back (IsKeptOf journal) after.items cut.later all_kept))
          ∙ (ap (flat_map (way_back journal)) (versions-reversed cut.later) ∙ ap (flat_map (way_back journal)) (sym (ap (filter (nat_lt to)) is ∙ go))));
    }

-- ---- edits that are refused, or lack memory

kept-by : (lacks : Bool) (before mid : Editor) (room : Vec KeptVersion Global) (edit : Edit) (fault : EditFault) → room.items ≡ before.kept.items
    → MakesOrLacks lacks false (keeping before room) edit fault mid → MakesOrLacks lacks true before edit fault mid
kept-by true before mid room edit fault roomy lacked = record { added = lacked.added; goes = lacked.goes; is = lacked.is }
kept-by false before mid room edit fault roomy made = (refused-kept before mid room edit fault roomy made.0 made.1, made.1)

-- what `?` gives back of an edit that was tried
pub kept-fault : {X : Type 0} (before mid : Editor) (room : Vec KeptVersion Global) (edit : Edit) (result : Result X EditFault) (same fault : EditFault) → room.items ≡ before.kept.items
    → result ≡ Err same → same ≡ fault → MakesOrLacks (lacks_memory fault) false (keeping before room) edit fault mid → MakesUnlessMemory true before edit result mid
kept-fault {X} before mid room edit result same fault roomy is name made =
    subst (λ (r : Result X EditFault). MakesUnlessMemory true before edit r mid) (sym (is ∙ ap (λ (f : EditFault). Err f) name))
    (kept-by (lacks_memory fault) before mid room edit fault roomy made)

unaccepted : (r : Result (Book × Option Part) EditFault) → IsErr r → display_of_edit r ≡ silent → ⊥
unaccepted (Ok after) err h = cc
unaccepted (Err fault) err h = cc

-- an edit that no scene accepts
pub never-kept : {X : Type 0} (before mid : Editor) (edit : Edit) (result : Result X EditFault) → ((book : Book) → IsErr (apply_of edit book))
    → MakesUnlessMemory false before edit result mid → MakesUnlessMemory true before edit result mid
never-kept before mid edit (Ok done) never made =
    absurd (unaccepted (apply_of edit (newest_scene (accepted_edits before.seat.mine))) (never (newest_scene (accepted_edits before.seat.mine))) made.1)
never-kept before mid edit (Err fault) never made = kept-by (lacks_memory fault) before mid before.kept edit fault refl (remade (lacks_memory fault) made) where
  remade : (lacks : Bool) → MakesOrLacks lacks false before edit fault mid → MakesOrLacks lacks false (keeping before before.kept) edit fault mid
  remade lacks m = m
