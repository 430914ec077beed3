-- Edits that touch no path of a source and a receiver, and edits that don't touch a receiver.
use Rattle.std.proofs.Common.{◌≡◌, ℕ, refl, sym, ap, subst, ◌∙◌, Bool, true, false, ◌||◌, List, [], ◌∷◌, map}
use Rattle.std.specs.Prelude.{Option, Some, None, filter, bytes_eq, Contains}
use Rattle.std.specs.List.{list_any}
use Rattle.std.specs.Option.{option_to_list}
use Rattle.std.proofs.lemmas.Slice.Eq.{bytes_eq-Decides}
use Rattle.scene_geom.specs.Laws.{UncrossedIsUnblocked}
use Rattle.scene_parts.specs.Parts.{Source, Receiver, Globals}
use Rattle.scene_parts.specs.declared.parts.Part.{Part}
use Rattle.scene_parts.specs.declared.parts.Part.TheVariants as parts
use Rattle.scene_book.specs.Book.{Book}
use Rattle.scene_book.specs.Applying.{replaced, part_named, with_receivers}
use Rattle.scene_book.specs.Laws.{no_pieces, pieces_of, pieces_of_any, ListsEdited, Changes, AcceptedChanges}
use Rattle.scene_book.specs.declared.edits.Edit.{Edit}
use Rattle.scene_book.specs.declared.edits.Edit.TheVariants as edits
use Rattle.path_calc.specs.Lengths.{is_within}
use Rattle.path_calc.specs.Surroundings.{Surroundings, ends_of, surroundings_of}
use Rattle.path_calc.specs.Trace.{trace_along, trace_of}
use Rattle.path_calc.specs.Bundles.{bundle_over, bundle_of}
use Rattle.path_calc.specs.Levels.{levels_of}
use Rattle.path_calc.specs.Show.{sources_within, show_of}
use Rattle.touch_test.specs.Touches.{TracedPath, traced, part_touches, obstacle_touches, outline_touches, old_part, changed_parts, is_set, edit_touches, touches_path, is_source_within, names_receiver, touches_receiver}
use Rattle.touch_test.specs.Laws.{PathStays, UntouchedPathsStay, ReceiverStays, UntouchedReceiversStay, UntouchedPathsStayInTurn, UntouchedReceiversStayInTurn}
use Rattle.touch_test.proofs.Lists.{In, here, there, neither, fails-at, from-filter, in-filter, in-map, in-stays, filter-stays, map-agrees, contains, found-in}
use Rattle.touch_test.proofs.Stays.{AreQuiet, surroundings-stay}

-- ---- pieces

no-elements : {A : Type 0} (P : A → Type 0) (x : A) → In x [] → P x
no-elements P x i = elim i [ ]

one-element : {A : Type 0} (P : A → Type 0) (y : A) → P y → (x : A) → In x (y ∷ []) → P x
one-element P y h _ (here _) = h
one-element P y h x (there _ _ i) = elim i [ ]

-- no element passes a test: of no elements this says nothing
abbrev NonePass : {A : Type 0} → (A → Bool) → List A → Type 0
NonePass test [] = Unit {0}
NonePass test (x ∷ xs) = (test x ≡ false) × NonePass test xs

fails-each : {A : Type 0} (test : A → Bool) (x : A) (xs : List A) → NonePass test xs → In x xs → test x ≡ false
fails-each test x _ none (here _) = none.0
fails-each test x _ none (there _ xs i) = fails-each test x xs none.1 i

-- where no piece of any list touches it
quiet-lists : (path : TracedPath) (pieces : Book) → NonePass (λ x. bytes_eq x.name path.source) pieces.sources
    → NonePass (obstacle_touches path.ends path.trace) pieces.obstacles
    → NonePass (λ z. outline_touches path.ends path.trace z.points) pieces.zones
    → NonePass (λ f. outline_touches path.ends path.trace f.points) pieces.foliage → AreQuiet path pieces
quiet-lists path pieces s o z f = record {
  sources = λ x. fails-each _ x pieces.sources s;
  obstacles = λ x. fails-each _ x pieces.obstacles o;
  zones = λ x. fails-each _ x pieces.zones z;
  foliage = λ x. fails-each _ x pieces.foliage f;
}

quiet-none : (path : TracedPath) → AreQuiet path no_pieces
quiet-none path = search quiet-lists

quiet-part : (path : TracedPath) (part : Part) → part_touches path part ≡ false → AreQuiet path (pieces_of part)
quiet-part path (parts.Source source) h = search quiet-lists
quiet-part path part h = search quiet-lists

quiet-old : (path : TracedPath) (old : Option Part) → list_any (part_touches path) (option_to_list old) ≡ false
    → AreQuiet path (pieces_of_any old)
quiet-old path None h = quiet-none path
quiet-old path (Some part) h = quiet-part path part (neither (part_touches path part) false h).0

-- ---- a path

module _ (a b : Book) (s : Source) (r : Receiver) where
  stays-by : In s (sources_within b r) → a.globals ≡ b.globals → surroundings_of a s r ≡ surroundings_of b s r → PathStays a b s r
  stays-by i globals around = record {
    within = contains s (sources_within b r) i;
    trace = ap (λ (seen : Surroundings). trace_along seen (ends_of s r)) around;
    bundle =
        ap (λ (g : Globals). bundle_over g (surroundings_of a s r) s r) globals
        ∙ ap (λ (seen : Surroundings). bundle_over b.globals seen s r) around;
  }

  -- a source that no piece is stays within reach
  source-stays : (old new : Book) → ListsEdited old new a b → AreQuiet (traced a r s) old → In s (sources_within a r)
      → In s (sources_within b r)
  source-stays old new e quiet i =
      let kept = from-filter (λ (x : Source). is_within a.globals.reach x.at r.at) s a.sources i in
      in-filter (λ (x : Source). is_within b.globals.reach x.at r.at) s b.sources
      (in-stays old.sources new.sources a.sources b.sources e.lists.sources s
      (λ j. let no : bytes_eq s.name s.name ≡ false = quiet.sources s j in
      let yes : bytes_eq s.name s.name ≡ true = (bytes_eq-Decides s.name s.name).1 refl in cc) kept.0)
      (ap (λ (g : Globals). is_within g.reach s.at r.at) e.globals ∙ kept.1)

  lists-stay : UncrossedIsUnblocked → (old new : Book) → ListsEdited old new a b → AreQuiet (traced a r s) old
      → AreQuiet (traced a r s) new → In s (sources_within a r) → PathStays a b s r
  lists-stay unblocked old new e h k i =
      stays-by (source-stays old new e h i) (sym e.globals) (surroundings-stay unblocked a b s r old new e h k)

  receivers-stay : b ≡ with_receivers a b.receivers → In s (sources_within a r) → PathStays a b s r
  receivers-stay same i = stays-by
      (subst (λ (book : Book). In s (sources_within book r)) (sym same) i)
      (sym (ap (λ (book : Book). book.globals) same))
      (sym (ap (λ (book : Book). surroundings_of book s r) same))

path-stays : UncrossedIsUnblocked → (edit : Edit) (a b : Book) (s : Source) (r : Receiver) → Changes edit a b
    → In s (sources_within a r) → touches_path edit a r s ≡ false → PathStays a b s r
path-stays unblocked (edits.Put part) a b s r e i h =
    let parts = neither (part_touches (traced a r s) part) (list_any (part_touches (traced a r s)) (option_to_list (replaced part a))) h in
    lists-stay a b s r unblocked (pieces_of_any (replaced part a)) (pieces_of part) e
    (quiet-old (traced a r s) (replaced part a) parts.1) (quiet-part (traced a r s) part parts.0) i
path-stays unblocked (edits.Remove name) a b s r e i h =
    lists-stay a b s r unblocked (pieces_of_any (part_named a name)) no_pieces e
    (quiet-old (traced a r s) (part_named a name) h) (quiet-none (traced a r s)) i
path-stays unblocked (edits.Grid grid) a b s r e i h = receivers-stay a b s r e.0 i
path-stays unblocked (edits.Set setting) a b s r e i h = cc

pub untouched-paths-stay : UncrossedIsUnblocked → AcceptedChanges → UntouchedPathsStay
untouched-paths-stay unblocked changes edit a b old s r accepted within h =
    path-stays unblocked edit a b s r (changes edit a b old accepted) (found-in s (sources_within a r) within) h

-- ---- a receiver

-- a source that an edit puts or removes lies out of reach
abbrev IsFar : Receiver → ℕ → Source → Type 0
IsFar r reach x = is_within reach x.at r.at ≡ false

abbrev AreFar : Receiver → ℕ → Book → Type 0
AreFar r reach pieces = (x : Source) → In x pieces.sources → IsFar r reach x

far-part : (r : Receiver) (reach : ℕ) (part : Part) → is_source_within reach r part ≡ false → AreFar r reach (pieces_of part)
far-part r reach (parts.Source source) h = one-element (IsFar r reach) source h
far-part r reach part h = no-elements (IsFar r reach)

far-old : (r : Receiver) (reach : ℕ) (old : Option Part) → list_any (is_source_within reach r) (option_to_list old) ≡ false
    → AreFar r reach (pieces_of_any old)
far-old r reach None h = no-elements (IsFar r reach)
far-old r reach (Some part) h = far-part r reach part (neither (is_source_within reach r part) false h).0

module _ (a b : Book) (r : Receiver) where
  lists-within : (old new : Book) → ListsEdited old new a b → AreFar r a.globals.reach old → AreFar r a.globals.reach new
      → sources_within a r ≡ sources_within b r
  lists-within old new e h k =
      filter-stays old.sources new.sources a.sources b.sources e.lists.sources (λ (x : Source). is_within a.globals.reach x.at r.at) h k
      ∙ ap (λ (g : Globals). filter (λ (x : Source). is_within g.reach x.at r.at) b.sources) (sym e.globals)

sources-stay : (edit : Edit) (a b : Book) (r : Receiver) → Changes edit a b → is_set edit ≡ false
    → list_any (is_source_within a.globals.reach r) (changed_parts edit (old_part edit a)) ≡ false
    → sources_within a r ≡ sources_within b r
sources-stay (edits.Put part) a b r e unset h =
    let parts = neither (is_source_within a.globals.reach r part) (list_any (is_source_within a.globals.reach r) (option_to_list (replaced part a))) h in
    lists-within a b r (pieces_of_any (replaced part a)) (pieces_of part) e
    (far-old r a.globals.reach (replaced part a) parts.1) (far-part r a.globals.reach part parts.0)
sources-stay (edits.Remove name) a b r e unset h =
    lists-within a b r (pieces_of_any (part_named a name)) no_pieces e
    (far-old r a.globals.reach (part_named a name) h) (no-elements (IsFar r a.globals.reach))
sources-stay (edits.Grid grid) a b r e unset h = sym (ap (λ (book : Book). sources_within book r) e.0)
sources-stay (edits.Set setting) a b r e unset h = cc

-- where each path stays and so does the list of sources, what is made of both stays
shown-stays : (a b : Book) (r : Receiver) → sources_within a r ≡ sources_within b r
    → ((s : Source) → In s (sources_within a r) → PathStays a b s r) → ReceiverStays a b r
unfolding show_of
shown-stays a b r same each = record {
  sources = same;
  traces =
      map-agrees (λ s. trace_of a s r) (λ s. trace_of b s r) (sources_within a r) (λ s i. (each s i).trace)
      ∙ ap (map (λ (s : Source). trace_of b s r)) same;
  shown = ap levels_of
      (map-agrees (λ s. bundle_of a s r) (λ s. bundle_of b s r) (sources_within a r) (λ s i. (each s i).bundle)
      ∙ ap (map (λ (s : Source). bundle_of b s r)) same);
}

receiver-stays : UncrossedIsUnblocked → (edit : Edit) (a b : Book) (r : Receiver) → Changes edit a b
    → touches_receiver edit a r ≡ false → ReceiverStays a b r
receiver-stays unblocked edit a b r e h =
    let old : Option Part = old_part edit a in
    let reached : Bool = list_any (is_source_within a.globals.reach r) (changed_parts edit old) in
    let last = neither ((is_set edit || names_receiver r.name edit old) || reached)
    (list_any (edit_touches edit old) (map (traced a r) (sources_within a r))) h in
    let far = neither (is_set edit || names_receiver r.name edit old) reached last.0 in
    let unset = neither (is_set edit) (names_receiver r.name edit old) far.0 in
    shown-stays a b r (sources-stay edit a b r e unset.0 far.1) (λ s i.
    path-stays unblocked edit a b s r e i
    (fails-at (edit_touches edit old) (traced a r s) (map (traced a r) (sources_within a r))
    (in-map (traced a r) s (sources_within a r) i) last.1))

pub untouched-receivers-stay : UncrossedIsUnblocked → AcceptedChanges → UntouchedReceiversStay
untouched-receivers-stay unblocked changes edit a b old r accepted h =
    receiver-stays unblocked edit a b r (changes edit a b old accepted) h

-- ---- edits in a row

stays-still : (a : Book) (s : Source) (r : Receiver) → Contains (sources_within a r) s → PathStays a a s r
stays-still a s r within = record { within = within; trace = refl; bundle = refl }

stays-on : (a b c : Book) (s : Source) (r : Receiver) → PathStays a b s r → PathStays b c s r → PathStays a c s r
stays-on a b c s r first second = record {
  within = second.within;
  trace = first.trace ∙ second.trace;
  bundle = first.bundle ∙ second.bundle;
}

pub untouched-in-turn : UntouchedPathsStay → UntouchedPathsStayInTurn
untouched-in-turn law [] a b s r same within = subst (λ (c : Book). PathStays a c s r) same (stays-still a s r within)
untouched-in-turn law (edit ∷ edits) a b s r (next, accepted, untouched, rest) within =
    let first : PathStays a next s r = law edit a next accepted.0 s r accepted.1 within untouched in
    stays-on a next b s r first (untouched-in-turn law edits next b s r rest first.within)

receiver-still : (a : Book) (r : Receiver) → ReceiverStays a a r
receiver-still a r = record { sources = refl; traces = refl; shown = refl }

receiver-on : (a b c : Book) (r : Receiver) → ReceiverStays a b r → ReceiverStays b c r → ReceiverStays a c r
receiver-on a b c r first second = record {
  sources = first.sources ∙ second.sources;
  traces = first.traces ∙ second.traces;
  shown = first.shown ∙ second.shown;
}

pub receivers-in-turn : UntouchedReceiversStay → UntouchedReceiversStayInTurn
receivers-in-turn law [] a b r same = subst (λ (c : Book). ReceiverStays a c r) same (receiver-still a r)
receivers-in-turn law (edit ∷ edits) a b r (next, accepted, untouched, rest) =
    receiver-on a next b r (law edit a next accepted.0 r accepted.1 untouched) (receivers-in-turn law edits next b r rest)
