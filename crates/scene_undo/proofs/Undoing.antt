-- What undoes an edit.
use Rattle.std.proofs.Common.{◌≡◌, ℕ, ◌≤◌, refl, sym, ap, subst, ◌∙◌, arith, Bool, true, false, cond, List, [], ◌∷◌, length}
use Rattle.std.specs.Prelude.{bytes_eq, Option, Some, None, IfSome, map}
use Rattle.scene_parts.specs.Parts.{Receiver, Grid, setting_of}
use Rattle.scene_parts.specs.declared.parts.Part.{Part}
use Rattle.scene_parts.specs.declared.parts.Part.TheVariants as parts
use Rattle.scene_parts.specs.declared.parts.Class.TheVariants as classes
use Rattle.scene_book.specs.declared.edits.Edit.{Edit}
use Rattle.scene_book.specs.declared.edits.Edit.TheVariants as edits
use Rattle.scene_book.specs.Book.{most_receivers, Book, Slot, OfEachSlot, IsWithin, with_setting}
use Rattle.scene_book.specs.Lists.{named, put_in, NoneNamed, AreApart}
use Rattle.scene_book.specs.Grid.{receivers_of}
use Rattle.scene_book.specs.Applying.{apply_of, part_named, name_of, with_part, without, replaced, in_limits}
use Rattle.scene_book.specs.Orders.{SameParts}
use Rattle.scene_book.proofs.ListLemmas.{length-put_in-there, length-take_out}
use Rattle.scene_book.proofs.GridLemmas.{rows-apart}
use Rattle.scene_book.proofs.SlotLemmas.{each_to, of_named}
use Rattle.scene_undo.specs.Inverse.{put_back}
use Rattle.scene_undo.specs.Scenes.{IsGridWithin}
use Rattle.scene_undo.specs.Laws.{LeadTo, UndoLaw}
use Rattle.scene_undo.proofs.Maps.{one_name, own_name, other_way, found-name, shuffled-length}
use Rattle.scene_undo.proofs.Spaces.{IsMap, One, Found, receiver_in, split, Kin, kin-back, ReceiverOrNone, receiver-kin, fine, put-found, put-map, take-found, take-map, SameFound, same-map, found-same}
use Rattle.scene_undo.proofs.Accepting.{left, put-accepted, put-accepts, remove-accepted, remove-accepts, grid-accepted, set-accepted, set-accepts, within-fits, puts_in, at_most-fits}
use Rattle.scene_undo.proofs.Grids.{AllKin, AtReceiver, AllThere, all-kin, grid-map, grid-other, grid-there}
use Rattle.scene_undo.proofs.Kept.{put-globals, take-globals, same-within, scene-map}

-- ---- the part that a name finds

-- what holds of what each list has under a name holds of the part that bears it
pub of_found : (P : Part → Type 0) (a : Book) (name : List ℕ)
    → OfEachSlot (λ A slot. IfSome (named slot.name_of name (slot.list_of a)) (λ x. P (slot.part_of x)))
    → IfSome (part_named a name) P
of_found P a name each = of_named (λ found. IfSome found P) a name (each_to there each) tt
  where
    there : (A : Type 0) (slot : Slot A) → IfSome (named slot.name_of name (slot.list_of a)) (λ x. P (slot.part_of x))
        → (x : A) → named slot.name_of name (slot.list_of a) ≡ Some x → P (slot.part_of x)
    there A slot is x e = subst (λ found. IfSome found (λ x. P (slot.part_of x))) e is

-- it bears the name
found-bears : {A : Type 0} (name_of : A → List ℕ) (name : List ℕ) (xs : List A) → IfSome (named name_of name xs) (λ x. name ≡ name_of x)
found-bears {A = A} name_of name xs = by (named name_of name xs) refl
  where
    by : (found : Option A) → named name_of name xs ≡ found → IfSome found (λ x. name ≡ name_of x)
    by None e = tt
    by (Some x) e = found-name name_of name x xs e

part-name : (name : List ℕ) (part : Part) (a : Book) → part_named a name ≡ Some part → name ≡ name_of part
part-name name part a is =
    subst (λ found. IfSome found (λ p. name ≡ name_of p)) is (of_found (λ p. name ≡ name_of p) a name (search found-bears))

-- ---- one edit, and the rest

-- an edit, accepted, gives a name back what it found in a scene, and changes no other name
record IsGivenBack (name : List ℕ) (edit : Edit) (a b next : Book) : Type 0 where
  old : Option Part
  accepted : apply_of edit b ≡ left next old
  names : IsMap next
  globals : next.globals ≡ b.globals
  here : part_named next name ≡ part_named a name
  others : (other : List ℕ) → bytes_eq other name ≡ false → part_named next other ≡ part_named b other

-- what a part's put makes each name find
put-each : (name : List ℕ) (part : Part) (b : Book) → IsMap b → name ≡ name_of part → Kin part (part_named b (name_of part))
    → (other : List ℕ) → part_named (with_part part b) other ≡ cond (bytes_eq other name) (Some part) (part_named b other)
put-each name part b map bears owns other = put-found part b map.one owns other ∙ rw bears refl

put-given : (name : List ℕ) (part : Part) (a b : Book) → IsMap b → part_named a name ≡ Some part → name ≡ name_of part
    → Kin part (part_named b (name_of part)) → in_limits part (with_part part b) ≡ fine
    → IsGivenBack name (edits.Put part) a b (with_part part b)
put-given name part a b map is bears owns room = record {
  old = replaced part b;
  accepted = put-accepts part b owns room;
  names = put-map part b map owns;
  globals = put-globals part b;
  here = put-each name part b map bears owns name ∙ rw (own_name name) (sym is);
  others = λ other e. put-each name part b map bears owns other ∙ rw e refl;
}

take-given : (name : List ℕ) (part : Part) (a b : Book) → IsMap b → part_named a name ≡ None → part_named b name ≡ Some part
    → IsGivenBack name (edits.Remove name) a b (without name part b)
take-given name part a b map is there = record {
  old = Some part;
  accepted = remove-accepts name part b there;
  names = take-map name part b map there;
  globals = take-globals name part b;
  here = take-found name part b map there name ∙ rw (own_name name) (sym is);
  others = λ other e. take-found name part b map there other ∙ rw e refl;
}

-- an accepted edit, and then the others
pub lead-on : (goal : Book) (edit : Edit) (rest : List Edit) (b next : Book) (old : Option Part) → apply_of edit b ≡ left next old
    → LeadTo goal rest next → LeadTo goal (edit ∷ rest) b
lead-on goal edit rest b next old e h = (h.0, rw e h.1, h.2)

-- ---- a put and a removal

-- a name given back, where it alone was changed
one-left : (name : List ℕ) (a b : Book) → IsMap a → IsMap b → b.globals ≡ a.globals → part_named b name ≡ part_named a name
    → ((other : List ℕ) → bytes_eq other name ≡ false → part_named b other ≡ part_named a other) → SameParts a b
one-left name a b map names globals here others =
    found-same a b map names (λ other. by other (bytes_eq other name) refl) globals
  where
    by : (other : List ℕ) (t : Bool) → bytes_eq other name ≡ t → part_named a other ≡ part_named b other
    by other true e =
        let is : other ≡ name = one_name other name e in
        ap (part_named a) is ∙ sym here ∙ ap (part_named b) (sym is)
    by other false e = sym (others other e)

-- what is to be given back to a name, and what it finds
abbrev CanGiveBack : Option Part → Option Part → Type 0
CanGiveBack None found = (part : Part) × (found ≡ Some part)
CanGiveBack (Some part) found = Kin part found

-- the edit that gives a name back, where it alone was changed, leads back
given-back : (name : List ℕ) (a b : Book) → IsWithin a → IsMap a → IsMap b → b.globals ≡ a.globals
    → ((other : List ℕ) → bytes_eq other name ≡ false → part_named b other ≡ part_named a other)
    → CanGiveBack (part_named a name) (part_named b name) → LeadTo a (put_back name (part_named a name) ∷ []) b
given-back name a b within map other globals others can = by (part_named a name) refl can
  where
    by : (was : Option Part) → part_named a name ≡ was → CanGiveBack was (part_named b name) → LeadTo a (put_back name was ∷ []) b
    by None is can =
        let given = take-given name can.0 a b other is can.1 in
        let next = without name can.0 b in
        lead-on a (edits.Remove name) [] b next given.old given.accepted
        (next, refl, one-left name a next map given.names (given.globals ∙ globals) given.here (λ n e. given.others n e ∙ others n e))
    by (Some part) is can =
        let bears : name ≡ name_of part = part-name name part a is in
        let owns : Kin part (part_named b (name_of part)) = subst (λ n. Kin part (part_named b n)) bears can in
        let next = with_part part b in
        let found = put-each name part b other bears owns in
        let same : SameParts a next =
        one-left name a next map (put-map part b other owns) (put-globals part b ∙ globals)
        (found name ∙ rw (own_name name) (sym is)) (λ n e. found n ∙ rw e (others n e)) in
        lead-on a (edits.Put part) [] b next (replaced part b)
        (put-accepts part b owns (within-fits part next (same-within a next same within)))
        (next, refl, same)

-- ---- a grid

-- the receiver of a name that finds one
receiver-there : (name : List ℕ) (s : Receiver) (b : Book) → One b → part_named b name ≡ Some (parts.Receiver s)
    → named (λ r. r.name) name b.receivers ≡ Some s
receiver-there name s b one is = ap receiver_in (one name ∙ ap split is)

-- a name of a grid is given back
abbrev Step : List ℕ → Edit → Book → Book → Type 0
Step name edit a b = (next : Book) × IsGivenBack name edit a b next × (length next.receivers ≤ most_receivers)

put-step : (name : List ℕ) (q : Receiver) (a b : Book) → IsMap a → IsMap b → part_named a name ≡ Some (parts.Receiver q)
    → AtReceiver (part_named b name) → length b.receivers ≤ most_receivers → Step name (edits.Put (parts.Receiver q)) a b
put-step name q a b map other is there room =
    let bears : name ≡ q.name = part-name name (parts.Receiver q) a is in
    let found : part_named b q.name ≡ Some (parts.Receiver there.0) = ap (part_named b) (sym bears) ∙ there.1 in
    let owns : Kin (parts.Receiver q) (part_named b q.name) = subst (Kin (parts.Receiver q)) (sym found) refl in
    let as_long : length (put_in (λ r. r.name) q b.receivers) ≡ length b.receivers =
    length-put_in-there (λ r. r.name) q there.0 b.receivers (receiver-there q.name there.0 b other.one found) in
    let fits : length (put_in (λ r. r.name) q b.receivers) ≤ most_receivers = omega (arith, as_long, room) in (
      with_part (parts.Receiver q) b,
      put-given name (parts.Receiver q) a b other is bears owns
          (at_most-fits classes.Receiver most_receivers (length (put_in (λ r. r.name) q b.receivers)) fits),
      fits,
    )

take-step : (name : List ℕ) (a b : Book) → IsMap b → part_named a name ≡ None → AtReceiver (part_named b name)
    → length b.receivers ≤ most_receivers → Step name (edits.Remove name) a b
take-step name a b other is there room = (
  without name (parts.Receiver there.0) b,
  take-given name (parts.Receiver there.0) a b other is there.1,
  omega (arith, room, length-take_out (λ r. r.name) name b.receivers),
)

grid-step : (r : Receiver) (a b : Book) → IsMap a → IsMap b → Kin (parts.Receiver r) (part_named a r.name)
    → AtReceiver (part_named b r.name) → length b.receivers ≤ most_receivers
    → Step r.name (put_back r.name (part_named a r.name)) a b
grid-step r a b map other kin there room = by (part_named a r.name) refl (receiver-kin r (part_named a r.name) kin)
  where
    by : (was : Option Part) → part_named a r.name ≡ was → ReceiverOrNone was → Step r.name (put_back r.name was) a b
    by None is h = take-step r.name a b other is there room
    by (Some part) is h =
        subst (λ (was : Part). Step r.name (put_back r.name (Some was)) a b) (sym h.1)
        (put-step r.name h.0 a b map other (is ∙ ap Some h.1) there room)

-- receivers stay under names that an edit doesn't change
there-kept : (name : List ℕ) (news : List Receiver) (b next : Book)
    → ((other : List ℕ) → bytes_eq other name ≡ false → part_named next other ≡ part_named b other)
    → NoneNamed (λ r. r.name) name news → AllThere b news → AllThere next news
there-kept name [] b next others none there = tt
there-kept name (s ∷ rest) b next others none there =
    ((there.0.0, others s.name (other_way name s.name false none.0) ∙ there.0.1), there-kept name rest b next others none.1 there.1)

-- the edits that give the names of receivers back
abbrev give_back : List Receiver → Book → List Edit
give_back news a = map (λ name. put_back name (part_named a name)) (map (λ receiver. receiver.name) news)

grid-back : (news : List Receiver) (a b : Book) → IsMap a → AreApart (λ r. r.name) news → AllKin a news
    → IsMap b → b.globals ≡ a.globals
    → ((other : List ℕ) → NoneNamed (λ r. r.name) other news → part_named b other ≡ part_named a other)
    → AllThere b news → length b.receivers ≤ most_receivers → LeadTo a (give_back news a) b
grid-back [] a b map apart kin other globals others there room =
    (b, refl, found-same a b map other (λ name. sym (others name tt)) globals)
grid-back (r ∷ rest) a b map apart kin other globals others there room =
    let step = grid-step r a b map other kin.0 there.0 room in
    let next = step.0 in
    let given = step.1 in
    lead-on a (put_back r.name (part_named a r.name)) (give_back rest a) b next given.old given.accepted
    (grid-back rest a next map apart.1 kin.1 given.names (given.globals ∙ globals)
    (λ name none. by next given.here given.others name none (bytes_eq name r.name) refl)
    (there-kept r.name rest b next given.others apart.0 there.1) step.2)
  where
    by : (next : Book) → part_named next r.name ≡ part_named a r.name
        → ((other : List ℕ) → bytes_eq other r.name ≡ false → part_named next other ≡ part_named b other)
        → (name : List ℕ) → NoneNamed (λ r. r.name) name rest → (t : Bool) → bytes_eq name r.name ≡ t
        → part_named next name ≡ part_named a name
    by next here unchanged name none true e =
        let is : name ≡ r.name = one_name name r.name e in
        ap (part_named next) is ∙ here ∙ ap (part_named a) (sym is)
    by next here unchanged name none false e = unchanged name e ∙ others name (e, none)

grid-apart : (grid : Grid) → IsGridWithin grid → AreApart (λ r. r.name) (receivers_of grid)
grid-apart grid is =
    rows-apart grid 0 grid.rows (omega (arith, is.rows)) (omega (arith, is.columns))

-- ---- the law

-- what a put leaves can be given back
can-back : (part : Part) (was found : Option Part) → Kin part was → found ≡ Some part → CanGiveBack was found
can-back part None found kin is = (part, is)
can-back part (Some old) found kin is = subst (Kin old) (sym is) (kin-back part (Some old) kin)

there-same : (news : List Receiver) (a b : Book) → SameFound a b → AllThere a news → AllThere b news
there-same [] a b same there = tt
there-same (r ∷ rest) a b same there =
    ((there.0.0, sym (same r.name) ∙ there.0.1), there-same rest a b same there.1)

pub undo : UndoLaw
undo (edits.Put part) a b c old is-edit is e same =
    let put = put-accepted part a c old e in
    let map = scene-map a is in
    let after = with_part part a in
    let alike = same-map after b (subst (λ (x : Book). SameParts x b) (sym put.made) same) (put-map part a map put.kin) in
    let found : (name : List ℕ) → part_named b name ≡ cond (bytes_eq name (name_of part)) (Some part) (part_named a name) =
    λ name. sym (alike.1 name) ∙ put-found part a map.one put.kin name in
    given-back (name_of part) a b is.within map alike.0
    (same.globals ∙ ap (λ (x : Book). x.globals) (sym put.made) ∙ put-globals part a)
    (λ name apart. found name ∙ rw apart refl)
    (can-back part (part_named a (name_of part)) (part_named b (name_of part)) put.kin
    (found (name_of part) ∙ rw (own_name (name_of part)) refl))
undo (edits.Remove name) a b c old is-edit is e same =
    let removed = remove-accepted name a c old e in
    let map = scene-map a is in
    let after = without name removed.part a in
    let alike = same-map after b (subst (λ (x : Book). SameParts x b) (sym removed.made) same) (take-map name removed.part a map removed.found) in
    let found : (other : List ℕ) → part_named b other ≡ cond (bytes_eq other name) None (part_named a other) =
    λ other. sym (alike.1 other) ∙ take-found name removed.part a map removed.found other in
    let gone : part_named b name ≡ None = found name ∙ rw (own_name name) refl in
    given-back name a b is.within map alike.0
    (same.globals ∙ ap (λ (x : Book). x.globals) (sym removed.made) ∙ take-globals name removed.part a)
    (λ other apart. found other ∙ rw apart refl)
    (subst (λ (was : Option Part). CanGiveBack was (part_named b name)) (sym removed.found)
    (subst (Kin removed.part) (sym gone) tt))
undo (edits.Grid grid) a b c old is-edit is e same =
    let put = grid-accepted grid a c old e in
    let map = scene-map a is in
    let news = receivers_of grid in
    let kin = all-kin a news put.own in
    let after = puts_in news a in
    let here : SameParts after b = subst (λ (x : Book). SameParts x b) (sym put.made) same in
    let alike = same-map after b here (grid-map news a map kin) in
    grid-back news a b map (grid-apart grid is-edit) kin alike.0 here.globals
    (λ name none. sym (alike.1 name) ∙ grid-other name news a map kin none)
    (there-same news after b alike.1 (grid-there news a map kin))
    (omega (arith, put.room, shuffled-length after.receivers b.receivers here.lists.receivers))
undo (edits.Set setting) a b c old is-edit is e same =
    let made = set-accepted setting a c old e in
    let here : SameParts (with_setting setting a) b = subst (λ (x : Book). SameParts x b) (sym made) same in
    lead-on a (edits.Set (setting_of a.globals)) [] b (with_setting (setting_of a.globals) b) None
    (set-accepts (setting_of a.globals) b) (with_setting (setting_of a.globals) b, refl, search here)
