-- Receivers put one after another: what a scene has under each name then.
use Rattle.std.proofs.Common.{◌≡◌, ℕ, refl, sym, subst, ◌∙◌, Bool, true, false, cond, List, [], ◌∷◌}
use Rattle.std.specs.Prelude.{bytes_eq, Option, Some}
use Rattle.scene_parts.specs.Parts.{Receiver}
use Rattle.scene_parts.specs.declared.parts.Part.{Part}
use Rattle.scene_parts.specs.declared.parts.Part.TheVariants as parts
use Rattle.scene_parts.specs.declared.parts.Class.TheVariants as classes
use Rattle.scene_book.specs.Lists.{NoneNamed}
use Rattle.scene_book.specs.Book.{Book}
use Rattle.scene_book.specs.Applying.{part_named, holder, own_class, all_own, with_part}
use Rattle.scene_undo.proofs.Maps.{own_name}
use Rattle.scene_undo.proofs.Spaces.{IsMap, Kin, kin-from, fine, put-found, put-map}
use Rattle.scene_undo.proofs.Accepting.{then-ok, puts_in}

-- no name of these receivers is borne by a part of another class
abbrev pub AllKin : Book → List Receiver → Type 0
AllKin a [] = Unit {0}
AllKin a (r ∷ rest) = Kin (parts.Receiver r) (part_named a r.name) × AllKin a rest

pub all-kin : (a : Book) (news : List Receiver) → all_own a news ≡ fine → AllKin a news
all-kin a [] e = tt
all-kin a (r ∷ rest) e =
    let both = then-ok (own_class r.name classes.Receiver (holder a r.name)) (all_own a rest) tt e in
    (kin-from r.name (parts.Receiver r) (part_named a r.name) both.0, all-kin a rest both.1)

-- nor is it once one of them is put
kin-more : (r : Receiver) (a : Book) (rest : List Receiver) → IsMap a → Kin (parts.Receiver r) (part_named a r.name)
    → AllKin a rest → AllKin (with_part (parts.Receiver r) a) rest
kin-more r a [] map kin h = tt
kin-more r a (s ∷ rest) map kin h =
    (subst (Kin (parts.Receiver s)) (sym (put-found (parts.Receiver r) a map.one kin s.name)) (by (bytes_eq s.name r.name)), kin-more r a rest map kin h.1)
  where
    by : (t : Bool) → Kin (parts.Receiver s) (cond t (Some (parts.Receiver r)) (part_named a s.name))
    by true = refl
    by false = h.0

pub grid-map : (news : List Receiver) (a : Book) → IsMap a → AllKin a news → IsMap (puts_in news a)
grid-map [] a map h = map
grid-map (r ∷ rest) a map h =
    grid-map rest (with_part (parts.Receiver r) a) (put-map (parts.Receiver r) a map h.0) (kin-more r a rest map h.0 h.1)

-- under every other name stays what was there
pub grid-other : (name : List ℕ) (news : List Receiver) (a : Book) → IsMap a → AllKin a news → NoneNamed (λ r. r.name) name news
    → part_named (puts_in news a) name ≡ part_named a name
grid-other name [] a map h none = refl
grid-other name (r ∷ rest) a map h none =
    grid-other name rest (with_part (parts.Receiver r) a) (put-map (parts.Receiver r) a map h.0) (kin-more r a rest map h.0 h.1) none.1
    ∙ put-found (parts.Receiver r) a map.one h.0 name
    ∙ rw none.0 refl

-- a receiver is there
abbrev pub AtReceiver : Option Part → Type 0
AtReceiver found = (q : Receiver) × (found ≡ Some (parts.Receiver q))

stays : (name : List ℕ) (r : Receiver) (a : Book) → IsMap a → Kin (parts.Receiver r) (part_named a r.name)
    → AtReceiver (part_named a name) → AtReceiver (part_named (with_part (parts.Receiver r) a) name)
stays name r a map kin there = by (bytes_eq name r.name) (put-found (parts.Receiver r) a map.one kin name)
  where
    by : (t : Bool) → part_named (with_part (parts.Receiver r) a) name ≡ cond t (Some (parts.Receiver r)) (part_named a name)
        → AtReceiver (part_named (with_part (parts.Receiver r) a) name)
    by true e = (r, e)
    by false e = (there.0, e ∙ there.1)

grid-stays : (name : List ℕ) (news : List Receiver) (a : Book) → IsMap a → AllKin a news
    → AtReceiver (part_named a name) → AtReceiver (part_named (puts_in news a) name)
grid-stays name [] a map h there = there
grid-stays name (r ∷ rest) a map h there =
    grid-stays name rest (with_part (parts.Receiver r) a) (put-map (parts.Receiver r) a map h.0) (kin-more r a rest map h.0 h.1)
    (stays name r a map h.0 there)

-- under each name of these receivers is a receiver
abbrev pub AllThere : Book → List Receiver → Type 0
AllThere a [] = Unit {0}
AllThere a (r ∷ rest) = AtReceiver (part_named a r.name) × AllThere a rest

pub grid-there : (news : List Receiver) (a : Book) → IsMap a → AllKin a news → AllThere (puts_in news a) news
grid-there [] a map h = tt
grid-there (r ∷ rest) a map h =
    let next = with_part (parts.Receiver r) a in
    let next-map : IsMap next = put-map (parts.Receiver r) a map h.0 in
    let next-kin : AllKin next rest = kin-more r a rest map h.0 h.1 in (
      grid-stays r.name rest next next-map next-kin
          (r, put-found (parts.Receiver r) a map.one h.0 r.name ∙ rw (own_name r.name) refl),
      grid-there rest next next-map next-kin,
    )
