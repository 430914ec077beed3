-- The removes of pieces of a scene are accepted one after the other.
use Rattle.std.proofs.Common.{◌≡◌, ℕ, refl, sym, ◌∙◌, subst, List, [], ◌∷◌, Bool, true, false, cond}
use Rattle.std.specs.Prelude.{Ok, IsOk, Option, Some, None, is_some, map, filter, bytes_eq, ◌&&◌, not}
use Rattle.std.proofs.lemmas.Slice.Eq.{bytes_eq-Decides}
use Rattle.scene_parts.specs.Parts.{Source}
use Rattle.scene_parts.specs.declared.parts.Part.TheVariants as parts
use Rattle.scene_book.specs.declared.edits.Edit.TheVariants as edits
use Rattle.scene_book.specs.Book.{Book}
use Rattle.scene_book.specs.Lists.{named, take_out, NoneNamed, AreApart}
use Rattle.scene_book.specs.Applying.{apply_of, remove_of, applied}
use Rattle.line_sources.specs.Pieces.{is_piece, is_put, beyond, removes}

-- ---- names in a list of sources

abbrev own : Source → List ℕ
own source = source.name

abbrev self : List ℕ → List ℕ
self name = name

-- each name is there
abbrev AllNamed : List (List ℕ) → List Source → Type 0
AllNamed [] sources = Unit {0}
AllNamed (name ∷ names) sources = (is_some (named own name sources) ≡ true) × AllNamed names sources

other_way : (a b : List ℕ) → bytes_eq a b ≡ false → bytes_eq b a ≡ false
other_way a b e = by (bytes_eq b a) refl
  where
    by : (t : Bool) → bytes_eq b a ≡ t → t ≡ false
    by true h = sym ((bytes_eq-Decides a b).1 (sym ((bytes_eq-Decides b a).0 h))) ∙ e
    by false h = refl

-- a name that is taken out takes no other with it
other-stays : (name other : List ℕ) (sources : List Source) → bytes_eq other name ≡ false
    → is_some (named own other (take_out own name sources)) ≡ is_some (named own other sources)
other-stays name other [] e = refl
other-stays name other (source ∷ sources) e = by (bytes_eq name source.name) refl (other-stays name other sources e)
  where
    kept : (test : Bool) → is_some (named own other (take_out own name sources)) ≡ is_some (named own other sources)
        → is_some (cond test (Some source) (named own other (take_out own name sources))) ≡ is_some (cond test (Some source) (named own other sources))
    kept true rest = refl
    kept false rest = rest

    by : (test : Bool) → bytes_eq name source.name ≡ test → is_some (named own other (take_out own name sources)) ≡ is_some (named own other sources)
        → is_some (named own other (cond test sources (source ∷ take_out own name sources))) ≡ is_some (named own other (source ∷ sources))
    by true h rest =
        let P : List ℕ → Type 0 = λ n. bytes_eq other n ≡ false in
        let differs : bytes_eq other source.name ≡ false = subst P ((bytes_eq-Decides name source.name).0 h) e in
        rw differs refl
    by false h rest = kept (bytes_eq other source.name) rest

all-stay : (name : List ℕ) (names : List (List ℕ)) (sources : List Source) → NoneNamed self name names → AllNamed names sources → AllNamed names (take_out own name sources)
all-stay name [] sources apart h = tt
all-stay name (other ∷ names) sources apart h =
    (other-stays name other sources (other_way name other apart.0) ∙ h.0, all-stay name names sources apart.1 h.1)

-- ---- the removes

removed : (name : List ℕ) (book : Book) (source : Source) → named own name book.sources ≡ Some source
    → apply_of (edits.Remove name) book ≡ Ok (record book { sources = take_out own name book.sources }, Some (parts.Source source))
unfolding apply_of remove_of
removed name book source e = rw e refl

pub removes-accepted : (names : List (List ℕ)) (book : Book) → AreApart self names → AllNamed names book.sources → IsOk (applied (removes names) book)
removes-accepted [] book apart h = refl
removes-accepted (name ∷ names) book apart h =
    by (named own name book.sources) refl h.0
    (removes-accepted names (record book { sources = take_out own name book.sources }) apart.1 (all-stay name names book.sources apart.0 h.1))
  where
    by : (found : Option Source) → named own name book.sources ≡ found → is_some found ≡ true
        → IsOk (applied (removes names) (record book { sources = take_out own name book.sources })) → IsOk (applied (removes (name ∷ names)) book)
    by None e k rest = cc
    by (Some source) e k rest = rw (removed name book source e) rest

-- ---- pieces in a list

all-more : (source : Source) (names : List (List ℕ)) (sources : List Source) → AllNamed names sources → AllNamed names (source ∷ sources)
all-more source [] sources h = tt
all-more source (name ∷ names) sources h = (by (bytes_eq name source.name), all-more source names sources h.1)
  where
    by : (test : Bool) → is_some (cond test (Some source) (named own name sources)) ≡ true
    by true = refl
    by false = h.0

all-own : (sources : List Source) → AllNamed (map own sources) sources
all-own [] = tt
all-own (source ∷ sources) =
    let same : bytes_eq source.name source.name ≡ true = (bytes_eq-Decides source.name source.name).1 refl in
    (rw same refl, all-more source (map own sources) sources (all-own sources))

all-filtered : (test : List ℕ → Bool) (names : List (List ℕ)) (sources : List Source) → AllNamed names sources → AllNamed (filter test names) sources
all-filtered test [] sources h = tt
all-filtered test (name ∷ names) sources h = by (test name) (all-filtered test names sources h.1)
  where
    by : (b : Bool) → AllNamed (filter test names) sources → AllNamed (cond b (name ∷ filter test names) (filter test names)) sources
    by true rest = (h.0, rest)
    by false rest = rest

none-filtered : (test : List ℕ → Bool) (name : List ℕ) (names : List (List ℕ)) → NoneNamed self name names → NoneNamed self name (filter test names)
none-filtered test name [] h = tt
none-filtered test name (other ∷ names) h = by (test other) (none-filtered test name names h.1)
  where
    by : (b : Bool) → NoneNamed self name (filter test names) → NoneNamed self name (cond b (other ∷ filter test names) (filter test names))
    by true rest = (h.0, rest)
    by false rest = rest

apart-filtered : (test : List ℕ → Bool) (names : List (List ℕ)) → AreApart self names → AreApart self (filter test names)
apart-filtered test [] h = tt
apart-filtered test (name ∷ names) h = by (test name) (apart-filtered test names h.1)
  where
    by : (b : Bool) → AreApart self (filter test names) → AreApart self (cond b (name ∷ filter test names) (filter test names))
    by true rest = (none-filtered test name names h.0, rest)
    by false rest = rest

none-own : (name : List ℕ) (sources : List Source) → NoneNamed own name sources → NoneNamed self name (map own sources)
none-own name [] h = tt
none-own name (source ∷ sources) h = (h.0, none-own name sources h.1)

apart-own : (sources : List Source) → AreApart own sources → AreApart self (map own sources)
apart-own [] h = tt
apart-own (source ∷ sources) h = (none-own source.name sources h.0, apart-own sources h.1)

pub beyond-removed : (name : List ℕ) (news : List Source) (book : Book) → AreApart own book.sources → IsOk (applied (removes (beyond name news book.sources)) book)
beyond-removed name news book apart =
    let test : List ℕ → Bool = λ text. is_piece name text && not (is_put news text) in
    removes-accepted (beyond name news book.sources) book (apart-filtered test (map own book.sources) (apart-own book.sources apart))
    (all-filtered test (map own book.sources) book.sources (all-own book.sources))
