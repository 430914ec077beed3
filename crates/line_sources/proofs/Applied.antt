-- Edits one after the other: of a line that is refused, only its first pieces matter.
use Rattle.std.proofs.Common.{◌≡◌, ℕ, suc, ◌+◌, ◌^◌, ◌≤◌, ◌<◌, inl, inr, refl, sym, ap, ◌∙◌, arith, List, [], ◌∷◌, ◌++◌, length, take, drop, append_assoc, Bool, true, false}
use Rattle.std.specs.Prelude.{Result, Ok, Err, IsOk, Option, bytes_eq, ◌||◌, if◌then◌else◌, nat_lt}
use Rattle.std.proofs.lemmas.Bool.{cases_lt}
use Rattle.std.proofs.lemmas.Slice.Eq.{bytes_eq-Decides}
use Rattle.std.proofs.lemmas.List.{take_all, length-take, length-take-le, take-append-drop, map-append}
use Rattle.scene_parts.specs.Parts.{Source}
use Rattle.scene_parts.specs.Answers.{◌>>=◌, ◌>>◌, Unless}
use Rattle.scene_parts.specs.declared.parts.Part.{Part}
use Rattle.scene_parts.specs.declared.parts.Part.TheVariants as parts
use Rattle.scene_parts.specs.declared.parts.Class.{Class}
use Rattle.scene_parts.specs.declared.parts.Class.TheVariants as classes
use Rattle.scene_book.specs.declared.edits.Edit.{Edit}
use Rattle.scene_book.specs.declared.edits.Edit.TheVariants as edits
use Rattle.scene_book.specs.declared.edits.EditFault.{EditFault}
use Rattle.scene_book.specs.declared.edits.EditFault.TheVariants.{Full}
use Rattle.scene_book.specs.Book.{Book, at_most, most_sources}
use Rattle.scene_book.specs.Lists.{put_in, put_all, NoneNamed, AreApart}
use Rattle.scene_book.specs.Applying.{applied, apply_of, put_of, put_where_room, own_class, holder, in_limits, with_part, replaced}
use Rattle.line_sources.specs.Pieces.{is_put, puts, removes, beyond, accepted, all_accepted, edits_with, sources_of, line_edits_of}
use Rattle.command_lines.specs.Views.{LineSource}
use Rattle.line_sources.proofs.Numbering.{first-apart}

-- ---- runs of edits

same-ok : {A E : Type 0} (r : Result A E) (x y : A) → r ≡ Ok x → r ≡ Ok y → x ≡ y
same-ok r x y e f = cc

-- what refuses the first edits refuses all
refused : (first rest : List Edit) (book : Book) (fault : EditFault) → applied first book ≡ Err fault → applied (first ++ rest) book ≡ Err fault
refused [] rest book fault e = cc
refused (edit ∷ first) rest book fault e = by (apply_of edit book) (λ after h. refused first rest after fault h) e
  where
    by : (r : Result (Book × Option Part) EditFault) → ((after : Book) → applied first after ≡ Err fault → applied (first ++ rest) after ≡ Err fault)
        → (r >>= λ after. applied first after.0) ≡ Err fault → (r >>= λ after. applied (first ++ rest) after.0) ≡ Err fault
    by (Ok after) behind e = behind after.0 e
    by (Err f) behind e = e

-- ---- accepted puts

-- no fault, and the scene with a source beside the one that it replaces
abbrev fine : Result (Unit {0}) EditFault
fine = Ok tt

abbrev put_done : Source → Book → Result (Book × Option Part) EditFault
put_done source book = Ok (with_part (parts.Source source) book, replaced (parts.Source source) book)

abbrev left : Book → Option Part → Result (Book × Option Part) EditFault
left after old = Ok (after, old)

at_most-ok : (class : Class) (limit count : ℕ) → at_most class limit count ≡ fine → count ≤ limit
at_most-ok class limit count e = by (nat_lt limit count) refl e
  where
    by : (test : Bool) → nat_lt limit count ≡ test → (if test then Err (Full class limit) else fine) ≡ fine → count ≤ limit
    by true h e = cc
    by false h e = grind arith

-- an accepted put of a source is in the list, and there is room for it
record IsPut (source : Source) (book after : Book) : Type 0 where
  list : after.sources ≡ put_in (λ s. s.name) source book.sources
  room : length after.sources ≤ most_sources

put-room : (source : Source) (book after : Book) (old : Option Part) (r : Result (Unit {0}) EditFault)
    → r ≡ at_most classes.Source most_sources (length (put_in (λ s. s.name) source book.sources))
    → (r >> put_done source book) ≡ left after old → IsPut source book after
put-room source book after old (Err fault) is e = cc
put-room source book after old (Ok u) is e =
    let done : Book × Option Part = (with_part (parts.Source source) book, replaced (parts.Source source) book) in
    let kept : Book × Option Part = (after, old) in
    let pair : done ≡ kept = same-ok (put_done source book) done kept refl e in
    let same : with_part (parts.Source source) book ≡ after = ap (λ (p : Book × Option Part). p.0) pair in
    let list : after.sources ≡ put_in (λ s. s.name) source book.sources = sym (ap (λ (b : Book). b.sources) same) in
    record {
      list = list;
      room = rw list (at_most-ok classes.Source most_sources (length (put_in (λ s. s.name) source book.sources)) (sym is));
    }

put-owned : (source : Source) (book after : Book) (old : Option Part) (r : Result (Unit {0}) EditFault)
    → (r >> (in_limits (parts.Source source) (with_part (parts.Source source) book) >> put_done source book)) ≡ left after old → IsPut source book after
put-owned source book after old (Err fault) e = cc
put-owned source book after old (Ok u) e = put-room source book after old (in_limits (parts.Source source) (with_part (parts.Source source) book)) refl e

put-accepted : (source : Source) (book after : Book) (old : Option Part) → apply_of (edits.Put (parts.Source source)) book ≡ left after old → IsPut source book after
unfolding apply_of put_of put_where_room
put-accepted source book after old e =
    put-owned source book after old (own_class source.name classes.Source (holder book source.name)) e

-- all puts, where each is accepted
puts-accepted : (news : List Source) (book after : Book) → applied (puts news) book ≡ Ok after → length book.sources ≤ most_sources
    → (after.sources ≡ put_all (λ s. s.name) news book.sources) × (length after.sources ≤ most_sources)
puts-accepted [] book after e few = let same : book ≡ after = cc in (sym (ap (λ (b : Book). b.sources) same), rw (← same) few)
puts-accepted (new ∷ news) book after e few =
    by (apply_of (edits.Put (parts.Source new)) book) refl (λ next h room. puts-accepted news next after h room) e
  where
    by : (r : Result (Book × Option Part) EditFault) → apply_of (edits.Put (parts.Source new)) book ≡ r
        → ((next : Book) → applied (puts news) next ≡ Ok after → length next.sources ≤ most_sources → (after.sources ≡ put_all (λ s. s.name) news next.sources) × (length after.sources ≤ most_sources))
        → (r >>= λ next. applied (puts news) next.0) ≡ Ok after
        → (after.sources ≡ put_all (λ s. s.name) (new ∷ news) book.sources) × (length after.sources ≤ most_sources)
    by (Err fault) h behind e = cc
    by (Ok next) h behind e =
        let put = put-accepted new book next.0 next.1 h in
        let rest = behind next.0 e put.room in
        (rest.0 ∙ ap (put_all (λ s. s.name) news) put.list, rest.1)

-- ---- how long a list is after puts

-- how many things bear none of these names
abbrev free : List Source → List Source → ℕ
free news [] = 0
free news (thing ∷ things) = (if is_put news thing.name then 0 else 1) + free news things

free-none : (things : List Source) → free [] things ≡ length things
free-none [] = refl
free-none (thing ∷ things) = omega (arith, free-none things)

fewer : (a b : Bool) → (if a || b then 0 else 1) ≤ (if b then 0 else 1)
fewer true true = omega arith
fewer true false = omega arith
fewer false b = omega arith

free-fewer : (new : Source) (news things : List Source) → free (new ∷ news) things ≤ free news things
free-fewer new news [] = omega arith
free-fewer new news (thing ∷ things) = omega (arith, fewer (bytes_eq thing.name new.name) (is_put news thing.name), free-fewer new news things)

none-put : (name : List ℕ) (news : List Source) → NoneNamed (λ s. s.name) name news → is_put news name ≡ false
none-put name [] h = refl
none-put name (new ∷ news) h = rw h.0 (none-put name news h.1)

flipped : (a b : List ℕ) → bytes_eq a b ≡ true → bytes_eq b a ≡ true
flipped a b h = (bytes_eq-Decides b a).1 (sym ((bytes_eq-Decides a b).0 h))

-- a put of a new name: it bears none of the further names, and what it replaces bore its own
free-put : (new : Source) (news things : List Source) → NoneNamed (λ s. s.name) new.name news
    → suc (free (new ∷ news) things) ≤ free news (put_in (λ s. s.name) new things)
free-put new news [] none = rw (none-put new.name news none) (omega arith)
free-put new news (thing ∷ things) none = by (bytes_eq new.name thing.name) refl (free-put new news things none)
  where
    by : (test : Bool) → bytes_eq new.name thing.name ≡ test → suc (free (new ∷ news) things) ≤ free news (put_in (λ s. s.name) new things)
        → suc (free (new ∷ news) (thing ∷ things)) ≤ free news (if test then new ∷ things else thing ∷ put_in (λ s. s.name) new things)
    by true h rest = rw (flipped new.name thing.name h, none-put new.name news none) (omega (arith, free-fewer new news things))
    by false h rest = omega (arith, fewer (bytes_eq thing.name new.name) (is_put news thing.name), rest)

length-put_all : (news things : List Source) → AreApart (λ s. s.name) news → length news + free news things ≤ length (put_all (λ s. s.name) news things)
length-put_all [] things apart = omega (arith, free-none things)
length-put_all (new ∷ news) things apart =
    omega (arith, length-put_all news (put_in (λ s. s.name) new things) apart.1, free-put new news things apart.0)

-- ---- the first sources of a line

-- more sources than a scene may have are refused
too_many : (news : List Source) (book after : Book) → AreApart (λ s. s.name) news → length book.sources ≤ most_sources → most_sources < length news → applied (puts news) book ≡ Ok after → ⊥
too_many news book after apart few many e =
    let put = puts-accepted news book after e few in
    let long : length after.sources ≡ length (put_all (λ s. s.name) news book.sources) = ap length put.0 in
    omega (arith, many, put.1, long, length-put_all news book.sources apart)

accepted-refused : (list : List Edit) (book : Book) (fault : EditFault) → applied list book ≡ Err fault → accepted list book ≡ Err fault
accepted-refused list book fault e = rw e refl

-- so the first ones tell the answer
pub first-enough : (name : List ℕ) (book : Book) (all : List Source) → length book.sources ≤ most_sources → AreApart (λ s. s.name) (take 129 all)
    → accepted (edits_with name book (take 129 all)) book ≡ accepted (edits_with name book all) book
first-enough name book all few apart =
    elim (cases_lt 129 (length all)) [
      | inl many ↦ refused_both many (applied (puts (take 129 all)) book) refl
      | inr whole ↦ rw (take_all 129 all whole) refl
    ]
  where
    refused_both : 129 < length all → (r : Result Book EditFault) → applied (puts (take 129 all)) book ≡ r
        → accepted (edits_with name book (take 129 all)) book ≡ accepted (edits_with name book all) book
    refused_both many (Ok after) h =
        absurd (too_many (take 129 all) book after apart few (omega (arith, length-take-le 129 all (omega (arith, many)))) h)
    refused_both many (Err fault) h =
        let first = puts (take 129 all) in
        let rest = removes (beyond name all book.sources) in
        let parts : puts all ++ rest ≡ first ++ (puts (drop 129 all) ++ rest) =
        ap (λ (l : List Source). puts l ++ rest) (sym (take-append-drop 129 all))
        ∙ ap (λ (l : List Edit). l ++ rest) (map-append (λ (s : Source). edits.Put (parts.Source s)) (take 129 all) (drop 129 all))
        ∙ append_assoc first (puts (drop 129 all)) rest in
        accepted-refused (edits_with name book (take 129 all)) book fault (refused first (removes (beyond name (take 129 all) book.sources)) book fault h)
        ∙ sym (accepted-refused (edits_with name book all) book fault (ap (λ (l : List Edit). applied l book) parts ∙ refused first (puts (drop 129 all) ++ rest) book fault h))

-- what a trial of all edits tells
pub accepted-tried : (list : List Edit) (book : Book) → all_accepted list book ≡ fine → (accepted list book ≡ Ok list) × IsOk (applied list book)
accepted-tried list book e = by (applied list book) e
  where
    by : (r : Result Book EditFault) → (r >> fine) ≡ fine → ((r >> Ok list) ≡ Ok list) × IsOk r
    by (Ok after) e = (refl, refl)
    by (Err fault) e = cc

pub refused-tried : (list : List Edit) (book : Book) (fault : EditFault) (test : Bool) → Unless test (all_accepted list book ≡ Err fault) → Unless test (accepted list book ≡ Err fault)
refused-tried list book fault true e = tt
refused-tried list book fault false e = by (applied list book) e
  where
    by : (r : Result Book EditFault) → (r >> fine) ≡ Err fault → (r >> Ok list) ≡ Err fault
    by (Ok after) e = cc
    by (Err f) e = cc

-- the edits of a line by its first sources
pub line-edits : (line : LineSource) (book : Book) (name : List ℕ) (news : List Source) (others : List (List ℕ)) → name ≡ line.name → news ≡ take 129 (sources_of line)
    → others ≡ beyond name news book.sources → length book.sources ≤ most_sources → accepted (puts news ++ removes others) book ≡ line_edits_of line book
unfolding line_edits_of
line-edits line book name news others e f g few =
    let short : length (take 129 (sources_of line)) ≤ 2 ^ 64 = omega (arith, length-take 129 (sources_of line)) in
    rw (g, e, f) (first-enough line.name book (sources_of line) few (first-apart line 129 short))
