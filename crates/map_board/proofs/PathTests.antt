-- The tests of all rows' paths, row by row.
use Rattle.std.proofs.Common.{◌≡◌, ℕ, zero, suc, ◌+◌, ◌<◌, ◌≤◌, Bool, List, [], ◌∷◌, ◌++◌, length, map, take, drop, Some, None, refl, sym, ap, ◌∙◌, arith, add-one, get_or}
use Rattle.std.specs.Prelude.{slice_get, Option, IfSome, Vec, min, ◌&&◌}
use Rattle.std.specs.List.{zip}
use Rattle.std.specs.declared.alloc.Global.{Global}
use Rattle.std.specs.Option.{option_map}
use Rattle.std.specs.Borrow.{Bor}
use Rattle.std.proofs.lemmas.List.{map-append, length-append}
use Rattle.std.proofs.Math.Seq.{take-append_seam, drop-append_seam}
use Rattle.scene_parts.specs.Parts.{Receiver}
use Rattle.scene_book.specs.declared.edits.Logged.{Logged}
use Rattle.path_calc.specs.Bundles.{Bundle}
use Rattle.map_board.specs.declared.rows.caches.Cache.{Cache}
use Rattle.map_board.specs.declared.rows.HeldRow.{HeldRow}
use Rattle.map_board.specs.inner.Paths.{counted, kept_of_row, kept_at, paths_to, paths_of, test_of, tests_to, tests_of}

pub map-map : {A B C : Type 0} (g : B → C) (f : A → B) (xs : List A) → map (λ x. g (f x)) xs ≡ map g (map f xs)
map-map g f [] = refl
map-map g f (x ∷ xs) = ap (λ l. g (f x) ∷ l) (map-map g f xs)

-- ---- bundles with their marks

abbrev with_marks : Bool → List Bundle → List Bool → List (Bundle × Bool)
with_marks counts bs ms = map (λ kept. (kept.0, counts && kept.1)) (zip bs ms)

counted-length : (counts : Bool) (bs : List Bundle) (ms : List Bool) → length (with_marks counts bs ms) ≡ min (length bs) (length ms)
counted-length counts [] ms = omega arith
counted-length counts (b ∷ bs) [] = omega arith
counted-length counts (b ∷ bs) (m ∷ ms) = let rest = counted-length counts bs ms in omega (arith, rest)

pub counted-many : (counts : Bool) (cache : Cache) → length (counted counts cache) ≡ min (length cache.bundles.items) (length cache.marks.items)
counted-many counts cache = counted-length counts cache.bundles.items cache.marks.items

one-counted : (counts : Bool) (bs : List Bundle) (ms : List Bool) (i : ℕ) (b : Bundle) (m : Bool) → i < length bs → i < length ms → b ≡ get_or bs i b → m ≡ get_or ms i m
    → take (suc i) (with_marks counts bs ms) ≡ take i (with_marks counts bs ms) ++ (b, counts && m) ∷ []
one-counted counts [] ms i b m some more is mark = absurd (omega arith)
one-counted counts (x ∷ bs) [] i b m some more is mark = absurd (omega arith)
one-counted counts (x ∷ bs) (y ∷ ms) zero b m some more is mark = λ j. (sym is j, counts && sym mark j) ∷ []
one-counted counts (x ∷ bs) (y ∷ ms) (suc i) b m some more is mark =
    ap (λ l. (x, counts && y) ∷ l) (one-counted counts bs ms i b m (omega arith) (omega arith) is mark)

-- one place further
pub next-counted : (counts : Bool) (cache : Cache) (i : ℕ) (b : Bundle) (m : Bool) → i < length cache.bundles.items → i < length cache.marks.items
    → b ≡ get_or cache.bundles.items i b → m ≡ get_or cache.marks.items i m
    → take (i + 1) (counted counts cache) ≡ take i (counted counts cache) ++ (b, counts && m) ∷ []
next-counted counts cache i b m some more is mark =
    ap (λ n. take n (counted counts cache)) (add-one i) ∙ one-counted counts cache.bundles.items cache.marks.items i b m some more is mark

-- without rows there are no paths
pub none-of : (rs : List Receiver) → paths_of rs [] ≡ []
none-of [] = refl
none-of (r ∷ rs) = refl

module _ (logged : Logged) where
  first : (r : Receiver) (kepts : List (Bundle × Bool)) (rest : List (Receiver × (Bundle × Bool)))
      → map (test_of logged) (paths_to r kepts ++ rest) ≡ tests_to logged r kepts ++ map (test_of logged) rest
  first r kepts rest =
      map-append (test_of logged) (paths_to r kepts) rest
      ∙ ap (λ l. l ++ map (test_of logged) rest) (sym (map-map (test_of logged) (λ kept. (r, kept)) kepts))

  -- the tests from a place on are those of the row there and then those of the rows behind it
  pub tests-split : (rs : List Receiver) (helds : List HeldRow) (i : ℕ) (r : Receiver) → slice_get rs i ≡ Some r
      → tests_of logged (drop i rs) (drop i helds)
      ≡ tests_to logged r (kept_at (slice_get helds i)) ++ tests_of logged (drop (suc i) rs) (drop (suc i) helds)
  tests-split [] helds i r at = absurd (cc at)
  tests-split (x ∷ rs) [] zero r at = sym (ap (map (test_of logged)) (none-of rs))
  tests-split (x ∷ rs) [] (suc i) r at = ap (map (test_of logged)) (none-of (drop i rs) ∙ sym (none-of (drop (suc i) rs)))
  tests-split (x ∷ rs) (held ∷ helds) zero r at =
      let is : x ≡ r = cc at in
      first x (kept_of_row held) (paths_of rs helds)
      ∙ ap (λ (y : Receiver). tests_to logged y (kept_of_row held) ++ tests_of logged rs helds) is
  tests-split (x ∷ rs) (held ∷ helds) (suc i) r at = tests-split rs helds i r at

-- ---- tests cut in two

abbrev pub Are : List Bool → Option (Bor (List Bool)) → Type 0
Are tests known = IfSome known (λ t. t.now ≡ tests)

-- those of a vector, as a slice
pub slice-are : (tests : List Bool) (known : Option (Vec Bool Global)) (part : Option (Bor (List Bool))) → IfSome known (λ t. t.items ≡ tests)
    → option_map (λ (t : Bor (List Bool)). t.now) part ≡ option_map (λ (t : Vec Bool Global). t.items) known → Are tests part
slice-are tests known None are same = tt
slice-are tests None (Some p) are same = absurd (cc same)
slice-are tests (Some v) (Some p) are same =
    let is : p.now ≡ v.items = cc same in
    is ∙ are

module _ (known : Option (Bor (List Bool))) (front rest : List Bool) (are : Are (front ++ rest) known) (count : ℕ) (many : count ≡ length front) where
  pub cut-within : IfSome known (λ t. count ≤ length t.now)
  cut-within = go known are where
    go : (o : Option (Bor (List Bool))) → Are (front ++ rest) o → IfSome o (λ t. count ≤ length t.now)
    go None h = tt
    go (Some t) h = omega (arith, many, ap length h, length-append front rest)

  pub cut-front : (part : Option (Bor (List Bool))) → option_map (λ (t : Bor (List Bool)). t.now) part ≡ option_map (λ (t : Bor (List Bool)). take count t.now) known → Are front part
  cut-front part same = go known part are same where
    go : (o part : Option (Bor (List Bool))) → Are (front ++ rest) o
        → option_map (λ (t : Bor (List Bool)). t.now) part ≡ option_map (λ (t : Bor (List Bool)). take count t.now) o → Are front part
    go o None h same = tt
    go None (Some p) h same = absurd (cc same)
    go (Some t) (Some p) h same =
        let is : p.now ≡ take count t.now = cc same in
        is ∙ ((λ i. take (many i) (h i)) ∙ take-append_seam front rest)

  pub cut-rest : (part : Option (Bor (List Bool))) → option_map (λ (t : Bor (List Bool)). t.now) part ≡ option_map (λ (t : Bor (List Bool)). drop count t.now) known → Are rest part
  cut-rest part same = go known part are same where
    go : (o part : Option (Bor (List Bool))) → Are (front ++ rest) o
        → option_map (λ (t : Bor (List Bool)). t.now) part ≡ option_map (λ (t : Bor (List Bool)). drop count t.now) o → Are rest part
    go o None h same = tt
    go None (Some p) h same = absurd (cc same)
    go (Some t) (Some p) h same =
        let is : p.now ≡ drop count t.now = cc same in
        is ∙ ((λ i. drop (many i) (h i)) ∙ drop-append_seam front rest)
