-- Bundles that stand as the sources of a scene do.
use Rattle.std.proofs.Common.{◌≡◌, ℕ, ◌+◌, ◌<◌, ◌≤◌, Bool, true, false, cond, List, [], ◌∷◌, ◌++◌, length, map, get_or, take, drop, Some, None, refl, sym, ap, subst, ◌∙◌, append_assoc, arith}
use Rattle.std.specs.Prelude.{Option, All, filter, unwrap_or, bytes_eq, is_none, slice_set, slice_get, count_by, sum_by, if◌then◌else◌}
use Rattle.std.proofs.lemmas.Slice.Eq.{bytes_eq-Decides}
use Rattle.std.proofs.lemmas.List.{length-map, get_or-map, take_more, take_all, append-nil, set_at, length-take-le}
use Rattle.std.proofs.Math.ListN.{drop_of_length-le}
use Rattle.std.proofs.lemmas.List.Sums.{count_by_more_yes, count_by_more_no, sum_by_more_le}
use Rattle.std.proofs.lemmas.List.Elements.{All-head, All-tail, All-cons, All-nil}
use Rattle.scene_parts.specs.Parts.{Source, Receiver}
use Rattle.scene_book.specs.Book.{Book}
use Rattle.scene_book.specs.Lists.{NoneNamed, AreApart}
use Rattle.path_calc.specs.Lengths.{is_within}
use Rattle.path_calc.specs.Bundles.{Bundle, bundle_of}
use Rattle.path_calc.specs.Show.{sources_within}
use Rattle.path_cache.specs.Refreshed.{unmarked, refreshed, refreshed_bundle, is_wanted, count_wanted, CanRefresh}
use Rattle.path_cache.specs.Standing.{AreOfEach, StandAsSources, FullRowsStand, RowsWithinReachAreFull}
use Rattle.path_cache.proofs.Searching.{hint-marked, hint-plain, unmarked-named}
use Rattle.path_cache.proofs.Ascending.{drop-here, there-is}

-- ---- filters that keep all

few-kept : {X : Type 0} (p : X → Bool) (xs : List X) → length (filter p xs) ≤ length xs
few-kept p [] = omega arith
few-kept {X} p (x ∷ xs) = next (p x) (few-kept p xs) where
  next : (test : Bool) → length (filter p xs) ≤ length xs → length (cond test (x ∷ filter p xs) (filter p xs)) ≤ length (x ∷ xs)
  next true h = omega arith
  next false h = omega arith

keeps-all : {X : Type 0} (p : X → Bool) (xs : List X) → All (λ x. p x ≡ true) xs → filter p xs ≡ xs
keeps-all p [] all = refl
keeps-all p (x ∷ xs) all =
    let here : p x ≡ true = All-head (λ y. p y ≡ true) x xs all in
    rw here (ap (λ ys. x ∷ ys) (keeps-all p xs (All-tail (λ y. p y ≡ true) x xs all)))

all-kept : {X : Type 0} (p : X → Bool) (xs : List X) → length (filter p xs) ≡ length xs → All (λ x. p x ≡ true) xs
all-kept p [] same = All-nil (λ y. p y ≡ true)
all-kept {X} p (x ∷ xs) same = next (p x) refl same (all-kept p xs) where
  next : (test : Bool) → p x ≡ test → length (cond test (x ∷ filter p xs) (filter p xs)) ≡ length (x ∷ xs)
      → (length (filter p xs) ≡ length xs → All (λ y. p y ≡ true) xs) → All (λ y. p y ≡ true) (x ∷ xs)
  next true is h rest = All-cons (λ y. p y ≡ true) x xs is (rest (omega (arith, h)))
  next false is h rest = absurd (omega (arith, h, few-kept p xs))

-- ---- rows of all sources

module _ (book : Book) (r : Receiver) (kept : List Bundle) (marks : List Bool) where
  pub refreshed-source : (s : Source) → (refreshed_bundle book r kept marks s).source ≡ s.name
  unfolding refreshed_bundle
  refreshed-source s = go (unmarked s.name kept marks) refl where
    go : (o : Option Bundle) → unmarked s.name kept marks ≡ o → (unwrap_or o (bundle_of book s r)).source ≡ s.name
    go None is = refl
    go (Some b) is = sym (unmarked-named s.name kept marks b is)

  refreshed-sources : (ss : List Source) → map (λ b. b.source) (map (refreshed_bundle book r kept marks) ss) ≡ map (λ s. s.name) ss
  refreshed-sources [] = refl
  refreshed-sources (s ∷ ss) =
      let head = refreshed-source s in
      let tail = refreshed-sources ss in
      λ i. head i ∷ tail i

  -- all sources are within reach
  full-when : All (λ s. is_within book.globals.reach s.at r.at ≡ true) book.sources
      → refreshed book r kept marks ≡ map (refreshed_bundle book r kept marks) book.sources
  full-when all = ap (map (refreshed_bundle book r kept marks)) (keeps-all (λ s. is_within book.globals.reach s.at r.at) book.sources all)

  pub refreshed-length : All (λ s. is_within book.globals.reach s.at r.at ≡ true) book.sources → length (refreshed book r kept marks) ≡ length book.sources
  refreshed-length all = ap length (full-when all) ∙ length-map book.sources (refreshed_bundle book r kept marks)

  pub refreshed-stands : length (refreshed book r kept marks) ≡ length book.sources → StandAsSources book r (refreshed book r kept marks)
  refreshed-stands full =
      let all : All (λ s. is_within book.globals.reach s.at r.at ≡ true) book.sources = all-kept (λ s. is_within book.globals.reach s.at r.at) book.sources
      (sym (length-map (sources_within book r) (refreshed_bundle book r kept marks)) ∙ full) in
      record {
        of_each = ap (map (λ b. b.source)) (full-when all) ∙ refreshed-sources book.sources;
        within = all;
      }

pub full-rows-stand : FullRowsStand
full-rows-stand = refreshed-stands

pub rows-within-reach-are-full : RowsWithinReachAreFull
rows-within-reach-are-full = refreshed-length

-- ---- names that are apart

none-by-names : {A B : Type 0} (f : A → List ℕ) (g : B → List ℕ) (name : List ℕ) (xs : List A) (ys : List B) → map g ys ≡ map f xs → NoneNamed f name xs → NoneNamed g name ys
none-by-names f g name [] [] same none = tt
none-by-names f g name (x ∷ xs) [] same none = tt
none-by-names f g name [] (y ∷ ys) same none = absurd (omega (arith, ap length same))
none-by-names f g name (x ∷ xs) (y ∷ ys) same none =
    let here : g y ≡ f x = cc in
    let rest : map g ys ≡ map f xs = cc in
    (subst (λ n. bytes_eq name n ≡ false) (sym here) none.0, none-by-names f g name xs ys rest none.1)

apart-by-names : {A B : Type 0} (f : A → List ℕ) (g : B → List ℕ) (xs : List A) (ys : List B) → map g ys ≡ map f xs → AreApart f xs → AreApart g ys
apart-by-names f g [] [] same apart = tt
apart-by-names f g (x ∷ xs) [] same apart = tt
apart-by-names f g [] (y ∷ ys) same apart = absurd (omega (arith, ap length same))
apart-by-names f g (x ∷ xs) (y ∷ ys) same apart =
    let here : g y ≡ f x = cc in
    let rest : map g ys ≡ map f xs = cc in
    (subst (λ n. NoneNamed g n ys) (sym here) (none-by-names f g (f x) xs ys rest apart.0), apart-by-names f g xs ys rest apart.1)

-- where the sources of a scene bear names that are apart, so do bundles of each
pub apart-as-sources : (sources : List Source) (kept : List Bundle) → AreOfEach sources kept → AreApart (λ s. s.name) sources → AreApart (λ bundle. bundle.source) kept
apart-as-sources sources kept of_each apart = apart-by-names (λ (s : Source). s.name) (λ (bundle : Bundle). bundle.source) sources kept of_each apart

-- ---- kept bundles that stand as the sources do, place by place

module _ (book : Book) (r : Receiver) (kept : List Bundle) (stand : StandAsSources book r kept) where
  pub as-many : length kept ≡ length book.sources
  as-many = sym (length-map kept (λ b. b.source)) ∙ ap length stand.of_each ∙ length-map book.sources (λ s. s.name)

  pub named-at : (i : ℕ) (b : Bundle) (s : Source) → i < length kept → b ≡ get_or kept i b → s ≡ get_or book.sources i s → s.name ≡ b.source
  named-at i b s below b-is s-is =
      ap (λ (x : Source). x.name) s-is
      ∙ sym (get_or-map (λ (x : Source). x.name) book.sources i s [] (omega (arith, below, as-many)))
      ∙ ap (λ (names : List (List ℕ)). get_or names i []) (sym stand.of_each)
      ∙ get_or-map (λ (x : Bundle). x.source) kept i b [] below
      ∙ ap (λ (x : Bundle). x.source) (sym b-is)

  same-name : (i : ℕ) (b : Bundle) (s : Source) → i < length kept → b ≡ get_or kept i b → s ≡ get_or book.sources i s → bytes_eq s.name b.source ≡ true
  same-name i b s below b-is s-is = (bytes_eq-Decides s.name b.source).1 (named-at i b s below b-is s-is)

  abbrev counts : List Bool → Source → ℕ
  counts marks s = if is_wanted kept marks s then 1 else 0

  module _ (marks : List Bool) (can : CanRefresh kept marks) where
    pub as-long : length (refreshed book r kept marks) ≡ length kept
    as-long = refreshed-length book r kept marks stand.within ∙ sym as-many

    -- the steps are those of all sources
    pub counted : count_by (is_wanted kept marks) book.sources ≡ count_wanted book r kept marks
    counted = ap (count_by (is_wanted kept marks)) (sym (keeps-all (λ s. is_within book.globals.reach s.at r.at) book.sources stand.within))

    -- the row is refreshed up to its end
    pub all-refreshed : (n : ℕ) → length kept ≤ n → take n (refreshed book r kept marks) ++ drop n kept ≡ refreshed book r kept marks
    all-refreshed n past =
        ap (λ bs. take n (refreshed book r kept marks) ++ bs) (drop_of_length-le kept past)
        ∙ append-nil (take n (refreshed book r kept marks))
        ∙ take_all n (refreshed book r kept marks) (omega (arith, past, as-long))

    module _ (i : ℕ) (b : Bundle) (s : Source) (below : i < length kept) (b-is : b ≡ get_or kept i b) (s-is : s ≡ get_or book.sources i s) where
      unmarked-none : get_or marks i false ≡ true → unmarked s.name kept marks ≡ None
      unmarked-none marked = sym (hint-marked s.name kept marks i b can.apart below can.one_each b-is (same-name i b s below b-is s-is) marked)

      unmarked-some : get_or marks i false ≡ false → unmarked s.name kept marks ≡ Some b
      unmarked-some plain = sym (hint-plain s.name kept marks i b can.apart below can.one_each b-is (same-name i b s below b-is s-is) plain)

      wanted-here : get_or marks i false ≡ true → is_wanted kept marks (get_or book.sources i s) ≡ true
      wanted-here marked = ap (is_wanted kept marks) (sym s-is) ∙ ap is_none (unmarked-none marked)

      unwanted-here : get_or marks i false ≡ false → is_wanted kept marks (get_or book.sources i s) ≡ false
      unwanted-here plain = ap (is_wanted kept marks) (sym s-is) ∙ ap is_none (unmarked-some plain)

      -- the steps for the sources so far, and for one more
      pub wanted-more : get_or marks i false ≡ true
          → count_by (is_wanted kept marks) (take (i + 1) book.sources) ≡ count_by (is_wanted kept marks) (take i book.sources) + 1
      wanted-more marked = count_by_more_yes (is_wanted kept marks) book.sources i s (omega (arith, below, as-many)) (wanted-here marked)

      pub unwanted-more : get_or marks i false ≡ false
          → count_by (is_wanted kept marks) (take (i + 1) book.sources) ≡ count_by (is_wanted kept marks) (take i book.sources)
      unwanted-more plain = count_by_more_no (is_wanted kept marks) book.sources i s (omega (arith, below, as-many)) (unwanted-here plain)

      pub one-wanted : get_or marks i false ≡ true → count_by (is_wanted kept marks) (take i book.sources) + 1 ≤ count_wanted book r kept marks
      one-wanted marked =
          let with_it : sum_by (counts marks) (take i book.sources) + counts marks (get_or book.sources i s) ≤ sum_by (counts marks) book.sources =
          sum_by_more_le (counts marks) book.sources i s (omega (arith, below, as-many)) in
          let one : counts marks (get_or book.sources i s) ≡ 1 = ap (λ (wanted : Bool). if wanted then 1 else 0) (wanted-here marked) in
          omega (arith, with_it, one, counted)

      marked-here : get_or marks i false ≡ true → refreshed_bundle book r kept marks s ≡ bundle_of book s r
      unfolding refreshed_bundle
      marked-here marked = ap (λ o. unwrap_or o (bundle_of book s r)) (unmarked-none marked)

      plain-here : get_or marks i false ≡ false → refreshed_bundle book r kept marks s ≡ b
      unfolding refreshed_bundle
      plain-here plain = ap (λ o. unwrap_or o (bundle_of book s r)) (unmarked-some plain)

      at-place : get_or (refreshed book r kept marks) i b ≡ refreshed_bundle book r kept marks s
      at-place =
          ap (λ bs. get_or bs i b) (full-when book r kept marks stand.within)
          ∙ get_or-map (refreshed_bundle book r kept marks) book.sources i s b (omega (arith, below, as-many))
          ∙ ap (refreshed_bundle book r kept marks) (sym s-is)

      -- the refreshed bundles before a place and one more
      one-more : take (i + 1) (refreshed book r kept marks) ≡ take i (refreshed book r kept marks) ++ refreshed_bundle book r kept marks s ∷ []
      one-more =
          take_more (refreshed book r kept marks) i b (omega (arith, below, as-long))
          ∙ ap (λ x. take i (refreshed book r kept marks) ++ x ∷ []) at-place

      -- with the kept ones from the next place on
      and-rest : take (i + 1) (refreshed book r kept marks) ++ drop (i + 1) kept
          ≡ take i (refreshed book r kept marks) ++ refreshed_bundle book r kept marks s ∷ drop (i + 1) kept
      and-rest =
          ap (λ bs. bs ++ drop (i + 1) kept) one-more
          ∙ append_assoc (take i (refreshed book r kept marks)) (refreshed_bundle book r kept marks s ∷ []) (drop (i + 1) kept)

      here : drop i kept ≡ b ∷ drop (i + 1) kept
      here = drop-here kept i b below b-is

      front-long : length (take i (refreshed book r kept marks)) ≡ i
      front-long = length-take-le i (refreshed book r kept marks) (omega (arith, below, as-long))

      pub past-plain : get_or marks i false ≡ false
          → take i (refreshed book r kept marks) ++ drop i kept ≡ take (i + 1) (refreshed book r kept marks) ++ drop (i + 1) kept
      past-plain plain =
          ap (λ bs. take i (refreshed book r kept marks) ++ bs) here
          ∙ ap (λ x. take i (refreshed book r kept marks) ++ x ∷ drop (i + 1) kept) (sym (plain-here plain))
          ∙ sym and-rest

      pub past-marked : (new : Bundle) → new ≡ bundle_of book s r → get_or marks i false ≡ true
          → slice_set (take i (refreshed book r kept marks) ++ drop i kept) i new ≡ take (i + 1) (refreshed book r kept marks) ++ drop (i + 1) kept
      past-marked new is marked =
          ap (λ bs. slice_set (take i (refreshed book r kept marks) ++ bs) i new) here
          ∙ set_at (take i (refreshed book r kept marks)) b (drop (i + 1) kept) new i front-long
          ∙ ap (λ x. take i (refreshed book r kept marks) ++ x ∷ drop (i + 1) kept) (is ∙ sym (marked-here marked))
          ∙ sym and-rest

      -- the kept bundle at the place is there so far
      pub still-there : slice_get (take i (refreshed book r kept marks) ++ drop i kept) i ≡ slice_get kept i
      still-there = first-behind (take i (refreshed book r kept marks)) i front-long ∙ sym (there-is kept i b (drop (i + 1) kept) here) where
        first-behind : (front : List Bundle) (n : ℕ) → length front ≡ n → slice_get (front ++ drop i kept) n ≡ Some b
        first-behind [] n same = subst (λ k. slice_get (drop i kept) k ≡ Some b) same (ap (λ bs. slice_get bs 0) here)
        first-behind (x ∷ xs) n same = subst (λ k. slice_get (x ∷ (xs ++ drop i kept)) k ≡ Some b) same (first-behind xs (length xs) refl)
