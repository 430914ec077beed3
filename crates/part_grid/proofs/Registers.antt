-- The numbers of cells, from the entries that stand before one another.
use Rattle.std.proofs.Common.{◌≡◌, inl, inr, ℕ, zero, suc, ◌-◌, ◌<◌, ◌≤◌, Bool, true, false, List, [], ◌∷◌, ◌++◌, length, get_or, set, map, replicate, refl, sym, ap, ◌∙◌, arith, length-append}
use Rattle.std.specs.Prelude.{◌||◌, ◌==◌}
use Rattle.std.specs.List.{list_any}
use Rattle.std.proofs.lemmas.List.{get_or_append_left, get_or_at, map-set, get_or-map}
use Rattle.std.proofs.lemmas.List.{get_or-set_same, get_or-set_other}
use Rattle.std.proofs.lemmas.Bool.{cases_eq, cases_lt, eq-eqb, ne_eqb}
use Rattle.part_grid.specs.declared.numbers.register.Entry.{Entry}
use Rattle.part_grid.specs.inner.Register.{entry_at, numbers_from, lists_of, IsRegister}

-- more than enough places lead to no more numbers
numbers-more : (entries : List Entry) → ((k : ℕ) → k < length entries → (entry_at entries k).before ≤ k) → (most place : ℕ) → place ≤ most → place ≤ length entries
    → numbers_from (suc most) entries place ≡ numbers_from most entries place
numbers-more entries ordered zero zero h within = refl
numbers-more entries ordered zero (suc place) h within = absurd (omega arith)
numbers-more entries ordered (suc most) zero h within = refl
numbers-more entries ordered (suc most) (suc place) h within =
    let before : (entry_at entries place).before ≤ place = ordered place (omega arith) in
    ap (λ (ns : List ℕ). (entry_at entries place).number ∷ ns) (numbers-more entries ordered most (entry_at entries place).before (omega arith) (omega arith))

-- the numbers from a place are its own and those from the place before
pub numbers-next : (entries : List Entry) → ((k : ℕ) → k < length entries → (entry_at entries k).before ≤ k) → (most place : ℕ) → place < most → place < length entries
    → numbers_from most entries (suc place) ≡ (entry_at entries place).number ∷ numbers_from most entries (entry_at entries place).before
numbers-next entries ordered zero place h within = absurd (omega arith)
numbers-next entries ordered (suc most) place h within =
    let before : (entry_at entries place).before ≤ place = ordered place within in
    ap (λ (ns : List ℕ). (entry_at entries place).number ∷ ns) (sym (numbers-more entries ordered most (entry_at entries place).before (omega arith) (omega arith)))

-- an entry at the end changes nothing for the places before it
numbers-push : (entries : List Entry) (e : Entry) → ((k : ℕ) → k < length entries → (entry_at entries k).before ≤ k) → (most place : ℕ) → place ≤ length entries
    → numbers_from most (entries ++ e ∷ []) place ≡ numbers_from most entries place
numbers-push entries e ordered zero place h = refl
numbers-push entries e ordered (suc most) zero h = refl
numbers-push entries e ordered (suc most) (suc place) h =
    let here : entry_at (entries ++ e ∷ []) place ≡ entry_at entries place = get_or_append_left entries (e ∷ []) (record { number = 0; before = 0 }) place (omega arith) in
    let before : (entry_at entries place).before ≤ place = ordered place (omega arith) in
    ap (λ (x : Entry). x.number ∷ numbers_from most (entries ++ e ∷ []) x.before) here
    ∙ ap (λ (ns : List ℕ). (entry_at entries place).number ∷ ns) (numbers-push entries e ordered most (entry_at entries place).before (omega arith))

map-same : (f g : ℕ → List ℕ) (xs : List ℕ) → ((k : ℕ) → f (get_or xs k 0) ≡ g (get_or xs k 0)) → map f xs ≡ map g xs
map-same f g [] h = refl
map-same f g (x ∷ xs) h = ap (λ (ns : List ℕ). ns ∷ map f xs) (h zero) ∙ ap (λ (nss : List (List ℕ)). g x ∷ nss) (map-same f g xs (λ k. h (suc k)))

-- a number that is entered in a cell stands before those that were there
pub entered-lists : (newest : List ℕ) (entries : List Entry) (cell number before : ℕ) → IsRegister newest entries → cell < length newest → before ≡ get_or newest cell 0
    → lists_of (set newest cell (suc (length entries))) (entries ++ record { number = number; before = before } ∷ [])
    ≡ set (lists_of newest entries) cell (number ∷ get_or (lists_of newest entries) cell [])
entered-lists newest entries cell number before is h at =
    let e : Entry = record { number = number; before = before } in
    let n = length entries in
    let longer : length (entries ++ e ∷ []) ≡ suc n = omega (arith, length-append entries (e ∷ [])) in
    let f : ℕ → List ℕ = numbers_from n entries in
    let g : ℕ → List ℕ = numbers_from (suc n) (entries ++ e ∷ []) in
    let here : entry_at (entries ++ e ∷ []) n ≡ e = get_or_at entries e [] (record { number = 0; before = 0 }) n refl in
    let old : before ≤ n = rw at (is.cells cell) in
    let newest_is : g (suc n) ≡ number ∷ f before =
    ap (λ (x : Entry). x.number ∷ numbers_from n (entries ++ e ∷ []) x.before) here ∙ ap (λ (ns : List ℕ). number ∷ ns) (numbers-push entries e is.places n before old) in
    let others : map g newest ≡ map f newest =
    map-same g f newest (λ k. numbers-push entries e is.places (suc n) (get_or newest k 0) (is.cells k) ∙ numbers-more entries is.places n (get_or newest k 0) (is.cells k) (is.cells k)) in
    ap (λ (m : ℕ). map (numbers_from m (entries ++ e ∷ [])) (set newest cell (suc n))) longer
    ∙ map-set g newest cell (suc n)
    ∙ ap (λ (nss : List (List ℕ)). set nss cell (g (suc n))) others
    ∙ ap (λ (ns : List ℕ). set (map f newest) cell ns) (newest_is ∙ ap (λ (ns : List ℕ). number ∷ ns) (ap f at ∙ sym (get_or-map f newest cell 0 [] h)))

-- and the register keeps its order
pub entered-register : (newest : List ℕ) (entries : List Entry) (cell number before : ℕ) → IsRegister newest entries → cell < length newest → before ≡ get_or newest cell 0
    → IsRegister (set newest cell (suc (length entries))) (entries ++ record { number = number; before = before } ∷ [])
entered-register newest entries cell number before is h at =
    let e : Entry = record { number = number; before = before } in
    let none : Entry = record { number = 0; before = 0 } in
    let n = length entries in
    let longer : length (entries ++ e ∷ []) ≡ suc n = omega (arith, length-append entries (e ∷ [])) in
    let old : before ≤ n = rw at (is.cells cell) in
    record {
      cells = λ k. elim (cases_eq k cell) [
        | inl same ↦ (let here : get_or (set newest cell (suc n)) k 0 ≡ suc n = rw same (get_or-set_same newest cell (suc n) 0 h) in omega arith)
        | inr other ↦ (let there : get_or (set newest cell (suc n)) k 0 ≡ get_or newest k 0 = get_or-set_other newest cell k (suc n) 0 other in omega (arith, is.cells k))
      ];
      places = λ k below. elim (cases_lt k n) [
        | inl less ↦ rw (get_or_append_left entries (e ∷ []) none k less) (is.places k less)
        | inr last ↦ (let same : k ≡ n = omega arith in rw (same, get_or_at entries e [] none n refl) old)
      ];
    }

pub empty-register : (n : ℕ) → IsRegister (replicate n 0) []
empty-register n = record { cells = λ k. none n k; places = λ k h. absurd (omega arith) }
  where
    none : (n k : ℕ) → get_or (replicate n 0) k 0 ≤ 0
    none zero k = omega arith
    none (suc n) zero = omega arith
    none (suc n) (suc k) = none n k

pub empty-lists : (n : ℕ) → lists_of (replicate n 0) [] ≡ replicate n []
empty-lists zero = refl
empty-lists (suc n) = ap (λ (nss : List (List ℕ)). [] ∷ nss) (empty-lists n)

-- a mark at one more number
marked-number : (marks : List Bool) (number i : ℕ) → i < length marks → get_or (set marks number true) i false ≡ (get_or marks i false || (number == i))
marked-number marks number i h =
    elim (cases_eq i number) [
      | inl same ↦ rw (same, eq-eqb number number refl) (get_or-set_same marks number true false (omega arith) ∙ sym (or-true (get_or marks number false)))
      | inr other ↦ rw (ne_eqb number i (λ e. other (sym e))) (get_or-set_other marks number i true false other ∙ sym (or-false (get_or marks i false)))
    ]
  where
    or-true : (b : Bool) → (b || true) ≡ true
    or-true true = refl
    or-true false = refl

    or-false : (b : Bool) → (b || false) ≡ b
    or-false true = refl
    or-false false = refl

-- what is marked, and what the numbers from a place are, is the same after the number that stands there
marked-more : (entries : List Entry) (marks : List Bool) (place i : ℕ) (all : Bool) → ((k : ℕ) → k < length entries → (entry_at entries k).before ≤ k) → place < length entries → i < length marks
    → (get_or marks i false || list_any (λ n. n == i) (numbers_from (length entries) entries (suc place))) ≡ all
    → (get_or (set marks (entry_at entries place).number true) i false || list_any (λ n. n == i) (numbers_from (length entries) entries (entry_at entries place).before)) ≡ all
marked-more entries marks place i all ordered h within e =
    let rest = list_any (λ n. n == i) (numbers_from (length entries) entries (entry_at entries place).before) in
    ap (λ (b : Bool). b || rest) (marked-number marks (entry_at entries place).number i within)
    ∙ or-assoc (get_or marks i false) ((entry_at entries place).number == i) rest
    ∙ ap (λ (ns : List ℕ). get_or marks i false || list_any (λ n. n == i) ns) (sym (numbers-next entries ordered (length entries) place h h))
    ∙ e
  where
    or-assoc : (a b c : Bool) → ((a || b) || c) ≡ (a || (b || c))
    or-assoc true b c = refl
    or-assoc false b c = refl

pub turned : (entries : List Entry) (marks : List Bool) (place i : ℕ) (entry : Entry) (all : Bool) → ((k : ℕ) → k < length entries → (entry_at entries k).before ≤ k) → (place ≡ 0 → ⊥)
    → place ≤ length entries → entry ≡ entry_at entries (place - 1) → i < length marks
    → (get_or marks i false || list_any (λ n. n == i) (numbers_from (length entries) entries place)) ≡ all
    → (get_or (set marks entry.number true) i false || list_any (λ n. n == i) (numbers_from (length entries) entries entry.before)) ≡ all
turned entries marks zero i entry all ordered some within is below e = absurd (some refl)
turned entries marks (suc place) i entry all ordered some within is below e =
    let less : suc place - 1 ≡ place = omega arith in
    rw (is, less) (marked-more entries marks place i all ordered (omega arith) below e)

-- at the end no number is left
pub any-left : (entries : List Entry) (marked : Bool) (i place : ℕ) → place ≡ 0 → marked ≡ (marked || list_any (λ n. n == i) (numbers_from (length entries) entries place))
any-left entries marked i place none = rw none (or-none (length entries) marked)
  where
    or-none : (most : ℕ) (b : Bool) → b ≡ (b || list_any (λ n. n == i) (numbers_from most entries zero))
    or-none zero true = refl
    or-none zero false = refl
    or-none (suc most) true = refl
    or-none (suc most) false = refl
