-- A seat with all parts knows every entry of the history: they are as many as it and the seats joined into it made.
use Rattle.std.proofs.Common.{◌≡◌, ◌≢◌, ℕ, zero, suc, ◌+◌, ◌<◌, eqb, cond, List, [], ◌∷◌, length, map, get_or, refl, sym, ap, subst, arith, eq-eqb, ne_eqb}
use Rattle.std.specs.Prelude.{sum_by, count_by, All, AllPairs, Contains}
use Rattle.std.proofs.lemmas.List.Sums.{sum_by-cons}
use Rattle.std.proofs.lemmas.List.Elements.{All-head, All-tail}
use mathlib.Core.Logic.{dite}
use native.Mathlib.Decide.{ℕ_discrete}
use Rattle.turn_lock.specs.declared.entry.Entry.{Entry}
use Rattle.turn_lock.specs.declared.entry.Joined.{Joined}
use Rattle.turn_lock.specs.History.{entries_of, StepRelation, Permission}
use Rattle.turn_lock.specs.Standing.{Standing, numbers_of, SeatIsSound, all_parts}

pairs_head : {A : Type 0} (related : A → A → Type 0) (x : A) (xs : List A) → AllPairs related (x ∷ xs) → All (related x) xs
pairs_head related x xs pairs j d lt = pairs 0 (suc j) d (omega arith) (omega arith)

pairs_tail : {A : Type 0} (related : A → A → Type 0) (x : A) (xs : List A) → AllPairs related (x ∷ xs) → AllPairs related xs
pairs_tail related x xs pairs i j d lt within = pairs (suc i) (suc j) d (omega arith) (omega arith)

none_in : (ns : List ℕ) (x : ℕ) → All (λ n. x ≢ n) ns → count_by (λ n. eqb x n) ns ≡ 0
none_in [] x h = refl
none_in (n ∷ ns) x h =
    let miss : cond {A = ℕ} (eqb x n) 1 0 ≡ 0 = rw (ne_eqb x n (All-head (λ n. x ≢ n) n ns h)) in
    omega (arith, sum_by-cons (λ n. cond {A = ℕ} (eqb x n) 1 0) n ns, none_in ns x (All-tail (λ n. x ≢ n) n ns h))

in_tail : (n : ℕ) (ns : List ℕ) (x : ℕ) → x ≢ n → (k : ℕ) → k < length (n ∷ ns) → get_or (n ∷ ns) k x ≡ x → Contains ns x
in_tail n ns x other zero lt is = absurd (other (sym is))
in_tail n ns x other (suc k) lt is = (k, omega arith, is)

-- a number that is among numbers that all differ is there once
once_in : (ns : List ℕ) (x : ℕ) → AllPairs ◌≢◌ ns → Contains ns x → count_by (λ n. eqb x n) ns ≡ 1
once_in [] x differ c = absurd (let lt = c.1 in omega arith)
once_in (n ∷ ns) x differ c =
    let parted = sum_by-cons (λ n. cond {A = ℕ} (eqb x n) 1 0) n ns in
    dite (ℕ_discrete x n)
    (λ same.
    let hit : cond {A = ℕ} (eqb x n) 1 0 ≡ 1 = rw (eq-eqb x n same) in
    let rest = none_in ns x (subst (λ m. All (λ k. m ≢ k) ns) (sym same) (pairs_head ◌≢◌ n ns differ)) in
    omega arith)
    (λ other.
    let miss : cond {A = ℕ} (eqb x n) 1 0 ≡ 0 = rw (ne_eqb x n other) in
    let rest = once_in ns x (pairs_tail ◌≢◌ n ns differ) (in_tail n ns x other c.0 c.1 c.2) in
    omega arith)

sum_of_none : (ns : List ℕ) → sum_by (λ _. 0) ns ≡ 0
sum_of_none [] = refl
sum_of_none (n ∷ ns) = omega (arith, sum_by-cons (λ _. 0) n ns, sum_of_none ns)

sum_of_both : {A : Type 0} (f g h : A → ℕ) → ((a : A) → f a ≡ g a + h a) → (xs : List A) → sum_by f xs ≡ sum_by g xs + sum_by h xs
sum_of_both f g h both [] = refl
sum_of_both f g h both (x ∷ xs) = omega (arith, sum_by-cons f x xs, sum_by-cons g x xs, sum_by-cons h x xs, both x, sum_of_both f g h both xs)

sum_of_map : {A : Type 0} (f : ℕ → ℕ) (g : A → ℕ) (xs : List A) → sum_by f (map g xs) ≡ sum_by (λ a. f (g a)) xs
sum_of_map f g [] = refl
sum_of_map f g (x ∷ xs) = omega (arith, sum_by-cons f (g x) (map g xs), sum_by-cons (λ a. f (g a)) x xs, sum_of_map f g xs)

sum_of_same : {A : Type 0} (f g : A → ℕ) (xs : List A) → All (λ a. f a ≡ g a) xs → sum_by f xs ≡ sum_by g xs
sum_of_same f g [] h = refl
sum_of_same f g (x ∷ xs) h = omega (arith, sum_by-cons f x xs, sum_by-cons g x xs, All-head (λ a. f a ≡ g a) x xs h, sum_of_same f g xs (All-tail (λ a. f a ≡ g a) x xs h))

module _ {C R : Type 0} where
  one_more_entry : (n : ℕ) (e : Entry C R) (es : List (Entry C R)) → length (entries_of n (e ∷ es)) ≡ cond {A = ℕ} (eqb e.number n) 1 0 + length (entries_of n es)
  one_more_entry n e es = dite (ℕ_discrete e.number n)
      (λ same. rw (eq-eqb e.number n same) (omega arith))
      (λ other. rw (ne_eqb e.number n other) (omega arith))

  -- the entries of all numbers, where each entry's number is one of them
  all_entries : (ns : List ℕ) → AllPairs ◌≢◌ ns → (es : List (Entry C R)) → All (λ e. Contains ns e.number) es → sum_by (λ n. length (entries_of n es)) ns ≡ length es
  all_entries ns differ [] h = sum_of_none ns
  all_entries ns differ (e ∷ es) h =
      let both = sum_of_both (λ n. length (entries_of n (e ∷ es))) (λ n. cond {A = ℕ} (eqb e.number n) 1 0) (λ n. length (entries_of n es)) (λ n. one_more_entry n e es) ns in
      let once = once_in ns e.number differ (All-head (λ (x : Entry C R). Contains ns x.number) e es h) in
      omega (arith, all_entries ns differ es (All-tail (λ (x : Entry C R). Contains ns x.number) e es h))

module _ {S C R : Type 0} (start : S) (steps : StepRelation S C R) (may : Permission C R) where
  pub every_entry_counted : (seat : Standing C R) → SeatIsSound start steps may seat → seat.parts ≡ all_parts → length seat.seen ≡ length seat.mine + sum_by (λ j. length j.mine) seat.joined
  every_entry_counted seat sound whole =
      let entries : ℕ → ℕ = λ n. length (entries_of n seat.seen) in
      let all : sum_by (λ n. length (entries_of n seat.seen)) (numbers_of seat) ≡ length seat.seen = all_entries (numbers_of seat) sound.numbers_differ seat.seen (sound.none_else whole) in
      let parted = sum_by-cons (λ n. length (entries_of n seat.seen)) seat.number (map (λ (j : Joined C R). j.number) seat.joined) in
      let mapped = sum_of_map (λ n. length (entries_of n seat.seen)) (λ (j : Joined C R). j.number) seat.joined in
      let joined = sum_of_same (λ (j : Joined C R). length (entries_of j.number seat.seen)) (λ (j : Joined C R). length j.mine) seat.joined (λ k d lt. ap length (sound.joined_entries k d lt)) in
      let own : length (entries_of seat.number seat.seen) ≡ length seat.mine = ap length sound.own_entries in
      omega arith
