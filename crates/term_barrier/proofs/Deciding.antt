-- The greatest number under a logarithm, found one after another, decides what the greatest D_z is.
use Rattle.std.proofs.Common.{◌≡◌, ℕ, ◌≤◌, ℤ, Bool, true, false, List, [], ◌∷◌, map, ap, sym, subst, refl, arith, ◌∙◌, IfSome}
use Rattle.std.specs.Prelude.{Option, Some, None, IsSome, filter}
use Rattle.std.specs.Option.{option_map}
use Rattle.std.proofs.lemmas.Bool.{false≢true}
use Rattle.fix_interval.specs.Interval.{Interval, IsInterval}
use Rattle.fix_interval.specs.Values.{max_of, greater_high}
use Rattle.fix_interval.proofs.Intervals.{IsInterval-max_of}
use Rattle.term_barrier.specs.Diffraction.{double_limit}
use Rattle.term_barrier.specs.inner.Prepared.{max_with_of, greatest_from, Decides, Numbered, are_marked, marked_values}
use Rattle.term_barrier.proofs.OneLogarithm.{screens, screens-max}

-- so far a number decides: with D_z of the rest behind, D_z of it gives the greatest of all
pub record Deciding (limit : ℕ) (best : Option Interval) (rest : List Interval) (total : Option Interval) : Type 0 where
  pub interval : IfSome best IsInterval
  pub decides : IfSome best (λ b. IsSome b.hi) → greatest_from (option_map (screens limit) best) rest ≡ total

bounded-both : (x y : Option ℤ) → IsSome (greater_high x y) → IsSome x × IsSome y
bounded-both None y h = absurd (false≢true h)
bounded-both (Some x) None h = absurd (false≢true h)
bounded-both (Some x) (Some y) h = (h, h)

bounded-max : (a b : Interval) → IsSome (max_of a b).hi → IsSome a.hi × IsSome b.hi
unfolding max_of
bounded-max a b h = bounded-both a.hi b.hi h

-- one more number
pub deciding-more : (limit : ℕ) (number : Interval) (rest : List Interval) (best total : Option Interval) → limit ≤ 25 → IsInterval number
    → Deciding limit best (screens limit number ∷ rest) total → Deciding limit (max_with_of best number) rest total
deciding-more limit number rest None total few whole h = record { interval = whole; decides = λ k. h.decides tt }
deciding-more limit number rest (Some best) total few whole h = record {
  interval = IsInterval-max_of best number h.interval whole;
  decides = λ k. let both = bounded-max best number k in
      ap (λ (i : Interval). greatest_from (Some i) rest) (screens-max limit best number few h.interval whole both.0 both.1)
      ∙ h.decides both.0;
}

-- a value whose number doesn't raise the greatest, marked or not
pub deciding-passed : (marks : List Bool) (x : Numbered) (xs : List Numbered) (best number : Interval) (total : Option Interval)
    → IsInterval number → x.2 ≡ screens double_limit number → max_of best number ≡ best
    → Deciding double_limit (Some best) (marked_values marks (x ∷ xs)) total → Deciding double_limit (Some best) (marked_values marks xs) total
deciding-passed marks x xs best number total whole is lesser h = by_mark (are_marked marks x) refl h where
  by_mark : (mark : Bool) → are_marked marks x ≡ mark → Deciding double_limit (Some best) (marked_values marks (x ∷ xs)) total
      → Deciding double_limit (Some best) (marked_values marks xs) total
  by_mark true m h =
      subst (λ (i : Interval). Deciding double_limit (Some i) (marked_values marks xs) total) lesser
      (deciding-more double_limit number (marked_values marks xs) (Some best) total (omega arith) whole (rw (m, is) at h))
  by_mark false m h = rw m at h

-- of a list in which each thing that passes a test has a number: one that passes, and one that doesn't
pub deciding-kept : {A : Type 0} (limit : ℕ) (f : A → Interval) (p : A → Bool) (x : A) (number : Interval) (here next : List A) (best more total : Option Interval)
    → limit ≤ 25 → here ≡ x ∷ next → p x ≡ true → f x ≡ screens limit number → IsInterval number → more ≡ max_with_of best number
    → Deciding limit best (map f (filter p here)) total → Deciding limit more (map f (filter p next)) total
deciding-kept limit f p x number here next best more total few e t is whole m h =
    rw m (deciding-more limit number (map f (filter p next)) best total few whole (rw (e, t, is) at h))

pub deciding-left : {A : Type 0} (limit : ℕ) (f : A → Interval) (p : A → Bool) (x : A) (here next : List A) (best more total : Option Interval)
    → here ≡ x ∷ next → p x ≡ false → more ≡ best
    → Deciding limit best (map f (filter p here)) total → Deciding limit more (map f (filter p next)) total
deciding-left limit f p x here next best more total e t m h = rw m (rw (e, t) at h)

-- after the last
pub decided : (limit : ℕ) (best total : Option Interval) → Deciding limit best [] total → IfSome best (λ b. Decides limit b total)
decided limit None total h = tt
decided limit (Some b) total h = λ k. sym (h.decides k)
