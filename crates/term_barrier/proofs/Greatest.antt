-- The greatest of intervals that are found one after another is that of their formulas.
use Rattle.std.proofs.Common.{◌≡◌, refl, List, [], ◌∷◌, ◌++◌, map, fold}
use Rattle.std.specs.Prelude.{Option, Some, None}
use Rattle.std.specs.Option.{option_map}
use Rattle.std.specs.List.{reduce}
use Rattle.fix_interval.specs.Interval.{Interval}
use Rattle.fix_interval.specs.Tree.{Tree, Max, enc}
use Rattle.term_barrier.specs.inner.Prepared.{max_with_of, greatest_from}

pub greatest-append : (best : Option Interval) (xs ys : List Interval) → greatest_from best (xs ++ ys) ≡ greatest_from (greatest_from best xs) ys
greatest-append best [] ys = refl
greatest-append best (x ∷ xs) ys = greatest-append (max_with_of best x) xs ys

greatest-fold : (t : Tree) (ts : List Tree) → greatest_from (Some (enc t)) (map enc ts) ≡ Some (enc (fold Max t ts))
greatest-fold t [] = refl
greatest-fold t (u ∷ us) = greatest-fold (Max t u) us

pub greatest-reduce : (ts : List Tree) → greatest_from None (map enc ts) ≡ option_map enc (reduce Max ts)
greatest-reduce [] = refl
greatest-reduce (t ∷ ts) = greatest-fold t ts
