-- The sources of a line are numbered on, so no two of them bear one name.
use Rattle.std.proofs.Common.{◌≡◌, ℕ, zero, suc, ◌+◌, ◌≤◌, ◌<◌, ◌^◌, refl, sym, ap, subst, arith, List, [], ◌∷◌, ◌++◌, length, take, false}
use Rattle.std.specs.Prelude.{map, bytes_eq}
use Rattle.std.specs.List.{range_with_len}
use Rattle.scene_geom.specs.declared.plan.Side.{Side}
use Rattle.scene_parts.specs.Parts.{Source}
use Rattle.scene_book.specs.Lists.{NoneNamed, AreApart}
use Rattle.command_lines.specs.Views.{LineSource}
use Rattle.line_sources.specs.Legs.{legs_of}
use Rattle.line_sources.specs.Pieces.{CutLeg, cut_of, numbered, source_at, sources_on, sources_along, sources_of}
use Rattle.line_sources.proofs.NameLemmas.{numbered-apart}
use Rattle.line_sources.proofs.SourceLemmas.{length-sources_on}

-- the numbers of a line's name go on from one
abbrev AreNumbered : List ℕ → ℕ → List Source → Type 0
AreNumbered name first [] = Unit {0}
AreNumbered name first (source ∷ sources) = (source.name ≡ numbered name first) × AreNumbered name (suc first) sources

numbered-on : (line : LineSource) (leg : CutLeg) (first a n : ℕ) → AreNumbered line.name (first + a) (map (λ i. source_at line leg (first + i) i) (range_with_len a n))
numbered-on line leg first a zero = tt
numbered-on line leg first a (suc n) =
    let next : first + (a + 1) ≡ suc (first + a) = omega arith in
    (refl, subst (λ k. AreNumbered line.name k (map (λ i. source_at line leg (first + i) i) (range_with_len (a + 1) n))) next (numbered-on line leg first (a + 1) n))

numbered-append : (name : List ℕ) (first : ℕ) (xs ys : List Source) → AreNumbered name first xs → AreNumbered name (first + length xs) ys → AreNumbered name first (xs ++ ys)
numbered-append name first [] ys h k = let same : first + 0 ≡ first = omega arith in subst (λ n. AreNumbered name n ys) same k
numbered-append name first (x ∷ xs) ys h k =
    let next : first + suc (length xs) ≡ suc first + length xs = omega arith in
    (h.0, numbered-append name (suc first) xs ys h.1 (subst (λ n. AreNumbered name n ys) next k))

numbered-along : (line : LineSource) (first : ℕ) (legs : List Side) → AreNumbered line.name first (sources_along line first legs)
numbered-along line first [] = tt
numbered-along line first (leg ∷ legs) =
    let cut = cut_of line leg in
    let start : first + 0 ≡ first = omega arith in
    let count : first + cut.count ≡ first + length (sources_on line cut first) = ap (λ n. first + n) (sym (length-sources_on line cut first)) in
    numbered-append line.name first (sources_on line cut first) (sources_along line (first + cut.count) legs)
    (subst (λ n. AreNumbered line.name n (sources_on line cut first)) start (numbered-on line cut first 0 cut.count))
    (subst (λ n. AreNumbered line.name n (sources_along line (first + cut.count) legs)) count (numbered-along line (first + cut.count) legs))

numbered-take : (name : List ℕ) (first m : ℕ) (xs : List Source) → AreNumbered name first xs → AreNumbered name first (take m xs)
numbered-take name first zero xs h = tt
numbered-take name first (suc m) [] h = tt
numbered-take name first (suc m) (x ∷ xs) h = (h.0, numbered-take name (suc first) m xs h.1)

none : (name : List ℕ) (i first : ℕ) (xs : List Source) → AreNumbered name first xs → i < first → first + length xs ≤ 2 ^ 64 → NoneNamed (λ s. s.name) (numbered name i) xs
none name i first [] h less few = tt
none name i first (x ∷ xs) h less few =
    let P : List ℕ → Type 0 = λ other. bytes_eq (numbered name i) other ≡ false in
    (subst P (sym h.0) (numbered-apart name i first (omega arith) (omega arith) less), none name i (suc first) xs h.1 (omega arith) (omega arith))

apart : (name : List ℕ) (first : ℕ) (xs : List Source) → AreNumbered name first xs → first + length xs ≤ 2 ^ 64 → AreApart (λ s. s.name) xs
apart name first [] h few = tt
apart name first (x ∷ xs) h few =
    let P : List ℕ → Type 0 = λ own. NoneNamed (λ s. s.name) own xs in
    (subst P (sym h.0) (none name first (suc first) xs h.1 (omega arith) (omega arith)), apart name (suc first) xs h.1 (omega arith))

pub first-apart : (line : LineSource) (m : ℕ) → length (take m (sources_of line)) ≤ 2 ^ 64 → AreApart (λ s. s.name) (take m (sources_of line))
first-apart line m few =
    apart line.name 0 (take m (sources_of line)) (numbered-take line.name 0 m (sources_of line) (numbered-along line 0 (legs_of line.points))) (omega (arith, few))
