-- How the lines of bytes grow: what crates above cite of `Lines`.
use Rattle.std.proofs.Common.{◌≡◌, ◌≢◌, ◌==◌, ℕ, ◌<◌, false, List, [], ◌∷◌, ◌++◌, length}
use Rattle.std.proofs.Common.{refl, ap, sym, ◌∙◌, inl, inr, append_assoc, arith}
use Rattle.std.specs.Prelude.{All}
use Rattle.std.proofs.lemmas.Bool.Decides.{eqb_tells}
use Rattle.std.proofs.lemmas.List.Elements.{All-weaker, All-head, All-tail}
use Rattle.std.proofs.lemmas.List.Splits.{slice_split_at, slice_split_none, length-slice_split}
use Rattle.map_io.specs.Lines.{IsPlain, parts, all_but_last, but_empty_last, whole_lines, lines, ended}

-- a byte that is no line feed fails the test for one
test_fails : (b : ℕ) → b ≢ 10 → (b == 10) ≡ false
test_fails b other = elim (eqb_tells b 10) [ inl same ↦ absurd (other same.1) | inr differ ↦ differ.0 ]

no_feed : (line : List ℕ) → IsPlain line → All (λ b. (b == 10) ≡ false) line
no_feed line plain = All-weaker (λ b. b ≢ 10) (λ b. (b == 10) ≡ false) test_fails line plain

parts-line : (line rest : List ℕ) → IsPlain line → parts (line ++ 10 ∷ rest) ≡ line ∷ parts rest
parts-line line rest plain = slice_split_at (λ b. b == 10) line 10 rest (no_feed line plain) refl

parts-plain : (line : List ℕ) → IsPlain line → parts line ≡ line ∷ []
parts-plain line plain = slice_split_none (λ b. b == 10) line (no_feed line plain)

parts-some : (bytes : List ℕ) → 0 < length (parts bytes)
parts-some bytes = omega (arith, length-slice_split (λ b. b == 10) bytes)

all_but_last-cons : (part : List ℕ) (more : List (List ℕ)) → 0 < length more
    → all_but_last (part ∷ more) ≡ part ∷ all_but_last more
all_but_last-cons part [] none = absurd (omega arith)
all_but_last-cons part (next ∷ more) some = refl

but_empty_last-cons : (part : List ℕ) (more : List (List ℕ)) → 0 < length more
    → but_empty_last (part ∷ more) ≡ part ∷ but_empty_last more
but_empty_last-cons part [] none = absurd (omega arith)
but_empty_last-cons [] (next ∷ more) some = refl
but_empty_last-cons (b ∷ bytes) (next ∷ more) some = refl

-- a whole line comes off the front
pub whole_lines-line : (line rest : List ℕ) → IsPlain line → whole_lines (line ++ 10 ∷ rest) ≡ line ∷ whole_lines rest
unfolding whole_lines
whole_lines-line line rest plain =
    ap all_but_last (parts-line line rest plain) ∙ all_but_last-cons line (parts rest) (parts-some rest)

pub lines-line : (line rest : List ℕ) → IsPlain line → lines (line ++ 10 ∷ rest) ≡ line ∷ lines rest
unfolding lines
lines-line line rest plain =
    ap but_empty_last (parts-line line rest plain) ∙ but_empty_last-cons line (parts rest) (parts-some rest)

-- bytes with no line feed are no whole line
pub whole_lines-plain : (rest : List ℕ) → IsPlain rest → whole_lines rest ≡ []
unfolding whole_lines
whole_lines-plain rest plain = ap all_but_last (parts-plain rest plain)

-- but they are a line, if there are any
but_empty_last-one : (line : List ℕ) → 0 < length line → but_empty_last (line ∷ []) ≡ line ∷ []
but_empty_last-one [] none = absurd (omega arith)
but_empty_last-one (b ∷ bytes) some = refl

pub lines-last : (line : List ℕ) → IsPlain line → 0 < length line → lines line ≡ line ∷ []
unfolding lines
lines-last line plain some = ap but_empty_last (parts-plain line plain) ∙ but_empty_last-one line some

pub lines-empty : lines [] ≡ []
unfolding lines
lines-empty = refl

-- the lines of bytes that begin with these lines
pub whole_lines-ended : (ls : List (List ℕ)) (rest : List ℕ) → All IsPlain ls
    → whole_lines (ended ls ++ rest) ≡ ls ++ whole_lines rest
whole_lines-ended [] rest plain = refl
whole_lines-ended (line ∷ more) rest plain =
    ap whole_lines (append_assoc line (10 ∷ ended more) rest)
    ∙ whole_lines-line line (ended more ++ rest) (All-head IsPlain line more plain)
    ∙ ap (λ ls. line ∷ ls) (whole_lines-ended more rest (All-tail IsPlain line more plain))

pub lines-ended : (ls : List (List ℕ)) (rest : List ℕ) → All IsPlain ls → lines (ended ls ++ rest) ≡ ls ++ lines rest
lines-ended [] rest plain = refl
lines-ended (line ∷ more) rest plain =
    ap lines (append_assoc line (10 ∷ ended more) rest)
    ∙ lines-line line (ended more ++ rest) (All-head IsPlain line more plain)
    ∙ ap (λ ls. line ∷ ls) (lines-ended more rest (All-tail IsPlain line more plain))

-- one more line at the end
pub ended-push : (ls : List (List ℕ)) (line : List ℕ) → ended (ls ++ line ∷ []) ≡ ended ls ++ (line ++ 10 ∷ [])
ended-push [] line = refl
ended-push (first ∷ more) line =
    ap (λ bytes. first ++ 10 ∷ bytes) (ended-push more line)
    ∙ sym (append_assoc first (10 ∷ ended more) (line ++ 10 ∷ []))
