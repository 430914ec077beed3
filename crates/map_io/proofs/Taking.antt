-- What was passed, as lines of the bytes that lay ahead.
use Rattle.std.proofs.Common.{◌≡◌, ◌<◌, ℕ, List, [], ◌∷◌, ◌++◌, length, Option, Some, None, refl, ap, sym, ◌∙◌, append_assoc, append-nil}
use Rattle.std.specs.Io.KnownBytes.{Consumes, IsAtEnd, prepend_known}
use Rattle.map_io.specs.declared.reader.Stop.{Stop}
use Rattle.map_io.specs.declared.reader.Stop.TheVariants.{Going, AtEnd, AfterFault, AtLimit}
use Rattle.map_io.specs.declared.reader.Next.{Next}
use Rattle.map_io.specs.declared.reader.Next.TheVariants.{Line, End, LongLine, ReadFault, InputLimit}
use Rattle.map_io.specs.Lines.{IsPlain, lines}
use Rattle.map_io.specs.LineLaws.{lines-line, lines-last, lines-empty, whole_lines-plain}
use Rattle.map_io.specs.Reading.{Reading, ahead, PassesLine, NextGives, line_limit}
use Rattle.map_io.specs.LinesAhead.{IfBothKnown, TakesLine}

-- one line is taken off
abbrev pub OneLine : List ℕ → List ℕ → List ℕ → Type 0
OneLine line bytes rest = lines bytes ≡ line ∷ lines rest

line_with_feed : (x y : Option (List ℕ)) (line : List ℕ) → IsPlain line → Consumes x y (line ++ 10 ∷ []) → IfBothKnown x y (OneLine line)
line_with_feed None y line plain taken = tt
line_with_feed (Some bytes) None line plain taken = tt
line_with_feed (Some bytes) (Some rest) line plain taken = ap lines (taken ∙ append_assoc line (10 ∷ []) rest) ∙ lines-line line rest plain

line_at_end : (x y : Option (List ℕ)) (line : List ℕ) → IsPlain line → 0 < length line → Consumes x y line → IsAtEnd y → IfBothKnown x y (OneLine line)
line_at_end None y line plain some taken end = tt
line_at_end (Some bytes) None line plain some taken end = tt
line_at_end (Some bytes) (Some rest) line plain some taken end =
    ap lines (taken ∙ ap (λ more. line ++ more) end ∙ append-nil line) ∙ lines-last line plain some
    ∙ ap (λ more. line ∷ more) (sym (ap lines end ∙ lines-empty))

nothing_ahead : (held : List ℕ) (left : Option (List ℕ)) → held ≡ [] → IsAtEnd left → IsAtEnd (prepend_known held left)
nothing_ahead held None empty end = tt
nothing_ahead held (Some left) empty end = rw (empty, end) refl

line_passed : (stop : Stop) (old new : Reading) (a b : Option (List ℕ)) (line : List ℕ) → IsPlain line → PassesLine stop old new a b line → IfBothKnown (ahead old a) (ahead new b) (OneLine line)
line_passed Going old new a b line plain passes = line_with_feed (ahead old a) (ahead new b) line plain passes.taken
line_passed AtEnd old new a b line plain passes =
    line_at_end (ahead old a) (ahead new b) line plain passes.0 passes.1.taken (nothing_ahead new.pending b passes.2.held passes.2.left)
line_passed AfterFault old new a b line plain passes = absurd passes
line_passed AtLimit old new a b line plain passes = absurd passes

long_line : (x y : Option (List ℕ)) (line long : List ℕ) → line_limit < length long → IfBothKnown x y (OneLine long) → IfBothKnown x y (TakesLine LongLine line)
long_line None y line long over one = tt
long_line (Some bytes) None line long over one = tt
long_line (Some bytes) (Some rest) line long over one = (long, over, one)

no_line : (x y : Option (List ℕ)) (line : List ℕ) → Consumes x y [] → IsAtEnd y → IfBothKnown x y (TakesLine End line)
no_line None y line taken end = tt
no_line (Some bytes) None line taken end = tt
no_line (Some bytes) (Some rest) line taken end = ap lines (taken ∙ end) ∙ lines-empty

broken_off : (x y : Option (List ℕ)) (line read : List ℕ) → IsPlain read → Consumes x y read → IfBothKnown x y (TakesLine ReadFault line)
broken_off None y line read plain taken = tt
broken_off (Some bytes) None line read plain taken = tt
broken_off (Some bytes) (Some rest) line read plain taken = (read, whole_lines-plain read plain, taken)

past_limit : (x y : Option (List ℕ)) (line read : List ℕ) (more : ℕ) → IsPlain read → Consumes x y (read ++ more ∷ []) → IfBothKnown x y (TakesLine InputLimit line)
past_limit None y line read more plain taken = tt
past_limit (Some bytes) None line read more plain taken = tt
past_limit (Some bytes) (Some rest) line read more plain taken = (read, more, whole_lines-plain read plain, taken ∙ append_assoc read (more ∷ []) rest)

-- each answer takes a line off those that lie ahead, or says why it takes none
pub takes_line : (next : Next) (old new : Reading) (a b : Option (List ℕ)) → NextGives next old new a b → IfBothKnown (ahead old a) (ahead new b) (TakesLine next new.line)
takes_line (Line n) old new a b gives = line_passed new.stop old new a b new.line gives.plain gives.passes
takes_line End old new a b gives =
    no_line (ahead old a) (ahead new b) new.line gives.passes.taken (nothing_ahead new.pending b gives.nothing.held gives.nothing.left)
takes_line LongLine old new a b gives =
    long_line (ahead old a) (ahead new b) new.line gives.line gives.long (line_passed new.stop old new a b gives.line gives.plain gives.passes)
takes_line ReadFault old new a b gives = broken_off (ahead old a) (ahead new b) new.line gives.rest gives.plain gives.passes.taken
takes_line InputLimit old new a b gives = past_limit (ahead old a) (ahead new b) new.line gives.rest gives.more gives.plain gives.taken
