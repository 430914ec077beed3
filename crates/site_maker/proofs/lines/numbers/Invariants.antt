-- The numbers so far stand in the text.
use Rattle.std.proofs.Common.{take, string_bytes}
use Rattle.site_maker.proofs.CommaLemmas.{Begins}
use Rattle.site_maker.proofs.lines.numbers.Given as goal

abbrev pub invariant-loop-place : goal.invariant-loop-place
invariant-loop-place l = Begins (take l.place l.numbers) (string_bytes l.text)
