-- A line that is gathered from what is held and what is read, up to the answer.
use Rattle.std.proofs.Common.{◌≡◌, ◌≢◌, ◌<◌, ◌-◌, ℕ, Bool, true, false, List, [], ◌∷◌, ◌++◌, length, take, Option, ap, sym, subst, inl, inr, ◌∙◌, append_assoc, append-nil, arith, length-append}
use Rattle.std.specs.Io.KnownBytes.{Consumes, Keeps}
use Rattle.std.proofs.lemmas.Bool.{cases_lt}
use Rattle.std.proofs.lemmas.List.{take_all}
use Rattle.std.proofs.lemmas.List.Elements.{All-append}
use Rattle.map_io.specs.declared.reader.Stop.{Stop}
use Rattle.map_io.specs.declared.reader.Stop.TheVariants.{Going, AtEnd, AfterFault, AtLimit}
use Rattle.map_io.specs.declared.reader.Next.{Next}
use Rattle.map_io.specs.Lines.{IsPlain}
use Rattle.map_io.specs.Reading.{Reading, ahead, Passes, PassesLine, Ends, BreaksOff, ReachesLimit, NextGives}
use Rattle.map_io.specs.inner.Steps.{Scans, Fills, Brings, Gathers, Sizes, feed_if}
use Rattle.map_io.proofs.Lists.{take-append_cut, empty_if_no_length}
use Rattle.map_io.proofs.Known.{Consumes-append, Consumes-held, Consumes-came, Consumes-kept, Consumes-dropped}

-- two passes in a row
pub Passes-append : (old mid new : Reading) (a b c : Option (List ℕ)) (xs ys : List ℕ) → Passes old mid a b xs → Passes mid new b c ys → Passes old new a c (xs ++ ys)
Passes-append old mid new a b c xs ys first second = record {
  taken = Consumes-append (ahead old a) (ahead mid b) (ahead new c) xs ys first.taken second.taken;
  counted = omega (arith, first.counted, second.counted, length-append xs ys);
}

-- a scan passes its piece
pub Passes-scan : (found : Bool) (mid new : Reading) (b : Option (List ℕ)) (scan : Scans found mid new) → Passes mid new b b (scan.piece ++ feed_if found)
Passes-scan found mid new b scan = record {
  taken = rw scan.held (Consumes-held (scan.piece ++ feed_if found) new.pending b);
  counted = scan.passed;
}

-- the line after a scan
pub line_scanned : (found : Bool) (old mid new : Reading) (a b : Option (List ℕ)) (so_far : Gathers old mid a b) (scan : Scans found mid new) → new.line ≡ take 65536 (so_far.front ++ scan.piece)
line_scanned found old mid new a b so_far scan =
    scan.line ∙ ap (λ line. take 65536 (line ++ scan.piece)) so_far.line ∙ take-append_cut 65536 so_far.front scan.piece

-- a scan that found no line feed
pub gather_all : (old mid new : Reading) (a b : Option (List ℕ)) → Gathers old mid a b → Scans false mid new → Gathers old new a b
gather_all old mid new a b so_far scan = record {
  front = so_far.front ++ scan.piece;
  plain = All-append (λ x. x ≢ 10) so_far.front scan.piece so_far.plain scan.plain;
  passes = let passed : Passes mid new b b scan.piece = subst (λ (piece : List ℕ). Passes mid new b b piece) (append-nil scan.piece) (Passes-scan false mid new b scan) in
      Passes-append old mid new a b b so_far.front scan.piece so_far.passes passed;
  line = line_scanned false old mid new a b so_far scan;
  going = scan.stop ∙ so_far.going;
}

-- an answer by the size of the line
line_answered : (line : List ℕ) (next : Next) (old new : Reading) (a b : Option (List ℕ)) → IsPlain line → new.line ≡ take 65536 line → Sizes (length line) next →
    PassesLine new.stop old new a b line → NextGives next old new a b
line_answered line next old new a b plain kept sizes passes = elim (cases_lt 65536 (length line)) [
  | inr short ↦
      let whole : new.line ≡ line = kept ∙ take_all 65536 line short in
      rw (sizes.short short) record {
        size = ap length (sym whole);
        short = short;
        plain = subst IsPlain (sym whole) plain;
        passes = subst (λ (l : List ℕ). PassesLine new.stop old new a b l) (sym whole) passes;
      }
  | inl long ↦ rw (sizes.long long) record { line = line; long = long; plain = plain; passes = passes }
]

-- a scan found the line feed
pub line_ended : (next : Next) (old mid new : Reading) (a b : Option (List ℕ)) (size : ℕ) → Gathers old mid a b → Scans true mid new → size ≡ new.passed - old.passed - 1 → Sizes size next → NextGives next old new a b
line_ended next old mid new a b size so_far scan is sizes =
    let line : List ℕ = so_far.front ++ scan.piece in
    let passes : Passes old new a b (so_far.front ++ (scan.piece ++ 10 ∷ [])) =
    Passes-append old mid new a b b so_far.front (scan.piece ++ 10 ∷ []) so_far.passes (Passes-scan true mid new b scan) in
    let going : new.stop ≡ Going = scan.stop ∙ so_far.going in
    let joined : Passes old new a b (line ++ 10 ∷ []) = subst (λ (bytes : List ℕ). Passes old new a b bytes) (sym (append_assoc so_far.front scan.piece (10 ∷ []))) passes in
    let long : size ≡ length line = omega (arith, is, joined.counted, length-append line (10 ∷ [])) in
    line_answered line next old new a b (All-append (λ x. x ≢ 10) so_far.front scan.piece so_far.plain scan.plain)
    (line_scanned true old mid new a b so_far scan) (subst (λ (n : ℕ). Sizes n next) long sizes)
    (subst (λ (s : Stop). PassesLine s old new a b line) (sym going) joined)

-- a read brought bytes
pub gather_filled : (old mid new : Reading) (a b c : Option (List ℕ)) → Gathers old mid a b → mid.pending ≡ [] → Fills mid new b c → new.stop ≡ Going → Gathers old new a c
gather_filled old mid new a b c so_far none fills going =
    let brings : Brings Going new b c = subst (λ (stop : Stop). Brings stop new b c) going fills.brings in
    let came : Consumes (ahead mid b) (ahead new c) [] = Consumes-came mid.pending new.pending b c none brings.1 in
    let passes : Passes old new a c (so_far.front ++ []) = Passes-append old mid new a b c so_far.front [] so_far.passes
    record { taken = came; counted = omega (arith, fills.passed) } in
    record {
      front = so_far.front;
      plain = so_far.plain;
      passes = subst (λ (bytes : List ℕ). Passes old new a c bytes) (append-nil so_far.front) passes;
      line = fills.line ∙ so_far.line;
      going = going;
    }

-- nothing more came
Passes-kept : (old mid new : Reading) (a b c : Option (List ℕ)) (so_far : Gathers old mid a b) → mid.pending ≡ [] → new.pending ≡ [] → new.passed ≡ mid.passed → Keeps b c → Passes old new a c so_far.front
Passes-kept old mid new a b c so_far none held passed kept =
    let rest : Consumes (ahead mid b) (ahead new c) [] = Consumes-dropped mid.pending new.pending [] b c none held (Consumes-kept b c kept) in
    let passes : Passes old new a c (so_far.front ++ []) = Passes-append old mid new a b c so_far.front [] so_far.passes
    record { taken = rest; counted = omega (arith, passed) } in
    subst (λ (bytes : List ℕ). Passes old new a c bytes) (append-nil so_far.front) passes

-- the input ended with no line begun
pub ends : (old mid new : Reading) (a b c : Option (List ℕ)) → Gathers old mid a b → mid.pending ≡ [] → Fills mid new b c → new.stop ≡ AtEnd → new.passed ≡ old.passed → Ends old new a c
ends old mid new a b c so_far none fills stop same =
    let brings : Brings AtEnd new b c = subst (λ (s : Stop). Brings s new b c) stop fills.brings in
    let passes = Passes-kept old mid new a b c so_far none brings.0 fills.passed brings.1 in
    let empty : so_far.front ≡ [] = empty_if_no_length so_far.front (omega (arith, passes.counted)) in
    record {
      stop = stop;
      passes = subst (λ (bytes : List ℕ). Passes old new a c bytes) empty passes;
      nothing = record { held = brings.0; left = brings.2 };
    }

-- the input ended in a line
pub last_line : (next : Next) (old mid new : Reading) (a b c : Option (List ℕ)) (size : ℕ) → Gathers old mid a b → mid.pending ≡ [] → Fills mid new b c → new.stop ≡ AtEnd → new.passed ≢ old.passed →
    size ≡ new.passed - old.passed → Sizes size next → NextGives next old new a c
last_line next old mid new a b c size so_far none fills stop other is sizes =
    let brings : Brings AtEnd new b c = subst (λ (s : Stop). Brings s new b c) stop fills.brings in
    let passes = Passes-kept old mid new a b c so_far none brings.0 fills.passed brings.1 in
    let long : size ≡ length so_far.front = omega (arith, is, passes.counted) in
    let some : 0 < length so_far.front = omega (arith, passes.counted) in
    line_answered so_far.front next old new a c so_far.plain (fills.line ∙ so_far.line) (subst (λ (n : ℕ). Sizes n next) long sizes)
    (subst (λ (s : Stop). PassesLine s old new a c so_far.front) (sym stop) (some, passes, record { held = brings.0; left = brings.2 }))

-- the source failed
pub breaks_off : (old mid new : Reading) (a b c : Option (List ℕ)) → Gathers old mid a b → mid.pending ≡ [] → Fills mid new b c → new.stop ≡ AfterFault → BreaksOff old new a c
breaks_off old mid new a b c so_far none fills stop =
    let brings : Brings AfterFault new b c = subst (λ (s : Stop). Brings s new b c) stop fills.brings in
    record {
      stop = stop;
      rest = so_far.front;
      plain = so_far.plain;
      passes = Passes-kept old mid new a b c so_far none brings.0 fills.passed brings.1;
      held = brings.0;
    }

-- one more byte came than the limit has
pub reaches_limit : (old mid new : Reading) (a b c : Option (List ℕ)) → Gathers old mid a b → mid.pending ≡ [] → Fills mid new b c → new.stop ≡ AtLimit → ReachesLimit old new a c
reaches_limit old mid new a b c so_far none fills stop =
    let brings : Brings AtLimit new b c = subst (λ (s : Stop). Brings s new b c) stop fills.brings in
    let more = brings.2.0 in
    let came : Consumes (ahead mid b) (ahead new c) (more ∷ []) = Consumes-dropped mid.pending new.pending (more ∷ []) b c none brings.0 brings.2.1 in
    record {
      stop = stop;
      rest = so_far.front;
      plain = so_far.plain;
      counted = fills.passed ∙ so_far.passes.counted;
      full = brings.1;
      more = more;
      taken = Consumes-append (ahead old a) (ahead mid b) (ahead new c) so_far.front (more ∷ []) so_far.passes.taken came;
      held = brings.0;
    }
