-- A scan moves what is held, up to the first line feed.
use Rattle.std.proofs.Common.{◌≡◌, ◌∙◌, ◌==◌, ◌++◌, ◌+◌, ◌≤◌, length, ℕ, List, Some, None, true, false, take, sym, ap, subst}
use Rattle.std.specs.Prelude.{slice_range}
use Rattle.std.specs.List.{position}
use Rattle.map_io.specs.inner.Steps.{Scans}
use Rattle.map_io.specs.Reading.{Reading}
use Rattle.map_io.proofs.Scanning.{scan_found, scan_all, found_below, found_ordered, found_within, all_ordered, all_within}
use Rattle.map_io.proofs.reader.LineReader.scan.Goals as goal

pub invariant_of-self : goal.invariant_of-self
invariant_of-self c =
    let r = c.self.inside in
    let found = subst (λ (bytes : List ℕ). position (λ b. b == 10) (slice_range bytes r.start r.end) ≡ Some c.in-Some.size) c.deref.ensures.value (sym c.line_feed.ensures ∙ c.in-Some.is) in
    let below = found_below r.buffer.items r.start r.end c.in-Some.size found in
    record {
      short = c.gather.ensures.short;
      room = c.gather.ensures.room;
      size = c.self.invariant.size;
      ordered = found_ordered _ _ _ c.self.invariant.ordered below;
      inside = c.self.invariant.inside;
      within = found_within _ _ _ _ _ c.self.invariant.ordered c.self.invariant.within below;
    }

pub invariant_of-self-in-None : goal.invariant_of-self-in-None
invariant_of-self-in-None c = record {
  short = c.gather-in-None.ensures.short;
  room = c.gather-in-None.ensures.room;
  size = c.self.invariant.size;
  ordered = all_ordered c.self.inside.end;
  inside = c.self.invariant.inside;
  within = all_within c.deref.result.now _ _ _ _ c.self.invariant.within;
}

pub returns-in-Some : goal.returns-in-Some
returns-in-Some c =
    let r = c.self.inside in
    let inside = subst (λ n. r.end ≤ n) (sym c.self.invariant.size) c.self.invariant.inside in
    let found = subst (λ (bytes : List ℕ). position (λ b. b == 10) (slice_range bytes r.start r.end) ≡ Some c.in-Some.size) c.deref.ensures.value (sym c.line_feed.ensures ∙ c.in-Some.is) in
    let gathered = c.gather.ensures.items ∙ ap (λ (bytes : List ℕ). take 65536 (r.line.items ++ take c.in-Some.size (slice_range bytes r.start r.end))) c.deref.ensures.value in
    let new : Reading = record { line = c.gather.new.line.items; pending = slice_range r.buffer.items (r.start + (c.in-Some.size + 1)) r.end; passed = r.passed + (c.in-Some.size + 1); stop = r.stop } in
    subst (λ (old : Reading). Scans true old new) c.self.view_is
    (scan_found r.line.items r.buffer.items _ r.start r.end r.passed c.in-Some.size r.stop c.self.invariant.ordered inside c.self.invariant.within found gathered)

pub returns-in-None : goal.returns-in-None
returns-in-None c =
    let r = c.self.inside in
    let inside = subst (λ n. r.end ≤ n) (sym c.self.invariant.size) c.self.invariant.inside in
    let none = subst (λ (bytes : List ℕ). position (λ b. b == 10) (slice_range bytes r.start r.end) ≡ None) c.deref.ensures.value (sym c.line_feed.ensures ∙ c.in-None.is) in
    let gathered = c.gather-in-None.ensures.items ∙ ap (λ (bytes : List ℕ). take 65536 (r.line.items ++ slice_range bytes r.start r.end)) c.deref.ensures.value in
    let new : List ℕ → Reading = λ bytes. record { line = c.gather-in-None.new.line.items; pending = slice_range r.buffer.items r.end r.end; passed = r.passed + length (slice_range bytes r.start r.end); stop = r.stop } in
    subst (λ (old : Reading). Scans false old (new c.deref.result.now)) c.self.view_is
    (subst (λ (bytes : List ℕ). Scans false (record { line = r.line.items; pending = slice_range r.buffer.items r.start r.end; passed = r.passed; stop = r.stop }) (new bytes)) (sym c.deref.ensures.value)
    (scan_all r.line.items r.buffer.items _ r.start r.end r.passed r.stop c.self.invariant.ordered inside c.self.invariant.within none gathered))
