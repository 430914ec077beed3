-- A scan of what a reader holds.
use Rattle.std.proofs.Common.{◌≡◌, ◌≢◌, ◌==◌, ℕ, ◌+◌, ◌-◌, ◌<◌, ◌≤◌, Bool, true, false, cond, Some, None, List, [], ◌∷◌, ◌++◌, length, take, drop, nat_lt, refl, ap, sym, ◌∙◌, subst, append_assoc, arith, length-append, length-take, length-drop, append-nil}
use Rattle.std.specs.Prelude.{slice_range, Contains}
use Rattle.std.specs.List.{position, position_or_len}
use Rattle.std.proofs.lemmas.List.{take-append-drop, drop-drop, get_or-take, drop_more}
use Rattle.std.proofs.lemmas.List.Quantifiers.{position-Some}
use Rattle.std.proofs.lemmas.List.Elements.{All-from_get_or, All-contains}
use Rattle.std.proofs.lemmas.List.Sums.{fails_before_first}
use Rattle.std.proofs.lemmas.Slice.{between_is}
use Rattle.std.proofs.lemmas.Bool.{eqb-false, eqb-true, ltb-false}
use Rattle.map_io.specs.declared.reader.Stop.{Stop}
use Rattle.map_io.specs.Lines.{IsPlain}
use Rattle.map_io.specs.Reading.{Reading}
use Rattle.map_io.specs.inner.Steps.{Scans}

-- the bytes before the first line feed hold none
pub plain_before_feed : (bytes : List ℕ) (i : ℕ) → position (λ b. b == 10) bytes ≡ Some i → IsPlain (take i bytes)
plain_before_feed bytes i found =
    let at = position-Some (λ b. b == 10) bytes i 0 found in
    All-from_get_or (λ b. b ≢ 10) (take i bytes) 0
    (λ k below. let lt : k < i = omega (arith, length-take i bytes) in rw (get_or-take i bytes k 0 lt) (eqb-false _ 10 (at.2 k lt)))

-- and it follows them
pub split_at_feed : (bytes : List ℕ) (i : ℕ) → position (λ b. b == 10) bytes ≡ Some i → bytes ≡ take i bytes ++ 10 ∷ drop (i + 1) bytes
split_at_feed bytes i found =
    let at = position-Some (λ b. b == 10) bytes i 0 found in
    sym (take-append-drop i bytes)
    ∙ ap (λ rest. take i bytes ++ rest) (drop_more bytes i 0 at.0 ∙ ap (λ b. b ∷ drop (i + 1) bytes) (eqb-true _ 10 at.1))

not_less : (less : Bool) (n : ℕ) → cond less (Some n) None ≡ None → less ≡ false
not_less true n h = cc
not_less false n h = refl

-- where there is none, they are plain
pub plain_without_feed : (bytes : List ℕ) → position (λ b. b == 10) bytes ≡ None → IsPlain bytes
plain_without_feed bytes none =
    let at = position_or_len (λ b. b == 10) bytes in
    let far = ltb-false at (length bytes) (not_less (nat_lt at (length bytes)) at none) in
    All-from_get_or (λ b. b ≢ 10) bytes 0
    (λ k below. let lt : k < at = omega (arith, far) in eqb-false _ 10 (fails_before_first (λ b. b == 10) bytes k 0 lt))

-- plain bytes hold no line feed
pub plain_has_none : (bytes : List ℕ) → IsPlain bytes → Contains bytes 10 → ⊥
plain_has_none bytes plain held = All-contains (λ b. b ≢ 10) bytes 10 plain held refl

-- what is held behind its first bytes
pub slice_range-drop : (buffer : List ℕ) (start end n : ℕ) → slice_range buffer (start + n) end ≡ drop n (slice_range buffer start end)
slice_range-drop buffer start end n =
    between_is buffer (start + n) end ∙ sym (drop-drop n start (take end buffer)) ∙ ap (drop n) (sym (between_is buffer start end))

length-held : (buffer : List ℕ) (start end : ℕ) → end ≤ length buffer → length (slice_range buffer start end) ≡ end - start
length-held buffer start end inside = omega (arith, length-take (end - start) (drop start buffer), length-drop start buffer)

held_nothing : (buffer : List ℕ) (at : ℕ) → slice_range buffer at at ≡ []
held_nothing buffer at = let none : at - at ≡ 0 = omega arith in rw none refl

-- a scan that found a line feed
pub scan_found : (line buffer added : List ℕ) (start end passed size : ℕ) (stop : Stop) →
    start ≤ end → end ≤ length buffer → passed + (end - start) ≤ 67108864 →
    position (λ b. b == 10) (slice_range buffer start end) ≡ Some size →
    added ≡ take 65536 (line ++ take size (slice_range buffer start end)) →
    Scans true
    record { line = line; pending = slice_range buffer start end; passed = passed; stop = stop }
    record { line = added; pending = slice_range buffer (start + (size + 1)) end; passed = passed + (size + 1); stop = stop }
scan_found line buffer added start end passed size stop ordered inside within found adds =
    let held : List ℕ = slice_range buffer start end in
    let at = position-Some (λ b. b == 10) held size 0 found in
    let long : length held ≡ end - start = length-held buffer start end inside in
    let front : length (take size held) ≡ size = omega (arith, length-take size held) in
    let feed : length (take size held ++ 10 ∷ []) ≡ size + 1 = omega (arith, length-append (take size held) (10 ∷ []), front) in
    record {
      piece = take size held;
      plain = plain_before_feed held size found;
      held = split_at_feed held size found
          ∙ sym (append_assoc (take size held) (10 ∷ []) (drop (size + 1) held))
          ∙ ap (λ rest. (take size held ++ 10 ∷ []) ++ rest) (sym (slice_range-drop buffer start end (size + 1)));
      all = λ no. cc;
      line = adds;
      passed = ap (λ n. passed + n) (sym feed);
      stop = refl;
      within = omega (arith, at.0, length-held buffer (start + (size + 1)) end inside);
    }

-- a scan that found none
pub scan_all : (line buffer added : List ℕ) (start end passed : ℕ) (stop : Stop) →
    start ≤ end → end ≤ length buffer → passed + (end - start) ≤ 67108864 →
    position (λ b. b == 10) (slice_range buffer start end) ≡ None →
    added ≡ take 65536 (line ++ slice_range buffer start end) →
    Scans false
    record { line = line; pending = slice_range buffer start end; passed = passed; stop = stop }
    record { line = added; pending = slice_range buffer end end; passed = passed + length (slice_range buffer start end); stop = stop }
scan_all line buffer added start end passed stop ordered inside within none adds =
    let held : List ℕ = slice_range buffer start end in
    record {
      piece = held;
      plain = plain_without_feed held none;
      held = sym (append-nil (held ++ []) ∙ append-nil held) ∙ ap (λ rest. (held ++ []) ++ rest) (sym (held_nothing buffer end));
      all = λ no. held_nothing buffer end;
      line = adds;
      passed = ap (λ bytes. passed + length bytes) (sym (append-nil held));
      stop = refl;
      within = omega (arith, length-held buffer start end inside, length-held buffer end end inside);
    }

-- a line feed that was found is held
pub found_below : (buffer : List ℕ) (start end size : ℕ) → position (λ b. b == 10) (slice_range buffer start end) ≡ Some size → size < end - start
found_below buffer start end size found =
    let at = position-Some (λ b. b == 10) (slice_range buffer start end) size 0 found in
    omega (arith, at.0, length-take (end - start) (drop start buffer))

-- so the reader stays sound behind it
pub found_ordered : (start end size : ℕ) → start ≤ end → size < end - start → start + (size + 1) ≤ end
found_ordered start end size ordered below = omega arith

pub found_within : (passed start end size limit : ℕ) → start ≤ end → passed + (end - start) ≤ limit → size < end - start
    → passed + (size + 1) + (end - (start + (size + 1))) ≤ limit
found_within passed start end size limit ordered within below = omega arith

-- and so it does behind all that is held
pub all_ordered : (end : ℕ) → end ≤ end
all_ordered end = omega arith

pub all_within : (buffer : List ℕ) (start end passed limit : ℕ) → passed + (end - start) ≤ limit
    → passed + length (slice_range buffer start end) + (end - end) ≤ limit
all_within buffer start end passed limit within = omega (arith, length-take (end - start) (drop start buffer))

-- a scan that found none was of plain bytes
pub scan_had_none : (mid new : Reading) → Scans false mid new → Contains mid.pending 10 → ⊥
scan_had_none mid new scan held =
    let piece : List ℕ = scan.piece in
    let all : mid.pending ≡ piece = scan.held ∙ ap (λ rest. (piece ++ []) ++ rest) (scan.all refl) ∙ append-nil (piece ++ []) ∙ append-nil piece in
    plain_has_none mid.pending (subst IsPlain (sym all) scan.plain) held
