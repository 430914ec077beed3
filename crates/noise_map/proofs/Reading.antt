-- What was read of an input: line by line, to its end or until something stops it.
use Rattle.std.proofs.Common.{◌≡◌, ◌≢◌, ℕ, ◌+◌, ◌-◌, ◌<◌, ◌≤◌, Bool, true, false, List, [], ◌∷◌, ◌++◌, length, take, Option, refl, sym, ap, ◌∙◌, subst, inl, inr, append_assoc, append-nil, lit≤, arith}
use Rattle.std.proofs.lemmas.List.{length-append}
use Rattle.std.proofs.Math.Seq.{take-append_seam, take-length}
use Rattle.std.proofs.lemmas.List.Elements.{All-nil, All-push}
use Rattle.std.specs.Prelude.{Some, None, All, IfSome}
use Rattle.std.specs.Io.KnownBytes.{Consumes, IsAtEnd, prepend_known}
use Rattle.std.proofs.KnownBytes.{Consumes-trans, Consumes-whole, prepend_known-nil}
use Rattle.map_io.specs.declared.reader.Stop.{Stop}
use Rattle.map_io.specs.declared.reader.Stop.TheVariants.{Going, AtEnd, AfterFault, AtLimit}
use Rattle.map_io.specs.declared.reader.Next.{Next}
use Rattle.map_io.specs.declared.reader.Next.TheVariants as next
use Rattle.map_io.specs.Lines.{IsPlain, lines, whole_lines, ended}
use Rattle.map_io.specs.LineLaws as laws
use Rattle.map_io.specs.Reading.{Reading, read_size, fresh, ahead, PassesLine, NothingAhead, Ends, BreaksOff, ReachesLimit, NextGives, answer_of, bytes_read, input_limit}
use Rattle.noise_map.specs.declared.run.status.Status.{Status}
use Rattle.noise_map.specs.Outcome.{Covers, CoversAll, CoversRead, CoversLimit, CoversFront, TellsRefused}
use Rattle.noise_map.specs.inner.Progress.{status_at_end, ending_of, IsTextOf, HandedOut, Read}

begun : (left : Option (List ℕ)) → Consumes left (ahead fresh left) []
begun None = tt
begun (Some bytes) = refl

started : (left : Option (List ℕ)) → Read fresh 0 left left []
started left = record { plain = All-nil IsPlain; counted = refl; few = omega arith; handed_out = (begun left, refl) }

pub started_as : (r : Reading) (left : Option (List ℕ)) → r ≡ fresh → Read r 0 left left []
started_as r left is = subst (λ (q : Reading). Read q 0 left left []) (sym is) (started left)

pub within_at_start : (r : Reading) → r ≡ fresh → bytes_read r ≤ input_limit
within_at_start r is = let P : Reading → Type 0 = λ q. bytes_read q ≤ input_limit in subst P (sym is) fresh_within
  where
    fresh_within : bytes_read fresh ≤ input_limit
    fresh_within = lit≤ tt

-- ---- what lies ahead

nothing_ahead : (r : Reading) (after : Option (List ℕ)) → NothingAhead r after → IsAtEnd (ahead r after)
nothing_ahead r None nothing = tt
nothing_ahead r (Some bytes) nothing = ap (λ p. p ++ bytes) nothing.held ∙ nothing.left

only_left : (r : Reading) (before after : Option (List ℕ)) (bytes : List ℕ) → r.pending ≡ [] → Consumes before (ahead r after) bytes → Consumes before after bytes
only_left r before after bytes held consumed =
    subst (λ o. Consumes before o bytes) (ap (λ p. prepend_known p after) held ∙ prepend_known-nil after) consumed

-- these lines and this one make all lines
all_lines : (done : List (List ℕ)) (line bytes : List ℕ) → All IsPlain done → IsPlain line → 0 < length line → bytes ≡ ended done ++ line → lines bytes ≡ done ++ line ∷ []
all_lines done line bytes plain line_plain some is =
    ap lines is ∙ laws.lines-ended done line plain ∙ ap (λ ls. done ++ ls) (laws.lines-last line line_plain some)

-- ---- one more line

more_handed_out : (stop : Stop) (r r' : Reading) (before now after : Option (List ℕ)) (done : List (List ℕ)) (line : List ℕ) → All IsPlain done → IsPlain line → HandedOut Going r before now done → r'.passed ≤ input_limit → PassesLine stop r r' now after line → HandedOut stop r' before after (done ++ line ∷ [])
more_handed_out Going r r' before now after done line plain line_plain handed within passes =
    let whole = laws.ended-push done line in (
      subst (Consumes before (ahead r' after)) (sym whole) (Consumes-trans before (ahead r now) (ahead r' after) (ended done) (line ++ 10 ∷ []) handed.0 passes.taken),
      passes.counted ∙ ap (λ n. n + length (line ++ 10 ∷ [])) handed.1 ∙ sym (length-append (ended done) (line ++ 10 ∷ [])) ∙ ap length (sym whole),
    )
more_handed_out AtEnd r r' before now after done line plain line_plain handed within passes =
    let consumed = Consumes-trans before (ahead r now) (ahead r' after) (ended done) line handed.0 passes.1.taken in record {
      read = ended done ++ line;
      consumed = only_left r' before after (ended done ++ line) passes.2.held consumed;
      within = omega (arith, length-append (ended done) line, handed.1, passes.1.counted);
      all = all_lines done line (ended done ++ line) plain line_plain passes.0 refl;
      nothing = passes.2;
    }
more_handed_out AfterFault r r' before now after done line plain line_plain handed within passes = passes
more_handed_out AtLimit r r' before now after done line plain line_plain handed within passes = passes

-- a line passed has a byte at least
pub passed_more : (stop : Stop) (r r' : Reading) (now after : Option (List ℕ)) (line : List ℕ) → PassesLine stop r r' now after line → r.passed + 1 ≤ r'.passed
passed_more Going r r' now after line passes = omega (arith, length-append line (10 ∷ []), passes.counted)
passed_more AtEnd r r' now after line passes = omega (arith, passes.0, passes.1.counted)
passed_more AfterFault r r' now after line passes = absurd passes
passed_more AtLimit r r' now after line passes = absurd passes

-- A line was handed out, or a long one passed over, by a reader that goes on.
pub record Handed (answer : Next) (r r' : Reading) (left now after : Option (List ℕ)) (done : List (List ℕ)) : Type 0 where
  pub so_far : HandedOut Going r left now done
  pub line : List ℕ
  pub plain : IsPlain line
  pub passes : PassesLine r'.stop r r' now after line
  pub text : IsTextOf answer r'.line line

-- a stopped reader answers the same, and neither reads nor changes
abbrev pub StaysStopped : Next → Reading → Reading → Option (List ℕ) → Option (List ℕ) → Type 0
StaysStopped answer r r' now after = (r.stop ≢ Going) → (answer ≡ answer_of r.stop) × (r' ≡ r) × (after ≡ now)

handed_by : (stop : Stop) (answer : Next) (r r' : Reading) (refused : Bool) (left now after : Option (List ℕ)) (done : List (List ℕ))
    → r.stop ≡ stop → HandedOut stop r left now done → ending_of answer refused ≡ None → (r.stop ≡ Going → NextGives answer r r' now after) → StaysStopped answer r r' now after
    → Handed answer r r' left now after done
handed_by Going (next.Line n) r r' refused left now after done is handed goes gives stays =
    let out = gives is in record { so_far = handed; line = r'.line; plain = out.plain; passes = out.passes; text = refl }
handed_by Going next.LongLine r r' refused left now after done is handed goes gives stays =
    let over = gives is in record { so_far = handed; line = over.line; plain = over.plain; passes = over.passes; text = over.long }
handed_by Going next.End r r' refused left now after done is handed goes gives stays = cc
handed_by Going next.ReadFault r r' refused left now after done is handed goes gives stays = cc
handed_by Going next.InputLimit r r' refused left now after done is handed goes gives stays = cc
handed_by AtEnd answer r r' refused left now after done is handed goes gives stays =
    let kept = stays (λ going. let clash : AtEnd ≡ Going = sym is ∙ going in cc) in
    let end : ending_of next.End refused ≡ None = sym (ap (λ a. ending_of a refused) (kept.0 ∙ ap answer_of is)) ∙ goes in cc
handed_by AfterFault answer r r' refused left now after done is handed goes gives stays = absurd handed
handed_by AtLimit answer r r' refused left now after done is handed goes gives stays = absurd handed

module _ (answer : Next) (r r' : Reading) (count : ℕ) (refused : Bool) (left now after : Option (List ℕ)) (done : List (List ℕ)) (read : Read r count left now done)
    (goes : ending_of answer refused ≡ None) (gives : r.stop ≡ Going → NextGives answer r r' now after) (stays : StaysStopped answer r r' now after) where
  pub line_handed : Handed answer r r' left now after done
  line_handed = handed_by r.stop answer r r' refused left now after done refl read.handed_out goes gives stays

  pub read_more : bytes_read r' ≤ input_limit → Read r' (count + 1) left after (done ++ line_handed.line ∷ [])
  unfolding line_handed
  read_more within =
      let h = line_handed in
      record {
        plain = All-push IsPlain done h.line read.plain h.plain;
        counted = length-append done (h.line ∷ []) ∙ ap (λ n. n + 1) read.counted;
        few = omega (arith, read.few, passed_more r'.stop r r' now after h.line h.passes);
        handed_out = more_handed_out r'.stop r r' left now after done h.line read.plain h.plain h.so_far (omega (arith, within)) h.passes;
      }

  -- the line that the reader holds
  pub text_held : (held : List ℕ) → held ≡ r'.line → IsTextOf answer held line_handed.line
  text_held held is = subst (λ (t : List ℕ). IsTextOf answer t line_handed.line) (sym is) line_handed.text

  pub passes_on : bytes_read r' ≤ input_limit → input_limit - r'.passed < input_limit - r.passed
  passes_on within = omega (arith, passed_more r'.stop r r' now after line_handed.line line_handed.passes)

-- ---- how reading ends

abbrev AllDone : List (List ℕ) → List ℕ → Type 0
AllDone done bytes = (lines bytes ≡ done) × (length bytes ≤ input_limit)

ended_now : (r r' : Reading) (left now after : Option (List ℕ)) (done : List (List ℕ)) → All IsPlain done → HandedOut Going r left now done → Ends r r' now after → r'.passed ≤ input_limit
    → CoversAll left after done
ended_now r r' left now after done plain handed ends within =
    let all : lines (ended done ++ []) ≡ done = laws.lines-ended done [] plain ∙ ap (λ ls. done ++ ls) laws.lines-empty ∙ append-nil done in
    let few : length (ended done ++ []) ≤ input_limit = omega (arith, length-append (ended done) [], handed.1, ends.passes.counted) in
    let consumed = Consumes-trans left (ahead r now) (ahead r' after) (ended done) [] handed.0 ends.passes.taken in
    record { ended = ends.nothing.left; all = Consumes-whole left (ahead r' after) (ended done ++ []) (AllDone done) consumed (nothing_ahead r' after ends.nothing) (all, few) }

ended_before : (r : Reading) (left now : Option (List ℕ)) (done : List (List ℕ)) → HandedOut AtEnd r left now done → CoversAll left now done
ended_before r left now done handed =
    record { ended = handed.nothing.left; all = Consumes-whole left now handed.read (AllDone done) handed.consumed handed.nothing.left (handed.all, handed.within) }

-- the whole lines of what was read
whole : (done : List (List ℕ)) (rest : List ℕ) → All IsPlain done → IsPlain rest → whole_lines (ended done ++ rest) ≡ done
whole done rest plain rest_plain = laws.whole_lines-ended done rest plain ∙ ap (λ ls. done ++ ls) (laws.whole_lines-plain rest rest_plain) ∙ append-nil done

failed_to_read : (r r' : Reading) (left now after : Option (List ℕ)) (done : List (List ℕ)) → All IsPlain done → HandedOut Going r left now done → BreaksOff r r' now after → r'.passed ≤ input_limit
    → CoversRead left after done
failed_to_read r r' left now after done plain handed breaks within = record {
  read = ended done ++ breaks.rest;
  consumed = only_left r' left after _ breaks.held (Consumes-trans left (ahead r now) (ahead r' after) (ended done) breaks.rest handed.0 breaks.passes.taken);
  within = omega (arith, length-append (ended done) breaks.rest, handed.1, breaks.passes.counted);
  all = whole done breaks.rest plain breaks.plain;
}

reached_limit : (r r' : Reading) (left now after : Option (List ℕ)) (done : List (List ℕ)) → All IsPlain done → HandedOut Going r left now done → ReachesLimit r r' now after → CoversLimit left after done
reached_limit r r' left now after done plain handed reaches = record {
  read = ended done ++ reaches.rest;
  more = reaches.more;
  consumed =
      only_left r' left after _ reaches.held
      (subst (Consumes left (ahead r' after)) (sym (append_assoc (ended done) reaches.rest (reaches.more ∷ [])))
      (Consumes-trans left (ahead r now) (ahead r' after) (ended done) (reaches.rest ++ reaches.more ∷ []) handed.0 reaches.taken));
  full = length-append (ended done) reaches.rest ∙ ap (λ n. n + length reaches.rest) (sym handed.1) ∙ sym reaches.counted ∙ reaches.full;
  all = whole done reaches.rest plain reaches.plain;
}

some_injective : {X : Type 0} {x y : X} → Some x ≡ Some y → x ≡ y
some_injective e = cc

-- the lines were covered by a status that no line ends, and it tells whether a line was refused
abbrev pub EndsAs : Status → Bool → Option (List ℕ) → Option (List ℕ) → List (List ℕ) → Type 0
EndsAs s refused left after done = Covers s left after done × TellsRefused s refused

at_end : (refused : Bool) (left after : Option (List ℕ)) (done : List (List ℕ)) → CoversAll left after done → EndsAs (status_at_end refused) refused left after done
at_end true left after done covers = (covers, refl)
at_end false left after done covers = (covers, refl)

ended_by : (stop : Stop) (answer : Next) (s : Status) (r r' : Reading) (refused : Bool) (left now after : Option (List ℕ)) (done : List (List ℕ))
    → r.stop ≡ stop → All IsPlain done → HandedOut stop r left now done → bytes_read r' ≤ input_limit
    → ending_of answer refused ≡ Some s → (r.stop ≡ Going → NextGives answer r r' now after) → StaysStopped answer r r' now after → EndsAs s refused left after done
ended_by Going (next.Line n) s r r' refused left now after done is plain handed within ends gives stays = cc
ended_by Going next.LongLine s r r' refused left now after done is plain handed within ends gives stays = cc
ended_by Going next.End s r r' refused left now after done is plain handed within ends gives stays =
    subst (λ (x : Status). EndsAs x refused left after done) (some_injective ends) (at_end refused left after done (ended_now r r' left now after done plain handed (gives is) (omega arith)))
ended_by Going next.ReadFault s r r' refused left now after done is plain handed within ends gives stays =
    subst (λ (x : Status). EndsAs x refused left after done) (some_injective ends) (failed_to_read r r' left now after done plain handed (gives is) (omega arith), tt)
ended_by Going next.InputLimit s r r' refused left now after done is plain handed within ends gives stays =
    subst (λ (x : Status). EndsAs x refused left after done) (some_injective ends) (reached_limit r r' left now after done plain handed (gives is), tt)
ended_by AtEnd answer s r r' refused left now after done is plain handed within ends gives stays =
    let kept = stays (λ going. let clash : AtEnd ≡ Going = sym is ∙ going in cc) in
    let end : status_at_end refused ≡ s = some_injective (sym (ap (λ a. ending_of a refused) (kept.0 ∙ ap answer_of is)) ∙ ends) in
    subst (λ (o : Option (List ℕ)). EndsAs s refused left o done) (sym kept.2)
    (subst (λ (x : Status). EndsAs x refused left now done) end (at_end refused left now done (ended_before r left now done handed)))
ended_by AfterFault answer s r r' refused left now after done is plain handed within ends gives stays = absurd handed
ended_by AtLimit answer s r r' refused left now after done is plain handed within ends gives stays = absurd handed

pub read_ended : (answer : Next) (s : Status) (r r' : Reading) (count : ℕ) (refused : Bool) (left now after : Option (List ℕ)) (done : List (List ℕ))
    → Read r count left now done → bytes_read r' ≤ input_limit
    → ending_of answer refused ≡ Some s → (r.stop ≡ Going → NextGives answer r r' now after) → StaysStopped answer r r' now after → EndsAs s refused left after done
read_ended answer s r r' count refused left now after done read within ends gives stays =
    ended_by r.stop answer s r r' refused left now after done refl read.plain read.handed_out within ends gives stays

-- ---- how reading is broken off

abbrev AreFirst : List (List ℕ) → List ℕ → Type 0
AreFirst done bytes = take (length done) (lines bytes) ≡ done

-- these lines are the first of the input
first_lines : (stop : Stop) (r : Reading) (before after : Option (List ℕ)) (done : List (List ℕ)) → All IsPlain done → HandedOut stop r before after done → IfSome before (AreFirst done)
first_lines Going r None after done plain handed = tt
first_lines Going r (Some bytes) None done plain handed = absurd handed.0
first_lines Going r (Some bytes) (Some rest) done plain handed =
    ap (take (length done)) (ap lines handed.0 ∙ laws.lines-ended done (r.pending ++ rest) plain) ∙ take-append_seam done (lines (r.pending ++ rest))
first_lines AtEnd r before after done plain handed =
    Consumes-whole before after handed.read (AreFirst done) handed.consumed handed.nothing.left (ap (take (length done)) handed.all ∙ take-length done)
first_lines AfterFault r before after done plain handed = absurd handed
first_lines AtLimit r before after done plain handed = absurd handed

held_off : (r : Reading) (after : Option (List ℕ)) → Consumes (ahead r after) after r.pending
held_off r None = tt
held_off r (Some bytes) = refl

-- and nothing was read after them
front_of : (stop : Stop) (r : Reading) (before after : Option (List ℕ)) (done : List (List ℕ)) → All IsPlain done → HandedOut stop r before after done
    → bytes_read r ≤ input_limit → length r.pending ≤ read_size → CoversFront before after done
front_of Going r before after done plain handed within few = record {
  first = first_lines Going r before after done plain handed;
  read = ended done ++ r.pending;
  consumed = Consumes-trans before (ahead r after) after (ended done) r.pending handed.0 (held_off r after);
  within = omega (arith, within, handed.1, length-append (ended done) r.pending);
  no_further = inl (r.pending, refl, few);
}
front_of AtEnd r before after done plain handed within few = record {
  first = first_lines AtEnd r before after done plain handed;
  read = handed.read;
  consumed = handed.consumed;
  within = handed.within;
  no_further = inr (handed.all, handed.nothing.left);
}
front_of AfterFault r before after done plain handed within few = absurd handed
front_of AtLimit r before after done plain handed within few = absurd handed

pub covers_front : (r : Reading) (count : ℕ) (before after : Option (List ℕ)) (done : List (List ℕ)) → Read r count before after done
    → bytes_read r ≤ input_limit → length r.pending ≤ read_size → CoversFront before after done
covers_front r count before after done read within few = front_of r.stop r before after done read.plain read.handed_out within few

-- a run that had no memory for its reader
nothing_read : (left : Option (List ℕ)) → Consumes left left []
nothing_read None = tt
nothing_read (Some bytes) = refl

none_first : (left : Option (List ℕ)) → IfSome left (AreFirst [])
none_first None = tt
none_first (Some bytes) = refl

pub nothing_covered : (left : Option (List ℕ)) → CoversFront left left []
nothing_covered left = record {
  first = none_first left;
  read = [];
  consumed = nothing_read left;
  within = lit≤ tt;
  no_further = inl ([], refl, lit≤ tt);
}
