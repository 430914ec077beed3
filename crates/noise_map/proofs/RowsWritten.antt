-- Which faults a status tells, and that a run without them comes to its end.
use Rattle.std.proofs.Common.{◌≡◌, ◌≢◌, ◌≤◌, ℕ, Bool, true, false, List, [], ◌∷◌, ◌++◌, length, take, refl, ap, sym, ◌∙◌, subst, arith, length-append}
use Rattle.std.specs.Prelude.{Option, Some, None, Err, IfSome}
use Rattle.map_io.specs.Causes.{Rose}
use Rattle.map_io.specs.declared.reader.Stop.{Stop}
use Rattle.map_io.specs.declared.reader.Stop.TheVariants.{Going, AtEnd, AfterFault, AtLimit}
use Rattle.map_io.specs.declared.reader.Next.{Next}
use Rattle.map_io.specs.declared.reader.Next.TheVariants as next
use Rattle.map_io.specs.Reading.{Reading, input_limit}
use Rattle.map_text.specs.declared.stopped.Stopped.{Stopped}
use Rattle.map_text.specs.declared.stopped.Stopped.TheVariants as stops
use Rattle.noise_map.specs.declared.run.status.Status.{Status}
use Rattle.noise_map.specs.declared.run.status.Status.TheVariants as status
use Rattle.map_text.specs.Taking.{CausedByWriteFault}
use Rattle.noise_map.specs.Outcome.{Covers, Outcome, CoversLimit, TellsFault, IsUnbroken, RunsToTheEnd, OutcomeOf, RunOutcome}
use Rattle.map_lock.specs.Seats.{BoardSeat}
use Rattle.noise_map.specs.SiteSummary.{Makes, MakesRow, site_lines}
use Rattle.command_words.specs.declared.line.CommandLine.{CommandLine}
use Rattle.noise_map.proofs.Reading.{nothing_covered}
use Rattle.noise_map.proofs.Doing.{nothing-told}
use Rattle.noise_map.proofs.Undone.{leads-back}
use Rattle.noise_map.specs.inner.Progress.{status_of, ending_of, HandedOut, Read}

same_some : {X : Type 0} {x y : X} → Some x ≡ Some y → x ≡ y
same_some e = cc

not_by_fault : (stop : Stop) (r : Reading) (left now : Option (List ℕ)) (done : List (List ℕ)) → HandedOut stop r left now done → stop ≢ AfterFault
not_by_fault Going r left now done handed is = cc
not_by_fault AtEnd r left now done handed is = cc
not_by_fault AfterFault r left now done handed is = handed
not_by_fault AtLimit r left now done handed is = handed

-- a run in progress has a reader that no fault has stopped
pub goes_without_fault : (r : Reading) (count : ℕ) (left now : Option (List ℕ)) (done : List (List ℕ)) → Read r count left now done → r.stop ≢ AfterFault
goes_without_fault r count left now done p = not_by_fault r.stop r left now done p.handed_out

-- a line is no fault
pub line_is_no_fault : (answer : Next) (refused : Bool) → ending_of answer refused ≡ None → answer ≢ next.ReadFault
line_is_no_fault (next.Line n) refused goes is = cc
line_is_no_fault next.LongLine refused goes is = cc
line_is_no_fault next.End refused goes is = cc
line_is_no_fault next.ReadFault refused goes is = cc
line_is_no_fault next.InputLimit refused goes is = cc

-- the status of a run that ended tells a read fault where the reader answered it, and no write fault
ending_tells : (answer : Next) (refused : Bool) → answer ≢ next.ReadFault → (end : Status) → ending_of answer refused ≡ Some end → end ≢ status.ReadFault
ending_tells (next.Line n) refused other end ends is = cc
ending_tells next.LongLine refused other end ends is = cc
ending_tells next.End true other end ends is = let clash : status.SomeRefused ≡ status.ReadFault = same_some ends ∙ is in cc
ending_tells next.End false other end ends is = let clash : status.Done ≡ status.ReadFault = same_some ends ∙ is in cc
ending_tells next.ReadFault refused other end ends is = other refl
ending_tells next.InputLimit refused other end ends is = let clash : status.InputLimit ≡ status.ReadFault = same_some ends ∙ is in cc

pub read_told : (answer : Next) (refused : Bool) (end : Status) (before now after : ℕ) → ending_of answer refused ≡ Some end → now ≡ before
    → (answer ≡ next.ReadFault → Rose now after) → (answer ≢ next.ReadFault → after ≡ now) → TellsFault status.ReadFault end before after
read_told next.ReadFault refused end before now after ends same rose well = record {
  rose = λ told. subst (λ n. Rose n after) same (rose refl);
  well = λ untold. absurd (untold (sym (same_some ends)));
}
read_told (next.Line n) refused end before now after ends same rose well = cc
read_told next.LongLine refused end before now after ends same rose well = cc
read_told next.End refused end before now after ends same rose well =
    let other : next.End ≢ next.ReadFault = λ is. cc in
    record { rose = λ told. absurd (ending_tells next.End refused other end ends told); well = λ untold. well other ∙ same }
read_told next.InputLimit refused end before now after ends same rose well =
    let other : next.InputLimit ≢ next.ReadFault = λ is. cc in
    record { rose = λ told. absurd (ending_tells next.InputLimit refused other end ends told); well = λ untold. well other ∙ same }

no_write : (answer : Next) (refused : Bool) (end : Status) → ending_of answer refused ≡ Some end → end ≢ status.WriteFault
no_write (next.Line n) refused end ends is = cc
no_write next.LongLine refused end ends is = cc
no_write next.End true end ends is = let clash : status.SomeRefused ≡ status.WriteFault = same_some ends ∙ is in cc
no_write next.End false end ends is = let clash : status.Done ≡ status.WriteFault = same_some ends ∙ is in cc
no_write next.ReadFault refused end ends is = let clash : status.ReadFault ≡ status.WriteFault = same_some ends ∙ is in cc
no_write next.InputLimit refused end ends is = let clash : status.InputLimit ≡ status.WriteFault = same_some ends ∙ is in cc

pub write_untold : (answer : Next) (refused : Bool) (end : Status) (before after : ℕ) → ending_of answer refused ≡ Some end → after ≡ before → TellsFault status.WriteFault end before after
write_untold answer refused end before after ends same = record { rose = λ told. absurd (no_write answer refused end ends told); well = λ untold. same }

-- a line that was broken off is no read fault, and a write fault where the sink has failed
pub read_untold : (stopped : Stopped) (before after : ℕ) → after ≡ before → TellsFault status.ReadFault (status_of stopped) before after
read_untold stops.WriteFault before after same = record { rose = λ told. let clash : status.WriteFault ≡ status.ReadFault = told in cc; well = λ untold. same }
read_untold stops.NoMemory before after same = record { rose = λ told. let clash : status.NoMemory ≡ status.ReadFault = told in cc; well = λ untold. same }

pub write_told : {X : Type 0} (stopped : Stopped) (before now after : ℕ) → now ≡ before → CausedByWriteFault {X = X} (Err stopped) now after → TellsFault status.WriteFault (status_of stopped) before after
write_told stops.WriteFault before now after same cause = record {
  rose = λ told. subst (λ n. Rose n after) same (cause.fault refl);
  well = λ untold. absurd (untold refl);
}
write_told stops.NoMemory before now after same cause = record {
  rose = λ told. let clash : status.NoMemory ≡ status.WriteFault = told in cc;
  well = λ untold. cause.memory refl ∙ same;
}

-- a run over a generated site tells no read fault
pub site_untold : (number : ℕ) (end : Status) (count : ℕ) (taken_before taken_after : Option (List ℕ)) (reads : ℕ) → MakesRow number end count taken_before taken_after
    → TellsFault status.ReadFault end reads reads
site_untold number end count taken_before taken_after reads made = record {
  rose = λ told. absurd (subst (λ (s : Status). MakesRow number s count taken_before taken_after) told made);
  well = λ untold. refl;
}

-- ---- completeness

over_limit : (bytes : List ℕ) (after : Option (List ℕ)) (done : List (List ℕ)) → CoversLimit (Some bytes) after done → length bytes ≤ input_limit → ⊥
over_limit bytes None done covers few = covers.consumed
over_limit bytes (Some rest) done covers few =
    omega (arith, few, ap length covers.consumed, length-append (covers.read ++ covers.more ∷ []) rest, length-append covers.read (covers.more ∷ []), covers.full)

complete_within : (end : Status) (bytes : List ℕ) (after : Option (List ℕ)) (done : List (List ℕ)) (reads reads_after writes writes_after : ℕ)
    → Covers end (Some bytes) after done
    → TellsFault status.ReadFault end reads reads_after → TellsFault status.WriteFault end writes writes_after
    → (Rose reads reads_after → ⊥) → (Rose writes writes_after → ⊥) → length bytes ≤ input_limit → IsUnbroken end
complete_within status.Done bytes after done reads reads_after writes writes_after covers read write no_read no_write few = tt
complete_within status.SomeRefused bytes after done reads reads_after writes writes_after covers read write no_read no_write few = tt
complete_within status.Usage bytes after done reads reads_after writes writes_after covers read write no_read no_write few = covers
complete_within status.ReadFault bytes after done reads reads_after writes writes_after covers read write no_read no_write few = no_read (read.rose refl)
complete_within status.WriteFault bytes after done reads reads_after writes writes_after covers read write no_read no_write few = no_write (write.rose refl)
complete_within status.NoMemory bytes after done reads reads_after writes writes_after covers read write no_read no_write few = tt
complete_within status.InputLimit bytes after done reads reads_after writes writes_after covers read write no_read no_write few = over_limit bytes after done covers few

complete : (end : Status) (left after : Option (List ℕ)) (done : List (List ℕ)) (reads reads_after writes writes_after : ℕ)
    → Covers end left after done
    → TellsFault status.ReadFault end reads reads_after → TellsFault status.WriteFault end writes writes_after
    → (Rose reads reads_after → ⊥) → (Rose writes writes_after → ⊥) → RunsToTheEnd end left
complete end None after done reads reads_after writes writes_after covers read write no_read no_write = tt
complete end (Some bytes) after done reads reads_after writes writes_after covers read write no_read no_write =
    complete_within end bytes after done reads reads_after writes writes_after covers read write no_read no_write

made_within : (number : ℕ) (end : Status) (count : ℕ) (taken_before taken_after : Option (List ℕ)) (writes writes_after : ℕ)
    → MakesRow number end count taken_before taken_after → TellsFault status.WriteFault end writes writes_after → (Rose writes writes_after → ⊥) → IsUnbroken end
made_within number status.Done count taken_before taken_after writes writes_after made write no_write = tt
made_within number status.SomeRefused count taken_before taken_after writes writes_after made write no_write = tt
made_within number status.Usage count taken_before taken_after writes writes_after made write no_write = made
made_within number status.ReadFault count taken_before taken_after writes writes_after made write no_write = made
made_within number status.WriteFault count taken_before taken_after writes writes_after made write no_write = no_write (write.rose refl)
made_within number status.NoMemory count taken_before taken_after writes writes_after made write no_write = tt
made_within number status.InputLimit count taken_before taken_after writes writes_after made write no_write = made

made_complete : (number : ℕ) (end : Status) (count : ℕ) (left taken_before taken_after : Option (List ℕ)) (writes writes_after : ℕ)
    → MakesRow number end count taken_before taken_after → TellsFault status.WriteFault end writes writes_after → (Rose writes writes_after → ⊥) → RunsToTheEnd end left
made_complete number end count None taken_before taken_after writes writes_after made write well = tt
made_complete number end count (Some bytes) taken_before taken_after writes writes_after made write well = λ few.
    made_within number end count taken_before taken_after writes writes_after made write well

-- over the input, and over a generated site
pub asked_complete : (make : Option ℕ) (words : CommandLine) (end : Status) (count : ℕ) (seat : Option BoardSeat) (left after taken_before taken_after : Option (List ℕ)) (reads reads_after writes writes_after : ℕ)
    → OutcomeOf make words end count seat left after taken_before taken_after
    → TellsFault status.ReadFault end reads reads_after → TellsFault status.WriteFault end writes writes_after
    → (Rose reads reads_after → ⊥) → (Rose writes writes_after → ⊥) → RunsToTheEnd end left
asked_complete None words end count seat left after taken_before taken_after reads reads_after writes writes_after outcome read write no_read no_write =
    complete end left after outcome.done reads reads_after writes writes_after outcome.covers read write no_read no_write
asked_complete (Some number) words end count seat left after taken_before taken_after reads reads_after writes writes_after outcome read write no_read no_write =
    made_complete number end count left taken_before taken_after writes writes_after outcome.writes write no_write

-- a run that has not begun
pub never_begun : (words : CommandLine) (left taken : Option (List ℕ)) → Outcome words status.NoMemory 0 None left left taken taken
never_begun words left taken = record {
  done = [];
  counted = refl;
  covers = nothing_covered left;
  refused = tt;
  writes = nothing-told words [] taken;
  history = (refl, refl);
  back = leads-back [];
}

pub never_made : (number workers : ℕ) (taken : Option (List ℕ)) → Makes number workers status.NoMemory 0 None taken taken
never_made number workers taken = record { writes = (omega arith, refl); history = (refl, take_none (site_lines number)) } where
  take_none : (ls : List (List ℕ)) → take 0 ls ≡ []
  take_none ls = refl

pub none_asked : (make : Option ℕ) (words : CommandLine) (left taken : Option (List ℕ)) → OutcomeOf make words status.NoMemory 0 None left left taken taken
none_asked None words left taken = never_begun words left taken
none_asked (Some number) words left taken = never_made number words.workers taken

pub asked_or_not : (asked : Option CommandLine) (left taken : Option (List ℕ)) → IfSome asked (λ line. RunOutcome line status.NoMemory 0 None left left taken taken)
asked_or_not None left taken = tt
asked_or_not (Some line) left taken = none_asked line.make line left taken
