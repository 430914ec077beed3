-- A run whose editor has ended and whose workers are all joined.
use Rattle.std.proofs.Common.{◌≡◌, ◌∙◌, ◌++◌, ℕ, List, [], length, drop, sym, ap, subst, arith, drop_of_length-le}
use Rattle.std.proofs.lemmas.List.{take_all, append-nil}
use Rattle.std.specs.Prelude.{Option, Some, None, take}
use Rattle.command_words.specs.declared.line.CommandLine.{CommandLine}
use Rattle.atomic_table.specs.Seated.{TableId}
use Rattle.map_board.specs.declared.looks.LookAll.{LookAll}
use Rattle.map_lock.specs.Seats.{BoardSeat}
use Rattle.noise_map.specs.declared.run.status.Status.{Status}
use Rattle.noise_map.specs.Ways.{looks_in}
use Rattle.noise_map.specs.inner.Teams.{IsBeginner, HasJoinedAll}
use Rattle.noise_map.specs.inner.Progress.{HasFinished, Ended, SiteEnded, AskedEnded}
use Rattle.noise_map.specs.Outcome.{Outcome, OutcomeOf, Writes}
use Rattle.noise_map.specs.SiteSummary.{Makes, site_lines}
use Rattle.noise_map.proofs.Teams.{comes-whole}
use Rattle.noise_map.proofs.Undone.{leads-back}

-- the seats that were lent are all that come back
pub seats-back : {X : Type 0} (seats items : List X) (len : ℕ) → len ≡ length items → length seats ≡ length items → take len (seats ++ drop (length seats) items) ≡ seats
seats-back seats items len whole same =
    let none : drop (length seats) items ≡ [] = drop_of_length-le items (omega (arith, same)) in
    ap (λ rest. take len (seats ++ rest)) none ∙ (ap (take len) (append-nil seats) ∙ take_all len seats (omega (arith, whole, same)))

-- over an input
whole-run : (words : CommandLine) (lock : TableId) (s : Status) (count : ℕ) (first seat last : BoardSeat) (left later taken_before taken_after : Option (List ℕ))
    → IsBeginner lock words.workers first → Ended words s count (λ done. HasFinished s done first seat) seat left later taken_before taken_after
    → (n : ℕ) → n ≡ words.workers → HasJoinedAll lock seat n last → Outcome words s count (Some last) left later taken_before taken_after
whole-run words lock s count first seat last left later taken_before taken_after begins ended n all joined = record {
  done = ended.done;
  counted = ended.counted;
  covers = ended.covers;
  refused = ended.refused;
  writes = subst (λ (ls : List LookAll). Writes words ls s taken_before taken_after ended.done) (sym (ap looks_in joined.joins.mine)) ended.writes;
  history = comes-whole lock words.workers s ended.done first seat last joined.others begins ended.goes joined.back (joined.all ∙ all) joined.joins;
  back = leads-back ended.done;
}

-- over a generated site
whole-site : (number workers : ℕ) (lock : TableId) (s : Status) (count : ℕ) (first seat last : BoardSeat) (taken_before taken_after : Option (List ℕ))
    → IsBeginner lock workers first → SiteEnded number s count (λ done. HasFinished s done first seat) taken_before taken_after
    → (n : ℕ) → n ≡ workers → HasJoinedAll lock seat n last → Makes number workers s count (Some last) taken_before taken_after
whole-site number workers lock s count first seat last taken_before taken_after begins ended n all joined = record {
  writes = ended.writes;
  history = comes-whole lock workers s (take count (site_lines number)) first seat last joined.others begins ended.goes joined.back (joined.all ∙ all) joined.joins;
}

pub whole-asked : (make : Option ℕ) (words : CommandLine) (lock : TableId) (s : Status) (count : ℕ) (first seat last : BoardSeat) (left later taken_before taken_after : Option (List ℕ))
    → IsBeginner lock words.workers first → AskedEnded make words s count (λ done. HasFinished s done first seat) seat left later taken_before taken_after
    → (n : ℕ) → n ≡ words.workers → HasJoinedAll lock seat n last → OutcomeOf make words s count (Some last) left later taken_before taken_after
whole-asked None words lock s count first seat last left later taken_before taken_after begins ended n all joined =
    whole-run words lock s count first seat last left later taken_before taken_after begins ended n all joined
whole-asked (Some number) words lock s count first seat last left later taken_before taken_after begins ended n all joined =
    whole-site number words.workers lock s count first seat last taken_before taken_after begins ended n all joined
