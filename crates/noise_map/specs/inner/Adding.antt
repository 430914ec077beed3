-- What one more line adds to what the lines of a generated site come to, as the run keeps it.
use Rattle.std.specs.Prelude.{◌≡◌, ℕ, ◌+◌, List, length, Result, Ok, Err}
use Rattle.map_text.specs.declared.site_summary.SiteSummary.{SiteSummary}
use Rattle.map_text.specs.SiteSummary.{span_of_rows}
use Rattle.noise_map.specs.declared.lines.answer.Answer.{Answer}
use Rattle.noise_map.specs.declared.lines.answer.Answer.TheVariants.{Nothing, Refused, Settled, Looked, Contoured}
use Rattle.noise_map.specs.declared.run.editor.Editor.{Editor}
use Rattle.noise_map.specs.Demands.{demand_of}
use Rattle.noise_map.specs.Effects.{effect_of}
use Rattle.noise_map.specs.inner.Steps.{past_of, HasMet, HasFollowed, HasFailed}

-- what one more answer adds
abbrev pub made_with_answer : SiteSummary → Answer → SiteSummary
made_with_answer summary Nothing = summary
made_with_answer summary (Refused fault) = record summary { refused = summary.refused + 1 }
made_with_answer summary (Settled look) = record summary { receivers = length look.rows; span = span_of_rows look.rows }
made_with_answer summary (Looked look) = summary
made_with_answer summary (Contoured contour look) = summary

-- a line was done at the board and its answer added, or it lacked memory
abbrev pub AddsLine : {X E : Type 0} → Result X E → Editor → SiteSummary → List ℕ → Editor → SiteSummary → Type 0
AddsLine (Ok done) before summary line after next =
    let effect = effect_of (past_of before) (demand_of line) in
    (answer : Answer) × HasMet before.seat effect answer after.seat × HasFollowed before effect after
    × (next ≡ made_with_answer summary answer)
AddsLine (Err want) before summary line after next =
    HasFailed before.seat (effect_of (past_of before) (demand_of line)) after.seat
