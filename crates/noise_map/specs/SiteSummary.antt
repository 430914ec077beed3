-- What the lines of a generated site come to, and the one row that tells it.
use Rattle.std.specs.Prelude.{◌≡◌, ℕ, ◌+◌, ◌<◌, ◌≤◌, List, [], ◌∷◌, map, take, fold, length, Option, None, unwrap_or}
use Rattle.std.specs.Io.KnownBytes.{Appends}
use Rattle.fix_interval.specs.Interval.{Interval}
use Rattle.scene_parts.specs.Parts.{Receiver}
use Rattle.scene_book.specs.Book.{Book}
use Rattle.path_calc.specs.Show.{show_of}
use Rattle.map_io.specs.Lines.{lines}
use Rattle.map_board.specs.Journal.{newest_scene}
use Rattle.map_lock.specs.Seats.{BoardSeat}
use Rattle.map_text.specs.declared.site_summary.SiteSummary.{SiteSummary}
use Rattle.map_text.specs.declared.stopped.Stopped.TheVariants as stops
use Rattle.map_text.specs.SiteSummary.{no_level, widened, row_of_summary}
use Rattle.map_text.specs.Taking.{TakesFront}
use Rattle.site_maker.specs.Site.{site_text}
use Rattle.noise_map.specs.declared.run.status.Status.{Status}
use Rattle.noise_map.specs.declared.run.status.Status.TheVariants as status
use Rattle.noise_map.specs.Demands.{demand_of}
use Rattle.noise_map.specs.Effects.{Display, silent, refused, settled, known, contoured, Past, no_past, Effect, effect_of, past_with}
use Rattle.noise_map.specs.Histories.{HasHistory}

-- ---- the levels of a settle

-- the A-weighted long-term level of a receiver
abbrev pub total_in : Book → Receiver → Interval
total_in book r = (show_of book r).total

-- that of all receivers, and 0 dB where there is none
unfoldable pub span_in : Book → Interval
span_in book = unwrap_or (fold widened None (map (total_in book) book.receivers)) no_level

-- ---- lines

-- what lines have come to: what they leave, how many of them were refused, and of the last settle the number of
-- receivers and their levels
pub record Made : Type 0 where
  pub past : Past
  pub refused : ℕ
  pub receivers : ℕ
  pub span : Interval

-- before the first line
abbrev pub nothing_made : Made
nothing_made = record { past = no_past; refused = 0; receivers = 0; span = no_level }

-- what one more line adds that is shown so
abbrev pub made_showing : Made → Display → Made
made_showing made silent = made
made_showing made (refused fault) = record made { refused = made.refused + 1 }
made_showing made settled =
    let book = newest_scene made.past.journal in
    record made { receivers = length book.receivers; span = span_in book }
made_showing made known = made
made_showing made (contoured contour) = made

-- one more line, which comes to this
abbrev pub made_with : Made → Effect → Made
made_with made effect =
    made_showing (record made { past = past_with made.past effect }) effect.display

abbrev pub made_after : Made → List ℕ → Made
made_after made line = made_with made (effect_of made.past (demand_of line))

abbrev pub made_by : List (List ℕ) → Made
made_by done = fold made_after nothing_made done

-- ---- the same as a run holds it, without the edits

abbrev pub summary_of : Made → SiteSummary
summary_of made = record {
  refused = made.refused;
  receivers = made.receivers;
  span = made.span;
}

-- ---- sites

-- the lines of the site of this number, and what they come to
abbrev pub site_lines : ℕ → List (List ℕ)
site_lines number = lines (site_text number)

abbrev pub site_made : ℕ → Made
site_made number = made_by (site_lines number)

-- the row that tells it
abbrev pub site_row : ℕ → List ℕ
site_row number = row_of_summary number (length (site_made number).past.journal) (summary_of (site_made number))

-- ---- runs

-- A run over the site of this number, by its status: how many of its lines were done, and what the sink has taken.
abbrev pub MakesRow : ℕ → Status → ℕ → Option (List ℕ) → Option (List ℕ) → Type 0
MakesRow number status.Done count before after =
    (count ≡ length (site_lines number)) × ((site_made number).refused ≡ 0) × Appends before after (site_row number)
MakesRow number status.SomeRefused count before after =
    (count ≡ length (site_lines number)) × (0 < (site_made number).refused)
    × Appends before after (site_row number)
MakesRow number status.Usage count before after = ⊥
MakesRow number status.ReadFault count before after = ⊥
MakesRow number status.WriteFault count before after =
    (count ≡ length (site_lines number)) × TakesFront stops.WriteFault before after (site_row number ∷ [])
MakesRow number status.NoMemory count before after = (count ≤ length (site_lines number)) × (after ≡ before)
MakesRow number status.InputLimit count before after = ⊥

-- and the history of its board, over the lines that were done
pub record Makes (number workers : ℕ) (status : Status) (count : ℕ) (seat : Option BoardSeat)
    (before after : Option (List ℕ)) : Type 0 where
  pub writes : MakesRow number status count before after
  pub history : HasHistory workers status (take count (site_lines number)) seat
