-- The rows that go out: seven fields each.
use Rattle.std.specs.Prelude.{ℕ, ◌/◌, ◌%◌, ℤ, List, [], ◌∷◌, ◌++◌, Option, Some, decimal, codes}
use Rattle.csv_rows.specs.Rows.{row}
use Rattle.fix_interval.specs.Interval.{Interval}
use Rattle.energy_sum.specs.Sums.{units_of}
use Rattle.scene_geom.specs.Bands.{frequency_of}
use Rattle.scene_geom.specs.declared.band.Band.{Band}
use Rattle.map_text.specs.declared.heads.Head.{Head}
use Rattle.map_text.specs.declared.heads.Head.TheVariants.{Settle, Look}
use Rattle.map_text.specs.declared.refusals.Refusal.{Refusal}
use Rattle.map_text.specs.Rounding.{low_hundredths, high_hundredths}
use Rattle.map_text.specs.Faults.{FaultText, refusal_text}

-- ---- settles and looks

abbrev pub head_word : Head → List ℕ
head_word Settle = codes "settle"
head_word Look = codes "look"

-- the head of the rows of a settle or a look: the version, and how many receivers there are
unfoldable pub head_row : Head → ℕ → ℕ → List ℕ
head_row head version rows =
    row (head_word head ∷ decimal version ∷ decimal rows ∷ [] ∷ [] ∷ [] ∷ [] ∷ [])

-- ---- levels

-- hundredths of a decibel, with a point and two decimals
unfoldable pub hundredths_text : ℕ → List ℕ
hundredths_text n = decimal (n / 100) ++ 46 ∷ (decimal (n / 10 % 10) ++ decimal (n % 10))

-- the low end of a level in dB, rounded down to 0.01 dB, and the high end, rounded up
abbrev pub low_text : Option ℤ → List ℕ
low_text end = hundredths_text (low_hundredths (units_of end))

abbrev pub high_text : Option ℤ → List ℕ
high_text end = hundredths_text (high_hundredths (units_of end))

-- a level at a receiver
unfoldable pub level_row : List ℕ → ℕ → List ℕ → List ℕ → List ℕ → Interval → List ℕ
level_row kind version name state by level =
    row (kind ∷ decimal version ∷ name ∷ state ∷ by ∷ low_text level.lo ∷ high_text level.hi ∷ [])

-- a receiver that is current, with its A-weighted long-term level
abbrev pub current_row : ℕ → List ℕ → Interval → List ℕ
current_row version name total = level_row (codes "row") version name (codes "current") [] total

-- a receiver that is stale: the version whose scene gave its A-weighted long-term level, and the first edit after that
-- which touches it
abbrev pub stale_row : ℕ → List ℕ → ℕ → Interval → List ℕ
stale_row version name by total =
    level_row (codes "row") version name (codes "stale") (decimal by) total

-- a receiver that has had no level since this edit put it
unfoldable pub new_row : ℕ → List ℕ → List ℕ
new_row since name =
    row (codes "row" ∷ decimal since ∷ name ∷ codes "new" ∷ [] ∷ [] ∷ [] ∷ [])

-- a band of a receiver, by its frequency in Hz, with its level there, which isn't weighted
abbrev pub band_row : ℕ → List ℕ → Band → Interval → List ℕ
band_row version name band level =
    level_row (codes "band") version name (decimal (frequency_of band)) [] level

-- ---- counts

-- the version, how many receivers there are, and how many jobs were taken, answers kept, answers gone, and jobs given
-- back
unfoldable pub counts_row : ℕ → ℕ → ℕ → ℕ → ℕ → ℕ → List ℕ
counts_row version rows taken kept gone back =
    row (codes "counts" ∷ decimal version ∷ decimal rows ∷ decimal taken ∷ decimal kept
    ∷ decimal gone ∷ decimal back ∷ [])

-- ---- refused lines

-- a line that was refused, by its number from 1: the fault's name, and two texts that say more of it
unfoldable pub fault_row : ℕ → ℕ → List ℕ → List ℕ → List ℕ → List ℕ
fault_row version line fault first second =
    row (codes "refused" ∷ decimal version ∷ decimal line ∷ fault ∷ first ∷ second ∷ [] ∷ [])

abbrev pub said_row : ℕ → ℕ → FaultText → List ℕ
said_row version line said = fault_row version line said.fault said.first said.second

abbrev pub refused_row : ℕ → ℕ → Refusal → List ℕ
refused_row version line refusal = said_row version line (refusal_text refusal)

-- ---- generated sites

-- the run of a generated site: the last version, how many receivers there are, the number of the site, how many of
-- its lines were refused, and the least low end and the greatest high end of the last settle
unfoldable pub made_row : ℕ → ℕ → ℕ → ℕ → ℤ → ℤ → List ℕ
made_row version rows number refused low high =
    row (codes "made" ∷ decimal version ∷ decimal rows ∷ decimal number ∷ decimal refused
    ∷ low_text (Some low) ∷ high_text (Some high) ∷ [])
