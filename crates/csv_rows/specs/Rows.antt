-- A row that goes out (RFC 4180): its fields, and a line feed.
use Rattle.std.specs.Prelude.{ℕ, List}
use Rattle.csv.specs.Writing.{row_text, default_writer}

-- the text of a row
unfoldable pub row : List (List ℕ) → List ℕ
row fields = row_text default_writer fields
