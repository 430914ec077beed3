-- Seats at a board that several share.
use Rattle.std.specs.Prelude.{◌≡◌, ℕ, List, [], ◌∷◌, Ok}
use Rattle.turn_lock.specs.declared.entry.Entry.{Entry}
use Rattle.turn_lock.specs.Standing.{Standing, SeatIsSound}
use Rattle.map_board.specs.declared.calls.BoardCall.{BoardCall}
use Rattle.map_board.specs.declared.calls.BoardReply.{BoardReply}
use Rattle.map_board.specs.declared.calls.BoardReply.TheVariants as replies
use Rattle.map_board.specs.Rows.{start}
use Rattle.map_board.specs.Machine.{Step}
use Rattle.map_board.specs.Seats.{Entries, May, owed, editor}

abbrev pub BoardEntry : Type 0
BoardEntry = Entry BoardCall BoardReply

abbrev pub BoardSeat : Type 0
BoardSeat = Standing BoardCall BoardReply

-- what is true of every seat: it has seen a legal history of the board, in which its own entries are its own
abbrev pub IsSeat : BoardSeat → Type 0
IsSeat seat = SeatIsSound start Step May seat

-- the editor's seat has the editor's number, and owes no job between two calls
pub record IsEditor (seat : BoardSeat) : Type 0 where
  pub sound : IsSeat seat
  pub number : seat.number ≡ editor
  pub free : owed seat.mine ≡ []

-- the counts that a look shows, where it was answered
abbrev pub counts_after : List ℕ → BoardReply → List ℕ
counts_after counts (replies.Looked (Ok look)) = look.counts
counts_after counts reply = counts

abbrev pub counts_from : List ℕ → Entries → List ℕ
counts_from counts [] = counts
counts_from counts (e ∷ es) = counts_from (counts_after counts e.reply) es

-- the four counts of the last look that was answered, and four zeros before the first
abbrev pub counts_seen : Entries → List ℕ
counts_seen mine = counts_from (0 ∷ 0 ∷ 0 ∷ 0 ∷ []) mine
