-- What holds of the board after any calls.
use Rattle.turn_lock.specs.History.{Lawful}
use Rattle.map_board.specs.Rows.{start}
use Rattle.map_board.specs.Machine.{Step, Can}
use Rattle.map_board.specs.Seats.{May}

-- after every history in which each seat asked what it may, a call that it may ask meets the condition of the step
abbrev pub BoardIsLawful : Type 0
BoardIsLawful = Lawful start Step Can May
