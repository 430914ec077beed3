-- What a settle does: it takes, offers and gives back until the board is settled, and then looks.
use Rattle.std.specs.Prelude.{◌≡◌, ◌≢◌, Bool, true, false, [], ◌∷◌, ◌++◌, All, Result, Ok, MatchResult}
use Rattle.std.specs.List.{list_any}
use Rattle.turn_lock.specs.History.{IsRun, entry}
use Rattle.map_board.specs.declared.calls.BoardCall.{BoardCall}
use Rattle.map_board.specs.declared.calls.BoardCall.TheVariants as calls
use Rattle.map_board.specs.declared.calls.BoardReply.{BoardReply}
use Rattle.map_board.specs.declared.calls.BoardReply.TheVariants as replies
use Rattle.map_board.specs.declared.looks.LookAll.{LookAll}
use Rattle.scene_parts.specs.declared.memory.NoMemory.{NoMemory}
use Rattle.map_board.specs.Rows.{State, start}
use Rattle.map_board.specs.Machine.{Step, look_of}
use Rattle.map_board.specs.Seats.{Entries, May, owed}
use Rattle.map_board.specs.Boards.{is_unsettled}
use Rattle.map_lock.specs.Seats.{BoardSeat, BoardEntry}
use Rattle.map_lock.specs.Turns.{HasActed}

abbrev pub is_finish : BoardCall → Bool
is_finish calls.Finish = true
is_finish call = false

-- none of the entries finishes the board
abbrev pub HasNotFinished : Entries → Type 0
HasNotFinished mine = All (λ e. is_finish e.call ≡ false) mine

-- no row is needy or out
abbrev pub IsSettled : State → Type 0
IsSettled state = list_any (is_unsettled state.journal) state.rows ≡ false

-- takes, offers, give-backs and looks
abbrev pub is_settling : BoardCall → Bool
is_settling calls.Take = true
is_settling (calls.Offer answer) = true
is_settling (calls.GiveBack job) = true
is_settling calls.Look = true
is_settling call = false

abbrev pub is_take_or_offer : BoardCall → Bool
is_take_or_offer calls.Take = true
is_take_or_offer (calls.Offer answer) = true
is_take_or_offer call = false

abbrev pub is_give_back : BoardCall → Bool
is_give_back (calls.GiveBack job) = true
is_give_back call = false

-- the reply of a look that was answered
abbrev pub is_look : BoardReply → Bool
is_look (replies.Looked (Ok look)) = true
is_look reply = false

-- a take or an offer, and so no answered look
pub record IsQuiet (e : BoardEntry) : Type 0 where
  pub kind : is_take_or_offer e.call ≡ true
  pub no_look : is_look e.reply ≡ false

-- A settle was answered by a look. That is its last entry, and its others are takes and offers. All before that entry
-- led to a state that is settled, and the look shows that state.
pub record EndsInLook (seat : BoardSeat) (between own : Entries) (look : LookAll) : Type 0 where
  pub front : Entries
  pub own_is : own ≡ front ++ entry seat.number calls.Look (replies.Looked (Ok look)) ∷ []
  pub quiet : All IsQuiet front
  pub others : Entries
  pub between_is : between ≡ others ++ entry seat.number calls.Look (replies.Looked (Ok look)) ∷ []
  pub state : State
  pub run : IsRun start Step May (seat.seen ++ others) state
  pub settled : IsSettled state
  pub shown : look ≡ look_of state

-- none of the looks was answered
abbrev pub EndsWithout : Entries → Type 0
EndsWithout own = All (λ e. is_look e.reply ≡ false) own

-- A settle found no memory: it had a turn at least, and none of its looks was answered.
pub record EndsUnanswered (own : Entries) : Type 0 where
  pub tried : own ≢ []
  pub unseen : EndsWithout own

-- A seat took, offered, gave back and looked, and then owed no job.
pub record HasWorkedOff (before : BoardSeat) (own : Entries) (after : BoardSeat) : Type 0 where
  pub acted : HasActed before own after
  pub kinds : All (λ e. is_settling e.call ≡ true) own
  pub free : owed after.mine ≡ []

-- A seat only took and offered, and then owed no job.
pub record HasWorkedQuietly (before after : BoardSeat) : Type 0 where
  pub own : Entries
  pub worked : HasWorkedOff before own after
  pub quiet : All IsQuiet own

-- A seat took, offered, gave back and looked, no look of it was answered, and then it owed no job.
pub record HasWorkedUnseen (before after : BoardSeat) : Type 0 where
  pub own : Entries
  pub worked : HasWorkedOff before own after
  pub unseen : EndsWithout own

-- A seat settled the board, with this result.
pub record HasSettled (before : BoardSeat) (result : Result LookAll NoMemory) (after : BoardSeat) : Type 0 where
  pub own : Entries
  pub worked : HasWorkedOff before own after
  pub ends : MatchResult result (EndsInLook before worked.acted.between own) (λ _. EndsUnanswered own)
