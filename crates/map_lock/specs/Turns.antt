-- Calls through a seat, each in its turn.
use Rattle.std.specs.Prelude.{◌≡◌, ℕ, ◌++◌, Result}
use Rattle.scene_parts.specs.declared.memory.NoMemory.{NoMemory}
use Rattle.scene_book.specs.declared.edits.EditFault.{EditFault}
use Rattle.turn_lock.specs.Standing.{HasCalled}
use Rattle.turn_lock.specs.History.{IsRun, entries_of}
use Rattle.map_board.specs.declared.calls.BoardCall.{BoardCall}
use Rattle.map_board.specs.declared.calls.BoardCall.TheVariants as calls
use Rattle.map_board.specs.declared.calls.BoardReply.{BoardReply}
use Rattle.map_board.specs.declared.calls.BoardReply.TheVariants as replies
use Rattle.map_board.specs.declared.calls.Took.{Took}
use Rattle.map_board.specs.declared.answers.Landed.{Landed}
use Rattle.map_board.specs.declared.looks.LookAll.{LookAll}
use Rattle.map_board.specs.Rows.{State, start}
use Rattle.map_board.specs.Machine.{Step}
use Rattle.map_board.specs.Seats.{Entries, May}
use Rattle.map_lock.specs.Seats.{BoardSeat}

-- the reply is of the call's kind
abbrev pub IsReplyTo : BoardCall → BoardReply → Type 0
IsReplyTo (calls.Edit edit) reply = (result : Result ℕ EditFault) × (reply ≡ replies.Edited result)
IsReplyTo calls.Take reply = (took : Took) × (reply ≡ replies.Took took)
IsReplyTo calls.Finish reply = reply ≡ replies.Done
IsReplyTo (calls.Offer answer) reply = (landed : Landed) × (reply ≡ replies.Landed landed)
IsReplyTo (calls.GiveBack job) reply = reply ≡ replies.Done
IsReplyTo calls.Look reply = (result : Result LookAll NoMemory) × (reply ≡ replies.Looked result)

-- the board replies to the call by a value of one kind
abbrev pub RepliesBy : {A : Type 0} → (A → BoardReply) → BoardCall → Type 0
RepliesBy {A} said call = (reply : BoardReply) → IsReplyTo call reply → (value : A) × (reply ≡ said value)

-- A seat's call was answered so. The seat saw what others alone did in between, and then its own entry, the last of all
-- that it has seen. All before that entry led to a state, from which the board's step for this call gave this reply.
pub record HasTurned (before : BoardSeat) (call : BoardCall) (reply : BoardReply) (after : BoardSeat) : Type 0 where
  pub called : HasCalled before call reply after
  pub met : State
  pub left : State
  pub run : IsRun start Step May (before.seen ++ called.between) met
  pub step : Step met call reply left
  pub whole : IsRun start Step May after.seen left

-- A seat did these entries, none or many, and no others. It saw what all seats did in between.
pub record HasActed (before : BoardSeat) (own : Entries) (after : BoardSeat) : Type 0 where
  pub between : Entries
  pub seen : after.seen ≡ before.seen ++ between
  pub own_are : entries_of before.number between ≡ own
  pub mine : after.mine ≡ before.mine ++ own
  pub table : after.table ≡ before.table
  pub number : after.number ≡ before.number
  pub parts : after.parts ≡ before.parts
  pub joined : after.joined ≡ before.joined
