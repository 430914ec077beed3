-- Each step's reply is of its call's kind.
use Rattle.std.proofs.Common.{refl}
use Rattle.map_board.specs.declared.calls.BoardCall.{BoardCall}
use Rattle.map_board.specs.declared.calls.BoardCall.TheVariants as calls
use Rattle.map_board.specs.declared.calls.BoardReply.{BoardReply}
use Rattle.map_board.specs.declared.calls.BoardReply.TheVariants as replies
use Rattle.map_board.specs.Rows.{State}
use Rattle.map_board.specs.Machine.{Step}
use Rattle.map_lock.specs.Turns.{IsReplyTo}

pub step-kind : (before : State) (call : BoardCall) (reply : BoardReply) (after : State) → Step before call reply after
    → IsReplyTo call reply
step-kind before (calls.Edit edit) (replies.Edited r) after step = (r, refl)
step-kind before (calls.Edit edit) (replies.Took took) after step = absurd step
step-kind before (calls.Edit edit) replies.Done after step = absurd step
step-kind before (calls.Edit edit) (replies.Landed landed) after step = absurd step
step-kind before (calls.Edit edit) (replies.Looked r) after step = absurd step
step-kind before calls.Take (replies.Edited r) after step = absurd step
step-kind before calls.Take (replies.Took took) after step = (took, refl)
step-kind before calls.Take replies.Done after step = absurd step
step-kind before calls.Take (replies.Landed landed) after step = absurd step
step-kind before calls.Take (replies.Looked r) after step = absurd step
step-kind before calls.Finish (replies.Edited r) after step = absurd step
step-kind before calls.Finish (replies.Took took) after step = absurd step
step-kind before calls.Finish replies.Done after step = refl
step-kind before calls.Finish (replies.Landed landed) after step = absurd step
step-kind before calls.Finish (replies.Looked r) after step = absurd step
step-kind before (calls.Offer answer) (replies.Edited r) after step = absurd step
step-kind before (calls.Offer answer) (replies.Took took) after step = absurd step
step-kind before (calls.Offer answer) replies.Done after step = absurd step
step-kind before (calls.Offer answer) (replies.Landed landed) after step = (landed, refl)
step-kind before (calls.Offer answer) (replies.Looked r) after step = absurd step
step-kind before (calls.GiveBack job) (replies.Edited r) after step = absurd step
step-kind before (calls.GiveBack job) (replies.Took took) after step = absurd step
step-kind before (calls.GiveBack job) replies.Done after step = refl
step-kind before (calls.GiveBack job) (replies.Landed landed) after step = absurd step
step-kind before (calls.GiveBack job) (replies.Looked r) after step = absurd step
step-kind before calls.Look (replies.Edited r) after step = absurd step
step-kind before calls.Look (replies.Took took) after step = absurd step
step-kind before calls.Look replies.Done after step = absurd step
step-kind before calls.Look (replies.Landed landed) after step = absurd step
step-kind before calls.Look (replies.Looked r) after step = (r, refl)
