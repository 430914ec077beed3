-- The editor's seat after a call of its own.
use Rattle.std.proofs.Common.{◌≡◌, ℕ, List, [], sym, ap, ◌∙◌}
use Rattle.std.specs.Prelude.{Result}
use Rattle.scene_parts.specs.declared.memory.NoMemory.{NoMemory}
use Rattle.turn_lock.specs.History.{entry}
use Rattle.map_board.specs.declared.calls.BoardCall.{BoardCall}
use Rattle.map_board.specs.declared.calls.BoardReply.{BoardReply}
use Rattle.map_board.specs.declared.calls.BoardReply.TheVariants as replies
use Rattle.map_board.specs.declared.looks.LookAll.{LookAll}
use Rattle.map_board.specs.Seats.{owed_after}
use Rattle.map_lock.specs.Seats.{BoardSeat, IsSeat, IsEditor, counts_after, counts_seen}
use Rattle.map_lock.specs.Turns.{HasTurned}
use Rattle.map_lock.specs.Settling.{HasSettled}
use Rattle.map_lock.proofs.Entries.{owed-snoc, counts-snoc}
use Rattle.map_lock.proofs.Rounds.{settled-counts}

module _ (before after : BoardSeat) (editor : IsEditor before) (sound : IsSeat after) where
  pub editor-after : (call : BoardCall) (reply : BoardReply) → HasTurned before call reply after → owed_after [] call reply ≡ []
      → IsEditor after
  editor-after call reply turned none = record {
    sound = sound;
    number = turned.called.number ∙ editor.number;
    free =
        owed-snoc before.mine after.mine (entry before.number call reply) turned.called.mine
        ∙ (ap (λ jobs. owed_after jobs call reply) editor.free ∙ none);
  }

  pub editor-settled : (result : Result LookAll NoMemory) → HasSettled before result after → IsEditor after
  editor-settled result settled = record {
    sound = sound;
    number = settled.worked.acted.number ∙ editor.number;
    free = settled.worked.free;
  }

module _ (before after : BoardSeat) (counts : List ℕ) (seen : counts ≡ counts_seen before.mine) where
  -- the counts after a reply
  pub counts-turned : (call : BoardCall) (reply : BoardReply) → HasTurned before call reply after
      → counts_after counts reply ≡ counts_seen after.mine
  counts-turned call reply turned =
      ap (λ c. counts_after c reply) seen
      ∙ sym (counts-snoc before.mine after.mine (entry before.number call reply) turned.called.mine)

  pub counts-settled : (result : Result LookAll NoMemory) → HasSettled before result after
      → counts_after counts (replies.Looked result) ≡ counts_seen after.mine
  counts-settled result settled =
      ap (λ c. counts_after c (replies.Looked result)) seen ∙ sym (settled-counts before after result settled)
