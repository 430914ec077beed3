use denote.Exit.{no}
use denote.Ref.{ShrRef, MutRef}
use denote.Param.{param}
use denote.Param.Send.{arg_send, mut_send, param_send, sendable, shr_send}
use Rattle.std.proofs.Common.{[], ◌∷◌}
use Rattle.command_words.specs.contracts.line.CommandLine as CommandLine
use Rattle.noise_map.specs.contracts.run.editor.Editor as Editor
use Rattle.noise_map.specs.contracts.lines.step.Context as Context
use Rattle.noise_map.proofs.Crossing.{MapLock-sync, WorkerSeat-send, closure_crosses, editor_crosses, shared_by_threads}
use Rattle.noise_map.proofs.Teams.{all-back}
use Rattle.noise_map.proofs.run.edit_beside.Goals as goal

pub returns-clause-back : goal.returns-clause-back
returns-clause-back g c = all-back (λ back. back.job) c.args.context.now.lock.now c.args.workers.now c.with_workers.new.seats c.requires.theirs c.with_workers.ensures.seats

pub with_workers-requires-send-F : goal.with_workers-requires-send-F
with_workers-requires-send-F g c κs within =
    param_send 3 _ (arg_send _ no _ (closure_crosses _ (ShrRef _ _ (Context.the_row _ (param 0 g.row.R) (param 1 g.row.G)) ∷ ShrRef _ _ CommandLine.the_row ∷ MutRef _ _ Editor.the_row ∷ MutRef _ _ (param 2 g.row.S) ∷ MutRef _ _ (param 3 g.row.K) ∷ [])
    (shr_send _ _ _ (shared_by_threads _ (param 0 g.row.R) (param 1 g.row.G) c.type_bounds.sync-R c.type_bounds.sync-G), (shr_send _ _ CommandLine.the_row (search sendable depth 20), (mut_send _ _ _ editor_crosses, (mut_send _ _ _ c.type_bounds.send-S, (mut_send _ _ _ c.type_bounds.send-K, tt)))))))

pub with_workers-requires-send-D-Seat : goal.with_workers-requires-send-D-Seat
with_workers-requires-send-D-Seat g c κs within = search (WorkerSeat-send, sendable) depth 40 fits 10000 steps 100000000

pub with_workers-requires-sync-D : goal.with_workers-requires-sync-D
with_workers-requires-sync-D g c κs within = search (MapLock-sync, sendable) depth 40 fits 10000 steps 100000000
