-- A lock may be shared by threads, and a seat may go to another.
use denote.Ref.{NamedLft}
use denote.RattleType.{RattleType}
use denote.Param.Send.{IsSend, IsSync, AllSend, sendable}
use denote.Param.SendFields.{FieldsHave, as_row_send, declared_send}
use denote.Struct.Field.{row_field}
use denote.Struct.Tuple.{TupleAt, type_at, parts}
use mir.Syntax.{Sym}
use Rattle.std.proofs.Common.{List, [], ◌∷◌}
use denote.Model.Local.{Parts, rows}
use denote.Model.Goals.{Goals, send, tied_goals}
use Rattle.map_lock.specs.contracts.lock.MapLock as MapLock
use Rattle.map_lock.specs.contracts.machine.SharedBoard as SharedBoard
use Rattle.map_lock.specs.contracts.seats.WorkerSeat as WorkerSeat
use Rattle.map_lock.specs.contracts.seats.EditorSeat as EditorSeat
use Rattle.map_board.specs.contracts.state.Board as Board
use Rattle.map_board.specs.contracts.calls.BoardCall as BoardCall
use Rattle.map_board.specs.contracts.calls.BoardReply as BoardReply
use Rattle.turn_lock.specs.contracts.view.View as View
use Rattle.atomic_table.specs.contracts.shared.Seat as Place
use Rattle.std.specs.contracts.option.Option as Option
use Rattle.scene_book.proofs.Crossing.{Scene-send}
use Rattle.scene_undo.proofs.Crossing.{KeptVersion-send}
use Rattle.map_board.specs.contracts.past.Past as Past
use Rattle.map_board.specs.contracts.past.Past.TheKnot as knot
use Rattle.map_board.specs.declared.past.Past.TheDeep as deep
use Rattle.map_board.specs.contracts.scenes.PreparedScene as PreparedScene
use Rattle.map_board.specs.contracts.edits.namings.Naming as Naming
use Rattle.map_board.specs.contracts.rows.HeldRow as HeldRow
use Rattle.map_board.specs.contracts.rows.held_rows.HeldRows as HeldRows
use Rattle.map_board.specs.contracts.edits.log.Log as Log
use Rattle.map_board.specs.contracts.rows.Tally as Tally
use Rattle.atomic_table.proofs.shared.Shared.TheSendSync.{the_sync as Table-sync}
use Rattle.atomic_table.proofs.shared.Seat.TheSendSync.{the_send as Seat-send}
use Rattle.atomic_table.proofs.send_lease.SendLease.TheSendSync.{the_sync as Lease-sync}
use Rattle.map_io.specs.contracts.reader.LineReader as LineReader
use Rattle.noise_map.specs.contracts.lines.step.Context as Context
use Rattle.noise_map.specs.contracts.run.editor.Editor as Editor
use Rattle.std.proofs.Crossing.{crosses, Vec-send}

-- a journal holds nothing but what contracts see, so one layer of it may cross whatever the layers in it are
layer-fields : (p : Parts knot.frame) → IsSend (knot.at-Past p)
layer-fields p = search (crosses, sendable) depth 40 fits 10000 steps 1000000

abbrev alone : Goals deep.the_members
alone = record { G = Unit {0}; member = λ _. deep.member-Past; law = λ _. send }

layer-send : (p : Parts knot.frame) → IsSend (rows knot.frame (knot.step p) deep.member-Past)
layer-send p = record { owned = λ x vs d. ((layer-fields p).owned d.0 vs, tt); leaving = λ k. search }

Past-send : IsSend Past.the_row
Past-send = tied_goals knot.frame knot.step knot.sizes alone (λ p all g. layer-send p) tt

-- what holds a scene, a level at a time, since one search through all of them ends without an answer
PreparedScene-send : IsSend PreparedScene.the_row
PreparedScene-send = search (Scene-send, crosses, sendable) depth 80 fits 100000 steps 1000000

HeldRow-send : IsSend HeldRow.the_row
HeldRow-send = search (crosses, sendable) depth 80 fits 100000 steps 10000000

HeldRows-send : IsSend HeldRows.the_row
HeldRows-send = search (HeldRow-send, crosses, sendable) depth 80 fits 100000 steps 10000000

Log-send : IsSend Log.the_row
Log-send = search (crosses, sendable) depth 80 fits 100000 steps 10000000

Naming-send : IsSend Naming.the_row
Naming-send = search (crosses, sendable) depth 80 fits 100000 steps 10000000

Tally-send : IsSend Tally.the_row
Tally-send = search (crosses, sendable) depth 40 fits 10000 steps 1000000

-- a board by its fields in turn, since one search through all of them ends without an answer
Board-send : IsSend Board.the_row
Board-send = record {
  owned = λ d vs x. (
    λ parts. (
      tt,
      (
        search (crosses, sendable),
        (
          PreparedScene-send.owned x.0.hold parts.1.0,
          (
            search (crosses, sendable),
            (
              HeldRows-send.owned x.0.rows parts.1.1.1.0,
              (
                search (crosses, sendable),
                (
                  Tally-send.owned x.0.counts parts.1.1.1.1.1.0,
                  (
                    Log-send.owned x.0.log parts.1.1.1.1.1.1.0,
                    (
                      (Vec-send Naming.the_row Naming-send).owned x.0.namings parts.1.1.1.1.1.1.1.0,
                      (Past-send.owned x.0.past parts.1.1.1.1.1.1.1.1.0, tt),
                    ),
                  ),
                ),
              ),
            ),
          ),
        ),
      ),
    ),
    tt,
  );
  leaving = λ k d w. tt;
}

SharedBoard-send : IsSend SharedBoard.the_row
SharedBoard-send = search (Board-send, sendable) depth 40 fits 10000 steps 1000000

pub MapLock-sync : IsSync MapLock.the_row
MapLock-sync = search (SharedBoard-send, Table-sync, Lease-sync, crosses, sendable) depth 40 fits 10000 steps 1000000

Slot-send : IsSend (Option.the_row SharedBoard.the_row)
Slot-send = search (SharedBoard-send, sendable) depth 40 fits 10000 steps 1000000

Place-send : IsSend (Place.the_row (Option.the_row SharedBoard.the_row) (View.the_row BoardCall.the_row BoardReply.the_row))
Place-send = Seat-send (Option.the_row SharedBoard.the_row) (View.the_row BoardCall.the_row BoardReply.the_row) Slot-send

pub WorkerSeat-send : IsSend WorkerSeat.the_row
WorkerSeat-send = search (Place-send, sendable) depth 40 fits 10000 steps 100000000

EditorSeat-send : IsSend EditorSeat.the_row
EditorSeat-send = search (Place-send, sendable) depth 40 fits 10000 steps 100000000

pub editor_crosses : IsSend Editor.the_row
editor_crosses = search (EditorSeat-send, Scene-send, KeptVersion-send, crosses, sendable) depth 40 fits 10000 steps 100000000

pub reader_crosses : IsSend LineReader.the_row
reader_crosses = search (crosses, sendable) depth 40 fits 10000 steps 1000000

-- what lines act on may be shared where its handle and its gate may
pub shared_by_threads : (ℓ : NamedLft) (R G : RattleType) → IsSync R → IsSync G → IsSync (Context.the_row ℓ R G)
shared_by_threads ℓ R G handle gate = search (MapLock-sync, crosses, sendable) depth 40 fits 10000 steps 1000000

-- a closure may cross where all that it captures may
captures : (Ts : List RattleType) → AllSend Ts → FieldsHave IsSend (parts Ts)
captures [] s = tt
captures (T ∷ Ts) s = (as_row_send (row_field T) s.0, captures Ts s.1)

pub closure_crosses : (ν : Sym) (Ts : List RattleType) → AllSend Ts → IsSend (TupleAt ν Ts)
closure_crosses ν Ts s = declared_send (type_at ν Ts) (captures Ts s)
