-- A session may go to another thread: each type by those of its fields.
use denote.RattleType.{RattleType}
use denote.Ref.{NamedLft}
use denote.Param.Send.{IsSend, IsSync, struct_sync, sendable}
use denote.Struct.Declared.{shape}
use Rattle.core.proofs.snapshot.Sent.{snapshot_sync}
use Rattle.core.specs.contracts.option.Option as Opt
use Rattle.std_alloc.specs.contracts.arc.Arc as Arc
use Rattle.std.specs.contracts.alloc.Global as Global
use Rattle.std.specs.contracts.impls.GlobalAllocator.TheImpl as global
use Rattle.desk_model.specs.contracts.version.Version as Version
use Rattle.desk_lock.specs.contracts.board.Laid as Laid
use Rattle.desk_lock.specs.contracts.board.View as View
use Rattle.desk_lock.specs.contracts.board.Begun as Begun
use Rattle.desk_lock.specs.contracts.board.Turns as Turns
use Rattle.desk_lock.specs.Board.{Kept, KeepsSince}
use Rattle.desk_lock.specs.Seats.{beginner}
use Rattle.std.proofs.Crossing as heap
use Rattle.std.proofs.Crossing.{crosses}
use Rattle.atomic_table.proofs.owned.Table.TheSendSync as table
use Rattle.outside.specs.declared.clock.Clock as clock
use Rattle.desk_model.specs.declared.machine.Machine as machine
use Rattle.desk_model.specs.declared.keeper.Keeper as keeper
use Rattle.desk_model.proofs.version.Version.TheSendSync as version
use Rattle.desk_lock.specs.contracts.lock.Lock as Lock
use Rattle.desk_lock.specs.contracts.lock.Lock.TheInside as Inside
use Rattle.desk_lock.specs.contracts.queue.Queues as Queues
use Rattle.desk_lock.proofs.failure.Failure.TheSendSync as failure
use Rattle.desk_lock.proofs.board.Laid.TheSendSync as laid
use Rattle.desk_lock.proofs.pass.Pass.TheSendSync as pass
use Rattle.desk_serve.specs.contracts.running.Session as Session

module _ (M C K S A Q W E : RattleType) (m : machine.Ghosts M.Denot S.Denot A.Denot Q.Denot W.Denot E.Denot) (c : clock.Ghosts C.Denot) (k : keeper.Ghosts K.Denot M.Denot S.Denot A.Denot Q.Denot W.Denot E.Denot) where
  Queues-sync : IsSend M → IsSync M → IsSend K → IsSync (Queues.the_field M K S A Q W E m k).row
  Queues-sync a b e = search (failure.the_send, sendable, crosses) depth 60 fits 20000

  Inside-sync : IsSend M → IsSync M → IsSend C → IsSend K → IsSend S → IsSync S → IsSend A → IsSync A → IsSync (Inside.the_field M C K S A Q W E m c k).row
  Inside-sync a b d e f h i j = struct_sync (shape (Inside.the_type M C K S A Q W E m c k)) (
    table.the_field_sync (Opt.the_row (Laid.the_row (Arc.the_row (Version.the_row M S A Q W E m) Global.the_row global.ghosts) K)) (View.the_row S A K) (Begun.the_row M K S A Q W E m) (Turns.the_row M K) _ (record { holds = λ key. Kept (KeepsSince k.stands k.went k.faults) key; first = λ key. beginner key }) _ (search (laid.the_send, version.the_send, version.the_sync, sendable, crosses) depth 60 fits 20000) heap.send heap.sync heap.frees,
    (Queues-sync a b e, (search (sendable, crosses) depth 60, (snapshot_sync K, tt))),
  )

  pub Lock-sync : IsSend M → IsSync M → IsSend C → IsSend K → IsSend S → IsSync S → IsSend A → IsSync A → IsSync (Lock.the_field M C K S A Q W E m c k).row
  Lock-sync a b d e f h i j = search (Inside-sync, sendable) depth 60 fits 20000

  pub Session-send : (ℓ : NamedLft) (L G R : RattleType) → IsSend M → IsSync M → IsSend L → IsSend C → IsSend K → IsSync G → IsSync R → IsSend S → IsSync S → IsSend A → IsSync A → IsSend (Session.the_field ℓ M L C K G R S A Q W E m c k).row
  Session-send ℓ L G R a b l d e n o f h i j = search (Lock-sync, pass.the_send, sendable, crosses) depth 60 fits 20000
