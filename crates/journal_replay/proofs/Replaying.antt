-- What an entry makes of a journal that is replayed, and why a payload isn't taken.
use Rattle.std.proofs.Common.{◌≡◌, ℕ, List, ◌∷◌, [], ◌++◌, Result, Ok, Err, IsOk, IfOk, IfErr, subst}
use Rattle.byte_codec.specs.Payloads.{Encodes}
use Rattle.byte_codec.proofs.PayloadLaws.{one_value}
use Rattle.desk_model.specs.declared.entry.Entry.{Entry}
use Rattle.journal_replay.specs.declared.record.Record.{Record}
use Rattle.journal_replay.specs.declared.record.Record.TheVariants.{Written}
use Rattle.journal_replay.specs.declared.start_stop.StartStop.{StartStop}
use Rattle.journal_replay.specs.declared.start_stop.StartStop.TheVariants.{Fault, Damaged, Stopped, Memory}
use Rattle.journal_replay.specs.OneMore.{one_more}
use Rattle.journal_replay.specs.Recorded.{Replay, with_entry, IsSoundAt}
use Rattle.journal_replay.specs.Replayed.{Reading, Replays, IsNoRecordAt, IsRefused, IsStoppedBehind}

module _ {S C P A X : Type 0} where
  -- an entry that is refused is no sound record
  pub refused_record : (reading : Reading S C P A X) (s : S) (bytes : List ℕ) (e : Entry C) → Encodes reading.record_codec (Written e) bytes → (IsOk (reading.steps.next s e) → ⊥) → IsNoRecordAt reading s bytes
  refused_record reading s bytes e is refused = λ r other sound_there.
      refused (subst (IsSoundAt reading.steps s) (one_value reading.record_codec (Written e) r bytes is other) sound_there)

  -- bytes that are no encoding are no sound record
  pub no_record : (reading : Reading S C P A X) (s : S) (bytes : List ℕ) → ((r : Record C P) → Encodes reading.record_codec r bytes → ⊥) → IsNoRecordAt reading s bytes
  no_record reading s bytes none = λ r is sound_there. none r is

  -- what an entry makes of a replay
  pub entry_taken : (reading : Reading S C P A X) (before : List (List ℕ)) (replay : Replay S P) (bytes : List ℕ) (e : Entry C) (result : Result (Replay S P) StartStop)
      → Encodes reading.record_codec (Written e) bytes → IfOk result (λ x. IsOk (reading.steps.next replay.state e)) → IfOk result (λ x. x ≡ with_entry reading.steps.next replay e)
      → Replays reading before replay → IfOk result (Replays reading (before ++ bytes ∷ []))
  entry_taken reading before replay bytes e (Ok x) is sound_there went so = one_more reading before replay x bytes (Written e) is sound_there went so
  entry_taken reading before replay bytes e (Err stop) is sound_there went so = tt

  pub entry_refused : (reading : Reading S C P A X) (replay : Replay S P) (bytes : List ℕ) (e : Entry C) (result : Result (Replay S P) StartStop)
      → Encodes reading.record_codec (Written e) bytes → IfErr result (IsRefused (reading.steps.next replay.state e) replay.entries) → IfErr result (IsStoppedBehind reading replay bytes)
  entry_refused reading replay bytes e (Ok x) is refused = tt
  entry_refused reading replay bytes e (Err (Stopped n)) is refused = (refused_record reading replay.state bytes e is refused.0, refused.1)
  entry_refused reading replay bytes e (Err Memory) is refused = tt
  entry_refused reading replay bytes e (Err Fault) is refused = refused
  entry_refused reading replay bytes e (Err (Damaged n)) is refused = refused
