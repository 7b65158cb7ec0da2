-- What a file stands for, and where it stops, once its payloads were read so far.
use Rattle.std.proofs.Common.{◌≡◌, inr, ℕ, List, [], ◌∷◌, ◌++◌, length, Ok, refl, sym, ap, subst, ◌∙◌, arith}
use Rattle.disk.specs.Disks.{FileTold, DiskTold, IsUnchanged}
use Rattle.journal_file.specs.Records.{StandsFor, BeginsWith, IsClosedAt, IsDamagedAfter}
use Rattle.journal_file.specs.declared.opening.Next.{Next}
use Rattle.journal_file.specs.declared.open_stop.OpenStop.{OpenStop}
use Rattle.journal_file.specs.declared.open_stop.OpenStop.TheVariants as openings
use Rattle.journal_file.specs.Nexts.{disk_next, GoesOn}
use Rattle.journal_file.specs.Stops.{DamageIs}
use Rattle.journal_replay.specs.Recorded.{Replay}
use Rattle.journal_replay.specs.Replayed.{Reading, Replays, IsStoppedBehind, IsNoRecordAt}
use Rattle.journal_replay.specs.declared.start_stop.StartStop.{StartStop}
use Rattle.journal_replay.specs.declared.start_stop.StartStop.TheVariants.{Fault, Damaged, Stopped, Memory}
use Rattle.journal_replay.specs.Starts.{BeginsWithReplay, StopsAt, HasEntries, IsNotTaken, stop_behind}

-- a disk that was changed neither before nor since
pub still_same : (a b c : DiskTold) → IsUnchanged a b → IsUnchanged b c → IsUnchanged a c
still_same a b c x y = record { file = y.file ∙ x.file; past = y.past ∙ x.past }

module _ {S C P A X : Type 0} (reading : Reading S C P A X) where
  has_entries : (payloads : List (List ℕ)) (replay : Replay S P) → Replays reading payloads replay → HasEntries reading payloads replay.entries
  has_entries [] replay r = absurd (omega (ap length r.payloads_are, arith))
  has_entries (p ∷ ps) replay r = (replay, r, refl)

  not_taken : (before : List (List ℕ)) (payload : List ℕ) (replay : Replay S P) → Replays reading before replay → IsNoRecordAt reading replay.state payload → IsNotTaken reading before payload replay.entries
  not_taken [] payload replay r bad = absurd (omega (ap length r.payloads_are, arith))
  not_taken (p ∷ ps) payload replay r bad = record { replay = replay; good = r; entries_are = refl; bad = bad }

  -- a payload isn't taken behind what was replayed
  pub stops_behind : (file payload : List ℕ) (place next : ℕ) (replay : Replay S P) (stop : StartStop) (b : BeginsWithReplay reading replay place file) → BeginsWith (b.payloads ++ payload ∷ []) next file
      → IsStoppedBehind reading replay payload stop → StopsAt reading file stop
  stops_behind file payload place next replay (Stopped n) b more stopped =
      subst (λ (m : ℕ). StopsAt reading file (Stopped m)) (sym stopped.1) (record { before = b.payloads; payload = payload; place = next; begins = more; not_taken = not_taken b.payloads payload replay b.replays stopped.0 })
  stops_behind file payload place next replay Memory b more stopped = tt
  stops_behind file payload place next replay Fault b more stopped = absurd stopped
  stops_behind file payload place next replay (Damaged n) b more stopped = absurd stopped

  -- the file isn't read on behind what was replayed
  pub stops_reading : (file : List ℕ) (payloads : List (List ℕ)) (replay : Replay S P) (stop : OpenStop) → Replays reading payloads replay
      → DamageIs stop (λ count. (length payloads ≡ count) × IsDamagedAfter payloads file) → StopsAt reading file (stop_behind stop replay.entries)
  stops_reading file payloads replay openings.Fault replays damaged = tt
  stops_reading file payloads replay (openings.Damaged count) replays damaged = record { payloads = payloads; damaged = damaged.1; counted = has_entries payloads replay replays }
  stops_reading file payloads replay openings.Memory replays damaged = tt

-- a file that is closed behind no payload stands for none
pub none_stand : (file : List ℕ) (end : ℕ) → IsClosedAt [] end file → StandsFor [] file
none_stand file end closed = inr closed.is_closed

module _ {K : Type 0} (E : Type 0) (told : K → DiskTold) where
  -- an opening has left the disk unchanged
  pub same_now : (old : DiskTold) (item this : Next K) → item ≡ this → IsUnchanged old (told (disk_next {E = E} (Ok item))) → IsUnchanged old (told (disk_next {E = E} (Ok this)))
  same_now old item this is same = subst (λ (x : Next K). IsUnchanged old (told (disk_next {E = E} (Ok x)))) is same

  -- what an opening handed out goes on in the file as it is then
  pub read_on : (before : List (List ℕ)) (old : DiskTold) (item this : Next K) → GoesOn before old.file.seen item → item ≡ this
      → IsUnchanged old (told (disk_next {E = E} (Ok item))) → GoesOn before (told (disk_next {E = E} (Ok this))).file.seen this
  read_on before old item this on is same =
      let on_this = subst (λ (x : Next K). GoesOn before old.file.seen x) is on in
      subst (λ (f : FileTold). GoesOn before f.seen this) (sym (same_now old item this is same).file) on_this
