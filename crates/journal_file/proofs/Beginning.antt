-- What is left while a file is opened.
use Rattle.std.proofs.Common.{◌≡◌, inl, inr, ℕ, ◌≤◌, max, List, [], ◌∷◌, length, sym, ap, ◌∙◌, arith}
use Rattle.std.proofs.lemmas.List.{drop_all}
use Rattle.disk.specs.Disks.{FileTold, DiskTold, FailsToWrite, Syncs, overwritten}
use Rattle.disk.specs.Crashes.{MayLeave, IsSynced, LeavesOnly, LeavesSince, farthest}
use Rattle.journal_file.specs.Records.{IsAsBefore}
use Rattle.journal_file.specs.Readings.{IsPrepared}
use Rattle.disk.specs.Joining.{goes_on, goes_on_same}
use Rattle.journal_file.proofs.Torn.{only_synced}

-- after a sync, all of the file is synced
pub is_synced : (old new : DiskTold) → Syncs old new → IsSynced new.file
is_synced old new s = record { synced = s.synced ∙ sym s.seen; written = s.written }

-- the first sync
pub sync_leaves : (old new : DiskTold) → Syncs old new → LeavesOnly (IsAsBefore old.file.seen) new.file
sync_leaves old new s left may = inl (only_synced new.file left (is_synced old new s) may ∙ s.seen)

-- a closed gate written into a file of one byte at most
small : (file : FileTold) (left : List ℕ) → length file.synced ≤ 1 → file.written ≡ (0, 1) ∷ [] → MayLeave file left → length left ≤ 1
small file left short written may =
    let far : farthest (length file.synced) file.written ≡ max 1 (length file.synced) = ap (λ (r : List (ℕ × ℕ)). farthest (length file.synced) r) written in
    omega (arith, may.no_longer, far, short)

pub gate_leaves : (old mid new : DiskTold) → length old.file.seen ≤ 1 → mid.file.seen ≡ old.file.seen → IsSynced mid.file → new.file.synced ≡ mid.file.synced → new.file.written ≡ (0, 1) ∷ mid.file.written → LeavesOnly (IsAsBefore old.file.seen) new.file
gate_leaves old mid new short same is synced written left may =
    let size : length new.file.synced ≤ 1 = omega (arith, ap length synced, ap length is.synced, ap length same, short) in
    inr (short, small new.file left size (written ∙ ap (λ (r : List (ℕ × ℕ)). (0, 1) ∷ r) is.written) may)

-- and then it is all there is
pub gate_alone : (file : List ℕ) → length file ≤ 1 → overwritten file 0 (0 ∷ []) ≡ 0 ∷ []
gate_alone file short = ap (λ (l : List ℕ). 0 ∷ l) (drop_all 1 file short)

-- the last sync
pub gate_stays : (old mid new : DiskTold) → length old.file.seen ≤ 1 → mid.file.seen ≡ 0 ∷ [] → Syncs mid new → LeavesOnly (IsAsBefore old.file.seen) new.file
gate_stays old mid new short is s left may =
    let all : left ≡ 0 ∷ [] = only_synced new.file left (is_synced mid new s) may ∙ s.seen ∙ is in
    inr (short, omega (arith, ap length all))

-- a whole call that is unchanged or torn
pub torn_on : (P : List ℕ → Type 0) (old mid new : DiskTold) (at n : ℕ) → LeavesSince P old mid → FailsToWrite at n mid new
    → (new.file.synced ≡ mid.file.synced → new.file.written ≡ (at, n) ∷ mid.file.written → LeavesOnly P new.file) → LeavesSince P old new
torn_on P old mid new at n so_far (inl same) here = goes_on_same P old mid new so_far same
torn_on P old mid new at n so_far (inr tears) here = goes_on P old mid new so_far tears.past (here tears.synced tears.written)

-- a file that was made ready is as it was before, or as empty
pub prepared_as_before : (before file : List ℕ) → IsPrepared before file → IsAsBefore before file
prepared_as_before before file (inl same) = inl same.1
prepared_as_before before file (inr empty) = inr (empty.0, omega (arith, ap length empty.1))

-- and a closed gate, where it has one byte
pub prepared_one_byte : (before file : List ℕ) → IsPrepared before file → length file ≤ 1 → file ≡ 0 ∷ []
prepared_one_byte before file (inl same) short = absurd (omega (arith, same.0, ap length same.1, short))
prepared_one_byte before file (inr empty) short = empty.1
