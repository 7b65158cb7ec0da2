-- The four calls that add records, one after the other.
use Rattle.std.proofs.Common.{◌≡◌, ◌≢◌, inl, inr, ℕ, ◌+◌, ◌-◌, ◌<◌, List, [], ◌∷◌, ◌++◌, length, drop, refl, sym, ap, subst, ◌∙◌, arith, length-append}
use Rattle.disk.specs.Disks.{DiskTold, Writes, Syncs, FailsToWrite, IsUnchanged, overwritten}
use Rattle.disk.specs.Crashes.{LeavesOnly, LeavesSince}
use Rattle.journal_file.specs.Records.{records, IsClosedAfter, IsBeforeOrAfter, RestsAfter}
use Rattle.journal_file.specs.Readings.{IsFrameOf}
use Rattle.disk.specs.Joining.{started, goes_on, goes_on_same}
use Rattle.journal_file.proofs.Beginning.{is_synced, torn_on}
use Rattle.journal_file.proofs.Torn.{only_synced, behind_the_gate, staged, opened, at_the_gate, gate_written, new_end}

-- a frame of some payloads begins with an open gate
pub begins_open : (new : List (List ℕ)) (frame : List ℕ) → IsFrameOf new frame → 1 < length frame → 1 ∷ drop 1 frame ≡ frame
begins_open [] frame is long = absurd (omega (arith, long, ap length is.bytes_are))
begins_open (p ∷ ps) frame is long = ap (λ (l : List ℕ). 1 ∷ drop 1 l) is.bytes_are ∙ sym is.bytes_are

module _ (before new : List (List ℕ)) (gate : ℕ) (frame : List ℕ) (d0 : DiskTold) (rests : RestsAfter before gate d0.file) (is : IsFrameOf new frame) (long : 1 < length frame) where
  abbrev P : List ℕ → Type 0
  P = IsBeforeOrAfter before new

  whole : 1 ∷ drop 1 frame ≡ records new ++ 0 ∷ []
  whole = begins_open new frame is long ∙ is.bytes_are

  -- the file with the new records behind the closed gate
  abbrev staged_file : (g : ℕ) (t : List ℕ) → List ℕ
  staged_file g t = records before ++ g ∷ (drop 1 frame ++ t)

  abbrev behind : (g : ℕ) × (t : List ℕ) × (g ≢ 1) × (overwritten d0.file.seen (gate + 1) (drop 1 frame) ≡ staged_file g t)
  behind = staged before gate rests.ends (drop 1 frame) d0.file.seen rests.is_closed

  first : (d1 : DiskTold) (n : ℕ) → d1.file.synced ≡ d0.file.synced → d1.file.written ≡ (gate + 1, n) ∷ d0.file.written → LeavesOnly P d1.file
  first d1 n synced written left may =
      inl (inr (behind_the_gate before gate rests.ends d1.file left n
      (subst (IsClosedAfter before) (sym (synced ∙ rests.synced.synced)) rests.is_closed)
      (written ∙ ap (λ (r : List (ℕ × ℕ)). (gate + 1, n) ∷ r) rests.synced.written) may))

  -- the first write fails
  pub write_fails : (d1 : DiskTold) (n : ℕ) → FailsToWrite (gate + 1) n d0 d1 → LeavesSince P d0 d1
  write_fails d1 n fails = torn_on P d0 d0 d1 (gate + 1) n (started P d0) fails (first d1 n)

  module _ (d1 : DiskTold) (wrote : Writes (gate + 1) (drop 1 frame) d0 d1) where
    one : LeavesSince P d0 d1
    one = goes_on P d0 d0 d1 (started P d0) wrote.past (first d1 (length (drop 1 frame)) wrote.synced wrote.written)

    -- the first sync fails
    pub sync_fails : (d2 : DiskTold) → IsUnchanged d1 d2 → LeavesSince P d0 d2
    sync_fails d2 same = goes_on_same P d0 d1 d2 one same

    module _ (d2 : DiskTold) (synced : Syncs d1 d2) where
      seen : d2.file.seen ≡ staged_file behind.0 behind.1
      seen = synced.seen ∙ wrote.seen ∙ behind.3

      second : LeavesOnly P d2.file
      second left may =
          let all : left ≡ staged_file behind.0 behind.1 = only_synced d2.file left (is_synced d1 d2 synced) may ∙ seen in
          inl (inr (record { gate = behind.0; behind = drop 1 frame ++ behind.1; file_is = all; closed = behind.2; short = rests.is_closed.short }))

      two : LeavesSince P d0 d2
      two = goes_on P d0 d1 d2 one synced.past second

      third : (d3 : DiskTold) → d3.file.synced ≡ d2.file.synced → d3.file.written ≡ (gate, 1) ∷ d2.file.written → LeavesOnly P d3.file
      third d3 kept written left may =
          at_the_gate before gate rests.ends d3.file left new behind.0 (drop 1 frame) behind.1
          (kept ∙ synced.synced ∙ wrote.seen ∙ behind.3) (written ∙ ap (λ (r : List (ℕ × ℕ)). (gate, 1) ∷ r) synced.written)
          whole rests.is_closed.short is.short may

      -- the second write fails
      pub opening_fails : (d3 : DiskTold) → FailsToWrite gate 1 d2 d3 → LeavesSince P d0 d3
      opening_fails d3 fails = torn_on P d0 d2 d3 gate 1 two fails (third d3)

      module _ (d3 : DiskTold) (opens : Writes gate (1 ∷ []) d2 d3) where
        three : LeavesSince P d0 d3
        three = goes_on P d0 d2 d3 two opens.past (third d3 opens.synced opens.written)

        -- the last sync fails
        pub last_sync_fails : (d4 : DiskTold) → IsUnchanged d3 d4 → LeavesSince P d0 d4
        last_sync_fails d4 same = goes_on_same P d0 d3 d4 three same

        module _ (d4 : DiskTold) (lasts : Syncs d3 d4) where
          at_last : d4.file.seen ≡ records before ++ 1 ∷ (drop 1 frame ++ behind.1)
          at_last = lasts.seen ∙ opens.seen ∙ ap (λ (l : List ℕ). overwritten l gate (1 ∷ [])) seen ∙ gate_written before gate rests.ends behind.0 (drop 1 frame ++ behind.1)

          closed_again : IsClosedAfter (before ++ new) d4.file.seen
          closed_again = subst (IsClosedAfter (before ++ new)) (sym at_last) (opened before gate rests.ends new (drop 1 frame) behind.1 whole rests.is_closed.short is.short)

          -- all four succeed
          pub all_done : LeavesSince P d0 d4
          all_done = goes_on P d0 d3 d4 three lasts.past (λ left may. inr (inr (subst (IsClosedAfter (before ++ new)) (sym (only_synced d4.file left (is_synced d3 d4 lasts) may)) closed_again)))

          pub rests_again : RestsAfter (before ++ new) (gate + (length frame - 1)) d4.file
          rests_again = record { synced = is_synced d3 d4 lasts; is_closed = closed_again; ends = new_end before gate rests.ends new frame is.bytes_are }

-- a frame of one byte is one of no payloads
pub none_in_frame : (new : List (List ℕ)) (frame : List ℕ) → IsFrameOf new frame → length frame < 2 → new ≡ []
none_in_frame [] frame is short = refl
none_in_frame (p ∷ ps) frame is short = absurd (omega (arith, short, ap length is.bytes_are, length-append (records (p ∷ ps)) (0 ∷ [])))
