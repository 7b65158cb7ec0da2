-- What was acknowledged stays over further calls; and a gate that is opened too early.
use Rattle.std.proofs.Common.{◌≡◌, inl, inr, ℕ, zero, suc, false, ◌<◌, List, [], ◌∷◌, ◌++◌, refl, subst, arith, append_assoc}
use Rattle.std.specs.Prelude.{slice_index}
use Rattle.disk.specs.Disks.{FileTold, DiskTold}
use Rattle.disk.specs.Crashes.{MayLeave, LeavesSince, is_within}
use Rattle.disk.specs.Joining.{started, follows_on}
use Rattle.journal_file.specs.Records.{StandsFor, IsClosedAfter, IsBeforeOrAfter, length_bytes}
use Rattle.journal_file.specs.Readings.{IsFrameOf}
use Rattle.journal_file.specs.Runs.{StandsForMore}
use Rattle.journal_file.proofs.One.{stands_for_one}

has_more : (kept more new : List (List ℕ)) (c : List ℕ) → IsBeforeOrAfter (kept ++ more) new c → StandsForMore kept c
has_more kept more new c (inl before) = (more, before)
has_more kept more new c (inr after) = (more ++ new, subst (λ (ps : List (List ℕ)). StandsFor ps c) (append_assoc kept more new) after)

pub stays : (kept more new : List (List ℕ)) (first old late : DiskTold) → LeavesSince (StandsForMore kept) first old
    → LeavesSince (IsBeforeOrAfter (kept ++ more) new) old late → LeavesSince (StandsForMore kept) first late
stays kept more new first old late a b = follows_on (StandsForMore kept) (IsBeforeOrAfter (kept ++ more) new) (has_more kept more new) first old late a b

pub kept_at_first : (kept : List (List ℕ)) (told : DiskTold) → LeavesSince (StandsForMore kept) told told
kept_at_first kept told = started (StandsForMore kept) told

-- a file that a crash leaves where the gate of a payload of one byte was written, and not synced: an open gate, a length of zero, and zeros
abbrev early : FileTold
early = record { seen = 1 ∷ 0 ∷ 0 ∷ 0 ∷ 0 ∷ 0 ∷ 0 ∷ 0 ∷ 1 ∷ 7 ∷ 0 ∷ []; synced = 0 ∷ []; written = (0, 1) ∷ (1, 10) ∷ [] }

abbrev zeros : List ℕ
zeros = 1 ∷ 0 ∷ 0 ∷ 0 ∷ 0 ∷ 0 ∷ 0 ∷ 0 ∷ 0 ∷ 0 ∷ []

stands_for_nothing : IsClosedAfter ([] ∷ []) zeros
unfolding length_bytes
stands_for_nothing = record { gate = 0; behind = []; file_is = refl; closed = omega arith; short = (omega arith, tt) }

neither : IsBeforeOrAfter [] ((7 ∷ []) ∷ []) zeros → ⊥
neither (inl before) = absurd cc (stands_for_one ([] ∷ []) [] zeros (inr stands_for_nothing) before)
neither (inr after) = absurd cc (stands_for_one ([] ∷ []) ((7 ∷ []) ∷ []) zeros (inr stands_for_nothing) after)

synced_stays : (place : ℕ) → place < 1 → is_within ((0, 1) ∷ (1, 10) ∷ []) place ≡ false → slice_index zeros place ≡ slice_index (0 ∷ []) place
synced_stays zero short out = absurd cc
synced_stays (suc place) short out = absurd (omega (arith, short))

may_be_left : MayLeave early zeros
may_be_left = record { no_shorter = omega arith; no_longer = omega arith; stays = synced_stays }

pub too_early : (before new : List (List ℕ)) × (file : FileTold) × (left : List ℕ) × (frame : List ℕ) × IsFrameOf new frame
    × (file.synced ≡ 0 ∷ []) × StandsFor before file.synced × (file.written ≡ (0, 1) ∷ (1, 10) ∷ []) × MayLeave file left
    × (IsBeforeOrAfter before new left → ⊥)
unfolding length_bytes
too_early = ([], (7 ∷ []) ∷ [], early, zeros, 1 ∷ 0 ∷ 0 ∷ 0 ∷ 0 ∷ 0 ∷ 0 ∷ 0 ∷ 1 ∷ 7 ∷ 0 ∷ [], record { bytes_are = refl; short = (omega arith, tt) }, refl, inl (omega arith, refl), refl, may_be_left, neither)
