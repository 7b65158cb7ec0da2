-- One more call of a disk in memory.
use Rattle.std.proofs.Common.{◌≡◌, ℕ, List, [], ◌∷◌, ◌++◌, length, refl, ap, ◌∙◌, arith}
use Rattle.disk.specs.declared.mem_disk.Call.{Call}
use Rattle.disk.specs.declared.mem_disk.Call.TheVariants as calls_of
use Rattle.disk.specs.Disks.{FileTold, DiskTold, Writes, Tears, Syncs, overwritten}
use Rattle.disk.specs.Calls.{after, replayed, before_each}
use Rattle.std.specs.Global.{Vec}

pub replayed-more : (f : FileTold) (calls : List Call) (call : Call) → replayed f (calls ++ call ∷ []) ≡ after call (replayed f calls)
replayed-more f [] call = refl
replayed-more f (first ∷ calls) call = replayed-more (after first f) calls call

pub before_each-more : (f : FileTold) (calls : List Call) (call : Call) → before_each f (calls ++ call ∷ []) ≡ before_each f calls ++ replayed f calls ∷ []
before_each-more f [] call = refl
before_each-more f (first ∷ calls) call = ap (λ (l : List FileTold). f ∷ l) (before_each-more (after first f) calls call)

-- what a disk tells after calls
abbrev pub told_after : FileTold → List Call → ℕ → DiskTold
told_after f calls faults = record { file = replayed f calls; past = before_each f calls; faults = faults }

module _ (f : FileTold) (old new : List Call) (faults : ℕ) where
  pub seen_more : (call : Call) → new ≡ old ++ call ∷ [] → (replayed f new).seen ≡ (after call (replayed f old)).seen
  seen_more call is = ap (λ (l : List Call). (replayed f l).seen) is ∙ ap (λ (g : FileTold). g.seen) (replayed-more f old call)

  file_more : (call : Call) → new ≡ old ++ call ∷ [] → replayed f new ≡ after call (replayed f old)
  file_more call is = ap (λ (l : List Call). replayed f l) is ∙ replayed-more f old call

  past_more : (call : Call) → new ≡ old ++ call ∷ [] → before_each f new ≡ before_each f old ++ replayed f old ∷ []
  past_more call is = ap (λ (l : List Call). before_each f l) is ∙ before_each-more f old call

  pub synced_more : new ≡ old ++ calls_of.Synced ∷ [] → Syncs (told_after f old faults) (told_after f new faults)
  synced_more is = record {
    seen = ap (λ (g : FileTold). g.seen) (file_more calls_of.Synced is);
    synced = ap (λ (g : FileTold). g.synced) (file_more calls_of.Synced is);
    written = ap (λ (g : FileTold). g.written) (file_more calls_of.Synced is);
    past = past_more calls_of.Synced is;
  }

  pub wrote_more : (at : ℕ) (kept : Vec ℕ) (piece : List ℕ) → kept.items ≡ piece → new ≡ old ++ calls_of.Wrote at kept ∷ [] → Writes at piece (told_after f old faults) (told_after f new faults)
  wrote_more at kept piece same is = record {
    seen = ap (λ (g : FileTold). g.seen) (file_more (calls_of.Wrote at kept) is) ∙ ap (λ (l : List ℕ). overwritten (replayed f old).seen at l) same;
    synced = ap (λ (g : FileTold). g.synced) (file_more (calls_of.Wrote at kept) is);
    written = ap (λ (g : FileTold). g.written) (file_more (calls_of.Wrote at kept) is) ∙ ap (λ (l : List ℕ). (at, length l) ∷ (replayed f old).written) same;
    past = past_more (calls_of.Wrote at kept) is;
  }

  pub tore_more : (at len : ℕ) → new ≡ old ++ calls_of.Tore at len ∷ [] → Tears at len (told_after f old faults) (told_after f new faults)
  tore_more at len is =
      let same : (replayed f new).seen ≡ (replayed f old).seen = ap (λ (g : FileTold). g.seen) (file_more (calls_of.Tore at len) is) in
      record {
        seen = rw same (record { before = refl; behind = refl; no_shorter = omega arith; no_longer = omega arith });
        synced = ap (λ (g : FileTold). g.synced) (file_more (calls_of.Tore at len) is);
        written = ap (λ (g : FileTold). g.written) (file_more (calls_of.Tore at len) is);
        past = past_more (calls_of.Tore at len) is;
      }
