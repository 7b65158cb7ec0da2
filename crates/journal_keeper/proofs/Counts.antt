-- The counts of a keeper: of its disk, and its own.
use Rattle.std.proofs.Common.{◌≡◌, ◌⊎◌, inl, inr, ℕ, ◌+◌, ◌≤◌, Result, Ok, Err, IfErr, OnOk, subst, ap, arith}
use Rattle.outside.specs.Outside.{Rose, HasCause}
use Rattle.disk.specs.Disks.{DiskTold}
use Rattle.journal_keeper.specs.declared.store.Store.{Store}
use Rattle.journal_keeper.specs.declared.lost.Lost.{Lost}
use Rattle.journal_keeper.specs.declared.lost.Lost.TheVariants.{Disk, Before, Unread, Session, Memory}
use Rattle.journal_keeper.specs.Stores.{KeeperTold, disk_of, faults, WhereDisk, IsWhy}

rose_sum : (a b m n : ℕ) → a ≤ b → m ≤ n → Rose a b ⊎ Rose m n → Rose (a + m) (b + n)
rose_sum a b m n le more (inl rose) = omega (arith, le, more, rose)
rose_sum a b m n le more (inr rose) = omega (arith, le, more, rose)

either_rose : {K : Type 0} (told : K → DiskTold) (old mid : Store K) (lost : Lost) (m n : ℕ) → IsWhy told old mid lost → WhereDisk lost (n ≡ m) (Rose m n)
    → Rose (told (disk_of old)).faults (told (disk_of mid)).faults ⊎ Rose m n
either_rose told old mid Disk m n why counted = inl why
either_rose told old mid Before m n why counted = inr counted
either_rose told old mid Unread m n why counted = inr counted
either_rose told old mid Session m n why counted = inr counted
either_rose told old mid Memory m n why counted = inr counted

-- a call that kept nothing raises the count
pub caused : {K T E : Type 0} (told : K → DiskTold) (old mid new : KeeperTold K) (lost : Lost) (e : E) → (told (disk_of old.store)).faults ≤ (told (disk_of mid.store)).faults
    → IsWhy told old.store mid.store lost → mid.unkept ≡ old.unkept → new.store ≡ mid.store → mid.unkept ≤ new.unkept → WhereDisk lost (new.unkept ≡ mid.unkept) (Rose mid.unkept new.unkept)
    → HasCause {T = T} {E = E} (faults told old) (faults told new) (Err e)
caused {K = K} told old mid new lost e le why same store more counted =
    let s : (told (disk_of new.store)).faults ≡ (told (disk_of mid.store)).faults = ap (λ (x : Store K). (told (disk_of x)).faults) store in
    let rose = rose_sum (told (disk_of old.store)).faults (told (disk_of mid.store)).faults mid.unkept new.unkept le more (either_rose told old.store mid.store lost mid.unkept new.unkept why counted) in
    record {
      later = omega (arith, le, same, s, more);
      failed = omega (arith, rose, same, s);
    }

pub rose_since : {K T : Type 0} (told : K → DiskTold) (begun : K) (old new : Store K) (r : Result T Lost) → (told begun).faults ≤ (told (disk_of old)).faults → IfErr r (IsWhy told old new)
    → IfErr r (λ lost. lost ≡ Disk → Rose (told begun).faults (told (disk_of new)).faults)
rose_since told begun old new (Ok x) le why = tt
rose_since told begun old new (Err lost) le why = λ is.
    let rose : Rose (told (disk_of old)).faults (told (disk_of new)).faults = subst (λ (l : Lost). IsWhy told old new l) is why in
    omega (arith, le, rose)

pub on_ok : {T E : Type 0} (P Q : Type 0) (r : Result T E) → (P → Q) → OnOk r P → OnOk r Q
on_ok P Q (Ok x) h p = h p
on_ok P Q (Err e) h p = tt
