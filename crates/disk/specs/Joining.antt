-- How runs of a disk's calls join.
use Rattle.std.proofs.Common.{◌≡◌, ℕ, List, [], ◌∷◌, ◌++◌, sym, ◌∙◌, ap, append_assoc, append-nil}
use Rattle.std.specs.List.{AllByRecursion}
use Rattle.disk.specs.Disks.{FileTold, DiskTold, IsUnchanged}
use Rattle.disk.specs.Crashes.{LeavesOnly, LeavesSince, moments}

all_more : {A : Type 0} (P : A → Type 0) (xs : List A) (x : A) → AllByRecursion P xs → P x → AllByRecursion P (xs ++ x ∷ [])
all_more P [] x all one = (one, tt)
all_more P (y ∷ ys) x all one = (all.0, all_more P ys x all.1 one)

all_append : {A : Type 0} (P : A → Type 0) (xs ys : List A) → AllByRecursion P xs → AllByRecursion P ys → AllByRecursion P (xs ++ ys)
all_append P [] ys left right = right
all_append P (x ∷ xs) ys left right = (left.0, all_append P xs ys left.1 right)

weaker : (P Q : List ℕ → Type 0) → ((file : List ℕ) → P file → Q file) → (fs : List FileTold) → AllByRecursion (LeavesOnly P) fs → AllByRecursion (LeavesOnly Q) fs
weaker P Q h [] all = tt
weaker P Q h (f ∷ fs) all = (λ left may. h left (all.0 left may), weaker P Q h fs all.1)

-- before the first call
pub started : (P : List ℕ → Type 0) (old : DiskTold) → LeavesSince P old old
started P old = record { since = []; moments_are = sym (append-nil (moments old)); each = tt }

-- a call that changed nothing
pub goes_on_same : (P : List ℕ → Type 0) (old mid new : DiskTold) → LeavesSince P old mid → IsUnchanged mid new → LeavesSince P old new
goes_on_same P old mid new so_far same = record {
  since = so_far.since;
  moments_are = ap (λ (l : List FileTold). l ++ new.file ∷ []) same.past ∙ ap (λ (f : FileTold). mid.past ++ f ∷ []) same.file ∙ so_far.moments_are;
  each = so_far.each;
}

-- a call that was a moment of its own
pub goes_on : (P : List ℕ → Type 0) (old mid new : DiskTold) → LeavesSince P old mid → new.past ≡ mid.past ++ mid.file ∷ [] → LeavesOnly P new.file → LeavesSince P old new
goes_on P old mid new so_far past here = record {
  since = so_far.since ++ new.file ∷ [];
  moments_are = ap (λ (l : List FileTold). l ++ new.file ∷ []) (past ∙ so_far.moments_are) ∙ append_assoc (moments old) so_far.since (new.file ∷ []);
  each = all_more (LeavesOnly P) so_far.since new.file so_far.each here;
}

-- what each moment of a run leaves has Q, where it has P
pub leaves_weaker : (P Q : List ℕ → Type 0) → ((file : List ℕ) → P file → Q file) → (old new : DiskTold) → LeavesSince P old new → LeavesSince Q old new
leaves_weaker P Q h old new run = record { since = run.since; moments_are = run.moments_are; each = weaker P Q h run.since run.each }

-- one run after another
pub follows_on : (P Q : List ℕ → Type 0) → ((file : List ℕ) → Q file → P file) → (first old late : DiskTold) → LeavesSince P first old → LeavesSince Q old late → LeavesSince P first late
follows_on P Q h first old late a b = record {
  since = a.since ++ b.since;
  moments_are = b.moments_are ∙ ap (λ (l : List FileTold). l ++ b.since) a.moments_are ∙ append_assoc (moments first) a.since b.since;
  each = all_append (LeavesOnly P) a.since b.since a.each (weaker Q P h b.since b.each);
}
