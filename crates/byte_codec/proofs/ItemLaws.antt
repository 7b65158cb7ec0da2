-- Writing and reading the items of a list one after the other.
use Rattle.std.proofs.Common.{◌≡◌, ℕ, zero, suc, ◌+◌, ◌-◌, ◌<◌, ◌≤◌, List, [], ◌∷◌, ◌++◌, length, get_or, take, Option, Some, None, refl, sym, ap, subst, ◌∙◌, append_assoc, arith}
use Rattle.std.proofs.lemmas.List.{append-nil}
use Rattle.byte_codec.specs.declared.stop.DecodeStop.{DecodeStop}
use Rattle.byte_codec.specs.declared.stop.DecodeStop.TheVariants.{NotAnEntry, Memory}
use Rattle.byte_codec.specs.Codecs.{◌>>=◌, Codec, Writes, Stops}
use Rattle.byte_codec.specs.Parts.{Took}
use Rattle.byte_codec.specs.Runs.{items_code, items_fit, items_reads, in_front, ItemsWritten}

-- ---- writing

code_more : {A : Type 0} (c : Codec A) (xs : List A) (x : A) → items_code c (xs ++ x ∷ []) ≡ items_code c xs ++ c.code x
unfolding items_code
code_more c [] x = append-nil (c.code x)
code_more c (y ∷ xs) x = ap (λ (r : List ℕ). c.code y ++ r) (code_more c xs x) ∙ sym (append_assoc (c.code y) (items_code c xs) (c.code x))

fit_more : {A : Type 0} (c : Codec A) (xs : List A) (x : A) → items_fit c xs → c.fits x → items_fit c (xs ++ x ∷ [])
unfolding items_fit
fit_more c [] x h k = (k, tt)
fit_more c (y ∷ xs) x h k = (h.0, fit_more c xs x h.1 k)

pub none_written : {A : Type 0} (c : Codec A) (old : List ℕ) → ItemsWritten c [] old old
unfolding items_code items_fit
none_written c old = record { text = sym (append-nil old); fits = tt }

pub one_more : {A : Type 0} (c : Codec A) (xs : List A) (x : A) (old middle new : List ℕ) → ItemsWritten c xs old middle → Writes c x middle new → ItemsWritten c (xs ++ x ∷ []) old new
one_more c xs x old middle new w v = record {
  text = v.text ∙ ap (λ (r : List ℕ). r ++ c.code x) w.text ∙ append_assoc old (items_code c xs) (c.code x) ∙ ap (λ (r : List ℕ). old ++ r) (sym (code_more c xs x));
  fits = fit_more c xs x w.fits v.fits;
}

-- ---- reading

-- what was read before, and what is still read
abbrev pub put_before : {A : Type 0} → List A → List A × List ℕ → List A × List ℕ
put_before front p = (front ++ p.0, p.1)

abbrev pub with_front : {A : Type 0} → List A → Option (List A × List ℕ) → Option (List A × List ℕ)
with_front front read = read >>= λ p. Some (put_before front p)

regroup : {A : Type 0} (front : List A) (x : A) (read : Option (List A × List ℕ)) → with_front front (read >>= λ q. Some (in_front x q)) ≡ with_front (front ++ x ∷ []) read
regroup {A = A} front x (Some p) = ap (λ (xs : List A). Some (xs, p.1)) (simp append_assoc)
regroup front x None = refl

pub goes_on : {A : Type 0} (c : Codec A) (front : List A) (count i : ℕ) (bytes : List ℕ) (x : A) (after : List ℕ) (total : Option (List A × List ℕ)) → i < count → c.reads bytes ≡ Some (x, after)
    → with_front front (items_reads c (count - i) bytes) ≡ total → with_front (front ++ x ∷ []) (items_reads c (count - (i + 1)) after) ≡ total
unfolding items_reads
goes_on c front count i bytes x after total lt h so_far =
    let k : count - i ≡ suc (count - (i + 1)) = omega arith in
    let one : with_front front (items_reads c (count - i) bytes) ≡ with_front (front ++ x ∷ []) (items_reads c (count - (i + 1)) after) = rw (k, h) (regroup front x (items_reads c (count - (i + 1)) after)) in
    sym one ∙ so_far

pub ends : {A : Type 0} (c : Codec A) (e : DecodeStop) (front : List A) (count i : ℕ) (bytes : List ℕ) (total : Option (List A × List ℕ)) → i < count → Stops e (c.reads bytes)
    → with_front front (items_reads c (count - i) bytes) ≡ total → Stops e total
unfolding items_reads
ends c Memory front count i bytes total lt h so_far = tt
ends c NotAnEntry front count i bytes total lt h so_far =
    let k : count - i ≡ suc (count - (i + 1)) = omega arith in
    let one : with_front front (items_reads c (count - i) bytes) ≡ None = rw (k, h) refl in
    sym so_far ∙ one

pub begins : {A : Type 0} (c : Codec A) (read : Option (List A × List ℕ)) → with_front [] read ≡ read
begins c (Some p) = refl
begins c None = refl

pub is_done : {A : Type 0} (c : Codec A) (front : List A) (count i : ℕ) (bytes : List ℕ) (total : Option (List A × List ℕ)) → count ≤ i → with_front front (items_reads c (count - i) bytes) ≡ total → total ≡ Some (front, bytes)
unfolding items_reads
is_done {A = A} c front count i bytes total le so_far =
    let k : count - i ≡ 0 = omega arith in
    let one : with_front front (items_reads c (count - i) bytes) ≡ Some (front, bytes) = rw k (ap (λ (xs : List A). Some (xs, bytes)) (append-nil front)) in
    sym so_far ∙ one
