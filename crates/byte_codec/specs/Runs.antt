-- Lists: the number of items, and then each.
use Rattle.std.proofs.Common.{◌≡◌, ℕ, zero, suc, ◌<◌, ◌^◌, List, [], ◌∷◌, ◌++◌, length, Option, Some, None, refl, sym, ap, subst, ◌∙◌, append_assoc}
use Rattle.std.specs.Prelude.{Result, Ok, Err}
use Rattle.byte_codec.specs.declared.stop.DecodeStop.{DecodeStop}
use Rattle.byte_codec.specs.Codecs.{◌>>=◌, Codec, Stops}
use Rattle.byte_codec.specs.Parts.{some_is, bind_some, Took, took}
use Rattle.byte_codec.specs.Numbers.{number_code, number_reads, number_again, number_only}

unfoldable pub items_code : {A : Type 0} → Codec A → List A → List ℕ
items_code c [] = []
items_code c (x ∷ xs) = c.code x ++ items_code c xs

unfoldable pub items_fit : {A : Type 0} → Codec A → List A → Type 0
items_fit c [] = Unit {0}
items_fit c (x ∷ xs) = c.fits x × items_fit c xs

abbrev pub in_front : {A : Type 0} → A → List A × List ℕ → List A × List ℕ
in_front x p = (x ∷ p.0, p.1)

unfoldable pub items_reads : {A : Type 0} → Codec A → ℕ → List ℕ → Option (List A × List ℕ)
items_reads c zero bytes = Some ([], bytes)
items_reads c (suc n) bytes = c.reads bytes >>= λ p. items_reads c n p.1 >>= λ q. Some (in_front p.0 q)

pub items_again : {A : Type 0} (c : Codec A) (xs : List A) (rest : List ℕ) → items_fit c xs → items_reads c (length xs) (items_code c xs ++ rest) ≡ Some (xs, rest)
unfolding items_code items_fit items_reads
items_again c [] rest fits = refl
items_again c (x ∷ xs) rest fits = rw (append_assoc (c.code x) (items_code c xs) rest, c.again x (items_code c xs ++ rest) fits.0, items_again c xs rest fits.1) refl

pub items_only : {A : Type 0} (c : Codec A) (n : ℕ) (bytes : List ℕ) (p : List A × List ℕ) → items_reads c n bytes ≡ Some p
    → (bytes ≡ items_code c p.0 ++ p.1) × items_fit c p.0 × (length p.0 ≡ n)
unfolding items_code items_fit items_reads
items_only {A = A} c zero bytes p e =
    subst (λ (q : List A × List ℕ). (bytes ≡ items_code c q.0 ++ q.1) × items_fit c q.0 × (length q.0 ≡ 0)) (some_is ([], bytes) p e) (refl, tt, refl)
items_only {A = A} c (suc n) bytes p e =
    let a = bind_some (c.reads bytes) (λ p. items_reads c n p.1 >>= λ q. Some (in_front p.0 q)) p e in
    let b = bind_some (items_reads c n a.0.1) (λ q. Some (in_front a.0.0 q)) p a.2 in
    let t = took c bytes a.0 a.1 in
    let s = items_only c n a.0.1 b.0 b.1 in
    subst (λ (q : List A × List ℕ). (bytes ≡ items_code c q.0 ++ q.1) × items_fit c q.0 × (length q.0 ≡ suc n)) (some_is (in_front a.0.0 b.0) p b.2)
    (t.text ∙ ap (λ (r : List ℕ). c.code a.0.0 ++ r) s.0 ∙ sym (append_assoc (c.code a.0.0) (items_code c b.0.0) b.0.1), (t.fits, s.1), ap suc s.2)

abbrev pub list_code : {A : Type 0} → Codec A → List A → List ℕ
list_code c xs = number_code (length xs) ++ items_code c xs

abbrev pub list_fits : {A : Type 0} → Codec A → List A → Type 0
list_fits c xs = (length xs < 2 ^ 64) × items_fit c xs

abbrev pub list_reads : {A : Type 0} → Codec A → List ℕ → Option (List A × List ℕ)
list_reads c bytes = number_reads bytes >>= λ n. items_reads c n.0 n.1

pub list_again : {A : Type 0} (c : Codec A) (xs : List A) (rest : List ℕ) → list_fits c xs → list_reads c (list_code c xs ++ rest) ≡ Some (xs, rest)
list_again c xs rest fits = rw (append_assoc (number_code (length xs)) (items_code c xs) rest, number_again (length xs) (items_code c xs ++ rest) fits.0) (items_again c xs rest fits.1)

pub list_only : {A : Type 0} (c : Codec A) (bytes rest : List ℕ) (xs : List A) → list_reads c bytes ≡ Some (xs, rest)
    → (bytes ≡ list_code c xs ++ rest) × list_fits c xs
list_only c bytes rest xs e =
    let p = bind_some (number_reads bytes) (λ n. items_reads c n.0 n.1) (xs, rest) e in
    let n = number_only bytes p.0.1 p.0.0 p.1 in
    let s = items_only c p.0.0 p.0.1 (xs, rest) p.2 in
    (n.0 ∙ ap (λ (k : ℕ). number_code k ++ p.0.1) (sym s.2) ∙ ap (λ (r : List ℕ). number_code (length xs) ++ r) s.0 ∙ sym (append_assoc (number_code (length xs)) (items_code c xs) rest), (subst (λ (k : ℕ). k < 2 ^ 64) (sym s.2) n.1, s.1))

abbrev pub list : {A : Type 0} → Codec A → Codec (List A)
list c = record { code = list_code c; fits = list_fits c; reads = list_reads c; again = list_again c; only = list_only c }

-- What writing and reading the items alone does.
pub record ItemsWritten {A : Type 0} (c : Codec A) (xs : List A) (old new : List ℕ) : Type 0 where
  pub text : new ≡ old ++ items_code c xs
  pub fits : items_fit c xs

abbrev pub ItemsRead : {A : Type 0} → Codec A → ℕ → Result (List A) DecodeStop → List ℕ → List ℕ → Type 0
ItemsRead c n (Ok xs) old new = items_reads c n old ≡ Some (xs, new)
ItemsRead c n (Err e) old new = Stops e (items_reads c n old)
