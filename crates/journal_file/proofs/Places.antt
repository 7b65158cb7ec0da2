-- Where records lie in a file.
use Rattle.std.proofs.Common.{◌≡◌, ℕ, List, [], ◌∷◌, ◌++◌, length, take, drop, refl, sym, ap, ◌∙◌, append_assoc}
use Rattle.std.specs.List.{AllByRecursion}
use Rattle.std.proofs.lemmas.List.{take_at, drop_at, append-nil}
use Rattle.journal_file.specs.Records.{length_bytes, records}

pub length-length_bytes : (n : ℕ) → length (length_bytes n) ≡ 8
unfolding length_bytes
length-length_bytes n = refl

pub records-append : (ps qs : List (List ℕ)) → records (ps ++ qs) ≡ records ps ++ records qs
records-append [] qs = refl
records-append (p ∷ ps) qs =
    ap (λ (l : List ℕ). 1 ∷ length_bytes (length p) ++ p ++ l) (records-append ps qs)
    ∙ ap (λ (l : List ℕ). 1 ∷ l) (sym (append_assoc (length_bytes (length p) ++ p) (records ps) (records qs)))

pub all-append : {A : Type 0} (P : A → Type 0) (xs ys : List A) → AllByRecursion P xs → AllByRecursion P ys → AllByRecursion P (xs ++ ys)
all-append P [] ys left right = right
all-append P (x ∷ xs) ys left right = (left.0, all-append P xs ys left.1 right)

-- the records of one more payload
pub records-more : (ps : List (List ℕ)) (p rest : List ℕ) → records (ps ++ p ∷ []) ++ rest ≡ records ps ++ (1 ∷ length_bytes (length p) ++ p ++ rest)
records-more ps p rest =
    ap (λ (l : List ℕ). l ++ rest) (records-append ps (p ∷ []))
    ∙ append_assoc (records ps) (1 ∷ length_bytes (length p) ++ p ++ []) rest
    ∙ ap (λ (l : List ℕ). records ps ++ (1 ∷ l ++ rest)) (append-nil (length_bytes (length p) ++ p))

-- what is appended to lists of one length is the same where the whole is
pub same_parts : (a b x y : List ℕ) → length a ≡ length b → a ++ x ≡ b ++ y → (a ≡ b) × (x ≡ y)
same_parts a b x y same whole = (
  sym (take_at a x (length b) same) ∙ ap (λ (l : List ℕ). take (length b) l) whole ∙ take_at b y (length b) refl,
  sym (drop_at a x (length b) same) ∙ ap (λ (l : List ℕ). drop (length b) l) whole ∙ drop_at b y (length b) refl,
)
