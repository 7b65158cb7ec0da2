-- The members of an object by its fields in the order of their names.
use Rattle.std.proofs.Common.{◌≡◌, ℕ, List, [], ◌∷◌, Ordering, Less, Equal, Greater, refl, sym, ap, ◌∙◌, map, fold, nat_cmp}
use Rattle.std.specs.Cmp.Lexicographic.{slice_cmp}
use Rattle.std.proofs.lemmas.Map.Lookups.{exact_bytes}
use Rattle.serde_json.specs.Data.{Data, object, member, put}
use Rattle.json_text.specs.Build.{with_field, object_data}
use Rattle.json_text.specs.Tokens.{listed_members}
use Rattle.show_json.specs.Ordered.{placed, in_key_order}

abbrev name_by : {A : Type 0} → (A → List ℕ × Data) → A → List ℕ
name_by f x = (f x).0

-- a field that is put and an item that is placed
put_placed : {A : Type 0} (f : A → List ℕ × Data) (x : A) (ys : List A) → put (f x).0 (f x).1 (listed_members (map f ys)) ≡ listed_members (map f (placed (name_by f) x ys))
put_placed f x [] = refl
put_placed {A} f x (y ∷ ys) = by (put_placed f x ys) (slice_cmp nat_cmp (f x).0 (f y).0) refl
  where
    by : put (f x).0 (f x).1 (listed_members (map f ys)) ≡ listed_members (map f (placed (name_by f) x ys))
        → (o : Ordering) → slice_cmp nat_cmp (f x).0 (f y).0 ≡ o
        → put (f x).0 (f x).1 (listed_members (map f (y ∷ ys))) ≡ listed_members (map f (placed (name_by f) x (y ∷ ys)))
    by rest Less c = rw c refl
    by rest Equal c = rw c (ap (λ k. member k (f x).1 (listed_members (map f ys))) (sym (exact_bytes (f x).0 (f y).0 c)))
    by rest Greater c = rw c (ap (member (f y).0 (f y).1) rest)

folded : {A : Type 0} (f : A → List ℕ × Data) (xs ys : List A)
    → fold with_field (listed_members (map f ys)) (map f xs) ≡ listed_members (map f (fold (λ zs x. placed (name_by f) x zs) ys xs))
folded f [] ys = refl
folded f (x ∷ xs) ys = ap (λ ms. fold with_field ms (map f xs)) (put_placed f x ys) ∙ folded f xs (placed (name_by f) x ys)

-- an object's members are its fields in the order of their names
pub object_in_order : {A : Type 0} (f : A → List ℕ × Data) (xs : List A) → object_data (map f xs) ≡ object (listed_members (map f (in_key_order (λ x. (f x).0) xs)))
object_in_order f xs = ap object (folded f xs [])
