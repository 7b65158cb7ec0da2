-- Equal keys are the same, and so are lists of them.
use Rattle.std.specs.Prelude.{◌≡◌, Bool, true, false, ◌&&◌, List, [], ◌∷◌}
use Rattle.std.proofs.Common.{refl, sym, ap, true≢false, nat_cmp, is_eq, Equal, Ordering, Less, Greater}
use Rattle.std.proofs.lemmas.Map.Lookups.{exact_bytes}
use lib.Pointwise.{pointwise}
use Rattle.std.specs.Cmp.Lexicographic.{slice_cmp}
use Rattle.cm_objects.specs.declared.index_key.IndexKey.{IndexKey}
use Rattle.cm_objects.specs.declared.index_key.IndexKey.TheVariants as keys
use Rattle.cm_objects.specs.contracts.index_key.IndexKeyPartialEq.TheImpl.{ghosts}
use Rattle.cm_objects.proofs.Rising.{same_eq}

equal_of : (o : Ordering) → is_eq o ≡ true → o ≡ Equal
equal_of Less e = absurd (true≢false (sym e))
equal_of Equal e = refl
equal_of Greater e = absurd (true≢false (sym e))

key_eq : (x y : IndexKey) → ghosts.eq x y ≡ true → x ≡ y
key_eq (keys.Kind a) (keys.Kind b) e = ap keys.Kind (exact_bytes a b (equal_of (slice_cmp nat_cmp a b) e))
key_eq (keys.Kind a) (keys.End o) e = absurd (true≢false (sym e))
key_eq (keys.End o) (keys.Kind b) e = absurd (true≢false (sym e))
key_eq (keys.End o) (keys.End p) e = ap keys.End (same_eq o p e)

both : (a b : Bool) → (a && b) ≡ true → (a ≡ true) × (b ≡ true)
both true b h = (refl, h)
both false b h = absurd (true≢false (sym h))

pub keys_eq : (xs ys : List IndexKey) → pointwise ghosts.eq xs ys ≡ true → xs ≡ ys
keys_eq [] [] e = refl
keys_eq [] (y ∷ ys) e = absurd (true≢false (sym e))
keys_eq (x ∷ xs) [] e = absurd (true≢false (sym e))
keys_eq (x ∷ xs) (y ∷ ys) e =
    let each = both (ghosts.eq x y) (pointwise ghosts.eq xs ys) e in
    λ i. key_eq x y each.0 i ∷ keys_eq xs ys each.1 i
