-- The values that are built have no float.
use Rattle.std.proofs.Common.{◌≡◌, ℕ, List, [], ◌∷◌, Bool, true, false, ◌||◌, ◌++◌, Ordering, Less, Equal, Greater, refl, nat_cmp, String, Global, Result, Ok, Err}
use Rattle.std.specs.Result.{OnOk, OnErr}
use Rattle.std.specs.Ordering.{match_ordering}
use Rattle.std.specs.Cmp.Lexicographic.{slice_cmp}
use Rattle.serde_json.specs.Data.{Data, Members, no_members, member, put}
use Rattle.serde_json.specs.Written.{has_float, items_have_float, members_have_float}
use Rattle.serde_json.specs.View.{view, members_view, items_view}
use Rattle.serde_json.specs.declared.value.Value.{Value}

both_false : (a b : Bool) → a ≡ false → b ≡ false → (a || b) ≡ false
both_false false b p q = q
both_false true b p q = p

left_false : (a b : Bool) → (a || b) ≡ false → a ≡ false
left_false true b h = h
left_false false b h = refl

right_false : (a b : Bool) → (a || b) ≡ false → b ≡ false
right_false true b h = absurd cc
right_false false b h = h

put_at : (o : Ordering) (k l : List ℕ) (d e : Data) (ms rest : Members)
    → has_float d ≡ false → has_float e ≡ false → members_have_float ms ≡ false → members_have_float rest ≡ false
    → members_have_float (match_ordering o (member k d (member l e ms)) (member l d ms) (member l e rest)) ≡ false
put_at Less k l d e ms rest hd he hms hr = both_false _ _ hd (both_false _ _ he hms)
put_at Equal k l d e ms rest hd he hms hr = both_false _ _ hd hms
put_at Greater k l d e ms rest hd he hms hr = both_false _ _ he hr

whole_put : (k : List ℕ) (d : Data) (ms : Members) → has_float d ≡ false → members_have_float ms ≡ false → members_have_float (put k d ms) ≡ false
whole_put k d no_members hd hms = both_false _ _ hd hms
whole_put k d (member l e ms) hd hms =
    put_at (slice_cmp nat_cmp k l) k l d e ms (put k d ms) hd (left_false _ _ hms) (right_false (has_float e) _ hms) (whole_put k d ms hd (right_false (has_float e) _ hms))

-- a put that succeeded added a member, and one that failed none
pub whole-after_put : {T E : Type 0} (r : Result T E) (new old : List (String Global × Value)) (k : List ℕ) (d : Data)
    → members_have_float (members_view old) ≡ false → has_float d ≡ false
    → OnOk r (members_view new ≡ put k d (members_view old)) → OnErr r (new ≡ old)
    → members_have_float (members_view new) ≡ false
whole-after_put (Ok x) new old k d hold hd ok err = rw ok (whole_put k d (members_view old) hd hold)
whole-after_put (Err e) new old k d hold hd ok err = rw err hold

whole_push : (vs : List Value) (v : Value) → items_have_float (items_view vs) ≡ false → has_float (view v) ≡ false → items_have_float (items_view (vs ++ v ∷ [])) ≡ false
whole_push [] v hvs hv = both_false _ _ hv refl
whole_push (x ∷ vs) v hvs hv = both_false _ _ (left_false _ _ hvs) (whole_push vs v (right_false (has_float (view x)) _ hvs) hv)

pub whole-after_push : {T E : Type 0} (r : Result T E) (new old : List Value) (v : Value)
    → items_have_float (items_view old) ≡ false → has_float (view v) ≡ false
    → OnOk r (new ≡ old ++ v ∷ []) → OnErr r (new ≡ old)
    → items_have_float (items_view new) ≡ false
whole-after_push (Ok x) new old v hold hv ok err = rw ok (whole_push old v hold hv)
whole-after_push (Err e) new old v hold hv ok err = rw err hold
