-- The names of an object ascend, whatever the order in which they are put.
use Rattle.std.proofs.Common.{◌≡◌, ℕ, List, [], ◌∷◌, Bool, true, false, ◌&&◌, ◌++◌, Ordering, Less, Equal, Greater, refl, sym, ap, ◌∙◌, nat_cmp, String, Global, Result, Ok, Err}
use Rattle.std.specs.Prelude.{◌≢◌}
use Rattle.std.specs.Result.{OnOk, OnErr}
use Rattle.std.specs.Ordering.{match_ordering, is_lt, ordering_reverse}
use Rattle.std.specs.Cmp.Lexicographic.{slice_cmp, nat_list_cmp_total}
use Rattle.std.proofs.lemmas.Map.Lookups.{exact_bytes}
use Rattle.serde_json.specs.Data.{Data, Members, no_members, member, put}
use Rattle.serde_json.specs.View.{view, members_view, items_view}
use Rattle.serde_json.specs.declared.value.Value.{Value}
use Rattle.json_text.specs.Build.{is_before, in_order, items_in_order, members_in_order}

abbrev cmp : List ℕ → List ℕ → Ordering
cmp = slice_cmp nat_cmp

both : (a b : Bool) → a ≡ true → b ≡ true → (a && b) ≡ true
both true b p q = q
both false b p q = p

first : (a b : Bool) → (a && b) ≡ true → a ≡ true
first true b h = refl
first false b h = h

second : (a b : Bool) → (a && b) ≡ true → b ≡ true
second true b h = h
second false b h = absurd cc

less : (r : Ordering) → is_lt r ≡ true → r ≡ Less
less Less h = refl
less Equal h = cc h
less Greater h = cc h

before-lower : (x k : List ℕ) (ms : Members) → cmp x k ≡ Less → is_before k ms ≡ true → is_before x ms ≡ true
before-lower x k no_members p h = refl
before-lower x k (member l e ms) p h =
    both _ _ (ap is_lt (nat_list_cmp_total.trans x k l p (less (cmp k l) (first _ _ h)))) (before-lower x k ms p (second (is_lt (cmp k l)) _ h))

before-put_at : (o : Ordering) (x k l : List ℕ) (d e : Data) (ms rest : Members)
    → cmp x k ≡ Less → is_before x (member l e ms) ≡ true → is_before x rest ≡ true
    → is_before x (match_ordering o (member k d (member l e ms)) (member l d ms) (member l e rest)) ≡ true
before-put_at Less x k l d e ms rest p h r = both _ _ (ap is_lt p) h
before-put_at Equal x k l d e ms rest p h r = h
before-put_at Greater x k l d e ms rest p h r = both _ _ (first _ _ h) r

before-put : (x k : List ℕ) (d : Data) (ms : Members) → cmp x k ≡ Less → is_before x ms ≡ true → is_before x (put k d ms) ≡ true
before-put x k d no_members p h = both _ _ (ap is_lt p) refl
before-put x k d (member l e ms) p h = before-put_at (cmp k l) x k l d e ms (put k d ms) p h (before-put x k d ms p (second (is_lt (cmp x l)) _ h))

turned : (k l : List ℕ) → cmp k l ≡ Greater → cmp l k ≡ Less
turned k l p = nat_list_cmp_total.antisymm l k ∙ ap ordering_reverse p

ordered-put_at : (o : Ordering) (k l : List ℕ) (d e : Data) (ms : Members)
    → cmp k l ≡ o → in_order d ≡ true → is_before l ms ≡ true → in_order e ≡ true → members_in_order ms ≡ true → members_in_order (put k d ms) ≡ true
    → members_in_order (match_ordering o (member k d (member l e ms)) (member l d ms) (member l e (put k d ms))) ≡ true
ordered-put_at Less k l d e ms c hd b he hms hr =
    both _ _ (both _ _ (both _ _ (ap is_lt c) (before-lower k l ms c b)) hd) (both _ _ (both _ _ b he) hms)
ordered-put_at Equal k l d e ms c hd b he hms hr = both _ _ (both _ _ b hd) hms
ordered-put_at Greater k l d e ms c hd b he hms hr = both _ _ (both _ _ (before-put l k d ms (turned k l c) b) he) hr

pub ordered-put : (k : List ℕ) (d : Data) (ms : Members) → in_order d ≡ true → members_in_order ms ≡ true → members_in_order (put k d ms) ≡ true
ordered-put k d no_members hd h = both _ _ hd refl
ordered-put k d (member l e ms) hd h =
    let front = first (is_before l ms && in_order e) _ h in
    let rest = second (is_before l ms && in_order e) _ h in
    ordered-put_at (cmp k l) k l d e ms refl hd (first _ _ front) (second (is_before l ms) _ front) rest (ordered-put k d ms hd rest)

pub ordered-after_put : {T E : Type 0} (r : Result T E) (new old : List (String Global × Value)) (k : List ℕ) (d : Data)
    → members_in_order (members_view old) ≡ true → in_order d ≡ true
    → OnOk r (members_view new ≡ put k d (members_view old)) → OnErr r (new ≡ old)
    → members_in_order (members_view new) ≡ true
ordered-after_put (Ok x) new old k d hold hd ok err = rw ok (ordered-put k d (members_view old) hd hold)
ordered-after_put (Err e) new old k d hold hd ok err = rw err hold

ordered-push : (vs : List Value) (v : Value) → items_in_order (items_view vs) ≡ true → in_order (view v) ≡ true → items_in_order (items_view (vs ++ v ∷ [])) ≡ true
ordered-push [] v hvs hv = both _ _ hv refl
ordered-push (x ∷ vs) v hvs hv = both _ _ (first _ _ hvs) (ordered-push vs v (second (in_order (view x)) _ hvs) hv)

pub ordered-after_push : {T E : Type 0} (r : Result T E) (new old : List Value) (v : Value)
    → items_in_order (items_view old) ≡ true → in_order (view v) ≡ true
    → OnOk r (new ≡ old ++ v ∷ []) → OnErr r (new ≡ old)
    → items_in_order (items_view new) ≡ true
ordered-after_push (Ok x) new old v hold hv ok err = rw ok (ordered-push old v hold hv)
ordered-after_push (Err e) new old v hold hv ok err = rw err hold

-- ---- two names are put in either order

put-Less : (k l : List ℕ) (d e : Data) (ms : Members) → cmp k l ≡ Less → put k d (member l e ms) ≡ member k d (member l e ms)
put-Less k l d e ms c = ap (λ o. match_ordering o (member k d (member l e ms)) (member l d ms) (member l e (put k d ms))) c

put-Equal : (k l : List ℕ) (d e : Data) (ms : Members) → cmp k l ≡ Equal → put k d (member l e ms) ≡ member l d ms
put-Equal k l d e ms c = ap (λ o. match_ordering o (member k d (member l e ms)) (member l d ms) (member l e (put k d ms))) c

put-Greater : (k l : List ℕ) (d e : Data) (ms : Members) → cmp k l ≡ Greater → put k d (member l e ms) ≡ member l e (put k d ms)
put-Greater k l d e ms c = ap (λ o. match_ordering o (member k d (member l e ms)) (member l d ms) (member l e (put k d ms))) c

turned_back : (k l : List ℕ) → cmp k l ≡ Less → cmp l k ≡ Greater
turned_back k l p = nat_list_cmp_total.antisymm l k ∙ ap ordering_reverse p

-- the lower of two names is put at the front of what has the other put
front : (k l m : List ℕ) (d e f : Data) (ms : Members) → cmp k l ≡ Less → cmp k m ≡ Less → put k d (put l e (member m f ms)) ≡ put l e (put k d (member m f ms))
front k l m d e f ms kl km =
    front_by (cmp l m) refl
    ∙ sym (ap (put l e) (put-Less k m d f ms km) ∙ put-Greater l k e d (member m f ms) (turned_back k l kl))
  where
    front_by : (o : Ordering) → cmp l m ≡ o → put k d (put l e (member m f ms)) ≡ member k d (put l e (member m f ms))
    front_by Less c = ap (put k d) (put-Less l m e f ms c) ∙ put-Less k l d e (member m f ms) kl ∙ ap (member k d) (sym (put-Less l m e f ms c))
    front_by Equal c = ap (put k d) (put-Equal l m e f ms c) ∙ put-Less k m d e ms km ∙ ap (member k d) (sym (put-Equal l m e f ms c))
    front_by Greater c = ap (put k d) (put-Greater l m e f ms c) ∙ put-Less k m d f (put l e ms) km ∙ ap (member k d) (sym (put-Greater l m e f ms c))

either : (k l : List ℕ) (d e : Data) (ms : Members) → cmp k l ≡ Less → put k d (put l e ms) ≡ put l e (put k d ms)
either k l d e no_members kl = put-Less k l d e no_members kl ∙ sym (put-Greater l k e d no_members (turned_back k l kl))
either k l d e (member m f ms) kl = by (either k l d e ms kl) (cmp k m) refl
  where
    further : cmp k m ≡ Equal → cmp l m ≡ Greater
    further c = turned_back m l (sym (nat_list_cmp_total.congr k m l c) ∙ kl)

    beyond : cmp k m ≡ Greater → cmp l m ≡ Greater
    beyond c = turned_back m l (nat_list_cmp_total.trans m k l (turned k m c) kl)

    by : put k d (put l e ms) ≡ put l e (put k d ms) → (o : Ordering) → cmp k m ≡ o → put k d (put l e (member m f ms)) ≡ put l e (put k d (member m f ms))
    by rest Less c = front k l m d e f ms kl c
    by rest Equal c =
        ap (put k d) (put-Greater l m e f ms (further c)) ∙ put-Equal k m d f (put l e ms) c
        ∙ sym (ap (put l e) (put-Equal k m d f ms c) ∙ put-Greater l m e d ms (further c))
    by rest Greater c =
        ap (put k d) (put-Greater l m e f ms (beyond c)) ∙ put-Greater k m d f (put l e ms) c
        ∙ ap (member m f) rest
        ∙ sym (ap (put l e) (put-Greater k m d f ms c) ∙ put-Greater l m e f (put k d ms) (beyond c))

pub put-either : (k l : List ℕ) (d e : Data) (ms : Members) → k ≢ l → put k d (put l e ms) ≡ put l e (put k d ms)
put-either k l d e ms apart = by (cmp k l) refl
  where
    by : (o : Ordering) → cmp k l ≡ o → put k d (put l e ms) ≡ put l e (put k d ms)
    by Less c = either k l d e ms c
    by Equal c = absurd (apart (exact_bytes k l c))
    by Greater c = sym (either l k e d ms (turned k l c))
