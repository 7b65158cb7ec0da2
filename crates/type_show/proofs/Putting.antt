-- Objects of fields that are put in order, and how deep they are.
use Rattle.std.proofs.Common.{◌≡◌, ◌∙◌, ◌≤◌, ℕ, List, [], ◌∷◌, ◌++◌, Bool, true, false, ◌&&◌, Ordering, Less, Equal, Greater, refl, sym, ap, append_assoc, arith}
use Rattle.std.specs.List.{list_all}
use Rattle.std.specs.Ordering.{nat_cmp, match_ordering, is_lt, ordering_reverse}
use Rattle.std.specs.Cmp.Lexicographic.{slice_cmp, nat_list_cmp_total}
use Rattle.std.proofs.lemmas.List.{append-nil}
use Rattle.serde_json.specs.Data.{Data, Members, no_members, member, put, depth, members_depth}
use Rattle.type_keys.specs.Keys.{pairs_of}
use Rattle.type_show.specs.Showing.{Field, with_fields}

abbrev cmp : List ℕ → List ℕ → Ordering
cmp = slice_cmp nat_cmp

pub both : (a b : Bool) → a ≡ true → b ≡ true → (a && b) ≡ true
both true b p q = q
both false b p q = p

pub first : (a b : Bool) → (a && b) ≡ true → a ≡ true
first true b h = refl
first false b h = h

pub second : (a b : Bool) → (a && b) ≡ true → b ≡ true
second true b h = h
second false b h = absurd cc

pub less : (r : Ordering) → is_lt r ≡ true → r ≡ Less
less Less h = refl
less Equal h = cc h
less Greater h = cc h

-- ---- fields in order

-- each of these names stands before k
abbrev all_before : List Field → List ℕ → Bool
all_before ps k = list_all (λ p. is_lt (cmp p.0 k)) ps

-- a name past all others is put at the end
put_last : (k : List ℕ) (d : Data) (ms : Members) → all_before (pairs_of ms) k ≡ true → pairs_of (put k d ms) ≡ pairs_of ms ++ (k, d) ∷ []
put_last k d no_members h = refl
put_last k d (member l e ms) h =
    ap (λ o. pairs_of (match_ordering o (member k d (member l e ms)) (member l d ms) (member l e (put k d ms))))
    (nat_list_cmp_total.antisymm k l ∙ ap ordering_reverse (less (cmp l k) (first _ _ h)))
    ∙ ap (λ ps. (l, e) ∷ ps) (put_last k d ms (second (is_lt (cmp l k)) _ h))

before_more : (ps : List Field) (f : Field) (k : List ℕ) → all_before ps k ≡ true → is_lt (cmp f.0 k) ≡ true → all_before (ps ++ f ∷ []) k ≡ true
before_more [] f k h l = both _ _ l refl
before_more (p ∷ ps) f k h l = both _ _ (first _ _ h) (before_more ps f k (second (is_lt (cmp p.0 k)) _ h) l)

all_more : (ps : List Field) (f : Field) (fs : List Field) → list_all (λ g. all_before ps g.0) fs ≡ true → list_all (λ g. is_lt (cmp f.0 g.0)) fs ≡ true
    → list_all (λ g. all_before (ps ++ f ∷ []) g.0) fs ≡ true
all_more ps f [] h l = refl
all_more ps f (g ∷ fs) h l =
    both _ _
    (before_more ps f g.0 (first _ _ h) (first _ _ l))
    (all_more ps f fs (second (all_before ps g.0) _ h) (second (is_lt (cmp f.0 g.0)) _ l))

-- their names ascend
abbrev pub ascending : List Field → Bool
ascending [] = true
ascending (f ∷ fs) = list_all (λ g. is_lt (cmp f.0 g.0)) fs && ascending fs

put_all : (fs : List Field) (ms : Members) → list_all (λ g. all_before (pairs_of ms) g.0) fs ≡ true → ascending fs ≡ true
    → pairs_of (with_fields fs ms) ≡ pairs_of ms ++ fs
put_all [] ms h a = sym (append-nil (pairs_of ms))
put_all (f ∷ fs) ms h a =
    let last = put_last f.0 f.1 ms (first _ _ h) in
    let more = all_more (pairs_of ms) f fs (second (all_before (pairs_of ms) f.0) _ h) (first _ _ a) in
    put_all fs (put f.0 f.1 ms) (ap (λ ps. list_all (λ g. all_before ps g.0) fs) last ∙ more) (second (list_all (λ g. is_lt (cmp f.0 g.0)) fs) _ a)
    ∙ ap (λ ps. ps ++ fs) last
    ∙ append_assoc (pairs_of ms) (f ∷ []) fs

all_true : (fs : List Field) → list_all (λ g. true) fs ≡ true
all_true [] = refl
all_true (f ∷ fs) = all_true fs

-- an object of fields whose names ascend has just these
pub put_ascending : (fs : List Field) → ascending fs ≡ true → pairs_of (with_fields fs no_members) ≡ fs
put_ascending fs a = put_all fs no_members (all_true fs) a

-- ---- depths

depth_at : (o : Ordering) (n : ℕ) (k l : List ℕ) (d e : Data) (ms rest : Members) → depth d ≤ n → depth e ≤ n → members_depth ms ≤ n → members_depth rest ≤ n
    → members_depth (match_ordering o (member k d (member l e ms)) (member l d ms) (member l e rest)) ≤ n
depth_at Less n k l d e ms rest hd he hms hr = omega arith
depth_at Equal n k l d e ms rest hd he hms hr = omega arith
depth_at Greater n k l d e ms rest hd he hms hr = omega arith

depth_put : (n : ℕ) (k : List ℕ) (d : Data) (ms : Members) → depth d ≤ n → members_depth ms ≤ n → members_depth (put k d ms) ≤ n
depth_put n k d no_members hd hms = omega arith
depth_put n k d (member l e ms) hd hms =
    let he : depth e ≤ n = omega arith in
    let hr : members_depth ms ≤ n = omega arith in
    depth_at (cmp k l) n k l d e ms (put k d ms) hd he hr (depth_put n k d ms hd hr)

-- each of these values nests no deeper
abbrev pub all_within : ℕ → List Field → Type 0
all_within n [] = Unit {0}
all_within n (f ∷ fs) = (depth f.1 ≤ n) × all_within n fs

pub depth_fields : (n : ℕ) (fs : List Field) (ms : Members) → all_within n fs → members_depth ms ≤ n → members_depth (with_fields fs ms) ≤ n
depth_fields n [] ms h hms = hms
depth_fields n (f ∷ fs) ms h hms = depth_fields n fs (put f.0 f.1 ms) h.1 (depth_put n f.0 f.1 ms h.0 hms)
