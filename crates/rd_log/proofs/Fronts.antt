-- What the caller sees of the front of the log, and of one event more.
use Rattle.std.proofs.Common.{◌≡◌, ◌∙◌, ℕ, ◌+◌, ◌-◌, ◌<◌, ◌≤◌, zero, suc, nat_le, Bool, true, false, List, [], ◌∷◌, ◌++◌, length, take, refl, sym, ap, arith, append-nil}
use Rattle.std.specs.Prelude.{Some, filter, slice_get, if◌then◌else◌}
use Rattle.std.proofs.lemmas.Bool.{le-leb, lt-leb}
use Rattle.std.proofs.lemmas.List.{take_more, take_all, length-take}
use Rattle.std.proofs.lemmas.List.Elements.{filter-append}
use Rattle.std.proofs.lemmas.Option.{slice_get_within, get_or_from_slice_get}
use Rattle.cm_base.specs.declared.log.Change.{Change}
use Rattle.cmis_spec.specs.Repository.{Repository}
use Rattle.cmis_spec.specs.Seen.{is_visible, seen_events}
use Rattle.rd_log.specs.EventsIn.{events_in, seen_event}
use Rattle.rd_log.specs.ReadChanges.{events_from}
use Rattle.rd_types.proofs.Visible.{seen_more}

kept_if : {A : Type 0} (p : A → Bool) (b : Bool) (x : A) (xs : List A) → p x ≡ true → xs ++ filter p (if b then x ∷ [] else []) ≡ (if b then xs ++ x ∷ [] else xs)
kept_if p true x xs h = ap (λ k. xs ++ (if k then x ∷ [] else [])) h
kept_if p false x xs h = append-nil xs

-- one event more
pub events_more : (r : Repository) (u : List ℕ) (token i : ℕ) (c : Change) → slice_get r.log i ≡ Some c → token ≤ i + 1
    → events_in r u token (i + 1) ≡ (if is_visible r u c then events_in r u token i ++ seen_event (i + 1) c ∷ [] else events_in r u token i)
events_more r u token i c h from =
    let lt : i < length r.log = slice_get_within r.log i c h in
    let front : take (i + 1) r.log ≡ take i r.log ++ c ∷ [] = take_more r.log i c lt ∙ ap (λ x. take i r.log ++ x ∷ []) (get_or_from_slice_get r.log i c c h) in
    let long : 1 + length (take i r.log) ≡ i + 1 = omega (arith, length-take i r.log) in
    let kept : nat_le token (i + 1) ≡ true = le-leb token (i + 1) from in
    ap (λ cs. events_from token (seen_events r u 1 cs)) front
    ∙ (ap (events_from token) (seen_more r u 1 (take i r.log) c ∙ ap (λ n. seen_events r u 1 (take i r.log) ++ seen_events r u n (c ∷ [])) long)
    ∙ (filter-append (λ e. nat_le token e.number) (seen_events r u 1 (take i r.log)) (seen_events r u (i + 1) (c ∷ []))
    ∙ kept_if (λ e. nat_le token e.number) (is_visible r u c) (seen_event (i + 1) c) (events_in r u token i) kept))

-- the same, by the event's number
pub number_more : (r : Repository) (u : List ℕ) (token number : ℕ) (c : Change) → 0 < number → slice_get r.log (number - 1) ≡ Some c → token ≤ number
    → events_in r u token number ≡ (if is_visible r u c then events_in r u token (number - 1) ++ seen_event number c ∷ [] else events_in r u token (number - 1))
number_more r u token number c some h from =
    let i = number - 1 in
    let e : number ≡ i + 1 = omega (arith, some) in
    ap (events_in r u token) e ∙ (events_more r u token i c h (omega (arith, from, e)) ∙ ap (λ n. if is_visible r u c then events_in r u token i ++ seen_event n c ∷ [] else events_in r u token i) (sym e))

if_passed : {A : Type 0} (p : A → Bool) (b : Bool) (x : A) (xs : List A) → p x ≡ false → filter p xs ≡ [] → filter p (if b then x ∷ xs else xs) ≡ []
if_passed p true x xs h rest = ap (λ k. if k then x ∷ filter p xs else filter p xs) h ∙ rest
if_passed p false x xs h rest = rest

-- all of them come before the token
before : (r : Repository) (u : List ℕ) (token n : ℕ) (cs : List Change) → n + length cs ≤ token → events_from token (seen_events r u n cs) ≡ []
before r u token n [] le = refl
before r u token n (c ∷ cs) le =
    let passed : nat_le token n ≡ false = lt-leb token n (omega (arith, le)) in
    let rest : n + 1 + length cs ≤ token = omega (arith, le) in
    if_passed (λ e. nat_le token e.number) (is_visible r u c) (seen_event n c) (seen_events r u (n + 1) cs) passed (before r u token (n + 1) cs rest)

-- the events before the one that has the token
pub none_before : (r : Repository) (u : List ℕ) (token i : ℕ) → i ≤ token - 1 → events_in r u token i ≡ []
none_before r u token zero le = refl
none_before r u token (suc i) le =
    let some : 1 + length (take (suc i) r.log) ≤ token = omega (arith, le, length-take (suc i) r.log) in
    before r u token 1 (take (suc i) r.log) some

-- the whole log
pub all_of_them : (r : Repository) (u : List ℕ) (token : ℕ) → events_in r u token (length r.log) ≡ events_from token (seen_events r u 1 r.log)
all_of_them r u token = ap (λ cs. events_from token (seen_events r u 1 cs)) (take_all (length r.log) r.log (omega arith))

short_if : {A : Type 0} (b : Bool) (x : A) (xs : List A) (n : ℕ) → length xs ≤ n → length (if b then x ∷ xs else xs) ≤ n + 1
short_if true x xs n h = omega (arith, h)
short_if false x xs n h = omega (arith, h)

fewer : {A : Type 0} (p : A → Bool) (xs : List A) → length (filter p xs) ≤ length xs
fewer p [] = omega arith
fewer p (x ∷ xs) = let h : length (filter p xs) ≤ length xs = fewer p xs in let more : length (filter p (x ∷ xs)) ≤ length xs + 1 = short_if (p x) x (filter p xs) (length xs) h in omega (arith, more)

seen_few : (r : Repository) (u : List ℕ) (n : ℕ) (cs : List Change) → length (seen_events r u n cs) ≤ length cs
seen_few r u n [] = omega arith
seen_few r u n (c ∷ cs) =
    let more : length (seen_events r u n (c ∷ cs)) ≤ length cs + 1 = short_if (is_visible r u c) (seen_event n c) (seen_events r u (n + 1) cs) (length cs) (seen_few r u (n + 1) cs) in
    omega (arith, more)

-- no more of them than events
pub events_few : (r : Repository) (u : List ℕ) (token i : ℕ) → length (events_in r u token i) ≤ i
events_few r u token i =
    let kept : length (events_in r u token i) ≤ length (seen_events r u 1 (take i r.log)) = fewer (λ e. nat_le token e.number) (seen_events r u 1 (take i r.log)) in
    let told : length (seen_events r u 1 (take i r.log)) ≤ length (take i r.log) = seen_few r u 1 (take i r.log) in
    omega (arith, kept, told, length-take i r.log)
