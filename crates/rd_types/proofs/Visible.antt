-- One event more: the last one of the first so many events that the caller sees.
use Rattle.std.proofs.Common.{◌≡◌, ◌∙◌, ℕ, ◌+◌, ◌-◌, ◌<◌, Bool, true, false, List, [], ◌∷◌, ◌++◌, length, take, refl, sym, ap, arith, append-nil, length-append}
use Rattle.std.specs.Prelude.{Some, unwrap_or, option_map, slice_get, if◌then◌else◌}
use Rattle.std.proofs.lemmas.List.{take_more, length-take}
use Rattle.std.proofs.lemmas.Option.{slice_get_within, get_or_from_slice_get}
use Rattle.cm_base.specs.declared.log.Change.{Change}
use Rattle.cmis_spec.specs.Repository.{Repository, last_of}
use Rattle.cmis_spec.specs.Seen.{SeenEvent, is_visible, seen_events}
use Rattle.rd_types.specs.ReadInfo.{latest_of}
use Rattle.rd_types.specs.Latest.{latest_in}

if_more : {A : Type 0} (b : Bool) (x : A) (xs ys zs : List A) → xs ≡ ys ++ zs → (if b then x ∷ xs else xs) ≡ (if b then x ∷ ys else ys) ++ zs
if_more true x xs ys zs h = ap (λ all. x ∷ all) h
if_more false x xs ys zs h = h

pub seen_more : (r : Repository) (u : List ℕ) (n : ℕ) (cs : List Change) (c : Change) → seen_events r u n (cs ++ c ∷ []) ≡ seen_events r u n cs ++ seen_events r u (n + length cs) (c ∷ [])
seen_more r u n [] c = let e : n ≡ n + 0 = omega arith in ap (λ k. seen_events r u k (c ∷ [])) e
seen_more r u n (d ∷ cs) c =
    let e : n + 1 + length cs ≡ n + length (d ∷ cs) = omega arith in
    if_more (is_visible r u d) (record { number = n; kind = d.kind; object = d.object; moment = d.moment })
    (seen_events r u (n + 1) (cs ++ c ∷ [])) (seen_events r u (n + 1) cs) (seen_events r u (n + length (d ∷ cs)) (c ∷ []))
    (seen_more r u (n + 1) cs c ∙ ap (λ k. seen_events r u (n + 1) cs ++ seen_events r u k (c ∷ [])) e)

at_end : {A : Type 0} (xs : List A) (x : A) → slice_get (xs ++ x ∷ []) (length xs) ≡ Some x
at_end [] x = refl
at_end (y ∷ ys) x = at_end ys x

pub last_more : {A : Type 0} (xs : List A) (x : A) → last_of (xs ++ x ∷ []) ≡ Some x
last_more xs x =
    let e : length (xs ++ x ∷ []) - 1 ≡ length xs = omega (arith, length-append xs (x ∷ [])) in
    ap (slice_get (xs ++ x ∷ [])) e ∙ at_end xs x

latest_if : (b : Bool) (events : List SeenEvent) (event : SeenEvent) → latest_of (events ++ (if b then event ∷ [] else [])) ≡ (if b then event.number else latest_of events)
latest_if true events event = ap (λ o. unwrap_or (option_map (λ e. e.number) o) 0) (last_more events event)
latest_if false events event = ap latest_of (append-nil events)

pub latest_more : (r : Repository) (u : List ℕ) (i : ℕ) (c : Change) → slice_get r.log i ≡ Some c → latest_in r u (i + 1) ≡ (if is_visible r u c then i + 1 else latest_in r u i)
latest_more r u i c h =
    let lt : i < length r.log = slice_get_within r.log i c h in
    let front : take (i + 1) r.log ≡ take i r.log ++ c ∷ [] = take_more r.log i c lt ∙ ap (λ x. take i r.log ++ x ∷ []) (get_or_from_slice_get r.log i c c h) in
    let long : 1 + length (take i r.log) ≡ i + 1 = omega (arith, length-take i r.log) in
    ap (λ cs. latest_of (seen_events r u 1 cs)) front
    ∙ (ap latest_of (seen_more r u 1 (take i r.log) c ∙ ap (λ n. seen_events r u 1 (take i r.log) ++ seen_events r u n (c ∷ [])) long)
    ∙ latest_if (is_visible r u c) (seen_events r u 1 (take i r.log)) (record { number = i + 1; kind = c.kind; object = c.object; moment = c.moment }))
