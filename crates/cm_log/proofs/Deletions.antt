-- The first deletion of an object, by its place.
use Rattle.std.specs.Prelude.{◌≡◌, ℕ, suc, ◌==◌, List, [], ◌∷◌, ◌++◌, length, Option, Some, None, is_none, Bool, true, false, ◌&&◌, find, option_map, option_and_then, slice_get, if◌then◌else◌}
use Rattle.std.proofs.Common.{refl, ap, sym, subst, cond, ◌∙◌, arith}
use Rattle.std.proofs.lemmas.Bool.{both_ways, eqb-true}
use Rattle.core.specs.FinMap.Entries as entries
use Rattle.core.specs.Ordering.{nat_cmp}
use Rattle.core.specs.Cmp.{nat_cmp_total, unsigned_tied}
use Rattle.cm_base.specs.declared.number.Oid.{Oid}
use Rattle.cm_base.specs.declared.log.Change.{Change}
use Rattle.cmis_spec.specs.Repository.{same}
use Rattle.cmis_spec.specs.Seen.{is_deletion, is_deletion_of}
use Rattle.cm_log.specs.Deletions.{AreDeletions, deletion_place, is_first_deletion}

-- what stands at the place of the first deletion is that deletion
behind_one : (c : Change) (cs : List Change) (o : Option ℕ) → option_and_then (slice_get (c ∷ cs)) (option_map suc o) ≡ option_and_then (slice_get cs) o
behind_one c cs None = refl
behind_one c cs (Some i) = refl

found_first : (c : Change) (cs : List Change) (b : Bool) (o : Option ℕ) → option_and_then (slice_get (c ∷ cs)) (if b then Some 0 else option_map suc o) ≡ (if b then Some c else option_and_then (slice_get cs) o)
found_first c cs true o = refl
found_first c cs false o = behind_one c cs o

pub found_at : (n : Oid) (cs : List Change) → option_and_then (slice_get cs) (deletion_place n cs) ≡ find (is_deletion_of n) cs
found_at n [] = refl
found_at n (c ∷ cs) = found_first c cs (is_deletion_of n c) (deletion_place n cs) ∙ ap (λ o. if is_deletion_of n c then Some c else o) (found_at n cs)

-- what is found at the place that is kept
pub found_by : (places : List (ℕ × ℕ)) (cs : List Change) (n : Oid) → AreDeletions places cs → option_and_then (slice_get cs) (entries.find nat_cmp n.0 places) ≡ find (is_deletion_of n) cs
found_by places cs n h = ap (option_and_then (slice_get cs)) (h n) ∙ found_at n cs

-- the place kept, or that of an event behind all others
abbrev pub or_last : Option ℕ → Bool → ℕ → Option ℕ
or_last (Some i) b k = Some i
or_last None b k = if b then Some k else None

one_more : (t b : Bool) (k : ℕ) (o : Option ℕ) → (if t then Some 0 else option_map suc (or_last o b k)) ≡ or_last (if t then Some 0 else option_map suc o) b (suc k)
one_more true b k o = refl
one_more false b k (Some i) = refl
one_more false true k None = refl
one_more false false k None = refl

pub place-last : (n : Oid) (cs : List Change) (c : Change) → deletion_place n (cs ++ c ∷ []) ≡ or_last (deletion_place n cs) (is_deletion_of n c) (length cs)
place-last n [] c = at (is_deletion_of n c)
  where
    at : (b : Bool) → (if b then Some 0 else option_map suc None) ≡ or_last None b 0
    at true = refl
    at false = refl
place-last n (d ∷ cs) c = ap (λ o. if is_deletion_of n d then Some 0 else option_map suc o) (place-last n cs c) ∙ one_more (is_deletion_of n d) (is_deletion_of n c) (length cs) (deletion_place n cs)

-- ---- one event more

by_test : {G : Type 0} (b : Bool) → (b ≡ true → G) → (b ≡ false → G) → G
by_test {G} b f g = elim b as (λ c. b ≡ c → G) [ true ↦ f | false ↦ g ] refl

same_eq : (a b : Oid) → same a b ≡ true → a ≡ b
same_eq a b h = ap (λ n. record { 0 = n }) (eqb-true a.0 b.0 h)

flip : (a b : ℕ) → (b == a) ≡ (a == b)
flip a b = grind arith

never : (a : Bool) → a && false ≡ false
never a = grind arith

first_true : (a b : Bool) → a && b ≡ true → a ≡ true
first_true a b h = grind (arith, h)

second_true : (a b : Bool) → a && b ≡ true → b ≡ true
second_true a b h = grind (arith, h)

none_is : (o : Option ℕ) → is_none o ≡ true → o ≡ None
none_is None h = refl
none_is (Some i) h = absurd (both_ways false refl h)

or_not : (o : Option ℕ) (k : ℕ) → or_last o false k ≡ o
or_not None k = refl
or_not (Some i) k = refl

or_not_first : (o : Option ℕ) (d : Bool) (k : ℕ) → d && is_none o ≡ false → or_last o d k ≡ o
or_not_first (Some i) d k h = refl
or_not_first None true k h = absurd (both_ways true h refl)
or_not_first None false k h = refl

put_at : (p n k : ℕ) (es : List (ℕ × ℕ)) → entries.find nat_cmp p (entries.put nat_cmp n k es) ≡ cond (p == n) (Some k) (entries.find nat_cmp p es)
put_at p n k es = entries.find-put nat_cmp nat_cmp_total p n k es ∙ ap (λ b. cond b (Some k) (entries.find nat_cmp p es)) (unsigned_tied p n)

-- what is no first deletion leaves the places
pub places_stay : (places : List (ℕ × ℕ)) (cs : List Change) (c : Change) → AreDeletions places cs → is_first_deletion cs c ≡ false → AreDeletions places (cs ++ c ∷ [])
places_stay places cs c h e n = h n ∙ sym (place-last n cs c ∙ by_test (same c.object n)
    (λ t.
    let at : c.object ≡ n = same_eq c.object n t in
    let other : is_deletion c.kind && is_none (deletion_place n cs) ≡ false = subst (λ m. is_deletion c.kind && is_none (deletion_place m cs) ≡ false) at e in
    let here : is_deletion_of n c ≡ is_deletion c.kind = ap (λ b. is_deletion c.kind && b) t ∙ always (is_deletion c.kind) in
    ap (λ b. or_last (deletion_place n cs) b (length cs)) here ∙ or_not_first (deletion_place n cs) (is_deletion c.kind) (length cs) other)
    (λ t. ap (λ b. or_last (deletion_place n cs) b (length cs)) (ap (λ b. is_deletion c.kind && b) t ∙ never (is_deletion c.kind)) ∙ or_not (deletion_place n cs) (length cs)))
  where
    always : (a : Bool) → a && true ≡ a
    always a = grind arith

-- the place of a first deletion is that behind all others
pub place_more : (places : List (ℕ × ℕ)) (cs : List Change) (c : Change) → AreDeletions places cs → is_first_deletion cs c ≡ true → AreDeletions (entries.put nat_cmp c.object.0 (length cs) places) (cs ++ c ∷ [])
place_more places cs c h e n = put_at n.0 c.object.0 (length cs) places ∙ by_test (same c.object n)
    (λ t.
    let at : c.object ≡ n = same_eq c.object n t in
    let gone : is_deletion c.kind ≡ true = first_true (is_deletion c.kind) (is_none (deletion_place c.object cs)) e in
    let new : deletion_place n cs ≡ None = subst (λ m. deletion_place m cs ≡ None) at (none_is (deletion_place c.object cs) (second_true (is_deletion c.kind) (is_none (deletion_place c.object cs)) e)) in
    ap (λ b. cond b (Some (length cs)) (entries.find nat_cmp n.0 places)) (flip c.object.0 n.0 ∙ t)
    ∙ sym (place-last n cs c ∙ (λ i. or_last (new i) (gone i && t i) (length cs))))
    (λ t. ap (λ b. cond b (Some (length cs)) (entries.find nat_cmp n.0 places)) (flip c.object.0 n.0 ∙ t)
    ∙ (h n ∙ sym (place-last n cs c ∙ (ap (λ b. or_last (deletion_place n cs) b (length cs)) (ap (λ b. is_deletion c.kind && b) t ∙ never (is_deletion c.kind)) ∙ or_not (deletion_place n cs) (length cs)))))
