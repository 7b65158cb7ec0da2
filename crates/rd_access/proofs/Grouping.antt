-- Entries in order, taken one after another, are grouped by their principals.
use Rattle.std.specs.Prelude.{◌≡◌, ℕ, Bool, true, false, not, if◌then◌else◌, List, [], ◌∷◌, ◌++◌, map, filter, fold, All, bytes_eq}
use Rattle.std.proofs.Common.{refl, sym, ap, subst, ◌∙◌, append_assoc, Less, Equal, Greater}
use Rattle.std.proofs.lemmas.Bool.{both_ways, not-true}
use Rattle.std.proofs.lemmas.Map.Text.{is_eq-slice_cmp}
use Rattle.std.proofs.lemmas.List.{append-nil}
use Rattle.std.proofs.lemmas.List.Elements.{All-nil, All-cons, All-head, All-tail, All-weaker, All-filter, filter_passes}
use Rattle.core.specs.Ordering.{nat_cmp, ordering_then, ordering_reverse, is_eq, is_gt}
use Rattle.core.specs.Cmp.Lexicographic.{slice_cmp, nat_list_cmp_total}
use Rattle.core.specs.declared.cmp.Ordering.{Ordering}
use Rattle.cm_base.specs.declared.access.Ace.{Ace}
use Rattle.call_parts.specs.declared.replies.ShownAce.{ShownAce}
use Rattle.cmis_spec.specs.Access.{rank}
use Rattle.cmis_spec.specs.Well.{Apart, ComesBefore}
use Rattle.cmis_laws.proofs.Lists.{by_test, bytes_turned}
use Rattle.cmis_laws.proofs.Kept.{bytes_true, bytes_same}
use Rattle.rd_access.specs.Grouped.{alone, behind, grouped_with, longer}
use Rattle.rd_access.specs.ReadAcl.{permission_word, permissions_of, principals, shown_ace, shown_aces}

-- ---- one entry more

pub behind_last : (groups : List ShownAce) (s : ShownAce) (a : Ace) → grouped_with (groups ++ s ∷ []) a ≡ groups ++ behind s a
behind_last [] s a = refl
behind_last (t ∷ []) s a = refl
behind_last (t ∷ v ∷ groups) s a = ap (λ ss. t ∷ ss) (behind_last (v ∷ groups) s a)

-- ---- principals in order

-- what stands behind entries of two principals is not of the first one
passed : (e a b : Ace) → ComesBefore e a → ComesBefore a b → bytes_eq a.principal e.principal ≡ false → bytes_eq b.principal e.principal ≡ false
passed e a b h k other = by_test (bytes_eq b.principal e.principal)
    (λ t. absurd (by (slice_cmp nat_cmp e.principal a.principal) refl h
    (subst (λ p. ordering_then (slice_cmp nat_cmp a.principal p) (nat_cmp (rank a.level) (rank b.level)) ≡ Less) (bytes_true b.principal e.principal t) k)))
    (λ f. f)
  where
    less_greater : Greater ≡ Less → ⊥
    less_greater e = both_ways true (ap is_gt e) refl

    by : (o : Ordering) → slice_cmp nat_cmp e.principal a.principal ≡ o → ordering_then o (nat_cmp (rank e.level) (rank a.level)) ≡ Less
        → ordering_then (slice_cmp nat_cmp a.principal e.principal) (nat_cmp (rank a.level) (rank b.level)) ≡ Less → ⊥
    by Greater o h k = less_greater h
    by Less o h k = less_greater (sym (ap (λ c. ordering_then c (nat_cmp (rank a.level) (rank b.level))) (nat_list_cmp_total.antisymm a.principal e.principal ∙ ap ordering_reverse o)) ∙ k)
    by Equal o h k = both_ways (bytes_eq a.principal e.principal) other (bytes_same a.principal e.principal (sym (bytes_true e.principal a.principal (sym (is_eq-slice_cmp e.principal a.principal) ∙ ap is_eq o))))

-- ---- permissions of those who are named and those who are not

unnamed : (p : List ℕ) (aces : List Ace) → All (λ a. bytes_eq a.principal p ≡ false) aces → permissions_of aces p ≡ []
unnamed p [] h = refl
unnamed p (a ∷ aces) h = rw (All-head (λ a. bytes_eq a.principal p ≡ false) a aces h) (unnamed p aces (All-tail (λ a. bytes_eq a.principal p ≡ false) a aces h))

-- an entry of another principal changes nothing
one_less : (a : Ace) (p : List ℕ) (aces : List Ace) → bytes_eq a.principal p ≡ false → permissions_of (a ∷ aces) p ≡ permissions_of aces p
one_less a p aces e = rw e refl

others_shown : (a : Ace) (aces : List Ace) (ps : List (List ℕ)) → All (λ p. not (bytes_eq p a.principal) ≡ true) ps → map (shown_ace (a ∷ aces)) ps ≡ map (shown_ace aces) ps
others_shown a aces [] h = refl
others_shown a aces (p ∷ ps) h =
    let differs : bytes_eq a.principal p ≡ false = turned p (All-head (λ p. not (bytes_eq p a.principal) ≡ true) p ps h) in
    (λ i. record { principal = p; permissions = one_less a p aces differs i } ∷ others_shown a aces ps (All-tail (λ p. not (bytes_eq p a.principal) ≡ true) p ps h) i)
  where
    turned : (p : List ℕ) → not (bytes_eq p a.principal) ≡ true → bytes_eq a.principal p ≡ false
    turned p h = bytes_turned p a.principal (not-true (bytes_eq p a.principal) h)

-- ---- principals

abbrev is_not : List ℕ → List ℕ → Bool
is_not p q = not (bytes_eq q p)

kept : (p : List ℕ) (ps : List (List ℕ)) → All (λ q. is_not p q ≡ true) ps → filter (is_not p) ps ≡ ps
kept p [] h = refl
kept p (q ∷ ps) h = rw (All-head (λ q. is_not p q ≡ true) q ps h) (ap (λ qs. q ∷ qs) (kept p ps (All-tail (λ q. is_not p q ≡ true) q ps h)))

-- who is named by no entry is no principal
not_among : (p : List ℕ) (aces : List Ace) → All (λ a. bytes_eq a.principal p ≡ false) aces → All (λ q. is_not p q ≡ true) (principals aces)
not_among p [] h = All-nil (λ q. is_not p q ≡ true)
not_among p (a ∷ aces) h = All-cons (λ q. is_not p q ≡ true) a.principal (filter (is_not a.principal) (principals aces))
    (ap not (All-head (λ a. bytes_eq a.principal p ≡ false) a aces h))
    (All-filter (is_not a.principal) (λ q. is_not p q ≡ true) (principals aces) (not_among p aces (All-tail (λ a. bytes_eq a.principal p ≡ false) a aces h)))

-- ---- one entry after another

-- the groups of an entry, and of those behind it
first_shown : (a : Ace) (aces : List Ace)
    → record { principal = a.principal; permissions = permission_word a.level ∷ permissions_of aces a.principal } ∷ map (shown_ace aces) (filter (is_not a.principal) (principals aces)) ≡ shown_aces (a ∷ aces)
first_shown a aces =
    let own : permissions_of (a ∷ aces) a.principal ≡ permission_word a.level ∷ permissions_of aces a.principal = rw (bytes_same a.principal a.principal refl) refl in
    let others = others_shown a aces (filter (is_not a.principal) (principals aces)) (filter_passes (is_not a.principal) (principals aces)) in
    (λ i. record { principal = a.principal; permissions = sym own i } ∷ sym others i)

-- an entry of the same principal
more_of_one : (e a : Ace) (aces : List Ace) (groups : List ShownAce) (words : List (List ℕ)) → bytes_eq e.principal a.principal ≡ true
    → fold grouped_with (groups ++ record { principal = e.principal; permissions = words ++ permission_word a.level ∷ [] } ∷ []) aces
    ≡ groups ++ record { principal = e.principal; permissions = (words ++ permission_word a.level ∷ []) ++ permissions_of aces e.principal } ∷ map (shown_ace aces) (filter (is_not e.principal) (principals aces))
    → fold grouped_with (groups ++ behind (record { principal = e.principal; permissions = words }) a) aces
    ≡ groups ++ record { principal = e.principal; permissions = words ++ permissions_of (a ∷ aces) e.principal } ∷ map (shown_ace (a ∷ aces)) (filter (is_not e.principal) (principals (a ∷ aces)))
more_of_one e a aces groups words t ih =
    let s : ShownAce = record { principal = e.principal; permissions = words } in
    let w = permission_word a.level in
    let ps = principals aces in
    let fs = filter (is_not e.principal) ps in
    let at : a.principal ≡ e.principal = sym (bytes_true e.principal a.principal t) in
    let back : bytes_eq a.principal e.principal ≡ true = bytes_same a.principal e.principal at in
    let one_more : permissions_of (a ∷ aces) e.principal ≡ w ∷ permissions_of aces e.principal = rw back refl in
    let perms : (words ++ w ∷ []) ++ permissions_of aces e.principal ≡ words ++ permissions_of (a ∷ aces) e.principal =
    append_assoc words (w ∷ []) (permissions_of aces e.principal) ∙ ap (λ ps. words ++ ps) (sym one_more) in
    let once : filter (is_not e.principal) (principals (a ∷ aces)) ≡ fs = rw back (ap (λ p. filter (is_not e.principal) (filter (is_not p) ps)) at ∙ kept e.principal fs (filter_passes (is_not e.principal) ps)) in
    let tail : map (shown_ace aces) fs ≡ map (shown_ace (a ∷ aces)) (filter (is_not e.principal) (principals (a ∷ aces))) =
    sym (others_shown a aces fs (subst (λ p. All (λ q. is_not p q ≡ true) fs) (sym at) (filter_passes (is_not e.principal) ps))) ∙ ap (map (shown_ace (a ∷ aces))) (sym once) in
    ap (λ b. fold grouped_with (groups ++ (if b then longer s a ∷ [] else s ∷ alone a ∷ [])) aces) t
    ∙ (ih ∙ (λ i. groups ++ record { principal = e.principal; permissions = perms i } ∷ tail i))

-- an entry of another one
next_one : (e a : Ace) (aces : List Ace) (groups : List ShownAce) (words : List (List ℕ)) → Apart ComesBefore (e ∷ a ∷ aces) → bytes_eq e.principal a.principal ≡ false
    → fold grouped_with ((groups ++ record { principal = e.principal; permissions = words } ∷ []) ++ record { principal = a.principal; permissions = permission_word a.level ∷ [] } ∷ []) aces
    ≡ (groups ++ record { principal = e.principal; permissions = words } ∷ []) ++ record { principal = a.principal; permissions = permission_word a.level ∷ permissions_of aces a.principal } ∷ map (shown_ace aces) (filter (is_not a.principal) (principals aces))
    → fold grouped_with (groups ++ behind (record { principal = e.principal; permissions = words }) a) aces
    ≡ groups ++ record { principal = e.principal; permissions = words ++ permissions_of (a ∷ aces) e.principal } ∷ map (shown_ace (a ∷ aces)) (filter (is_not e.principal) (principals (a ∷ aces)))
next_one e a aces groups words h t ih =
    let s : ShownAce = record { principal = e.principal; permissions = words } in
    let differs : bytes_eq a.principal e.principal ≡ false = bytes_turned e.principal a.principal t in
    let none : All (λ b. bytes_eq b.principal e.principal ≡ false) (a ∷ aces) = All-cons (λ b. bytes_eq b.principal e.principal ≡ false) a aces differs
    (All-weaker (ComesBefore a) (λ b. bytes_eq b.principal e.principal ≡ false) (λ b k. passed e a b (All-head (ComesBefore e) a aces h.0) k differs) aces h.1.0) in
    let perms : words ++ permissions_of (a ∷ aces) e.principal ≡ words = ap (λ ws. words ++ ws) (unnamed e.principal (a ∷ aces) none) ∙ append-nil words in
    let all : filter (is_not e.principal) (principals (a ∷ aces)) ≡ principals (a ∷ aces) = kept e.principal (principals (a ∷ aces)) (not_among e.principal (a ∷ aces) none) in
    let tail = first_shown a aces ∙ ap (map (shown_ace (a ∷ aces))) (sym all) in
    ap (λ b. fold grouped_with (groups ++ (if b then longer s a ∷ [] else s ∷ alone a ∷ [])) aces) t
    ∙ (ap (λ gs. fold grouped_with gs aces) (sym (append_assoc groups (s ∷ []) (alone a ∷ [])))
    ∙ (ih
    ∙ (append_assoc groups (s ∷ []) (record { principal = a.principal; permissions = permission_word a.level ∷ permissions_of aces a.principal } ∷ map (shown_ace aces) (filter (is_not a.principal) (principals aces)))
    ∙ (λ i. groups ++ record { principal = e.principal; permissions = sym perms i } ∷ tail i))))

-- the groups up to an entry's, and then entries that stand behind it in order
rest_grouped : (aces : List Ace) (e : Ace) (groups : List ShownAce) (words : List (List ℕ)) → Apart ComesBefore (e ∷ aces)
    → fold grouped_with (groups ++ record { principal = e.principal; permissions = words } ∷ []) aces
    ≡ groups ++ record { principal = e.principal; permissions = words ++ permissions_of aces e.principal } ∷ map (shown_ace aces) (filter (is_not e.principal) (principals aces))
rest_grouped [] e groups words h = ap (λ ws. groups ++ record { principal = e.principal; permissions = ws } ∷ []) (sym (append-nil words))
rest_grouped (a ∷ aces) e groups words h = ap (λ gs. fold grouped_with gs aces) (behind_last groups (record { principal = e.principal; permissions = words }) a)
    ∙ by_test (bytes_eq e.principal a.principal)
    (λ t. more_of_one e a aces groups words t (rest_grouped aces e groups (words ++ permission_word a.level ∷ []) (All-tail (ComesBefore e) a aces h.0, h.1.1)))
    (λ t. next_one e a aces groups words h t (rest_grouped aces a (groups ++ record { principal = e.principal; permissions = words } ∷ []) (permission_word a.level ∷ []) h.1))

pub grouped : (aces : List Ace) → Apart ComesBefore aces → fold grouped_with [] aces ≡ shown_aces aces
grouped [] h = refl
grouped (a ∷ aces) h = rest_grouped aces a [] (permission_word a.level ∷ []) h ∙ first_shown a aces
