-- A list of entries stays in its order through the removals and additions of a request.
use Rattle.std.specs.Prelude.{◌≡◌, ℕ, Bool, true, false, not, List, [], ◌∷◌, filter, fold, All}
use Rattle.std.specs.List.{list_any}
use Rattle.std.proofs.Common.{refl, ◌∙◌}
use Rattle.std.proofs.lemmas.Bool.{both_ways}
use Rattle.std.proofs.lemmas.List.Elements.{All-nil, All-cons, All-weaker}
use Rattle.core.specs.declared.cmp.Ordering.{Ordering}
use Rattle.core.specs.declared.cmp.Ordering.TheVariants.{Less, Equal, Greater}
use Rattle.core.specs.Ordering.{is_lt, is_gt, ordering_reverse}
use Rattle.core.specs.Cmp.{IsTotalOrder, then_total, on_total, nat_cmp_total}
use Rattle.core.specs.Cmp.Lexicographic.{on_texts}
use Rattle.cm_base.specs.declared.access.Ace.{Ace}
use Rattle.cm_base.specs.declared.access.Level.TheVariants as levels
use Rattle.call_parts.specs.declared.writes.AceRequest.{AceRequest}
use Rattle.cm_acl.specs.Acl.{ace_order, same_ace, with_ace, without_aces, changed_aces}
use Rattle.cmis_spec.specs.Access.{rank}
use Rattle.cmis_spec.specs.Well.{Apart, ComesBefore}
use Rattle.cmis_laws.proofs.Left.{all_kept, apart_append, apart_filter}
use Rattle.wr_rules.specs.Rules.{aces_in, new_aces}

order_total : IsTotalOrder ace_order
order_total = then_total (on_texts (λ (a : Ace). a.principal)) (on_total (λ (a : Ace). rank a.level) nat_cmp_total)

less_of : (o : Ordering) → is_lt o ≡ true → o ≡ Less
less_of Less h = refl
less_of Equal h = absurd (both_ways false refl h)
less_of Greater h = absurd (both_ways false refl h)

turned_of : (o : Ordering) → is_gt o ≡ true → ordering_reverse o ≡ Less
turned_of Less h = absurd (both_ways false refl h)
turned_of Equal h = absurd (both_ways false refl h)
turned_of Greater h = refl

every : {A : Type 0} (P : A → Type 0) → ((x : A) → P x) → (xs : List A) → All P xs
every P f [] = All-nil P
every P f (x ∷ xs) = All-cons P x xs (f x) (every P f xs)

-- one entry more, at its place
with_ordered : (aces : List Ace) (a : Ace) → Apart ComesBefore aces → Apart ComesBefore (with_ace aces a)
with_ordered aces a h = apart_append ComesBefore (filter low aces) (a ∷ filter high aces) (apart_filter ComesBefore low aces h) (above, apart_filter ComesBefore high aces h) below
  where
    low : Ace → Bool
    low b = is_lt (ace_order b a)

    high : Ace → Bool
    high b = is_gt (ace_order b a)

    above : All (ComesBefore a) (filter high aces)
    above = all_kept high (ComesBefore a) aces (every (λ b. high b ≡ true → ComesBefore a b) (λ b e. order_total.antisymm a b ∙ turned_of (ace_order b a) e) aces)

    before : (b : Ace) → low b ≡ true → All (ComesBefore b) (a ∷ filter high aces)
    before b e =
        let first : ComesBefore b a = less_of (ace_order b a) e in
        All-cons (ComesBefore b) a (filter high aces) first (All-weaker (ComesBefore a) (ComesBefore b) (λ c k. order_total.trans b a c first k) (filter high aces) above)

    below : All (λ b. All (ComesBefore b) (a ∷ filter high aces)) (filter low aces)
    below = all_kept low (λ b. All (ComesBefore b) (a ∷ filter high aces)) aces (every (λ b. low b ≡ true → All (ComesBefore b) (a ∷ filter high aces)) before aces)

added_ordered : (aces add : List Ace) → Apart ComesBefore aces → Apart ComesBefore (fold with_ace aces add)
added_ordered aces [] h = h
added_ordered aces (a ∷ add) h = added_ordered (with_ace aces a) add (with_ordered aces a h)

pub changed_ordered : (aces remove add : List Ace) → Apart ComesBefore aces → Apart ComesBefore (changed_aces aces remove add)
changed_ordered aces remove add h = added_ordered (without_aces remove aces) add (apart_filter ComesBefore (λ a. not (list_any (same_ace a) remove)) aces h)

-- the list of a new object
pub new_ordered : (maker : List ℕ) (remove add : List AceRequest) → Apart ComesBefore (new_aces maker remove add)
new_ordered maker remove add =
    let own : Ace = record { principal = maker; level = levels.All } in
    changed_ordered (own ∷ []) (aces_in remove) (aces_in add) (All-nil (ComesBefore own), tt)
