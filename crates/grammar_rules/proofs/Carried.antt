-- What is carried from the tokens of a text to its tree: a property that each token has, and a part of the tokens that the rule doesn't look at.
use Rattle.std.proofs.Common.{◌≡◌, ℕ, zero, suc, Bool, List, [], ◌∷◌, ◌++◌, map, Option, Some, None, inl, inr, refl, sym, ◌∙◌, ap, subst}
use Rattle.std.proofs.lemmas.List.{map-append}
use Rattle.std.specs.Prelude.{option_map}
use Rattle.grammar_rules.specs.Rules.{Rule, Both, More, one, both, chain, perhaps, either, mapped, stands}

-- Each token has the property.
abbrev pub Each : {T : Type 0} → (T → Type 0) → List T → Type 0
Each P [] = Unit {0}
Each P (t ∷ ts) = P t × Each P ts

pub each_front : {T : Type 0} (P : T → Type 0) (us vs : List T) → Each P (us ++ vs) → Each P us
each_front P [] vs h = tt
each_front P (t ∷ us) vs h = (h.0, each_front P us vs h.1)

pub each_rest : {T : Type 0} (P : T → Type 0) (us vs : List T) → Each P (us ++ vs) → Each P vs
each_rest P [] vs h = h
each_rest P (t ∷ us) vs h = each_rest P us vs h.1

pub each_append : {T : Type 0} (P : T → Type 0) (us vs : List T) → Each P us → Each P vs → Each P (us ++ vs)
each_append P [] vs h k = k
each_append P (t ∷ us) vs h k = (h.0, each_append P us vs h.1 k)

-- Where each token has P, the tree has Q.
pub record Carries {T A : Type 0} (P : T → Type 0) (r : Rule T A) (Q : A → Type 0) : Type 0 where
  pub carries : (ts : List T) (x : A) → r.is ts x → Each P ts → Q x

module _ {T : Type 0} (P : T → Type 0) where
  pub one_carries : {A : Type 0} (test : T → Option A) (Q : A → Type 0) → ((t : T) (x : A) → test t ≡ Some x → P t → Q x) → Carries P (one test) Q
  one_carries test Q h = record { carries = λ ts x w each. h w.token x w.value (subst (Each P) w.text each).0 }

  pub mapped_carries : {A B : Type 0} (a : Rule T A) (f : A → B) (QA : A → Type 0) (QB : B → Type 0) → Carries P a QA → ((x : A) → QA x → QB (f x)) → Carries P (mapped a f) QB
  mapped_carries a f QA QB p h = record { carries = λ ts x w each. subst QB (sym w.value) (h w.x (p.carries ts w.x w.inside each)) }

  pub stands_carries : {A : Type 0} (a : Rule T A) (test : T → Bool) (Q : A → Type 0) → Carries P a Q → Carries P (stands a test) Q
  stands_carries a test Q p = record { carries = p.carries }

  pub either_carries : {A : Type 0} (a b : Rule T A) (Q : A → Type 0) → Carries P a Q → Carries P b Q → Carries P (either a b) Q
  either_carries a b Q p q = record { carries = λ ts x w each. elim w [ inl h ↦ p.carries ts x h each | inr h ↦ q.carries ts x h each ] }

  module _ {A B C : Type 0} (a : Rule T A) (b : Rule T B) (f : A → B → C) (QA : A → Type 0) (QB : B → Type 0) (QC : C → Type 0)
      (p : Carries P a QA) (q : Carries P b QB) (h : (x : A) (y : B) → QA x → QB y → QC (f x y)) where
    pub both_carries : Carries P (both a b f) QC
    both_carries = record {
      carries = λ ts z w each.
          let parts : Each P (w.us ++ w.vs) = subst (Each P) w.text each in
          subst QC (sym w.value) (h w.x w.y (p.carries w.us w.x w.left (each_front P w.us w.vs parts)) (q.carries w.vs w.y w.right (each_rest P w.us w.vs parts)));
    }

  module _ {A B : Type 0} (a : Rule T A) (b : Rule T B) (f : A → B → A) (QA : A → Type 0) (QB : B → Type 0)
      (p : Carries P a QA) (q : Carries P b QB) (h : (x : A) (y : B) → QA x → QB y → QA (f x y)) where
    pub perhaps_carries : Carries P (perhaps a b f) QA
    perhaps_carries = record { carries = λ ts z w each. elim w [ inl k ↦ p.carries ts z k each | inr k ↦ (both_carries a b f QA QB QA p q h).carries ts z k each ] }

    more_carries : (n : ℕ) (x z : A) (ts : List T) → More b.is f n x ts z → QA x → Each P ts → QA z
    more_carries zero x z ts w k each = subst QA (sym w.1) k
    more_carries (suc n) x z ts (us, vs, y, part, more, e) k each =
        let parts : Each P (us ++ vs) = subst (Each P) e each in
        more_carries n (f x y) z vs more (h x y k (q.carries us y part (each_front P us vs parts))) (each_rest P us vs parts)

    pub chain_carries : Carries P (chain a b f) QA
    chain_carries = record {
      carries = λ ts z w each.
          let parts : Each P (w.us ++ w.vs) = subst (Each P) w.text each in
          more_carries w.count w.x z w.vs w.more (p.carries w.us w.x w.left (each_front P w.us w.vs parts)) (each_rest P w.us w.vs parts);
    }

-- a split of the tokens without their part is a split of the tokens
pub map_splits : {T U : Type 0} (k : T → U) (ts : List T) (us vs : List U) → map k ts ≡ us ++ vs → (ts1 : List T) × (ts2 : List T) × (ts ≡ ts1 ++ ts2) × (map k ts1 ≡ us) × (map k ts2 ≡ vs)
map_splits k ts [] vs e = ([], ts, refl, refl, e)
map_splits k [] (u ∷ us) vs e = absurd cc
map_splits k (t ∷ ts) (u ∷ us) vs e =
    let rest : (ts1 : List _) × (ts2 : List _) × (ts ≡ ts1 ++ ts2) × (map k ts1 ≡ us) × (map k ts2 ≡ vs) = map_splits k ts us vs cc in
    let head : k t ≡ u = cc in
    (t ∷ rest.0, rest.1, ap (λ s. t ∷ s) rest.2, ap (λ s. k t ∷ s) rest.3 ∙ ap (λ s. s ∷ us) head, rest.4)

-- The rule spells by changed tokens just the changed trees of what it spells.
pub record Follows {T A : Type 0} (k : T → T) (r : Rule T A) (s : A → A) : Type 0 where
  pub down : (ts : List T) (x : A) → r.is ts x → r.is (map k ts) (s x)
  pub up : (ts : List T) (z : A) → r.is (map k ts) z → (x : A) × r.is ts x × (s x ≡ z)

module _ {T : Type 0} (k : T → T) where
  pub one_follows : {A : Type 0} (test : T → Option A) (s : A → A) → ((t : T) → test (k t) ≡ option_map s (test t)) → Follows k (one test) s
  one_follows test s h = record {
    down = λ ts x w. record { token = k w.token; text = ap (map k) w.text; value = h w.token ∙ ap (option_map s) w.value };
    up = λ ts z w. above ts z w.token w.text w.value;
  }
    where
      some_of : (o : Option _) (z : _) → option_map s o ≡ Some z → (x : _) × (o ≡ Some x) × (s x ≡ z)
      some_of None z e = absurd cc
      some_of (Some x) z e = (x, refl, cc)

      above : (ts : List T) (z : _) (u : T) → map k ts ≡ u ∷ [] → test u ≡ Some z → (x : _) × (one test).is ts x × (s x ≡ z)
      above [] z u e v = absurd cc
      above (t ∷ []) z u e v =
          let head : k t ≡ u = cc in
          let found : (x : _) × (test t ≡ Some x) × (s x ≡ z) = some_of (test t) z (sym (h t) ∙ ap test head ∙ v) in
          (found.0, record { token = t; text = refl; value = found.1 }, found.2)
      above (t ∷ t' ∷ ts) z u e v = absurd cc

  pub mapped_follows : {A B : Type 0} (a : Rule T A) (f : A → B) (sa : A → A) (sb : B → B) → Follows k a sa → ((x : A) → sb (f x) ≡ f (sa x)) → Follows k (mapped a f) sb
  mapped_follows a f sa sb p h = record {
    down = λ ts x w. record { x = sa w.x; inside = p.down ts w.x w.inside; value = ap sb w.value ∙ h w.x };
    up = λ ts z w.
        let below : (x : _) × a.is ts x × (sa x ≡ w.x) = p.up ts w.x w.inside in
        (f below.0, record { x = below.0; inside = below.1; value = refl }, h below.0 ∙ ap f below.2 ∙ sym w.value);
  }

  pub stands_follows : {A : Type 0} (a : Rule T A) (test : T → Bool) (s : A → A) → Follows k a s → Follows k (stands a test) s
  stands_follows a test s p = record { down = p.down; up = p.up }

  pub either_follows : {A : Type 0} (a b : Rule T A) (s : A → A) → Follows k a s → Follows k b s → Follows k (either a b) s
  either_follows a b s p q = record {
    down = λ ts x w. elim w [ inl h ↦ inl (p.down ts x h) | inr h ↦ inr (q.down ts x h) ];
    up = λ ts z w. elim w [
      | inl h ↦ let below : (x : _) × a.is ts x × (s x ≡ z) = p.up ts z h in (below.0, inl below.1, below.2)
      | inr h ↦ let below : (x : _) × b.is ts x × (s x ≡ z) = q.up ts z h in (below.0, inr below.1, below.2)
    ];
  }

  module _ {A B C : Type 0} (a : Rule T A) (b : Rule T B) (f : A → B → C) (sa : A → A) (sb : B → B) (sc : C → C)
      (p : Follows k a sa) (q : Follows k b sb) (h : (x : A) (y : B) → sc (f x y) ≡ f (sa x) (sb y)) where
    pub both_follows : Follows k (both a b f) sc
    both_follows = record {
      down = λ ts z w. record {
        us = map k w.us;
        vs = map k w.vs;
        x = sa w.x;
        y = sb w.y;
        left = p.down w.us w.x w.left;
        right = q.down w.vs w.y w.right;
        text = ap (map k) w.text ∙ map-append k w.us w.vs;
        value = ap sc w.value ∙ h w.x w.y;
      };
      up = λ ts z w.
          let parts : (ts1 : List T) × (ts2 : List T) × (ts ≡ ts1 ++ ts2) × (map k ts1 ≡ w.us) × (map k ts2 ≡ w.vs) = map_splits k ts w.us w.vs w.text in
          let x : (x : _) × a.is parts.0 x × (sa x ≡ w.x) = p.up parts.0 w.x (subst (λ s. a.is s w.x) (sym parts.3) w.left) in
          let y : (y : _) × b.is parts.1 y × (sb y ≡ w.y) = q.up parts.1 w.y (subst (λ s. b.is s w.y) (sym parts.4) w.right) in (
            f x.0 y.0,
            record { us = parts.0; vs = parts.1; x = x.0; y = y.0; left = x.1; right = y.1; text = parts.2; value = refl },
            h x.0 y.0 ∙ ap (λ u. f u (sb y.0)) x.2 ∙ ap (f w.x) y.2 ∙ sym w.value,
          );
    }

  module _ {A B : Type 0} (a : Rule T A) (b : Rule T B) (f : A → B → A) (sa : A → A) (sb : B → B)
      (p : Follows k a sa) (q : Follows k b sb) (h : (x : A) (y : B) → sa (f x y) ≡ f (sa x) (sb y)) where
    pub perhaps_follows : Follows k (perhaps a b f) sa
    perhaps_follows =
        let both_parts : Follows k (both a b f) sa = both_follows a b f sa sb sa p q h in record {
          down = λ ts x w. elim w [ inl g ↦ inl (p.down ts x g) | inr g ↦ inr (both_parts.down ts x g) ];
          up = λ ts z w. elim w [
            | inl g ↦ let below : (x : _) × a.is ts x × (sa x ≡ z) = p.up ts z g in (below.0, inl below.1, below.2)
            | inr g ↦ let below : (x : _) × Both a.is b.is f ts x × (sa x ≡ z) = both_parts.up ts z g in (below.0, inr below.1, below.2)
          ];
        }

    more_down : (n : ℕ) (x z : A) (ts : List T) → More b.is f n x ts z → More b.is f n (sa x) (map k ts) (sa z)
    more_down zero x z ts w = (ap (map k) w.0, ap sa w.1)
    more_down (suc n) x z ts (us, vs, y, part, more, e) =
        (map k us, map k vs, sb y, q.down us y part, subst (λ u. More b.is f n u (map k vs) (sa z)) (h x y) (more_down n (f x y) z vs more), ap (map k) e ∙ map-append k us vs)

    more_up : (n : ℕ) (x z : A) (ts : List T) → More b.is f n (sa x) (map k ts) z → (y : A) × More b.is f n x ts y × (sa y ≡ z)
    more_up zero x z [] w = (x, (refl, refl), sym w.1)
    more_up zero x z (t ∷ ts) w = absurd (let e : k t ∷ map k ts ≡ [] = w.0 in cc)
    more_up (suc n) x z ts (us, vs, y, part, more, e) =
        let parts : (ts1 : List T) × (ts2 : List T) × (ts ≡ ts1 ++ ts2) × (map k ts1 ≡ us) × (map k ts2 ≡ vs) = map_splits k ts us vs e in
        let y' : (u : _) × b.is parts.0 u × (sb u ≡ y) = q.up parts.0 y (subst (λ s. b.is s y) (sym parts.3) part) in
        let same : f (sa x) y ≡ sa (f x y'.0) = ap (f (sa x)) (sym y'.2) ∙ sym (h x y'.0) in
        let more' : More b.is f n (sa (f x y'.0)) (map k parts.1) z = subst (λ u. More b.is f n u (map k parts.1) z) same (subst (λ s. More b.is f n (f (sa x) y) s z) (sym parts.4) more) in
        let above : (u : A) × More b.is f n (f x y'.0) parts.1 u × (sa u ≡ z) = more_up n (f x y'.0) z parts.1 more' in
        (above.0, (parts.0, parts.1, y'.0, y'.1, above.1, parts.2), above.2)

    pub chain_follows : Follows k (chain a b f) sa
    chain_follows = record {
      down = λ ts z w. record {
        us = map k w.us;
        vs = map k w.vs;
        x = sa w.x;
        count = w.count;
        left = p.down w.us w.x w.left;
        more = more_down w.count w.x z w.vs w.more;
        text = ap (map k) w.text ∙ map-append k w.us w.vs;
      };
      up = λ ts z w.
          let parts : (ts1 : List T) × (ts2 : List T) × (ts ≡ ts1 ++ ts2) × (map k ts1 ≡ w.us) × (map k ts2 ≡ w.vs) = map_splits k ts w.us w.vs w.text in
          let x : (x : _) × a.is parts.0 x × (sa x ≡ w.x) = p.up parts.0 w.x (subst (λ s. a.is s w.x) (sym parts.3) w.left) in
          let more : More b.is f w.count (sa x.0) (map k parts.1) z = subst (λ u. More b.is f w.count u (map k parts.1) z) (sym x.2) (subst (λ s. More b.is f w.count w.x s z) (sym parts.4) w.more) in
          let above : (u : A) × More b.is f w.count x.0 parts.1 u × (sa u ≡ z) = more_up w.count x.0 z parts.1 more in
          (above.0, record { us = parts.0; vs = parts.1; x = x.0; count = w.count; left = x.1; more = above.1; text = parts.2 }, above.2);
    }
