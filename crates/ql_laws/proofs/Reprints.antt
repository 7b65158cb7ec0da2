-- What a rule spells is spelled again by the tokens of its printed form, with the same tree but for what is forgiven. Each token of a text is sound, and each of
-- the printed form can be written where each token of the text can.
use Rattle.std.proofs.Common.{◌≡◌, ℕ, zero, suc, Bool, List, [], ◌∷◌, ◌++◌, map, Option, Some, inl, inr, refl, sym, ◌∙◌, ap, subst}
use Rattle.std.proofs.lemmas.List.{append-nil, append_assoc}
use Rattle.grammar_rules.specs.Rules.{Rule, Both, More, Chain, one, both, chain, perhaps, either, mapped, stands}
use Rattle.grammar_rules.proofs.Carried.{Each, each_front, each_rest, each_append, map_splits}

module _ {T K : Type 0} (kind : T → K) (S W : K → Type 0) where
  -- each token of these kinds spells the tree by the rule, but for what E forgives
  pub record Printed {A : Type 0} (r : Rule T A) (ks : List K) (E : A → A → Type 0) (x : A) : Type 0 where
    pub writable : Each W ks
    pub again : (us : List T) → map kind us ≡ ks → (y : A) × r.is us y × E y x

  -- each token of a text can be written
  abbrev pub Written : List T → Type 0
  Written = Each (λ t. W (kind t))

  -- each token of a text is sound
  abbrev pub Sound : List T → Type 0
  Sound = Each (λ t. S (kind t))

  -- the tokens are sound, and where they can be written the printed form spells the tree by the target
  abbrev pub Reprint : {A : Type 0} → Rule T A → List K → (A → A → Type 0) → List T → A → Type 0
  Reprint target ks E ts x = Sound ts × (Written ts → Printed target ks E x)

  -- what the rule spells is spelled by the target from the printed form
  abbrev pub Prints : {A : Type 0} → Rule T A → Rule T A → (A → List K) → (A → A → Type 0) → Type 0
  Prints {A} r target p E = (ts : List T) (x : A) → r.is ts x → Reprint target (p x) E ts x

  pub sound_append : (ts us vs : List T) → ts ≡ us ++ vs → Sound us → Sound vs → Sound ts
  sound_append ts us vs e h k = subst Sound (sym e) (each_append (λ t. S (kind t)) us vs h k)

  pub written_front : (ts us vs : List T) → ts ≡ us ++ vs → Written ts → Written us
  written_front ts us vs e h = each_front (λ t. W (kind t)) us vs (subst Written e h)

  pub written_rest : (ts us vs : List T) → ts ≡ us ++ vs → Written ts → Written vs
  written_rest ts us vs e h = each_rest (λ t. W (kind t)) us vs (subst Written e h)

  pub printed_as : {A : Type 0} (r : Rule T A) (ks ls : List K) (E : A → A → Type 0) (x : A) → ls ≡ ks → Printed r ks E x → Printed r ls E x
  printed_as r ks ls E x e p = subst (λ s. Printed r s E x) (sym e) p

  -- one token
  single : (k : K) (us : List T) → map kind us ≡ k ∷ [] → (u : T) × (us ≡ u ∷ []) × (kind u ≡ k)
  single k [] e = absurd cc
  single k (u ∷ []) e = (u, refl, cc)
  single k (u ∷ v ∷ us) e = absurd cc

  pub printed_one : {A : Type 0} (test : T → Option A) (k : K) (E : A → A → Type 0) (x : A) → W k → ((u : T) → kind u ≡ k → (y : A) × (test u ≡ Some y) × E y x) → Printed (one test) (k ∷ []) E x
  printed_one test k E x w h = record {
    writable = (w, tt);
    again = λ us e.
        let found : (u : T) × (us ≡ u ∷ []) × (kind u ≡ k) = single k us e in
        let value : (y : _) × (test found.0 ≡ Some y) × E y x = h found.0 found.2 in
        (value.0, record { token = found.0; text = found.1; value = value.1 }, value.2);
  }

  pub printed_mapped : {A B : Type 0} (a : Rule T A) (f : A → B) (ks : List K) (EA : A → A → Type 0) (EB : B → B → Type 0) (x : A)
      → ((y : A) → EA y x → EB (f y) (f x)) → Printed a ks EA x → Printed (mapped a f) ks EB (f x)
  printed_mapped a f ks EA EB x h p = record {
    writable = p.writable;
    again = λ us e. let below : (y : _) × a.is us y × EA y x = p.again us e in (f below.0, record { x = below.0; inside = below.1; value = refl }, h below.0 below.2);
  }

  pub printed_both : {A B C : Type 0} (a : Rule T A) (b : Rule T B) (f : A → B → C) (ks ls : List K) (EA : A → A → Type 0) (EB : B → B → Type 0) (EC : C → C → Type 0) (x : A) (y : B)
      → ((u : A) (v : B) → EA u x → EB v y → EC (f u v) (f x y)) → Printed a ks EA x → Printed b ls EB y → Printed (both a b f) (ks ++ ls) EC (f x y)
  printed_both a b f ks ls EA EB EC x y h p q = record {
    writable = each_append W ks ls p.writable q.writable;
    again = λ us e.
        let parts : (us1 : List T) × (us2 : List T) × (us ≡ us1 ++ us2) × (map kind us1 ≡ ks) × (map kind us2 ≡ ls) = map_splits kind us ks ls e in
        let left : (u : _) × a.is parts.0 u × EA u x = p.again parts.0 parts.3 in
        let right : (v : _) × b.is parts.1 v × EB v y = q.again parts.1 parts.4 in (
          f left.0 right.0,
          record { us = parts.0; vs = parts.1; x = left.0; y = right.0; left = left.1; right = right.1; text = parts.2; value = refl },
          h left.0 right.0 left.2 right.2,
        );
  }

  pub printed_none : {A B : Type 0} (a : Rule T A) (b : Rule T B) (f : A → B → A) (ks : List K) (E : A → A → Type 0) (x : A) → Printed a ks E x → Printed (perhaps a b f) ks E x
  printed_none a b f ks E x p = record { writable = p.writable; again = λ us e. let below : (y : _) × a.is us y × E y x = p.again us e in (below.0, inl below.1, below.2) }

  pub printed_some : {A B : Type 0} (a : Rule T A) (b : Rule T B) (f : A → B → A) (ks : List K) (E : A → A → Type 0) (x : A) → Printed (both a b f) ks E x → Printed (perhaps a b f) ks E x
  printed_some a b f ks E x p = record { writable = p.writable; again = λ us e. let below : (y : _) × Both a.is b.is f us y × E y x = p.again us e in (below.0, inr below.1, below.2) }

  pub printed_left : {A : Type 0} (a b : Rule T A) (ks : List K) (E : A → A → Type 0) (x : A) → Printed a ks E x → Printed (either a b) ks E x
  printed_left a b ks E x p = record { writable = p.writable; again = λ us e. let below : (y : _) × a.is us y × E y x = p.again us e in (below.0, inl below.1, below.2) }

  pub printed_right : {A : Type 0} (a b : Rule T A) (ks : List K) (E : A → A → Type 0) (x : A) → Printed b ks E x → Printed (either a b) ks E x
  printed_right a b ks E x p = record { writable = p.writable; again = λ us e. let below : (y : _) × b.is us y × E y x = p.again us e in (below.0, inr below.1, below.2) }

  -- any rule whose texts are texts of another
  pub printed_wider : {A : Type 0} (a b : Rule T A) (ks : List K) (E : A → A → Type 0) (x : A) → ((us : List T) (y : A) → a.is us y → b.is us y) → Printed a ks E x → Printed b ks E x
  printed_wider a b ks E x h p = record { writable = p.writable; again = λ us e. let below : (y : _) × a.is us y × E y x = p.again us e in (below.0, h us below.0 below.1, below.2) }

  -- the laws for what is spelled
  pub mapped_prints : {A B : Type 0} (a : Rule T A) (f : A → B) (pa : A → List K) (pb : B → List K) (EA : A → A → Type 0) (EB : B → B → Type 0)
      → ((x : A) → pb (f x) ≡ pa x) → ((x y : A) → EA y x → EB (f y) (f x)) → Prints a a pa EA → Prints (mapped a f) (mapped a f) pb EB
  mapped_prints a f pa pb EA EB same h p ts z w = (
    (p ts w.x w.inside).0,
    λ each. subst (λ v. Printed (mapped a f) (pb v) EB v) (sym w.value)
        (printed_as (mapped a f) (pa w.x) (pb (f w.x)) EB (f w.x) (same w.x) (printed_mapped a f (pa w.x) EA EB w.x (λ y k. h w.x y k) ((p ts w.x w.inside).1 each))),
  )

  pub both_prints : {A B C : Type 0} (a : Rule T A) (b : Rule T B) (f : A → B → C) (pa : A → List K) (pb : B → List K) (pc : C → List K)
      (EA : A → A → Type 0) (EB : B → B → Type 0) (EC : C → C → Type 0)
      → ((x : A) (y : B) → pc (f x y) ≡ pa x ++ pb y) → ((x : A) (y : B) (u : A) (v : B) → EA u x → EB v y → EC (f u v) (f x y))
      → Prints a a pa EA → Prints b b pb EB → Prints (both a b f) (both a b f) pc EC
  both_prints a b f pa pb pc EA EB EC same h p q ts z w = (
    sound_append ts w.us w.vs w.text (p w.us w.x w.left).0 (q w.vs w.y w.right).0,
    λ each. subst (λ v. Printed (both a b f) (pc v) EC v) (sym w.value)
        (printed_as (both a b f) (pa w.x ++ pb w.y) (pc (f w.x w.y)) EC (f w.x w.y) (same w.x w.y)
        (printed_both a b f (pa w.x) (pb w.y) EA EB EC w.x w.y (λ u v. h w.x w.y u v) ((p w.us w.x w.left).1 (written_front ts w.us w.vs w.text each)) ((q w.vs w.y w.right).1 (written_rest ts w.us w.vs w.text each)))),
  )

  pub either_prints : {A : Type 0} (a b target : Rule T A) (p : A → List K) (E : A → A → Type 0) → Prints a target p E → Prints b target p E → Prints (either a b) target p E
  either_prints a b target p E f g ts x w = elim w [ inl h ↦ f ts x h | inr h ↦ g ts x h ]

  pub choice_prints : {A : Type 0} (a b : Rule T A) (p : A → List K) (E : A → A → Type 0) → Prints a a p E → Prints b b p E → Prints (either a b) (either a b) p E
  choice_prints a b p E f g ts x w = elim w [
    | inl h ↦ ((f ts x h).0, λ each. printed_left a b (p x) E x ((f ts x h).1 each))
    | inr h ↦ ((g ts x h).0, λ each. printed_right a b (p x) E x ((g ts x h).1 each))
  ]

  pub stands_prints : {A : Type 0} (a : Rule T A) (test : T → Bool) (p : A → List K) (E : A → A → Type 0) → Prints a a p E → Prints (stands a test) (stands a test) p E
  stands_prints a test p E f ts x w = ((f ts x w).0, λ each. printed_wider a (stands a test) (p x) E x (λ us y h. h) ((f ts x w).1 each))

  -- N is what is known of the trees of the first part
  module _ {A B : Type 0} (a : Rule T A) (b : Rule T B) (f : A → B → A) (pa : A → List K) (pb : B → List K) (EA : A → A → Type 0) (EB : B → B → Type 0) (N : A → Type 0)
      (begin : (ts : List T) (x : A) → a.is ts x → N x)
      (same : (x : A) (y : B) → N x → pa (f x y) ≡ pa x ++ pb y)
      (h : (x : A) (y : B) (u : A) (v : B) → EA u x → EB v y → EA (f u v) (f x y))
      (p : Prints a a pa EA) (q : Prints b b pb EB) where
    perhaps_more : (ts : List T) (z : A) → Both a.is b.is f ts z → Reprint (perhaps a b f) (pa z) EA ts z
    perhaps_more ts z w = (
      sound_append ts w.us w.vs w.text (p w.us w.x w.left).0 (q w.vs w.y w.right).0,
      λ each. subst (λ v. Printed (perhaps a b f) (pa v) EA v) (sym w.value)
          (printed_some a b f (pa (f w.x w.y)) EA (f w.x w.y)
          (printed_as (both a b f) (pa w.x ++ pb w.y) (pa (f w.x w.y)) EA (f w.x w.y) (same w.x w.y (begin w.us w.x w.left))
          (printed_both a b f (pa w.x) (pb w.y) EA EB EA w.x w.y (λ u v. h w.x w.y u v) ((p w.us w.x w.left).1 (written_front ts w.us w.vs w.text each)) ((q w.vs w.y w.right).1 (written_rest ts w.us w.vs w.text each))))),
    )

    pub perhaps_prints : Prints (perhaps a b f) (perhaps a b f) pa EA
    perhaps_prints ts z w = elim w [
      | inl g ↦ ((p ts z g).0, λ each. printed_none a b f (pa z) EA z ((p ts z g).1 each))
      | inr g ↦ perhaps_more ts z g
    ]

  -- one more part at the end of a chain
  more_grow : {A B : Type 0} (b : List T → B → Type 0) (f : A → B → A) (n : ℕ) (x z : A) (ts vs : List T) (y : B) → More b f n x ts z → b vs y → More b f (suc n) x (ts ++ vs) (f z y)
  more_grow b f zero x z ts vs y w h = (vs, [], y, h, (refl, ap (λ q. f q y) w.1), ap (λ s. s ++ vs) w.0 ∙ sym (append-nil vs))
  more_grow b f (suc n) x z ts vs y (us1, us2, y1, first, more, e) h =
      (us1, us2 ++ vs, y1, first, more_grow b f n (f x y1) z us2 vs y more h, ap (λ s. s ++ vs) e ∙ append_assoc us1 us2 vs)

  chain_grow : {A B : Type 0} (a : List T → A → Type 0) (b : List T → B → Type 0) (f : A → B → A) (ts vs : List T) (x : A) (y : B) → Chain a b f ts x → b vs y → Chain a b f (ts ++ vs) (f x y)
  chain_grow a b f ts vs x y w h = record {
    us = w.us;
    vs = w.vs ++ vs;
    x = w.x;
    count = suc w.count;
    left = w.left;
    more = more_grow b f w.count w.x x w.vs vs y w.more h;
    text = ap (λ s. s ++ vs) w.text ∙ append_assoc w.us w.vs vs;
  }

  pub chain_alone : {A B : Type 0} (a : List T → A → Type 0) (b : List T → B → Type 0) (f : A → B → A) (ts : List T) (x : A) → a ts x → Chain a b f ts x
  chain_alone a b f ts x w = record { us = ts; vs = []; x = x; count = 0; left = w; more = (refl, refl); text = sym (append-nil ts) }

  pub printed_first : {A B : Type 0} (a : Rule T A) (b : Rule T B) (f : A → B → A) (ks : List K) (E : A → A → Type 0) (x : A) → Printed a ks E x → Printed (chain a b f) ks E x
  printed_first a b f ks E x p = printed_wider a (chain a b f) ks E x (λ us y w. chain_alone a.is b.is f us y w) p

  -- a longer chain
  pub printed_longer : {A B : Type 0} (a : Rule T A) (b : Rule T B) (f : A → B → A) (ks ls : List K) (EA : A → A → Type 0) (EB : B → B → Type 0) (x : A) (y : B)
      → ((u : A) (v : B) → EA u x → EB v y → EA (f u v) (f x y)) → Printed (chain a b f) ks EA x → Printed b ls EB y → Printed (chain a b f) (ks ++ ls) EA (f x y)
  printed_longer a b f ks ls EA EB x y h p q = record {
    writable = each_append W ks ls p.writable q.writable;
    again = λ us e.
        let parts : (us1 : List T) × (us2 : List T) × (us ≡ us1 ++ us2) × (map kind us1 ≡ ks) × (map kind us2 ≡ ls) = map_splits kind us ks ls e in
        let left : (u : _) × Chain a.is b.is f parts.0 u × EA u x = p.again parts.0 parts.3 in
        let right : (v : _) × b.is parts.1 v × EB v y = q.again parts.1 parts.4 in
        (f left.0 right.0, subst (λ s. Chain a.is b.is f s (f left.0 right.0)) (sym parts.2) (chain_grow a.is b.is f parts.0 parts.1 left.0 right.0 left.1 right.1), h left.0 right.0 left.2 right.2);
  }

  -- What a chain keeps: Q is known of its first part, and of each longer one.
  module _ {A B : Type 0} (a : List T → A → Type 0) (b : List T → B → Type 0) (f : A → B → A) (Q : A → Type 0)
      (begin : (us : List T) (x : A) → a us x → Sound us × (Written us → Q x)) (keep : (us : List T) (y : B) → b us y → Sound us × (Written us → (x : A) → Q x → Q (f x y))) where
    more_keeps : (n : ℕ) (x z : A) (ts : List T) → More b f n x ts z → Sound ts × (Written ts → Q x → Q z)
    more_keeps zero x z ts w = (subst Sound (sym w.0) tt, λ each q. subst Q (sym w.1) q)
    more_keeps (suc n) x z ts (us, vs, y, part, more, e) =
        let rest : Sound vs × (Written vs → Q (f x y) → Q z) = more_keeps n (f x y) z vs more in
        (sound_append ts us vs e (keep us y part).0 rest.0, λ each q. rest.1 (written_rest ts us vs e each) ((keep us y part).1 (written_front ts us vs e each) x q))

    pub chain_keeps : (ts : List T) (z : A) → Chain a b f ts z → Sound ts × (Written ts → Q z)
    chain_keeps ts z w =
        let rest : Sound w.vs × (Written w.vs → Q w.x → Q z) = more_keeps w.count w.x z w.vs w.more in
        (sound_append ts w.us w.vs w.text (begin w.us w.x w.left).0 rest.0, λ each. rest.1 (written_rest ts w.us w.vs w.text each) ((begin w.us w.x w.left).1 (written_front ts w.us w.vs w.text each)))
