-- What each word of a grammar makes of the relations of its parts.
use Rattle.std.proofs.Common.{◌≡◌, ℕ, zero, suc, Bool, false, ◌||◌, List, [], ◌∷◌, ◌++◌, Option, Some, ◌⊎◌, inl, inr, refl, sym, ◌∙◌, ap, subst, append_assoc}
use Rattle.std.proofs.lemmas.List.{append_cancel_left, append-nil}
use Rattle.grammar_rules.specs.Rules.{Starts, Stops, SameHead, Begins, One, Both, More, Chain, Mapped, Only, Never}
use Rattle.grammar_rules.proofs.Lists.{Apart, starts_append, starts_or_stops, apart_stops, same_under, same_starts, same_stops, starts_front, stops_front, stops_left, stops_right}

-- Each text begins with a token that passes.
pub record Opening {T A : Type 0} (R : List T → A → Type 0) (first : T → Bool) : Type 0 where
  pub opens : (ts : List T) (x : A) → R ts x → Starts first ts

-- how a text of two parts is grouped, behind a front
regrouped : {T : Type 0} (ts us vs rest whole : List T) → ts ≡ us ++ vs → ts ++ rest ≡ whole → us ++ (vs ++ rest) ≡ whole
regrouped ts us vs rest whole e text = sym (append_assoc us vs rest) ∙ ap (λ s. s ++ rest) (sym e) ∙ text

-- the tokens after the front of a part are the next part, and what follows it
next_part : {T : Type 0} (r front rest next : List T) → r ≡ front ++ rest → SameHead rest next → SameHead r (front ++ next)
next_part r front rest next text same = let P : List _ → Type 0 = λ s. SameHead s (front ++ next) in subst P (sym text) (same_under front rest next same)

-- one token
module _ {T A : Type 0} (test : T → Option A) where
  pub one_only : (t : T) (rest : List T) (x : A) → test t ≡ Some x → Only (One test) (λ u. false) (t ∷ []) rest x
  one_only t rest x e = record {
    only = λ next us vs y same w stop text. let k : w.token ∷ vs ≡ t ∷ next = ap (λ z. z ++ vs) (sym w.text) ∙ text in (cc, cc);
  }

-- no text begins with the next token
module _ {T A : Type 0} (R : List T → A → Type 0) (goes first : T → Bool) (opening : Opening R first) where
  pub never_here : (ts : List T) → Stops first ts → Never R goes [] ts
  never_here ts stop = record {
    never = λ next us vs y same w stops text.
        let P : List T → Type 0 = Starts first in
        starts_or_stops first next (subst P text (starts_append first us vs (opening.opens us y w))) (same_stops first ts next same stop);
  }

-- one after the other
module _ {T A B C : Type 0} (a : List T → A → Type 0) (b : List T → B → Type 0) (f : A → B → C) where
  pub both_opening : (first : T → Bool) → Opening a first → Opening (Both a b f) first
  both_opening first h = record {
    opens = λ ts z w. let P : List T → Type 0 = Starts first in subst P (sym w.text) (starts_append first w.us w.vs (h.opens w.us w.x w.left));
  }

  pub both_begins_left : (front : List T) → Begins b [] → Begins a front → Begins (Both a b f) front
  both_begins_left front (vs, y, q) (more, x, p) = (
    more ++ vs,
    f x y,
    record { us = front ++ more; vs = vs; x = x; y = y; left = p; right = q; text = sym (append_assoc front more vs); value = refl },
  )

  pub both_begins_right : (front front' : List T) (x : A) → a front x → Begins b front' → Begins (Both a b f) (front ++ front')
  both_begins_right front front' x p (more, y, q) = (
    more,
    f x y,
    record { us = front; vs = front' ++ more; x = x; y = y; left = p; right = q; text = append_assoc front front' more; value = refl },
  )

  module _ (goes : T → Bool) (first : T → Bool) (opening : Opening b first) (apart : Apart goes first) where
    both_stops : (us vs : List T) (y : B) → b us y → Stops goes (us ++ vs)
    both_stops us vs y q = apart_stops goes first (us ++ vs) apart (starts_append first us vs (opening.opens us y q))

    -- what a reading of both says of the first part
    pub both_first : (front r : List T) (x : A) (p : Only a goes front r x) → (next us vs : List T) (z : C) (w : Both a b f us z) → SameHead r next → us ++ vs ≡ front ++ next
        → (w.us ≡ front) × (w.x ≡ x) × (w.vs ++ vs ≡ next)
    both_first front r x p next us vs z w same text =
        let e : w.us ++ (w.vs ++ vs) ≡ front ++ next = regrouped us w.us w.vs vs (front ++ next) w.text text in
        let same_left : (w.us ≡ front) × (w.x ≡ x) = p.only next w.us (w.vs ++ vs) w.x same w.left (both_stops w.vs vs w.y w.right) e in
        (same_left.0, same_left.1, append_cancel_left w.us (w.vs ++ vs) next (e ∙ ap (λ s. s ++ next) (sym same_left.0)))

    pub both_only : (after : T → Bool) (front front' r rest : List T) (x : A) (y : B) → r ≡ front' ++ rest → Only a goes front r x → Only b after front' rest y
        → Only (Both a b f) after (front ++ front') rest (f x y)
    both_only after front front' r rest x y text' p q = record {
      only = λ next us vs z same w stops text.
          let left : (w.us ≡ front) × (w.x ≡ x) × (w.vs ++ vs ≡ front' ++ next)
          = both_first front r x p (front' ++ next) us vs z w (next_part r front' rest next text' same) (text ∙ append_assoc front front' next) in
          let right : (w.vs ≡ front') × (w.y ≡ y) = q.only next w.vs vs w.y same w.right stops left.2 in
          (w.text ∙ cc, w.value ∙ cc);
    }

    pub both_never_left : (after : T → Bool) (front rest : List T) → Never a goes front rest → Never (Both a b f) after front rest
    both_never_left after front rest p = record {
      never = λ next us vs z same w stops text.
          p.never next w.us (w.vs ++ vs) w.x same w.left (both_stops w.vs vs w.y w.right) (regrouped us w.us w.vs vs (front ++ next) w.text text);
    }

    pub both_never_right : (after : T → Bool) (front front' r rest : List T) (x : A) → r ≡ front' ++ rest → Only a goes front r x → Never b after front' rest
        → Never (Both a b f) after (front ++ front') rest
    both_never_right after front front' r rest x text' p q = record {
      never = λ next us vs z same w stops text.
          let left : (w.us ≡ front) × (w.x ≡ x) × (w.vs ++ vs ≡ front' ++ next)
          = both_first front r x p (front' ++ next) us vs z w (next_part r front' rest next text' same) (text ∙ append_assoc front front' next) in
          q.never next w.vs vs w.y same w.right stops left.2;
    }

-- b {b}, after the tree x
module _ {T A B : Type 0} (b : List T → B → Type 0) (f : A → B → A) where
  -- the rest of a chain, once the tree x is read
  abbrev pub Tail : A → List T → A → Type 0
  Tail x ts z = (n : ℕ) × More b f n x ts z

  module _ (goes first : T → Bool) (opening : Opening b first) (apart : Apart goes first) where
    -- a rest of a chain is empty, or begins with a token of b: it stops what comes before it
    pub tail_stops : (n : ℕ) (x z : A) (us vs : List T) → More b f n x us z → Stops goes vs → Stops goes (us ++ vs)
    tail_stops zero x z us vs w stop = let P : List T → Type 0 = λ s. Stops goes (s ++ vs) in subst P (sym w.0) stop
    tail_stops (suc n) x z us vs (us1, us2, y, part, more, text) stop =
        let P : List T → Type 0 = λ s. Stops goes (s ++ vs) in
        subst P (sym text) (apart_stops goes first ((us1 ++ us2) ++ vs) apart (starts_append first (us1 ++ us2) vs (starts_append first us1 us2 (opening.opens us1 y part))))

  module _ (goes first : T → Bool) (opening : Opening b first) where
    pub tail_only_none : (ts : List T) (x : A) → Stops first ts → Only (Tail x) (λ t. first t || goes t) [] ts x
    tail_only_none ts x stop = record {
      only = λ next us vs z same (n, more) stops text. none_only n us z more next vs (same_stops first ts next same stop) text;
    }
      where
        none_only : (n : ℕ) (us : List T) (z : A) → More b f n x us z → (next vs : List T) → Stops first next → us ++ vs ≡ next → (us ≡ []) × (z ≡ x)
        none_only zero us z w next vs stop text = w
        none_only (suc n) us z (us1, us2, y, part, more, e) next vs stop text =
            let P : List T → Type 0 = Starts first in
            let h : Starts first next = subst P (ap (λ s. s ++ vs) (sym e) ∙ text) (starts_append first (us1 ++ us2) vs (starts_append first us1 us2 (opening.opens us1 y part))) in
            absurd (starts_or_stops first next h stop)

    module _ (apart : Apart goes first) where
      -- what a reading says of the first part, where one is taken
      tail_first : (front ts r : List T) (y : B) (x : A) → ts ≡ front ++ r → Only b goes front r y → Starts first ts
          → (next us vs : List T) (z : A) (n : ℕ) → More b f n x us z → SameHead r next → Stops (λ t. first t || goes t) vs → us ++ vs ≡ front ++ next
          → (us2 : List T) × (m : ℕ) × More b f m (f x y) us2 z × (us2 ++ vs ≡ next) × (us ≡ front ++ us2)
      tail_first front ts r y x text' p begins next us vs z zero (none, value) same stops text =
          let P : List T → Type 0 = Starts first in
          let e : vs ≡ front ++ next = ap (λ s. s ++ vs) (sym none) ∙ text in
          absurd (starts_or_stops first vs (subst P (sym e) (starts_front first ts front r next text' same begins)) (stops_left first goes vs stops))
      tail_first front ts r y x text' p begins next us vs z (suc n) (us1, us2, y1, part, more, e) same stops text =
          let g : us1 ++ (us2 ++ vs) ≡ front ++ next = regrouped us us1 us2 vs (front ++ next) e text in
          let both_same : (us1 ≡ front) × (y1 ≡ y) = p.only next us1 (us2 ++ vs) y1 same part (tail_stops goes first opening apart n (f x y1) z us2 vs more (stops_right first goes vs stops)) g in
          let Q : B → Type 0 = λ s. More b f n (f x s) us2 z in
          (us2, n, subst Q both_same.1 more, append_cancel_left us1 (us2 ++ vs) next (g ∙ ap (λ s. s ++ next) (sym both_same.0)), e ∙ ap (λ s. s ++ us2) both_same.0)

      pub tail_only_more : (front front' ts r rest : List T) (x z : A) (y : B) → ts ≡ front ++ r → r ≡ front' ++ rest → Starts first ts → Only b goes front r y
          → Only (Tail (f x y)) (λ t. first t || goes t) front' rest z → Only (Tail x) (λ t. first t || goes t) (front ++ front') rest z
      tail_only_more front front' ts r rest x z y text' text'' begins p q = record {
        only = λ next us vs w same (n, more) stops text.
            let split : (us2 : List T) × (m : ℕ) × More b f m (f x y) us2 w × (us2 ++ vs ≡ front' ++ next) × (us ≡ front ++ us2)
            = tail_first front ts r y x text' p begins (front' ++ next) us vs w n more (next_part r front' rest next text'' same) stops (text ∙ append_assoc front front' next) in
            let right : (split.0 ≡ front') × (w ≡ z) = q.only next split.0 vs w same (split.1, split.2) stops split.3 in
            (split.4 ∙ ap (λ s. front ++ s) right.0, right.1);
      }

      pub tail_never_here : (front ts rest : List T) (x : A) → ts ≡ front ++ rest → Starts first ts → Never b goes front rest → Never (Tail x) (λ t. first t || goes t) front rest
      tail_never_here front ts rest x text' begins p = record {
        never = λ next us vs z same (n, more) stops text. here n us z more next vs same stops text;
      }
        where
          here : (n : ℕ) (us : List T) (z : A) → More b f n x us z → (next vs : List T) → SameHead rest next → Stops (λ t. first t || goes t) vs → us ++ vs ≡ front ++ next → ⊥
          here zero us z (none, value) next vs same stops text =
              let P : List T → Type 0 = Starts first in
              let e : vs ≡ front ++ next = ap (λ s. s ++ vs) (sym none) ∙ text in
              starts_or_stops first vs (subst P (sym e) (starts_front first ts front rest next text' same begins)) (stops_left first goes vs stops)
          here (suc n) us z (us1, us2, y1, part, more, e) next vs same stops text =
              p.never next us1 (us2 ++ vs) y1 same part (tail_stops goes first opening apart n (f x y1) z us2 vs more (stops_right first goes vs stops))
              (regrouped us us1 us2 vs (front ++ next) e text)

      pub tail_never_later : (front front' ts r rest : List T) (x : A) (y : B) → ts ≡ front ++ r → r ≡ front' ++ rest → Starts first ts → Only b goes front r y
          → Never (Tail (f x y)) (λ t. first t || goes t) front' rest → Never (Tail x) (λ t. first t || goes t) (front ++ front') rest
      tail_never_later front front' ts r rest x y text' text'' begins p q = record {
        never = λ next us vs w same (n, more) stops text.
            let split : (us2 : List T) × (m : ℕ) × More b f m (f x y) us2 w × (us2 ++ vs ≡ front' ++ next) × (us ≡ front ++ us2)
            = tail_first front ts r y x text' p begins (front' ++ next) us vs w n more (next_part r front' rest next text'' same) stops (text ∙ append_assoc front front' next) in
            q.never next split.0 vs w same (split.1, split.2) stops split.3;
      }

  pub tail_begins_here : (front : List T) (x : A) → Begins b front → Begins (Tail x) front
  tail_begins_here front x (more, y, p) = (more, f x y, (1, (front ++ more, [], y, p, (refl, refl), sym (append-nil (front ++ more)))))

  pub tail_begins_later : (front front' : List T) (x : A) (y : B) → b front y → Begins (Tail (f x y)) front' → Begins (Tail x) (front ++ front')
  tail_begins_later front front' x y p (more, z, (n, q)) = (more, z, (suc n, (front, front' ++ more, y, p, q, append_assoc front front' more)))

-- a {b}
module _ {T A B : Type 0} (a : List T → A → Type 0) (b : List T → B → Type 0) (f : A → B → A) where
  pub chain_opening : (first : T → Bool) → Opening a first → Opening (Chain a b f) first
  chain_opening first h = record {
    opens = λ ts z w. let P : List T → Type 0 = Starts first in subst P (sym w.text) (starts_append first w.us w.vs (h.opens w.us w.x w.left));
  }

  pub chain_begins_first : (front : List T) → Begins a front → Begins (Chain a b f) front
  chain_begins_first front (more, x, p) = (more, x, record { us = front ++ more; vs = []; x = x; count = 0; left = p; more = (refl, refl); text = sym (append-nil (front ++ more)) })

  pub chain_begins_later : (front front' : List T) (x : A) → a front x → Begins (Tail b f x) front' → Begins (Chain a b f) (front ++ front')
  chain_begins_later front front' x p (more, z, (n, q)) = (more, z, record { us = front; vs = front' ++ more; x = x; count = n; left = p; more = q; text = append_assoc front front' more })

  module _ (ga gb first : T → Bool) (opening : Opening b first) (apart : Apart ga first) where
    chain_first : (front r : List T) (x : A) → Only a ga front r x → (next us vs : List T) (z : A) (w : Chain a b f us z) → SameHead r next → Stops ga vs → us ++ vs ≡ front ++ next
        → More b f w.count x w.vs z × (w.vs ++ vs ≡ next) × (us ≡ front ++ w.vs)
    chain_first front r x p next us vs z w same stops text =
        let e : w.us ++ (w.vs ++ vs) ≡ front ++ next = regrouped us w.us w.vs vs (front ++ next) w.text text in
        let both_same : (w.us ≡ front) × (w.x ≡ x) = p.only next w.us (w.vs ++ vs) w.x same w.left (tail_stops b f ga first opening apart w.count w.x z w.vs vs w.more stops) e in
        let Q : A → Type 0 = λ s. More b f w.count s w.vs z in
        (subst Q both_same.1 w.more, append_cancel_left w.us (w.vs ++ vs) next (e ∙ ap (λ s. s ++ next) (sym both_same.0)), w.text ∙ ap (λ s. s ++ w.vs) both_same.0)

    pub chain_only : (front front' r rest : List T) (x z : A) → r ≡ front' ++ rest → Only a ga front r x → Only (Tail b f x) (λ t. first t || gb t) front' rest z
        → Only (Chain a b f) (λ t. (first t || gb t) || ga t) (front ++ front') rest z
    chain_only front front' r rest x z text' p q = record {
      only = λ next us vs y same w stops text.
          let split : More b f w.count x w.vs y × (w.vs ++ vs ≡ front' ++ next) × (us ≡ front ++ w.vs)
          = chain_first front r x p (front' ++ next) us vs y w (next_part r front' rest next text' same) (stops_right (λ t. first t || gb t) ga vs stops) (text ∙ append_assoc front front' next) in
          let right : (w.vs ≡ front') × (y ≡ z) = q.only next w.vs vs y same (w.count, split.0) (stops_left (λ t. first t || gb t) ga vs stops) split.1 in
          (split.2 ∙ ap (λ s. front ++ s) right.0, right.1);
    }

    pub chain_never_first : (front rest : List T) → Never a ga front rest → Never (Chain a b f) (λ t. (first t || gb t) || ga t) front rest
    chain_never_first front rest p = record {
      never = λ next us vs z same w stops text.
          p.never next w.us (w.vs ++ vs) w.x same w.left (tail_stops b f ga first opening apart w.count w.x z w.vs vs w.more (stops_right (λ t. first t || gb t) ga vs stops))
          (regrouped us w.us w.vs vs (front ++ next) w.text text);
    }

    pub chain_never_later : (front front' r rest : List T) (x : A) → r ≡ front' ++ rest → Only a ga front r x → Never (Tail b f x) (λ t. first t || gb t) front' rest
        → Never (Chain a b f) (λ t. (first t || gb t) || ga t) (front ++ front') rest
    chain_never_later front front' r rest x text' p q = record {
      never = λ next us vs y same w stops text.
          let split : More b f w.count x w.vs y × (w.vs ++ vs ≡ front' ++ next) × (us ≡ front ++ w.vs)
          = chain_first front r x p (front' ++ next) us vs y w (next_part r front' rest next text' same) (stops_right (λ t. first t || gb t) ga vs stops) (text ∙ append_assoc front front' next) in
          q.never next w.vs vs y same (w.count, split.0) (stops_left (λ t. first t || gb t) ga vs stops) split.1;
    }

-- a [b]
module _ {T A B : Type 0} (a : List T → A → Type 0) (b : List T → B → Type 0) (f : A → B → A) where
  abbrev pub Perhaps : List T → A → Type 0
  Perhaps ts z = a ts z ⊎ Both a b f ts z

  pub perhaps_opening : (first : T → Bool) → Opening a first → Opening Perhaps first
  perhaps_opening first h = record { opens = λ ts z w. elim w [ inl k ↦ h.opens ts z k | inr k ↦ (both_opening a b f first h).opens ts z k ] }

  pub perhaps_begins_first : (front : List T) → Begins a front → Begins Perhaps front
  perhaps_begins_first front (more, x, p) = (more, x, inl p)

  pub perhaps_begins_later : (front front' : List T) (x : A) → a front x → Begins b front' → Begins Perhaps (front ++ front')
  perhaps_begins_later front front' x p q = let h : Begins (Both a b f) (front ++ front') = both_begins_right a b f front front' x p q in (h.0, h.1, inr h.2)

  module _ (ga gb first : T → Bool) (opening : Opening b first) (apart : Apart ga first) where
    pub perhaps_only_none : (front rest : List T) (x : A) → Stops first rest → Only a ga front rest x → Only Perhaps (λ t. (first t || gb t) || ga t) front rest x
    perhaps_only_none front rest x stop p = record {
      only = λ next us vs y same w stops text. elim w [
        | inl h ↦ p.only next us vs y same h (stops_right (λ t. first t || gb t) ga vs stops) text
        | inr h ↦
            let split : (h.us ≡ front) × (h.x ≡ x) × (h.vs ++ vs ≡ next) = both_first a b f ga first opening apart front rest x p next us vs y h same text in
            let P : List T → Type 0 = Starts first in
            absurd (starts_or_stops first next (subst P split.2 (starts_append first h.vs vs (opening.opens h.vs h.y h.right))) (same_stops first rest next same stop))
      ];
    }

    -- a alone isn't the reading where a token of b follows
    alone : (front r : List T) (x : A) → Only a ga front r x → Starts first r → (next us vs : List T) (y : A) → a us y → SameHead r next
        → Stops (λ t. (first t || gb t) || ga t) vs → us ++ vs ≡ front ++ next → ⊥
    alone front r x p begins next us vs y h same stops text =
        let left : (us ≡ front) × (y ≡ x) = p.only next us vs y same h (stops_right (λ t. first t || gb t) ga vs stops) text in
        let e : vs ≡ next = append_cancel_left us vs next (text ∙ ap (λ s. s ++ next) (sym left.0)) in
        let P : List T → Type 0 = Starts first in
        starts_or_stops first vs (subst P (sym e) (same_starts first r next same begins)) (stops_left first gb vs (stops_left (λ t. first t || gb t) ga vs stops))

    pub perhaps_only_some : (front front' r rest : List T) (x : A) (y : B) → r ≡ front' ++ rest → Starts first r → Only a ga front r x → Only b gb front' rest y
        → Only Perhaps (λ t. (first t || gb t) || ga t) (front ++ front') rest (f x y)
    perhaps_only_some front front' r rest x y text' begins p q = record {
      only = λ next us vs z same w stops text. elim w [
        | inl h ↦ absurd (alone front r x p begins (front' ++ next) us vs z h (next_part r front' rest next text' same) stops (text ∙ append_assoc front front' next))
        | inr h ↦ (both_only a b f ga first opening apart gb front front' r rest x y text' p q).only next us vs z same h
            (stops_right first gb vs (stops_left (λ t. first t || gb t) ga vs stops)) text
      ];
    }

    pub perhaps_never_first : (front rest : List T) → Never a ga front rest → Never Perhaps (λ t. (first t || gb t) || ga t) front rest
    perhaps_never_first front rest p = record {
      never = λ next us vs z same w stops text. elim w [
        | inl h ↦ p.never next us vs z same h (stops_right (λ t. first t || gb t) ga vs stops) text
        | inr h ↦ (both_never_left a b f ga first opening apart gb front rest p).never next us vs z same h
            (stops_right first gb vs (stops_left (λ t. first t || gb t) ga vs stops)) text
      ];
    }

    pub perhaps_never_later : (front front' r rest : List T) (x : A) → r ≡ front' ++ rest → Starts first r → Only a ga front r x → Never b gb front' rest
        → Never Perhaps (λ t. (first t || gb t) || ga t) (front ++ front') rest
    perhaps_never_later front front' r rest x text' begins p q = record {
      never = λ next us vs z same w stops text. elim w [
        | inl h ↦ alone front r x p begins (front' ++ next) us vs z h (next_part r front' rest next text' same) stops (text ∙ append_assoc front front' next)
        | inr h ↦ (both_never_right a b f ga first opening apart gb front front' r rest x text' p q).never next us vs z same h
            (stops_right first gb vs (stops_left (λ t. first t || gb t) ga vs stops)) text
      ];
    }

-- a | b, where b is seen by its first tokens alone
module _ {T A : Type 0} (a b : List T → A → Type 0) where
  abbrev pub Either : List T → A → Type 0
  Either ts z = a ts z ⊎ b ts z

  pub either_begins_left : (front : List T) → Begins a front → Begins Either front
  either_begins_left front (more, x, p) = (more, x, inl p)

  pub either_begins_right : (front : List T) → Begins b front → Begins Either front
  either_begins_right front (more, x, p) = (more, x, inr p)

  module _ (fa fb ga gb : T → Bool) where
    module _ (opening : Opening b fb) (apart : Apart fa fb) where
      -- no text of b begins as one of a does
      not_second : (ts front rest next us vs : List T) (y : A) → ts ≡ front ++ rest → SameHead rest next → Starts fa ts → b us y → us ++ vs ≡ front ++ next → ⊥
      not_second ts front rest next us vs y text same begins h e =
          let P : List T → Type 0 = Starts fb in
          starts_or_stops fa (front ++ next) (starts_front fa ts front rest next text same begins)
          (apart_stops fa fb (front ++ next) apart (subst P e (starts_append fb us vs (opening.opens us y h))))

      pub either_only_left : (ts front rest : List T) (x : A) → ts ≡ front ++ rest → Starts fa ts → Only a ga front rest x → Only Either (λ t. ga t || gb t) front rest x
      either_only_left ts front rest x text' begins p = record {
        only = λ next us vs y same w stops text. elim w [
          | inl h ↦ p.only next us vs y same h (stops_left ga gb vs stops) text
          | inr h ↦ absurd (not_second ts front rest next us vs y text' same begins h text)
        ];
      }

      pub either_never_left : (ts front rest : List T) → ts ≡ front ++ rest → Starts fa ts → Never a ga front rest → Never Either (λ t. ga t || gb t) front rest
      either_never_left ts front rest text' begins p = record {
        never = λ next us vs y same w stops text. elim w [
          | inl h ↦ p.never next us vs y same h (stops_left ga gb vs stops) text
          | inr h ↦ not_second ts front rest next us vs y text' same begins h text
        ];
      }

    module _ (opening : Opening a fa) where
      not_first : (ts front rest next us vs : List T) (y : A) → ts ≡ front ++ rest → SameHead rest next → Stops fa ts → a us y → us ++ vs ≡ front ++ next → ⊥
      not_first ts front rest next us vs y text same stop h e =
          let P : List T → Type 0 = Starts fa in
          starts_or_stops fa (front ++ next) (subst P e (starts_append fa us vs (opening.opens us y h))) (stops_front fa ts front rest next text same stop)

      pub either_only_right : (ts front rest : List T) (x : A) → ts ≡ front ++ rest → Stops fa ts → Only b gb front rest x → Only Either (λ t. ga t || gb t) front rest x
      either_only_right ts front rest x text' stop p = record {
        only = λ next us vs y same w stops text. elim w [
          | inl h ↦ absurd (not_first ts front rest next us vs y text' same stop h text)
          | inr h ↦ p.only next us vs y same h (stops_right ga gb vs stops) text
        ];
      }

      pub either_never_right : (ts front rest : List T) → ts ≡ front ++ rest → Stops fa ts → Never b gb front rest → Never Either (λ t. ga t || gb t) front rest
      either_never_right ts front rest text' stop p = record {
        never = λ next us vs y same w stops text. elim w [
          | inl h ↦ not_first ts front rest next us vs y text' same stop h text
          | inr h ↦ p.never next us vs y same h (stops_right ga gb vs stops) text
        ];
      }

-- a, whose tree becomes another
module _ {T A B : Type 0} (a : List T → A → Type 0) (f : A → B) where
  pub mapped_opening : (first : T → Bool) → Opening a first → Opening (Mapped a f) first
  mapped_opening first h = record { opens = λ ts z w. h.opens ts w.x w.inside }

  pub mapped_begins : (front : List T) → Begins a front → Begins (Mapped a f) front
  mapped_begins front (more, x, p) = (more, f x, record { x = x; inside = p; value = refl })

  pub mapped_only : (goes : T → Bool) (front rest : List T) (x : A) → Only a goes front rest x → Only (Mapped a f) goes front rest (f x)
  mapped_only goes front rest x p = record {
    only = λ next us vs y same w stops text.
        let q : (us ≡ front) × (w.x ≡ x) = p.only next us vs w.x same w.inside stops text in
        (q.0, w.value ∙ ap f q.1);
  }

  pub mapped_never : (goes : T → Bool) (front rest : List T) → Never a goes front rest → Never (Mapped a f) goes front rest
  mapped_never goes front rest p = record { never = λ next us vs y same w stops text. p.never next us vs w.x same w.inside stops text }

-- a relation within another
module _ {T A : Type 0} (a b : List T → A → Type 0) (within : (ts : List T) (x : A) → a ts x → b ts x) (goes : T → Bool) where
  pub only_within : (front rest : List T) (x : A) → Only b goes front rest x → Only a goes front rest x
  only_within front rest x p = record { only = λ next us vs y same w. p.only next us vs y same (within us y w) }

  pub never_within : (front rest : List T) → Never b goes front rest → Never a goes front rest
  never_within front rest p = record { never = λ next us vs y same w. p.never next us vs y same (within us y w) }

-- what stops at fewer tokens
module _ {T A : Type 0} (a : List T → A → Type 0) where
  pub begins_front : (front after : List T) → Begins a (front ++ after) → Begins a front
  begins_front front after (more, x, p) = (after ++ more, x, subst (λ s. a s x) (append_assoc front after more) p)
