-- Each word of a grammar is read as its parts are: what was read, and where reading is stuck.
use Rattle.std.proofs.Common.{◌≡◌, ℕ, zero, suc, Bool, true, false, ◌||◌, List, [], ◌∷◌, ◌++◌, Option, Some, is_some, inl, inr, refl, sym, ◌∙◌, ap, subst, append_assoc, length, ◌≤◌, arith, length-append}
use Rattle.grammar_rules.specs.Rules.{Rule, Starts, Stops, SameHead, Begins, Both, More, Chain, Single, Only, Took, Beyond, Stuck, one, both, chain, perhaps, either, mapped, stands}
use Rattle.grammar_rules.proofs.Lists.{Apart, starts_append, starts_or_stops, apart_stops, starts_front, starts_left, starts_right}
use Rattle.grammar_rules.proofs.Relations as relations
use Rattle.grammar_rules.proofs.Relations.{Opening, Tail}

-- What each rule keeps: its texts begin as it says, in the larger language too, and it has one.
pub record Sane {T A : Type 0} (r : Rule T A) : Type 0 where
  pub opening : Opening r.wide r.first
  pub within : (ts : List T) (x : A) → r.is ts x → r.wide ts x
  pub some : Begins r.is []

module _ {T A : Type 0} (r : Rule T A) (sane : Sane r) where
  -- the language itself opens as the larger one does
  pub opens : Opening r.is r.first
  opens = record { opens = λ ts x w. sane.opening.opens ts x (sane.within ts x w) }

  pub some_wide : Begins r.wide []
  some_wide = (sane.some.0, sane.some.1, sane.within sane.some.0 sane.some.1 sane.some.2)

  -- what was read is the only reading in the language itself
  pub only_is : (front rest : List T) (x : A) → Only r.wide r.goes front rest x → Only r.is r.goes front rest x
  only_is = relations.only_within r.is r.wide sane.within r.goes

  -- a token with which no text begins
  pub stuck_at : (ts : List T) → Stops r.first ts → Stuck false r ts ts
  stuck_at ts stop = record {
    front = [];
    text = refl;
    begins = sane.some;
    none = relations.never_here r.is r.goes r.first opens ts stop;
    beyond = relations.never_here r.wide r.goes r.first sane.opening ts stop;
  }

-- a token
module _ {T A : Type 0} (test : T → Option A) where
  pub one_sane : (t : T) (x : A) → test t ≡ Some x → Sane (one test)
  one_sane t x e = record {
    opening = record { opens = λ ts y w. let P : List T → Type 0 = Starts (λ u. is_some (test u)) in subst P (sym w.text) (ap is_some w.value) };
    within = λ ts y w. w;
    some = (t ∷ [], x, record { token = t; text = refl; value = e });
  }

  pub took_one : (t : T) (rest : List T) (x : A) → test t ≡ Some x → Took (one test) (t ∷ rest) x rest
  took_one t rest x e = record {
    front = t ∷ [];
    text = refl;
    is = record { token = t; text = refl; value = e };
    only = relations.one_only test t rest x e;
  }

-- one after the other
module _ {T A B C : Type 0} (a : Rule T A) (b : Rule T B) (f : A → B → C) where
  pub both_sane : Sane a → Sane b → Sane (both a b f)
  both_sane p q = record {
    opening = relations.both_opening a.wide b.wide f a.first p.opening;
    within = λ ts z w. record { us = w.us; vs = w.vs; x = w.x; y = w.y; left = p.within w.us w.x w.left; right = q.within w.vs w.y w.right; text = w.text; value = w.value };
    some = relations.both_begins_left a.is b.is f [] q.some p.some;
  }

  module _ (sane : Sane b) (apart : Apart a.goes b.first) where
    pub took_both : (ts r rest : List T) (x : A) (y : B) → Took a ts x r → Took b r y rest → Took (both a b f) ts (f x y) rest
    took_both ts r rest x y p q = record {
      front = p.front ++ q.front;
      text = p.text ∙ ap (λ s. p.front ++ s) q.text ∙ sym (append_assoc p.front q.front rest);
      is = record { us = p.front; vs = q.front; x = x; y = y; left = p.is; right = q.is; text = refl; value = refl };
      only = relations.both_only a.wide b.wide f a.goes b.first sane.opening apart b.goes p.front q.front r rest x y q.text p.only q.only;
    }

    beyond_left : (l : Bool) (front rest : List T) → Beyond l a front rest → Beyond l (both a b f) front rest
    beyond_left false front rest h = relations.both_never_left a.wide b.wide f a.goes b.first sane.opening apart b.goes front rest h
    beyond_left true front [] h = h
    beyond_left true front (t ∷ rest) h = relations.both_begins_left a.wide b.wide f (front ++ t ∷ []) (some_wide b sane) h

    pub stuck_left : (l : Bool) (ts rest : List T) → Stuck l a ts rest → Stuck l (both a b f) ts rest
    stuck_left l ts rest p = record {
      front = p.front;
      text = p.text;
      begins = relations.both_begins_left a.is b.is f p.front sane.some p.begins;
      none = relations.both_never_left a.is b.is f a.goes b.first (opens b sane) apart b.goes p.front rest p.none;
      beyond = beyond_left l p.front rest p.beyond;
    }

    module _ (sane_a : Sane a) where
      beyond_right : (l : Bool) (front front' r rest : List T) (x : A) → r ≡ front' ++ rest → a.is front x → Only a.wide a.goes front r x → Beyond l b front' rest
          → Beyond l (both a b f) (front ++ front') rest
      beyond_right false front front' r rest x text p only h = relations.both_never_right a.wide b.wide f a.goes b.first sane.opening apart b.goes front front' r rest x text only h
      beyond_right true front front' r [] x text p only h = h
      beyond_right true front front' r (t ∷ rest) x text p only h =
          subst (Begins (Both a.wide b.wide f)) (sym (append_assoc front front' (t ∷ [])))
          (relations.both_begins_right a.wide b.wide f front (front' ++ t ∷ []) x (sane_a.within front x p) h)

      pub stuck_right : (l : Bool) (ts r rest : List T) (x : A) → Took a ts x r → Stuck l b r rest → Stuck l (both a b f) ts rest
      stuck_right l ts r rest x p q = record {
        front = p.front ++ q.front;
        text = p.text ∙ ap (λ s. p.front ++ s) q.text ∙ sym (append_assoc p.front q.front rest);
        begins = relations.both_begins_right a.is b.is f p.front q.front x p.is q.begins;
        none = relations.both_never_right a.is b.is f a.goes b.first (opens b sane) apart b.goes p.front q.front r rest x q.text (only_is a sane_a p.front r x p.only) q.none;
        beyond = beyond_right l p.front q.front r rest x q.text p.is p.only q.beyond;
      }

-- b {b}, after a tree
module _ {T A B : Type 0} (b : Rule T B) (f : A → B → A) where
  -- the rest of a chain, once the tree x is read
  abbrev pub tail : A → Rule T A
  tail x = record { is = Tail b.is f x; wide = Tail b.wide f x; first = b.first; goes = λ t. b.first t || b.goes t }

  more_within : Sane b → (n : ℕ) (x z : A) (ts : List T) → More b.is f n x ts z → More b.wide f n x ts z
  more_within sane zero x z ts w = w
  more_within sane (suc n) x z ts (us, vs, y, part, more, text) = (us, vs, y, sane.within us y part, more_within sane n (f x y) z vs more, text)

  module _ (sane : Sane b) where
    pub took_tail_none : (ts : List T) (x : A) → Stops b.first ts → Took (tail x) ts x ts
    took_tail_none ts x stop = record {
      front = [];
      text = refl;
      is = (0, (refl, refl));
      only = relations.tail_only_none b.wide f b.goes b.first sane.opening ts x stop;
    }

    module _ (apart : Apart b.goes b.first) where
      pub took_tail_more : (ts r rest : List T) (x z : A) (y : B) → Starts b.first ts → Took b ts y r → Took (tail (f x y)) r z rest → Took (tail x) ts z rest
      took_tail_more ts r rest x z y begins p q = record {
        front = p.front ++ q.front;
        text = p.text ∙ ap (λ s. p.front ++ s) q.text ∙ sym (append_assoc p.front q.front rest);
        is = (suc q.is.0, (p.front, q.front, y, p.is, q.is.1, refl));
        only = relations.tail_only_more b.wide f b.goes b.first sane.opening apart p.front q.front ts r rest x z y p.text q.text begins p.only q.only;
      }

      beyond_here : (l : Bool) (front ts rest : List T) (x : A) → ts ≡ front ++ rest → Starts b.first ts → Beyond l b front rest → Beyond l (tail x) front rest
      beyond_here false front ts rest x text begins h = relations.tail_never_here b.wide f b.goes b.first sane.opening apart front ts rest x text begins h
      beyond_here true front ts [] x text begins h = h
      beyond_here true front ts (t ∷ rest) x text begins h = relations.tail_begins_here b.wide f (front ++ t ∷ []) x h

      pub stuck_tail_here : (l : Bool) (ts rest : List T) (x : A) → Starts b.first ts → Stuck l b ts rest → Stuck l (tail x) ts rest
      stuck_tail_here l ts rest x begins p = record {
        front = p.front;
        text = p.text;
        begins = relations.tail_begins_here b.is f p.front x p.begins;
        none = relations.tail_never_here b.is f b.goes b.first (opens b sane) apart p.front ts rest x p.text begins p.none;
        beyond = beyond_here l p.front ts rest x p.text begins p.beyond;
      }

      beyond_later : (l : Bool) (front front' ts r rest : List T) (x : A) (y : B) → ts ≡ front ++ r → r ≡ front' ++ rest → Starts b.first ts → b.is front y → Only b.wide b.goes front r y
          → Beyond l (tail (f x y)) front' rest → Beyond l (tail x) (front ++ front') rest
      beyond_later false front front' ts r rest x y text text' begins p only h =
          relations.tail_never_later b.wide f b.goes b.first sane.opening apart front front' ts r rest x y text text' begins only h
      beyond_later true front front' ts r [] x y text text' begins p only h = h
      beyond_later true front front' ts r (t ∷ rest) x y text text' begins p only h =
          subst (Begins (Tail b.wide f x)) (sym (append_assoc front front' (t ∷ [])))
          (relations.tail_begins_later b.wide f front (front' ++ t ∷ []) x y (sane.within front y p) h)

      pub stuck_tail_later : (l : Bool) (ts r rest : List T) (x : A) (y : B) → Starts b.first ts → Took b ts y r → Stuck l (tail (f x y)) r rest → Stuck l (tail x) ts rest
      stuck_tail_later l ts r rest x y begins p q = record {
        front = p.front ++ q.front;
        text = p.text ∙ ap (λ s. p.front ++ s) q.text ∙ sym (append_assoc p.front q.front rest);
        begins = relations.tail_begins_later b.is f p.front q.front x y p.is q.begins;
        none = relations.tail_never_later b.is f b.goes b.first (opens b sane) apart p.front q.front ts r rest x y p.text q.text begins (only_is b sane p.front r y p.only) q.none;
        beyond = beyond_later l p.front q.front ts r rest x y p.text q.text begins p.is p.only q.beyond;
      }

-- a {b}
module _ {T A B : Type 0} (a : Rule T A) (b : Rule T B) (f : A → B → A) where
  pub chain_sane : Sane a → Sane b → Sane (chain a b f)
  chain_sane p q = record {
    opening = relations.chain_opening a.wide b.wide f a.first p.opening;
    within = λ ts z w. record { us = w.us; vs = w.vs; x = w.x; count = w.count; left = p.within w.us w.x w.left; more = more_within b f q w.count w.x z w.vs w.more; text = w.text };
    some = relations.chain_begins_first a.is b.is f [] p.some;
  }

  module _ (sane_a : Sane a) (sane : Sane b) (apart : Apart a.goes b.first) where
    pub took_chain : (ts r rest : List T) (x z : A) → Took a ts x r → Took (tail b f x) r z rest → Took (chain a b f) ts z rest
    took_chain ts r rest x z p q = record {
      front = p.front ++ q.front;
      text = p.text ∙ ap (λ s. p.front ++ s) q.text ∙ sym (append_assoc p.front q.front rest);
      is = record { us = p.front; vs = q.front; x = x; count = q.is.0; left = p.is; more = q.is.1; text = refl };
      only = relations.chain_only a.wide b.wide f a.goes b.goes b.first sane.opening apart p.front q.front r rest x z q.text p.only q.only;
    }

    beyond_start : (l : Bool) (front rest : List T) → Beyond l a front rest → Beyond l (chain a b f) front rest
    beyond_start false front rest h = relations.chain_never_first a.wide b.wide f a.goes b.goes b.first sane.opening apart front rest h
    beyond_start true front [] h = h
    beyond_start true front (t ∷ rest) h = relations.chain_begins_first a.wide b.wide f (front ++ t ∷ []) h

    pub stuck_chain_first : (l : Bool) (ts rest : List T) → Stuck l a ts rest → Stuck l (chain a b f) ts rest
    stuck_chain_first l ts rest p = record {
      front = p.front;
      text = p.text;
      begins = relations.chain_begins_first a.is b.is f p.front p.begins;
      none = relations.chain_never_first a.is b.is f a.goes b.goes b.first (opens b sane) apart p.front rest p.none;
      beyond = beyond_start l p.front rest p.beyond;
    }

    beyond_tail : (l : Bool) (front front' r rest : List T) (x : A) → r ≡ front' ++ rest → a.is front x → Only a.wide a.goes front r x → Beyond l (tail b f x) front' rest
        → Beyond l (chain a b f) (front ++ front') rest
    beyond_tail false front front' r rest x text p only h =
        relations.chain_never_later a.wide b.wide f a.goes b.goes b.first sane.opening apart front front' r rest x text only h
    beyond_tail true front front' r [] x text p only h = h
    beyond_tail true front front' r (t ∷ rest) x text p only h =
        subst (Begins (Chain a.wide b.wide f)) (sym (append_assoc front front' (t ∷ [])))
        (relations.chain_begins_later a.wide b.wide f front (front' ++ t ∷ []) x (sane_a.within front x p) h)

    pub stuck_chain_later : (l : Bool) (ts r rest : List T) (x : A) → Took a ts x r → Stuck l (tail b f x) r rest → Stuck l (chain a b f) ts rest
    stuck_chain_later l ts r rest x p q = record {
      front = p.front ++ q.front;
      text = p.text ∙ ap (λ s. p.front ++ s) q.text ∙ sym (append_assoc p.front q.front rest);
      begins = relations.chain_begins_later a.is b.is f p.front q.front x p.is q.begins;
      none = relations.chain_never_later a.is b.is f a.goes b.goes b.first (opens b sane) apart p.front q.front r rest x q.text (only_is a sane_a p.front r x p.only) q.none;
      beyond = beyond_tail l p.front q.front r rest x q.text p.is p.only q.beyond;
    }

-- What a loop over the parts of a chain keeps: x is read as far as r, and whatever the rest of the chain reads from there is what the chain reads from ts.
pub record Chaining {T A B : Type 0} (a : Rule T A) (b : Rule T B) (f : A → B → A) (ts : List T) (x : A) (r : List T) : Type 0 where
  pub took : (z : A) (left : List T) → Took (tail b f x) r z left → Took (chain a b f) ts z left
  pub stuck : (l : Bool) (left : List T) → Stuck l (tail b f x) r left → Stuck l (chain a b f) ts left

module _ {T A B : Type 0} (a : Rule T A) (b : Rule T B) (f : A → B → A) (sane : Sane b) where
  pub chaining_start : Sane a → Apart a.goes b.first → (ts r : List T) (x : A) → Took a ts x r → Chaining a b f ts x r
  chaining_start sane_a apart ts r x p = record {
    took = λ z left q. took_chain a b f sane_a sane apart ts r left x z p q;
    stuck = λ l left q. stuck_chain_later a b f sane_a sane apart l ts r left x p q;
  }

  pub chaining_more : Apart b.goes b.first → (ts r next : List T) (x : A) (y : B) → Chaining a b f ts x r → Starts b.first r → Took b r y next → Chaining a b f ts (f x y) next
  chaining_more apart ts r next x y c begins p = record {
    took = λ z left q. c.took z left (took_tail_more b f sane apart r next left x z y begins p q);
    stuck = λ l left q. c.stuck l left (stuck_tail_later b f sane apart l r next left x y begins p q);
  }

  pub chaining_end : (ts r : List T) (x : A) → Chaining a b f ts x r → Stops b.first r → Took (chain a b f) ts x r
  chaining_end ts r x c stop = c.took x r (took_tail_none b f sane r x stop)

  pub chaining_stuck : Apart b.goes b.first → (l : Bool) (ts r left : List T) (x : A) → Chaining a b f ts x r → Starts b.first r → Stuck l b r left → Stuck l (chain a b f) ts left
  chaining_stuck apart l ts r left x c begins q = c.stuck l left (stuck_tail_here b f sane apart l r left x begins q)

-- a [b]
module _ {T A B : Type 0} (a : Rule T A) (b : Rule T B) (f : A → B → A) where
  pub perhaps_sane : Sane a → Sane b → Sane (perhaps a b f)
  perhaps_sane p q = record {
    opening = relations.perhaps_opening a.wide b.wide f a.first p.opening;
    within = λ ts z w. elim w [ inl h ↦ inl (p.within ts z h) | inr h ↦ inr ((both_sane a b f p q).within ts z h) ];
    some = relations.perhaps_begins_first a.is b.is f [] p.some;
  }

  module _ (sane : Sane b) (apart : Apart a.goes b.first) where
    pub took_perhaps_none : (ts rest : List T) (x : A) → Took a ts x rest → Stops b.first rest → Took (perhaps a b f) ts x rest
    took_perhaps_none ts rest x p stop = record {
      front = p.front;
      text = p.text;
      is = inl p.is;
      only = relations.perhaps_only_none a.wide b.wide f a.goes b.goes b.first sane.opening apart p.front rest x stop p.only;
    }

    pub took_perhaps_some : (ts r rest : List T) (x : A) (y : B) → Took a ts x r → Starts b.first r → Took b r y rest → Took (perhaps a b f) ts (f x y) rest
    took_perhaps_some ts r rest x y p begins q = record {
      front = p.front ++ q.front;
      text = p.text ∙ ap (λ s. p.front ++ s) q.text ∙ sym (append_assoc p.front q.front rest);
      is = inr (record { us = p.front; vs = q.front; x = x; y = y; left = p.is; right = q.is; text = refl; value = refl });
      only = relations.perhaps_only_some a.wide b.wide f a.goes b.goes b.first sane.opening apart p.front q.front r rest x y q.text begins p.only q.only;
    }

    beyond_part : (l : Bool) (front rest : List T) → Beyond l a front rest → Beyond l (perhaps a b f) front rest
    beyond_part false front rest h = relations.perhaps_never_first a.wide b.wide f a.goes b.goes b.first sane.opening apart front rest h
    beyond_part true front [] h = h
    beyond_part true front (t ∷ rest) h = relations.perhaps_begins_first a.wide b.wide f (front ++ t ∷ []) h

    pub stuck_perhaps_first : (l : Bool) (ts rest : List T) → Stuck l a ts rest → Stuck l (perhaps a b f) ts rest
    stuck_perhaps_first l ts rest p = record {
      front = p.front;
      text = p.text;
      begins = relations.perhaps_begins_first a.is b.is f p.front p.begins;
      none = relations.perhaps_never_first a.is b.is f a.goes b.goes b.first (opens b sane) apart p.front rest p.none;
      beyond = beyond_part l p.front rest p.beyond;
    }

    module _ (sane_a : Sane a) where
      beyond_rest : (l : Bool) (front front' r rest : List T) (x : A) → r ≡ front' ++ rest → Starts b.first r → a.is front x → Only a.wide a.goes front r x → Beyond l b front' rest
          → Beyond l (perhaps a b f) (front ++ front') rest
      beyond_rest false front front' r rest x text begins p only h =
          relations.perhaps_never_later a.wide b.wide f a.goes b.goes b.first sane.opening apart front front' r rest x text begins only h
      beyond_rest true front front' r [] x text begins p only h = h
      beyond_rest true front front' r (t ∷ rest) x text begins p only h =
          subst (Begins (perhaps a b f).wide) (sym (append_assoc front front' (t ∷ [])))
          (relations.perhaps_begins_later a.wide b.wide f front (front' ++ t ∷ []) x (sane_a.within front x p) h)

      pub stuck_perhaps_later : (l : Bool) (ts r rest : List T) (x : A) → Took a ts x r → Starts b.first r → Stuck l b r rest → Stuck l (perhaps a b f) ts rest
      stuck_perhaps_later l ts r rest x p begins q = record {
        front = p.front ++ q.front;
        text = p.text ∙ ap (λ s. p.front ++ s) q.text ∙ sym (append_assoc p.front q.front rest);
        begins = relations.perhaps_begins_later a.is b.is f p.front q.front x p.is q.begins;
        none = relations.perhaps_never_later a.is b.is f a.goes b.goes b.first (opens b sane) apart p.front q.front r rest x q.text begins (only_is a sane_a p.front r x p.only) q.none;
        beyond = beyond_rest l p.front q.front r rest x q.text begins p.is p.only q.beyond;
      }

-- a | b
module _ {T A : Type 0} (a b : Rule T A) where
  pub either_sane : Sane a → Sane b → Sane (either a b)
  either_sane p q = record {
    opening = record {
      opens = λ ts z w. elim w [ inl h ↦ starts_left a.first b.first ts (p.opening.opens ts z h) | inr h ↦ starts_right a.first b.first ts (q.opening.opens ts z h) ];
    };
    within = λ ts z w. elim w [ inl h ↦ inl (p.within ts z h) | inr h ↦ inr (q.within ts z h) ];
    some = relations.either_begins_left a.is b.is [] p.some;
  }

  module _ (sane : Sane b) (apart : Apart a.first b.first) where
    pub took_either_left : (ts rest : List T) (x : A) → Starts a.first ts → Took a ts x rest → Took (either a b) ts x rest
    took_either_left ts rest x begins p = record {
      front = p.front;
      text = p.text;
      is = inl p.is;
      only = relations.either_only_left a.wide b.wide a.first b.first a.goes b.goes sane.opening apart ts p.front rest x p.text begins p.only;
    }

    beyond_one : (l : Bool) (ts front rest : List T) → ts ≡ front ++ rest → Starts a.first ts → Beyond l a front rest → Beyond l (either a b) front rest
    beyond_one false ts front rest text begins h = relations.either_never_left a.wide b.wide a.first b.first a.goes b.goes sane.opening apart ts front rest text begins h
    beyond_one true ts front [] text begins h = h
    beyond_one true ts front (t ∷ rest) text begins h = relations.either_begins_left a.wide b.wide (front ++ t ∷ []) h

    pub stuck_either_left : (l : Bool) (ts rest : List T) → Starts a.first ts → Stuck l a ts rest → Stuck l (either a b) ts rest
    stuck_either_left l ts rest begins p = record {
      front = p.front;
      text = p.text;
      begins = relations.either_begins_left a.is b.is p.front p.begins;
      none = relations.either_never_left a.is b.is a.first b.first a.goes b.goes (opens b sane) apart ts p.front rest p.text begins p.none;
      beyond = beyond_one l ts p.front rest p.text begins p.beyond;
    }

  module _ (sane : Sane a) where
    pub took_either_right : (ts rest : List T) (x : A) → Stops a.first ts → Took b ts x rest → Took (either a b) ts x rest
    took_either_right ts rest x stop p = record {
      front = p.front;
      text = p.text;
      is = inr p.is;
      only = relations.either_only_right a.wide b.wide a.first b.first a.goes b.goes sane.opening ts p.front rest x p.text stop p.only;
    }

    beyond_other : (l : Bool) (ts front rest : List T) → ts ≡ front ++ rest → Stops a.first ts → Beyond l b front rest → Beyond l (either a b) front rest
    beyond_other false ts front rest text stop h = relations.either_never_right a.wide b.wide a.first b.first a.goes b.goes sane.opening ts front rest text stop h
    beyond_other true ts front [] text stop h = h
    beyond_other true ts front (t ∷ rest) text stop h = relations.either_begins_right a.wide b.wide (front ++ t ∷ []) h

    pub stuck_either_right : (l : Bool) (ts rest : List T) → Stops a.first ts → Stuck l b ts rest → Stuck l (either a b) ts rest
    stuck_either_right l ts rest stop p = record {
      front = p.front;
      text = p.text;
      begins = relations.either_begins_right a.is b.is p.front p.begins;
      none = relations.either_never_right a.is b.is a.first b.first a.goes b.goes (opens a sane) ts p.front rest p.text stop p.none;
      beyond = beyond_other l ts p.front rest p.text stop p.beyond;
    }

-- a, whose tree becomes another
module _ {T A B : Type 0} (a : Rule T A) (f : A → B) where
  pub mapped_sane : Sane a → Sane (mapped a f)
  mapped_sane p = record {
    opening = relations.mapped_opening a.wide f a.first p.opening;
    within = λ ts z w. record { x = w.x; inside = p.within ts w.x w.inside; value = w.value };
    some = relations.mapped_begins a.is f [] p.some;
  }

  pub took_mapped : (ts rest : List T) (x : A) → Took a ts x rest → Took (mapped a f) ts (f x) rest
  took_mapped ts rest x p = record {
    front = p.front;
    text = p.text;
    is = record { x = x; inside = p.is; value = refl };
    only = relations.mapped_only a.wide f a.goes p.front rest x p.only;
  }

  beyond_mapped : (l : Bool) (front rest : List T) → Beyond l a front rest → Beyond l (mapped a f) front rest
  beyond_mapped false front rest h = relations.mapped_never a.wide f a.goes front rest h
  beyond_mapped true front [] h = h
  beyond_mapped true front (t ∷ rest) h = relations.mapped_begins a.wide f (front ++ t ∷ []) h

  pub stuck_mapped : (l : Bool) (ts rest : List T) → Stuck l a ts rest → Stuck l (mapped a f) ts rest
  stuck_mapped l ts rest p = record {
    front = p.front;
    text = p.text;
    begins = relations.mapped_begins a.is f p.front p.begins;
    none = relations.mapped_never a.is f a.goes p.front rest p.none;
    beyond = beyond_mapped l p.front rest p.beyond;
  }

-- a, or in the larger language a token that passes
module _ {T A : Type 0} (a : Rule T A) (test : T → Bool) where
  pub stands_sane : Sane a → Sane (stands a test)
  stands_sane p = record {
    opening = record {
      opens = λ ts z w. elim w [
        | inl h ↦ starts_left a.first test ts (p.opening.opens ts z h)
        | inr h ↦ starts_right a.first test ts (let P : List T → Type 0 = Starts test in subst P (sym h.text) h.passes)
      ];
    };
    within = λ ts z w. inl (p.within ts z w);
    some = p.some;
  }

  module _ (apart : Apart a.first test) where
    -- no token that stands for it begins as it does
    not_single : (ts front rest next us vs : List T) → ts ≡ front ++ rest → SameHead rest next → Starts a.first ts → Single test us → us ++ vs ≡ front ++ next → ⊥
    not_single ts front rest next us vs text same begins h e =
        let P : List T → Type 0 = Starts test in
        starts_or_stops a.first (front ++ next) (starts_front a.first ts front rest next text same begins)
        (apart_stops a.first test (front ++ next) apart (subst P e (starts_append test us vs (subst P (sym h.text) h.passes))))

    pub took_stands : (ts rest : List T) (x : A) → Starts a.first ts → Took a ts x rest → Took (stands a test) ts x rest
    took_stands ts rest x begins p = record {
      front = p.front;
      text = p.text;
      is = p.is;
      only = record {
        only = λ next us vs y same w stops text. elim w [
          | inl h ↦ p.only.only next us vs y same h stops text
          | inr h ↦ absurd (not_single ts p.front rest next us vs p.text same begins h text)
        ];
      };
    }

    beyond_stands : (l : Bool) (ts front rest : List T) → ts ≡ front ++ rest → Starts a.first ts → Beyond l a front rest → Beyond l (stands a test) front rest
    beyond_stands false ts front rest text' begins p = record {
      never = λ next us vs y same w stops text. elim w [
        | inl h ↦ p.never next us vs y same h stops text
        | inr h ↦ not_single ts front rest next us vs text' same begins h text
      ];
    }
    beyond_stands true ts front [] text begins h = h
    beyond_stands true ts front (t ∷ rest) text begins (more, x, h) = (more, x, inl h)

    pub stuck_stands : (l : Bool) (ts rest : List T) → Starts a.first ts → Stuck l a ts rest → Stuck l (stands a test) ts rest
    stuck_stands l ts rest begins p = record {
      front = p.front;
      text = p.text;
      begins = p.begins;
      none = p.none;
      beyond = beyond_stands l ts p.front rest p.text begins p.beyond;
    }

    -- the token that stands for it
    pub stuck_there : Sane a → (t : T) (rest : List T) → test t ≡ true → Stuck true (stands a test) (t ∷ rest) (t ∷ rest)
    stuck_there sane t rest passes = record {
      front = [];
      text = refl;
      begins = sane.some;
      none = relations.never_here a.is a.goes a.first (opens a sane) (t ∷ rest) (apart t passes);
      beyond = ([], sane.some.1, inr (record { token = t; text = refl; passes = passes }));
    }

pub took_shorter : {T A : Type 0} (r : Rule T A) (ts rest : List T) (x : A) → Took r ts x rest → length rest ≤ length ts
took_shorter r ts rest x p = omega (arith, length-append p.front rest, ap length p.text)
