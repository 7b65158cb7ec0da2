-- Whole texts: what a reading of all tokens says, and where the fault of a text is.
use Rattle.std.proofs.Common.{◌≡◌, Bool, true, false, List, [], ◌∷◌, ◌++◌, refl, sym, ◌∙◌, ap, subst, append_assoc}
use Rattle.std.proofs.lemmas.List.{append_cancel_left, append-nil}
use Rattle.grammar_rules.specs.Rules.{Rule, Begins, Only, Never, Took, Stuck, Beyond, IsBeyond, NoneOn, Fault}
use Rattle.grammar_rules.proofs.Laws.{Sane}
use Rattle.grammar_rules.proofs.Relations.{begins_front}

-- a front, the next token and what may come after it
onward : {T : Type 0} (front : List T) (t : T) (more : List T) → (front ++ t ∷ []) ++ more ≡ front ++ (t ∷ more)
onward front t more = append_assoc front (t ∷ []) more

module _ {T A : Type 0} (R : List T → A → Type 0) (goes : T → Bool) where
  -- what can't go on with the next token doesn't begin with it
  pub none_on : (front rest : List T) → Never R goes front rest → NoneOn R front rest
  none_on front [] p = λ x w. p.never [] front [] x tt w tt refl
  none_on front (t ∷ rest) p = λ (more, y, w).
      p.never (t ∷ more) ((front ++ t ∷ []) ++ more) [] y refl w tt (append-nil ((front ++ t ∷ []) ++ more) ∙ onward front t more)

  -- after the only reading nothing goes on
  pub none_over : (front : List T) (t : T) (rest : List T) (x : A) → Only R goes front (t ∷ rest) x → Begins R (front ++ t ∷ []) → ⊥
  none_over front t rest x p (more, y, w) =
      let same : ((front ++ t ∷ []) ++ more ≡ front) × (y ≡ x) = p.only (t ∷ more) ((front ++ t ∷ []) ++ more) [] y refl w tt (append-nil ((front ++ t ∷ []) ++ more) ∙ onward front t more) in
      let bad : t ∷ more ≡ [] = append_cancel_left front (t ∷ more) [] (sym (onward front t more) ∙ same.0 ∙ sym (append-nil front)) in cc

module _ {T A : Type 0} (r : Rule T A) (sane : Sane r) where
  pub whole : (ts : List T) (x : A) → Took r ts x [] → r.is ts x
  whole ts x p = let P : List T → Type 0 = λ s. r.is s x in subst P (sym (p.text ∙ append-nil p.front)) p.is

  pub whole_only : (ts : List T) (x y : A) → Took r ts x [] → r.is ts y → y ≡ x
  whole_only ts x y p w = (p.only.only [] ts [] y tt (sane.within ts y w) tt (append-nil ts ∙ p.text)).1

  -- what is left over is a fault
  pub left_over : (ts rest : List T) (t : T) (x : A) → Took r ts x (t ∷ rest) → Fault false r ts (t ∷ rest)
  left_over ts rest t x p = record {
    front = p.front;
    text = p.text;
    begins = ([], x, (let P : List T → Type 0 = λ s. r.is s x in subst P (sym (append-nil p.front)) p.is));
    none = λ (more, y, w). none_over r.wide r.goes p.front t rest x p.only (more, y, sane.within ((p.front ++ t ∷ []) ++ more) y w);
    beyond = none_over r.wide r.goes p.front t rest x p.only;
  }

  beyond_fault : (l : Bool) (front rest : List T) → Beyond l r front rest → IsBeyond l r.wide front rest
  beyond_fault false front [] h = tt
  beyond_fault false front (t ∷ rest) h = none_on r.wide r.goes front (t ∷ rest) h
  beyond_fault true front [] h = h
  beyond_fault true front (t ∷ rest) h = h

  pub stuck_fault : (l : Bool) (ts rest : List T) → Stuck l r ts rest → Fault l r ts rest
  stuck_fault l ts rest p = record { front = p.front; text = p.text; begins = p.begins; none = none_on r.is r.goes p.front rest p.none; beyond = beyond_fault l p.front rest p.beyond }

  -- a text with a fault is no text of the rule
  not_whole : (front rest : List T) (x : A) → NoneOn r.is front rest → r.is (front ++ rest) x → ⊥
  not_whole front [] x none w = none x (subst (λ s. r.is s x) (append-nil front) w)
  not_whole front (t ∷ rest) x none w = none (rest, x, subst (λ s. r.is s x) (sym (onward front t rest)) w)

  pub fault_refuses : (l : Bool) (ts rest : List T) (x : A) → Fault l r ts rest → r.is ts x → ⊥
  fault_refuses l ts rest x p w = not_whole p.front rest x p.none (subst (λ s. r.is s x) p.text w)

-- One of two fronts of a text is longer by some tokens, or both are one.
data Compared {T : Type 0} (us rest vs rest' : List T) : Type 0 where
  same : us ≡ vs → rest ≡ rest' → Compared us rest vs rest'
  longer : (t : T) (more : List T) → us ≡ vs ++ (t ∷ more) → rest' ≡ t ∷ (more ++ rest) → Compared us rest vs rest'
  shorter : (t : T) (more : List T) → vs ≡ us ++ (t ∷ more) → rest ≡ t ∷ (more ++ rest') → Compared us rest vs rest'

compared_under : {T : Type 0} (t : T) (us rest vs rest' : List T) → Compared us rest vs rest' → Compared (t ∷ us) rest (t ∷ vs) rest'
compared_under t us rest vs rest' (same e f) = same (ap (λ s. t ∷ s) e) f
compared_under t us rest vs rest' (longer u more e f) = longer u more (ap (λ s. t ∷ s) e) f
compared_under t us rest vs rest' (shorter u more e f) = shorter u more (ap (λ s. t ∷ s) e) f

compared : {T : Type 0} (us rest vs rest' : List T) → us ++ rest ≡ vs ++ rest' → Compared us rest vs rest'
compared [] rest [] rest' e = same refl e
compared [] rest (v ∷ vs) rest' e = shorter v vs refl e
compared (u ∷ us) rest [] rest' e = longer u us refl (sym e)
compared (u ∷ us) rest (v ∷ vs) rest' e =
    let head : u ≡ v = cc in
    let tails : us ++ rest ≡ vs ++ rest' = cc in
    subst (λ z. Compared (u ∷ us) rest (z ∷ vs) rest') head (compared_under u us rest vs rest' (compared us rest vs rest' tails))

module _ {T A : Type 0} (r : Rule T A) where
  -- a front that begins a text goes on with each of its tokens
  goes_on : (front : List T) (t : T) (more : List T) → Begins r.is (front ++ (t ∷ more)) → Begins r.is (front ++ t ∷ [])
  goes_on front t more h = begins_front r.is (front ++ t ∷ []) more (subst (Begins r.is) (sym (onward front t more)) h)

  no_longer : (front rest long rest' : List T) (t : T) (more : List T) → NoneOn r.is front rest → Begins r.is long → long ≡ front ++ (t ∷ more) → rest ≡ t ∷ (more ++ rest') → ⊥
  no_longer front rest long rest' t more none begins e f =
      subst (NoneOn r.is front) f none (goes_on front t more (subst (Begins r.is) e begins))

  pub same_beyond : (l m : Bool) (front rest : List T) → IsBeyond l r.wide front rest → IsBeyond m r.wide front rest → l ≡ m
  same_beyond false false front rest h k = refl
  same_beyond true true front rest h k = refl
  same_beyond false true front [] h k = absurd k
  same_beyond false true front (t ∷ rest) h k = absurd (h k)
  same_beyond true false front [] h k = absurd h
  same_beyond true false front (t ∷ rest) h k = absurd (k h)

  -- A text has one fault.
  pub fault_is_one : (l m : Bool) (ts rest rest' : List T) → Fault l r ts rest → Fault m r ts rest' → (rest ≡ rest') × (l ≡ m)
  fault_is_one l m ts rest rest' p q = elim (compared p.front rest q.front rest' (sym p.text ∙ q.text)) [
    | same e f ↦ (
      f,
      same_beyond l m q.front rest' (subst (λ s. IsBeyond l r.wide s rest') e (subst (IsBeyond l r.wide p.front) f p.beyond)) q.beyond,
    )
    | longer t more e f ↦ absurd (no_longer q.front rest' p.front rest t more q.none p.begins e f)
    | shorter t more e f ↦ absurd (no_longer p.front rest q.front rest' t more p.none q.begins e f)
  ]

  -- a fault in the first tokens of a text is the fault of the text
  none_more : (front : List T) (t : T) (rest after : List T) → NoneOn r.is front (t ∷ rest) → NoneOn r.is front ((t ∷ rest) ++ after)
  none_more front t rest after h = h

  pub fault_extends : (l : Bool) (ts : List T) (t : T) (rest after : List T) → Fault l r ts (t ∷ rest) → Fault l r (ts ++ after) (t ∷ (rest ++ after))
  fault_extends l ts t rest after p = record {
    front = p.front;
    text = ap (λ s. s ++ after) p.text ∙ append_assoc p.front (t ∷ rest) after;
    begins = p.begins;
    none = p.none;
    beyond = subst_beyond l p.front t rest after p.beyond;
  }
    where
      subst_beyond : (l : Bool) (front : List T) (t : T) (rest after : List T) → IsBeyond l r.wide front (t ∷ rest) → IsBeyond l r.wide front (t ∷ (rest ++ after))
      subst_beyond false front t rest after h = h
      subst_beyond true front t rest after h = h

  -- where all of the first tokens begin a text, the fault comes no earlier than behind them
  pub fault_behind : (l : Bool) (ts after rest : List T) → Begins r.is ts → Fault l r (ts ++ after) rest → (front : List T) × (after ≡ front ++ rest)
  fault_behind l ts after rest begins p = elim (compared ts after p.front rest p.text) [
    | same e f ↦ ([], f)
    | longer t more e f ↦ absurd (no_longer p.front rest ts after t more p.none begins e f)
    | shorter t more e f ↦ (t ∷ more, f)
  ]
