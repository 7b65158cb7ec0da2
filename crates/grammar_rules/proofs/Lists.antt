-- Lists of tokens: how they begin, and which token comes next.
use Rattle.std.proofs.Common.{◌≡◌, Bool, true, false, ◌||◌, List, [], ◌∷◌, ◌++◌, refl, sym, ◌∙◌, ap, subst}
use Rattle.grammar_rules.specs.Rules.{Starts, Stops, SameHead}

-- No token passes both tests.
abbrev pub Apart : {T : Type 0} → (T → Bool) → (T → Bool) → Type 0
Apart {T} p q = (t : T) → q t ≡ true → p t ≡ false

pub starts_append : {T : Type 0} (p : T → Bool) (us vs : List T) → Starts p us → Starts p (us ++ vs)
starts_append p [] vs h = absurd h
starts_append p (t ∷ us) vs h = h

pub starts_or_stops : {T : Type 0} (p : T → Bool) (us : List T) → Starts p us → Stops p us → ⊥
starts_or_stops p [] h k = h
starts_or_stops p (t ∷ us) h k = cc

pub apart_stops : {T : Type 0} (p q : T → Bool) (us : List T) → Apart p q → Starts q us → Stops p us
apart_stops p q [] apart h = absurd h
apart_stops p q (t ∷ us) apart h = apart t h

pub same_refl : {T : Type 0} (rs : List T) → SameHead rs rs
same_refl [] = tt
same_refl (t ∷ rs) = refl

pub same_under : {T : Type 0} (us rs ns : List T) → SameHead rs ns → SameHead (us ++ rs) (us ++ ns)
same_under [] rs ns h = h
same_under (t ∷ us) rs ns h = refl

pub same_starts : {T : Type 0} (p : T → Bool) (rs ns : List T) → SameHead rs ns → Starts p rs → Starts p ns
same_starts p [] ns h k = absurd k
same_starts p (t ∷ rs) [] h k = absurd h
same_starts p (t ∷ rs) (u ∷ ns) h k = ap p (sym h) ∙ k

pub same_stops : {T : Type 0} (p : T → Bool) (rs ns : List T) → SameHead rs ns → Stops p rs → Stops p ns
same_stops p [] [] h k = tt
same_stops p [] (u ∷ ns) h k = absurd h
same_stops p (t ∷ rs) [] h k = absurd h
same_stops p (t ∷ rs) (u ∷ ns) h k = ap p (sym h) ∙ k

-- the front of a text begins with what the text begins with
pub starts_front : {T : Type 0} (p : T → Bool) (ts front rest next : List T) → ts ≡ front ++ rest → SameHead rest next → Starts p ts → Starts p (front ++ next)
starts_front p ts front rest next text same h =
    let P : List _ → Type 0 = Starts p in
    same_starts p (front ++ rest) (front ++ next) (same_under front rest next same) (subst P text h)

pub stops_front : {T : Type 0} (p : T → Bool) (ts front rest next : List T) → ts ≡ front ++ rest → SameHead rest next → Stops p ts → Stops p (front ++ next)
stops_front p ts front rest next text same h =
    let P : List _ → Type 0 = Stops p in
    same_stops p (front ++ rest) (front ++ next) (same_under front rest next same) (subst P text h)

or_left : (p q : Bool) → p || q ≡ false → p ≡ false
or_left false q h = refl
or_left true q h = cc

or_right : (p q : Bool) → p || q ≡ false → q ≡ false
or_right false q h = h
or_right true q h = cc

true_left : (p q : Bool) → p ≡ true → p || q ≡ true
true_left false q e = cc
true_left true q e = refl

true_right : (p q : Bool) → q ≡ true → p || q ≡ true
true_right false q e = e
true_right true q e = refl

pub stops_left : {T : Type 0} (p q : T → Bool) (ts : List T) → Stops (λ t. p t || q t) ts → Stops p ts
stops_left p q [] h = tt
stops_left p q (t ∷ ts) h = or_left (p t) (q t) h

pub stops_right : {T : Type 0} (p q : T → Bool) (ts : List T) → Stops (λ t. p t || q t) ts → Stops q ts
stops_right p q [] h = tt
stops_right p q (t ∷ ts) h = or_right (p t) (q t) h

pub starts_left : {T : Type 0} (p q : T → Bool) (ts : List T) → Starts p ts → Starts (λ t. p t || q t) ts
starts_left p q [] h = h
starts_left p q (t ∷ ts) h = true_left (p t) (q t) h

pub starts_right : {T : Type 0} (p q : T → Bool) (ts : List T) → Starts q ts → Starts (λ t. p t || q t) ts
starts_right p q [] h = h
starts_right p q (t ∷ ts) h = true_right (p t) (q t) h

-- where it starts with neither it stops at both
pub stops_both : {T : Type 0} (p q : T → Bool) (ts : List T) → Stops p ts → Stops q ts → Stops (λ t. p t || q t) ts
stops_both p q [] h k = tt
stops_both p q (t ∷ ts) h k = neither (p t) (q t) h k
  where
    neither : (x y : Bool) → x ≡ false → y ≡ false → x || y ≡ false
    neither false y h k = k
    neither true y h k = cc
