-- Each word of a grammar reads any tokens, if its parts do: a text at their front, or up to where reading is stuck.
use Rattle.std.proofs.Common.{◌≡◌, ℕ, zero, suc, ◌<◌, ◌≤◌, Bool, true, false, List, [], ◌∷◌, length, length-append, Option, Some, None, is_some, ◌⊎◌, inl, inr, refl, ap, arith}
use Rattle.grammar_rules.specs.Rules.{Rule, Starts, Stops, Took, Stuck, one, both, chain, perhaps, either, mapped, stands}
use Rattle.grammar_rules.proofs.Lists.{stops_both}
use Rattle.grammar_rules.proofs.Laws as laws
use Rattle.grammar_rules.proofs.Laws.{Sane}
use Rattle.grammar_rules.proofs.Within.{Joint, Optional, Choice, Standing, Listing, Along, standing_sane, standing_there, listing_stuck, along_start, along_more, along_end, along_stuck}

-- A text of the rule is read at the front of the tokens, or reading is stuck.
pub data Outcome {T A : Type 0} (r : Rule T A) (ts : List T) : Type 0 where
  reads : (x : A) (rest : List T) → Took r ts x rest → Outcome r ts
  halts : (l : Bool) (rest : List T) → Stuck l r ts rest → Outcome r ts

-- The rule has an outcome at any tokens.
pub record Total {T A : Type 0} (r : Rule T A) : Type 0 where
  pub total : (ts : List T) → Outcome r ts

sides : {T : Type 0} (p : T → Bool) (ts : List T) → Starts p ts ⊎ Stops p ts
sides p [] = inr tt
sides p (t ∷ ts) = by (p t) refl
  where
    by : (b : Bool) → p t ≡ b → (p t ≡ true) ⊎ (p t ≡ false)
    by true e = inl e
    by false e = inr e

-- a token
module _ {T A : Type 0} (test : T → Option A) (sane : Sane (one test)) where
  token_outcome : (t : T) (ts : List T) (o : Option A) → test t ≡ o → Outcome (one test) (t ∷ ts)
  token_outcome t ts None e = halts false (t ∷ ts) (laws.stuck_at (one test) sane (t ∷ ts) (ap is_some e))
  token_outcome t ts (Some x) e = reads x ts (laws.took_one test t ts x e)

  one_outcome : (ts : List T) → Outcome (one test) ts
  one_outcome [] = halts false [] (laws.stuck_at (one test) sane [] tt)
  one_outcome (t ∷ ts) = token_outcome t ts (test t) refl

  pub one_total : Total (one test)
  one_total = record { total = one_outcome }

-- a, whose tree becomes another
module _ {T A B : Type 0} (a : Rule T A) (f : A → B) where
  mapped_outcome : (ts : List T) → Outcome a ts → Outcome (mapped a f) ts
  mapped_outcome ts (reads x rest p) = reads (f x) rest (laws.took_mapped a f ts rest x p)
  mapped_outcome ts (halts l rest p) = halts l rest (laws.stuck_mapped a f l ts rest p)

  pub mapped_total : Total a → Total (mapped a f)
  mapped_total h = record { total = λ ts. mapped_outcome ts (h.total ts) }

-- a b
module _ {T A B C : Type 0} {a : Rule T A} {b : Rule T B} {f : A → B → C} (j : Joint a b f) where
  second_outcome : (ts r : List T) (x : A) → Took a ts x r → Outcome b r → Outcome (both a b f) ts
  second_outcome ts r x p (reads y rest q) = reads (f x y) rest (laws.took_both a b f j.sane_b j.apart ts r rest x y p q)
  second_outcome ts r x p (halts l rest q) = halts l rest (laws.stuck_right a b f j.sane_b j.apart j.sane_a l ts r rest x p q)

  both_outcome : (ts : List T) → Total b → Outcome a ts → Outcome (both a b f) ts
  both_outcome ts q (reads x r p) = second_outcome ts r x p (q.total r)
  both_outcome ts q (halts l rest p) = halts l rest (laws.stuck_left a b f j.sane_b j.apart l ts rest p)

  pub joint_total : Total a → Total b → Total (both a b f)
  joint_total p q = record { total = λ ts. both_outcome ts q (p.total ts) }

-- a [b]
module _ {T A B : Type 0} {a : Rule T A} {b : Rule T B} {f : A → B → A} (j : Optional a b f) where
  later_outcome : (ts r : List T) (x : A) → Took a ts x r → Starts b.first r → Outcome b r → Outcome (perhaps a b f) ts
  later_outcome ts r x p begins (reads y rest q) = reads (f x y) rest (laws.took_perhaps_some a b f j.sane_b j.apart ts r rest x y p begins q)
  later_outcome ts r x p begins (halts l rest q) = halts l rest (laws.stuck_perhaps_later a b f j.sane_b j.apart j.sane_a l ts r rest x p begins q)

  behind_outcome : (ts r : List T) (x : A) → Took a ts x r → Total b → Starts b.first r ⊎ Stops b.first r → Outcome (perhaps a b f) ts
  behind_outcome ts r x p q (inl begins) = later_outcome ts r x p begins (q.total r)
  behind_outcome ts r x p q (inr stop) = reads x r (laws.took_perhaps_none a b f j.sane_b j.apart ts r x p stop)

  perhaps_outcome : (ts : List T) → Total b → Outcome a ts → Outcome (perhaps a b f) ts
  perhaps_outcome ts q (reads x r p) = behind_outcome ts r x p q (sides b.first r)
  perhaps_outcome ts q (halts l rest p) = halts l rest (laws.stuck_perhaps_first a b f j.sane_b j.apart l ts rest p)

  pub optional_total : Total a → Total b → Total (perhaps a b f)
  optional_total p q = record { total = λ ts. perhaps_outcome ts q (p.total ts) }

-- a | b
module _ {T A : Type 0} {a b : Rule T A} (j : Choice a b) where
  left_outcome : (ts : List T) → Starts a.first ts → Outcome a ts → Outcome (either a b) ts
  left_outcome ts begins (reads x rest p) = reads x rest (laws.took_either_left a b j.sane_b j.apart ts rest x begins p)
  left_outcome ts begins (halts l rest p) = halts l rest (laws.stuck_either_left a b j.sane_b j.apart l ts rest begins p)

  right_outcome : (ts : List T) → Stops a.first ts → Outcome b ts → Outcome (either a b) ts
  right_outcome ts stop (reads x rest p) = reads x rest (laws.took_either_right a b j.sane_a ts rest x stop p)
  right_outcome ts stop (halts l rest p) = halts l rest (laws.stuck_either_right a b j.sane_a l ts rest stop p)

  either_outcome : (ts : List T) → Total a → Total b → Starts a.first ts ⊎ Stops a.first ts → Outcome (either a b) ts
  either_outcome ts p q (inl begins) = left_outcome ts begins (p.total ts)
  either_outcome ts p q (inr stop) = right_outcome ts stop (q.total ts)

  pub choice_total : Total a → Total b → Total (either a b)
  choice_total p q = record { total = λ ts. either_outcome ts p q (sides a.first ts) }

-- a, or in the larger language a token that passes
module _ {T A : Type 0} {a : Rule T A} {test : T → Bool} (j : Standing a test) where
  inner_outcome : (ts : List T) → Starts a.first ts → Outcome a ts → Outcome (stands a test) ts
  inner_outcome ts begins (reads x rest p) = reads x rest (laws.took_stands a test j.apart ts rest x begins p)
  inner_outcome ts begins (halts l rest p) = halts l rest (laws.stuck_stands a test j.apart l ts rest begins p)

  outer_outcome : (ts : List T) → Stops a.first ts → Starts test ts ⊎ Stops test ts → Outcome (stands a test) ts
  outer_outcome ts stop (inl begins) = halts true ts (standing_there j ts begins)
  outer_outcome ts stop (inr over) = halts false ts (laws.stuck_at (stands a test) (standing_sane j) ts (stops_both a.first test ts stop over))

  stands_outcome : (ts : List T) → Total a → Starts a.first ts ⊎ Stops a.first ts → Outcome (stands a test) ts
  stands_outcome ts p (inl begins) = inner_outcome ts begins (p.total ts)
  stands_outcome ts p (inr stop) = outer_outcome ts stop (sides test ts)

  pub standing_total : Total a → Total (stands a test)
  standing_total p = record { total = λ ts. stands_outcome ts p (sides a.first ts) }

-- a {b}
module _ {T A B : Type 0} {a : Rule T A} {b : Rule T B} {f : A → B → A} (j : Listing a b f) where
  some_front : (p : T → Bool) (front : List T) → Starts p front → 0 < length front
  some_front p [] h = absurd h
  some_front p (t ∷ front) h = omega arith

  -- a part has a token at least
  part_shorter : (r rest : List T) (y : B) → Took b r y rest → length rest < length r
  part_shorter r rest y p =
      let some : 0 < length p.front = some_front b.first p.front ((laws.opens b j.sane_b).opens p.front y p.is) in
      omega (arith, some, length-append p.front rest, ap length p.text)

  none_left : (r : List T) → length r ≤ 0 → Starts b.first r → ⊥
  none_left [] l h = h
  none_left (t ∷ r) l h = absurd (omega (arith, l))

  abbrev FromThere : List T → ℕ → Type 0
  FromThere ts n = (r : List T) (x : A) → length r ≤ n → Along a b f ts x r → Outcome (chain a b f) ts

  part_outcome : (n : ℕ) (ts r : List T) (x : A) → FromThere ts n → length r ≤ suc n → Along a b f ts x r → Starts b.first r → Outcome b r → Outcome (chain a b f) ts
  part_outcome n ts r x more l w begins (reads y rest p) =
      more rest (f x y) (let s : length rest < length r = part_shorter r rest y p in omega (arith, l, s)) (along_more j w begins p)
  part_outcome n ts r x more l w begins (halts wide rest p) = halts wide rest (along_stuck j w begins wide rest p)

  along_outcome : (n : ℕ) (ts r : List T) (x : A) → Total b → FromThere ts n → length r ≤ suc n → Along a b f ts x r → Starts b.first r ⊎ Stops b.first r → Outcome (chain a b f) ts
  along_outcome n ts r x q more l w (inl begins) = part_outcome n ts r x more l w begins (q.total r)
  along_outcome n ts r x q more l w (inr stop) = reads x r (along_end j w stop)

  end_outcome : (ts r : List T) (x : A) → length r ≤ 0 → Along a b f ts x r → Starts b.first r ⊎ Stops b.first r → Outcome (chain a b f) ts
  end_outcome ts r x l w (inl begins) = absurd (none_left r l begins)
  end_outcome ts r x l w (inr stop) = reads x r (along_end j w stop)

  parts_outcome : (ts : List T) → Total b → (n : ℕ) → FromThere ts n
  parts_outcome ts q zero r x l w = end_outcome ts r x l w (sides b.first r)
  parts_outcome ts q (suc n) r x l w = along_outcome n ts r x q (parts_outcome ts q n) l w (sides b.first r)

  chain_outcome : (ts : List T) → Total b → Outcome a ts → Outcome (chain a b f) ts
  chain_outcome ts q (reads x r p) = parts_outcome ts q (length r) r x (omega arith) (along_start j p)
  chain_outcome ts q (halts l rest p) = halts l rest (listing_stuck j l rest p)

  pub listing_total : Total a → Total b → Total (chain a b f)
  listing_total p q = record { total = λ ts. chain_outcome ts q (p.total ts) }
