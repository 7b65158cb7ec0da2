-- Reading a rule part by part: what is read of a part from a place on, and where it is stuck, is what is read of the whole.
-- The facts that the law of a word asks for stand in one record for each word, so that a grammar states them once.
use Rattle.std.proofs.Common.{Bool, true, List, [], ◌∷◌}
use Rattle.grammar_rules.specs.Rules.{Rule, Starts, Stops, Took, Stuck, both, chain, perhaps, either, mapped, stands}
use Rattle.grammar_rules.proofs.Lists.{Apart}
use Rattle.grammar_rules.proofs.Laws as laws
use Rattle.grammar_rules.proofs.Laws.{Sane, Chaining}
use Rattle.grammar_rules.proofs.Tellings as tellings
use Rattle.grammar_rules.proofs.Tellings.{Told}

-- What is read of the part from r on is read of the whole from ts on, with the tree that k makes of it.
pub record Within {T A B : Type 0} (whole : Rule T A) (part : Rule T B) (k : B → A) (ts r : List T) : Type 0 where
  pub took : (x : B) (left : List T) → Took part r x left → Took whole ts (k x) left
  pub stuck : (l : Bool) (left : List T) → Stuck l part r left → Stuck l whole ts left

pub whole_within : {T A : Type 0} (r : Rule T A) (ts : List T) → Within r r (λ x. x) ts ts
whole_within r ts = record { took = λ x left p. p; stuck = λ l left p. p }

-- a b: the second is told from the first by its next token
pub record Joint {T A B C : Type 0} (a : Rule T A) (b : Rule T B) (f : A → B → C) : Type 0 where
  pub sane_a : Sane a
  pub sane_b : Sane b
  pub apart : Apart a.goes b.first

module _ {T A B C : Type 0} {a : Rule T A} {b : Rule T B} {f : A → B → C} (j : Joint a b f) where
  pub joint_sane : Sane (both a b f)
  joint_sane = laws.both_sane a b f j.sane_a j.sane_b

  pub joint_told : Told a → Told b → Told (both a b f)
  joint_told p q = tellings.both_told a b f j.sane_b j.apart p q

  module _ {D : Type 0} {whole : Rule T D} {k : C → D} {ts r : List T} (w : Within whole (both a b f) k ts r) where
    -- the first part was read
    pub second : {x : A} {rest : List T} → Took a r x rest → Within whole b (λ y. k (f x y)) ts rest
    second {x} {rest} p = record {
      took = λ y left q. w.took (f x y) left (laws.took_both a b f j.sane_b j.apart r rest left x y p q);
      stuck = λ l left q. w.stuck l left (laws.stuck_right a b f j.sane_b j.apart j.sane_a l r rest left x p q);
    }

    -- the first part is stuck
    pub stuck_first : (l : Bool) (left : List T) → Stuck l a r left → Stuck l whole ts left
    stuck_first l left p = w.stuck l left (laws.stuck_left a b f j.sane_b j.apart l r left p)

-- a [b]
pub record Optional {T A B : Type 0} (a : Rule T A) (b : Rule T B) (f : A → B → A) : Type 0 where
  pub sane_a : Sane a
  pub sane_b : Sane b
  pub apart : Apart a.goes b.first

module _ {T A B : Type 0} {a : Rule T A} {b : Rule T B} {f : A → B → A} (j : Optional a b f) where
  pub optional_sane : Sane (perhaps a b f)
  optional_sane = laws.perhaps_sane a b f j.sane_a j.sane_b

  pub optional_told : Told a → Told b → Told (perhaps a b f)
  optional_told p q = tellings.perhaps_told a b f j.sane_b j.apart p q

  module _ {D : Type 0} {whole : Rule T D} {k : A → D} {ts r : List T} (w : Within whole (perhaps a b f) k ts r) where
    -- the first part was read, and the second follows
    pub optional_there : {x : A} {rest : List T} → Took a r x rest → Starts b.first rest → Within whole b (λ y. k (f x y)) ts rest
    optional_there {x} {rest} p begins = record {
      took = λ y left q. w.took (f x y) left (laws.took_perhaps_some a b f j.sane_b j.apart r rest left x y p begins q);
      stuck = λ l left q. w.stuck l left (laws.stuck_perhaps_later a b f j.sane_b j.apart j.sane_a l r rest left x p begins q);
    }

    pub optional_none : {x : A} {rest : List T} → Took a r x rest → Stops b.first rest → Took whole ts (k x) rest
    optional_none {x} {rest} p stop = w.took x rest (laws.took_perhaps_none a b f j.sane_b j.apart r rest x p stop)

    pub optional_stuck : (l : Bool) (left : List T) → Stuck l a r left → Stuck l whole ts left
    optional_stuck l left p = w.stuck l left (laws.stuck_perhaps_first a b f j.sane_b j.apart l r left p)

-- a | b: they are told apart by the next token
pub record Choice {T A : Type 0} (a b : Rule T A) : Type 0 where
  pub sane_a : Sane a
  pub sane_b : Sane b
  pub apart : Apart a.first b.first

module _ {T A : Type 0} {a b : Rule T A} (j : Choice a b) where
  pub choice_sane : Sane (either a b)
  choice_sane = laws.either_sane a b j.sane_a j.sane_b

  pub choice_told : Told a → Told b → Told (either a b)
  choice_told p q = tellings.either_told a b j.sane_a j.sane_b j.apart p q

  module _ {D : Type 0} {whole : Rule T D} {k : A → D} {ts r : List T} (w : Within whole (either a b) k ts r) where
    pub choice_left : Starts a.first r → Within whole a k ts r
    choice_left begins = record {
      took = λ x left p. w.took x left (laws.took_either_left a b j.sane_b j.apart r left x begins p);
      stuck = λ l left p. w.stuck l left (laws.stuck_either_left a b j.sane_b j.apart l r left begins p);
    }

    pub choice_right : Stops a.first r → Within whole b k ts r
    choice_right stop = record {
      took = λ x left p. w.took x left (laws.took_either_right a b j.sane_a r left x stop p);
      stuck = λ l left p. w.stuck l left (laws.stuck_either_right a b j.sane_a l r left stop p);
    }

-- a, whose tree becomes another
module _ {T A B D : Type 0} (a : Rule T A) (f : A → B) {whole : Rule T D} {k : B → D} {ts r : List T} (w : Within whole (mapped a f) k ts r) where
  pub inside : Within whole a (λ x. k (f x)) ts r
  inside = record {
    took = λ x left p. w.took (f x) left (laws.took_mapped a f r left x p);
    stuck = λ l left p. w.stuck l left (laws.stuck_mapped a f l r left p);
  }

-- a, or in the larger language a token that passes
pub record Standing {T A : Type 0} (a : Rule T A) (test : T → Bool) : Type 0 where
  pub sane : Sane a
  pub apart : Apart a.first test

module _ {T A : Type 0} {a : Rule T A} {test : T → Bool} (j : Standing a test) where
  pub standing_sane : Sane (stands a test)
  standing_sane = laws.stands_sane a test j.sane

  pub standing_told : Told a → Told (stands a test)
  standing_told p = tellings.stands_told a test j.sane j.apart p

  module _ {D : Type 0} {whole : Rule T D} {k : A → D} {ts r : List T} (w : Within whole (stands a test) k ts r) where
    pub standing_in : Starts a.first r → Within whole a k ts r
    standing_in begins = record {
      took = λ x left p. w.took x left (laws.took_stands a test j.apart r left x begins p);
      stuck = λ l left p. w.stuck l left (laws.stuck_stands a test j.apart l r left begins p);
    }

  -- the token that stands for it
  pub standing_there : (ts : List T) → Starts test ts → Stuck true (stands a test) ts ts
  standing_there [] h = absurd h
  standing_there (t ∷ ts) h = laws.stuck_there a test j.apart j.sane t ts h

-- a {b}
pub record Listing {T A B : Type 0} (a : Rule T A) (b : Rule T B) (f : A → B → A) : Type 0 where
  pub sane_a : Sane a
  pub sane_b : Sane b
  pub apart : Apart a.goes b.first
  pub apart_b : Apart b.goes b.first

-- What a loop over the parts of a chain keeps: x is read as far as r.
pub record Along {T A B : Type 0} (a : Rule T A) (b : Rule T B) (f : A → B → A) (ts : List T) (x : A) (r : List T) : Type 0 where
  pub chaining : Chaining a b f ts x r

module _ {T A B : Type 0} {a : Rule T A} {b : Rule T B} {f : A → B → A} (j : Listing a b f) where
  pub listing_sane : Sane (chain a b f)
  listing_sane = laws.chain_sane a b f j.sane_a j.sane_b

  pub listing_told : Told a → Told b → Told (chain a b f)
  listing_told p q = tellings.chain_told a b f j.sane_b j.apart p q j.sane_a j.apart_b

  pub along_start : {ts r : List T} {x : A} → Took a ts x r → Along a b f ts x r
  along_start {ts} {r} {x} p = record { chaining = laws.chaining_start a b f j.sane_b j.sane_a j.apart ts r x p }

  pub along_more : {ts r rest : List T} {x : A} {y : B} → Along a b f ts x r → Starts b.first r → Took b r y rest → Along a b f ts (f x y) rest
  along_more {ts} {r} {rest} {x} {y} w begins p = record { chaining = laws.chaining_more a b f j.sane_b j.apart_b ts r rest x y w.chaining begins p }

  pub along_end : {ts r : List T} {x : A} → Along a b f ts x r → Stops b.first r → Took (chain a b f) ts x r
  along_end {ts} {r} {x} w stop = laws.chaining_end a b f j.sane_b ts r x w.chaining stop

  pub along_stuck : {ts r : List T} {x : A} → Along a b f ts x r → Starts b.first r → (l : Bool) (left : List T) → Stuck l b r left → Stuck l (chain a b f) ts left
  along_stuck {ts} {r} {x} w begins l left p = laws.chaining_stuck a b f j.sane_b j.apart_b l ts r left x w.chaining begins p

  pub listing_stuck : {ts : List T} → (l : Bool) (left : List T) → Stuck l a ts left → Stuck l (chain a b f) ts left
  listing_stuck {ts} l left p = laws.stuck_chain_first a b f j.sane_a j.sane_b j.apart l ts left p
