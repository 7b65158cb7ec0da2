-- Conditions of each depth, printed again.
use Rattle.std.proofs.Common.{◌≡◌, ℕ, zero, suc, ◌≤◌, Bool, true, false, nat_lt, List, ◌++◌, inl, inr, refl, sym, ◌∙◌, ap, subst, arith, if◌then◌else◌}
use Rattle.std.proofs.lemmas.Bool.Decides.{nat_tests}
use Rattle.grammar_rules.specs.Rules.{Rule, Both, More, Chain, both}
use Rattle.ql_lex.specs.declared.word.Word.TheVariants as words
use Rattle.ql_lex.specs.declared.token.Kind.{Kind}
use Rattle.ql_lex.specs.declared.token.Token.{Token}
use Rattle.ql_tree.specs.Stripped.{stripped_cond}
use Rattle.ql_tree.specs.Printed as p
use Rattle.ql_tree.specs.Printed.{shape, placed}
use Rattle.ql_tree.specs.declared.tree.Cond.{Cond}
use Rattle.ql_tree.specs.declared.tree.Cond.TheVariants as conds
use Rattle.ql_grammar.specs.Grammar as g
use Rattle.ql_laws.proofs.Reprints as again
use Rattle.ql_laws.proofs.Written.{IsServed, IsWritten}
use Rattle.ql_laws.proofs.Shapes as shapes
use Rattle.ql_laws.proofs.Parts.{kind, Same, Alike, two, Printed, Prints, Writable, Sound, printed_word, word_sound, printed_group, group_keeps}
use Rattle.ql_laws.proofs.TestRules.{tokens, rank, simple_prints, simple_rank}

abbrev conj : ℕ → Rule Token Cond
conj d = g.conjunction (g.level d).negated

-- a longer chain of wider parts
module _ {A B : Type 0} {a a' : List Token → A → Type 0} {b b' : List Token → B → Type 0} (f : A → B → A) (h : (us : List Token) (x : A) → a us x → a' us x) (k : (us : List Token) (y : B) → b us y → b' us y) where
  more_wider : (n : ℕ) (x z : A) (ts : List Token) → More b f n x ts z → More b' f n x ts z
  more_wider zero x z ts w = w
  more_wider (suc n) x z ts (us, vs, y, part, more, e) = (us, vs, y, k us y part, more_wider n (f x y) z vs more, e)

  chain_wider : (ts : List Token) (z : A) → Chain a b f ts z → Chain a' b' f ts z
  chain_wider ts z w = record { us = w.us; vs = w.vs; x = w.x; count = w.count; left = h w.us w.x w.left; more = more_wider w.count w.x z w.vs w.more; text = w.text }

both_wider : {A B C : Type 0} {a : List Token → A → Type 0} {b b' : List Token → B → Type 0} (f : A → B → C) → ((us : List Token) (y : B) → b us y → b' us y) → (ts : List Token) (z : C) → Both a b f ts z → Both a b' f ts z
both_wider f k ts z w = record { us = w.us; vs = w.vs; x = w.x; y = w.y; left = w.left; right = k w.vs w.y w.right; text = w.text; value = w.value }

first_wider : {A B C : Type 0} {a a' : List Token → A → Type 0} {b : List Token → B → Type 0} (f : A → B → C) → ((us : List Token) (x : A) → a us x → a' us x) → (ts : List Token) (z : C) → Both a b f ts z → Both a' b f ts z
first_wider f k ts z w = record { us = w.us; vs = w.vs; x = w.x; y = w.y; left = k w.us w.x w.left; right = w.right; text = w.text; value = w.value }

-- what is spelled at a depth is spelled one deeper
record Deeper (d : ℕ) : Type 0 where
  pub test : (ts : List Token) (x : Cond) → (g.level d).test.is ts x → (g.level (suc d)).test.is ts x
  pub negated : (ts : List Token) (x : Cond) → (g.level d).negated.is ts x → (g.level (suc d)).negated.is ts x

deeper_conj : (d : ℕ) → Deeper d → (ts : List Token) (x : Cond) → (conj d).is ts x → (conj (suc d)).is ts x
deeper_conj d h = chain_wider (λ x y. conds.And x y) h.negated (both_wider g.second h.negated)

deeper_cond : (d : ℕ) → Deeper d → (ts : List Token) (x : Cond) → (g.cond d).is ts x → (g.cond (suc d)).is ts x
deeper_cond d h = chain_wider (λ x y. conds.Or x y) (deeper_conj d h) (both_wider g.second (deeper_conj d h))

deeper_group : (d : ℕ) → Deeper d → (ts : List Token) (x : Cond) → (g.group (g.cond d)).is ts x → (g.group (g.cond (suc d))).is ts x
deeper_group d h = both_wider g.second (first_wider g.first (deeper_cond d h))

deeper_served : (d : ℕ) → Deeper d → (ts : List Token) (x : Cond) → (g.served_test (g.level d)).is ts x → (g.served_test (g.level (suc d))).is ts x
deeper_served d h ts x (inl w) = inl (deeper_group d h ts x w)
deeper_served d h ts x (inr w) = inr w

deeper : (d : ℕ) → Deeper d
deeper zero = record { test = λ ts x w. inr w; negated = λ ts x w. inr (inr w) }
deeper (suc d) = record {
  test = deeper_served d (deeper d);
  negated = λ ts x w. elim w [
    | inl h ↦ inl (both_wider (λ _ y. conds.Not y) (deeper d).test ts x h)
    | inr h ↦ inr (deeper_served d (deeper d) ts x h)
  ];
}

simple_test : (d : ℕ) (ts : List Token) (x : Cond) → g.simple.is ts x → (g.level d).test.is ts x
simple_test zero ts x w = w
simple_test (suc d) ts x w = inr w

test_negated : (d : ℕ) (ts : List Token) (x : Cond) → (g.level d).test.is ts x → (g.level d).negated.is ts x
test_negated zero ts x w = w
test_negated (suc d) ts x w = inr w

negated_conj : (d : ℕ) (ts : List Token) (x : Cond) → (g.level d).negated.is ts x → (conj d).is ts x
negated_conj d = again.chain_alone kind IsServed IsWritten (g.level d).negated.is (g.and_then (g.level d).negated).is (λ x y. conds.And x y)

conj_cond : (d : ℕ) (ts : List Token) (x : Cond) → (conj d).is ts x → (g.cond d).is ts x
conj_cond d = again.chain_alone kind IsServed IsWritten (conj d).is (g.or_then (conj d)).is (λ x y. conds.Or x y)

wider : (a b : Rule Token Cond) (ks : List Kind) (x : Cond) → ((us : List Token) (y : Cond) → a.is us y → b.is us y) → Printed a ks (Alike stripped_cond) x → Printed b ks (Alike stripped_cond) x
wider a b ks x h q = again.printed_wider kind IsServed IsWritten a b ks (Alike stripped_cond) x h q

same_tokens : (r : Rule Token Cond) (ks ls : List Kind) (x : Cond) → ls ≡ ks → Printed r ks (Alike stripped_cond) x → Printed r ls (Alike stripped_cond) x
same_tokens r ks ls x e q = again.printed_as kind IsServed IsWritten r ks ls (Alike stripped_cond) x e q

-- The printed form of a condition, wherever it may stand without parentheses.
record Spelt (d : ℕ) (x : Cond) : Type 0 where
  pub whole : Printed (g.cond d) (tokens x) (Alike stripped_cond) x
  pub in_or : 1 ≤ rank x → Printed (conj d) (tokens x) (Alike stripped_cond) x
  pub in_and : 2 ≤ rank x → Printed (g.level d).negated (tokens x) (Alike stripped_cond) x
  pub in_not : 3 ≤ rank x → Printed g.simple (tokens x) (Alike stripped_cond) x

-- and as an operand that asks for at least this rank
record Operand (d : ℕ) (r : Rule Token Cond) (least : ℕ) (x : Cond) : Type 0 where
  pub spelt : Spelt d x
  pub printed : Printed r (placed least (shape x)) (Alike stripped_cond) x

spelt_deeper : (d : ℕ) (x : Cond) → Spelt d x → Spelt (suc d) x
spelt_deeper d x q = record {
  whole = wider (g.cond d) (g.cond (suc d)) (tokens x) x (deeper_cond d (deeper d)) q.whole;
  in_or = λ h. wider (conj d) (conj (suc d)) (tokens x) x (deeper_conj d (deeper d)) (q.in_or h);
  in_and = λ h. wider (g.level d).negated (g.level (suc d)).negated (tokens x) x (deeper d).negated (q.in_and h);
  in_not = λ h. q.in_not h;
}

at_least : (r n : ℕ) → nat_lt r n ≡ false → n ≤ r
at_least r n h = grind (arith, nat_tests)

not_below : (r n : ℕ) → n ≤ r → nat_lt r n ≡ false
not_below r n h = grind (arith, nat_tests)

below_more : (r n m : ℕ) → nat_lt r n ≡ true → n ≤ m → nat_lt r m ≡ true
below_more r n m h k = grind (arith, nat_tests)

plain_placed : (n : ℕ) (x : Cond) → nat_lt (rank x) n ≡ false → placed n (shape x) ≡ tokens x
plain_placed n x h = ap (λ v. if v then p.group (tokens x) else tokens x) h

group_placed : (n : ℕ) (x : Cond) → nat_lt (rank x) n ≡ true → placed n (shape x) ≡ p.group (tokens x)
group_placed n x h = ap (λ v. if v then p.group (tokens x) else tokens x) h

-- an operand of a narrower place, in a wider one
moved : (d : ℕ) (a b : Rule Token Cond) (n m : ℕ) (x : Cond) → m ≤ n → ((us : List Token) (y : Cond) → a.is us y → b.is us y) → (Spelt d x → m ≤ rank x → Printed b (tokens x) (Alike stripped_cond) x) → Operand d a n x → Operand d b m x
moved d a b n m x k h plain q = record { spelt = q.spelt; printed = cases (nat_lt (rank x) m) refl }
  where
    cases : (v : Bool) → nat_lt (rank x) m ≡ v → Printed b (placed m (shape x)) (Alike stripped_cond) x
    cases true e =
        same_tokens b (placed n (shape x)) (placed m (shape x)) x (group_placed m x e ∙ sym (group_placed n x (below_more (rank x) m n e k))) (wider a b (placed n (shape x)) x h q.printed)
    cases false e = same_tokens b (tokens x) (placed m (shape x)) x (plain_placed m x e) (plain q.spelt (at_least (rank x) m e))

negated_operand : (d : ℕ) (x : Cond) → Operand d (g.level d).test 3 x → Operand d (g.level d).negated 2 x
negated_operand d x = moved d (g.level d).test (g.level d).negated 3 2 x (omega arith) (test_negated d) (λ q h. q.in_and h)

conj_operand : (d : ℕ) (x : Cond) → Operand d (g.level d).negated 2 x → Operand d (conj d) 1 x
conj_operand d x = moved d (g.level d).negated (conj d) 2 1 x (omega arith) (negated_conj d) (λ q h. q.in_or h)

-- a simple test
spelt_simple : (d : ℕ) (x : Cond) → Printed g.simple (tokens x) (Alike stripped_cond) x → Spelt d x
spelt_simple d x q =
    let negated : Printed (g.level d).negated (tokens x) (Alike stripped_cond) x = wider g.simple (g.level d).negated (tokens x) x (λ us y w. test_negated d us y (simple_test d us y w)) q in
    let conjoined : Printed (conj d) (tokens x) (Alike stripped_cond) x = wider (g.level d).negated (conj d) (tokens x) x (negated_conj d) negated in
    record { whole = wider (conj d) (g.cond d) (tokens x) x (conj_cond d) conjoined; in_or = λ h. conjoined; in_and = λ h. negated; in_not = λ h. q }

simple_operand : (d : ℕ) (x : Cond) → rank x ≡ 3 → Printed g.simple (tokens x) (Alike stripped_cond) x → Operand d (g.level d).test 3 x
simple_operand d x e q = record {
  spelt = spelt_simple d x q;
  printed = same_tokens (g.level d).test (tokens x) (placed 3 (shape x)) x (plain_placed 3 x (not_below (rank x) 3 (omega arith))) (wider g.simple (g.level d).test (tokens x) x (simple_test d) q);
}

-- what is kept of each part, and that its tokens are sound
abbrev Keeps : Rule Token Cond → (Cond → Type 0) → Type 0
Keeps r Q = (ts : List Token) (x : Cond) → r.is ts x → Sound ts × (Writable ts → Q x)

simple_keeps : (d : ℕ) → Keeps g.simple (Operand d (g.level d).test 3)
simple_keeps d ts x w = ((simple_prints ts x w).0, λ each. simple_operand d x (simple_rank ts x w) ((simple_prints ts x w).1 each))

-- a condition in parentheses
group_operand : (d : ℕ) (x : Cond) → Spelt d x → Operand (suc d) (g.level (suc d)).test 3 x
group_operand d x q = record { spelt = spelt_deeper d x q; printed = cases (nat_lt (rank x) 3) refl }
  where
    cases : (v : Bool) → nat_lt (rank x) 3 ≡ v → Printed (g.level (suc d)).test (placed 3 (shape x)) (Alike stripped_cond) x
    cases true e =
        same_tokens (g.level (suc d)).test (p.group (tokens x)) (placed 3 (shape x)) x (group_placed 3 x e)
        (wider (g.group (g.cond d)) (g.level (suc d)).test (p.group (tokens x)) x (λ us y w. inl w) (printed_group (g.cond d) (tokens x) (Alike stripped_cond) x q.whole))
    cases false e =
        same_tokens (g.level (suc d)).test (tokens x) (placed 3 (shape x)) x (plain_placed 3 x e) (wider g.simple (g.level (suc d)).test (tokens x) x (λ us y w. inr w) (q.in_not (at_least (rank x) 3 e)))

-- NOT
not_tokens : (y : Cond) → tokens (conds.Not y) ≡ p.word words.Not ++ placed 3 (shape y)
not_tokens y = ap (λ s. s.tokens) (shapes.shape_not y)

not_rank : (y : Cond) → rank (conds.Not y) ≡ 2
not_rank y = ap (λ s. s.rank) (shapes.shape_not y)

not_printed : (d : ℕ) (y : Cond) → Operand d (g.level d).test 3 y → Printed (g.level (suc d)).negated (tokens (conds.Not y)) (Alike stripped_cond) (conds.Not y)
not_printed d y q =
    same_tokens (g.level (suc d)).negated (p.word words.Not ++ placed 3 (shape y)) (tokens (conds.Not y)) (conds.Not y) (not_tokens y)
    (wider (g.not_then (g.level d).test) (g.level (suc d)).negated (p.word words.Not ++ placed 3 (shape y)) (conds.Not y) (λ us z w. inl w)
    (again.printed_both kind IsServed IsWritten (g.keyword words.Not) (g.level d).test (λ _ z. conds.Not z) (p.word words.Not) (placed 3 (shape y)) Same (Alike stripped_cond) (Alike stripped_cond) (tt {0}) y
    (λ u v e h. shapes.stripped_not v ∙ ap conds.Not h ∙ sym (shapes.stripped_not y)) (printed_word words.Not) q.printed))

not_operand : (d : ℕ) (y : Cond) → Operand d (g.level d).test 3 y → Operand (suc d) (g.level (suc d)).negated 2 (conds.Not y)
not_operand d y q =
    let negated : Printed (g.level (suc d)).negated (tokens (conds.Not y)) (Alike stripped_cond) (conds.Not y) = not_printed d y q in
    let conjoined : Printed (conj (suc d)) (tokens (conds.Not y)) (Alike stripped_cond) (conds.Not y) = wider (g.level (suc d)).negated (conj (suc d)) (tokens (conds.Not y)) (conds.Not y) (negated_conj (suc d)) negated in
    record {
      spelt = record {
        whole = wider (conj (suc d)) (g.cond (suc d)) (tokens (conds.Not y)) (conds.Not y) (conj_cond (suc d)) conjoined;
        in_or = λ h. conjoined;
        in_and = λ h. negated;
        in_not = λ h. absurd (let e : rank (conds.Not y) ≡ 2 = not_rank y in omega arith);
      };
      printed = same_tokens (g.level (suc d)).negated (tokens (conds.Not y)) (placed 2 (shape (conds.Not y))) (conds.Not y)
          (plain_placed 2 (conds.Not y) (not_below (rank (conds.Not y)) 2 (let e : rank (conds.Not y) ≡ 2 = not_rank y in omega arith))) negated;
    }

-- AND
and_tokens : (x y : Cond) → tokens (conds.And x y) ≡ placed 1 (shape x) ++ (p.word words.And ++ placed 2 (shape y))
and_tokens x y = ap (λ s. s.tokens) (shapes.shape_and x y)

and_alike : (x y u v : Cond) → stripped_cond u ≡ stripped_cond x → stripped_cond v ≡ stripped_cond y → stripped_cond (conds.And u v) ≡ stripped_cond (conds.And x y)
and_alike x y u v e h = shapes.stripped_and u v ∙ two (λ a b. conds.And a b) (stripped_cond x) (stripped_cond u) (stripped_cond y) (stripped_cond v) e h ∙ sym (shapes.stripped_and x y)

and_operand : (d : ℕ) (x y : Cond) → Operand d (conj d) 1 x → Operand d (g.level d).negated 2 y → Operand d (conj d) 1 (conds.And x y)
and_operand d x y q r =
    let e : rank (conds.And x y) ≡ 1 = ap (λ s. s.rank) (shapes.shape_and x y) in
    let right : Printed (g.and_then (g.level d).negated) (p.word words.And ++ placed 2 (shape y)) (Alike stripped_cond) y =
    again.printed_both kind IsServed IsWritten (g.keyword words.And) (g.level d).negated g.second (p.word words.And) (placed 2 (shape y)) Same (Alike stripped_cond) (Alike stripped_cond) (tt {0}) y (λ u v e h. h) (printed_word words.And) r.printed in
    let whole : Printed (conj d) (tokens (conds.And x y)) (Alike stripped_cond) (conds.And x y) =
    same_tokens (conj d) (placed 1 (shape x) ++ (p.word words.And ++ placed 2 (shape y))) (tokens (conds.And x y)) (conds.And x y) (and_tokens x y)
    (again.printed_longer kind IsServed IsWritten (g.level d).negated (g.and_then (g.level d).negated) (λ a b. conds.And a b) (placed 1 (shape x)) (p.word words.And ++ placed 2 (shape y))
    (Alike stripped_cond) (Alike stripped_cond) x y (λ u v e h. and_alike x y u v e h) q.printed right) in
    record {
      spelt = record {
        whole = wider (conj d) (g.cond d) (tokens (conds.And x y)) (conds.And x y) (conj_cond d) whole;
        in_or = λ h. whole;
        in_and = λ h. absurd (omega arith);
        in_not = λ h. absurd (omega arith);
      };
      printed = same_tokens (conj d) (tokens (conds.And x y)) (placed 1 (shape (conds.And x y))) (conds.And x y) (plain_placed 1 (conds.And x y) (not_below (rank (conds.And x y)) 1 (omega arith))) whole;
    }

-- OR
or_tokens : (x y : Cond) → tokens (conds.Or x y) ≡ placed 0 (shape x) ++ (p.word words.Or ++ placed 1 (shape y))
or_tokens x y = ap (λ s. s.tokens) (shapes.shape_or x y)

or_alike : (x y u v : Cond) → stripped_cond u ≡ stripped_cond x → stripped_cond v ≡ stripped_cond y → stripped_cond (conds.Or u v) ≡ stripped_cond (conds.Or x y)
or_alike x y u v e h = shapes.stripped_or u v ∙ two (λ a b. conds.Or a b) (stripped_cond x) (stripped_cond u) (stripped_cond y) (stripped_cond v) e h ∙ sym (shapes.stripped_or x y)

pub whole_placed : (x : Cond) → placed 0 (shape x) ≡ tokens x
whole_placed x = plain_placed 0 x (not_below (rank x) 0 (omega arith))

or_spelt : (d : ℕ) (x y : Cond) → Spelt d x → Operand d (conj d) 1 y → Spelt d (conds.Or x y)
or_spelt d x y q r =
    let e : rank (conds.Or x y) ≡ 0 = ap (λ s. s.rank) (shapes.shape_or x y) in
    let right : Printed (g.or_then (conj d)) (p.word words.Or ++ placed 1 (shape y)) (Alike stripped_cond) y =
    again.printed_both kind IsServed IsWritten (g.keyword words.Or) (conj d) g.second (p.word words.Or) (placed 1 (shape y)) Same (Alike stripped_cond) (Alike stripped_cond) (tt {0}) y (λ u v e h. h) (printed_word words.Or) r.printed in
    let left : Printed (g.cond d) (placed 0 (shape x)) (Alike stripped_cond) x = same_tokens (g.cond d) (tokens x) (placed 0 (shape x)) x (whole_placed x) q.whole in
    record {
      whole = same_tokens (g.cond d) (placed 0 (shape x) ++ (p.word words.Or ++ placed 1 (shape y))) (tokens (conds.Or x y)) (conds.Or x y) (or_tokens x y)
          (again.printed_longer kind IsServed IsWritten (conj d) (g.or_then (conj d)) (λ a b. conds.Or a b) (placed 0 (shape x)) (p.word words.Or ++ placed 1 (shape y))
          (Alike stripped_cond) (Alike stripped_cond) x y (λ u v e h. or_alike x y u v e h) left right);
      in_or = λ h. absurd (omega arith);
      in_and = λ h. absurd (omega arith);
      in_not = λ h. absurd (omega arith);
    }

-- what stands behind AND and OR
behind_keeps : (w : _) (r : Rule Token Cond) (Q : Cond → Type 0) → Keeps r Q → Keeps (both (g.keyword w) r g.second) Q
behind_keeps w r Q q ts z h = (
  again.sound_append kind IsServed IsWritten ts h.us h.vs h.text (word_sound w h.us h.x h.left) (q h.vs h.y h.right).0,
  λ each. subst Q (sym h.value) ((q h.vs h.y h.right).1 (again.written_rest kind IsServed IsWritten ts h.us h.vs h.text each)),
)

conj_keeps : (d : ℕ) → Keeps (g.level d).negated (Operand d (g.level d).negated 2) → Keeps (conj d) (Operand d (conj d) 1)
conj_keeps d q = again.chain_keeps kind IsServed IsWritten (g.level d).negated.is (g.and_then (g.level d).negated).is (λ x y. conds.And x y) (Operand d (conj d) 1)
    (λ us x w. ((q us x w).0, λ each. conj_operand d x ((q us x w).1 each)))
    (λ us y w. let r : Sound us × (Writable us → Operand d (g.level d).negated 2 y) = behind_keeps words.And (g.level d).negated (Operand d (g.level d).negated 2) q us y w in (r.0, λ each x o. and_operand d x y o (r.1 each)))

cond_keeps : (d : ℕ) → Keeps (g.level d).negated (Operand d (g.level d).negated 2) → Keeps (g.cond d) (Spelt d)
cond_keeps d q = again.chain_keeps kind IsServed IsWritten (conj d).is (g.or_then (conj d)).is (λ x y. conds.Or x y) (Spelt d)
    (λ us x w. let r : Sound us × (Writable us → Operand d (conj d) 1 x) = conj_keeps d q us x w in (r.0, λ each. (r.1 each).spelt))
    (λ us y w. let r : Sound us × (Writable us → Operand d (conj d) 1 y) = behind_keeps words.Or (conj d) (Operand d (conj d) 1) (conj_keeps d q) us y w in (r.0, λ each x o. or_spelt d x y o (r.1 each)))

record Kept (d : ℕ) : Type 0 where
  pub test : Keeps (g.level d).test (Operand d (g.level d).test 3)
  pub negated : Keeps (g.level d).negated (Operand d (g.level d).negated 2)

test_keeps : (d : ℕ) → Kept d → Keeps (g.level (suc d)).test (Operand (suc d) (g.level (suc d)).test 3)
test_keeps d q ts x w = elim w [
  | inl h ↦
      let r : Sound ts × (Writable ts → Spelt d x) = group_keeps (g.cond d) (Spelt d) (cond_keeps d q.negated) ts x h in
      (r.0, λ each. group_operand d x (r.1 each))
  | inr h ↦ simple_keeps (suc d) ts x h
]

not_keeps : (d : ℕ) → Kept d → Keeps (g.not_then (g.level d).test) (Operand (suc d) (g.level (suc d)).negated 2)
not_keeps d q ts x h = (
  again.sound_append kind IsServed IsWritten ts h.us h.vs h.text (word_sound words.Not h.us h.x h.left) (q.test h.vs h.y h.right).0,
  λ each. subst (Operand (suc d) (g.level (suc d)).negated 2) (sym h.value) (not_operand d h.y ((q.test h.vs h.y h.right).1 (again.written_rest kind IsServed IsWritten ts h.us h.vs h.text each))),
)

kept : (d : ℕ) → Kept d
kept zero = record {
  test = simple_keeps 0;
  negated = λ ts x w. ((simple_keeps 0 ts x w).0, λ each. negated_operand 0 x ((simple_keeps 0 ts x w).1 each));
}
kept (suc d) = record {
  test = test_keeps d (kept d);
  negated = λ ts x w. elim w [
    | inl h ↦ not_keeps d (kept d) ts x h
    | inr h ↦ let r : Sound ts × (Writable ts → Operand (suc d) (g.level (suc d)).test 3 x) = test_keeps d (kept d) ts x h in (r.0, λ each. negated_operand (suc d) x (r.1 each))
  ];
}

pub condition_prints : (d : ℕ) → Prints (g.cond d) (λ x. placed 0 (shape x)) (Alike stripped_cond)
condition_prints d ts x w =
    let r : Sound ts × (Writable ts → Spelt d x) = cond_keeps d (kept d).negated ts x w in
    (r.0, λ each. same_tokens (g.cond d) (tokens x) (placed 0 (shape x)) x (whole_placed x) (r.1 each).whole)
