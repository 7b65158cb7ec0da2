-- Each text of a rule is read as it is spelled. So a text has one tree.
use Rattle.std.proofs.Common.{◌≡◌, ℕ, zero, suc, Bool, ◌||◌, List, [], ◌∷◌, ◌++◌, Option, inl, inr, refl, sym, ◌∙◌, ap, subst, append_assoc}
use Rattle.std.proofs.lemmas.List.{append-nil}
use Rattle.grammar_rules.specs.Rules.{Rule, Stops, More, Took, one, both, chain, perhaps, either, mapped, stands}
use Rattle.grammar_rules.proofs.Lists.{Apart, starts_append, apart_stops, stops_left, stops_right}
use Rattle.grammar_rules.proofs.Relations.{tail_stops}
use Rattle.grammar_rules.proofs.Laws.{Sane, opens, tail, took_one, took_both, took_tail_none, took_tail_more, took_chain, took_perhaps_none, took_perhaps_some, took_either_left, took_either_right, took_mapped, took_stands}
use Rattle.grammar_rules.proofs.Wholes.{whole_only}

-- Each text of the rule is read as it is spelled, whatever stops it.
pub record Told {T A : Type 0} (r : Rule T A) : Type 0 where
  pub told : (ts rest : List T) (x : A) → r.is ts x → Stops r.goes rest → Took r (ts ++ rest) x rest

module _ {T A : Type 0} (r : Rule T A) where
  moved : (ts us rest : List T) (x y : A) → us ≡ ts → y ≡ x → Took r us y rest → Took r ts x rest
  moved ts us rest x y e v p = subst (λ s. Took r s x rest) e (subst (λ z. Took r us z rest) v p)

  pub one_tree : Sane r → Told r → (ts : List T) (x y : A) → r.is ts x → r.is ts y → y ≡ x
  one_tree sane h ts x y v w = whole_only r sane ts x y (moved ts (ts ++ []) [] x x (append-nil ts) refl (h.told ts [] x v tt)) w

pub one_told : {T A : Type 0} (test : T → Option A) → Told (one test)
one_told test = record { told = λ ts rest x w stop. moved (one test) (ts ++ rest) (w.token ∷ rest) rest x x (ap (λ s. s ++ rest) (sym w.text)) refl (took_one test w.token rest x w.value) }

pub mapped_told : {T A B : Type 0} (a : Rule T A) (f : A → B) → Told a → Told (mapped a f)
mapped_told a f h = record { told = λ ts rest x w stop. moved (mapped a f) (ts ++ rest) (ts ++ rest) rest x (f w.x) refl (sym w.value) (took_mapped a f (ts ++ rest) rest w.x (h.told ts rest w.x w.inside stop)) }

pub stands_told : {T A : Type 0} (a : Rule T A) (test : T → Bool) → Sane a → Apart a.first test → Told a → Told (stands a test)
stands_told a test sane apart h = record {
  told = λ ts rest x w stop. took_stands a test apart (ts ++ rest) rest x (starts_append a.first ts rest ((opens a sane).opens ts x w)) (h.told ts rest x w stop);
}

module _ {T A B C : Type 0} (a : Rule T A) (b : Rule T B) (f : A → B → C) (sane : Sane b) (apart : Apart a.goes b.first) (p : Told a) (q : Told b) where
  pub both_told : Told (both a b f)
  both_told = record {
    told = λ ts rest z w stop.
        moved (both a b f) (ts ++ rest) (w.us ++ (w.vs ++ rest)) rest z (f w.x w.y) (sym (append_assoc w.us w.vs rest) ∙ ap (λ s. s ++ rest) (sym w.text)) (sym w.value)
        (took_both a b f sane apart (w.us ++ (w.vs ++ rest)) (w.vs ++ rest) rest w.x w.y
        (p.told w.us (w.vs ++ rest) w.x w.left (apart_stops a.goes b.first (w.vs ++ rest) apart (starts_append b.first w.vs rest ((opens b sane).opens w.vs w.y w.right))))
        (q.told w.vs rest w.y w.right stop));
  }

module _ {T A : Type 0} (a b : Rule T A) (sane_a : Sane a) (sane_b : Sane b) (apart : Apart a.first b.first) (p : Told a) (q : Told b) where
  pub either_told : Told (either a b)
  either_told = record {
    told = λ ts rest x w stop. elim w [
      | inl h ↦ took_either_left a b sane_b apart (ts ++ rest) rest x (starts_append a.first ts rest ((opens a sane_a).opens ts x h)) (p.told ts rest x h (stops_left a.goes b.goes rest stop))
      | inr h ↦ took_either_right a b sane_a (ts ++ rest) rest x (apart_stops a.first b.first (ts ++ rest) apart (starts_append b.first ts rest ((opens b sane_b).opens ts x h))) (q.told ts rest x h (stops_right a.goes b.goes rest stop))
    ];
  }

module _ {T A B : Type 0} (a : Rule T A) (b : Rule T B) (f : A → B → A) (sane : Sane b) (apart : Apart a.goes b.first) (p : Told a) (q : Told b) where
  pub perhaps_told : Told (perhaps a b f)
  perhaps_told = record {
    told = λ ts rest z w stop. elim w [
      | inl h ↦ took_perhaps_none a b f sane apart (ts ++ rest) rest z (p.told ts rest z h (stops_right (λ t. b.first t || b.goes t) a.goes rest stop))
          (stops_left b.first b.goes rest (stops_left (λ t. b.first t || b.goes t) a.goes rest stop))
      | inr h ↦ moved (perhaps a b f) (ts ++ rest) (h.us ++ (h.vs ++ rest)) rest z (f h.x h.y) (sym (append_assoc h.us h.vs rest) ∙ ap (λ s. s ++ rest) (sym h.text)) (sym h.value)
          (took_perhaps_some a b f sane apart (h.us ++ (h.vs ++ rest)) (h.vs ++ rest) rest h.x h.y
          (p.told h.us (h.vs ++ rest) h.x h.left (apart_stops a.goes b.first (h.vs ++ rest) apart (starts_append b.first h.vs rest ((opens b sane).opens h.vs h.y h.right))))
          (starts_append b.first h.vs rest ((opens b sane).opens h.vs h.y h.right))
          (q.told h.vs rest h.y h.right (stops_right b.first b.goes rest (stops_left (λ t. b.first t || b.goes t) a.goes rest stop))))
    ];
  }

  module _ (sane_a : Sane a) (apart_b : Apart b.goes b.first) where
    tail_told : (n : ℕ) (x z : A) (ts rest : List T) → More b.is f n x ts z → Stops (λ t. b.first t || b.goes t) rest → Took (tail b f x) (ts ++ rest) z rest
    tail_told zero x z ts rest w stop =
        moved (tail b f x) (ts ++ rest) rest rest z x (ap (λ s. s ++ rest) (sym w.0)) (sym w.1) (took_tail_none b f sane rest x (stops_left b.first b.goes rest stop))
    tail_told (suc n) x z ts rest (us, vs, y, part, more, e) stop =
        moved (tail b f x) (ts ++ rest) (us ++ (vs ++ rest)) rest z z (sym (append_assoc us vs rest) ∙ ap (λ s. s ++ rest) (sym e)) refl
        (took_tail_more b f sane apart_b (us ++ (vs ++ rest)) (vs ++ rest) rest x z y (starts_append b.first us (vs ++ rest) ((opens b sane).opens us y part))
        (q.told us (vs ++ rest) y part (tail_stops b.is f b.goes b.first (opens b sane) apart_b n (f x y) z vs rest more (stops_right b.first b.goes rest stop)))
        (tail_told n (f x y) z vs rest more stop))

    pub chain_told : Told (chain a b f)
    chain_told = record {
      told = λ ts rest z w stop.
          moved (chain a b f) (ts ++ rest) (w.us ++ (w.vs ++ rest)) rest z z (sym (append_assoc w.us w.vs rest) ∙ ap (λ s. s ++ rest) (sym w.text)) refl
          (took_chain a b f sane_a sane apart (w.us ++ (w.vs ++ rest)) (w.vs ++ rest) rest w.x z
          (p.told w.us (w.vs ++ rest) w.x w.left (tail_stops b.is f a.goes b.first (opens b sane) apart w.count w.x z w.vs rest w.more (stops_right (λ t. b.first t || b.goes t) a.goes rest stop)))
          (tail_told w.count w.x z w.vs rest w.more (stops_left (λ t. b.first t || b.goes t) a.goes rest stop)));
    }
