-- What a session showed stays settled as more is.
use Rattle.std.proofs.Common.{◌≡◌, ℕ, ◌≤◌, Bool, true, false, List, [], ◌∷◌, refl, inl, inr, arith, if◌then◌else◌, nat_lt}
use Rattle.std.proofs.lemmas.Bool.Decides.{nat_tests}
use Rattle.cm_base.specs.declared.number.Moment.{Moment}
use Rattle.cm_base.specs.declared.user.User.{User}
use Rattle.desk_model.specs.declared.entry.Entry.{Entry}
use Rattle.desk_lock.specs.Seats.{greater}
use Rattle.talk.specs.declared.end.End.{End}
use Rattle.talk.specs.declared.end.End.TheVariants.{Ended, Bad, ReadFault, WriteFault, Starved, Unkept}
use Rattle.talk.specs.Served.{Kind, Ask, faulty, writes, reads, ask_of}
use Rattle.talk.specs.Session.{Setting, Session, Turn}
use Rattle.talk.specs.Settled.{IsWithin, AreWithin, ShowsWithin}
use Rattle.desk_serve.specs.declared.ended.Ended as served
use Rattle.desk_serve.specs.Sessions.{Terms, IsServed}

pick_above : (b : Bool) (m n : ℕ) → (b ≡ true → m ≤ n) → (b ≡ false → n ≤ m) → (m ≤ (if b then n else m)) × (n ≤ (if b then n else m))
pick_above true m n yes_ no_ = (yes_ refl, omega arith)
pick_above false m n yes_ no_ = (omega arith, no_ refl)

-- neither of two numbers is above the greater one
pub below_greater : (m n : ℕ) → (m ≤ greater m n) × (n ≤ greater m n)
below_greater m n = pick_above (nat_lt m n) m n (λ is. grind (arith, nat_tests)) (λ is. grind (arith, nat_tests))

within_more : {C Q : Type 0} (m n : ℕ) → m ≤ n → (a : Ask C Q) (place : ℕ) → IsWithin m a place → IsWithin n a place
within_more m n le (faulty cause) place h = h
within_more m n le (writes user least call) place h = omega (arith, le, h)
within_more m n le (reads user least question) place h = omega (arith, le, h)

module _ {S C Q : Type 0} (kind : Kind S C Q) (users : List User) (m n : ℕ) (le : m ≤ n) where
  all_within_more : (ts : List (Turn C)) → AreWithin kind users m ts → AreWithin kind users n ts
  all_within_more [] h = h
  all_within_more (t ∷ ts) h = (all_within_more ts h.0, within_more m n le (ask_of kind users t.arrived.request) t.place h.1)

  -- what is among the first entries is among more of them
  pub shows_more : (ts : List (Turn C)) (output : List ℕ) (end : End) → ShowsWithin kind users m ts output end → ShowsWithin kind users n ts output end
  shows_more ts output Ended h = all_within_more ts h
  shows_more ts output (Bad fault) h = all_within_more ts h
  shows_more ts output ReadFault h = all_within_more ts h
  shows_more ts output WriteFault h = all_within_more ts h
  shows_more ts output Starved h = all_within_more ts h
  shows_more ts output Unkept (inl h) = inl (all_within_more ts h)
  shows_more ts output Unkept (inr h) = inr (h.0, all_within_more h.0.earlier h.1)

module _ {S C Q L K : Type 0} (t : Terms S C Q L K) where
  -- a session over the history h of which so many entries are settled, and what it sent shows no others
  abbrev pub SettledSession : Setting S → ℕ → List (Entry C) → ℕ → List ℕ → Bool → List ℕ → List Moment → Bool → Bool → End → Type 0
  SettledSession at after h sure input over output times read_failed write_failed end =
      (s : Session t.kind at after h input over output times read_failed write_failed end) × ShowsWithin t.kind t.users sure s.turns output end

  -- a link that was served stays so as more is settled
  pub served_more : (opening : S) (h : List (Entry C)) (m n : ℕ) (x : served.Ended L) → m ≤ n → IsServed t opening h m x → IsServed t opening h n x
  served_more opening h m n x le s = record {
    from = s.from;
    given = s.given;
    was_new = s.was_new;
    input = s.input;
    output = s.output;
    times = s.times;
    gave = s.gave;
    took = s.took;
    session = s.session;
    settled = shows_more t.kind t.users m n le s.session.turns s.output x.outcome s.settled;
    kept = s.kept;
  }
