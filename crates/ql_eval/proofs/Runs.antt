-- What fits behind some run of bytes, one piece after another.
use Rattle.std.proofs.Common.{◌≡◌, ◌∙◌, ℕ, ◌==◌, Bool, true, false, List, [], ◌∷◌, refl, sym, subst, true≢false}
use Rattle.std.specs.Prelude.{◌||◌, Option, Some, None}
use Rattle.core.specs.Fmt.{is_char_start}
use Rattle.std.specs.Cmp.{both_ways}
use Rattle.cmis_laws.proofs.Lists.{by_test, some_eq, none_some}
use Rattle.ql_eval.specs.Likes.{next_start, past_character, past_byte, passes, behind_run}

or_left : (a b : Bool) → a ≡ true → a || b ≡ true
or_left true b h = refl
or_left false b h = absurd (true≢false (sym h))

or_right : (a b : Bool) → b ≡ true → a || b ≡ true
or_right true b h = refl
or_right false b h = h

or_one : {G : Type 0} (a b : Bool) → a || b ≡ true → (a ≡ true → G) → (b ≡ true → G) → G
or_one true b h f g = f refl
or_one false b h f g = g h

-- what fits here fits behind the empty run
pub here : (f : List ℕ → Bool) (text : List ℕ) → f text ≡ true → behind_run f text ≡ true
here f [] h = h
here f (b ∷ bs) h = or_left (f (b ∷ bs)) (behind_run f bs) h

thrice : (f : List ℕ → Bool) (text : List ℕ) → behind_run (behind_run f) text ≡ true → behind_run f text ≡ true
thrice f [] h = h
thrice f (b ∷ bs) h = or_one (behind_run f (b ∷ bs)) (behind_run (behind_run f) bs) h (λ k. k) (λ k. or_right (f (b ∷ bs)) (behind_run f bs) (thrice f bs k))

-- a run behind a run is a run
pub run_twice : (f : List ℕ → Bool) (text : List ℕ) → behind_run (behind_run f) text ≡ behind_run f text
run_twice f text = both_ways (behind_run (behind_run f) text) (behind_run f text) (thrice f text) (here (behind_run f) text)

-- a way past one piece
pub record IsPast (past : List ℕ → Option (List ℕ)) : Type 0 where
  -- the empty text has no piece
  pub empty : past [] ≡ None
  -- what is left is left behind some run
  pub weak : (f : List ℕ → Bool) (text : List ℕ) → passes f (past text) ≡ true → behind_run f text ≡ true
  -- and what is left further on is left behind what is left here
  pub reach : (f : List ℕ → Bool) (text left : List ℕ) → past text ≡ Some left → behind_run (λ t. passes f (past t)) text ≡ true → behind_run f left ≡ true

weak_run : (past : List ℕ → Option (List ℕ)) → past [] ≡ None → ((f : List ℕ → Bool) (text : List ℕ) → passes f (past text) ≡ true → behind_run f text ≡ true)
    → (f : List ℕ → Bool) (text : List ℕ) → behind_run (λ t. passes f (past t)) text ≡ true → behind_run f text ≡ true
weak_run past none weak f [] h = weak f [] h
weak_run past none weak f (b ∷ bs) h = or_one (passes f (past (b ∷ bs))) (behind_run (λ t. passes f (past t)) bs) h
    (weak f (b ∷ bs))
    (λ k. or_right (f (b ∷ bs)) (behind_run f bs) (weak_run past none weak f bs k))

-- ---- a byte

byte_weak : (c : ℕ) (f : List ℕ → Bool) (text : List ℕ) → passes f (past_byte c text) ≡ true → behind_run f text ≡ true
byte_weak c f [] h = absurd (true≢false (sym h))
byte_weak c f (b ∷ bs) h = by_test (b == c)
    (λ e. or_right (f (b ∷ bs)) (behind_run f bs) (here f bs (rw e at h)))
    (λ e. absurd (true≢false (sym (rw e at h))))

byte_reach : (c : ℕ) (f : List ℕ → Bool) (text left : List ℕ) → past_byte c text ≡ Some left → behind_run (λ t. passes f (past_byte c t)) text ≡ true → behind_run f left ≡ true
byte_reach c f [] left e h = absurd cc
byte_reach c f (b ∷ bs) left e h = by_test (b == c)
    (λ d.
    let at : bs ≡ left = some_eq bs left (rw d at e) in
    subst (λ t. behind_run f t ≡ true) at (or_one (passes f (past_byte c (b ∷ bs))) (behind_run (λ t. passes f (past_byte c t)) bs) h
    (λ k. here f bs (rw d at k))
    (weak_run (past_byte c) refl (byte_weak c) f bs)))
    (λ d. absurd (none_some left (rw d at e)))

pub byte_past : (c : ℕ) → IsPast (past_byte c)
byte_past c = record { empty = refl; weak = byte_weak c; reach = byte_reach c }

-- ---- a character

start_weak : (f : List ℕ → Bool) (bs : List ℕ) → f (next_start bs) ≡ true → behind_run f bs ≡ true
start_weak f [] h = h
start_weak f (b ∷ bs) h = by_test (is_char_start b)
    (λ e. or_left (f (b ∷ bs)) (behind_run f bs) (rw e at h))
    (λ e. or_right (f (b ∷ bs)) (behind_run f bs) (start_weak f bs (rw e at h)))

character_weak : (f : List ℕ → Bool) (text : List ℕ) → passes f (past_character text) ≡ true → behind_run f text ≡ true
character_weak f [] h = absurd (true≢false (sym h))
character_weak f (b ∷ bs) h = by_test (is_char_start b)
    (λ e. or_right (f (b ∷ bs)) (behind_run f bs) (start_weak f bs (rw e at h)))
    (λ e. absurd (true≢false (sym (rw e at h))))

further : (f : List ℕ → Bool) (bs : List ℕ) → behind_run (λ t. passes f (past_character t)) bs ≡ true → behind_run f (next_start bs) ≡ true
further f [] h = absurd (true≢false (sym h))
further f (b ∷ bs) h = by_test (is_char_start b)
    (λ e. rw e (weak_run past_character refl character_weak f (b ∷ bs) h))
    (λ e. rw e (or_one (passes f (past_character (b ∷ bs))) (behind_run (λ t. passes f (past_character t)) bs) h
    (λ k. absurd (true≢false (sym (rw e at k))))
    (further f bs)))

character_reach : (f : List ℕ → Bool) (text left : List ℕ) → past_character text ≡ Some left → behind_run (λ t. passes f (past_character t)) text ≡ true → behind_run f left ≡ true
character_reach f [] left e h = absurd cc
character_reach f (b ∷ bs) left e h = by_test (is_char_start b)
    (λ d.
    let at : next_start bs ≡ left = some_eq (next_start bs) left (rw d at e) in
    subst (λ t. behind_run f t ≡ true) at (or_one (passes f (past_character (b ∷ bs))) (behind_run (λ t. passes f (past_character t)) bs) h
    (λ k. here f (next_start bs) (rw d at k))
    (further f bs)))
    (λ d. absurd (none_some left (rw d at e)))

pub character_past : IsPast past_character
character_past = record { empty = refl; weak = character_weak; reach = character_reach }

-- ---- a pattern that begins with a piece

pub not_here : (f : List ℕ → Bool) (text : List ℕ) → behind_run f text ≡ false → f text ≡ false
not_here f text h = by_test (f text) (λ e. absurd (true≢false (sym (here f text e) ∙ h))) (λ e. e)

-- short of what follows is short
pub short_past : (past : List ℕ → Option (List ℕ)) → IsPast past → (f : List ℕ → Bool) (text left : List ℕ) → past text ≡ Some left → behind_run f left ≡ false → behind_run (λ t. passes f (past t)) text ≡ false
short_past past i f text left e h = by_test (behind_run (λ t. passes f (past t)) text)
    (λ k. absurd (true≢false (sym (i.reach f text left e k) ∙ h)))
    (λ k. k)

-- what decides behind the piece, here and further on, decides before it
pub run_past : (past : List ℕ → Option (List ℕ)) → IsPast past → (f : List ℕ → Bool) (text left : List ℕ) (b : Bool) → past text ≡ Some left → f left ≡ b → behind_run f left ≡ b → behind_run (λ t. passes f (past t)) text ≡ b
run_past past i f text left true e h k = here (λ t. passes f (past t)) text (rw e h)
run_past past i f text left false e h k = short_past past i f text left e k

-- an empty text has no piece, here or further on
pub empty_past : (past : List ℕ → Option (List ℕ)) → IsPast past → (f : List ℕ → Bool) → behind_run (λ t. passes f (past t)) [] ≡ false
empty_past past i f = rw i.empty refl
