-- The numbers of passes, and of those that have ended.
use Rattle.std.specs.Prelude.{◌≡◌, ℕ, zero, suc, ◌<◌, ◌≤◌, List, [], ◌∷◌}
use Rattle.std.specs.List.{filter}
use mathlib.Core.Option.{some}
use lib.ListN.{get_elem?}
use Rattle.desk_model.specs.declared.entry.Entry.{Entry}
use Rattle.desk_model.specs.Histories.{is_by}

-- how many passes a lock makes at most
unfoldable pub most_passes : ℕ
most_passes = 4294967295

-- the entries of session n
abbrev pub by : {C : Type 0} → ℕ → List (Entry C) → List (Entry C)
by n es = filter (is_by n) es

-- which passes a seat answers for: its own number if it is live, and those of the passes that ended into it, each with its entries; and how many passes were made, at the first pass
pub record Card (C : Type 0) : Type 0 where
  pub live : ℕ
  pub number : ℕ
  pub made : ℕ
  pub ended : List (ℕ × List (Entry C))

-- n stands in the list
abbrev pub IsIn : ℕ → List ℕ → Type 0
IsIn n l = (k : ℕ) × (get_elem? l k ≡ some n)

-- no number stands in the list twice
abbrev pub AreApart : List ℕ → Type 0
AreApart l = (i j n : ℕ) → get_elem? l i ≡ some n → get_elem? l j ≡ some n → i ≡ j

module _ {C : Type 0} where
  -- the numbers of ended passes
  abbrev pub names : List (ℕ × List (Entry C)) → List ℕ
  names [] = []
  names (x ∷ xs) = x.0 ∷ names xs

  abbrev pub numbers_at : ℕ → ℕ → List (ℕ × List (Entry C)) → List ℕ
  numbers_at zero n es = names es
  numbers_at (suc k) n es = n ∷ names es

  -- the numbers of the passes that a seat answers for
  abbrev pub numbers : Card C → List ℕ
  numbers c = numbers_at c.live c.number c.ended

-- The numbers of views and of ended passes are distinct and below the number of passes made, which one seat knows.
-- Each entry past the beginning has the number of a view or of an ended pass; an ended pass is kept at one seat, with its entries.
pub record Ranks {C : Type 0} (news : List (Entry C)) (cards : List (Card C)) : Type 0 where
  pub first : ℕ
  pub made : ℕ
  pub keeper : ℕ → ℕ
  pub few : made ≤ most_passes
  pub one_first : (j : ℕ) (c : Card C) → get_elem? cards j ≡ some c → 0 < c.made → (j ≡ first) × (c.made ≡ made)
  pub kept : (j n : ℕ) (c : Card C) → get_elem? cards j ≡ some c → IsIn n (numbers c) → (keeper n ≡ j) × (n < made)
  pub apart : (j : ℕ) (c : Card C) → get_elem? cards j ≡ some c → AreApart (numbers c)
  pub covered : (k : ℕ) (e : Entry C) → get_elem? news k ≡ some e → (j : ℕ) × (c : Card C) × (get_elem? cards j ≡ some c) × IsIn e.session (numbers c)
  pub ended : (j k : ℕ) (c : Card C) (x : ℕ × List (Entry C)) → get_elem? cards j ≡ some c → get_elem? c.ended k ≡ some x → by x.0 news ≡ x.1
