-- The pairs of a form and of a target's query, and what is read from them by name.
use Rattle.std.specs.Prelude.{ℕ, ◌+◌, zero, suc, List, [], ◌∷◌, ◌++◌, length, decimal, codes, find, bytes_eq, Bool, Option, Some, None, option_map}
use Rattle.std.specs.Option.{is_some}
use Rattle.form_args.specs.declared.pairs.Pair.{Pair}

-- the value of the first pair of this name
abbrev pub first_of : List Pair → List ℕ → Option (List ℕ)
first_of pairs name = option_map (λ p. p.value) (find (λ p. bytes_eq p.name name) pairs)

-- whether an argument is given
abbrev pub is_given : List Pair → List ℕ → Bool
is_given pairs name = is_some (first_of pairs name)

-- NAME[i]
abbrev pub indexed : List ℕ → ℕ → List ℕ
indexed name i = name ++ (codes "[" ++ (decimal i ++ codes "]"))

-- a value before the others, or the end of the list where it is absent
abbrev pub before : Option (List ℕ) → List (List ℕ) → List (List ℕ)
before None others = []
before (Some v) others = v ∷ others

-- the values of NAME[i], NAME[i+1], .. up to the first that is absent, n of them at most
abbrev pub texts_from : List Pair → List ℕ → ℕ → ℕ → List (List ℕ)
texts_from pairs name zero i = []
texts_from pairs name (suc n) i = before (first_of pairs (indexed name i)) (texts_from pairs name n (i + 1))

-- the values of NAME[0], NAME[1], .. up to the first that is absent (CMIS 1.1, section 5.4.4.3.2): no more than there are pairs
abbrev pub texts_of : List Pair → List ℕ → List (List ℕ)
texts_of pairs name = texts_from pairs name (length pairs) 0
