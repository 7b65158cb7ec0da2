-- One value of an argument: a flag, a number, a word of a list of choices.
use Rattle.std.specs.Prelude.{ℕ, List, Bool, Option, Some, None, Ok}
use Rattle.cm_types.specs.Properties.{flag_of_text}
use Rattle.cm_base.specs.declared.cause.Cause.TheVariants as causes
use Rattle.cm_base.specs.Judged.{Judged, find_or}
use Rattle.cm_base.specs.Decimals.{decimal_u64}
use Rattle.form_args.specs.declared.pairs.Pair.{Pair}
use Rattle.form_args.specs.Pairs.{first_of}

-- what is read of a word that may be absent
abbrev pub read_or : {A : Type 0} → List ℕ → A → (List ℕ → Option A) → Option (List ℕ) → Judged A
read_or name default read None = Ok default
read_or name default read (Some w) = find_or (causes.BadArgument name) (read w)

-- the value of an argument, by its form; the default where it is not given
abbrev pub chosen : {A : Type 0} → (List ℕ → Option A) → List Pair → List ℕ → A → Judged A
chosen read pairs name default = read_or name default read (first_of pairs name)

-- a flag, or its default
abbrev pub flag_of : List Pair → List ℕ → Bool → Judged Bool
flag_of pairs name default = chosen flag_of_text pairs name default

-- decimal digits without a sign or a leading zero, below 2^64; or the default
abbrev pub number_of : List Pair → List ℕ → ℕ → Judged ℕ
number_of pairs name default = chosen decimal_u64 pairs name default

-- the value of an argument that must be given
abbrev pub needed : List Pair → List ℕ → Judged (List ℕ)
needed pairs name = find_or (causes.MissingArgument name) (first_of pairs name)
