-- The encoding of an addressed object: 0 and its id, or 1 and the names on its path.
use Rattle.std.proofs.Common.{◌≡◌, refl, inl, inr, ◌⊎◌, List, ℕ}
use Rattle.call_parts.specs.declared.place.Place.{Place}
use Rattle.call_parts.specs.declared.place.Place.TheVariants.{Id, Path}
use Rattle.byte_codec.specs.Codecs.{Codec}
use Rattle.byte_codec.specs.Parts.{via}
use Rattle.byte_codec.specs.Numbers.{text}
use Rattle.byte_codec.specs.Runs.{list}
use Rattle.byte_codec.specs.Choices.{one, ◌or◌, choice}

abbrev pub place_parts : Place → List ℕ ⊎ List (List ℕ)
place_parts (Id id) = inl id
place_parts (Path names) = inr names

abbrev pub place_of : List ℕ ⊎ List (List ℕ) → Place
place_of (inl id) = Id id
place_of (inr names) = Path names

pub place_forth : (p : Place) → place_of (place_parts p) ≡ p
place_forth (Id id) = refl
place_forth (Path names) = refl

pub place_back : (s : List ℕ ⊎ List (List ℕ)) → place_parts (place_of s) ≡ s
place_back (inl id) = refl
place_back (inr names) = refl

abbrev pub place : Codec Place
place = via place_parts place_of place_forth place_back (choice (one text or one (list text)))
