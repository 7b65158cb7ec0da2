-- Names are texts.
use Rattle.std.proofs.Common.{◌≡◌, ◌&&◌, ℕ, Bool, true, false, List, [], ◌∷◌, Some, None, refl, arith, zero, suc}
use Rattle.std.specs.Prelude.{codes, bytes_eq, if◌then◌else◌}
use Rattle.std.specs.List.{list_all}
use Rattle.std.specs.Str.{IsUtf8, IsAscii}
use Rattle.std.proofs.lemmas.Bool.{and_parts}
use Rattle.std.proofs.lemmas.Grind.{common_steps}
use Rattle.std.proofs.lemmas.Str.{IsUtf8-from_ascii}
use Rattle.schedule_lines.specs.Lines.{is_letter_or_digit, has_name_length, is_name, write_of}
use Rattle.schedule_lines.specs.declared.step.Act.{Act}
use Rattle.schedule_lines.specs.declared.step.Act.TheVariants.{Write}

-- letters and digits are ASCII
letters_ascii : (bs : List ℕ) → list_all is_letter_or_digit bs ≡ true → IsAscii bs
letters_ascii [] p i = grind (arith, common_steps)
letters_ascii (b ∷ bs) p zero = grind (arith, common_steps)
letters_ascii (b ∷ bs) p (suc i) = grind (arith, common_steps, letters_ascii bs (grind (arith, common_steps)) i)

none_by : (a b : Bool) (act : Act) → (b ≡ true → ⊥) → (if a && b then Some act else None) ≡ None
none_by a true act f = absurd (f refl)
none_by true false act f = refl
none_by false false act f = refl

-- what is no text is no name
pub no_text : (word name : List ℕ) → ¬ (IsUtf8 name) → write_of word name ≡ None
no_text word name f = none_by (bytes_eq word (codes "write")) (is_name name) (Write name)
    (λ e. f (IsUtf8-from_ascii name (letters_ascii name (and_parts (has_name_length name) (list_all is_letter_or_digit name) e).1)))
