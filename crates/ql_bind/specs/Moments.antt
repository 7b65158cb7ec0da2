-- The texts of timestamps in queries (CMIS 1.1, section 2.1.14.2.1).
use Rattle.std.specs.Prelude.{ℕ, ℤ, pos, List, [], ◌∷◌, Bool, true, false, ◌&&◌, ◌||◌, ◌==◌, if◌then◌else◌, Option, None, option_map, codes, int_div}
use Rattle.std.specs.Char.{is_ascii_digit}
use Rattle.std.specs.Result.{result_ok}
use Rattle.jiff.specs.Words.{parse_timestamp}

-- the byte fits the letter of a form: at `0` a digit, at `+` a sign, at another letter this letter
abbrev pub fits : ℕ → ℕ → Bool
fits letter b =
    if letter == 48 then is_ascii_digit b
    else if letter == 43 then b == 43 || b == 45
    else b == letter

-- the text has the form, byte for byte
abbrev pub has_form : List ℕ → List ℕ → Bool
has_form [] [] = true
has_form [] (b ∷ bs) = false
has_form (l ∷ ls) [] = false
has_form (l ∷ ls) (b ∷ bs) = fits l b && has_form ls bs

-- YYYY-MM-DDThh:mm:ss.sss and Z, or an offset
abbrev pub is_timestamp : List ℕ → Bool
is_timestamp text = has_form (codes "0000-00-00T00:00:00.000Z") text || has_form (codes "0000-00-00T00:00:00.000+00:00") text

-- the milliseconds since 1970, UTC, as jiff reads the text; none where it has another form, or jiff does not read it
abbrev pub moment_of : List ℕ → Option ℤ
moment_of text = if is_timestamp text then option_map (λ n. int_div n (pos 1000000)) (result_ok (parse_timestamp text)) else None
