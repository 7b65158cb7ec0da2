-- The line at the front of a text.
use Rattle.std.proofs.Common.{◌≡◌, ◌∙◌, ◌++◌, ◌+◌, ◌<◌, ◌&&◌, ◌||◌, ℕ, Bool, true, false, List, [], ◌∷◌, length, Some, None, refl, ap, arith}
use Rattle.std.specs.Prelude.{nat_lt, nat_le, if◌then◌else◌}
use Rattle.std.specs.List.{list_any, slice_split, before_first, after_first}
use Rattle.std.proofs.lemmas.Bool.{ltb-true, lt-leb, and_right, or_parts}
use Rattle.schedule_lines.specs.Limits.{most_lines, longest_line}
use Rattle.schedule_lines.specs.Lines.{is_blank, is_within, step_of, asked_by}
use Rattle.schedule_lines.specs.Scripts.{is_line_feed, last_line, lines_in, lines_of, Script, with_line, script_from}
use Rattle.schedule_lines.specs.Reading.{has_line}
use Rattle.schedule_lines.specs.declared.step.Step.{Step}
use Rattle.schedule_lines.proofs.Pieces.{first_piece, piece_ends, one_piece}

-- nothing to do, and a bad line at once
abbrev pub ended : Script
ended = record { steps = []; bad = None }

abbrev pub stopped : ℕ → Script
stopped n = record { steps = []; bad = Some n }

-- a line before others
pub line_before : (over : Bool) (line : List ℕ) (pieces : List (List ℕ)) → (q : List ℕ) × (qs : List (List ℕ)) × (pieces ≡ q ∷ qs) → lines_in over (line ∷ pieces) ≡ line ∷ lines_in over pieces
line_before over line pieces (q, qs, e) = rw e refl

-- a line that stands whole
pub whole_line : (n : ℕ) (over : Bool) (ahead more : List ℕ) → list_any is_line_feed ahead ≡ true
    → script_from n (lines_of over (ahead ++ more)) ≡ with_line n (asked_by n (before_first is_line_feed ahead)) (script_from (n + 1) (lines_of over (after_first is_line_feed ahead ++ more)))
whole_line n over ahead more h =
    let rest = after_first is_line_feed ahead ++ more in
    ap (λ pieces. script_from n (lines_in over pieces)) (piece_ends is_line_feed ahead more h)
    ∙ ap (script_from n) (line_before over (before_first is_line_feed ahead) (slice_split is_line_feed rest) (first_piece is_line_feed rest))

asked_within : (n : ℕ) (line : List ℕ) (b : Bool) → is_within n line ≡ b → asked_by n line ≡ (if b then step_of (slice_split is_blank line) else None)
asked_within n line b e = ap (λ t. if t then step_of (slice_split is_blank line) else None) e

-- a line that is too long
pub too_long : (n : ℕ) (line : List ℕ) → nat_lt longest_line (length line) ≡ true → asked_by n line ≡ None
too_long n line h = asked_within n line false (and_right (nat_le n most_lines) (nat_le (length line) longest_line) (lt-leb (length line) longest_line (ltb-true longest_line (length line) h)))

-- a line that is read is not the first one too many
pub not_too_many : (n : ℕ) (line : List ℕ) (step : Step) → asked_by n line ≡ Some step → nat_le n most_lines ≡ true
not_too_many n line step h = by_test (nat_le n most_lines) (nat_le (length line) longest_line) refl h
  where
    by_test : (b c : Bool) → nat_le n most_lines ≡ b → (if b && c then step_of (slice_split is_blank line) else None) ≡ Some step → nat_le n most_lines ≡ true
    by_test true c e k = e
    by_test false c e k = cc k

nothing_long : nat_lt longest_line 0 ≡ true → ⊥
nothing_long h = omega (arith, ltb-true longest_line 0 h)

-- a line that has begun and is too long
pub long_line : (n : ℕ) (over : Bool) (ahead : List ℕ) → list_any is_line_feed ahead ≡ false → nat_lt longest_line (length ahead) ≡ true → script_from n (lines_of over ahead) ≡ stopped n
long_line n over [] none long = absurd (nothing_long long)
long_line n over (b ∷ bs) none long =
    ap (λ pieces. script_from n (lines_in over pieces)) (one_piece is_line_feed (b ∷ bs) none).0
    ∙ by_test over (nat_lt longest_line (length (b ∷ bs))) long (too_long n (b ∷ bs) long)
  where
    by_test : (over long : Bool) → long ≡ true → asked_by n (b ∷ bs) ≡ None → script_from n (if over || long then (b ∷ bs) ∷ [] else []) ≡ stopped n
    by_test true long e bad = rw bad refl
    by_test false true e bad = rw bad refl
    by_test false false e bad = cc e

-- the last line of a text, without a line feed
pub line_at_end : (n : ℕ) (ahead : List ℕ) → list_any is_line_feed ahead ≡ false → 0 < length ahead → script_from n (lines_of true ahead) ≡ with_line n (asked_by n ahead) ended
line_at_end n [] none some = absurd (omega (arith, some))
line_at_end n (b ∷ bs) none some = ap (λ pieces. script_from n (lines_in true pieces)) (one_piece is_line_feed (b ∷ bs) none).0

-- where no line has come yet, there is none
pub no_line : (n : ℕ) (ahead : List ℕ) → has_line ahead ≡ false → script_from n (lines_of false ahead) ≡ ended
no_line n ahead h =
    let t = or_parts (list_any is_line_feed ahead) (nat_lt longest_line (length ahead)) h in
    ap (λ pieces. script_from n (lines_in false pieces)) (one_piece is_line_feed ahead t.0).0 ∙ begun ahead t.1
  where
    begun : (line : List ℕ) → nat_lt longest_line (length line) ≡ false → script_from n (last_line false line) ≡ ended
    begun [] short = refl
    begun (b ∷ bs) short = rw short refl

-- nothing is no line
pub has_none : has_line [] ≡ true → ⊥
has_none h = nothing_long h
