-- Where a pattern leads, by its first piece.
use Rattle.std.proofs.Common.{◌≡◌, ℕ, ◌-◌, ◌<◌, ◌≤◌, List, [], ◌∷◌, length, take, drop, slice_index_or, refl, sym, subst, arith}
use Rattle.std.specs.Prelude.{◌==◌, Some}
use Rattle.core.specs.Fmt.{is_char_start}
use Rattle.std.proofs.lemmas.List.{take_all}
use Rattle.cmis_laws.proofs.Lists.{by_test, some_eq, none_some}
use Rattle.ql_bind.specs.declared.bound.Piece.{Piece}
use Rattle.ql_bind.specs.declared.bound.Piece.TheVariants.{Run, Character, Byte}
use Rattle.ql_eval.specs.declared.like.Lead.{Lead}
use Rattle.ql_eval.specs.declared.like.Lead.TheVariants as leads
use Rattle.ql_eval.specs.Likes.{likes, behind_run, past_character, past_byte, next_start}
use Rattle.ql_eval.specs.Leads.{Leads}
use Rattle.ql_eval.proofs.Runs.{short_past, run_past, character_past, byte_past, run_twice}

rest_is : (p : Piece) (qs : List Piece) → take (length (p ∷ qs) - 1) (drop 1 (p ∷ qs)) ≡ qs
rest_is p qs = take_all (length (p ∷ qs) - 1) qs (omega arith)

-- ---- what is left is no longer

start_le : (bs : List ℕ) → length (next_start bs) ≤ length bs
start_le [] = omega arith
start_le (b ∷ bs) = by_test (is_char_start b)
    (λ e. rw e (omega arith))
    (λ e. rw e (omega (arith, start_le bs)))

character_le : (text left : List ℕ) → past_character text ≡ Some left → length left ≤ length text
character_le [] left e = absurd (none_some left e)
character_le (b ∷ bs) left e = by_test (is_char_start b)
    (λ d. let at : next_start bs ≡ left = some_eq (next_start bs) left (rw d at e) in
    subst (λ t. length t ≤ length (b ∷ bs)) at (omega (arith, start_le bs)))
    (λ d. absurd (none_some left (rw d at e)))

byte_le : (c : ℕ) (text left : List ℕ) → past_byte c text ≡ Some left → length left ≤ length text
byte_le c [] left e = absurd (none_some left e)
byte_le c (b ∷ bs) left e = by_test (b == c)
    (λ d. let at : bs ≡ left = some_eq bs left (rw d at e) in
    subst (λ t. length t ≤ length (b ∷ bs)) at (omega arith))
    (λ d. absurd (none_some left (rw d at e)))

-- ---- by the first piece

abbrev AtRun : List Piece → List Piece → List ℕ → Type 0
AtRun ps qs text = (likes ps text ≡ behind_run (likes qs) text) × (behind_run (likes ps) text ≡ behind_run (likes qs) text) × (length qs < length ps) × (length text ≤ length text)

at_run : (qs : List Piece) (text : List ℕ) → AtRun (Run ∷ qs) qs text
at_run qs text = (refl, run_twice (likes qs) text, omega arith, omega arith)

pub run_leads : (ps : List Piece) (d : Piece) (text : List ℕ) → 1 ≤ length ps → slice_index_or ps 0 d ≡ Run → AtRun ps (take (length ps - 1) (drop 1 ps)) text
run_leads [] d text l e = absurd (omega (arith, l))
run_leads (p ∷ qs) d text l e = subst (λ rs. AtRun (p ∷ qs) rs text) (sym (rest_is p qs)) (subst (λ q. AtRun (q ∷ qs) qs text) (sym e) (at_run qs text))

at_character : (qs : List Piece) (text left : List ℕ) (r : Lead) → past_character text ≡ Some left → Leads qs left r → Leads (Character ∷ qs) text r
at_character qs text left leads.Fits e h = rw e h
at_character qs text left leads.Differs e h = rw e h
at_character qs text left leads.Short e h = (rw e h.0, short_past past_character character_past (likes qs) text left e h.1)
at_character qs text left (leads.Run rs more) e h = (
  rw e h.0,
  run_past past_character character_past (likes qs) text left (behind_run (likes rs.now) more.now) e h.0 h.1,
  omega (arith, h.2),
  omega (arith, h.3, character_le text left e),
)

pub character_leads : (ps : List Piece) (d : Piece) (text left : List ℕ) (r : Lead) → 1 ≤ length ps → slice_index_or ps 0 d ≡ Character → past_character text ≡ Some left
    → Leads (take (length ps - 1) (drop 1 ps)) left r → Leads ps text r
character_leads [] d text left r l e p h = absurd (omega (arith, l))
character_leads (q ∷ qs) d text left r l e p h = subst (λ s. Leads (s ∷ qs) text r) (sym e) (at_character qs text left r p (subst (λ rs. Leads rs left r) (rest_is q qs) h))

at_byte : (c : ℕ) (qs : List Piece) (text left : List ℕ) (r : Lead) → past_byte c text ≡ Some left → Leads qs left r → Leads (Byte c ∷ qs) text r
at_byte c qs text left leads.Fits e h = rw e h
at_byte c qs text left leads.Differs e h = rw e h
at_byte c qs text left leads.Short e h = (rw e h.0, short_past (past_byte c) (byte_past c) (likes qs) text left e h.1)
at_byte c qs text left (leads.Run rs more) e h = (
  rw e h.0,
  run_past (past_byte c) (byte_past c) (likes qs) text left (behind_run (likes rs.now) more.now) e h.0 h.1,
  omega (arith, h.2),
  omega (arith, h.3, byte_le c text left e),
)

pub byte_leads : (c : ℕ) (ps : List Piece) (d : Piece) (text left : List ℕ) (r : Lead) → 1 ≤ length ps → slice_index_or ps 0 d ≡ Byte c → past_byte c text ≡ Some left
    → Leads (take (length ps - 1) (drop 1 ps)) left r → Leads ps text r
byte_leads c [] d text left r l e p h = absurd (omega (arith, l))
byte_leads c (q ∷ qs) d text left r l e p h = subst (λ s. Leads (s ∷ qs) text r) (sym e) (at_byte c qs text left r p (subst (λ rs. Leads rs left r) (rest_is q qs) h))
