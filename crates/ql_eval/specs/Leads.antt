-- Where a pattern and a text lead up to the next run.
use Rattle.std.specs.Prelude.{◌≡◌, ℕ, ◌<◌, ◌≤◌, true, false, List, [], length}
use Rattle.ql_bind.specs.declared.bound.Piece.{Piece}
use Rattle.ql_eval.specs.declared.like.Lead.{Lead}
use Rattle.ql_eval.specs.declared.like.Lead.TheVariants as leads
use Rattle.ql_eval.specs.Likes.{likes, behind_run}

-- short: nothing that is left behind any run fits; at a run: to fit, here or behind any run, is to fit behind that one
abbrev pub Leads : List Piece → List ℕ → Lead → Type 0
Leads ps text leads.Fits = likes ps text ≡ true
Leads ps text leads.Differs = likes ps text ≡ false
Leads ps text leads.Short = (likes ps text ≡ false) × (behind_run (likes ps) text ≡ false)
Leads ps text (leads.Run qs left) =
    (likes ps text ≡ behind_run (likes qs.now) left.now)
    × (behind_run (likes ps) text ≡ behind_run (likes qs.now) left.now)
    × (length qs.now < length ps)
    × (length left.now ≤ length text)

-- of a piece that doesn't fit: the text is short where it is empty
abbrev pub Misses : List ℕ → Lead → Type 0
Misses text leads.Fits = ⊥
Misses text leads.Differs = Unit {0}
Misses text leads.Short = text ≡ []
Misses text (leads.Run qs left) = ⊥
