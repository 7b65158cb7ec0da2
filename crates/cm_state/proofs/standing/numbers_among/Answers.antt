use Rattle.std.proofs.Common.{ℕ, Bool, ◌||◌, ◌∷◌, [], sym, ap, ◌∙◌, map}
use Rattle.std.specs.List.{list_any}
use mathlib.Core.List.{map-append}
use Rattle.cm_map.specs.Parts.{pointee}
use Rattle.cm_base.specs.declared.number.Oid.{Oid}
use Rattle.cm_state.specs.Looks.{standing_at, has_number}
use Rattle.cm_state.proofs.Numbers.{any_last}
use Rattle.cm_state.proofs.standing.numbers_among.Goals as goal

pub loop-entry-preserved : goal.loop-entry-preserved
loop-entry-preserved c n =
    let t : ℕ × Oid → Bool = λ e. has_number n (standing_at c.args.parts.now e.1) in
    c.in_ok-all.ensures n
    ∙ ((λ i. has_number n (c.standing.ensures i) || c.loop-entry.invariant n i)
    ∙ (sym (any_last t (map pointee c.loop-entry.yielded) c.in-Some.entry.now) ∙ ap (list_any t) (sym (map-append pointee c.loop-entry.yielded (c.in-Some.entry ∷ [])))))
