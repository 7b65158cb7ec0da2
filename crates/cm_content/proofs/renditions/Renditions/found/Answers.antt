use Rattle.std.proofs.Common.{◌≡◌, ◌==◌, ℕ, ◌++◌, ◌∷◌, [], map, filter_map, find, Option, sym, ap, ◌∙◌}
use mathlib.Core.List.{map-append}
use Rattle.std.proofs.lemmas.List.Elements.{filter_map-append}
use Rattle.cm_base.specs.declared.content.Rendition.{Rendition}
use Rattle.cm_map.specs.Parts.{pointee}
use Rattle.cm_content.proofs.renditions.Renditions.found.Goals as goal

pub loop-entry-preserved : goal.loop-entry-preserved
loop-entry-preserved c =
    let f : ℕ × Unit {0} → Option Rendition = λ e. find (λ d. d.id.0 == e.0) c.args.self.now in
    c.in_ok-add_found.ensures
    ∙ (ap (λ l. l ++ filter_map f (c.in-Some.entry.now ∷ [])) c.loop-entry.invariant
    ∙ (sym (filter_map-append f (map pointee c.loop-entry.yielded) (c.in-Some.entry.now ∷ [])) ∙ ap (filter_map f) (sym (map-append pointee c.loop-entry.yielded (c.in-Some.entry ∷ [])))))
