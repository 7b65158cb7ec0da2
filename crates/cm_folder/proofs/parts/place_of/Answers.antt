use Rattle.std.proofs.Common.{ℕ, List, Some, None, is_some, if◌then◌else◌, option_map, [], ◌∷◌, map, sym, ap, ◌∙◌}
use Rattle.std.specs.List.{find as find_by}
use mathlib.Core.List.{map-append}
use Rattle.cm_map.specs.Parts.{pointee}
use Rattle.cm_base.specs.declared.number.Oid.{Oid}
use Rattle.cmis_spec.specs.Repository.{same}
use Rattle.cm_folder.proofs.Lookups.{place_more}
use Rattle.cm_folder.proofs.parts.place_of.Goals as goal

pub loop-entry-preserved : goal.loop-entry-preserved
loop-entry-preserved c =
    let f = c.args.folder in
    let y = c.in-Some.entry.now in
    let ys = c.loop-entry.yielded in
    c.earlier-found.ensures
    ∙ (ap (λ o. if is_some o then o else if same y.1 f then Some y.0 else None) c.loop-entry.invariant
    ∙ (place_more f (map pointee ys) y
    ∙ ap (λ (l : List (ℕ × Oid)). option_map (λ e. e.0) (find_by (λ e. same e.1 f) l)) (sym (map-append pointee ys (c.in-Some.entry ∷ [])))))
