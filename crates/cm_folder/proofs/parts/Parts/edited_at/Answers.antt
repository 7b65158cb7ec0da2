use Rattle.std.proofs.Common.{◌==◌, cond, option_and_then, [], ◌∷◌, map, refl, sym, ap, ◌∙◌}
use Rattle.std.specs.List.{list_any}
use Rattle.core.specs.Ordering.{nat_cmp}
use Rattle.core.specs.FinMap.Entries.{find}
use mathlib.Core.List.{map-append}
use Rattle.cm_map.specs.Parts.{pointee}
use Rattle.cm_folder.specs.Filings.{edit_of}
use Rattle.cm_folder.proofs.Indexing.{changed_more}
use Rattle.cm_folder.proofs.parts.Parts.edited_at.Goals as goal

pub loop-entry-preserved : goal.loop-entry-preserved
loop-entry-preserved c =
    let f = edit_of c.args.edit.now in
    let es = c.args.self.now.entries in
    let y = c.in-Some.entry.now in
    record {
      indexed = c.in_ok-parts.ensures.indexed;
      found = λ p. changed_more f es c.loop-entry.parts.entries c.in_ok-parts.parts.entries (map pointee c.loop-entry.yielded) y (option_and_then f (find nat_cmp y.0 es)) c.loop-entry.invariant.found refl c.in_ok-parts.ensures.found p
          ∙ ap (λ l. cond (list_any (λ e. p == e.0) l) (option_and_then f (find nat_cmp p es)) (find nat_cmp p es)) (sym (map-append pointee c.loop-entry.yielded (c.in-Some.entry ∷ [])));
    }
