use Rattle.std.proofs.Common.{◌≡◌, ℕ, ◌≤◌, List, length, slice_get, Option, Some, None, MatchOption, Bor, find, sym, ap, ◌∙◌}
use Rattle.std.specs.Prelude.{option_and_then}
use Rattle.std.specs.Option.{option_copied}
use Rattle.std.proofs.lemmas.Option.{slice_get_past}
use Rattle.cm_base.specs.declared.log.Change.{Change}
use Rattle.cmis_spec.specs.Seen.{is_deletion_of}
use Rattle.cm_log.proofs.Deletions.{found_by}
use Rattle.cm_log.proofs.log.Log.deletion_of.Goals as goal

got : (cs : List Change) (i : ℕ) (o : Option (Bor Change)) → MatchOption o (length cs ≤ i) (λ e. slice_get cs i ≡ Some e.now) → option_copied o ≡ slice_get cs i
got cs i None h = sym (slice_get_past cs i h)
got cs i (Some e) h = sym h

pub returns-in-Some : goal.returns-in-Some
returns-in-Some c =
    let events = c.self.inside.events in
    got events c.in-Some.place.now c.get-in-Some.result c.get-in-Some.ensures
    ∙ (ap (option_and_then (slice_get events)) c.in-Some.ensures
    ∙ (found_by c.self.inside.deletions events c.args.n c.self.invariant ∙ ap (find (is_deletion_of c.args.n)) c.self.view_is))

pub returns-in-None : goal.returns-in-None
returns-in-None c =
    let events = c.self.inside.events in
    ap (option_and_then (slice_get events)) c.in-None.ensures
    ∙ (found_by c.self.inside.deletions events c.args.n c.self.invariant ∙ ap (find (is_deletion_of c.args.n)) c.self.view_is)
