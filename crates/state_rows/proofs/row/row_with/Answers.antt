use Rattle.std.proofs.Common.{◌≡◌, ap, sym, ◌∙◌, map}
use Rattle.std.specs.List.{flat_map}
use Rattle.cmis_spec.specs.Repository.{entry_of, folders_up}
use Rattle.cmis_spec.specs.Access.{parents_of}
use Rattle.state_rows.proofs.Parents.{flat_ids}
use Rattle.state_rows.proofs.row.row_with.Goals as goal

pub returns : goal.returns
returns c =
    let r = c.args.state.now in
    let u = c.args.user.now in
    let x = c.args.x.now in
    let folders : c.in_ok-folders.folders ≡ map (λ f. f.id) (parents_of r u (entry_of x)) = c.in_ok-folders.ensures ∙ ap (λ n. map (λ f. f.id) (parents_of r u n)) c.entry_of.ensures in
    λ i. record {
      id = x.id;
      values = c.args.values;
      folders = folders i;
      above = (c.in_ok-above.ensures ∙ (ap (flat_map (folders_up r)) (c.as_slice.ensures ∙ folders) ∙ sym (flat_ids (folders_up r) (parents_of r u (entry_of x))))) i;
    }
