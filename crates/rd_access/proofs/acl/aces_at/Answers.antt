use Rattle.std.proofs.Common.{sym, ap, subst, ◌∙◌, option_copied}
use Rattle.std.proofs.lemmas.List.Elements.{All-weaker}
use Rattle.cmis_spec.specs.Repository.{same}
use Rattle.cmis_spec.specs.Well.{Apart, ComesBefore, IsAccess, IsAceList}
use Rattle.cmis_laws.proofs.Lists.{found_holds}
use Rattle.rd_access.proofs.acl.aces_at.Goals as goal

pub shown_aces-requires : goal.shown_aces-requires
shown_aces-requires c =
    let r = c.args.state.now in
    record {
      ordered = subst (Apart ComesBefore) (sym c.as_slice.ensures)
          (found_holds (λ l. IsAceList l.aces) (λ l. same l.at c.args.n) r.access c.in-Some.list.now
          (All-weaker (IsAccess r) (λ l. IsAceList l.aces) (λ l h. h.1) r.access c.step-step.ensures.well.access.1)
          (sym (ap option_copied (sym c.in-Some.is) ∙ c.access_list.ensures))).0;
    }
