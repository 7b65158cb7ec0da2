use Rattle.std.proofs.Common.{option_copied, sym, ap, ◌∙◌}
use Rattle.std.specs.List.{list_any}
use Rattle.cmis_spec.specs.Repository.{same}
use Rattle.cm_folder.specs.Filings.{is_filed_in}
use Rattle.cm_folder.proofs.Lookups.{folders_of, filed_same}
use Rattle.cm_folder.proofs.filing.Filing.is_filed.Goals as goal

pub returns-in-Some : goal.returns-in-Some
returns-in-Some c =
    let f = c.args.folder in
    let s = c.self.inside in
    c.has_folder.ensures.value
    ∙ ap (list_any (λ e. same e.1 f)) (folders_of s.parts.entries s.parts.by_child s.parts.by_folder s.parts.by_name c.self.invariant.indexed c.args.child.0 _ (ap option_copied (sym c.in-Some.is) ∙ c.bucket.ensures) c.has_folder.ensures.sorted)
    ∙ filed_same f c.args.child s.parts.entries ∙ ap (λ l. is_filed_in l f c.args.child) c.self.view_is

pub returns-in-None : goal.returns-in-None
returns-in-None c =
    let f = c.args.folder in
    let s = c.self.inside in
    ap (list_any (λ e. same e.1 f)) (folders_of s.parts.entries s.parts.by_child s.parts.by_folder s.parts.by_name c.self.invariant.indexed c.args.child.0 _ (ap option_copied (sym c.in-None.is) ∙ c.bucket.ensures) tt)
    ∙ filed_same f c.args.child s.parts.entries ∙ ap (λ l. is_filed_in l f c.args.child) c.self.view_is
