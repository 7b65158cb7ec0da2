use Rattle.std.proofs.Common.{option_copied, option_map, sym, ap, ◌∙◌}
use Rattle.std.specs.List.{find as find_by}
use Rattle.cmis_spec.specs.Repository.{same}
use Rattle.cm_folder.proofs.Lookups.{folders_of}
use Rattle.cm_folder.proofs.parts.Parts.place_under.Goals as goal

pub returns-in-Some : goal.returns-in-Some
returns-in-Some c =
    let s = c.args.self.now in
    c.place_of.ensures.value
    ∙ ap (λ b. option_map (λ d. d.0) (find_by (λ d. same d.1 c.args.folder) b)) (folders_of s.entries s.by_child s.by_folder s.by_name c.requires.indexed c.args.child.0 _ (ap option_copied (sym c.in-Some.is) ∙ c.bucket.ensures) c.place_of.ensures.sorted)

pub returns-in-None : goal.returns-in-None
returns-in-None c =
    let s = c.args.self.now in
    ap (λ b. option_map (λ d. d.0) (find_by (λ d. same d.1 c.args.folder) b)) (folders_of s.entries s.by_child s.by_folder s.by_name c.requires.indexed c.args.child.0 _ (ap option_copied (sym c.in-None.is) ∙ c.bucket.ensures) tt)
