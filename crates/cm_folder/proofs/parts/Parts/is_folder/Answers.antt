use Rattle.std.proofs.Common.{option_copied, sym, ap, ◌∙◌}
use Rattle.std.specs.List.{list_any}
use Rattle.cm_folder.specs.Places.{is_folder_at}
use Rattle.cm_folder.proofs.Lookups.{folders_of, folder_same}
use Rattle.cm_folder.proofs.parts.Parts.is_folder.Goals as goal

pub returns-in-Some : goal.returns-in-Some
returns-in-Some c =
    let s = c.args.self.now in
    c.has_folder_at.ensures.value
    ∙ ap (list_any (λ e. is_folder_at s.entries e.0)) (folders_of s.entries s.by_child s.by_folder s.by_name c.requires.indexed c.args.child.0 _ (ap option_copied (sym c.in-Some.is) ∙ c.bucket.ensures) c.has_folder_at.ensures.sorted)
    ∙ folder_same c.args.child s.entries c.requires.indexed.sorted

pub returns-in-None : goal.returns-in-None
returns-in-None c =
    let s = c.args.self.now in
    ap (list_any (λ e. is_folder_at s.entries e.0)) (folders_of s.entries s.by_child s.by_folder s.by_name c.requires.indexed c.args.child.0 _ (ap option_copied (sym c.in-None.is) ∙ c.bucket.ensures) tt)
    ∙ folder_same c.args.child s.entries c.requires.indexed.sorted
