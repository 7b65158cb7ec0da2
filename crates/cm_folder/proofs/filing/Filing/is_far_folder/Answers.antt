use Rattle.std.proofs.Common.{rules, ◌≡◌, ℕ, Bool, ◌+◌, ◌-◌, ◌&&◌, nat_lt, true, false, refl, sym, ap, subst, ◌∙◌}
use Rattle.cmis_spec.specs.Repository.{most_levels}
use Rattle.cm_folder.specs.Filings.{depth_in}
use Rattle.cm_folder.specs.Trees.{is_folder_in}
use Rattle.cm_folder.proofs.Below.{far_folder}
use Rattle.cm_folder.proofs.filing.Filing.is_far_folder.Goals as goal

pub returns-then-is_folder : goal.returns-then-is_folder
returns-then-is_folder c =
    let list = c.args.self.now in
    let far : Bool = nat_lt most_levels (c.args.target + 1 + (depth_in list c.args.child - c.args.moved)) in
    let folder : is_folder_in list c.args.child ≡ true = search rules in
    c.is_far.ensures ∙ ap (λ (d : ℕ). nat_lt most_levels (c.args.target + 1 + (d - c.args.moved))) c.depth.ensures.value
    ∙ (subst (λ b. far ≡ (b && far)) (sym folder) refl
    ∙ far_folder list list c.args.target c.args.moved c.args.child)

pub returns-else-is_folder : goal.returns-else-is_folder
returns-else-is_folder c =
    let list = c.args.self.now in
    let far : Bool = nat_lt most_levels (c.args.target + 1 + (depth_in list c.args.child - c.args.moved)) in
    let item : is_folder_in list c.args.child ≡ false = search rules in
    c.is_folder.ensures ∙ (item ∙ (sym (ap (λ b. b && far) item) ∙ far_folder list list c.args.target c.args.moved c.args.child))
