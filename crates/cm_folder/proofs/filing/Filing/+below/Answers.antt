use Rattle.std.proofs.Common.{rules, ◌≡◌, ◌-◌, ◌&&◌, ◌||◌, Bool, true, false, option_copied, arith, sym, ap, ◌∙◌}
use Rattle.std.specs.List.{list_any}
use Rattle.cmis_spec.specs.Repository.{same}
use Rattle.cm_folder.specs.Depths.{is_first_in, is_far, has_far}
use Rattle.cm_folder.proofs.Below.{none_far, far_step}
use Rattle.cm_folder.proofs.Lookups.{children_of, any_inside}
use Rattle.cm_folder.proofs.filing.Filing.+below.Goals as goal

pub has_far-returns-then-levels-eq0 : goal.has_far-returns-then-levels-eq0
has_far-returns-then-levels-eq0 t c = none_far c.args.levels c.args.self.now c.args.target c.args.moved c.args.folder (omega (arith, c.if-levels-eq0.true))

pub has_far-returns-then-is_far_folder : goal.has_far-returns-then-is_far_folder
has_far-returns-then-is_far_folder t c =
    let list = c.args.self.now in
    let f = c.args.folder in
    let below : Bool = list_any (λ d. same d.folder f && (is_first_in list f d.child && has_far (c.args.levels - 1) list c.args.target c.args.moved d.child)) list in
    let here : list_any (λ e. same e.child f && is_far list c.args.target c.args.moved e) list ≡ true = search rules in
    sym (ap (λ b. b || below) here) ∙ far_step c.args.levels list c.args.target c.args.moved f (omega (arith, c.if-levels-eq0.false))

pub has_far-returns-in-Some : goal.has_far-returns-in-Some
has_far-returns-in-Some t c =
    let list = c.args.self.now in
    let f = c.args.folder in
    let s = c.self.inside in
    let below : Bool = list_any (λ d. same d.folder f && (is_first_in list f d.child && has_far (c.args.levels - 1) list c.args.target c.args.moved d.child)) list in
    let elsewhere : list_any (λ e. same e.child f && is_far list c.args.target c.args.moved e) list ≡ false = search rules in
    c.has_far_among.ensures.value
    ∙ (ap (list_any (λ e. is_first_in list f e.1 && has_far (c.args.levels - 1) list c.args.target c.args.moved e.1)) (children_of s.parts.entries s.parts.by_child s.parts.by_folder s.parts.by_name c.self.invariant.indexed f.0 _ (ap option_copied (sym c.in-Some.is) ∙ c.bucket.ensures) c.has_far_among.ensures.sorted)
    ∙ (any_inside f (λ x. is_first_in list f x && has_far (c.args.levels - 1) list c.args.target c.args.moved x) s.parts.entries
    ∙ (ap (list_any (λ d. same d.folder f && (is_first_in list f d.child && has_far (c.args.levels - 1) list c.args.target c.args.moved d.child))) c.self.view_is
    ∙ (sym (ap (λ b. b || below) elsewhere) ∙ far_step c.args.levels list c.args.target c.args.moved f (omega (arith, c.if-levels-eq0.false))))))

pub has_far-returns-in-None : goal.has_far-returns-in-None
has_far-returns-in-None t c =
    let list = c.args.self.now in
    let f = c.args.folder in
    let s = c.self.inside in
    let below : Bool = list_any (λ d. same d.folder f && (is_first_in list f d.child && has_far (c.args.levels - 1) list c.args.target c.args.moved d.child)) list in
    let elsewhere : list_any (λ e. same e.child f && is_far list c.args.target c.args.moved e) list ≡ false = search rules in
    ap (list_any (λ e. is_first_in list f e.1 && has_far (c.args.levels - 1) list c.args.target c.args.moved e.1)) (children_of s.parts.entries s.parts.by_child s.parts.by_folder s.parts.by_name c.self.invariant.indexed f.0 _ (ap option_copied (sym c.in-None.is) ∙ c.bucket.ensures) tt)
    ∙ (any_inside f (λ x. is_first_in list f x && has_far (c.args.levels - 1) list c.args.target c.args.moved x) s.parts.entries
    ∙ (ap (list_any (λ d. same d.folder f && (is_first_in list f d.child && has_far (c.args.levels - 1) list c.args.target c.args.moved d.child))) c.self.view_is
    ∙ (sym (ap (λ b. b || below) elsewhere) ∙ far_step c.args.levels list c.args.target c.args.moved f (omega (arith, c.if-levels-eq0.false)))))
