use Rattle.std.proofs.Common.{◌≡◌, ◌∙◌, sym, refl, if◌then◌else◌, Some, None, option_and_then}
use Rattle.std.specs.Option.{option_copied}
use Rattle.cmis_spec.specs.Access.{child_named, reads}
use Rattle.cm_see.proofs.path.child_named.Goals as goal

pub returns-then-reads : goal.returns-then-reads
returns-then-reads c =
    let named : child_named c.args.state.now c.args.user.now c.args.folder c.args.name.now ≡ option_and_then (λ x. if reads c.args.state.now c.args.user.now x then Some x else None) (option_copied c.child_standing.result) =
    c.child_standing.ensures (reads c.args.state.now c.args.user.now) in
    sym (named ∙ rw c.in-Some.is (rw (sym c.reads.ensures ∙ c.if-reads.true) refl))

pub returns-else-reads : goal.returns-else-reads
returns-else-reads c =
    let named : child_named c.args.state.now c.args.user.now c.args.folder c.args.name.now ≡ option_and_then (λ x. if reads c.args.state.now c.args.user.now x then Some x else None) (option_copied c.child_standing.result) =
    c.child_standing.ensures (reads c.args.state.now c.args.user.now) in
    sym (named ∙ rw c.in-Some.is (rw (sym c.reads.ensures ∙ c.if-reads.false) refl))

pub returns-in-None : goal.returns-in-None
returns-in-None c =
    let named : child_named c.args.state.now c.args.user.now c.args.folder c.args.name.now ≡ option_and_then (λ x. if reads c.args.state.now c.args.user.now x then Some x else None) (option_copied c.child_standing.result) =
    c.child_standing.ensures (reads c.args.state.now c.args.user.now) in
    sym (named ∙ rw c.in-None.is refl)
