use Rattle.std.proofs.Common.{rules, ◌≡◌, true, refl, sym, ◌∙◌}
use Rattle.std.proofs.lemmas.Bool.{eq-eqb}
use Rattle.cmis_spec.specs.Repository.{same}
use Rattle.cm_folder.specs.Filings.{is_filed_in}
use Rattle.cm_folder.proofs.Edits.{stays}
use Rattle.cm_folder.proofs.filing.Filing.shift_judged.Goals as goal

pub returns-then-source-target : goal.returns-then-source-target
returns-then-source-target c =
    let list = c.args.self.now in
    let filed : is_filed_in list c.args.source c.args.child ≡ true = search rules in
    let here : same c.args.source c.args.target ≡ true = eq-eqb c.args.source.0 c.args.target.0 c.if-source-target.true in
    (rw (filed, here) refl, c.in_ok-filing.ensures ∙ sym (stays c.args.child c.args.source c.args.target list here))
