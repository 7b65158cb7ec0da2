-- Secondary types that are not refused are below their base type.
use Rattle.std.specs.Prelude.{◌≡◌, ℕ, true, false, not, List, All, codes}
use Rattle.std.proofs.lemmas.List.Elements.{All-weaker}
use Rattle.cm_types.specs.declared.definition.TypeDef.{TypeDef}
use Rattle.cm_types.specs.Types.{is_below}
use Rattle.cmis_laws.proofs.Lists.{all_from_any}
use Rattle.cmis_laws.proofs.Passed.{not_false}
use Rattle.wr_rules.specs.Rules.{has_other_secondary}

pub below_secondary : (types : List TypeDef) (ids : List (List ℕ)) → has_other_secondary types ids ≡ false → All (λ s. is_below types s (codes "cmis:secondary") ≡ true) ids
below_secondary types ids h = All-weaker (λ s. not (is_below types s (codes "cmis:secondary")) ≡ false) (λ s. is_below types s (codes "cmis:secondary") ≡ true)
    (λ s e. not_false (is_below types s (codes "cmis:secondary")) e) ids (all_from_any (λ s. not (is_below types s (codes "cmis:secondary"))) ids h)
