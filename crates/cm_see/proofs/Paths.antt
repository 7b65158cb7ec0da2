-- One step more of a path.
use Rattle.std.specs.Prelude.{◌≡◌, ℕ, suc, ◌++◌, false, List, [], Option, unwrap_or, option_map, codes}
use Rattle.std.proofs.Common.{refl, subst}
use Rattle.cm_base.specs.declared.number.Oid.{Oid}
use Rattle.cmis_spec.specs.Repository.{same, root, path_by}

pub path_step : (m n : ℕ) (up : Oid → Option Oid) (name : Oid → List ℕ) (f : Oid) → suc n ≡ m → same f root ≡ false
    → unwrap_or (option_map (path_by n up name) (up f)) [] ++ codes "/" ++ name f ≡ path_by m up name f
path_step m n up name f e h = subst (λ k. unwrap_or (option_map (path_by n up name) (up f)) [] ++ codes "/" ++ name f ≡ path_by k up name f) e (rw h refl)
