-- The arguments of applyACL, judged in their order (CMIS 1.1, section 5.4).
use Rattle.std.specs.Prelude.{ℕ, List, codes, bytes_eq, if◌then◌else◌, Option, Some, None, Ok}
use Rattle.cm_base.specs.Judged.{Judged, ◌>>=◌}
use Rattle.access_parts.specs.declared.writes.ApplyAcl.{ApplyAcl}
use Rattle.access_parts.specs.declared.writes.Propagation.{Propagation}
use Rattle.access_parts.specs.declared.writes.Propagation.TheVariants as propagations
use Rattle.form_args.specs.declared.pairs.Pair.{Pair}
use Rattle.form_args.specs.Entries.{aces_of}
use Rattle.form_args.specs.Single.{chosen}
use Rattle.bind_parts.specs.declared.asking.Asking.{Asking}
use Rattle.bind_parts.specs.Parts.{place_of}

-- the three words of a propagation (section 2.2.10.1.1)
abbrev pub propagation_named : List ℕ → Option Propagation
propagation_named word =
    if bytes_eq word (codes "repositorydetermined") then Some propagations.RepositoryDetermined
    else if bytes_eq word (codes "objectonly") then Some propagations.ObjectOnly
    else if bytes_eq word (codes "propagate") then Some propagations.Propagate
    else None

-- as the repository has it, where nothing is said
abbrev pub propagation_of : List Pair → Judged Propagation
propagation_of pairs = chosen propagation_named pairs (codes "ACLPropagation") propagations.RepositoryDetermined

-- additions are read first, though removals are done first
abbrev pub apply_acl_of : Asking → Judged ApplyAcl
apply_acl_of asking = do
  add ← aces_of asking.form.pairs (codes "addACEPrincipal") (codes "addACEPermission")
  remove ← aces_of asking.form.pairs (codes "removeACEPrincipal") (codes "removeACEPermission")
  propagation ← propagation_of asking.form.pairs
  Ok (record { place = place_of asking; remove = remove; add = add; propagation = propagation })
