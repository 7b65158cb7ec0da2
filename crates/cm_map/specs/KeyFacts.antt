-- Only equal keys tie.
use Rattle.std.proofs.Common.{◌≡◌, ap, sym, true≢false, is_eq, refl, Less, Equal, Greater, nat_cmp}
use Rattle.std.proofs.lemmas.Map.Lookups.{exact_unsigned}
use Rattle.cm_base.specs.declared.number.Oid.{Oid}
use Rattle.cm_base.specs.declared.access.Level.{Level}
use Rattle.cm_base.specs.declared.access.Level.TheVariants as levels
use Rattle.cm_base.specs.contracts.access.LevelOrd.TheImpl.{ghosts}

pub oid_exact : (x y : Oid) → nat_cmp x.0 y.0 ≡ Equal → x ≡ y
oid_exact x y e = λ i. record { 0 = exact_unsigned x.0 y.0 e i }

less_not : Less ≡ Equal → ⊥
less_not e = true≢false (sym (ap is_eq e))

greater_not : Greater ≡ Equal → ⊥
greater_not e = true≢false (sym (ap is_eq e))

pub level_exact : (x y : Level) → ghosts.cmp x y ≡ Equal → x ≡ y
level_exact levels.None levels.None e = refl
level_exact levels.None levels.Read e = absurd (less_not e)
level_exact levels.None levels.Write e = absurd (less_not e)
level_exact levels.None levels.All e = absurd (less_not e)
level_exact levels.Read levels.None e = absurd (greater_not e)
level_exact levels.Read levels.Read e = refl
level_exact levels.Read levels.Write e = absurd (less_not e)
level_exact levels.Read levels.All e = absurd (less_not e)
level_exact levels.Write levels.None e = absurd (greater_not e)
level_exact levels.Write levels.Read e = absurd (greater_not e)
level_exact levels.Write levels.Write e = refl
level_exact levels.Write levels.All e = absurd (less_not e)
level_exact levels.All levels.None e = absurd (greater_not e)
level_exact levels.All levels.Read e = absurd (greater_not e)
level_exact levels.All levels.Write e = absurd (greater_not e)
level_exact levels.All levels.All e = refl
