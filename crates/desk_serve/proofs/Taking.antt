-- The host gives the next link, or none.
use Rattle.std.proofs.Common.{◌≡◌, ℕ, ◌≤◌, ◌+◌, List, sym, ◌∙◌, subst, arith, Option, Some, Ok}
use Rattle.outside.specs.Outside.{Rose}
use Rattle.outside.specs.declared.traits.Failed.{Failed}
use Rattle.outside.specs.Hosts.{HostTold, Gives, Accepts}
use Rattle.desk_serve.specs.Sessions.{Taken, IsGiven, HasLeft}
use Rattle.desk_serve.proofs.Lists.{given_next}

-- a count that rose since a later moment rose since an earlier one
pub rose_since : (a b c : ℕ) → a ≤ b → Rose b c → Rose a c
rose_since a b c le rose = omega (arith, le, rose)

module _ {L : Type 0} where
  pub taken_next : (host h h' : HostTold) (links u v : Option (List L)) (n : ℕ) (l : L) → Taken host links h u n → h'.given ≡ h.given + 1 → h'.port ≡ h.port → h'.bound ≡ h.bound → h.faults ≤ h'.faults → Gives u l v
      → Taken host links h' v (n + 1) × IsGiven links n l
  taken_next host h h' links u v n l t given port bound later gives =
      let q = given_next links u v n l t.left gives in
      (record { given = (let a = t.given in omega arith); port = port ∙ t.port; bound = bound ∙ t.bound; later = (let a = t.later in omega arith); left = q.1 }, q.0)

  pub taken_same : (host h h' : HostTold) (links u v : Option (List L)) (n : ℕ) → Taken host links h u n → h'.given ≡ h.given → h'.port ≡ h.port → h'.bound ≡ h.bound → h.faults ≤ h'.faults → v ≡ u → Taken host links h' v n
  taken_same host h h' links u v n t given port bound later same =
      record { given = (let a = t.given in omega arith); port = port ∙ t.port; bound = bound ∙ t.bound; later = (let a = t.later in omega arith); left = subst (λ w. HasLeft links n w) (sym same) t.left }

  -- the link that an accept gives
  pub taken_from : (new : L → Type 0) (host h h' : HostTold) (links u v : Option (List L)) (n : ℕ) (o : Option L) (l : L) → Taken host links h u n → Accepts {E = Failed} new h u (Ok o) h' v → o ≡ Some l → h'.port ≡ h.port → h'.bound ≡ h.bound → h.faults ≤ h'.faults
      → Taken host links h' v (n + 1) × IsGiven links n l × new l
  taken_from new host h h' links u v n o l t accepts is port bound later =
      let a = subst (λ (p : Option L). Accepts {E = Failed} new h u (Ok p) h' v) is accepts in
      let q = taken_next host h h' links u v n l t a.1 port bound later a.3 in
      (q.0, q.1, a.2)
