-- One more put at its place among others.
use Rattle.std.specs.Prelude.{◌≡◌, ◌<◌, ◌≤◌, length, take, drop, ℕ, ◌+◌, ◌-◌, Bool, true, false, List, [], ◌∷◌}
use Rattle.core.specs.Cmp.Lexicographic.{slice_cmp}
use Rattle.std.specs.List.{slice_index_or}
use Rattle.std.proofs.Common.{Less, Equal, Greater, nat_cmp, refl, ap, sym, subst, ◌∙◌, add-one, arith}
use Rattle.std.proofs.lemmas.List.{take_all}
use Rattle.cm_types.specs.declared.property.PropDef.{PropDef}
use Rattle.show_json.specs.Columns.{id_of}
use Rattle.show_json.specs.Ordered.{placed, put_at}

pub put_first : (ds : List PropDef) (x : PropDef) → length ds < 1 → placed id_of x ds ≡ x ∷ ds
put_first [] x h = refl
put_first (d ∷ ds) x h = absurd (omega (arith, h))

pub put_before : (d : PropDef) (ds : List PropDef) (x : PropDef) → slice_cmp nat_cmp x.id d.id ≡ Less → placed id_of x (d ∷ ds) ≡ put_at false (d ∷ ds) 0 x
put_before d ds x e = rw e refl

pub put_over : (d : PropDef) (ds : List PropDef) (x : PropDef) → slice_cmp nat_cmp x.id d.id ≡ Equal → placed id_of x (d ∷ ds) ≡ put_at true (d ∷ ds) 0 x
put_over d ds x e = rw e refl

later : (d : PropDef) (ds : List PropDef) (x : PropDef) (b : Bool) (i : ℕ) → slice_cmp nat_cmp x.id d.id ≡ Greater
    → placed id_of x ds ≡ put_at b ds i x → placed id_of x (d ∷ ds) ≡ put_at b (d ∷ ds) (i + 1) x
later d ds x false i e p = rw (e, add-one) (ap (λ l. d ∷ l) p)
later d ds x true i e p = rw (e, add-one) (ap (λ l. d ∷ l) p)

pub put_later : (ds : List PropDef) (d x : PropDef) (b : Bool) (i : ℕ) → 1 ≤ length ds → d ≡ slice_index_or ds 0 d → slice_cmp nat_cmp x.id d.id ≡ Greater
    → placed id_of x (take (length ds - 1) (drop 1 ds)) ≡ put_at b (take (length ds - 1) (drop 1 ds)) i x → placed id_of x ds ≡ put_at b ds (i + 1) x
put_later [] d x b i h is e p = absurd (omega (arith, h))
put_later (f ∷ fs) d x b i h is e p =
    let rest : take (length (f ∷ fs) - 1) (drop 1 (f ∷ fs)) ≡ fs = take_all (length (f ∷ fs) - 1) fs (omega arith) in
    later f fs x b i (sym (ap (λ g. slice_cmp nat_cmp x.id g.id) is) ∙ e) (subst (λ es. placed id_of x es ≡ put_at b es i x) rest p)
