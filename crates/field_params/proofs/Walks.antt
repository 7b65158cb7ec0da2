-- The walk from parameter to parameter.
use Rattle.std.proofs.Common.{◌≡◌, ℕ, zero, suc, ◌+◌, ◌-◌, ◌≤◌, ◌<◌, List, [], ◌∷◌, ◌++◌, length, true, false, refl, sym, ap, ◌∙◌, append_assoc, append-nil, length-append, arith}
use Rattle.std.specs.Prelude.{Option, Some, None, option_map}
use Rattle.std.specs.List.{list_all}
use Rattle.field_params.specs.declared.one.Param.{Param}
use Rattle.field_params.specs.Blanks.{is_blank}
use Rattle.field_params.specs.Params.{param, params_within, params_of, front_within, front_params}

-- parameters before others
abbrev pub behind : List Param → Option (List Param) → Option (List Param)
behind done later = option_map (λ ps. done ++ ps) later

-- the parameters so far, and those of the rest, are those of the text
pub record Walk (text : List ℕ) (done : List Param) (rest : List ℕ) : Type 0 where
  pub few : length done + length rest ≤ length text
  pub same : params_of text ≡ behind done (params_within (length text - length done) rest)

none_less : (text : List ℕ) → length text - 0 ≡ length text
none_less text = omega arith

pub Walk-start : (text : List ℕ) → Walk text [] text
Walk-start text = record { few = omega arith; same = start (params_of text) ∙ ap (λ n. behind [] (params_within n text)) (sym (none_less text)) }
  where
    start : (o : Option (List Param)) → o ≡ behind [] o
    start None = refl
    start (Some ps) = refl

behind-blank : (done : List Param) (n : ℕ) (rest : List ℕ) → list_all is_blank rest ≡ true → behind done (params_within n rest) ≡ Some done
behind-blank done zero rest e = rw e (ap Some (append-nil done))
behind-blank done (suc n) rest e = rw e (ap Some (append-nil done))

pub Walk-end : (text rest : List ℕ) (done : List Param) → Walk text done rest → list_all is_blank rest ≡ true → params_of text ≡ Some done
Walk-end text rest done w e = w.same ∙ behind-blank done (length text - length done) rest e

behind-none : (done : List Param) (n : ℕ) (rest : List ℕ) → param rest ≡ None → list_all is_blank rest ≡ false → behind done (params_within n rest) ≡ None
behind-none done zero rest none e = rw e refl
behind-none done (suc n) rest none e = rw (e, none) refl

pub Walk-fails : (text rest : List ℕ) (done : List Param) → Walk text done rest → param rest ≡ None → list_all is_blank rest ≡ false → params_of text ≡ None
Walk-fails text rest done w none e = w.same ∙ behind-none done (length text - length done) rest none e

behind-more : (done : List Param) (p : Param) (o : Option (List Param)) → behind done (option_map (λ ps. p ∷ ps) o) ≡ behind (done ++ p ∷ []) o
behind-more done p None = refl
behind-more done p (Some ps) = ap Some (sym (append_assoc done (p ∷ []) ps))

behind-step : (done : List Param) (n m : ℕ) (rest later : List ℕ) (p : Param) → n ≡ suc m → param rest ≡ Some (p, later) → list_all is_blank rest ≡ false
    → behind done (params_within n rest) ≡ behind (done ++ p ∷ []) (params_within m later)
behind-step done n m rest later p e is ne = rw (e, ne, is) (behind-more done p (params_within m later))

pub Walk-step : (text rest later : List ℕ) (done : List Param) (p : Param) → Walk text done rest → param rest ≡ Some (p, later) → length later < length rest → list_all is_blank rest ≡ false
    → Walk text (done ++ p ∷ []) later
Walk-step text rest later done p w is shorter ne =
    let more = length-append done (p ∷ []) in
    let few = w.few in
    record {
      few = omega (arith, more, few, shorter);
      same = w.same ∙ behind-step done (length text - length done) (length text - length (done ++ p ∷ [])) rest later p (omega (arith, more, few, shorter)) is ne;
    }

-- the parameters so far, and those at the front of the rest, are those at the front of the text
pub record Fronts (text : List ℕ) (done : List Param) (rest : List ℕ) : Type 0 where
  pub few : length done + length rest ≤ length text
  pub same : front_params text ≡ done ++ front_within (length text - length done) rest

pub Fronts-start : (text : List ℕ) → Fronts text [] text
Fronts-start text = record { few = omega arith; same = ap (λ n. front_within n text) (sym (none_less text)) }

front-none : (n : ℕ) (rest : List ℕ) → param rest ≡ None → front_within n rest ≡ []
front-none zero rest none = refl
front-none (suc n) rest none = rw none refl

pub Fronts-end : (text rest : List ℕ) (done : List Param) → Fronts text done rest → param rest ≡ None → front_params text ≡ done
Fronts-end text rest done w none = w.same ∙ ap (λ ps. done ++ ps) (front-none (length text - length done) rest none) ∙ append-nil done

front-step : (done : List Param) (n m : ℕ) (rest later : List ℕ) (p : Param) → n ≡ suc m → param rest ≡ Some (p, later)
    → done ++ front_within n rest ≡ (done ++ p ∷ []) ++ front_within m later
front-step done n m rest later p e is = rw (e, is) (sym (append_assoc done (p ∷ []) (front_within m later)))

pub Fronts-step : (text rest later : List ℕ) (done : List Param) (p : Param) → Fronts text done rest → param rest ≡ Some (p, later) → length later < length rest
    → Fronts text (done ++ p ∷ []) later
Fronts-step text rest later done p w is shorter =
    let more = length-append done (p ∷ []) in
    let few = w.few in
    record {
      few = omega (arith, more, few, shorter);
      same = w.same ∙ front-step done (length text - length done) (length text - length (done ++ p ∷ [])) rest later p (omega (arith, more, few, shorter)) is;
    }
