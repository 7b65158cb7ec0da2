-- The keys of an object, read from its scalars, and which of them is an end's.
use Rattle.std.proofs.Common.{◌≡◌, ◌+◌, ◌<◌, ◌++◌, false, ◌||◌, ℕ, List, [], ◌∷◌, Option, Some, None, refl, ap, sym, ◌∙◌, unwrap_or, option_map, length, take, get_or}
use Rattle.std.proofs.lemmas.List.{append_assoc, take_more}
use Rattle.std.specs.List.{list_any, filter_map}
use Rattle.core.specs.List.{cons_option}
use Rattle.std.proofs.lemmas.List.Elements.{filter_map-append}
use Rattle.std.proofs.lemmas.List.Folds.{list_any-append}
use Rattle.std.specs.Prelude.{Bool, true, map, bytes_eq, codes}
use Rattle.cm_base.specs.declared.number.Oid.{Oid}
use Rattle.cm_base.specs.declared.object.Object.{Object}
use Rattle.cm_base.specs.declared.value.Scalar.{Scalar}
use Rattle.cm_base.specs.declared.value.Scalar.TheVariants.{Flag, Whole, Time, Words}
use Rattle.cm_types.specs.Properties.{scalars_of, text_of_scalar, value_in}
use Rattle.cmis_spec.specs.Repository.{same, is_of_type}
use Rattle.cmis_spec.specs.Access.{oid_named}
use Rattle.cmis_spec.specs.Removal.{ends_of, is_id_of}
use Rattle.cm_objects.specs.declared.index_key.IndexKey.{IndexKey}
use Rattle.cm_objects.specs.declared.index_key.IndexKey.TheVariants as keys
use Rattle.cm_objects.specs.Pairs.{same_key}
use Rattle.cm_objects.specs.Indexed.{end_key, scalar_key, keys_of}

-- what is no text has no key
pub keys_of_scalars : (ss : List Scalar) → filter_map scalar_key ss ≡ filter_map end_key (filter_map text_of_scalar ss)
keys_of_scalars [] = refl
keys_of_scalars (Flag b ∷ ss) = keys_of_scalars ss
keys_of_scalars (Whole n ∷ ss) = keys_of_scalars ss
keys_of_scalars (Time n ∷ ss) = keys_of_scalars ss
keys_of_scalars (Words t ∷ ss) = ap (cons_option (end_key t)) (keys_of_scalars ss)

pub ends_of_both : (x : Object)
    → (filter_map scalar_key (scalars_of (value_in x.values (codes "cmis:sourceId"))) ++ filter_map scalar_key (scalars_of (value_in x.values (codes "cmis:targetId")))) ≡ filter_map end_key (ends_of x)
ends_of_both x =
    let source = scalars_of (value_in x.values (codes "cmis:sourceId")) in
    let target = scalars_of (value_in x.values (codes "cmis:targetId")) in
    (λ i. keys_of_scalars source i ++ keys_of_scalars target i) ∙ sym (filter_map-append end_key (filter_map text_of_scalar source) (filter_map text_of_scalar target))

or_false : (b : Bool) → (b || false) ≡ b
or_false true = refl
or_false false = refl

-- an object is among the ends where its number is that of one of the ids
is_end : (n : Oid) (ids : List (List ℕ)) → list_any (same_key (keys.End n)) (filter_map end_key ids) ≡ list_any (is_id_of n) ids
is_end n [] = refl
is_end n (id ∷ ids) = by (oid_named id) ∙ ap (λ b. is_id_of n id || b) (is_end n ids)
  where
    by : (o : Option Oid) → list_any (same_key (keys.End n)) (cons_option (option_map keys.End o) (filter_map end_key ids))
        ≡ (unwrap_or (option_map (same n) o) false || list_any (same_key (keys.End n)) (filter_map end_key ids))
    by None = refl
    by (Some m) = refl

-- a type is no end
no_end : (n : Oid) (ids : List (List ℕ)) → list_any (same_key (keys.End n)) (map keys.Kind ids) ≡ false
no_end n [] = refl
no_end n (id ∷ ids) = no_end n ids

pub names_end : (n : Oid) (x : Object) → list_any (same_key (keys.End n)) (keys_of x) ≡ list_any (is_id_of n) (ends_of x)
names_end n x =
    list_any-append (same_key (keys.End n)) (filter_map end_key (ends_of x)) (map keys.Kind (x.kind ∷ x.secondary))
    ∙ ((λ i. is_end n (ends_of x) i || no_end n (x.kind ∷ x.secondary) i) ∙ or_false (list_any (is_id_of n) (ends_of x)))

-- an end is no type
no_type : (id : List ℕ) (ids : List (List ℕ)) → list_any (same_key (keys.Kind id)) (filter_map end_key ids) ≡ false
no_type id [] = refl
no_type id (e ∷ es) = by (oid_named e) (no_type id es)
  where
    by : (o : Option Oid) → list_any (same_key (keys.Kind id)) (filter_map end_key es) ≡ false → list_any (same_key (keys.Kind id)) (cons_option (option_map keys.End o) (filter_map end_key es)) ≡ false
    by None h = h
    by (Some m) h = h

is_among : (id : List ℕ) (ids : List (List ℕ)) → list_any (same_key (keys.Kind id)) (map keys.Kind ids) ≡ list_any (bytes_eq id) ids
is_among id [] = refl
is_among id (k ∷ ks) = ap (λ b. bytes_eq id k || b) (is_among id ks)

pub has_type : (id : List ℕ) (x : Object) → list_any (same_key (keys.Kind id)) (keys_of x) ≡ is_of_type id x
has_type id x =
    list_any-append (same_key (keys.Kind id)) (filter_map end_key (ends_of x)) (map keys.Kind (x.kind ∷ x.secondary))
    ∙ (λ i. no_type id (ends_of x) i || is_among id (x.kind ∷ x.secondary) i)

-- one more scalar, as at a step of a loop
pub one_more : (ss : List Scalar) (i : ℕ) (s : Scalar) → i < length ss → s ≡ get_or ss i s → (ks : List IndexKey) → (ks ++ filter_map scalar_key (take i ss)) ++ filter_map scalar_key (s ∷ []) ≡ ks ++ filter_map scalar_key (take (i + 1) ss)
one_more ss i s lt is ks =
    append_assoc ks (filter_map scalar_key (take i ss)) (filter_map scalar_key (s ∷ []))
    ∙ ap (λ l. ks ++ l) (sym (filter_map-append scalar_key (take i ss) (s ∷ [])) ∙ ap (filter_map scalar_key) (ap (λ x. take i ss ++ x ∷ []) is ∙ sym (take_more ss i s lt)))
