-- The parts of a deletion make the whole.
use Rattle.std.specs.Prelude.{◌≡◌, Bool, true, ◌&&◌, ◌||◌, not, List, [], ◌∷◌, map, filter, fold}
use Rattle.std.specs.List.{list_any}
use Rattle.std.proofs.Common.{refl, ap, ◌∙◌, arith}
use Rattle.std.proofs.lemmas.List.Elements.{All-weaker, filter_agree}
use Rattle.cm_base.specs.declared.number.Oid.{Oid}
use Rattle.cm_base.specs.declared.filing.Filed.{Filed}
use Rattle.cmis_spec.specs.Repository.{Repository, same}
use Rattle.cmis_spec.specs.Removal.{has_members, entry_goes, among}
use Rattle.cmis_spec.specs.Well.{IsWellFormed}
use Rattle.cmis_laws.proofs.Begun.{IsSeries}
use Rattle.cm_state.specs.Looks.{folders_in}
use Rattle.cm_removal.specs.Steps.{entry_at, is_pair_of, with_left, unlisted}
use Rattle.cm_removal.proofs.Filters.{filter_same}
use Rattle.cm_removal.proofs.Lefts.{lefts_are}
use Rattle.cm_removal.proofs.Leaving.{series_unchanged, pairs_go, lists_go}

-- the folders one after the other, and the child at once
any_and : (fs : List Oid) (f : Oid) (b : Bool) → list_any (λ g. same f g && b) fs ≡ (among fs f && b)
any_and [] f b = refl
any_and (g ∷ fs) f b = ap (λ c. same f g && b || c) (any_and fs f b) ∙ spread (same f g) b (among fs f)
  where
    spread : (a b c : Bool) → (a && b || c && b) ≡ ((a || c) && b)
    spread a b c = grind arith

pub pairs_by : (r : Repository) (n : Oid) (ps : List Filed) → filter (λ p. not (list_any (λ f. same p.folder f && same p.child n) (folders_in r n))) ps ≡ filter (λ p. not (is_pair_of r p n)) ps
pairs_by r n ps = filter_agree (λ p. not (list_any (λ f. same p.folder f && same p.child n) (folders_in r n))) (λ p. not (is_pair_of r p n)) (λ p. ap not (any_and (folders_in r n) p.folder (same p.child n))) ps

module _ (r : Repository) (w : IsWellFormed r) (gs : List Oid) (es : List Oid) (are : (n : Oid) → among es n ≡ among (map (entry_at r) gs) n) where
  abbrev gone : Oid → Bool
  gone = among gs

  abbrev leaving : List Oid
  leaving = filter (entry_goes r gone) es

  pairs_left : filter (λ p. not (list_any (is_pair_of r p) leaving)) r.filed ≡ filter (λ p. not (entry_goes r gone p.child)) r.filed
  pairs_left = filter_same (λ p. not (list_any (is_pair_of r p) leaving)) (λ p. not (entry_goes r gone p.child)) r.filed
      (All-weaker (λ p. list_any (is_pair_of r p) leaving ≡ entry_goes r gone p.child) (λ p. not (list_any (is_pair_of r p) leaving) ≡ not (entry_goes r gone p.child)) (λ p h. ap not h) r.filed (pairs_go r w gs es are))

  lists_left : filter (λ l. not (among leaving l.at)) r.access ≡ filter (λ l. not (entry_goes r gone l.at)) r.access
  lists_left = filter_same (λ l. not (among leaving l.at)) (λ l. not (entry_goes r gone l.at)) r.access
      (All-weaker (λ l. among leaving l.at ≡ entry_goes r gone l.at) (λ l. not (among leaving l.at) ≡ not (entry_goes r gone l.at)) (λ l h. ap not h) r.access (lists_go r w gs es are))

  abbrev bare : Repository
  bare = record r { filed = filter (λ p. not (list_any (is_pair_of r p) leaving)) r.filed; access = filter (λ l. not (among leaving l.at)) r.access }

  pub unlisted_is : fold (with_left gone) bare es ≡ unlisted r gone
  unlisted_is = lefts_are gone es bare w.series_numbers.0 (All-weaker (IsSeries r) (λ s. has_members s ≡ true) (λ s h. h.2) r.series w.series) (series_unchanged r w gs es are)
      ∙ (λ i. record (unlisted r gone) { filed = pairs_left i; access = lists_left i })
