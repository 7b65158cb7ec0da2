use Rattle.std.proofs.Common.{◌≡◌, not, map, filter, fold, List, ap, ◌∙◌}
use Rattle.std.specs.List.{list_any}
use Rattle.cm_base.specs.declared.number.Oid.{Oid}
use Rattle.cmis_spec.specs.Repository.{Repository}
use Rattle.cmis_spec.specs.Removal.{among, each_once, entry_goes}
use Rattle.cm_removal.specs.Steps.{entry_at, is_pair_of, with_left}
use Rattle.cm_removal.proofs.Ones.{among_same}
use Rattle.cm_removal.proofs.Whole.{unlisted_is}
use Rattle.cm_removal.proofs.deleted.unlisted.Goals as goal

pub returns : goal.returns
returns c =
    let r : Repository = c.args.state.now in
    let gs : List Oid = c.args.gone.now in
    let g = among gs in
    let es : List Oid = c.in_ok-entries.entries in
    let leave : c.in_ok-leaving.leaving ≡ filter (entry_goes r g) es = c.in_ok-leaving.ensures ∙ ap (filter (entry_goes r g)) c.as_slice-2.ensures in
    let are : (n : Oid) → among es n ≡ among (map (entry_at r) gs) n = λ n. ap (λ l. among l n) (c.in_ok-entries.ensures ∙ ap (λ l. each_once (map (entry_at r) l)) c.as_slice.ensures) ∙ among_same (map (entry_at r) gs) n in
    let unfiled : Repository → List Oid → Repository = λ q l. record q { filed = filter (λ p. not (list_any (is_pair_of r p) l)) q.filed } in
    let bared : Repository → List Oid → Repository = λ q l. record q { access = filter (λ a. not (among l a.at)) q.access } in
    let first : c.in_ok-unfiled.unfiled ≡ unfiled r (filter (entry_goes r g) es) = c.in_ok-unfiled.ensures ∙ (λ k. unfiled (c.in_ok-draft.ensures k) ((c.as_slice-3.ensures ∙ leave) k)) in
    let second : c.in_ok-bare.bare ≡ bared (unfiled r (filter (entry_goes r g) es)) (filter (entry_goes r g) es) = c.in_ok-bare.ensures ∙ (λ k. bared (first k) ((c.as_slice-4.ensures ∙ leave) k)) in
    c.in_ok-left.ensures ∙ ((λ k. fold (with_left g) (second k) (c.as_slice-5.ensures k)) ∙ unlisted_is r c.step-well.ensures.well gs es are)
