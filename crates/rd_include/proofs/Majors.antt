-- The last of the major versions, one version after another.
use Rattle.std.specs.Prelude.{◌≡◌, ℕ, ◌+◌, ◌<◌, if◌then◌else◌, List, [], ◌∷◌, ◌++◌, take, get_or, length, Some}
use Rattle.std.proofs.Common.{refl, sym, ap, ◌∙◌}
use Rattle.std.proofs.lemmas.List.{take_more}
use Rattle.cm_base.specs.declared.series.DocumentVersion.{DocumentVersion}
use Rattle.cmis_laws.proofs.Lists.{by_test}
use Rattle.cm_see.specs.Shown.{is_major, last_major}

last_pushed : (vs : List DocumentVersion) (v : DocumentVersion) → last_major (vs ++ v ∷ []) ≡ if is_major v then Some v else last_major vs
last_pushed [] v = refl
last_pushed (w ∷ ws) v = by_test (is_major v)
    (λ e. rw (last_pushed ws v, e) refl)
    (λ e. rw (last_pushed ws v, e) refl)

-- one version more
pub last_more : (vs : List DocumentVersion) (i : ℕ) (d : DocumentVersion) → i < length vs → (if is_major (get_or vs i d) then Some (get_or vs i d) else last_major (take i vs)) ≡ last_major (take (i + 1) vs)
last_more vs i d lt = sym (last_pushed (take i vs) (get_or vs i d)) ∙ ap last_major (sym (take_more vs i d lt))
