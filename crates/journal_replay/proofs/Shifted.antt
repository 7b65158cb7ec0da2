-- Lists of entries with more in the numbers of their sessions.
use Rattle.std.proofs.Common.{◌≡◌, ℕ, ◌+◌, List, [], ◌∷◌, Result, IsOk, refl, sym, subst}
use Rattle.desk_model.specs.declared.entry.Entry.{Entry}
use Rattle.desk_model.specs.Histories.{state_after, replay, IsLegal}
use Rattle.journal_replay.specs.Shifting.{IsSameStep, all_shifted}

pub legal_shifted : {S C A X : Type 0} (next : S → Entry C → Result (S × A) X) → IsSameStep next → (s : S) (offset : ℕ) (h : List (Entry C)) → IsLegal next s h → IsLegal next s (all_shifted offset h)
legal_shifted next same s offset [] p = tt
legal_shifted {S = S} {A = A} {X = X} next same s offset (e ∷ es) p =
    let is = same s e (e.session + offset) in (
      subst (λ (r : Result (S × A) X). IsOk r) (sym is) p.0,
      subst (λ (r : Result (S × A) X). IsLegal next (state_after s r) (all_shifted offset es)) (sym is) (legal_shifted next same (state_after s (next s e)) offset es p.1),
    )

pub replay_shifted : {S C A X : Type 0} (next : S → Entry C → Result (S × A) X) → IsSameStep next → (s : S) (offset : ℕ) (h : List (Entry C)) → replay next s (all_shifted offset h) ≡ replay next s h
replay_shifted next same s offset [] = refl
replay_shifted {S = S} {A = A} {X = X} next same s offset (e ∷ es) =
    let is = same s e (e.session + offset) in
    subst (λ (r : Result (S × A) X). replay next (state_after s r) (all_shifted offset es) ≡ replay next (state_after s (next s e)) es) (sym is)
    (replay_shifted next same (state_after s (next s e)) offset es)
