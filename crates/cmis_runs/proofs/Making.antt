-- One session more, and all of them.
use Rattle.std.specs.Prelude.{◌≡◌, ℕ, ◌+◌, ◌<◌, ◌≤◌, List}
use Rattle.std.proofs.Common.{add-one, arith, ◌∙◌, subst}
use Rattle.cm_base.specs.declared.user.User.{User}
use Rattle.cmis_spec.specs.Repository.{Repository}
use Rattle.talk.specs.Served.{Kind}
use Rattle.load_sessions.specs.Sessions.{Leads, Made, numbers_in, sessions_of}
use Rattle.cmis_runs.specs.Loads.{beginning, IsMade, the_users}

pub one_more : {C Q : Type 0} (kind : Kind Repository C Q) (n k : ℕ) (users : List User) (numbers : List ℕ) (before after : Repository) → Made kind the_users beginning n k before → users ≡ the_users → numbers ≡ numbers_in n k → Leads kind users numbers before after → Made kind the_users beginning n (k + 1) after
one_more kind n k users numbers before after made same these leads =
    rw (add-one k)
    (before, made, subst (λ xs. Leads kind the_users xs before after) these (subst (λ us. Leads kind us numbers before after) same leads))

pub all_made : {C Q : Type 0} (kind : Kind Repository C Q) (n k m : ℕ) (s : Repository) → Made kind the_users beginning n k s → k ≤ m → (k < m → ⊥) → m ≡ sessions_of n → IsMade kind n s
all_made kind n k m s made below done same =
    let all : k ≡ m = omega (arith, below, done) in
    subst (λ x. Made kind the_users beginning n x s) (all ∙ same) made
