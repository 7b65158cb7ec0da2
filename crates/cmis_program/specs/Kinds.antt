-- What a machine means, by its parts: as sessions serve it, and as scripts run over it.
use Rattle.std.specs.Prelude.{ℕ, Bool, List, Result}
use Rattle.cm_base.specs.declared.cause.Cause.{Cause}
use Rattle.cm_base.specs.declared.shown.Shown.{Shown}
use Rattle.cm_base.specs.declared.user.User.{User}
use Rattle.desk_core.specs.Interleaving.{Rules}
use Rattle.desk_model.specs.declared.entry.Entry.{Entry}
use Rattle.http_grammar.specs.Request.{Head, Request}
use Rattle.cm_base.specs.declared.asked.Asked.{Asked}
use Rattle.talk.specs.Served.{Kind, wire_of}

abbrev pub kind_of : {S C Q : Type 0} → (S → Entry C → Result (S × Shown) Cause) → (S → List ℕ → Q → Result Shown Cause) → (S → ℕ)
    → (Request → Result (Asked C Q) Cause) → (Head → List User → Result (List ℕ) Cause) → (Head → ℕ) → (Head → Bool) → Kind S C Q
kind_of next answer number call user least closes = record { next = next; answer = answer; number = number; call = call; wire = wire_of user least closes }

abbrev pub rules_of : {S C Q A X : Type 0} → (S → Entry C → Result (S × A) X) → (S → List ℕ → Q → Result A X) → (S → ℕ) → Rules S C Q A X
rules_of next answer number = record { next = next; answer = answer; number = number }
