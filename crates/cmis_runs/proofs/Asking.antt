-- The query that is asked, and the line that is written.
use Rattle.std.specs.Prelude.{◌≡◌, ℕ, List, codes, Result}
use Rattle.std.proofs.Common.{inr, ◌∙◌, subst}
use Rattle.cm_base.specs.declared.fail.Fail.{Fail}
use Rattle.cm_base.specs.Judged.{Meets}
use Rattle.cmis_spec.specs.Repository.{Repository}
use Rattle.outside.specs.Outside.{SinkTold}
use Rattle.query_parts.specs.declared.readings.ReadQuery.{ReadQuery}
use Rattle.query_parts.specs.declared.replies.QueryReply.{QueryReply}
use Rattle.talk.specs.Served.{Kind}
use Rattle.rd_query.specs.ReadQuery.{answer_query}
use Rattle.cmis_runs.specs.Loads.{all_documents, IsMade, IsWritten, Loaded, summary}

pub asks : (r : Repository) (result : Result QueryReply Fail) (user : List ℕ) (q : ReadQuery) → user ≡ codes "admin" → q ≡ all_documents → Meets (λ y. y) result (answer_query r user q) → Meets (λ y. y) result (answer_query r (codes "admin") all_documents)
asks r result user q u s h =
    subst (λ x. Meets (λ y. y) result (answer_query r (codes "admin") x)) s (subst (λ x. Meets (λ y. y) result (answer_query r x q)) u h)

pub loaded : {C Q : Type 0} (kind : Kind Repository C Q) (n : ℕ) (empty full : SinkTold) (text bytes : List ℕ) (status : ℕ) → ((r : Repository) × IsMade kind n r × (text ≡ summary r)) → bytes ≡ text → IsWritten bytes empty full status → Loaded kind n empty full status
loaded kind n empty full text bytes status made same written = inr (made.0, made.1, subst (λ t. IsWritten t empty full status) (same ∙ made.2) written)
