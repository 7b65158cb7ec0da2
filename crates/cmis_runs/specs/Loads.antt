-- What a load does: the repository that its requests make, the query that is asked of it, and the line that sums it up.
use Rattle.std.specs.Prelude.{◌≡◌, ◌⊎◌, ℕ, pos, false, List, [], ◌∷◌, ◌++◌, length, codes, decimal, Ok, Err}
use Rattle.cm_base.specs.declared.user.User.{User}
use Rattle.cm_base.specs.Judged.{Judged}
use Rattle.cm_types.specs.BaseTypes.{base_types}
use Rattle.cmis_spec.specs.Repository.{Repository, opening}
use Rattle.cmis_runs.specs.Starts.{start_at}
use Rattle.http_reply.specs.Sent.{TookFront}
use Rattle.include_parts.specs.declared.readings.Includes.{Includes}
use Rattle.include_parts.specs.declared.readings.IncludeRelationships.TheVariants as ends
use Rattle.rendition_parts.specs.declared.filter.RenditionFilter.TheVariants as filters
use Rattle.load_sessions.specs.Sessions.{Made, sessions_of}
use Rattle.outside.specs.Outside.{SinkTold, Took, Rose}
use Rattle.query_parts.specs.declared.readings.ReadQuery.{ReadQuery}
use Rattle.query_parts.specs.declared.replies.QueryReply.{QueryReply}
use Rattle.rd_query.specs.ReadQuery.{answer_query}
use Rattle.talk.specs.Served.{Kind}

-- the one user
abbrev pub the_users : List User
the_users = record { name = codes "admin"; secret = codes "pw" } ∷ []

-- the repository before the first request: the root alone, made at the first moment
abbrev pub beginning : Repository
beginning = opening base_types the_users [] (start_at (record { 0 = pos 0 }) 0)

-- the repository after the sessions of n requests
abbrev pub IsMade : {C Q : Type 0} → Kind Repository C Q → ℕ → Repository → Type 0
IsMade kind n r = Made kind the_users beginning n (sessions_of n) r

-- nothing is shown beside the columns
abbrev pub nothing_beside : Includes
nothing_beside = record { actions = false; relationships = ends.Nothing; renditions = filters.None; policy_ids = false; acl = false }

-- a query with the arguments that count where none is given
abbrev pub query_of : List ℕ → ReadQuery
query_of statement = record { statement = statement; all_versions = false; max_items = 100; skip_count = 0; includes = nothing_beside; succinct = false }

-- the query that is asked in the end
unfoldable pub all_documents : ReadQuery
all_documents = query_of (codes "SELECT cmis:objectId FROM cmis:document")

-- how many rows were found; none where the query were refused
abbrev pub rows_in : Judged QueryReply → ℕ
rows_in (Ok reply) = reply.num_items
rows_in (Err cause) = 0

abbrev pub rows_of : Repository → ℕ
rows_of r = rows_in (answer_query r (codes "admin") all_documents)

abbrev pub line : ℕ → ℕ → ℕ → List ℕ
line steps objects rows = codes "steps " ++ (decimal steps ++ (codes " objects " ++ (decimal objects ++ (codes " rows " ++ (decimal rows ++ codes "\n")))))

-- the steps that were taken, the objects, the root among them, and the rows that the query finds
abbrev pub summary : Repository → List ℕ
summary r = line r.step (length r.objects) (rows_of r)

-- the text was written; or the output failed in this call, and a front of it was written
abbrev pub IsWritten : List ℕ → SinkTold → SinkTold → ℕ → Type 0
IsWritten text empty full status = ((status ≡ 0) × Took empty full text) ⊎ ((status ≡ 4) × Rose empty.faults full.faults × TookFront empty full text)

-- a load of n requests: its line was written, or a front of it; or memory was wanted, and nothing was written
abbrev pub Loaded : {C Q : Type 0} → Kind Repository C Q → ℕ → SinkTold → SinkTold → ℕ → Type 0
Loaded kind n empty full status = ((status ≡ 7) × (full ≡ empty)) ⊎ ((r : Repository) × IsMade kind n r × IsWritten (summary r) empty full status)
