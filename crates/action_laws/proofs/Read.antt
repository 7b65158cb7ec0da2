-- Contents that are not read, and contents that are.
use Rattle.std.specs.Prelude.{◌≡◌, ℕ, Bool, true, false, not, ◌&&◌, List, Option, Some, None, is_some, option_map, codes}
use Rattle.std.proofs.Common.{refl, sym, subst}
use Rattle.std.proofs.lemmas.Bool.{and_parts, both_ways}
use Rattle.action_parts.specs.declared.action.Action.TheVariants as actions
use Rattle.call_parts.specs.declared.readings.ReadContent.{ReadContent}
use Rattle.cm_base.specs.declared.content.Content.{Content}
use Rattle.cm_base.specs.declared.object.Object.{Object}
use Rattle.cm_base.specs.declared.cause.Cause.{Cause}
use Rattle.cm_base.specs.declared.cause.Cause.TheVariants as causes
use Rattle.cm_base.specs.Judged.{◌>>◌, find_or, refuse}
use Rattle.cm_types.specs.declared.definition.BaseType.TheVariants as bases
use Rattle.cm_see.specs.Addressed.{addressed}
use Rattle.cm_state.specs.Looks.{content_at}
use Rattle.cmis_spec.specs.Repository.{Repository, is_a}
use Rattle.rd_version.specs.Content.{answer_content, content_in, content_reply, rendition_named, rendition_reply, stream_of}
use Rattle.action_laws.specs.Refused.{IsBarred, IsRefused, MayDo, NoneComes}
use Rattle.action_laws.proofs.Judging.{at_object}
use Rattle.action_laws.proofs.Passing.{find_aside, found_at, is_by, kind_free, none_comes, stands_for}

content_lines : (d : Bool) (o : Option Content) → (d && is_some o) ≡ false → IsRefused (refuse causes.WrongKind (not d) >> find_or causes.NoContent (option_map content_reply o))
content_lines false o e = refl
content_lines true None e = refl
content_lines true (Some c) e = absurd (both_ways true e refl)

module _ (r : Repository) (u : List ℕ) where
  pub content : (q : ReadContent) → q.stream ≡ None → IsBarred r u q.place actions.GetContentStream → IsRefused (answer_content r u q)
  content q e b = at_object (addressed r u q.place) b.object (content_in r q.stream) b.found
      (subst (λ s. IsRefused (content_in r s b.object)) (sym e) (content_lines (is_a r bases.Document b.object) (content_at r b.object.id) b.barred))

content_free : (p : Cause → Bool) (d : Bool) (o : Option Content) → (d && is_some o) ≡ true → is_by p (refuse causes.WrongKind (not d) >> find_or causes.NoContent (option_map content_reply o)) ≡ false
content_free p true (Some c) e = refl
content_free p d o e = absurd (both_ways false refl e)

module _ (r : Repository) (u : List ℕ) where
  -- a stream that is named and not there is another cause
  of_stream : (x : Object) (stream : Option (List ℕ)) → (is_a r bases.Document x && is_some (content_at r x.id)) ≡ true → is_by (stands_for actions.GetContentStream) (content_in r stream x) ≡ false
  of_stream x None e = content_free (stands_for actions.GetContentStream) (is_a r bases.Document x) (content_at r x.id) e
  of_stream x (Some id) e = kind_free (stands_for actions.GetContentStream) causes.WrongKind (stream_of r x (Some id)) (is_a r bases.Document x)
      (and_parts (is_a r bases.Document x) (is_some (content_at r x.id)) e).0
      (find_aside (stands_for actions.GetContentStream) (causes.BadArgument (codes "streamId")) (option_map rendition_reply (rendition_named r x id)) refl)

  pub content_allowed : (q : ReadContent) → MayDo r u q.place actions.GetContentStream → NoneComes actions.GetContentStream (answer_content r u q)
  content_allowed q b = none_comes actions.GetContentStream (answer_content r u q) refl
      (found_at (stands_for actions.GetContentStream) causes.NotFound (addressed r u q.place) b.object (content_in r q.stream) b.found (of_stream b.object q.stream b.allowed))
