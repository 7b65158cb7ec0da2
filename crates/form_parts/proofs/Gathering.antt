-- One more part of a form.
use Rattle.std.proofs.Common.{◌≡◌, List, [], ◌∷◌, ◌++◌, refl, sym, ap, ◌∙◌, append_assoc}
use Rattle.std.specs.Prelude.{Some, unwrap_or}
use Rattle.call_parts.specs.declared.stream.GivenStream.{GivenStream}
use Rattle.form_args.specs.declared.pairs.Pair.{Pair}
use Rattle.form_parts.specs.declared.part.Part.{Part}
use Rattle.form_parts.specs.declared.part.Part.TheVariants.{Argument, Content}
use Rattle.form_parts.specs.Parts.{arguments, first_content}

pub arguments-argument : (parts : List Part) (pair : Pair) → arguments (parts ++ Argument pair ∷ []) ≡ arguments parts ++ pair ∷ []
arguments-argument [] pair = refl
arguments-argument (Argument p ∷ parts) pair = ap (λ ps. p ∷ ps) (arguments-argument parts pair)
arguments-argument (Content s ∷ parts) pair = arguments-argument parts pair

pub arguments-content : (parts : List Part) (stream : GivenStream) → arguments (parts ++ Content stream ∷ []) ≡ arguments parts
arguments-content [] stream = refl
arguments-content (Argument p ∷ parts) stream = ap (λ ps. p ∷ ps) (arguments-content parts stream)
arguments-content (Content s ∷ parts) stream = arguments-content parts stream

pub content-argument : (parts : List Part) (pair : Pair) → first_content (parts ++ Argument pair ∷ []) ≡ first_content parts
content-argument [] pair = refl
content-argument (Argument p ∷ parts) pair = content-argument parts pair
content-argument (Content s ∷ parts) pair = refl

pub content-content : (parts : List Part) (stream : GivenStream) → first_content (parts ++ Content stream ∷ []) ≡ Some (unwrap_or (first_content parts) stream)
content-content [] stream = refl
content-content (Argument p ∷ parts) stream = content-content parts stream
content-content (Content s ∷ parts) stream = refl

-- one part goes from those that are left to those that are done
pub one-moves : (done left later all : List Part) (part : Part) → done ++ left ≡ all → left ≡ part ∷ later → (done ++ part ∷ []) ++ later ≡ all
one-moves done left later all part e is = append_assoc done (part ∷ []) later ∙ ap (λ ps. done ++ ps) (sym is) ∙ e
