-- Lists of lines of which one refuses, by the tests that they make.
use Rattle.std.specs.Prelude.{◌≡◌, Bool, true, false, ◌&&◌, ◌||◌, not, Option, Some, Ok, Err}
use Rattle.std.specs.Result.{is_ok}
use Rattle.std.proofs.Common.{refl, ap, ◌∙◌, arith}
use Rattle.std.proofs.lemmas.Bool.{both_ways}
use Rattle.cm_base.specs.declared.object.Object.{Object}
use Rattle.cm_base.specs.declared.cause.Cause.{Cause}
use Rattle.cm_base.specs.declared.cause.Cause.TheVariants as causes
use Rattle.cm_base.specs.Judged.{Judged, ◌>>=◌, ◌>>◌, find_or, refuse}
use Rattle.action_laws.specs.Refused.{IsRefused}

-- ---- what stands before the lines

pub at_later : {B : Type 0} (a : Judged (Unit {0})) (rest : Judged B) → IsRefused rest → IsRefused (a >> rest)
at_later (Ok x) rest e = e
at_later (Err c) rest e = refl

-- whatever is found
pub at_any : {A B : Type 0} (a : Judged A) (rest : A → Judged B) → ((x : A) → IsRefused (rest x)) → IsRefused (a >>= rest)
at_any (Ok x) rest e = e x
at_any (Err c) rest e = refl

-- of what is addressed
pub at_object : {B : Type 0} (o : Option Object) (x : Object) (rest : Object → Judged B) → o ≡ Some x → IsRefused (rest x) → IsRefused (find_or causes.NotFound o >>= rest)
at_object o x rest found e = rw found e

-- ---- the lines of a call, one of whose tests fails

pub kind_lines : {B : Type 0} (a : Cause) (rest : Judged B) (f : Bool) → f ≡ false → IsRefused (refuse a (not f) >> rest)
kind_lines a rest f e = rw e refl

-- those of a document, and then those of its contents; a hold is judged last
pub set_lines : (a b c : Cause) (token change more rest : Judged (Unit {0})) (d w held bars : Bool) → (d && w && is_ok change && not held && not bars) ≡ false
    → IsRefused ((refuse a (not w) >> token >> refuse b (not d) >> change) >> (refuse c bars >> more) >> refuse causes.Held (held || false) >> rest)
set_lines a b c token change more rest d w held bars e = grind arith

pub delete_lines : (a b c : Cause) (token change rest : Judged (Unit {0})) (d w held filled needs : Bool) → (d && w && is_ok change && not held && filled && not needs) ≡ false → filled ≡ true
    → IsRefused ((refuse a (not w) >> token >> refuse b (not d) >> change) >> refuse c needs >> refuse causes.Held (held || false) >> rest)
delete_lines a b c token change rest d w held filled needs e k = grind arith

pub check_out_lines : (a b c e f : Cause) (d w v l o : Bool) → (d && w && v && l && not o) ≡ false
    → IsRefused (refuse a (not w) >> refuse b (not d) >> refuse c (not v) >> refuse e o >> refuse f (not l))
check_out_lines a b c e f d w v l o h = grind arith

pub copy_lines : {B : Type 0} (a b c : Cause) (more : Judged (Unit {0})) (rest : Judged B) (d w k : Bool) → (k && w) ≡ false
    → IsRefused ((refuse a (not w) >> refuse b (not d) >> refuse c (not k) >> more) >> rest)
copy_lines a b c more rest d w k e = grind arith

pub cancel_lines : (a b c : Cause) (d w k : Bool) → (k && w) ≡ false → IsRefused (refuse a (not w) >> refuse b (not d) >> refuse c (not k))
cancel_lines a b c d w k e = grind arith

pub move_lines : (a b c e f : Cause) (rest : Judged (Unit {0})) (w fileable copy top s t kind folders out : Bool) → (w && (fileable && not copy) && not top) ≡ false
    → IsRefused ((refuse a (not w || s || t) >> refuse b (not (kind && fileable && not copy)) >> refuse c folders >> refuse e top >> refuse f out) >> rest)
move_lines a b c e f rest w fileable copy top s t kind folders out h = grind arith

pub add_lines : (a b c e : Cause) (rest last : Judged (Unit {0})) (w fileable copy f s kind other : Bool) → (w && (fileable && not copy) && not f) ≡ false
    → IsRefused ((refuse a (not w || s) >> refuse b (not (kind && fileable && not copy)) >> refuse c other >> refuse e f >> rest) >> last)
add_lines a b c e rest last w fileable copy f s kind other h = grind arith

pub remove_lines : (a b c e : Cause) (rest : Judged (Unit {0})) (w fileable copy f s kind other : Bool) → (w && (fileable && not copy) && not f) ≡ false
    → IsRefused (refuse a (not w || s) >> refuse b (not (kind && fileable && not copy)) >> refuse c other >> refuse e f >> rest)
remove_lines a b c e rest w fileable copy f s kind other h = grind arith

pub unfile_lines : (a b c : Cause) (w fileable copy f s kind : Bool) → (w && (fileable && not copy) && not f) ≡ false
    → IsRefused (refuse a (not w || s) >> refuse b (not (kind && fileable && not copy)) >> refuse c f)
unfile_lines a b c w fileable copy f s kind h = grind arith

pub update_lines : (a b c : Cause) (first token change rest : Judged (Unit {0})) (w named other : Bool) → (w && is_ok change) ≡ false
    → IsRefused (first >> (refuse a (not w) >> token >> refuse b named >> change >> refuse c other) >> rest)
update_lines a b c first token change rest w named other h = grind arith

pub access_lines : (a b : Cause) (rest : Judged (Unit {0})) (l access keeps : Bool) → keeps ≡ not access → (l && access) ≡ false
    → IsRefused (refuse a (not l) >> refuse b keeps >> rest)
access_lines a b rest l access keeps k h = grind arith

-- where the object is held, something that would go is
pub removal_lines : (a b c : Cause) (more rest : Judged (Unit {0})) (w top held copy out some : Bool) → (held && not some) ≡ false → (w && not top && not held && (copy || not out)) ≡ false
    → IsRefused (refuse a (not w) >> (refuse b top >> refuse c (out && not copy) >> more) >> refuse causes.Held some >> rest)
removal_lines a b c more rest w top held copy out some k h = grind arith

pub creation_lines : {B : Type 0} (a b : Cause) (more : Judged (Unit {0})) (rest : Judged B) (f w other : Bool) → (f && w) ≡ false
    → IsRefused ((refuse a (not w) >> refuse b (not f || other) >> more) >> rest)
creation_lines a b more rest f w other h = grind arith

-- the same, where the lines stand in no group
pub making_lines : {B : Type 0} (a b : Cause) (rest : Judged B) (w f other : Bool) → (f && w) ≡ false → IsRefused (refuse a (not w) >> refuse b (not f || other) >> rest)
making_lines a b rest false f other h = refl
making_lines a b rest true false other h = refl
making_lines a b rest true true other h = absurd (both_ways true h refl)

pub application_lines : (a b c : Cause) (w takes other keeps : Bool) → keeps ≡ not takes → (w && takes) ≡ false → IsRefused (refuse a (not w) >> refuse b other >> refuse c keeps)
application_lines a b c false takes other keeps k h = refl
application_lines a b c true takes true keeps k h = refl
application_lines a b c true takes false keeps k h = rw (k ∙ ap not h) refl

pub taking_off_lines : (a b : Cause) (w takes other : Bool) → (w && takes) ≡ false → takes ≡ true → IsRefused (refuse a (not w) >> refuse b other)
taking_off_lines a b false takes other h k = refl
taking_off_lines a b true takes other h k = absurd (both_ways takes h k)

pub tree_lines : (a b c : Cause) (w f top : Bool) → (f && w && not top) ≡ false → IsRefused (refuse a (not w) >> refuse b (not f) >> refuse c top)
tree_lines a b c false f top h = refl
tree_lines a b c true false top h = refl
tree_lines a b c true true true h = refl
tree_lines a b c true true false h = absurd (both_ways true h refl)

-- where one of the ends is a relationship, either is
pub end_lines : {B : Type 0} (a b c : Cause) (rest : Judged B) (anonymous other end either : Bool) → (end ≡ true → either ≡ true) → (not end && not anonymous) ≡ false
    → IsRefused ((refuse a anonymous >> refuse b other >> refuse c either) >> rest)
end_lines a b c rest true other end either k h = refl
end_lines a b c rest false true end either k h = refl
end_lines a b c rest false false true either k h = rw (k refl) refl
end_lines a b c rest false false false either k h = absurd (both_ways true h refl)
