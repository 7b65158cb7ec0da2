-- What scripts ask of the repository, and what is printed of its replies.
use Rattle.std.specs.Prelude.{ℕ, List, [], map}
use Rattle.cm_base.specs.Causes.{exception_of}
use Rattle.cm_base.specs.declared.cause.Cause.{Cause}
use Rattle.cm_call.specs.declared.question.Question.{Question}
use Rattle.cm_call.specs.declared.question.Question.TheVariants as questions
use Rattle.cm_call.specs.declared.reply.Reply.{Reply}
use Rattle.cm_call.specs.declared.reply.Reply.TheVariants as replies
use Rattle.cm_call.specs.declared.write.Write.{Write}
use Rattle.cm_call.specs.declared.write.Write.TheVariants as writes
use Rattle.cmis_runs.specs.Scripting.{child_name, folder_in_root, folder_properties, root_children}
use Rattle.schedule_run.specs.Events.{Asking}

-- a folder of this name in the root
abbrev pub makes_folder : List ℕ → Write
makes_folder name = writes.CreateFolder (folder_in_root (folder_properties name))

-- the names of the children that are shown
abbrev pub names_in : Reply → List (List ℕ)
names_in (replies.Children reply) = map child_name reply.children
names_in _ = []

-- what scripts ask of the repository, and what is printed of its replies
abbrev pub script_calls : Asking Write Question Reply Cause
script_calls = record { folder = makes_folder; children = questions.Children root_children; names = names_in; exception = exception_of }
