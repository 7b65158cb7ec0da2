-- A list with an item that is no group.
use Rattle.std.proofs.Common.{◌<◌, ◌∙◌, ℕ, List, [], length, get_or, arith, Bor}
use Rattle.std.specs.Prelude.{Err}
use Rattle.std.proofs.lemmas.List.Folds.{list_all-map, list_all_at}
use Rattle.cm_base.specs.UserLists.{texts_of}
use Rattle.cmis_words.specs.declared.words.WordsStop.{WordsStop}
use Rattle.cmis_words.specs.declared.words.WordsStop.TheVariants.{NotValid, Memory}
use Rattle.cmis_words.specs.GroupLists.{is_group, ReadsGroup, ReadsEach}
use Rattle.cmis_words.proofs.groups.groups.Goals as goal

stopped : (stop : WordsStop) (users : List (List ℕ)) (list : List (Bor (List ℕ))) (i : ℕ) (d : Bor (List ℕ)) → i < length list → ReadsGroup (Err stop) users (get_or list i d).now → ReadsEach (Err stop) users (texts_of list)
stopped NotValid users list i d lt e = list_all-map (is_group users) (λ (t : Bor (List ℕ)). t.now) list ∙ list_all_at (λ (t : Bor (List ℕ)). is_group users t.now) list i d lt e
stopped Memory users list i d lt e = tt

pub returns-in-Err : goal.returns-in-Err
returns-in-Err c = stopped c.in-Err.stop c.args.users.now c.args.list.now c.loop-piece.piece-index (record { ref_ptr = (0, 0); now = [] }) (omega arith) c.in-Err.ensures
