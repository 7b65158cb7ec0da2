-- What stops a part stops the whole.
use Rattle.std.specs.Prelude.{◌≡◌, ℕ, List, Option, Result, Ok, Err}
use Rattle.std.proofs.Common.{sym, ap, subst}
use Rattle.cm_base.specs.UserLists.{users_of}
use Rattle.word_files.specs.declared.listed.FileStop.{FileStop}
use Rattle.word_files.specs.declared.listed.FileStop.TheVariants as stops
use Rattle.word_files.specs.Expanding.{Stops, joined, options_by, options_with, with_users}

stops_whole : {A B : Type 0} (stop : FileStop) (part : Result A FileStop) (whole : Result B FileStop) → ((s : FileStop) → part ≡ Err s → whole ≡ Err s) → Stops stop part → Stops stop whole
stops_whole stops.Memory part whole f h = tt
stops_whole (stops.NotRead kind) part whole f h = f (stops.NotRead kind) h
stops_whole (stops.Shared kind) part whole f h = f (stops.Shared kind) h
stops_whole (stops.Line kind n) part whole f h = f (stops.Line kind n) h

-- the list of groups, of the options
pub stops_options : (stop : FileStop) (list : Result (List ℕ) FileStop) (options : List (List ℕ)) → Stops stop list → Stops stop (options_with list options)
stops_options stop list options h = stops_whole stop list (options_with list options) (λ s e. ap (λ l. options_with l options) e) h

-- the list of users, of the words
pub stops_users : (stop : FileStop) (command : List ℕ) (users : Result (List ℕ) FileStop) (groups : Option (List ℕ)) (options : List (List ℕ)) → Stops stop users → Stops stop (with_users command users groups options)
stops_users stop command users groups options h = stops_whole stop users (with_users command users groups options) (λ s e. ap (λ l. with_users command l groups options) e) h

-- the options beside a list of users, of the words
pub stops_beside : (stop : FileStop) (command : List ℕ) (users : Result (List ℕ) FileStop) (list : List ℕ) (groups : Option (List ℕ)) (options : List (List ℕ)) → users ≡ Ok list → Stops stop (options_by groups (users_of list) options) → Stops stop (with_users command users groups options)
stops_beside stop command users list groups options e h =
    subst (λ l. Stops stop (with_users command l groups options)) (sym e)
    (stops_whole stop (options_by groups (users_of list) options) (joined command list (options_by groups (users_of list) options)) (λ s d. ap (joined command list) d) h)
