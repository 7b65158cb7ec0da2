-- One more of the nodes that are shown.
use Rattle.std.proofs.Common.{◌≡◌, ◌∙◌, ℕ, ◌+◌, ◌<◌, List, [], ◌∷◌, ◌++◌, map, take, length, get_or, sym, ap}
use Rattle.std.proofs.lemmas.List.{map-append, take_more}
use Rattle.rd_trees.specs.declared.tree.Node.{Node}
use Rattle.rd_trees.specs.ReadTree.{Placed}
use Rattle.rd_trees.specs.Walks.{node_shown, nodes_shown}

seen_more : (ts : List Node) (i : ℕ) (t : Node) → i < length ts → t ≡ get_or ts i t → nodes_shown (take (i + 1) ts) ≡ nodes_shown (take i ts) ++ node_shown t ∷ []
seen_more ts i t lt is = ap nodes_shown (take_more ts i t lt ∙ ap (λ y. take i ts ++ y ∷ []) (sym is)) ∙ map-append node_shown (take i ts) (t ∷ [])

pub rows_more : {B : Type 0} (f : Placed → B) (ts : List Node) (i : ℕ) (t : Node) (before after : List B) (y : B) → i < length ts → t ≡ get_or ts i t
    → before ≡ map f (nodes_shown (take i ts)) → after ≡ before ++ y ∷ [] → y ≡ f (node_shown t) → after ≡ map f (nodes_shown (take (i + 1) ts))
rows_more f ts i t before after y lt is b a e =
    a ∙ ((λ k. b k ++ e k ∷ []) ∙ sym (ap (map f) (seen_more ts i t lt is) ∙ map-append f (nodes_shown (take i ts)) (node_shown t ∷ [])))
