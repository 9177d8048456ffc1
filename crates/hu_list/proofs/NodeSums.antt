-- Sums over the nodes of a list, node by node.
use Rattle.std.proofs.Common.{◌≡◌, ℕ, zero, suc, ◌<◌, ◌≤◌, ◌+ℤ◌, unsigned_abs, List, [], ◌∷◌, length, get_or, take, arith, sum_by}
use Rattle.std.proofs.lemmas.Int.{ints}
use Rattle.std.proofs.lemmas.List.{take_all}
use Rattle.std.proofs.lemmas.List.Sums.{sum_by-cons}
use Rattle.hu_kind.proofs.lemmas.Earned.{positive_part-within}
use Rattle.hu_list.specs.declared.list.Node.{Node}
use Rattle.hu_list.specs.Nodes.{weight_of}
use Rattle.hu_list.specs.Bounds.{own_sum, most_at, bound_of}

pub own_sum-more : (nodes : List Node) (i : ℕ) (d : Node) → i < length nodes → own_sum (take (suc i) nodes) ≡ own_sum (take i nodes) +ℤ (get_or nodes i d).own
own_sum-more [] i d within = absurd (omega arith)
own_sum-more (node ∷ nodes) zero d within = omega (arith, ints)
own_sum-more (node ∷ nodes) (suc i) d within = let ih = own_sum-more nodes i d (omega arith) in omega (arith, ints)

pub own_sum-within : (nodes : List Node) (i : ℕ) → unsigned_abs (own_sum (take i nodes)) ≤ sum_by weight_of nodes
own_sum-within [] zero = omega arith
own_sum-within [] (suc i) = omega arith
own_sum-within (node ∷ nodes) zero = omega arith
own_sum-within (node ∷ nodes) (suc i) = let ih = own_sum-within nodes i in omega (arith, ints, sum_by-cons weight_of node nodes)

pub bound_of-more : (nodes : List Node) (i : ℕ) (d : Node) → i < length nodes → bound_of (take (suc i) nodes)
    ≡ bound_of (take i nodes) +ℤ most_at (get_or nodes i d)
bound_of-more [] i d within = absurd (omega arith)
bound_of-more (node ∷ nodes) zero d within = omega (arith, ints)
bound_of-more (node ∷ nodes) (suc i) d within = let ih = bound_of-more nodes i d (omega arith) in omega (arith, ints)

most_at-within : (node : Node) → unsigned_abs (most_at node) ≤ weight_of node
most_at-within node = let part = positive_part-within (node.own +ℤ node.rest) in omega (arith, ints)

pub bound_of-within : (nodes : List Node) (i : ℕ) → unsigned_abs (bound_of (take i nodes)) ≤ sum_by weight_of nodes
bound_of-within [] zero = omega arith
bound_of-within [] (suc i) = omega arith
bound_of-within (node ∷ nodes) zero = omega arith
bound_of-within (node ∷ nodes) (suc i) = let ih = bound_of-within nodes i in let one =
    most_at-within node in omega (arith, ints, sum_by-cons weight_of node nodes)

pub own_sum-all : (nodes : List Node) → unsigned_abs (own_sum nodes) ≤ sum_by weight_of nodes
own_sum-all nodes = rw (take_all (length nodes) nodes (omega arith)) at (own_sum-within nodes (length nodes))

pub bound_of-all : (nodes : List Node) → unsigned_abs (bound_of nodes) ≤ sum_by weight_of nodes
bound_of-all nodes = rw (take_all (length nodes) nodes (omega arith)) at (bound_of-within nodes (length nodes))
