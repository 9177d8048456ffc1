-- The list of a single rank, record by record.
use Rattle.std.proofs.Common.{◌≡◌, ℕ, zero, suc, ◌<◌, ◌≤◌, ◌+◌, true, false, cond, eqb, ltb, ◌&&◌, ℤ, pos, ◌+ℤ◌, List}
use Rattle.std.proofs.Common.{[], ◌∷◌, ◌++◌, map, length, get_or, refl, sym, ap, ◌∙◌, subst, inl, inr, arith, sum_by}
use Rattle.std.proofs.Common.{append_assoc, append-nil}
use Rattle.std.specs.List.{AllByRecursion}
use Rattle.std.proofs.lemmas.Bool.{cases_lt, cases_eq, lt-ltb, le-ltb, ne_eqb, eq-eqb}
use Rattle.std.proofs.lemmas.Int.{ints}
use Rattle.std.proofs.lemmas.List.Sums.{sum_by-cons}
use Rattle.std.specs.declared.vec.Vec.{Vec}
use Rattle.std.specs.declared.alloc.Global.{Global}
use Rattle.hu_kind.specs.Record.{has, holds, values_of, items_in, gain, positive_part, absolute_of}
use Rattle.hu_kind.specs.Order.{Ascend}
use Rattle.hu_kind.proofs.lemmas.Occurring.{above_all}
use Rattle.hu_totals.specs.declared.ranked.Dense.{Dense}
use Rattle.hu_totals.specs.View.{pairs_in}
use Rattle.hu_totals.proofs.lemmas.RecordCells.{has-below}
use Rattle.hu_list.specs.declared.list.Node.{Node}
use Rattle.hu_list.specs.Nodes.{rest_after, node_of, nodes_from, node_in, list_of}

-- the nodes in records and then in others
pub nodes_from-append : (place : ℕ) (records more : List (List (ℕ × ℤ))) (set : List ℕ)
    → nodes_from place (records ++ more) set ≡ nodes_from place records set
    ++ nodes_from (place + length records) more set
nodes_from-append place [] more set = let e : place ≡ place + 0 = omega arith in ap (λ k. nodes_from k more set) e
nodes_from-append place (cells ∷ records) more set =
    let ih = nodes_from-append (place + 1) records more set in
    let e : place + 1 + length records ≡ place + length (cells ∷ records) = omega arith in
    let here : List Node = cond (holds set cells) (node_of set place cells ∷ []) [] in
    ap (λ ns. cond (holds set cells) (node_of set place cells ∷ []) [] ++ ns) (ih ∙ ap (λ k. nodes_from (place + 1) records set ++ nodes_from k more set) e)
    ∙ sym (append_assoc (cond (holds set cells) (node_of set place cells ∷ []) []) (nodes_from (place + 1) records set)
    (nodes_from (place + length (cells ∷ records)) more set))

rest_after-all : (rank : ℕ) (cells : List (ℕ × ℤ)) → AllByRecursion (λ i. rank < i) (items_in cells) → rest_after (rank ∷ []) cells ≡ gain cells
rest_after-all rank [] above = refl
rest_after-all rank (cell ∷ cells) above =
    let test : ltb rank cell.0 ≡ true = lt-ltb rank cell.0 above.0 in
    let ih = rest_after-all rank cells above.1 in
    rw test (ap (λ v. positive_part cell.1 +ℤ v) ih)

-- the node of a rank in a record whose ranks ascend
pub node_in-nodes : (place rank : ℕ) (cells : List (ℕ × ℤ)) → Ascend (items_in cells) → node_in place rank cells
    ≡ cond (holds (rank ∷ []) cells) (node_of (rank ∷ []) place cells ∷ []) []
node_in-nodes place rank [] up = refl
node_in-nodes place rank (cell ∷ cells) up = elim (cases_eq rank cell.0) [
  | inl e ↦
      let here : eqb rank cell.0 ≡ true = eq-eqb rank cell.0 e in
      let there : eqb cell.0 rank ≡ true = eq-eqb cell.0 rank (sym e) in
      let not_after : ltb rank cell.0 ≡ false = le-ltb rank cell.0 (omega arith) in
      let rest = rest_after-all rank cells (subst (λ x. AllByRecursion (λ i. x < i) (items_in cells)) (sym e) up.0) in
      let own : cell.1 ≡ cell.1 +ℤ pos 0 = omega (arith, ints) in
      let after : gain cells ≡ pos 0 +ℤ rest_after (rank ∷ []) cells = omega (arith, ints, rest) in
      rw (here, there, not_after) (λ j. (record { place = place; own = own j; rest = after j }) ∷ [])
  | inr ne ↦
      let here : eqb rank cell.0 ≡ false = ne_eqb rank cell.0 ne in
      let there : eqb cell.0 rank ≡ false = ne_eqb cell.0 rank (λ e. ne (sym e)) in
      let ih = node_in-nodes place rank cells up.1 in
      elim (cases_lt rank cell.0) [
        | inl low ↦
            let none = has-below rank cells (above_all rank cell.0 (items_in cells) low up.0) in
            let empty : node_in place rank cells ≡ [] = ih ∙ ap (λ b. cond (b && true) (node_of (rank ∷ []) place cells ∷ []) []) none in
            rw (here, there, none) empty
        | inr high ↦
            let not_after : ltb rank cell.0 ≡ false = le-ltb rank cell.0 high in
            let after : rest_after (rank ∷ []) cells ≡ pos 0 +ℤ rest_after (rank ∷ []) cells = omega (arith, ints) in
            rw (here, there, not_after)
            (ih ∙ (λ j. cond (has rank cells && true) ((record { place = place; own = values_of (rank ∷ []) cells; rest = after j }) ∷ []) []))
      ]
]

-- the list of a rank with one record more
pub list_of-more : (records : List (List (ℕ × ℤ))) (cells : List (ℕ × ℤ)) (place rank : ℕ) → length records ≡ place → Ascend (items_in cells)
    → list_of (records ++ cells ∷ []) (rank ∷ []) ≡ list_of records (rank ∷ []) ++ node_in place rank cells
list_of-more records cells place rank is up =
    nodes_from-append 0 records (cells ∷ []) (rank ∷ [])
    ∙ ap (λ ns. list_of records (rank ∷ []) ++ ns)
    (let e : 0 + length records ≡ place = omega (arith, is) in
    ap (λ k. nodes_from k (cells ∷ []) (rank ∷ [])) e ∙ append-nil
    (cond (holds (rank ∷ []) cells) (node_of (rank ∷ []) place cells ∷ []) [])
    ∙ sym (node_in-nodes place rank cells up))

-- a record's cells
pub at-records : (P : List (ℕ × ℤ) → Type 0) (records : List (Vec Dense Global)) (i : ℕ) (d : Vec Dense Global)
    → AllByRecursion P (map pairs_in records) → i < length records → P (pairs_in (get_or records i d))
at-records P [] i d all within = absurd (omega arith)
at-records P (r ∷ records) zero d all within = all.0
at-records P (r ∷ records) (suc i) d all within = at-records P records i d all.1 (omega arith)

pub absolute-record : (records : List (Vec Dense Global)) (i : ℕ) (d : Vec Dense Global) → i < length records
    → absolute_of (pairs_in (get_or records i d)) ≤ sum_by absolute_of (map pairs_in records)
absolute-record [] i d within = absurd (omega arith)
absolute-record (r ∷ records) zero d within = omega (arith, sum_by-cons absolute_of (pairs_in r) (map pairs_in records))
absolute-record (r ∷ records) (suc i) d within =
    omega (
      arith,
      absolute-record records i d (omega arith),
      sum_by-cons absolute_of (pairs_in r) (map pairs_in records),
    )
