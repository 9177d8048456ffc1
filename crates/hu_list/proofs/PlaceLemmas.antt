-- Nodes and cells by their places in a list.
use Rattle.std.proofs.Common.{◌≡◌, ℕ, zero, suc, ◌<◌, ◌≤◌, ◌+◌, ◌^◌, Bool, true, false, cond, not, eqb, ltb, leb, ℤ, ◌+ℤ◌, ◌-ℤ◌, unsigned_abs, slice_get}
use Rattle.std.proofs.Common.{Option, Some, None, inl, inr, List, [], ◌∷◌, map, length, get_or, drop, refl, sym, ap, ◌∙◌, subst, arith}
use Rattle.std.proofs.Common.{one-add}
use Rattle.std.specs.List.{position, position_or_len}
use Rattle.std.proofs.lemmas.Bool.{cases_lt, lt-ltb, le-ltb, lt-leb, le-leb, eqb-true, eq-eqb}
use Rattle.std.proofs.lemmas.List.Quantifiers.{position-Some}
use Rattle.std.proofs.lemmas.List.Sums.{sum_by-cons}
use Rattle.hu_kind.specs.Record.{gain, absolute_of}
use Rattle.hu_totals.specs.declared.ranked.Dense.{Dense}
use Rattle.hu_totals.specs.View.{dense_pair}
use Rattle.hu_list.specs.declared.list.Node.{Node}
use Rattle.hu_list.specs.Joins.{from_place, first_own, joined_node, Fits}
use Rattle.hu_list.specs.Nodes.{node_in}

pub from_place-drop : (place : ℕ) (nodes : List Node) → drop (position_or_len (λ node. leb place node.place) nodes) nodes ≡ from_place place nodes
from_place-drop place [] = refl
from_place-drop place (node ∷ nodes) = elim (cases_lt node.place place) [
  | inl below ↦
      let passed : leb place node.place ≡ false = lt-leb place node.place below in
      let test : ltb node.place place ≡ true = lt-ltb node.place place below in
      let ih = from_place-drop place nodes in
      rw (passed, test, one-add) ih
  | inr here ↦
      let passed : leb place node.place ≡ true = le-leb place node.place here in
      let test : ltb node.place place ≡ false = le-ltb node.place place here in
      rw (passed, test) refl
]

-- the cell of a rank, by its index
node_in-cells : (place rank at : ℕ) (cells : List Dense) (d : Dense) → at < length cells → (get_or cells at d).rank
    ≡ rank → ((k : ℕ) → k < at → eqb (get_or cells k d).rank rank ≡ false)
    → node_in place rank (map dense_pair cells) ≡ record {
      place = place;
      own = (get_or cells at d).value;
      rest =
          gain (map dense_pair (drop (suc at) cells));
    } ∷ []
node_in-cells place rank at [] d within is before = absurd (omega arith)
node_in-cells place rank zero (cell ∷ cells) d within is before = let here : eqb cell.rank rank ≡ true = eq-eqb cell.rank rank is in rw here refl
node_in-cells place rank (suc at) (cell ∷ cells) d within is before =
    let other : eqb cell.rank rank ≡ false = before 0 (omega arith) in
    rw other (node_in-cells place rank at cells d (omega arith) is (λ k below. before (suc k) (omega arith)))

pub node_in-at : (place rank at : ℕ) (cells : List Dense) (d : Dense) → position (λ (cell : Dense). eqb cell.rank rank) cells ≡ Some at
    → node_in place rank (map dense_pair cells) ≡ record {
      place = place;
      own = (get_or cells at d).value;
      rest =
          gain (map dense_pair (drop (suc at) cells));
    } ∷ []
node_in-at place rank at cells d is =
    let found = position-Some (λ (cell : Dense). eqb cell.rank rank) cells at d is in
    node_in-cells place rank at cells d found.0 (eqb-true (get_or cells at d).rank rank found.1) found.2

node_in-past : (place rank : ℕ) (cells : List Dense) → length cells
    ≤ position_or_len (λ (cell : Dense). eqb cell.rank rank) cells → node_in place rank (map dense_pair cells) ≡ []
node_in-past place rank [] end = refl
node_in-past place rank (cell ∷ cells) end = by (eqb cell.rank rank) (node_in-past place rank cells) end
  where
    by : (b : Bool) → (length cells ≤ position_or_len (λ (c : Dense). eqb c.rank rank) cells
        → node_in place rank (map dense_pair cells) ≡ []) → length (cell ∷ cells)
        ≤ cond (not b) (1 + position_or_len (λ (c : Dense). eqb c.rank rank) cells) 0
        → cond b ((record { place = place; own = cell.value; rest = gain (map dense_pair cells) }) ∷ []) (node_in place rank (map dense_pair cells)) ≡ []
    by true ih e = absurd (omega arith)
    by false ih e = ih (omega arith)

pub node_in-none : (place rank : ℕ) (cells : List Dense) → position (λ (cell : Dense). eqb cell.rank rank) cells ≡ None
    → node_in place rank (map dense_pair cells) ≡ []
node_in-none place rank cells is =
    node_in-past place rank cells
    (elim (cases_lt (position_or_len (λ (cell : Dense). eqb cell.rank rank) cells) (length cells)) [
      | inl within ↦
          let test : ltb (position_or_len (λ (cell : Dense). eqb cell.rank rank) cells) (length cells) ≡ true =
          lt-ltb (position_or_len (λ (cell : Dense). eqb cell.rank rank) cells) (length cells) within in
          let never = rw test at is in
          absurd (cc)
      | inr past ↦ past
    ])

pub absolute_of-drop : (cells : List Dense) (i : ℕ) → absolute_of (map dense_pair (drop i cells)) ≤ absolute_of (map dense_pair cells)
absolute_of-drop cells zero = omega arith
absolute_of-drop [] (suc i) = omega arith
absolute_of-drop (cell ∷ cells) (suc i) =
    omega (
      arith,
      absolute_of-drop cells i,
      sum_by-cons (λ (c : ℕ × ℤ). unsigned_abs c.1) (dense_pair cell)
          (map dense_pair cells),
    )

pub absolute_of-at : (cells : List Dense) (i : ℕ) (d : Dense) → i < length cells → unsigned_abs (get_or cells i d).value ≤ absolute_of (map dense_pair cells)
absolute_of-at [] i d within = absurd (omega arith)
absolute_of-at (cell ∷ cells) zero d within = omega (arith, sum_by-cons (λ (c : ℕ × ℤ). unsigned_abs c.1) (dense_pair cell) (map dense_pair cells))
absolute_of-at (cell ∷ cells) (suc i) d within =
    omega (
      arith,
      absolute_of-at cells i d (omega arith),
      sum_by-cons (λ (c : ℕ × ℤ). unsigned_abs c.1) (dense_pair cell) (map dense_pair cells),
    )

-- the first node of a list
slice_get-first : (x z : Node) (zs : List Node) → slice_get (z ∷ zs) 0 ≡ Some x → z ≡ x
slice_get-first x z zs is = cc

pub joined_node-first : (before xs : List Node) (x y : Node) → slice_get xs 0 ≡ Some x → x.place ≡ y.place
    → joined_node before xs y ≡ Some (record { place = y.place; own = (x.own -ℤ first_own before) +ℤ y.own; rest = y.rest })
joined_node-first before [] x y is same = absurd (cc)
joined_node-first before (z ∷ zs) x y is same =
    let e = slice_get-first x z zs is in
    let here : eqb z.place y.place ≡ true = eq-eqb z.place y.place (ap (λ (n : Node). n.place) e ∙ same) in
    rw (here, e) refl

pub Fits-first : (before xs : List Node) (x y : Node) → slice_get xs 0 ≡ Some x → x.place ≡ y.place → Fits before xs y
    → (unsigned_abs (x.own -ℤ first_own before) < 2 ^ 127) × (unsigned_abs ((x.own -ℤ first_own before) +ℤ y.own) < 2 ^ 127)
Fits-first before [] x y is same fits = absurd (cc)
Fits-first before (z ∷ zs) x y is same fits =
    let e = slice_get-first x z zs is in
    subst (λ w. (unsigned_abs (w.own -ℤ first_own before) < 2 ^ 127)
    × (unsigned_abs ((w.own -ℤ first_own before) +ℤ y.own) < 2 ^ 127)) e
    (fits (ap (λ (n : Node). n.place) e ∙ same))

-- a node by its fields
pub Some-node : (place : ℕ) (own own' rest rest' : ℤ) (o : Option Node) → own ≡ own' → rest ≡ rest' → o
    ≡ Some (record { place = place; own = own'; rest = rest' })
    → Some (record { place = place; own = own; rest = rest }) ≡ o
Some-node place own own' rest rest' o e f is = (λ j. Some (record { place = place; own = e j; rest = f j })) ∙ sym is

pub same_single : (place : ℕ) (own own' rest rest' : ℤ) (o : List Node) → own ≡ own' → rest ≡ rest' → o
    ≡ record { place = place; own = own'; rest = rest' } ∷ []
    → (record { place = place; own = own; rest = rest }) ∷ [] ≡ o
same_single place own own' rest rest' o e f is = (λ j. (record { place = place; own = e j; rest = f j }) ∷ []) ∙ sym is
