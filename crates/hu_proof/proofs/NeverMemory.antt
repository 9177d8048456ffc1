-- Want of memory is the fault of no text.
use Rattle.std.proofs.Common.{◌≡◌, ℕ, ◌+◌, Bool, true, false, not, nat_lt, ℤ, Option, None, Some, option_map, List, [], ◌∷◌, ◌++◌, map, length}
use Rattle.std.specs.Prelude.{int_le}
use Rattle.std.specs.Bool.{then_some}
use Rattle.std.specs.List.{AllByRecursion}
use Rattle.std.specs.Ordering.{int_eq}
use Rattle.std.specs.Str.{bytes_eq}
use Rattle.std.proofs.lemmas.Bool.{cond_both}
use Rattle.hu_kind.specs.Database.{utility}
use Rattle.hu_kind.specs.First.{first_some}
use Rattle.hu_kind.specs.declared.item.Item.{Item}
use Rattle.hu_proof.specs.declared.fault.CheckFault.{CheckFault}
use Rattle.hu_proof.specs.Check.{Node, wrong_child, left_out, wrong_bound, wrong_bound_of, not_cut, not_cut_of}
use Rattle.hu_proof.specs.Check.{token_bound, faults_of, line_fault, opened_by, walk, root, is_order}
use Rattle.hu_proof.specs.Check.{order_fault, from_order, minimum_fault, from_minimum, first_fault}
use Rattle.hu_proof.specs.Text.{Said, said_of, order_of, minimum_of, pieces}

abbrev NotMemory : Option CheckFault → Type 0
NotMemory None = Unit {0}
NotMemory (Some fault) = fault ≡ CheckFault.NoMemory → ⊥

first-not : (os : List (Option CheckFault)) → AllByRecursion NotMemory os → NotMemory (first_some os)
first-not [] all = tt
first-not (None ∷ os) all = first-not os all.1
first-not (Some fault ∷ os) all = all.0

then-not : (b : Bool) (fault : CheckFault) → (fault ≡ CheckFault.NoMemory → ⊥) → NotMemory (then_some b fault)
then-not true fault h = h
then-not false fault h = tt

map-not : {A : Type 0} (f : A → CheckFault) (o : Option A) → ((x : A) → f x ≡ CheckFault.NoMemory → ⊥) → NotMemory (option_map f o)
map-not f None h = tt
map-not f (Some x) h = h x

each-not : {A : Type 0} (f : A → Option CheckFault) (xs : List A) → ((x : A) → NotMemory (f x)) → AllByRecursion NotMemory (map f xs)
each-not f [] h = tt
each-not f (x ∷ xs) h = (h x, each-not f xs h)

bound-not : (line : ℕ) (item : Item) (bound : Option ℤ) (sum : ℤ) → NotMemory (wrong_bound_of line item bound sum)
bound-not line item None sum = tt
bound-not line item (Some stated) sum = then-not (not (int_eq stated sum)) (CheckFault.WrongBound line item stated sum) (λ e. cc)

cut-not : (line : ℕ) (least : ℤ) (item : Item) (bound : Option ℤ) → NotMemory (not_cut_of line least item bound)
cut-not line least item None = tt
cut-not line least item (Some bound) = then-not (int_le least bound) (CheckFault.NotCut line item bound) (λ e. cc)

line-not : (records : List (List (ℕ × ℤ))) (least : ℤ) (line : ℕ) (node : Node) (o : Option Said) → NotMemory (line_fault records least line node o)
line-not records least line node None = λ e. cc
line-not records least line node (Some said) = first-not (faults_of records least line node said) (
  then-not (not (bytes_eq said.prefix node.prefix)) (CheckFault.WrongPrefix line) (λ e. cc),
  (
    then-not (not (int_eq said.utility (utility records node.prefix))) (CheckFault.WrongUtility line said.utility (utility records node.prefix)) (λ e. cc),
    (
      map-not (λ item. CheckFault.WrongChild line (record { 0 = item })) (wrong_child node.later said.tokens) (λ x e. cc),
      (
        map-not (λ item. CheckFault.LeftOut line (record { 0 = item })) (left_out records node said.tokens) (λ x e. cc),
        (
          first-not (map (wrong_bound line records node) said.tokens)
              (each-not (wrong_bound line records node) said.tokens (λ token. bound-not line token.item token.bound (token_bound records node token))),
          (
            first-not (map (not_cut line least) said.tokens) (each-not (not_cut line least) said.tokens
                (λ token. cut-not line least token.item token.bound)),
            tt,
          ),
        ),
      ),
    ),
  ),
)

walk-not : (records : List (List (ℕ × ℤ))) (least : ℤ) (line : ℕ) (nodes : List Node) (lines : List (List ℕ))
    → NotMemory (walk records least line nodes lines)
walk-not records least line nodes [] = λ e. cc
walk-not records least line [] ([] ∷ []) = tt
walk-not records least line [] ((b ∷ bs) ∷ []) = λ e. cc
walk-not records least line (node ∷ nodes) (piece ∷ []) = λ e. cc
walk-not records least line [] (piece ∷ next ∷ rest) = λ e. cc
walk-not records least line (node ∷ nodes) (piece ∷ next ∷ rest) =
    first-not (line_fault records least line node (said_of piece) ∷ walk records least (line + 1) (opened_by node (said_of piece) ++ nodes)
    (next ∷ rest) ∷ [])
    (line-not records least line node (said_of piece), (walk-not records least (line + 1) (opened_by node (said_of piece) ++ nodes) (next ∷ rest), tt))

order-not : (records : List (List (ℕ × ℤ))) (least : ℤ) (o : Option (List ℕ)) (rest : List (List ℕ)) → NotMemory (order_fault records least o rest)
order-not records least None rest = λ e. cc
order-not records least (Some order) rest =
    cond_both (is_order records order) (walk records least 3 (root order ∷ []) rest) (Some CheckFault.WrongOrder) NotMemory
    (λ h. walk-not records least 3 (root order ∷ []) rest) (λ h e. cc)

lines-not : (records : List (List (ℕ × ℤ))) (least : ℤ) (lines : List (List ℕ)) → NotMemory (from_order records least lines)
lines-not records least [] = λ e. cc
lines-not records least (line ∷ []) = λ e. cc
lines-not records least (line ∷ next ∷ rest) = order-not records least (order_of line) (next ∷ rest)

minimum-not : (records : List (List (ℕ × ℤ))) (least : ℤ) (o : Option ℤ) (rest : List (List ℕ)) → NotMemory (minimum_fault records least o rest)
minimum-not records least None rest = λ e. cc
minimum-not records least (Some stated) rest =
    cond_both (int_eq stated least) (from_order records least rest) (Some (CheckFault.WrongMinimum stated)) NotMemory
    (λ h. lines-not records least rest) (λ h e. cc)

pieces-not : (records : List (List (ℕ × ℤ))) (least : ℤ) (lines : List (List ℕ)) → NotMemory (from_minimum records least lines)
pieces-not records least [] = λ e. cc
pieces-not records least (line ∷ []) = λ e. cc
pieces-not records least (line ∷ next ∷ rest) = minimum-not records least (minimum_of line) (next ∷ rest)

text-not : (records : List (List (ℕ × ℤ))) (least : ℤ) (text : List ℕ) → NotMemory (first_fault records least text)
text-not records least text =
    cond_both (nat_lt 268435456 (length text)) (Some CheckFault.TooLong) (from_minimum records least (pieces text)) NotMemory (λ h e. cc)
    (λ h. pieces-not records least (pieces text))

none-memory : (o : Option CheckFault) → NotMemory o → o ≡ Some CheckFault.NoMemory → ⊥
none-memory None h e = cc
none-memory (Some fault) h e = h cc

pub never_memory : (records : List (List (ℕ × ℤ))) (least : ℤ) (text : List ℕ) → first_fault records least text ≡ Some CheckFault.NoMemory → ⊥
never_memory records least text e = none-memory (first_fault records least text) (text-not records least text) e
