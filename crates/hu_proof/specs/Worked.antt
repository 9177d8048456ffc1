-- Worked certificates, by computation.
use Rattle.std.specs.Prelude.{◌≡◌, ℕ, ℤ, pos, None, Some, List, [], ◌∷◌, ◌++◌, codes, refl}
use Rattle.std.specs.List.{flat_map}
use Rattle.hu_kind.specs.Order.{entry_cmp}
use Rattle.hu_kind.specs.Worked.{entry_of}
use Rattle.hu_proof.specs.declared.fault.CheckFault.TheVariants.{
  NotOfForm,
  WrongMinimum,
  WrongOrder,
  WrongPrefix,
  WrongUtility,
  WrongChild,
  LeftOut,
  WrongBound,
  NotCut,
}
use Rattle.hu_proof.specs.Check.{first_fault}
use Rattle.hu_proof.specs.Opened.{opened, opened_answer}

-- lines that each end with a line feed
abbrev pub lines : List (List ℕ) → List ℕ
lines texts = flat_map (λ text. text ++ 10 ∷ []) texts

-- an item that earns 5 and one that earns nothing, in one record
abbrev pub two_items : List (List (ℕ × ℤ))
two_items = ((1, pos 5) ∷ (2, pos 0) ∷ []) ∷ []

-- its certificate at 5
abbrev pub five_lines : List ℕ
five_lines = lines (codes "cert 5" ∷ codes "order 1 2" ∷ codes ":0:1 2=0" ∷ codes "1:5:2" ∷ codes "1 2:5:" ∷ [])

pub accepted : first_fault two_items (pos 5) five_lines ≡ None
accepted = refl

pub opens : opened five_lines ≡ [] ∷ (1 ∷ []) ∷ (1 ∷ 2 ∷ []) ∷ []
opens = refl

pub answers : opened_answer two_items (pos 5) five_lines
    ≡ entry_of (1 ∷ []) 5 1 ∷ entry_of (1 ∷ 2 ∷ []) 5 1 ∷ []
unfolding entry_cmp
answers = refl

-- no record
pub accepted_empty : first_fault [] (pos 5) (lines (codes "cert 5" ∷ codes "order" ∷ codes ":0:" ∷ [])) ≡ None
accepted_empty = refl

-- a leading zero
pub idle_zero : first_fault two_items (pos 5) (lines (codes "cert 05" ∷ codes "order 1 2" ∷ codes ":0:1 2=0" ∷ codes "1:5:2" ∷ codes "1 2:5:" ∷ [])) ≡
    Some (NotOfForm 1)
idle_zero = refl

-- `-0`
pub zero_below_zero : first_fault two_items (pos 5) (lines (codes "cert 5" ∷ codes "order 1 2" ∷ codes ":-0:1 2=0" ∷ codes "1:5:2" ∷ codes "1 2:5:" ∷
    [])) ≡ Some (NotOfForm 3)
zero_below_zero = refl

-- a missing line, one line too many, and a last line without its line feed
pub line_missing : first_fault two_items (pos 5) (lines (codes "cert 5" ∷ codes "order 1 2" ∷ codes ":0:1 2=0" ∷ codes "1:5:2" ∷ [])) ≡ Some (NotOfForm 5)
line_missing = refl

pub line_after : first_fault two_items (pos 5) (five_lines ++ lines ([] ∷ [])) ≡ Some (NotOfForm 6)
line_after = refl

pub line_unended : first_fault [] (pos 5) (lines (codes "cert 5" ∷ codes "order" ∷ []) ++ codes ":0:") ≡ Some (NotOfForm 3)
line_unended = refl

pub other_minimum : first_fault two_items (pos 5) (lines (codes "cert 4" ∷ codes "order 1 2" ∷ codes ":0:1 2=0" ∷ codes "1:5:2" ∷ codes "1 2:5:" ∷ [])) ≡
    Some (WrongMinimum (pos 4))
other_minimum = refl

pub order_with_3 : first_fault two_items (pos 5) (lines (codes "cert 5" ∷ codes "order 1 2 3" ∷ codes ":0:1 2=0" ∷ codes "1:5:2" ∷ codes "1 2:5:" ∷ []))
    ≡ Some WrongOrder
order_with_3 = refl

pub order_with_2_twice : first_fault two_items (pos 5) (lines
    (codes "cert 5" ∷ codes "order 2 1 2" ∷ codes ":0:1 2=0" ∷ codes "1:5:2" ∷ codes "1 2:5:" ∷ [])) ≡ Some WrongOrder
order_with_2_twice = refl

pub other_prefix : first_fault two_items (pos 5) (lines (codes "cert 5" ∷ codes "order 1 2" ∷ codes ":0:1 2=0" ∷ codes "2:5:" ∷ codes "1 2:5:" ∷ [])) ≡
    Some (WrongPrefix 4)
other_prefix = refl

pub other_utility : first_fault two_items (pos 5) (lines (codes "cert 5" ∷ codes "order 1 2" ∷ codes ":0:1 2=0" ∷ codes "1:6:2" ∷ codes "1 2:5:" ∷ [])) ≡
    Some (WrongUtility 4 (pos 6) (pos 5))
other_utility = refl

pub child_again : first_fault two_items (pos 5) (lines (codes "cert 5" ∷ codes "order 1 2" ∷ codes ":0:1 2=0" ∷ codes "1:5:1" ∷ codes "1 2:5:" ∷ [])) ≡
    Some (WrongChild 4 (record { 0 = 1 }))
child_again = refl

pub two_left_out : first_fault two_items (pos 5) (lines (codes "cert 5" ∷ codes "order 1 2" ∷ codes ":0:1" ∷ codes "1:5:2" ∷ codes "1 2:5:" ∷ [])) ≡ Some
    (LeftOut 3 (record { 0 = 2 }))
two_left_out = refl

pub bound_too_great : first_fault two_items (pos 5) (lines (codes "cert 5" ∷ codes "order 1 2" ∷ codes ":0:1 2=1" ∷ codes "1:5:2" ∷ codes "1 2:5:" ∷ []))
    ≡ Some (WrongBound 3 (record { 0 = 2 }) (pos 1) (pos 0))
bound_too_great = refl

pub bound_that_reaches : first_fault two_items (pos 5) (lines (codes "cert 5" ∷ codes "order 1 2" ∷ codes ":0:1=5 2=0" ∷ [])) ≡ Some
    (NotCut 3 (record { 0 = 1 }) (pos 5))
bound_that_reaches = refl
