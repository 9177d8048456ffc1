-- Worked certificates, by computation.
use Rattle.std.specs.Prelude.{◌≡◌, ℕ, ℤ, pos, negsuc, None, List, [], ◌∷◌, codes, refl}
use Rattle.std.specs.Fmt.{digits}
use Rattle.hu_proof.specs.Check.{first_fault}
use Rattle.hu_proof.specs.Worked.{lines, two_items, five_lines}
use Rattle.hu_certify.specs.Text.{certificate_text}

-- an item that earns 5 and one that earns nothing, in one record
pub text_of_two : certificate_text two_items (pos 5) ≡ five_lines
unfolding digits
text_of_two = refl

-- no record
pub text_of_none : certificate_text [] (pos 5) ≡ lines
    (codes "cert 5" ∷ codes "order" ∷ codes ":0:" ∷ [])
unfolding digits
text_of_none = refl

-- an item that costs: in one of its records it lowers what all earn
abbrev pub with_a_cost : List (List (ℕ × ℤ))
with_a_cost = ((1, negsuc 1) ∷ (2, pos 4) ∷ (3, pos 3) ∷ []) ∷ ((1, pos 1) ∷ (3, pos 2) ∷ []) ∷ []

pub text_of_a_cost : certificate_text with_a_cost (pos 5) ≡
    lines (
    codes "cert 5"
    ∷ codes "order 2 1 3"
    ∷ codes ":0:2 1=4 3"
    ∷ codes "2:4:1 3"
    ∷ codes "2 1:2:3"
    ∷ codes "2 1 3:5:"
    ∷ codes "2 3:7:"
    ∷ codes "3:5:"
    ∷ [])
unfolding digits
text_of_a_cost = refl

pub accepted_cost : first_fault with_a_cost (pos 5) (certificate_text with_a_cost (pos 5)) ≡ None
unfolding digits
accepted_cost = refl
