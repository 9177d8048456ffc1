-- Records that stand in others from a place on.
use Rattle.std.proofs.Common.{◌<◌, ◌≤◌, length, [], ◌≡◌, ℕ, ◌+◌, ℤ, List, ◌∷◌, get_or, ap, ◌∙◌, arith, suc}

-- records that stand in others from a place on
pub record Window (all : List (List (ℕ × ℤ))) (place : ℕ) (records : List (List (ℕ × ℤ))) : Type 0 where
  pub fits : place + length records ≤ length all
  pub same : (i : ℕ) → i < length records → get_or all (place + i) [] ≡ get_or records i []

pub window-here : {all records : List (List (ℕ × ℤ))} {place : ℕ} {cells : List (ℕ × ℤ)} → Window all place (cells ∷ records) → get_or all place [] ≡ cells
window-here {all} {place = place} w = let e : place ≡ place + 0 = omega arith in ap (λ i. get_or all i []) e ∙ w.same 0 (omega arith)

pub window-next : {all records : List (List (ℕ × ℤ))} {place : ℕ} {cells : List (ℕ × ℤ)} → Window all place (cells ∷ records) → Window all (place + 1) records
window-next {all} {place = place} w = record {
  fits = let fits = w.fits in omega (arith, fits);
  same = λ i within. let e : place + 1 + i ≡ place + suc i = omega arith in ap (λ k. get_or all k []) e ∙ w.same (suc i) (omega arith);
}

pub window-all : (records : List (List (ℕ × ℤ))) → Window records 0 records
window-all records = record { fits = omega arith; same = λ i within. let e : 0 + i ≡ i = omega arith in ap (λ k. get_or records k []) e }
