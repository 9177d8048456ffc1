-- Draws one after the other, and lists that a number tells for each place.
use Rattle.std.proofs.Common.{◌≡◌, ℕ, zero, suc, ◌+◌, ◌*◌, ◌<◌, ◌≤◌, map, sum_by, sym, ap, subst, ◌∙◌, arith, add-one}
use Rattle.std.specs.List.{All, range_with_len}
use Rattle.std.proofs.lemmas.List.FromFn.{length-map-range_with_len, get_or-map-range_with_len, sum_by-map-range_with_len_more}
use Rattle.std.proofs.lemmas.List.Elements.{All-from_get_or}
use Rattle.std.proofs.Math.Nat.{mul-add}
use Rattle.hu_drill.specs.Draws.{next_draw, after_draws}

-- some draws and then others
pub after_draws-add : (m n state : ℕ) → after_draws n (after_draws m state) ≡ after_draws (m + n) state
after_draws-add m zero state = ap (λ k. after_draws k state) {x = m} {y = m + zero} (omega arith)
after_draws-add m (suc n) state = ap next_draw (after_draws-add m n state) ∙ ap (λ k. after_draws k state) {x = suc (m + n)} {y = m + suc n} (omega arith)

-- so many draws for each of n things, and then for one more
pub after_draws-more : (each n state : ℕ) → after_draws each (after_draws (each * n) state) ≡ after_draws (each * (n + 1)) state
after_draws-more each n state =
    after_draws-add (each * n) each state ∙ ap (λ k. after_draws k state) (omega (arith, mul-add each n 1))

-- the elements that places tell keep a rule that each of them keeps
pub All-map_range : {X : Type 0} (P : X → Type 0) (f : ℕ → X) (n : ℕ) → ((i : ℕ) → i < n → P (f i)) → All P (map f (range_with_len 0 n))
All-map_range P f n each =
    All-from_get_or P (map f (range_with_len 0 n)) (f 0) (λ i within.
    let below : i < n = omega (arith, within, length-map-range_with_len f 0 n) in
    subst P (sym (get_or-map-range_with_len f 0 n i i (f 0) below (omega arith))) (each i below))

-- the sum over n places is at most n times what each of them comes to at most
pub sum_by-map_range : {X : Type 0} (g : X → ℕ) (f : ℕ → X) (most n : ℕ) → ((i : ℕ) → g (f i) ≤ most) → sum_by g (map f (range_with_len 0 n)) ≤ most * n
sum_by-map_range g f most zero each = omega arith
sum_by-map_range g f most (suc n) each =
    let more = sum_by-map-range_with_len_more g f 0 n n (omega arith) in
    let so_far = sum_by-map_range g f most n each in
    let here = each n in
    subst (λ k. sum_by g (map f (range_with_len 0 k)) ≤ most * k) (add-one n) (omega (arith, more, so_far, here, mul-add most n 1))
