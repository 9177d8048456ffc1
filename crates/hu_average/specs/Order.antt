-- The order of entries by what they earn for each number of their keys: the greater average utility first, then the smaller key,
-- then the smaller support. Averages are compared as exact fractions. After Hong, Lee and Wang (2009).
use Rattle.std.specs.Prelude.{◌≡◌, ℕ, zero, suc, ◌<◌, max, ℤ, pos, ◌*ℤ◌, ◌+ℤ◌, ◌<ℤ◌, ◌≤ℤ◌, length, refl}
use Rattle.std.specs.declared.cmp.Ordering.{Ordering}
use Rattle.std.specs.declared.cmp.Ordering.TheVariants.{Less, Equal, Greater}
use Rattle.std.specs.Ordering.{nat_cmp, int_cmp, on, then_cmp, flip_args, MatchOrdering}
use Rattle.std.specs.Cmp.{IsTotalOrder, int_cmp_is}
use Rattle.std.specs.Cmp.Lexicographic.{slice_cmp}
use Rattle.std.proofs.Common.{ap, sym, ◌∙◌, arith, subst}
use Rattle.std.proofs.Math.IntN.{*ℤ_comm, *ℤ-zero, suc_ℤ-*ℤ}
use Rattle.std.proofs.lemmas.Int.{ints, by_lt_z}
use Rattle.std.proofs.lemmas.Cmp.{
  then_total,
  back_total,
  on_total,
  lists_total,
  int_cmp_total,
  nat_cmp_total,
  int_ranked,
}
use Rattle.hu_kind.specs.declared.entry.Entry.{Entry}

-- a utility and a count of numbers, which is taken as 1 where it is 0
abbrev pub Average : Type 0
Average = ℤ × ℕ

-- the average of an entry
abbrev pub average_of : Entry → Average
average_of e = (e.utility, length e.key)

-- averages as fractions, multiplied across
abbrev pub fraction_cmp : Average → Average → Ordering
fraction_cmp a b = int_cmp (a.0 *ℤ pos (max b.1 1)) (b.0 *ℤ pos (max a.1 1))

-- the order by average
unfoldable pub average_cmp : Entry → Entry → Ordering
average_cmp =
    then_cmp (flip_args (on average_of fraction_cmp)) (then_cmp (on (λ e. e.key) (slice_cmp int_cmp)) (on
    (λ e. e.support) nat_cmp))

-- ---- products with a number that isn't below 0

pub times-suc : (a : ℤ) (n : ℕ) → (a *ℤ pos (suc n)) ≡ ((a *ℤ pos n) +ℤ a)
times-suc a n = *ℤ_comm a (pos (suc n)) ∙ suc_ℤ-*ℤ (pos n) a ∙ ap (λ z. z +ℤ a) (*ℤ_comm (pos n) a)

pub times-add : (a b : ℤ) (n : ℕ) → ((a +ℤ b) *ℤ pos n) ≡ ((a *ℤ pos n) +ℤ (b *ℤ pos n))
times-add a b zero = let x = *ℤ-zero a in let y = *ℤ-zero b in let z =
    *ℤ-zero (a +ℤ b) in omega (arith, ints, x, y, z)
times-add a b (suc n) =
    let x = times-suc a n in let y = times-suc b n in let z = times-suc (a +ℤ b) n in let rest =
    times-add a b n in omega
    (arith, ints, x, y, z, rest)

pub times-swap : (a : ℤ) (m n : ℕ) → ((a *ℤ pos m) *ℤ pos n) ≡ ((a *ℤ pos n) *ℤ pos m)
times-swap a zero n =
    let x : ((a *ℤ pos 0) *ℤ pos n) ≡ (pos 0 *ℤ pos n) = ap (λ z. z *ℤ pos n) (*ℤ-zero a) in
    let y : (pos 0 *ℤ pos n) ≡ pos 0 = *ℤ_comm (pos 0) (pos n) ∙ *ℤ-zero (pos n) in
    x ∙ y ∙ sym (*ℤ-zero (a *ℤ pos n))
times-swap a (suc m) n =
    ap (λ z. z *ℤ pos n) (times-suc a m) ∙ times-add (a *ℤ pos m) a n
    ∙ ap (λ z. z +ℤ (a *ℤ pos n)) (times-swap a m n)
    ∙ sym (times-suc (a *ℤ pos n) m)

pub times-le : (a b : ℤ) (n : ℕ) → a ≤ℤ b → (a *ℤ pos n) ≤ℤ (b *ℤ pos n)
times-le a b zero h = let x = *ℤ-zero a in let y = *ℤ-zero b in omega (arith, ints, x, y)
times-le a b (suc n) h = let x = times-suc a n in let y = times-suc b n in let rest =
    times-le a b n h in omega
    (arith, ints, x, y, rest)

pub times-lt : (a b : ℤ) (n : ℕ) → 0 < n → a <ℤ b → (a *ℤ pos n) <ℤ (b *ℤ pos n)
times-lt a b zero some h = absurd (omega (arith, some))
times-lt a b (suc n) some h =
    let x = times-suc a n in let y = times-suc b n in let rest =
    times-le a b n (omega (arith, ints, h)) in omega
    (arith, ints, x, y, rest, h)

pub times-lt_cancel : (a b : ℤ) (n : ℕ) → (a *ℤ pos n) <ℤ (b *ℤ pos n) → a <ℤ b
times-lt_cancel a b n h =
    by_lt_z a b (λ lt. lt) (λ le. let over = times-le b a n le in absurd
    (omega (arith, ints, over, h)))

pub times-eq_cancel : (a b : ℤ) (n : ℕ) → 0 < n → (a *ℤ pos n) ≡ (b *ℤ pos n) → a ≡ b
times-eq_cancel a b n some h = by_lt_z a b
    (λ lt. let over = times-lt a b n some lt in absurd (omega (arith, ints, over, h)))
    (λ le. by_lt_z b a (λ gt. let over = times-lt b a n some gt in absurd
    (omega (arith, ints, over, h))) (λ ge. omega
    (arith, ints, le, ge)))

-- ---- averages are in a total order

-- one average is less than another
Under : Average → Average → Type 0
Under a b = (a.0 *ℤ pos (max b.1 1)) <ℤ (b.0 *ℤ pos (max a.1 1))

count_some : (n : ℕ) → 0 < max n 1
count_some n = omega arith

under-trans : (a b c : Average) → Under a b → Under b c → Under a c
unfolding Under
under-trans a b c h k =
    let n = max a.1 1 in let m = max b.1 1 in let o = max c.1 1 in
    let x : ((a.0 *ℤ pos m) *ℤ pos o) <ℤ ((b.0 *ℤ pos n) *ℤ pos o) = times-lt (a.0 *ℤ pos m) (b.0 *ℤ pos n) o
    (count_some c.1) h in
    let y : ((b.0 *ℤ pos o) *ℤ pos n) <ℤ ((c.0 *ℤ pos m) *ℤ pos n) = times-lt (b.0 *ℤ pos o) (c.0 *ℤ pos m) n
    (count_some a.1) k in
    let s = times-swap a.0 m o in let t = times-swap b.0 n o in let u = times-swap c.0 m n in
    times-lt_cancel (a.0 *ℤ pos o) (c.0 *ℤ pos n) m (omega (arith, ints, x, y, s, t, u))

-- an equal one is alike beside all others
same-times : (a b c : Average) → (a.0 *ℤ pos (max b.1 1)) ≡ (b.0 *ℤ pos (max a.1 1))
    → ((a.0 *ℤ pos (max c.1 1)) *ℤ pos (max b.1 1)) ≡ ((b.0 *ℤ pos (max c.1 1)) *ℤ pos (max a.1 1))
same-times a b c e =
    times-swap a.0 (max c.1 1) (max b.1 1) ∙ ap (λ z. z *ℤ pos (max c.1 1)) e
    ∙ times-swap b.0 (max a.1 1) (max c.1 1)

fraction_congr : (a b c : Average) → (a.0 *ℤ pos (max b.1 1)) ≡ (b.0 *ℤ pos (max a.1 1))
    → fraction_cmp a c ≡ fraction_cmp b c
fraction_congr a b c e = int_cmp_is (b.0 *ℤ pos (max c.1 1)) (c.0 *ℤ pos (max b.1 1)) (fraction_cmp a c)
    (by (fraction_cmp a c) (int_ranked (a.0 *ℤ pos (max c.1 1)) (c.0 *ℤ pos (max a.1 1))
    (fraction_cmp a c) refl))
  where
    n : ℕ
    n = max a.1 1

    m : ℕ
    m = max b.1 1

    o : ℕ
    o = max c.1 1

    by : (r : Ordering) → MatchOrdering r ((a.0 *ℤ pos (max c.1 1)) <ℤ (c.0 *ℤ pos (max a.1 1))) ((a.0 *ℤ pos
        (max c.1 1)) ≡ (c.0 *ℤ pos (max a.1 1))) ((c.0 *ℤ pos (max a.1 1)) <ℤ (a.0 *ℤ pos (max c.1 1)))
        → MatchOrdering r ((b.0 *ℤ pos (max c.1 1)) <ℤ (c.0 *ℤ pos (max b.1 1)))
        ((b.0 *ℤ pos (max c.1 1)) ≡ (c.0 *ℤ pos
        (max b.1 1))) ((c.0 *ℤ pos (max b.1 1)) <ℤ (b.0 *ℤ pos (max c.1 1)))
    by Less h =
        let x = times-lt (a.0 *ℤ pos (max c.1 1)) (c.0 *ℤ pos (max a.1 1)) (max b.1 1) (count_some b.1) h in
        let s = same-times a b c e in let t = times-swap c.0 (max a.1 1) (max b.1 1) in
        times-lt_cancel (b.0 *ℤ pos (max c.1 1)) (c.0 *ℤ pos (max b.1 1)) (max a.1 1)
        (omega (arith, ints, x, s, t))
    by Equal h =
        let x = ap (λ z. z *ℤ pos (max b.1 1)) h in
        let s = same-times a b c e in let t = times-swap c.0 (max a.1 1) (max b.1 1) in
        times-eq_cancel (b.0 *ℤ pos (max c.1 1)) (c.0 *ℤ pos (max b.1 1)) (max a.1 1) (count_some a.1) (omega
        (arith, ints, x, s, t))
    by Greater h =
        let x = times-lt (c.0 *ℤ pos (max a.1 1)) (a.0 *ℤ pos (max c.1 1)) (max b.1 1) (count_some b.1) h in
        let s = same-times a b c e in let t = times-swap c.0 (max a.1 1) (max b.1 1) in
        times-lt_cancel (c.0 *ℤ pos (max b.1 1)) (b.0 *ℤ pos (max c.1 1)) (max a.1 1)
        (omega (arith, ints, x, s, t))

fraction_cmp_total : IsTotalOrder fraction_cmp
unfolding Under
fraction_cmp_total = record {
  antisymm = λ a b. int_cmp_total.antisymm (a.0 *ℤ pos (max b.1 1)) (b.0 *ℤ pos (max a.1 1));
  trans = λ a b c h k.
      let x : Under a b =
      subst (λ r. MatchOrdering r (Under a b) ((a.0 *ℤ pos (max b.1 1))
      ≡ (b.0 *ℤ pos (max a.1 1)))
      (Under b a)) h
      (int_ranked (a.0 *ℤ pos (max b.1 1)) (b.0 *ℤ pos (max a.1 1)) (fraction_cmp a b) refl) in
      let y : Under b c =
      subst (λ r. MatchOrdering r (Under b c) ((b.0 *ℤ pos (max c.1 1))
      ≡ (c.0 *ℤ pos (max b.1 1)))
      (Under c b)) k
      (int_ranked (b.0 *ℤ pos (max c.1 1)) (c.0 *ℤ pos (max b.1 1)) (fraction_cmp b c) refl) in
      sym (int_cmp_is (a.0 *ℤ pos (max c.1 1)) (c.0 *ℤ pos (max a.1 1)) Less (under-trans a b c x y));
  congr = λ a b c h. fraction_congr a b c (subst
      (λ r. MatchOrdering r (Under a b) ((a.0 *ℤ pos (max b.1 1)) ≡ (b.0 *ℤ pos
      (max a.1 1))) (Under b a)) h
      (int_ranked (a.0 *ℤ pos (max b.1 1)) (b.0 *ℤ pos (max a.1 1)) (fraction_cmp a b) refl));
}

-- and so are entries by average
pub average_cmp_total : IsTotalOrder average_cmp
unfolding average_cmp
average_cmp_total =
    then_total (back_total (on_total average_of fraction_cmp_total))
    (then_total (on_total (λ e. e.key) (lists_total int_cmp_total)) (on_total (λ e. e.support) nat_cmp_total))
