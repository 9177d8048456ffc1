-- Sets whose items don't ascend: what they earn, and their ranking.
use Rattle.std.proofs.Common.{◌≡◌, ℕ, ◌+◌, ◌<◌, ◌≤◌, Bool, true, false, cond, ◌&&◌, ℤ, pos, ◌+ℤ◌, ◌≤ℤ◌, List, [], ◌∷◌, ◌++◌, length, refl, sym, ◌∙◌, ap, inl}
use Rattle.std.proofs.Common.{inr, arith}
use Rattle.std.specs.List.{AllByRecursion, list_any}
use Rattle.std.specs.Ordering.{nat_cmp, match_ordering, MatchOrdering}
use Rattle.std.specs.declared.cmp.Ordering.{Ordering}
use Rattle.std.specs.declared.cmp.Ordering.TheVariants.{Less, Equal, Greater}
use Rattle.std.specs.BTreeSet.{insert_key}
use Rattle.std.proofs.lemmas.Bool.{cases_Bool, and_parts, or_left, or_right}
use Rattle.std.proofs.lemmas.Cmp.{ranked}
use Rattle.std.proofs.lemmas.Int.{ints}
use Rattle.std.proofs.lemmas.List.Sums.{sum_by-cons}
use Rattle.hu_kind.specs.Record.{has, holds, value_of, values_of, utility_in}
use Rattle.hu_kind.specs.Database.{utility, support}
use Rattle.hu_kind.specs.Order.{Ascend, ranking}
use Rattle.hu_kind.proofs.lemmas.Members.{Member}
use Rattle.hu_kind.proofs.lemmas.Occurring.{at_member, by_members, each-ranking, Member-ranking, Ascend-ranking, count-member, holds-append}
use Rattle.hu_kind.proofs.lemmas.Tests.{any-member, any-from_member}
use Rattle.hu_proof.specs.Bounds.{stands_with}
use Rattle.hu_proof.specs.Places.{Apart}

pub Member-from_ranking : (z : ℕ) (xs : List ℕ) → Member z (ranking nat_cmp xs) → Member z xs
Member-from_ranking z xs m = at_member (λ y. Member y xs) z (ranking nat_cmp xs)
    (each-ranking (λ y. Member y xs) xs (by_members (λ y. Member y xs) xs (λ y n. n))) m

-- ---- a set with an item put in

values_of-insert_key-cases : (x y : ℕ) (ys : List ℕ) (cells : List (ℕ × ℤ)) (o : Ordering) → MatchOrdering o (x < y) (x ≡ y) (y < x) → (x ≡ y → ⊥)
    → values_of (insert_key nat_cmp ys x) cells ≡ value_of x cells +ℤ values_of ys cells
    → values_of (match_ordering o (x ∷ y ∷ ys) (y ∷ ys) (y ∷ insert_key nat_cmp ys x)) cells ≡ value_of x cells +ℤ (value_of y cells +ℤ values_of ys cells)
values_of-insert_key-cases x y ys cells Less h out ih = refl
values_of-insert_key-cases x y ys cells Equal h out ih = absurd (out h)
values_of-insert_key-cases x y ys cells Greater h out ih = omega (arith, ints)

values_of-insert_key : (x : ℕ) (xs : List ℕ) (cells : List (ℕ × ℤ)) → (Member x xs → ⊥)
    → values_of (insert_key nat_cmp xs x) cells ≡ value_of x cells +ℤ values_of xs cells
values_of-insert_key x [] cells out = refl
values_of-insert_key x (y ∷ ys) cells out =
    values_of-insert_key-cases x y ys cells (nat_cmp x y) (ranked x y (nat_cmp x y) refl) (λ e. out (inl (sym e)))
    (values_of-insert_key x ys cells (λ m. out (inr m)))

holds-insert_key-cases : (x y : ℕ) (ys : List ℕ) (cells : List (ℕ × ℤ)) (o : Ordering) → MatchOrdering o (x < y) (x ≡ y) (y < x) → (x ≡ y → ⊥)
    → holds (insert_key nat_cmp ys x) cells ≡ (has x cells && holds ys cells)
    → holds (match_ordering o (x ∷ y ∷ ys) (y ∷ ys) (y ∷ insert_key nat_cmp ys x)) cells ≡ (has x cells && (has y cells && holds ys cells))
holds-insert_key-cases x y ys cells Less h out ih = refl
holds-insert_key-cases x y ys cells Equal h out ih = absurd (out h)
holds-insert_key-cases x y ys cells Greater h out ih = rw ih (swap (has x cells) (has y cells) (holds ys cells))
  where
    swap : (a b c : Bool) → (b && (a && c)) ≡ (a && (b && c))
    swap true b c = refl
    swap false true c = refl
    swap false false c = refl

holds-insert_key : (x : ℕ) (xs : List ℕ) (cells : List (ℕ × ℤ)) → (Member x xs → ⊥) → holds (insert_key nat_cmp xs x) cells ≡ (has x cells && holds xs cells)
holds-insert_key x [] cells out = refl
holds-insert_key x (y ∷ ys) cells out =
    holds-insert_key-cases x y ys cells (nat_cmp x y) (ranked x y (nat_cmp x y) refl) (λ e. out (inl (sym e)))
    (holds-insert_key x ys cells (λ m. out (inr m)))

-- ---- a set and its ranking

values_of-ranking : (xs : List ℕ) (cells : List (ℕ × ℤ)) → Apart xs → values_of (ranking nat_cmp xs) cells ≡ values_of xs cells
values_of-ranking [] cells apart = refl
values_of-ranking (x ∷ xs) cells apart =
    values_of-insert_key x (ranking nat_cmp xs) cells (λ m. apart.0 (Member-from_ranking x xs m))
    ∙ ap (λ v. value_of x cells +ℤ v) (values_of-ranking xs cells apart.1)

holds-ranking : (xs : List ℕ) (cells : List (ℕ × ℤ)) → Apart xs → holds (ranking nat_cmp xs) cells ≡ holds xs cells
holds-ranking [] cells apart = refl
holds-ranking (x ∷ xs) cells apart =
    holds-insert_key x (ranking nat_cmp xs) cells (λ m. apart.0 (Member-from_ranking x xs m)) ∙ ap (λ b. has x cells && b) (holds-ranking xs cells apart.1)

pub utility-ranking : (records : List (List (ℕ × ℤ))) (xs : List ℕ) → Apart xs → utility records (ranking nat_cmp xs) ≡ utility records xs
utility-ranking [] xs apart = refl
utility-ranking (r ∷ rs) xs apart = simp (holds-ranking xs r apart, values_of-ranking xs r apart)
    (ap (λ v. utility_in xs r +ℤ v) (utility-ranking rs xs apart))

pub support-ranking : (records : List (List (ℕ × ℤ))) (xs : List ℕ) → Apart xs → support records (ranking nat_cmp xs) ≡ support records xs
support-ranking [] xs apart = refl
support-ranking (r ∷ rs) xs apart =
    let ih = support-ranking rs xs apart in
    sum_by-cons (λ c. cond (holds (ranking nat_cmp xs) c) 1 0) r rs
    ∙ (rw (holds-ranking xs r apart, ih) (sym (sum_by-cons (λ c. cond (holds xs c) 1 0) r rs)))

-- ascending lists with the same items are the same
heads-same : (x y : ℕ) (xs ys : List ℕ) → AllByRecursion (λ z. x < z) xs → AllByRecursion (λ z. y < z) ys → Member x (y ∷ ys) → Member y (x ∷ xs) → x ≡ y
heads-same x y xs ys up rise (inl e) n = sym e
heads-same x y xs ys up rise (inr m) (inl e) = e
heads-same x y xs ys up rise (inr m) (inr n) =
    let low : y < x = at_member (λ z. y < z) x ys rise m in
    let high : x < y = at_member (λ z. x < z) y xs up n in
    absurd (omega arith)

later-same : (x y z : ℕ) (xs ys : List ℕ) → AllByRecursion (λ w. x < w) xs → x ≡ y → Member z xs → Member z (y ∷ ys) → Member z ys
later-same x y z xs ys up e m (inl t) = let above : x < z = at_member (λ w. x < w) z xs up m in absurd (omega arith)
later-same x y z xs ys up e m (inr n) = n

pub Ascend-same : (xs ys : List ℕ) → Ascend xs → Ascend ys → ((z : ℕ) → Member z xs → Member z ys) → ((z : ℕ) → Member z ys → Member z xs) → xs ≡ ys
Ascend-same [] [] up rise there back = refl
Ascend-same [] (y ∷ ys) up rise there back = absurd (back y (inl refl))
Ascend-same (x ∷ xs) [] up rise there back = absurd (there x (inl refl))
Ascend-same (x ∷ xs) (y ∷ ys) up rise there back =
    let head : x ≡ y = heads-same x y xs ys up.0 rise.0 (there x (inl refl)) (back y (inl refl)) in
    let tail : xs ≡ ys = Ascend-same xs ys up.1 rise.1
    (λ z m. later-same x y z xs ys up.0 head m (there z (inr m)))
    (λ z m. later-same y x z ys xs rise.0 (sym head) m (back z (inr m))) in
    cc

-- a list as long as its ranking has no item twice
length-insert_key-cases : (x y : ℕ) (ys : List ℕ) (o : Ordering) → length (insert_key nat_cmp ys x) ≤ length ys + 1
    → length (match_ordering o (x ∷ y ∷ ys) (y ∷ ys) (y ∷ insert_key nat_cmp ys x)) ≤ length (y ∷ ys) + 1
length-insert_key-cases x y ys Less ih = omega arith
length-insert_key-cases x y ys Equal ih = omega arith
length-insert_key-cases x y ys Greater ih = omega arith

length-insert_key : (x : ℕ) (xs : List ℕ) → length (insert_key nat_cmp xs x) ≤ length xs + 1
length-insert_key x [] = omega arith
length-insert_key x (y ∷ ys) = length-insert_key-cases x y ys (nat_cmp x y) (length-insert_key x ys)

length-ranking : (xs : List ℕ) → length (ranking nat_cmp xs) ≤ length xs
length-ranking [] = omega arith
length-ranking (x ∷ xs) = let ih = length-ranking xs in let one = length-insert_key x (ranking nat_cmp xs) in omega arith

member-insert_key-cases : (x y : ℕ) (ys : List ℕ) (o : Ordering) → MatchOrdering o (x < y) (x ≡ y) (y < x) → Ascend (y ∷ ys) → Member x (y ∷ ys)
    → (Member x ys → length (insert_key nat_cmp ys x) ≡ length ys)
    → length (match_ordering o (x ∷ y ∷ ys) (y ∷ ys) (y ∷ insert_key nat_cmp ys x)) ≡ length (y ∷ ys)
member-insert_key-cases x y ys Less h up (inl e) ih = absurd (omega arith)
member-insert_key-cases x y ys Less h up (inr m) ih = let low : y < x = at_member (λ z. y < z) x ys up.0 m in absurd (omega arith)
member-insert_key-cases x y ys Equal h up m ih = refl
member-insert_key-cases x y ys Greater h up (inl e) ih = absurd (omega arith)
member-insert_key-cases x y ys Greater h up (inr m) ih = let same = ih m in omega arith

length-insert_key-member : (x : ℕ) (xs : List ℕ) → Ascend xs → Member x xs → length (insert_key nat_cmp xs x) ≡ length xs
length-insert_key-member x [] up m = absurd m
length-insert_key-member x (y ∷ ys) up m = member-insert_key-cases x y ys (nat_cmp x y) (ranked x y (nat_cmp x y) refl) up m
    (length-insert_key-member x ys up.1)

pub Apart-ranking : (xs : List ℕ) → length (ranking nat_cmp xs) ≡ length xs → Apart xs
Apart-ranking [] e = tt
Apart-ranking (x ∷ xs) e = (
  λ m.
      let same = length-insert_key-member x (ranking nat_cmp xs) (Ascend-ranking xs) (Member-ranking x xs m) in
      let few = length-ranking xs in
      absurd (omega arith),
  Apart-ranking xs (let one = length-insert_key x (ranking nat_cmp xs) in let few = length-ranking xs in omega arith),
)

-- ---- sets that earn something occur

pub held-earning : (records : List (List (ℕ × ℤ))) (xs : List ℕ) → pos 1 ≤ℤ utility records xs → list_any (holds xs) records ≡ true
held-earning [] xs h = absurd (omega (arith, ints))
held-earning (r ∷ rs) xs h = elim (cases_Bool (holds xs r)) [
  | inl here ↦ or_left (holds xs r) (list_any (holds xs) rs) here
  | inr out ↦ or_right (holds xs r) (list_any (holds xs) rs) (held-earning rs xs (let none : utility_in xs r ≡ pos 0 = rw out refl in omega (arith, ints)))
]

pub support-earning : (records : List (List (ℕ × ℤ))) (xs : List ℕ) → pos 1 ≤ℤ utility records xs → 0 < support records xs
support-earning records xs h = let r = any-member (holds xs) records (held-earning records xs h) in count-member (holds xs) r.0 records r.1 r.2

pub stands_with-grown : (records : List (List (ℕ × ℤ))) (prefix : List ℕ) (item : ℕ) (more : List ℕ)
    → pos 1 ≤ℤ utility records ((prefix ++ item ∷ []) ++ more) → stands_with records prefix item ≡ true
stands_with-grown records prefix item more h =
    let r = any-member (holds ((prefix ++ item ∷ []) ++ more)) records (held-earning records ((prefix ++ item ∷ []) ++ more) h) in
    any-from_member (holds (prefix ++ item ∷ [])) r.0 records r.1
    (and_parts (holds (prefix ++ item ∷ []) r.0) (holds more r.0) (sym (holds-append (prefix ++ item ∷ []) more r.0) ∙ r.2)).0
