-- The sets that occur in a database are the ascending lists of items that some record holds.
use Rattle.std.proofs.Common.{◌≡◌, ℕ, ◌<◌, ◌+◌, Bool, true, false, cond, eqb, nat_lt, ◌&&◌, ℤ, List, [], ◌∷◌, map, length, refl, sym, ap, ◌∙◌, subst, inl, inr}
use Rattle.std.proofs.Common.{arith, flat_map, count_by, Ordering, Less, Equal, Greater, nat_cmp, nat_eq, ◌++◌, ◌+ℤ◌, pos}
use Rattle.std.specs.List.{AllByRecursion}
use Rattle.std.specs.Ordering.{match_ordering, MatchOrdering}
use Rattle.std.specs.BTreeSet.{insert_key}
use Rattle.std.proofs.lemmas.Bool.{and_parts, and_from, or_cases, lt-ltb, ltb-true, eqb-true, cases_eq, eq-eqb, ne_eqb, or_left, or_right}
use Rattle.std.proofs.lemmas.Cmp.{ranked}
use Rattle.std.proofs.lemmas.List.Sums.{sum_by-cons}
use Rattle.std.proofs.lemmas.Int.{ints}
use Rattle.hu_kind.specs.Record.{has, holds, items_in, values_of}
use Rattle.hu_kind.specs.Database.{support, items_of, utility}
use Rattle.hu_kind.specs.Itemsets.{sublists, occurring_sets}
use Rattle.hu_kind.specs.Order.{ranking, Ascend}
use Rattle.hu_kind.proofs.lemmas.Each.{each-weaker}
use Rattle.hu_kind.proofs.lemmas.Members.{Member, Member-append_left, Member-append_right, Member-append_cases, Member-map, Member-from_map, Member-flat_map}
use Rattle.hu_kind.proofs.lemmas.Members.{Member-filter, Member-from_filter}

-- what holds of each element holds of a member
pub at_member : {A : Type 0} (P : A → Type 0) (x : A) (xs : List A) → AllByRecursion P xs → Member x xs → P x
at_member P x [] all m = absurd m
at_member P x (y ∷ ys) all (inl e) = subst P e all.0
at_member P x (y ∷ ys) all (inr m) = at_member P x ys all.1 m

-- and what holds of each member holds of each element
pub by_members : {A : Type 0} (P : A → Type 0) (xs : List A) → ((x : A) → Member x xs → P x) → AllByRecursion P xs
by_members P [] each = tt
by_members P (x ∷ xs) each = (each x (inl refl), by_members P xs (λ y m. each y (inr m)))

-- an ascending list with a number put in
insert_key-cases : (x y : ℕ) (xs : List ℕ) (o : Ordering) → MatchOrdering o (x < y) (x ≡ y) (y < x) → Ascend (y ∷ xs)
    → ((P : ℕ → Type 0) → P x → AllByRecursion P xs → AllByRecursion P (insert_key nat_cmp xs x)) → Ascend (insert_key nat_cmp xs x)
    → Ascend (match_ordering o (x ∷ y ∷ xs) (y ∷ xs) (y ∷ insert_key nat_cmp xs x))
insert_key-cases x y xs Less below up each ih = (
  (below, by_members (λ z. x < z) xs (λ z m. let later : y < z = at_member (λ w. y < w) z xs up.0 m in omega arith)),
  up,
)
insert_key-cases x y xs Equal same up each ih = up
insert_key-cases x y xs Greater above up each ih = (each (λ z. y < z) above up.0, ih)

each-insert_key-cases : (P : ℕ → Type 0) (x y : ℕ) (xs : List ℕ) (o : Ordering) → P x → AllByRecursion P (y ∷ xs) → AllByRecursion P (insert_key nat_cmp xs x)
    → AllByRecursion P (match_ordering o (x ∷ y ∷ xs) (y ∷ xs) (y ∷ insert_key nat_cmp xs x))
each-insert_key-cases P x y xs Less h all ih = (h, all)
each-insert_key-cases P x y xs Equal h all ih = all
each-insert_key-cases P x y xs Greater h all ih = (all.0, ih)

each-insert_key : (P : ℕ → Type 0) (x : ℕ) (xs : List ℕ) → P x → AllByRecursion P xs → AllByRecursion P (insert_key nat_cmp xs x)
each-insert_key P x [] h all = (h, tt)
each-insert_key P x (y ∷ ys) h all = each-insert_key-cases P x y ys (nat_cmp x y) h all (each-insert_key P x ys h all.1)

Ascend-insert_key : (x : ℕ) (xs : List ℕ) → Ascend xs → Ascend (insert_key nat_cmp xs x)
Ascend-insert_key x [] up = (tt, tt)
Ascend-insert_key x (y ∷ ys) up =
    insert_key-cases x y ys (nat_cmp x y) (ranked x y (nat_cmp x y) refl) up (λ P h all. each-insert_key P x ys h all)
    (Ascend-insert_key x ys up.1)

pub Ascend-ranking : (xs : List ℕ) → Ascend (ranking nat_cmp xs)
Ascend-ranking [] = tt
Ascend-ranking (x ∷ xs) = Ascend-insert_key x (ranking nat_cmp xs) (Ascend-ranking xs)

-- a ranking has the members of its list
Member-insert_key-cases : (z x y : ℕ) (xs : List ℕ) (o : Ordering) → MatchOrdering o (x < y) (x ≡ y) (y < x)
    → (Member z (x ∷ xs) → Member z (insert_key nat_cmp xs x))
    → Member z (x ∷ y ∷ xs) → Member z (match_ordering o (x ∷ y ∷ xs) (y ∷ xs) (y ∷ insert_key nat_cmp xs x))
Member-insert_key-cases z x y xs Less h ih m = m
Member-insert_key-cases z x y xs Equal h ih (inl e) = inl (sym h ∙ e)
Member-insert_key-cases z x y xs Equal h ih (inr m) = m
Member-insert_key-cases z x y xs Greater h ih (inl e) = inr (ih (inl e))
Member-insert_key-cases z x y xs Greater h ih (inr (inl e)) = inl e
Member-insert_key-cases z x y xs Greater h ih (inr (inr m)) = inr (ih (inr m))

Member-insert_key : (z x : ℕ) (xs : List ℕ) → Member z (x ∷ xs) → Member z (insert_key nat_cmp xs x)
Member-insert_key z x [] m = m
Member-insert_key z x (y ∷ ys) m = Member-insert_key-cases z x y ys (nat_cmp x y) (ranked x y (nat_cmp x y) refl) (Member-insert_key z x ys) m

pub Member-ranking : (z : ℕ) (xs : List ℕ) → Member z xs → Member z (ranking nat_cmp xs)
Member-ranking z [] m = m
Member-ranking z (x ∷ xs) (inl e) = Member-insert_key z x (ranking nat_cmp xs) (inl e)
Member-ranking z (x ∷ xs) (inr m) = Member-insert_key z x (ranking nat_cmp xs) (inr (Member-ranking z xs m))

pub each-ranking : (P : ℕ → Type 0) (xs : List ℕ) → AllByRecursion P xs → AllByRecursion P (ranking nat_cmp xs)
each-ranking P [] all = tt
each-ranking P (x ∷ xs) all = each-insert_key P x (ranking nat_cmp xs) all.0 (each-ranking P xs all.1)

-- the sublists of an ascending list are its ascending lists of members
pub each-sublist : (P : ℕ → Type 0) (xs s : List ℕ) → AllByRecursion P xs → Member s (sublists xs) → AllByRecursion P s
each-sublist P [] s all (inl e) = subst (AllByRecursion P) e tt
each-sublist P [] s all (inr m) = absurd m
each-sublist P (x ∷ xs) s all m = elim (Member-append_cases s (sublists xs) (map (λ r. x ∷ r) (sublists xs)) m) [
  | inl a ↦ each-sublist P xs s all.1 a
  | inr b ↦ let from =
      Member-from_map (λ (r : List ℕ). x ∷ r) s (sublists xs) b in subst (AllByRecursion P) from.2
      (all.0, each-sublist P xs from.0 all.1 from.1)
]

pub Ascend-sublist : (xs s : List ℕ) → Ascend xs → Member s (sublists xs) → Ascend s
Ascend-sublist [] s up (inl e) = subst Ascend e tt
Ascend-sublist [] s up (inr m) = absurd m
Ascend-sublist (x ∷ xs) s up m = elim (Member-append_cases s (sublists xs) (map (λ r. x ∷ r) (sublists xs)) m) [
  | inl a ↦ Ascend-sublist xs s up.1 a
  | inr b ↦ let from =
      Member-from_map (λ (r : List ℕ). x ∷ r) s (sublists xs) b in subst Ascend from.2
      (each-sublist (λ y. x < y) xs from.0 up.0 from.1, Ascend-sublist xs from.0 up.1 from.1)
]

-- a list whose members are above x, each a member of x and xs, has its members in xs
tail_members : (x : ℕ) (xs s : List ℕ) → AllByRecursion (λ y. x < y) s → AllByRecursion (λ y. Member y (x ∷ xs)) s → AllByRecursion (λ y. Member y xs) s
tail_members x xs [] up all = tt
tail_members x xs (y ∷ ys) up (inl e, rest) = absurd (omega arith)
tail_members x xs (y ∷ ys) up (inr m, rest) = (m, tail_members x xs ys up.1 rest)

pub above_all : (x y : ℕ) (s : List ℕ) → x < y → AllByRecursion (λ z. y < z) s → AllByRecursion (λ z. x < z) s
above_all x y [] h all = tt
above_all x y (z ∷ s) h all = (omega arith, above_all x y s h all.1)

pub Member-sublists : (xs s : List ℕ) → Ascend xs → Ascend s → AllByRecursion (λ y. Member y xs) s → Member s (sublists xs)
Member-sublists [] [] up rise all = inl refl
Member-sublists [] (y ∷ ys) up rise all = absurd all.0
Member-sublists (x ∷ xs) [] up rise all = Member-append_left [] (sublists xs) (map (λ r. x ∷ r) (sublists xs)) (Member-sublists xs [] up.1 tt tt)
Member-sublists (x ∷ xs) (y ∷ ys) up rise (inl e, rest) =
    let above : AllByRecursion (λ z. x < z) ys = subst (λ w. AllByRecursion (λ z. w < z) ys) (sym e) rise.0 in
    let m : Member ys (sublists xs) = Member-sublists xs ys up.1 rise.1 (tail_members x xs ys above rest) in
    Member-append_right (y ∷ ys) (sublists xs) (map (λ r. x ∷ r) (sublists xs))
    (subst (λ w. Member (w ∷ ys) (map (λ r. x ∷ r) (sublists xs))) e (Member-map (λ r. x ∷ r) ys (sublists xs) m))
Member-sublists (x ∷ xs) (y ∷ ys) up rise (inr m, rest) =
    let low : x < y = at_member (λ w. x < w) y xs up.0 m in
    let above : AllByRecursion (λ z. x < z) (y ∷ ys) = (low, above_all x y ys low rise.0) in
    Member-append_left (y ∷ ys) (sublists xs) (map (λ r. x ∷ r) (sublists xs))
    (Member-sublists xs (y ∷ ys) up.1 rise (tail_members x xs (y ∷ ys) above (inr m, rest)))

-- a count above 0 has a member that passes
counted-cons : {A : Type 0} (p : A → Bool) (x : A) (xs : List A) (b : Bool) → p x ≡ b → 0 < cond b 1 0 + count_by p xs
    → (0 < count_by p xs → (y : A) × Member y xs × (p y ≡ true)) → (y : A) × Member y (x ∷ xs) × (p y ≡ true)
counted-cons p x xs true e h ih = (x, inl refl, e)
counted-cons p x xs false e h ih = let r = ih (omega arith) in (r.0, inr r.1, r.2)

pub counted : {A : Type 0} (p : A → Bool) (xs : List A) → 0 < count_by p xs → (x : A) × Member x xs × (p x ≡ true)
counted p [] h = absurd (omega arith)
counted p (x ∷ xs) h = counted-cons p x xs (p x) refl (omega (arith, sum_by-cons (λ y. cond (p y) 1 0) x xs)) (counted p xs)

count-cons_true : {A : Type 0} (p : A → Bool) (x y : A) → x ≡ y → p y ≡ true → ◌≡◌ {A = ℕ} (cond (p x) 1 0) 1
count-cons_true p x y e h = let same : p x ≡ true = ap p e ∙ h in rw same refl

pub count-member : {A : Type 0} (p : A → Bool) (x : A) (xs : List A) → Member x xs → p x ≡ true → 0 < count_by p xs
count-member p x [] m h = absurd m
count-member p x (y ∷ ys) (inl e) h = omega (arith, sum_by-cons (λ z. cond (p z) 1 0) y ys, count-cons_true p y x e h)
count-member p x (y ∷ ys) (inr m) h = omega (arith, sum_by-cons (λ z. cond (p z) 1 0) y ys, count-member p x ys m h)

-- a record has the items of its cells
pub has-member : (item : ℕ) (cells : List (ℕ × ℤ)) → has item cells ≡ true → Member item (items_in cells)
has-member item [] h = cc
has-member item (cell ∷ cells) h = elim (or_cases (eqb item cell.0) (has item cells) h) [
  | inl e ↦ inl (sym (eqb-true item cell.0 e))
  | inr r ↦ inr (has-member item cells r)
]

pub holds-members : (items : List ℕ) (cells : List (ℕ × ℤ)) → holds items cells ≡ true → AllByRecursion (λ item. Member item (items_in cells)) items
holds-members [] cells h = tt
holds-members (item ∷ items) cells h =
    let both = and_parts (has item cells) (holds items cells) h in
    (has-member item cells both.0, holds-members items cells both.1)

-- a set occurs: it has an item, its items ascend, and some record holds it
pub record Occurs (records : List (List (ℕ × ℤ))) (items : List ℕ) : Type 0 where
  pub some : 0 < length items
  pub ascending : Ascend items
  pub held : 0 < support records items

-- the items of a set that some record holds occur
pub held-members : (records : List (List (ℕ × ℤ))) (items : List ℕ) → 0 < support records items
    → AllByRecursion (λ item. Member item (flat_map items_in records)) items
held-members records items h =
    let found = counted (holds items) records h in
    each-weaker (λ item. Member item (items_in found.0)) (λ item. Member item (flat_map items_in records)) items
    (λ item m. Member-flat_map items_in found.0 item records found.1 m)
    (holds-members items found.0 found.2)

pub Occurs-from_member : (records : List (List (ℕ × ℤ))) (items : List ℕ) → Member items (occurring_sets records) → Occurs records items
Occurs-from_member records items m =
    let found = Member-from_filter (λ s. nat_lt 0 (length s) && nat_lt 0 (support records s)) items (sublists (items_of records)) m in
    let both = and_parts (nat_lt 0 (length items)) (nat_lt 0 (support records items)) found.1 in
    record {
      some = ltb-true 0 (length items) both.0;
      ascending = Ascend-sublist (items_of records) items (Ascend-ranking (flat_map items_in records)) found.0;
      held = ltb-true 0 (support records items) both.1;
    }

pub Member-from_occurs : (records : List (List (ℕ × ℤ))) (items : List ℕ) → Occurs records items → Member items (occurring_sets records)
Member-from_occurs records items o =
    let all = each-weaker (λ item. Member item (flat_map items_in records)) (λ item. Member item (items_of records)) items
    (λ item m. Member-ranking item (flat_map items_in records) m)
    (held-members records items o.held) in
    Member-filter (λ s. nat_lt 0 (length s) && nat_lt 0 (support records s)) items (sublists (items_of records))
    (Member-sublists (items_of records) items (Ascend-ranking (flat_map items_in records)) o.ascending all)
    (and_from (nat_lt 0 (length items)) (nat_lt 0 (support records items)) (lt-ltb 0 (length items) o.some) (lt-ltb 0 (support records items) o.held))

pub eqb-flips : (x y : ℕ) → nat_eq x y ≡ nat_eq y x
eqb-flips x y = elim (cases_eq x y) [
  | inl e ↦ eq-eqb x y e ∙ sym (eq-eqb y x (sym e))
  | inr ne ↦ ne_eqb x y ne ∙ sym (ne_eqb y x (λ e. ne (sym e)))
]

-- cells have the items that stand among them
pub has-from_member : (item : ℕ) (cells : List (ℕ × ℤ)) → Member item (items_in cells) → has item cells ≡ true
has-from_member item [] m = absurd m
has-from_member item (cell ∷ cells) (inl e) = or_left (eqb item cell.0) (has item cells) (eq-eqb item cell.0 (sym e))
has-from_member item (cell ∷ cells) (inr m) = or_right (eqb item cell.0) (has item cells) (has-from_member item cells m)

pub holds-all : (items : List ℕ) (cells : List (ℕ × ℤ)) → AllByRecursion (λ item. Member item (items_in cells)) items → holds items cells ≡ true
holds-all [] cells all = refl
holds-all (item ∷ items) cells all = and_from (has item cells) (holds items cells) (has-from_member item cells all.0) (holds-all items cells all.1)

pub holds-append : (set more : List ℕ) (cells : List (ℕ × ℤ)) → holds (set ++ more) cells ≡ (holds set cells && holds more cells)
holds-append [] more cells = refl
holds-append (s ∷ ss) more cells = by (has s cells) (holds-append ss more cells)
  where
    by : (b : Bool) → holds (ss ++ more) cells ≡ (holds ss cells && holds more cells) → (b && holds (ss ++ more) cells)
        ≡ ((b && holds ss cells) && holds more cells)
    by true ih = ih
    by false ih = refl

pub values_of-append : (set more : List ℕ) (cells : List (ℕ × ℤ)) → values_of (set ++ more) cells ≡ values_of set cells +ℤ values_of more cells
values_of-append [] more cells = omega (arith, ints)
values_of-append (s ∷ ss) more cells = let ih = values_of-append ss more cells in omega (arith, ints)

pub holds-none : (set : List ℕ) → 0 < length set → holds set [] ≡ false
holds-none [] some = absurd (omega arith)
holds-none (x ∷ xs) some = refl

-- a set that no record holds earns nothing
pub utility-unheld : (records : List (List (ℕ × ℤ))) (set : List ℕ) → support records set ≡ 0 → utility records set ≡ pos 0
utility-unheld [] set none = refl
utility-unheld (r ∷ rs) set none = by (holds set r) (sym (sum_by-cons (λ c. cond (holds set c) 1 0) r rs) ∙ none) (utility-unheld rs set)
  where
    by : (b : Bool) → cond b 1 0 + support rs set ≡ 0 → (support rs set ≡ 0 → utility rs set ≡ pos 0)
        → cond b (values_of set r) (pos 0) +ℤ utility rs set ≡ pos 0
    by true h ih = absurd (omega arith)
    by false h ih = let rest = ih (omega arith) in omega (arith, ints)
