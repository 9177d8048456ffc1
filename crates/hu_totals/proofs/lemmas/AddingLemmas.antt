-- A record added to the totals of some records makes the totals of these and the record.
use Rattle.std.proofs.Common.{◌≡◌, ◌≢◌, ℕ, ◌<◌, ◌+◌, Bool, true, false, not, cond, eqb, nat_eq, ◌&&◌, ℤ, pos, ◌+ℤ◌}
use Rattle.std.proofs.Common.{List, [], ◌∷◌, ◌++◌, map, filter, fold, refl, sym, ap, ◌∙◌, subst, inl, inr, ◌⊎◌, arith}
use Rattle.std.proofs.Common.{flat_map, append_assoc, append-nil}
use Rattle.std.specs.List.{AllByRecursion}
use Rattle.std.proofs.lemmas.Int.{ints}
use Rattle.std.proofs.lemmas.Bool.{eq-eqb, ne_eqb, cases_eq}
use Rattle.std.proofs.lemmas.List.Sums.{sum_by-cons, sum_by-append}
use Rattle.indexmap.specs.IndexMap.{insert_entry}
use Rattle.hu_kind.specs.Order.{Ascend}
use Rattle.hu_kind.specs.Record.{has, holds, value_of, utility_in, positive_part, gain, items_in}
use Rattle.hu_kind.specs.Database.{utility, support, twu}
use Rattle.hu_kind.proofs.lemmas.Members.{Member, Member-append_left, Member-append_right, Member-filter, Member-from_filter}
use Rattle.hu_totals.specs.declared.totals.ItemTotal.{ItemTotal}
use Rattle.hu_totals.specs.Totals.{positive, first_seen, total_of, item_totals}
use Rattle.hu_totals.specs.Adding.{no_total, total_in, grown, with_cell, with_record}
use Rattle.hu_totals.proofs.lemmas.RecordCells.{has-below, value_of-absent}
use Rattle.hu_totals.proofs.lemmas.SortedLists.{Once}

-- ---- a key put to keys, at its place or last

put_key : List ℕ → ℕ → List ℕ
put_key [] k = k ∷ []
put_key (x ∷ xs) k = cond (eqb k x) (x ∷ xs) (x ∷ put_key xs k)

Member-from_put_key : (x k : ℕ) (xs : List ℕ) → Member x (put_key xs k) → (k ≡ x) ⊎ Member x xs
unfolding put_key
Member-from_put_key x k [] (inl e) = inl e
Member-from_put_key x k [] (inr m) = absurd m
Member-from_put_key x k (y ∷ ys) m = by (eqb k y) (Member-from_put_key x k ys) m
  where
    by : (b : Bool) → (Member x (put_key ys k) → (k ≡ x) ⊎ Member x ys) → Member x (cond b (y ∷ ys) (y ∷ put_key ys k)) → (k ≡ x) ⊎ Member x (y ∷ ys)
    by true ih m' = inr m'
    by false ih (inl e) = inr (inl e)
    by false ih (inr m') = elim (ih m') [ inl e ↦ inl e | inr n ↦ inr (inr n) ]

Member-put_key : (x k : ℕ) (xs : List ℕ) → (k ≡ x) ⊎ Member x xs → Member x (put_key xs k)
unfolding put_key
Member-put_key x k [] (inl e) = inl e
Member-put_key x k [] (inr m) = absurd m
Member-put_key x k (y ∷ ys) m = elim (cases_eq k y) [
  | inl e ↦ let yes : eqb k y ≡ true = eq-eqb k y e in rw yes (here e m)
  | inr ne ↦ let no : eqb k y ≡ false = ne_eqb k y ne in rw no (later (Member-put_key x k ys) m)
]
  where
    here : k ≡ y → (k ≡ x) ⊎ Member x (y ∷ ys) → Member x (y ∷ ys)
    here e (inl same) = inl (sym e ∙ same)
    here e (inr m') = m'

    later : ((k ≡ x) ⊎ Member x ys → Member x (put_key ys k)) → (k ≡ x) ⊎ Member x (y ∷ ys) → Member x (y ∷ put_key ys k)
    later ih (inl same) = inr (ih (inl same))
    later ih (inr (inl same)) = inl same
    later ih (inr (inr m')) = inr (ih (inr m'))

Once-put_key : (k : ℕ) (xs : List ℕ) → Once xs → Once (put_key xs k)
unfolding put_key
Once-put_key k [] o = (λ m. m, tt)
Once-put_key k (x ∷ xs) o = elim (cases_eq k x) [
  | inl e ↦ let yes : eqb k x ≡ true = eq-eqb k x e in rw yes o
  | inr ne ↦ let no : eqb k x ≡ false =
      ne_eqb k x ne in rw no (
        λ m. elim (Member-from_put_key x k xs m) [ inl e ↦ ne e | inr n ↦ o.0 n ],
        Once-put_key k xs o.1,
      )
]

Once-fold : (ks xs : List ℕ) → Once xs → Once (fold put_key xs ks)
Once-fold [] xs o = o
Once-fold (k ∷ ks) xs o = Once-fold ks (put_key xs k) (Once-put_key k xs o)

-- ---- the numbers of a list, each where it stands first

filter-put_key_yes : (p : ℕ → Bool) (k : ℕ) (xs : List ℕ) → p k ≡ true → filter p (put_key xs k) ≡ put_key (filter p xs) k
unfolding put_key
filter-put_key_yes p k [] keeps = rw keeps refl
filter-put_key_yes p k (x ∷ xs) keeps = elim (cases_eq k x) [
  | inl e ↦ let here : eqb k x ≡ true = eq-eqb k x e in let passes : p x ≡ true = ap p (sym e) ∙ keeps in simp (here, passes)
  | inr ne ↦ let other : eqb k x ≡ false = ne_eqb k x ne in let ih = filter-put_key_yes p k xs keeps in rw other (by (p x) ih other)
]
  where
    by : (b : Bool) → filter p (put_key xs k) ≡ put_key (filter p xs) k → eqb k x ≡ false
        → cond b (x ∷ filter p (put_key xs k)) (filter p (put_key xs k))
        ≡ put_key (cond b (x ∷ filter p xs) (filter p xs)) k
    by true ih other = rw other (ap (λ ys. x ∷ ys) ih)
    by false ih other = ih

filter-put_key_no : (p : ℕ → Bool) (k : ℕ) (xs : List ℕ) → p k ≡ false → filter p (put_key xs k) ≡ filter p xs
unfolding put_key
filter-put_key_no p k [] drops = rw drops refl
filter-put_key_no p k (x ∷ xs) drops = elim (cases_eq k x) [
  | inl e ↦ let here : eqb k x ≡ true = eq-eqb k x e in rw here refl
  | inr ne ↦ let other : eqb k x ≡ false = ne_eqb k x ne in rw other (ap (λ ys. cond (p x) (x ∷ ys) ys) (filter-put_key_no p k xs drops))
]

first_seen-push : (xs : List ℕ) (k : ℕ) → first_seen (xs ++ k ∷ []) ≡ put_key (first_seen xs) k
unfolding put_key
first_seen-push [] k = refl
first_seen-push (x ∷ xs) k =
    let ih = ap (λ ys. x ∷ filter (λ y. not (eqb y x)) ys) (first_seen-push xs k) in
    elim (cases_eq k x) [
      | inl e ↦
          let here : eqb k x ≡ true = eq-eqb k x e in
          let out : not (eqb k x) ≡ false = ap not here in
          rw here (ih ∙ ap (λ ys. x ∷ ys) (filter-put_key_no (λ y. not (eqb y x)) k (first_seen xs) out))
      | inr ne ↦
          let other : eqb k x ≡ false = ne_eqb k x ne in
          let passes : not (eqb k x) ≡ true = ap not other in
          rw other (ih ∙ ap (λ ys. x ∷ ys) (filter-put_key_yes (λ y. not (eqb y x)) k (first_seen xs) passes))
    ]

first_seen-append : (xs ks : List ℕ) → first_seen (xs ++ ks) ≡ fold put_key (first_seen xs) ks
first_seen-append xs [] = ap first_seen (append-nil xs)
first_seen-append xs (k ∷ ks) =
    ap first_seen (sym (append_assoc xs (k ∷ []) ks))
    ∙ first_seen-append (xs ++ k ∷ []) ks
    ∙ ap (λ ys. fold put_key ys ks) (first_seen-push xs k)

pub Once-first_seen : (xs : List ℕ) → Once (first_seen xs)
Once-first_seen xs = subst Once (sym (first_seen-append [] xs)) (Once-fold xs [] tt)

pub Member-first_seen : (k : ℕ) (xs : List ℕ) → Member k xs → Member k (first_seen xs)
Member-first_seen k [] m = absurd m
Member-first_seen k (x ∷ xs) (inl e) = inl e
Member-first_seen k (x ∷ xs) (inr m) = elim (cases_eq k x) [
  | inl e ↦ inl (sym e)
  | inr ne ↦ inr (Member-filter (λ y. not (eqb y x)) k (first_seen xs) (Member-first_seen k xs m) (ap not (ne_eqb k x ne)))
]

pub Member-from_first_seen : (k : ℕ) (xs : List ℕ) → Member k (first_seen xs) → Member k xs
Member-from_first_seen k [] m = absurd m
Member-from_first_seen k (x ∷ xs) (inl e) = inl e
Member-from_first_seen k (x ∷ xs) (inr m) = inr (Member-from_first_seen k xs (Member-from_filter (λ y. not (eqb y x)) k (first_seen xs) m).0)

-- ---- keys with what a function gives each

abbrev tabled : (ℕ → ItemTotal) → List ℕ → List (ℕ × ItemTotal)
tabled f keys = map (λ item. (item, f item)) keys

tabled-same : (f f' : ℕ → ItemTotal) (keys : List ℕ) → ((i : ℕ) → Member i keys → f i ≡ f' i) → tabled f keys ≡ tabled f' keys
tabled-same f f' [] same = refl
tabled-same f f' (k ∷ keys) same = let head = same k (inl refl) in let rest = tabled-same f f' keys (λ i m. same i (inr m)) in cc

total_in-tabled : (f : ℕ → ItemTotal) (keys : List ℕ) (k : ℕ) → ((Member k keys → ⊥) → f k ≡ no_total) → total_in (tabled f keys) k ≡ f k
total_in-tabled f [] k absent = sym (absent (λ m. m))
total_in-tabled f (x ∷ xs) k absent = elim (cases_eq k x) [
  | inl e ↦ let yes : eqb k x ≡ true = eq-eqb k x e in rw yes (ap f (sym e))
  | inr ne ↦ let no : eqb k x ≡ false = ne_eqb k x ne in rw no (total_in-tabled f xs k (λ out. absent (λ m. elim m [ inl e ↦ ne (sym e) | inr n ↦ out n ])))
]

insert-tabled : (f f' : ℕ → ItemTotal) (keys : List ℕ) (k : ℕ) (total : ItemTotal) → Once keys → f' k ≡ total → ((i : ℕ) → i ≢ k → f' i ≡ f i)
    → insert_entry nat_eq (tabled f keys) k total ≡ tabled f' (put_key keys k)
unfolding put_key
insert-tabled f f' [] k total o here other = ap (λ t. (k, t) ∷ []) (sym here)
insert-tabled f f' (x ∷ xs) k total o here other = elim (cases_eq k x) [
  | inl e ↦
      let yes : eqb k x ≡ true = eq-eqb k x e in
      let head : total ≡ f' x = sym here ∙ ap f' e in
      let rest : tabled f xs ≡ tabled f' xs = tabled-same f f' xs (λ i m. sym (other i (λ same. o.0 (subst (λ z. Member z xs) (same ∙ e) m)))) in
      rw yes (cc)
  | inr ne ↦
      let no : eqb k x ≡ false = ne_eqb k x ne in
      let head : f x ≡ f' x = sym (other x (λ same. ne (sym same))) in
      let rest = insert-tabled f f' xs k total o.1 here other in
      rw no (cc)
]

-- ---- a record's cells, one by one

bump : (ℕ → ItemTotal) → ℤ → ℕ × ℤ → ℕ → ItemTotal
bump f gained cell item = cond (eqb item cell.0) (grown (f cell.0) cell.1 gained) (f item)

bumps : (ℕ → ItemTotal) → ℤ → List (ℕ × ℤ) → ℕ → ItemTotal
bumps f gained [] = f
bumps f gained (cell ∷ cells) = bumps (bump f gained cell) gained cells

bump-here : (f : ℕ → ItemTotal) (gained : ℤ) (cell : ℕ × ℤ) (item : ℕ) → item ≡ cell.0 → bump f gained cell item ≡ grown (f item) cell.1 gained
unfolding bump
bump-here f gained cell item e = let yes : eqb item cell.0 ≡ true = eq-eqb item cell.0 e in rw yes (ap (λ i. grown (f i) cell.1 gained) (sym e))

bump-other : (f : ℕ → ItemTotal) (gained : ℤ) (cell : ℕ × ℤ) (item : ℕ) → item ≢ cell.0 → bump f gained cell item ≡ f item
unfolding bump
bump-other f gained cell item ne = let no : eqb item cell.0 ≡ false = ne_eqb item cell.0 ne in rw no refl

fold-with_cell : (gained : ℤ) (cells : List (ℕ × ℤ)) (f : ℕ → ItemTotal) (keys : List ℕ) → Once keys → ((i : ℕ) → (Member i keys → ⊥) → f i ≡ no_total)
    → fold (with_cell gained) (tabled f keys) cells ≡ tabled (bumps f gained cells) (fold put_key keys (items_in cells))
unfolding bumps
fold-with_cell gained [] f keys o absent = refl
fold-with_cell gained (cell ∷ cells) f keys o absent =
    let total = total_in-tabled f keys cell.0 (absent cell.0) in
    let step = insert-tabled f (bump f gained cell) keys cell.0 (grown (total_in (tabled f keys) cell.0) cell.1 gained) o
    (bump-here f gained cell cell.0 refl ∙ ap (λ t. grown t cell.1 gained) (sym total))
    (bump-other f gained cell) in
    ap (λ t. fold (with_cell gained) t cells) step
    ∙ fold-with_cell gained cells (bump f gained cell) (put_key keys cell.0) (Once-put_key cell.0 keys o)
    (λ i out. bump-other f gained cell i (λ same. out (Member-put_key i cell.0 keys (inl (sym same))))
    ∙ absent i (λ m. out (Member-put_key i cell.0 keys (inr m))))

bumps-at : (gained : ℤ) (cells : List (ℕ × ℤ)) (f : ℕ → ItemTotal) (item : ℕ) → Ascend (items_in cells)
    → bumps f gained cells item ≡ cond (has item cells) (grown (f item) (value_of item cells) gained) (f item)
unfolding bumps
bumps-at gained [] f item up = refl
bumps-at gained (cell ∷ cells) f item up =
    let ih = bumps-at gained cells (bump f gained cell) item up.1 in
    elim (cases_eq item cell.0) [
      | inl e ↦
          let yes : eqb item cell.0 ≡ true = eq-eqb item cell.0 e in
          let out : has item cells ≡ false = has-below item cells (subst (λ x. AllByRecursion (λ other. x < other) (items_in cells)) (sym e) up.0) in
          rw yes ((rw out at ih) ∙ bump-here f gained cell item e)
      | inr ne ↦
          let no : eqb item cell.0 ≡ false = ne_eqb item cell.0 ne in
          rw no (ih ∙ ap (λ t. cond (has item cells) (grown t (value_of item cells) gained) t) (bump-other f gained cell item ne))
    ]

-- ---- the total of an item with a record more

utility-push : (records : List (List (ℕ × ℤ))) (cells : List (ℕ × ℤ)) (items : List ℕ)
    → utility (records ++ cells ∷ []) items ≡ utility records items +ℤ utility_in items cells
utility-push [] cells items = omega (arith, ints)
utility-push (r ∷ rs) cells items = let ih = utility-push rs cells items in omega (arith, ints)

twu-push : (records : List (List (ℕ × ℤ))) (cells : List (ℕ × ℤ)) (items : List ℕ) → twu (records ++ cells ∷ []) items
    ≡ twu records items +ℤ cond (holds items cells) (gain cells) (pos 0)
twu-push [] cells items = omega (arith, ints)
twu-push (r ∷ rs) cells items = let ih = twu-push rs cells items in omega (arith, ints)

positive-push : (records : List (List (ℕ × ℤ))) (cells : List (ℕ × ℤ)) (item : ℕ)
    → positive (records ++ cells ∷ []) item ≡ positive records item +ℤ positive_part (value_of item cells)
positive-push [] cells item = omega (arith, ints)
positive-push (r ∷ rs) cells item = let ih = positive-push rs cells item in omega (arith, ints)

support-push : (records : List (List (ℕ × ℤ))) (cells : List (ℕ × ℤ)) (items : List ℕ)
    → support (records ++ cells ∷ []) items ≡ support records items + cond (holds items cells) 1 0
support-push records cells items = omega (arith, sum_by-append (λ r. cond (holds items r) 1 0) records (cells ∷ []))

pub same_total : (a a' b b' : ℤ) (n n' : ℕ) (d d' : ℤ) → a ≡ a' → b ≡ b' → n ≡ n' → d ≡ d'
    → ◌≡◌ {A = ItemTotal} record { utility = a; positive = b; support = n; twu = d } record { utility = a'; positive = b'; support = n'; twu = d' }
same_total a a' b b' n n' d d' p q r s = λ i. record { utility = p i; positive = q i; support = r i; twu = s i }

total_of-push : (records : List (List (ℕ × ℤ))) (cells : List (ℕ × ℤ)) (item : ℕ)
    → total_of (records ++ cells ∷ []) item ≡ cond (has item cells) (grown (total_of records item) (value_of item cells) (gain cells)) (total_of records item)
total_of-push records cells item =
    let u = utility-push records cells (item ∷ []) in
    let p = positive-push records cells item in
    let s = support-push records cells (item ∷ []) in
    let t = twu-push records cells (item ∷ []) in
    by (has item cells) refl u p s t
  where
    by : (b : Bool) → has item cells ≡ b
        → utility (records ++ cells ∷ []) (item ∷ []) ≡ utility records (item ∷ []) +ℤ cond (b && true) (value_of item cells +ℤ pos 0) (pos 0)
        → positive (records ++ cells ∷ []) item ≡ positive records item +ℤ positive_part (value_of item cells)
        → support (records ++ cells ∷ []) (item ∷ []) ≡ support records (item ∷ []) + cond (b && true) 1 0
        → twu (records ++ cells ∷ []) (item ∷ []) ≡ twu records (item ∷ []) +ℤ cond (b && true) (gain cells) (pos 0)
        → total_of (records ++ cells ∷ []) item ≡ cond b (grown (total_of records item) (value_of item cells) (gain cells)) (total_of records item)
    by true h u p s t = same_total _ _ _ _ _ _ _ _ (omega (arith, ints, u)) p s t
    by false h u p s t =
        let none : positive_part (value_of item cells) ≡ pos 0 = ap positive_part (value_of-absent item cells h) in
        same_total _ _ _ _ _ _ _ _ (omega (arith, ints, u)) (omega (arith, ints, p, none)) (omega (arith, s)) (omega (arith, ints, t))

-- ---- an item that doesn't occur has no total

has-member : (item : ℕ) (cells : List (ℕ × ℤ)) → (Member item (items_in cells) → ⊥) → has item cells ≡ false
has-member item [] out = refl
has-member item (cell ∷ cells) out =
    let no : eqb item cell.0 ≡ false = ne_eqb item cell.0 (λ e. out (inl (sym e))) in
    rw no (has-member item cells (λ m. out (inr m)))

total_of-absent : (records : List (List (ℕ × ℤ))) (item : ℕ) → (Member item (flat_map items_in records) → ⊥) → total_of records item ≡ no_total
total_of-absent [] item out = refl
total_of-absent (cells ∷ records) item out =
    let ih = total_of-absent records item (λ m. out (Member-append_right item (items_in cells) (flat_map items_in records) m)) in
    let no : has item cells ≡ false = has-member item cells (λ m. out (Member-append_left item (items_in cells) (flat_map items_in records) m)) in
    let s = sum_by-cons (λ r. cond (holds (item ∷ []) r) 1 0) cells records in
    let none : positive_part (value_of item cells) ≡ pos 0 = ap positive_part (value_of-absent item cells no) in
    same_total _ _ _ _ _ _ _ _
    (rw no (omega (arith, ints, ap (λ t. t.utility) ih)))
    (omega (arith, ints, none, ap (λ t. t.positive) ih))
    (s ∙ rw no (omega (arith, ap (λ t. t.support) ih)))
    (rw no (omega (arith, ints, ap (λ t. t.twu) ih)))

-- ---- the totals of records

item_totals-absent : (records : List (List (ℕ × ℤ))) (item : ℕ) → (Member item (first_seen (flat_map items_in records)) → ⊥) → total_of records item ≡ no_total
item_totals-absent records item out = total_of-absent records item (λ m. out (Member-first_seen item (flat_map items_in records) m))

-- what they say of an item
pub total_in-item_totals : (records : List (List (ℕ × ℤ))) (item : ℕ) → total_in (item_totals records) item ≡ total_of records item
total_in-item_totals records item = total_in-tabled (total_of records) (first_seen (flat_map items_in records)) item (item_totals-absent records item)

flat_map-push : (records : List (List (ℕ × ℤ))) (cells : List (ℕ × ℤ)) → flat_map items_in (records ++ cells ∷ []) ≡ flat_map items_in records ++ items_in cells
flat_map-push [] cells = append-nil (items_in cells)
flat_map-push (r ∷ rs) cells = ap (λ xs. items_in r ++ xs) (flat_map-push rs cells) ∙ sym (append_assoc (items_in r) (flat_map items_in rs) (items_in cells))

-- a record more
pub with_record-item_totals : (records : List (List (ℕ × ℤ))) (cells : List (ℕ × ℤ)) → Ascend (items_in cells)
    → with_record (item_totals records) cells ≡ item_totals (records ++ cells ∷ [])
with_record-item_totals records cells up =
    let seen = flat_map items_in records in
    let keys = sym (first_seen-append seen (items_in cells)) ∙ ap first_seen (sym (flat_map-push records cells)) in
    fold-with_cell (gain cells) cells (total_of records) (first_seen seen) (Once-first_seen seen) (item_totals-absent records)
    ∙ tabled-same (bumps (total_of records) (gain cells) cells) (total_of (records ++ cells ∷ [])) (fold put_key (first_seen seen) (items_in cells))
    (λ item m. bumps-at (gain cells) cells (total_of records) item up ∙ sym (total_of-push records cells item))
    ∙ ap (tabled (total_of (records ++ cells ∷ []))) keys
