-- What a collector of keys of some lengths makes of entries, and which keys it doesn't want.
use Rattle.std.proofs.Common.{◌≡◌, ℕ, ◌<◌, int_le, nat_le, Bool, true, false, cond, ◌&&◌, ℤ, ◌<ℤ◌, Option, List, [], ◌∷◌, ◌++◌, length, refl, sym, ap, ◌∙◌}
use Rattle.std.proofs.Common.{arith, filter}
use Rattle.std.proofs.lemmas.Bool.{and_left, and_right, lt-leb}
use Rattle.hu_kind.specs.declared.entry.Entry.{Entry}
use Rattle.hu_kind.specs.Order.{entry_cmp, ranking, cut}
use Rattle.hu_kind.specs.Itemsets.{item_patterns}
use Rattle.hu_totals.specs.Ranked.{Ranking, IsRanking}
use Rattle.hu_collect.specs.Rule.{Rule, passes}
use Rattle.hu_collect.specs.Ranks.{IsShut, key_of}
use Rattle.hu_collect.specs.State.{State, fresh, offered, floor_in, IsInOrder}
use Rattle.hu_collect.proofs.lemmas.Searching.{state-equal, offered-low}
use Rattle.hu_list.specs.Lengths.{WantsUpto}
use Rattle.hu_lengths.specs.Lengths.{has_length, of_lengths, sized_answer}
use Rattle.hu_lengths.specs.LengthsOnly.{sized_rule, sized_state, Leaves, MakesSized}
use Rattle.hu_lengths.proofs.lemmas.KeyLengths.{grown-longer, length-key_of}

module _ (short long : ℕ) where
  -- ---- entries that change nothing

  pub leaves-below : (inner : State) (entry : Entry) → IsInOrder inner → entry.utility <ℤ floor_in inner → Leaves (sized_state short long inner) entry
  leaves-below inner entry ordered low = offered-low (sized_state short long inner) entry (ap (sized_state short long) ordered) low

  -- ---- patterns

  passes-in : (w h l : Bool) → h ≡ true → ((w && h) && l) ≡ (w && l)
  passes-in true h l is = ap (λ b. b && l) is
  passes-in false h l is = refl

  passes-out : (w h l : Bool) → h ≡ false → ((w && h) && l) ≡ false
  passes-out w h l is = and_left (w && h) l (and_right w h is)

  filter-lengths : (inner : Rule) (es : List Entry) → filter (passes (sized_rule short long inner)) es ≡ filter (passes inner) (of_lengths short long es)
  filter-lengths inner [] = refl
  filter-lengths inner (e ∷ es) = by (has_length short long e.key) refl (filter-lengths inner es)
    where
      by : (b : Bool) → has_length short long e.key ≡ b
          → filter (passes (sized_rule short long inner)) es ≡ filter (passes inner) (of_lengths short long es)
          → filter (passes (sized_rule short long inner)) (e ∷ es) ≡ filter (passes inner) (cond b (e ∷ of_lengths short long es) (of_lengths short long es))
      by true is ih =
          let same = passes-in (inner.wants e.key) (has_length short long e.key) (int_le inner.start e.utility) is in
          (λ j. cond (same j) (e ∷ ih j) (ih j))
      by false is ih =
          let fails = passes-out (inner.wants e.key) (has_length short long e.key) (int_le inner.start e.utility) is in
          (λ j. cond (fails j) (e ∷ filter (passes (sized_rule short long inner)) es) (filter (passes (sized_rule short long inner)) es)) ∙ ih

  pub makes-sized : (inner : State) → MakesSized short long inner
  makes-sized inner patterns =
      state-equal refl (ap (λ entries. cut inner.rule.limit (ranking entry_cmp (inner.content ++ entries))) (filter-lengths inner.rule patterns))

  -- ---- keys that are not wanted

  -- where the inner rule wants none of them
  pub shut-inner : (inner : Rule) (key : List ℤ) (last : ℕ) → IsShut inner key last → IsShut (sized_rule short long inner) key last
  shut-inner inner key last none grown g = and_left (inner.wants grown) (has_length short long grown) (none grown g)

  too_long : (key : List ℤ) → long < length key → has_length short long key ≡ false
  too_long key over = and_right (nat_le short (length key)) (nat_le (length key) long) (lt-leb (length key) long over)

  -- where the key has too many numbers
  pub shut-long : (inner : Rule) (key : List ℤ) (last : ℕ) → long < length key → IsShut (sized_rule short long inner) key last
  shut-long inner key last over grown g =
      let longer = grown-longer inner.table key last grown g in
      and_right (inner.wants grown) (has_length short long grown) (too_long grown (omega (arith, over, longer)))

  -- no set of more ranks is wanted
  pub wants-upto : (inner : Rule) (r : Ranking) → IsRanking r → WantsUpto (sized_rule short long inner) r.items long
  wants-upto inner r rules set up within over =
      let key = key_of r.items set in
      let same = length-key_of r rules set up within in
      and_right (inner.wants key) (has_length short long key) (too_long key (omega (arith, over, same)))

-- ---- the answer under lengths

module _ {A : Type 0} (p : A → Bool) (x : A) (xs : List A) where
  filter-in : p x ≡ true → filter p (x ∷ xs) ≡ x ∷ filter p xs
  filter-in h = λ j. cond (h j) (x ∷ filter p xs) (filter p xs)

  filter-out : p x ≡ false → filter p (x ∷ xs) ≡ filter p xs
  filter-out h = λ j. cond (h j) (x ∷ filter p xs) (filter p xs)

pub filter-swap : {A : Type 0} (p q : A → Bool) (xs : List A) → filter p (filter q xs) ≡ filter q (filter p xs)
filter-swap p q [] = refl
filter-swap p q (x ∷ xs) = by (p x) (q x) refl refl (filter-swap p q xs)
  where
    by : (b c : Bool) → p x ≡ b → q x ≡ c → filter p (filter q xs) ≡ filter q (filter p xs)
        → filter p (filter q (x ∷ xs)) ≡ filter q (filter p (x ∷ xs))
    by true true e f ih =
        ap (filter p) (filter-in q x xs f) ∙ filter-in p x (filter q xs) e ∙ ap (λ t. x ∷ t) ih
        ∙ sym (ap (filter q) (filter-in p x xs e) ∙ filter-in q x (filter p xs) f)
    by true false e f ih = ap (filter p) (filter-out q x xs f) ∙ ih ∙ sym (ap (filter q) (filter-in p x xs e) ∙ filter-out q x (filter p xs) f)
    by false true e f ih = ap (filter p) (filter-in q x xs f) ∙ filter-out p x (filter q xs) e ∙ ih ∙ sym (ap (filter q) (filter-out p x xs e))
    by false false e f ih = ap (filter p) (filter-out q x xs f) ∙ ih ∙ sym (ap (filter q) (filter-out p x xs e))

-- offered all patterns, a fresh collector of keys of some lengths holds the answer
pub sized-answer : (records : List (List (ℕ × ℤ))) (least : ℤ) (top : Option ℕ) (short long : ℕ)
    → (offered (sized_state short long (fresh least top)) (item_patterns records)).content ≡ sized_answer records least top short long
sized-answer records least top short long =
    ap (λ es. cut top (ranking entry_cmp es))
    (filter-lengths short long (fresh least top).rule (item_patterns records)
    ∙ filter-swap (λ e. int_le least e.utility) (λ e. has_length short long e.key) (item_patterns records))
