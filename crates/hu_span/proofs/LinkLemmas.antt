-- Keys linked from the last one back.
use Rattle.std.proofs.Common.{◌≡◌, ◌≢◌, ℕ, zero, suc, ◌+◌, ◌-◌, ◌<◌, ◌≤◌, Bool, true, false, cond, eqb, List, [], ◌∷◌, ◌++◌, length, get_or, take, reverse}
use Rattle.std.proofs.Common.{◌%◌, ltb, set, replicate, refl, sym, ap, ◌∙◌, subst, arith, inl, inr, ◌⊎◌, length-append, append_assoc}
use Rattle.std.proofs.lemmas.Bool.{eq-eqb, ne_eqb, cases_eq, ltb-true, ltb-false}
use Rattle.std.proofs.lemmas.List.{append-nil, length-map, length-set, map-append, get_or-map, get_or-set_same, get_or-set_other, get_or_append_left}
use Rattle.std.proofs.lemmas.List.{reverse-append, take_all}
use Rattle.hu_span.specs.declared.mark.Mark.{Mark}
use Rattle.hu_span.specs.declared.links.Links.{Links}
use Rattle.hu_span.specs.declared.links.Numbers.{Numbers}
use Rattle.hu_span.specs.Links.{at, buckets, keys_of, picked, AreLinked, AreLinks, AreNumbers, IsAbsent, IsBack, IsNumber}
use Rattle.hu_span.specs.Mark.{marks_with}

-- ---- a key more

pub at-before : (keys : List ℕ) (key place : ℕ) → place < length keys → at (keys ++ key ∷ []) place ≡ at keys place
at-before keys key place within = get_or_append_left keys (key ∷ []) 0 place within

pub at-end : (keys : List ℕ) (key : ℕ) → at (keys ++ key ∷ []) (length keys) ≡ key
at-end [] key = refl
at-end (k ∷ keys) key = at-end keys key

more : (keys : List ℕ) (key : ℕ) → length (keys ++ key ∷ []) ≡ suc (length keys)
more keys key = omega (arith, length-append keys (key ∷ []))

-- what stands in front of a place stays
back-before : (keys : List ℕ) (key one upto place : ℕ) → place ≤ length keys → IsBack keys one upto place → IsBack (keys ++ key ∷ []) one upto place
back-before keys key one upto place inside back = record {
  within = back.within;
  none = λ later low high e. back.none later low high (sym (at-before keys key later (omega (arith, high, inside))) ∙ e);
  here = λ some. at-before keys key (upto - 1) (omega (arith, some, back.within, inside)) ∙ back.here some;
}

pub back-other : (keys : List ℕ) (key one upto : ℕ) → IsBack keys one upto (length keys) → key ≢ one
    → IsBack (keys ++ key ∷ []) one upto (length (keys ++ key ∷ []))
back-other keys key one upto back differs =
    let old = back-before keys key one upto (length keys) (omega arith) back in
    let size = more keys key in
    record {
      within = omega (arith, back.within, size);
      none = λ later low high e. elim (cases_eq later (length keys)) [
        | inl last ↦ differs (sym (at-end keys key) ∙ ap (at (keys ++ key ∷ [])) (sym last) ∙ e)
        | inr before ↦ old.none later low (omega (arith, high, size, before)) e
      ];
      here = old.here;
    }

pub back-same : (keys : List ℕ) (key : ℕ) → IsBack (keys ++ key ∷ []) key (length keys + 1) (length (keys ++ key ∷ []))
back-same keys key =
    let size = more keys key in
    let last : length keys + 1 - 1 ≡ length keys = omega arith in
    record {
      within = omega (arith, size);
      none = λ later low high e. absurd (omega (arith, low, high, size));
      here = λ some. ap (at (keys ++ key ∷ [])) last ∙ at-end keys key;
    }

pub linked-more : (keys olders : List ℕ) (key upto : ℕ) → AreLinked keys olders → IsBack keys key upto (length keys)
    → AreLinked (keys ++ key ∷ []) (olders ++ upto ∷ [])
linked-more keys olders key upto linked back = record {
  size = omega (arith, more keys key, more olders upto, linked.size);
  each = λ place within. elim (cases_eq place (length keys)) [
    | inl last ↦
        let k : at (keys ++ key ∷ []) place ≡ key = ap (at (keys ++ key ∷ [])) last ∙ at-end keys key in
        let o : at (olders ++ upto ∷ []) place ≡ upto = ap (at (olders ++ upto ∷ [])) (last ∙ sym linked.size) ∙ at-end olders upto in
        subst (λ p. IsBack (keys ++ key ∷ []) (at (keys ++ key ∷ []) place) (at (olders ++ upto ∷ []) place) p) (sym last)
        (subst (λ u. IsBack (keys ++ key ∷ []) (at (keys ++ key ∷ []) place) u (length keys)) (sym o)
        (subst (λ n. IsBack (keys ++ key ∷ []) n upto (length keys)) (sym k) (back-before keys key key upto (length keys) (omega arith) back)))
    | inr before ↦
        let low : place < length keys = omega (arith, within, more keys key, before) in
        let k = at-before keys key place low in
        let o = at-before olders upto place (omega (arith, low, linked.size)) in
        subst (λ u. IsBack (keys ++ key ∷ []) (at (keys ++ key ∷ []) place) u place) (sym o)
        (subst (λ n. IsBack (keys ++ key ∷ []) n (at olders place) place) (sym k) (back-before keys key (at keys place) (at olders place) place
        (omega (arith, low)) (linked.each place low)))
  ];
}

-- ---- what stands beside a key

module _ {A : Type 0} (item : ℕ) where
  skipped : (keys : List ℕ) (xs : List A) (upto top : ℕ) → upto ≤ top → ((later : ℕ) → upto ≤ later → later < top → at keys later ≢ item)
      → top ≤ length keys → picked item (take top keys) (take top xs) ≡ picked item (take upto keys) (take upto xs)
  skipped keys xs zero zero low none inside = refl
  skipped keys xs (suc upto) zero low none inside = absurd (omega arith)
  skipped [] xs upto (suc top) low none inside = absurd (omega arith)
  skipped (key ∷ keys) [] zero (suc top) low none inside = refl
  skipped (key ∷ keys) [] (suc upto) (suc top) low none inside = refl
  skipped (key ∷ keys) (x ∷ xs) zero (suc top) low none inside =
      let other : eqb item key ≡ false = ne_eqb item key (λ e. none 0 (omega arith) (omega arith) (sym e)) in
      let rest = picked item (take top keys) (take top xs) in
      ap (λ b. cond b (x ∷ rest) rest) other
      ∙ skipped keys xs zero top (omega arith) (λ later l h. none (suc later) (omega arith) (omega arith)) (omega arith)
  skipped (key ∷ keys) (x ∷ xs) (suc upto) (suc top) low none inside =
      let rest = skipped keys xs upto top (omega arith) (λ later l h. none (suc later) (omega arith) (omega arith)) (omega arith) in
      ap (λ ys. cond (eqb item key) (x ∷ ys) ys) rest

  -- what stands beside a key up to a place of it is what stands so in front of it, and its value
  back-with : (keys : List ℕ) (xs : List A) (place : ℕ) → place < length keys → length xs ≡ length keys → at keys place ≡ item → (d : A)
      → picked item (take (suc place) keys) (take (suc place) xs) ≡ picked item (take place keys) (take place xs) ++ get_or xs place d ∷ []
  back-with [] xs place inside size here d = absurd (omega (arith, inside))
  back-with (key ∷ keys) [] place inside size here d = absurd (omega (arith, size))
  back-with (key ∷ keys) (x ∷ xs) zero inside size here d =
      let same : eqb item key ≡ true = eq-eqb item key (sym here) in
      ap (λ b. cond b (x ∷ []) []) same
  back-with (key ∷ keys) (x ∷ xs) (suc place) inside size here d =
      let rest = back-with keys xs place (omega arith) (omega (arith, size)) here d in
      ap (λ ys. cond (eqb item key) (x ∷ ys) ys) rest ∙ out (eqb item key)
    where
      out : (b : Bool) → cond b (x ∷ picked item (take place keys) (take place xs) ++ get_or xs place d ∷ [])
          (picked item (take place keys) (take place xs) ++ get_or xs place d ∷ [])
          ≡ cond b (x ∷ picked item (take place keys) (take place xs)) (picked item (take place keys) (take place xs)) ++ get_or xs place d ∷ []
      out true = refl
      out false = refl

  -- values beside a key are left in front of a place, and the others were collected from the last one back
  pub record IsCollected (keys : List ℕ) (xs : List A) (upto : ℕ) (own : List A) : Type 0 where
    pub top : ℕ
    pub inside : top ≤ length keys
    pub back : IsBack keys item upto top
    pub whole : picked item (take top keys) (take top xs) ++ reverse own ≡ picked item keys xs

  module _ (keys : List ℕ) (xs : List A) (same_size : length xs ≡ length keys) where
    pub collected-none : (upto : ℕ) → IsBack keys item upto (length keys) → (own : List A) → own ≡ [] → IsCollected keys xs upto own
    collected-none upto back own none = record {
      top = length keys;
      inside = omega arith;
      back = back;
      whole = ap (λ ys. picked item (take (length keys) keys) (take (length keys) xs) ++ reverse ys) none
          ∙ append-nil (picked item (take (length keys) keys) (take (length keys) xs))
          ∙ (λ j. picked item (take_all (length keys) keys (omega arith) j) (take_all (length keys) xs (omega (arith, same_size)) j));
    }

    pub collected-next : (upto : ℕ) (own new : List A) (olders : List ℕ) → IsCollected keys xs upto own → 0 < upto → (d : A)
        → AreLinked keys olders → new ≡ own ++ get_or xs (upto - 1) d ∷ [] → IsCollected keys xs (at olders (upto - 1)) new
    collected-next upto own new olders is some d linked pushed =
        let back = is.back in
        let place : upto - 1 < length keys = omega (arith, some, back.within, is.inside) in
        let here = back.here some in
        let next = linked.each (upto - 1) place in
        let skip = skipped keys xs upto is.top back.within back.none is.inside in
        let one = get_or xs (upto - 1) d in
        let next_up : upto ≡ suc (upto - 1) = omega (arith, some) in
        let split = ap (λ k. picked item (take k keys) (take k xs)) next_up ∙ back-with keys xs (upto - 1) place same_size here d in
        let front = picked item (take (upto - 1) keys) (take (upto - 1) xs) in
        record {
          top = upto - 1;
          inside = omega (arith, place);
          back = subst (λ k. IsBack keys k (at olders (upto - 1)) (upto - 1)) here next;
          whole = ap (λ ys. front ++ reverse ys) pushed
              ∙ ap (λ ys. front ++ ys) (reverse-append own (one ∷ []))
              ∙ sym (append_assoc front (one ∷ []) (reverse own))
              ∙ ap (λ ys. ys ++ reverse own) (sym (skip ∙ split)) ∙ is.whole;
        }

    pub collected-all : (own : List A) → IsCollected keys xs 0 own → reverse own ≡ picked item keys xs
    collected-all own is =
        let back = is.back in
        ap (λ ys. ys ++ reverse own) (sym (skipped keys xs 0 is.top back.within back.none is.inside)) ∙ is.whole

-- marks beside their own items are those of an item
pub marks-picked : (item : ℕ) (marks : List Mark) → picked item (keys_of marks) marks ≡ marks_with item marks
marks-picked item [] = refl
marks-picked item (mark ∷ marks) = ap (λ ms. cond (eqb item mark.item.0) (mark ∷ ms) ms) (marks-picked item marks)

-- ---- an item among those of its remainder

-- the items in front of a place are left to be looked at
pub record IsSought (items : List ℕ) (room item upto : ℕ) : Type 0 where
  pub within : upto ≤ length items
  pub none : (later : ℕ) → upto ≤ later → later < length items → at items later ≢ item
  pub here : 0 < upto → at (buckets room items) (upto - 1) ≡ item % room

bucket-at : (room : ℕ) (items : List ℕ) (place : ℕ) → place < length items → at (buckets room items) place ≡ at items place % room
bucket-at room items place within = get_or-map (λ item. item % room) items place 0 0 within

bucket-differs : (room : ℕ) (items : List ℕ) (item later : ℕ) → later < length items → at (buckets room items) later ≢ item % room → at items later ≢ item
bucket-differs room items item later within differs e = differs (bucket-at room items later within ∙ ap (λ n. n % room) e)

pub sought-first : (items : List ℕ) (room item upto : ℕ) → IsBack (buckets room items) (item % room) upto (length items) → IsSought items room item upto
sought-first items room item upto back = record {
  within = back.within;
  none = λ later low high. bucket-differs room items item later high (back.none later low high);
  here = back.here;
}

pub sought-next : (items olders : List ℕ) (room item upto : ℕ) → IsSought items room item upto → 0 < upto → AreLinked (buckets room items) olders
    → at items (upto - 1) ≢ item → IsSought items room item (at olders (upto - 1))
sought-next items olders room item upto is some linked other =
    let size = length-map items (λ i. i % room) in
    let place : upto - 1 < length (buckets room items) = omega (arith, some, is.within, size) in
    let next = linked.each (upto - 1) place in
    let bucket = is.here some in
    record {
      within = omega (arith, next.within, is.within);
      none = λ later low high. elim (lt_or_le later (upto - 1)) [
        | inl before ↦ bucket-differs room items item later high (λ e. next.none later low before (e ∙ sym bucket))
        | inr past ↦ elim (cases_eq later (upto - 1)) [
          | inl same ↦ λ e. other (ap (at items) (sym same) ∙ e)
          | inr more ↦ is.none later (omega (arith, past, more, some)) high
        ]
      ];
      here = λ up. next.here up ∙ bucket;
    }
  where
    lt_or_le : (a b : ℕ) → (a < b) ⊎ (b ≤ a)
    lt_or_le a b = by (ltb a b) refl
      where
        by : (l : Bool) → ltb a b ≡ l → (a < b) ⊎ (b ≤ a)
        by true e = inl (ltb-true a b e)
        by false e = inr (ltb-false a b e)

pub absent-back : (keys : List ℕ) (key : ℕ) → IsAbsent keys key → IsBack keys key 0 (length keys)
absent-back keys key absent = record { within = omega arith; none = λ later low high. absent later high; here = λ some. absurd (omega (arith, some)) }

pub absent-sought : (items : List ℕ) (room item : ℕ) → IsSought items room item 0 → IsAbsent items item
absent-sought items room item is place within = is.none place (omega arith) within

-- ---- numbers

-- no items
pub numbers-none : (numbers : Numbers) (room : ℕ) → 0 < room → length numbers.heads.items ≡ room → ((b : ℕ) → at numbers.heads.items b ≡ 0)
    → numbers.items.items ≡ [] → numbers.olders.items ≡ [] → AreNumbers numbers
numbers-none numbers room some size zeros none olders =
    let n = length numbers.heads.items in
    let back : (b : ℕ) → IsBack (buckets n numbers.items.items) b (at numbers.heads.items b) (length numbers.items.items) = λ b.
    subst (λ items. IsBack (buckets n items) b (at numbers.heads.items b) (length items)) (sym none)
    (subst (λ u. IsBack [] b u 0) (sym (zeros b)) (absent-back [] b (λ place within. absurd (omega (arith, within))))) in
    record {
      room = omega (arith, some, size);
      linked = record {
        size = ap length olders ∙ ap (λ items. length (buckets n items)) (sym none);
        each = λ place within. absurd (let gone = ap (λ items. length (buckets n items)) none in omega (arith, within, gone));
      };
      heads = λ b within. back b;
    }

-- one more item
pub numbers-more : (old new : Numbers) (item b : ℕ) → AreNumbers old → b ≡ item % length old.heads.items → b < length old.heads.items
    → new.heads.items ≡ set old.heads.items b (length new.items.items) → new.items.items ≡ old.items.items ++ item ∷ []
    → new.olders.items ≡ old.olders.items ++ at old.heads.items b ∷ [] → AreNumbers new
numbers-more old new item b is bucket inside heads items olders =
    let room = length old.heads.items in
    let before = buckets room old.items.items in
    let size = length-map old.items.items (λ i. i % room) in
    let same : length new.heads.items ≡ room = ap length heads ∙ length-set old.heads.items b (length new.items.items) in
    let all : buckets (length new.heads.items) new.items.items ≡ before ++ b ∷ [] =
    ap (λ n. buckets n new.items.items) same ∙ ap (buckets room) items ∙ map-append (λ i. i % room) old.items.items (item ∷ [])
    ∙ ap (λ k. before ++ k ∷ []) (sym bucket) in
    let long : length new.items.items ≡ length (before ++ b ∷ []) = ap length items ∙ more old.items.items item ∙ ap suc (sym size) ∙ sym (more before b) in
    let back : IsBack before b (at old.heads.items b) (length before) =
    subst (IsBack before b (at old.heads.items b)) (sym size) (is.heads b inside) in
    record {
      room = omega (arith, is.room, same);
      linked = subst (λ ks. AreLinked ks new.olders.items) (sym all) (subst (AreLinked (before ++ b ∷ [])) (sym olders)
          (linked-more before old.olders.items b (at old.heads.items b) is.linked back));
      heads = λ c within. subst (λ ks. IsBack ks c (at new.heads.items c) (length new.items.items)) (sym all)
          (subst (λ n. IsBack (before ++ b ∷ []) c (at new.heads.items c) n) (sym long)
          (subst (λ hs. IsBack (before ++ b ∷ []) c (at hs c) (length (before ++ b ∷ []))) (sym heads) (here c (omega (arith, within, same)))));
    }
  where
    here : (c : ℕ) → c < length old.heads.items → IsBack (buckets (length old.heads.items) old.items.items ++ b ∷ []) c
        (at (set old.heads.items b (length new.items.items)) c) (length (buckets (length old.heads.items) old.items.items ++ b ∷ []))
    here c within =
        let room = length old.heads.items in
        let before = buckets room old.items.items in
        let size = length-map old.items.items (λ i. i % room) in
        elim (cases_eq c b) [
          | inl e ↦
              let now : at (set old.heads.items b (length new.items.items)) c ≡ length before + 1 =
              ap (at (set old.heads.items b (length new.items.items))) e ∙ get_or-set_same old.heads.items b (length new.items.items) 0 inside
              ∙ omega (arith, ap length items, more old.items.items item, size) in
              subst (λ u. IsBack (before ++ b ∷ []) c u (length (before ++ b ∷ []))) (sym now)
              (subst (λ k. IsBack (before ++ b ∷ []) k (length before + 1) (length (before ++ b ∷ []))) (sym e) (back-same before b))
          | inr ne ↦
              let now = get_or-set_other old.heads.items b c (length new.items.items) 0 ne in
              subst (λ u. IsBack (before ++ b ∷ []) c u (length (before ++ b ∷ []))) (sym now)
              (back-other before b c (at old.heads.items c) (subst (IsBack before c (at old.heads.items c)) (sym size) (is.heads c within)) (λ e. ne (sym e)))
        ]

pub at-zeros : (n b : ℕ) → at (replicate n 0) b ≡ 0
at-zeros zero b = refl
at-zeros (suc n) zero = refl
at-zeros (suc n) (suc b) = at-zeros n b

pub number-within : (items : List ℕ) (item place : ℕ) → IsNumber items item place → IsAbsent items item → ⊥
number-within items item place is absent = absent place is.within is.here

-- ---- links

pub links-none : (links : Links) → AreNumbers links.numbers → links.numbers.items.items ≡ [] → links.lasts.items ≡ [] → links.olders.items ≡ []
    → AreLinks links []
links-none links numbers none lasts olders =
    let n = ap length none in
    record {
      numbers = numbers;
      linked = record { size = ap length olders; each = λ place within. absurd (omega (arith, within)) };
      size = ap length lasts ∙ sym n;
      lasts = λ number within. absurd (omega (arith, within, n));
      some = λ number within. absurd (omega (arith, within, n));
      known = λ key absent place within. absurd (omega (arith, within));
      once = λ first second one two same. absurd (omega (arith, one, n));
    }

-- one more key of a known item
pub links-again : (old new : Links) (keys : List ℕ) (item number : ℕ) → AreLinks old keys → IsNumber old.numbers.items.items item number
    → new.numbers ≡ old.numbers → new.olders.items ≡ old.olders.items ++ at old.lasts.items number ∷ []
    → new.lasts.items ≡ set old.lasts.items number (length new.olders.items) → AreLinks new (keys ++ item ∷ [])
links-again old new keys item number is here same olders lasts =
    let items = old.numbers.items.items in
    let items_same : new.numbers.items.items ≡ items = ap (λ (n : Numbers). n.items.items) same in
    let linked = is.linked in
    let inside : number < length old.lasts.items = omega (arith, here.within, is.size) in
    let back = subst (λ k. IsBack keys k (at old.lasts.items number) (length keys)) here.here (is.lasts number here.within) in
    let long : length new.olders.items ≡ length keys + 1 = ap length olders ∙ more old.olders.items (at old.lasts.items number) ∙ omega (arith, linked.size) in
    record {
      numbers = subst AreNumbers (sym same) is.numbers;
      linked = subst (AreLinked (keys ++ item ∷ [])) (sym olders) (linked-more keys old.olders.items item (at old.lasts.items number) linked back);
      size = ap length lasts ∙ length-set old.lasts.items number (length new.olders.items) ∙ is.size ∙ ap length (sym items_same);
      lasts = λ n within. subst (λ its. IsBack (keys ++ item ∷ []) (at its n) (at new.lasts.items n) (length (keys ++ item ∷ []))) (sym items_same)
          (subst (λ ls. IsBack (keys ++ item ∷ []) (at items n) (at ls n) (length (keys ++ item ∷ []))) (sym lasts)
          (turn n (omega (arith, within, ap length items_same)) inside long));
      some = λ n within. subst (λ ls. 0 < at ls n) (sym lasts) (up n (omega (arith, within, ap length items_same)) inside long);
      known = λ key absent. absent-more key (subst (λ its. IsAbsent its key) items_same absent);
      once = λ first second one two e. is.once first second (omega (arith, one, ap length items_same)) (omega (arith, two, ap length items_same))
          (ap (λ its. at its first) (sym items_same) ∙ e ∙ ap (λ its. at its second) items_same);
    }
  where
    turn : (n : ℕ) → n < length old.numbers.items.items → number < length old.lasts.items → length new.olders.items ≡ length keys + 1
        → IsBack (keys ++ item ∷ []) (at old.numbers.items.items n) (at (set old.lasts.items number (length new.olders.items)) n) (length (keys ++ item ∷ []))
    turn n within inside long = elim (cases_eq n number) [
      | inl e ↦
          let now = ap (at (set old.lasts.items number (length new.olders.items))) e
          ∙ get_or-set_same old.lasts.items number (length new.olders.items) 0 inside ∙ long in
          let key : at old.numbers.items.items n ≡ item = ap (at old.numbers.items.items) e ∙ here.here in
          subst (λ u. IsBack (keys ++ item ∷ []) (at old.numbers.items.items n) u (length (keys ++ item ∷ []))) (sym now)
          (subst (λ k. IsBack (keys ++ item ∷ []) k (length keys + 1) (length (keys ++ item ∷ []))) (sym key) (back-same keys item))
      | inr ne ↦
          let now = get_or-set_other old.lasts.items number n (length new.olders.items) 0 ne in
          subst (λ u. IsBack (keys ++ item ∷ []) (at old.numbers.items.items n) u (length (keys ++ item ∷ []))) (sym now)
          (back-other keys item (at old.numbers.items.items n) (at old.lasts.items n) (is.lasts n within)
          (λ e. ne (is.once n number within here.within (sym e ∙ sym here.here))))
    ]

    up : (n : ℕ) → n < length old.numbers.items.items → number < length old.lasts.items → length new.olders.items ≡ length keys + 1
        → 0 < at (set old.lasts.items number (length new.olders.items)) n
    up n within inside long = elim (cases_eq n number) [
      | inl e ↦
          let now = ap (at (set old.lasts.items number (length new.olders.items))) e
          ∙ get_or-set_same old.lasts.items number (length new.olders.items) 0 inside ∙ long in
          omega (arith, now)
      | inr ne ↦
          let now = get_or-set_other old.lasts.items number n (length new.olders.items) 0 ne in
          omega (arith, now, is.some n within)
    ]

    absent-more : (key : ℕ) → IsAbsent old.numbers.items.items key → IsAbsent (keys ++ item ∷ []) key
    absent-more key absent place within e = elim (cases_eq place (length keys)) [
      | inl last ↦ absent number here.within (here.here ∙ sym (at-end keys item) ∙ ap (at (keys ++ item ∷ [])) (sym last) ∙ e)
      | inr before ↦
          let low : place < length keys = omega (arith, within, more keys item, before) in
          is.known key absent place low (sym (at-before keys item place low) ∙ e)
    ]

-- one more key of a new item
pub links-new : (old new : Links) (keys : List ℕ) (item : ℕ) → AreLinks old keys → IsAbsent old.numbers.items.items item → AreNumbers new.numbers
    → new.numbers.items.items ≡ old.numbers.items.items ++ item ∷ [] → new.olders.items ≡ old.olders.items ++ 0 ∷ []
    → new.lasts.items ≡ old.lasts.items ++ length new.olders.items ∷ [] → AreLinks new (keys ++ item ∷ [])
links-new old new keys item is absent numbers items olders lasts =
    let before = old.numbers.items.items in
    let linked = is.linked in
    let fresh = is.known item absent in
    let long : length new.olders.items ≡ length keys + 1 = ap length olders ∙ more old.olders.items 0 ∙ omega (arith, linked.size) in
    record {
      numbers = numbers;
      linked = subst (AreLinked (keys ++ item ∷ [])) (sym olders) (linked-more keys old.olders.items item 0 linked (absent-back keys item fresh));
      size = omega (arith, ap length lasts, more old.lasts.items (length new.olders.items), ap length items, more before item, is.size);
      lasts = λ n within. subst (λ its. IsBack (keys ++ item ∷ []) (at its n) (at new.lasts.items n) (length (keys ++ item ∷ []))) (sym items)
          (subst (λ ls. IsBack (keys ++ item ∷ []) (at (before ++ item ∷ []) n) (at ls n) (length (keys ++ item ∷ []))) (sym lasts)
          (turn n (omega (arith, within, ap length items, more before item)) long));
      some = λ n within. subst (λ ls. 0 < at ls n) (sym lasts) (up n (omega (arith, within, ap length items, more before item)) long);
      known = λ key gone. absent-more key (subst (λ its. IsAbsent its key) items gone);
      once = λ first second one two e. once first second (omega (arith, one, ap length items, more before item))
          (omega (arith, two, ap length items, more before item)) (ap (λ its. at its first) (sym items) ∙ e ∙ ap (λ its. at its second) items);
    }
  where
    turn : (n : ℕ) → n < length old.numbers.items.items + 1 → length new.olders.items ≡ length keys + 1
        → IsBack (keys ++ item ∷ []) (at (old.numbers.items.items ++ item ∷ []) n) (at (old.lasts.items ++ length new.olders.items ∷ []) n)
        (length (keys ++ item ∷ []))
    turn n within long = elim (cases_eq n (length old.numbers.items.items)) [
      | inl e ↦
          let key : at (old.numbers.items.items ++ item ∷ []) n
          ≡ item = ap (at (old.numbers.items.items ++ item ∷ [])) e ∙ at-end old.numbers.items.items item in
          let now = ap (at (old.lasts.items ++ length new.olders.items ∷ [])) (e ∙ sym is.size) ∙ at-end old.lasts.items (length new.olders.items) ∙ long in
          subst (λ u. IsBack (keys ++ item ∷ []) (at (old.numbers.items.items ++ item ∷ []) n) u (length (keys ++ item ∷ []))) (sym now)
          (subst (λ k. IsBack (keys ++ item ∷ []) k (length keys + 1) (length (keys ++ item ∷ []))) (sym key) (back-same keys item))
      | inr ne ↦
          let low : n < length old.numbers.items.items = omega (arith, within, ne) in
          let key = at-before old.numbers.items.items item n low in
          let now = at-before old.lasts.items (length new.olders.items) n (omega (arith, low, is.size)) in
          subst (λ u. IsBack (keys ++ item ∷ []) (at (old.numbers.items.items ++ item ∷ []) n) u (length (keys ++ item ∷ []))) (sym now)
          (subst (λ k. IsBack (keys ++ item ∷ []) k (at old.lasts.items n) (length (keys ++ item ∷ []))) (sym key)
          (back-other keys item (at old.numbers.items.items n) (at old.lasts.items n) (is.lasts n low) (λ e. absent n low (sym e))))
    ]

    up : (n : ℕ) → n < length old.numbers.items.items + 1 → length new.olders.items ≡ length keys + 1
        → 0 < at (old.lasts.items ++ length new.olders.items ∷ []) n
    up n within long = elim (cases_eq n (length old.numbers.items.items)) [
      | inl e ↦
          let now = ap (at (old.lasts.items ++ length new.olders.items ∷ [])) (e ∙ sym is.size) ∙ at-end old.lasts.items (length new.olders.items) ∙ long in
          omega (arith, now)
      | inr ne ↦
          let low : n < length old.numbers.items.items = omega (arith, within, ne) in
          let now = at-before old.lasts.items (length new.olders.items) n (omega (arith, low, is.size)) in
          omega (arith, now, is.some n low)
    ]

    absent-more : (key : ℕ) → IsAbsent (old.numbers.items.items ++ item ∷ []) key → IsAbsent (keys ++ item ∷ []) key
    absent-more key gone place within e = elim (cases_eq place (length keys)) [
      | inl last ↦ gone (length old.numbers.items.items) (omega (arith, more old.numbers.items.items item))
          (at-end old.numbers.items.items item ∙ sym (at-end keys item) ∙ ap (at (keys ++ item ∷ [])) (sym last) ∙ e)
      | inr before ↦
          let low : place < length keys = omega (arith, within, more keys item, before) in
          is.known key (λ p inside same. gone p (omega (arith, inside, more old.numbers.items.items item)) (at-before old.numbers.items.items item p inside
          ∙ same))
          place low (sym (at-before keys item place low) ∙ e)
    ]

    once : (first second : ℕ) → first < length old.numbers.items.items + 1 → second < length old.numbers.items.items + 1
        → at (old.numbers.items.items ++ item ∷ []) first ≡ at (old.numbers.items.items ++ item ∷ []) second → first ≡ second
    once first second one two e = elim (cases_eq first (length old.numbers.items.items)) [
      | inl f ↦ elim (cases_eq second (length old.numbers.items.items)) [
        | inl s ↦ f ∙ sym s
        | inr ns ↦
            let low : second < length old.numbers.items.items = omega (arith, two, ns) in
            absurd (absent second low (sym (at-before old.numbers.items.items item second low) ∙ sym e ∙ ap (at (old.numbers.items.items ++ item ∷ [])) f
            ∙ at-end old.numbers.items.items item))
      ]
      | inr nf ↦ elim (cases_eq second (length old.numbers.items.items)) [
        | inl s ↦
            let low : first < length old.numbers.items.items = omega (arith, one, nf) in
            absurd (absent first low (sym (at-before old.numbers.items.items item first low) ∙ e ∙ ap (at (old.numbers.items.items ++ item ∷ [])) s
            ∙ at-end old.numbers.items.items item))
        | inr ns ↦
            let low : first < length old.numbers.items.items = omega (arith, one, nf) in
            let high : second < length old.numbers.items.items = omega (arith, two, ns) in
            is.once first second low high (sym (at-before old.numbers.items.items item first low) ∙ e ∙ at-before old.numbers.items.items item second high)
      ]
    ]

pub at-any : (keys : List ℕ) (place d : ℕ) → place < length keys → get_or keys place d ≡ at keys place
at-any [] place d within = absurd (omega (arith, within))
at-any (key ∷ keys) zero d within = refl
at-any (key ∷ keys) (suc place) d within = at-any keys place d (omega arith)
