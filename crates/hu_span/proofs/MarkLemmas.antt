-- Marks of kept items, and those of an item among others.
use Rattle.std.proofs.Common.{◌≡◌, ℕ, Bool, true, false, cond, eqb, pos, List, [], ◌∷◌, ◌++◌, filter, refl, sym, ap, ◌∙◌}
use Rattle.std.specs.List.{flat_map, AllByRecursion}
use Rattle.std.proofs.lemmas.Bool.{eqb-true}
use Rattle.std.proofs.lemmas.List.Elements.{filter-append}
use Rattle.hu_span.specs.declared.mark.Mark.{Mark}
use Rattle.hu_span.specs.Kept.{takes}
use Rattle.hu_span.specs.Mark.{marks_with}

-- a mark, where any will do
abbrev pub no_mark : Mark
no_mark = record { item = record { 0 = 0 }; row = 0; place = record { element = 0; cell = 0; best = pos 0; rest = pos 0 } }

pub each-filter : {A : Type 0} (P : A → Type 0) (p : A → Bool) (xs : List A) → AllByRecursion P xs → AllByRecursion P (filter p xs)
each-filter P p [] all = tt
each-filter P p (x ∷ xs) all = by (p x) (each-filter P p xs all.1)
  where
    by : (b : Bool) → AllByRecursion P (filter p xs) → AllByRecursion P (cond b (x ∷ filter p xs) (filter p xs))
    by true rest = (all.0, rest)
    by false rest = rest

-- ---- marks of kept items

module _ (keep : ℕ → Bool) where
  pub taken-flat_map : {A : Type 0} (f : A → List Mark) (xs : List A) → flat_map (λ x. filter (takes keep) (f x)) xs ≡ filter (takes keep) (flat_map f xs)
  taken-flat_map f [] = refl
  taken-flat_map f (x ∷ xs) = ap (λ ms. filter (takes keep) (f x) ++ ms) (taken-flat_map f xs) ∙ sym (filter-append (takes keep) (f x) (flat_map f xs))

  pub taken-kept : (marks : List Mark) → AllByRecursion (λ mark. keep mark.item.0 ≡ true) (filter (takes keep) marks)
  taken-kept [] = tt
  taken-kept (mark ∷ marks) = by (keep mark.item.0) refl (taken-kept marks)
    where
      by : (b : Bool) → keep mark.item.0 ≡ b → AllByRecursion (λ m. keep m.item.0 ≡ true) (filter (takes keep) marks)
          → AllByRecursion (λ m. keep m.item.0 ≡ true) (cond b (mark ∷ filter (takes keep) marks) (filter (takes keep) marks))
      by true e rest = (e, rest)
      by false e rest = rest

  -- those of a kept item are all of the item's
  pub taken-with : (item : ℕ) (marks : List Mark) → keep item ≡ true → marks_with item (filter (takes keep) marks) ≡ marks_with item marks
  taken-with item [] kept = refl
  taken-with item (mark ∷ marks) kept = by (keep mark.item.0) refl (eqb item mark.item.0) refl (taken-with item marks kept)
    where
      by : (k : Bool) → keep mark.item.0 ≡ k → (b : Bool) → eqb item mark.item.0 ≡ b → marks_with item (filter (takes keep) marks) ≡ marks_with item marks
          → marks_with item (cond k (mark ∷ filter (takes keep) marks) (filter (takes keep) marks)) ≡ cond b (mark ∷ marks_with item marks)
          (marks_with item marks)
      by true e b i rest = (λ j. cond (i j) (mark ∷ rest j) (rest j))
      by false e true i rest = let bad : true ≡ false = sym kept ∙ ap keep (eqb-true item mark.item.0 i) ∙ e in cc
      by false e false i rest = rest
