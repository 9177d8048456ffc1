-- What was read of the content of a file.
use Rattle.std.proofs.Common.{◌≡◌, ℕ, zero, suc, ◌+◌, ◌-◌, ◌≤◌, List, [], ◌∷◌, ◌++◌, length, take, drop, refl, sym, ap, ◌∙◌, subst, arith, inl, inr}
use Rattle.std.specs.Prelude.{◌⊎◌, ◌↔◌}
use Rattle.std.proofs.Math.Seq.{take-add, take-nil}
use Rattle.std.proofs.lemmas.List.{take_all}
use Rattle.hu_io.specs.State.{FilesState}
use Rattle.hu_input.specs.Content.{WhereThere, HasMore, HasContent}
use Rattle.hu_input.proofs.WholeLemmas.{IfThere, both_by, weaker_by, there_by}

-- a front of a content
abbrev pub IsFront : List ℕ → List ℕ → Type 0
IsFront read content = read ≡ take (length read) content

front-more : (read more content : List ℕ) (count : ℕ) → length more ≡ length read + count → IsFront read content
    → more ≡ read ++ take count (drop (length read) content) → IsFront more content
front-more read more content count grown front is =
    is ∙ ap (λ r. r ++ take count (drop (length read) content)) front ∙ sym (take-add (length read) count content)
    ∙ ap (λ n. take n content) (sym grown)

take-front : (n d : ℕ) (xs : List ℕ) → take n (take (n + d) xs) ≡ take n xs
take-front zero d xs = refl
take-front (suc n) d [] = ap (take (suc n)) (take-nil (suc n + d))
take-front (suc n) d (x ∷ xs) =
    let more : suc (n + d) ≡ (suc n + d) = omega arith in
    subst (λ k. take (suc n) (take k (x ∷ xs)) ≡ take (suc n) (x ∷ xs)) more (ap (λ ys. x ∷ ys) (take-front n d xs))

front-enough : (most : ℕ) (read content : List ℕ) → most ≤ length read → IsFront read content → take most read ≡ take most content
front-enough most read content enough front =
    ap (take most) (front ∙ ap (λ n. take n content) (omega (arith, enough))) ∙ take-front most (length read - most) content

front-whole : (most : ℕ) (read content : List ℕ) → length content ≤ length read → IsFront read content → take most read ≡ take most content
front-whole most read content whole front = ap (take most) (front ∙ take_all (length read) content whole)

module _ (files old new : FilesState) (name read more : List ℕ) (count : ℕ) where
  -- after one more piece a front was read
  pub read-more : old ≡ files → HasMore old new name read more count → IfThere files name (IsFront read) → WhereThere files name (IsFront more)
  read-more same has front =
      both_by files.contents name (IsFront read) _ (IsFront more) (λ content front is. front-more read more content count has.grown front is) front
      (subst (λ f. WhereThere f name (λ content. more ≡ read ++ take count (drop (length read) content))) same has.bytes)

  pub so-far : old ≡ files → HasMore old new name read more count → IfThere files name (IsFront read) → IfThere files name (IsFront more)
  so-far same has front = weaker_by files.contents name (IsFront more) (read-more same has front)

  -- the file ended, or enough was read
  pub has-content : (most : ℕ) → old ≡ files → HasMore old new name read more count → IfThere files name (IsFront read)
      → (count ≡ 0) ⊎ (most ≤ length more) → HasContent most files new name (take most more)
  has-content most same has front ended = record {
    same = has.same ∙ same;
    content = by ended;
  }
    where
      all : WhereThere files name (λ content. (count ≡ 0) ↔ (length content ≤ length read))
      all = subst (λ f. WhereThere f name (λ content. (count ≡ 0) ↔ (length content ≤ length read))) same has.end

      by : (count ≡ 0) ⊎ (most ≤ length more) → WhereThere files name (λ content. take most more ≡ take most content)
      by (inr enough) = both_by files.contents name (λ content. ℕ) (IsFront more) _ (λ content _ front. front-enough most more content enough front)
          (there_by files.contents name (λ content. ℕ) (λ content. 0)) (read-more same has front)
      by (inl none) = both_by files.contents name (IsFront more) (λ content. (count ≡ 0) ↔ (length content ≤ length read)) _
          (λ content front end. front-whole most more content (omega (arith, end.0 none, has.grown)) front) (so-far same has front) all
