-- Six parts of a line.
use Rattle.std.proofs.Common.{◌≡◌, ℕ, List, [], ◌∷◌, ◌++◌, length, sym, ap, ◌∙◌, refl}
use Rattle.std.specs.Prelude.{flat_map, slice_index_or}
use Rattle.std.proofs.lemmas.List.{append_assoc}
use Rattle.hu_input.specs.declared.part.Part.{Part}
use Rattle.hu_input.specs.Part.{part_text}

-- what stands before more, one part after the other
abbrev before : List Part → List ℕ → List ℕ
before [] more = more
before (part ∷ parts) more = part_text part ++ before parts more

before-all : (parts : List Part) (more : List ℕ) → before parts more ≡ flat_map part_text parts ++ more
before-all [] more = refl
before-all (part ∷ parts) more =
    ap (λ text. part_text part ++ text) (before-all parts more) ∙ sym (append_assoc (part_text part) (flat_map part_text parts) more)

pub six-parts : (parts : List Part) (none : Part) (more : List ℕ) → length parts ≡ 6
    → part_text (slice_index_or parts 0 none) ++ (part_text (slice_index_or parts 1 none) ++ (part_text (slice_index_or parts 2 none)
    ++ (part_text (slice_index_or parts 3 none) ++ (part_text (slice_index_or parts 4 none) ++ (part_text (slice_index_or parts 5 none) ++ more)))))
    ≡ flat_map part_text parts ++ more
six-parts (a ∷ b ∷ c ∷ d ∷ e ∷ f ∷ []) none more six = before-all (a ∷ b ∷ c ∷ d ∷ e ∷ f ∷ []) more
six-parts [] none more six = cc
six-parts (a ∷ []) none more six = cc
six-parts (a ∷ b ∷ []) none more six = cc
six-parts (a ∷ b ∷ c ∷ []) none more six = cc
six-parts (a ∷ b ∷ c ∷ d ∷ []) none more six = cc
six-parts (a ∷ b ∷ c ∷ d ∷ e ∷ []) none more six = cc
six-parts (a ∷ b ∷ c ∷ d ∷ e ∷ f ∷ g ∷ more_parts) none more six = cc
