-- A text that is read piece by piece.
use Rattle.std.proofs.Common.{◌≡◌, ℕ, ◌+◌, ◌≤◌, Option, None, Some, MatchOption, List, ◌++◌, length, take, drop, ap, subst, sym, ◌∙◌}
use Rattle.std.specs.Bool.{⊤}
use Rattle.std.proofs.Math.Seq.{take-add}
use Rattle.std.proofs.lemmas.List.{length-append, length-take-le}
use Rattle.hu_io.specs.Files.{Gives}
use Rattle.hu_shelf.specs.Keeper.{KeeperState, Loaded, Told}

-- what is told of a text's name
pub Told-map : (state : KeeperState) (name : List ℕ) (P Q : List ℕ → Type 0) → ((text : List ℕ) → P text → Q text) → Told state name P → Told state name Q
Told-map state name P Q f told = by state.texts told
  where
    by : (texts : Option (List ℕ → List ℕ)) → MatchOption texts ⊤ (λ t. P (t name)) → MatchOption texts ⊤ (λ t. Q (t name))
    by None h = tt
    by (Some t) h = f (t name) h

pub Told-both : (state : KeeperState) (name : List ℕ) (P Q R : List ℕ → Type 0) → ((text : List ℕ) → P text → Q text → R text)
    → Told state name P → Told state name Q → Told state name R
Told-both state name P Q R f one two = by state.texts one two
  where
    by : (texts : Option (List ℕ → List ℕ)) → MatchOption texts ⊤ (λ t. P (t name)) → MatchOption texts ⊤ (λ t. Q (t name))
        → MatchOption texts ⊤ (λ t. R (t name))
    by None h k = tt
    by (Some t) h k = f (t name) h k

pub Told-all : (state : KeeperState) (name : List ℕ) (P : List ℕ → Type 0) → ((text : List ℕ) → P text) → Told state name P
Told-all state name P all = by state.texts
  where
    by : (texts : Option (List ℕ → List ℕ)) → MatchOption texts ⊤ (λ t. P (t name))
    by None = tt
    by (Some t) = all (t name)

-- the keeper is as before, the bytes read so far are the front of the text
pub record ReadSoFar (old now : KeeperState) (name bytes : List ℕ) : Type 0 where
  pub same : now ≡ old
  pub front : Told old name (λ text. take (length bytes) text ≡ bytes)

-- one more piece
pub read_piece : (old before now : KeeperState) (name bytes into new : List ℕ) (at n : ℕ) → ReadSoFar old before name bytes
    → Loaded before now name at into n → at ≡ length bytes → n ≤ length into → new ≡ bytes ++ take n into → ReadSoFar old now name new
read_piece old before now name bytes into new at n so_far loaded here within is =
    let told = subst (λ state. Told state name (λ text. Gives text at n into)) so_far.same loaded.told in
    record {
      same = loaded.same ∙ so_far.same;
      front = Told-both old name (λ text. take (length bytes) text ≡ bytes) (λ text. Gives text at n into) (λ text. take (length new) text ≡ new)
          (λ text front gives.
          let count : length new ≡ length bytes + n =
          ap length is ∙ length-append bytes (take n into) ∙ ap (λ k. length bytes + k) (length-take-le n into within) in
          ap (λ k. take k text) count
          ∙ take-add (length bytes) n text
          ∙ ap (λ xs. xs ++ take n (drop (length bytes) text)) front
          ∙ ap (λ k. bytes ++ take n (drop k text)) (sym here)
          ∙ ap (λ xs. bytes ++ xs) (sym gives.bytes)
          ∙ sym is)
          so_far.front told;
    }
