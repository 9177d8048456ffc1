-- Lines that are written piece by piece.
use Rattle.std.proofs.Common.{◌≡◌, ℕ, ◌+◌, ◌<◌, ℤ, List, [], ◌∷◌, ◌++◌, length, map, take, get_or, refl, sym, ap, ◌∙◌, append_assoc, arith}
use Rattle.std.specs.List.{join_with_byte}
use Rattle.std.proofs.lemmas.List.{length-map, length-take-le, map-append, take_more, get_or-map}
use Rattle.hu_kind.specs.declared.item.Item.{Item}
use Rattle.hu_totals.specs.Ranked.{item_at}
use Rattle.hu_totals.specs.Weights.{numbers_of}
use Rattle.hu_certify.specs.declared.slots.Child.{Child}
use Rattle.hu_certify.specs.Spots.{named, rank_pair}
use Rattle.hu_certify.specs.Text.{token_text, tokens_text}
use Rattle.hu_certify.specs.Written.{gap}

join-push : (xs : List (List ℕ)) (y : List ℕ) → join_with_byte 32 (xs ++ y ∷ []) ≡ join_with_byte 32 xs ++ (gap (length xs) ++ y)
join-push [] y = refl
join-push (x ∷ []) y = refl
join-push (x ∷ x' ∷ xs) y =
    ap (λ more. x ++ (32 ∷ more)) (join-push (x' ∷ xs) y)
    ∙ sym (append_assoc x (32 ∷ join_with_byte 32 (x' ∷ xs)) (32 ∷ y))

joined-more : (f : Child → List ℕ) (children : List Child) (i : ℕ) (d : Child) → i < length children
    → join_with_byte 32 (map f (take (i + 1) children)) ≡ join_with_byte 32 (map f (take i children)) ++ (gap i ++ f (get_or children i d))
joined-more f children i d within =
    let texts : map f (take (i + 1) children) ≡ map f (take i children) ++ f (get_or children i d) ∷ [] =
    ap (map f) (take_more children i d within) ∙ map-append f (take i children) (get_or children i d ∷ []) in
    let count : length (map f (take i children)) ≡ i = length-map (take i children) f ∙ length-take-le i children (omega arith) in
    ap (join_with_byte 32) texts
    ∙ join-push (map f (take i children)) (f (get_or children i d))
    ∙ ap (λ k. join_with_byte 32 (map f (take i children)) ++ (gap k ++ f (get_or children i d))) count

-- the token of a child
abbrev child_text : ℤ → List ℕ → Child → List ℕ
child_text least order child = token_text least (item_at order child.rank, child.bound)

mapped : (least : ℤ) (order : List ℕ) (children : List Child)
    → map (token_text least) (named order (map rank_pair children)) ≡ map (child_text least order) children
mapped least order [] = refl
mapped least order (c ∷ cs) = ap (λ more. child_text least order c ∷ more) (mapped least order cs)

tokens-more : (least : ℤ) (order : List ℕ) (children : List Child) (i : ℕ) (d : Child) → i < length children
    → tokens_text least (named order (map rank_pair (take (i + 1) children)))
    ≡ tokens_text least (named order (map rank_pair (take i children))) ++ (gap i ++ child_text least order (get_or children i d))
tokens-more least order children i d within =
    ap (join_with_byte 32) (mapped least order (take (i + 1) children))
    ∙ joined-more (child_text least order) children i d within
    ∙ ap (λ texts. join_with_byte 32 texts ++ (gap i ++ child_text least order (get_or children i d))) (sym (mapped least order (take i children)))

-- one token more
pub token-pushed : (least : ℤ) (items : List Item) (children : List Child) (i : ℕ) (d : Child) (e : Item) (first now gapped after token : List ℕ)
    → i < length children
    → (get_or children i d).rank < length items
    → now ≡ first ++ tokens_text least (named (numbers_of items) (map rank_pair (take i children))) → gapped ≡ now ++ gap i → after ≡ gapped ++ token
    → token ≡ token_text least ((get_or items (get_or children i d).rank e).0, (get_or children i d).bound)
    → after ≡ first ++ tokens_text least (named (numbers_of items) (map rank_pair (take (i + 1) children)))
token-pushed least items children i d e first now gapped after token within in_items so_far spaced is told =
    let child = get_or children i d in
    let before = tokens_text least (named (numbers_of items) (map rank_pair (take i children))) in
    let same : item_at (numbers_of items) child.rank ≡ (get_or items child.rank e).0 = get_or-map (λ (item : Item). item.0) items child.rank e 0 in_items in
    let text : token ≡ child_text least (numbers_of items) child = told ∙ ap (λ n. token_text least (n, child.bound)) (sym same) in
    is
    ∙ (λ j. (spaced ∙ ap (λ t. t ++ gap i) so_far) j ++ text j)
    ∙ append_assoc (first ++ before) (gap i) (child_text least (numbers_of items) child)
    ∙ append_assoc first before (gap i ++ child_text least (numbers_of items) child)
    ∙ ap (λ more. first ++ more) (sym (tokens-more least (numbers_of items) children i d within))

-- a line after its six parts
pub line-built : (old a u t s1 s2 s3 s4 s5 s6 : List ℕ) → s1 ≡ old ++ a → s2 ≡ s1 ++ 58 ∷ [] → s3 ≡ s2 ++ u → s4 ≡ s3 ++ 58 ∷ [] → s5 ≡ s4 ++ t
    → s6 ≡ s5 ++ 10 ∷ []
    → s6 ≡ old ++ ((a ++ 58 ∷ u ++ 58 ∷ t) ++ 10 ∷ [])
line-built old a u t s1 s2 s3 s4 s5 s6 e1 e2 e3 e4 e5 e6 =
    let all : s6 ≡ (((((old ++ a) ++ 58 ∷ []) ++ u) ++ 58 ∷ []) ++ t) ++ 10 ∷ [] = cc in
    all ∙ simp append_assoc
