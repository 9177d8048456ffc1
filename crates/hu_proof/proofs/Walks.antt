-- What a walk without a fault has opened.
use Rattle.std.proofs.Common.{◌≡◌, ℕ, ◌+◌, Bool, true, false, not, cond, eqb, ◌&&◌, ℤ, pos, ◌≤ℤ◌, ◌<ℤ◌, Option, None, Some, option_map, List, [], ◌∷◌, ◌++◌}
use Rattle.std.proofs.Common.{map, filter, refl, sym, subst, ◌∙◌, ap, inl, inr, arith, append_assoc, append-nil}
use Rattle.std.specs.Prelude.{int_le, is_none}
use Rattle.std.specs.Bool.{then_some}
use Rattle.std.specs.List.{AllByRecursion, list_any}
use Rattle.std.specs.Ordering.{int_eq}
use Rattle.std.specs.Str.{bytes_eq}
use Rattle.std.proofs.lemmas.Bool.{cond_both, eqb-true, not-false}
use Rattle.std.proofs.lemmas.Bool.Decides.{Decides-int_eq}
use Rattle.std.proofs.lemmas.Int.{ints}
use Rattle.std.proofs.lemmas.Slice.Eq.{bytes_eq-Decides}
use Rattle.hu_kind.specs.Database.{utility}
use Rattle.hu_kind.specs.First.{first_some}
use Rattle.hu_kind.proofs.lemmas.Each.{each-append}
use Rattle.hu_kind.proofs.lemmas.Members.{Member, Member-append_left, Member-append_right, Member-map, Member-filter}
use Rattle.hu_kind.proofs.lemmas.Tests.{any-member}
use Rattle.hu_proof.specs.declared.fault.CheckFault.{CheckFault}
use Rattle.hu_proof.specs.declared.token.Token.{Token}
use Rattle.hu_proof.specs.Bounds.{is_among, after, cut_bound, stands_with}
use Rattle.hu_proof.specs.Check.{Node, grown, children, first_such, wrong_child, left_out, token_bound, wrong_bound, not_cut, prefix_fault, utility_fault}
use Rattle.hu_proof.specs.Check.{child_fault, left_fault, bound_fault, cut_fault, faults_of, line_fault, opened_by, walk}
use Rattle.hu_proof.specs.Opened.{prefixes_in}
use Rattle.hu_proof.specs.Text.{Said, said_of}
use Rattle.hu_proof.specs.Places.{Apart, Follows}
use Rattle.hu_proof.proofs.Orders.{Member-after, Apart-grown, Apart-left, Apart-right, Apart-after}
use Rattle.hu_proof.proofs.Gains.{utility-cut_bound}
use Rattle.hu_proof.proofs.Sets.{stands_with-grown}
use Rattle.hu_proof.proofs.lemmas.OrderMembers.{among-member}

-- ---- options that are none

pub none-parts : {A : Type 0} (o : Option A) (os : List (Option A)) → first_some (o ∷ os) ≡ None → (o ≡ None) × (first_some os ≡ None)
none-parts None os h = (refl, h)
none-parts (Some x) os h = cc

none-each : {A B : Type 0} (f : A → Option B) (xs : List A) → first_some (map f xs) ≡ None → (x : A) → Member x xs → f x ≡ None
none-each f [] h x m = absurd m
none-each f (y ∷ ys) h x (inl e) = subst (λ z. f z ≡ None) e (none-parts (f y) (map f ys) h).0
none-each f (y ∷ ys) h x (inr m) = none-each f ys (none-parts (f y) (map f ys) h).1 x m

none-then_some : {A : Type 0} (b : Bool) (x : A) → then_some b x ≡ None → b ≡ false
none-then_some true x h = cc
none-then_some false x h = refl

none-option_map : {A B : Type 0} (f : A → B) (o : Option A) → option_map f o ≡ None → o ≡ None
none-option_map f None h = refl
none-option_map f (Some x) h = cc

none-such-cons : (test : ℕ → Bool) (y : ℕ) (ys : List ℕ) → (first_such test ys ≡ None → (x : ℕ) → Member x ys → test x ≡ false)
    → (b : Bool) → test y ≡ b → cond b (Some y) (first_such test ys) ≡ None → (x : ℕ) → Member x (y ∷ ys) → test x ≡ false
none-such-cons test y ys ih true e h x m = cc
none-such-cons test y ys ih false e h x (inl s) = subst (λ z. test z ≡ false) s e
none-such-cons test y ys ih false e h x (inr m) = ih h x m

none-such : (test : ℕ → Bool) (xs : List ℕ) → first_such test xs ≡ None → (x : ℕ) → Member x xs → test x ≡ false
none-such test [] h x m = absurd m
none-such test (y ∷ ys) h x m = none-such-cons test y ys (none-such test ys) (test y) refl h x m

-- ---- a line without a fault

-- what it says of a prefix
pub record Checked (records : List (List (ℕ × ℤ))) (least : ℤ) (node : Node) (said : Said) : Type 0 where
  pub prefix : said.prefix ≡ node.prefix
  pub follows : Follows node.later (map (λ token. token.item.0) said.tokens)
  pub whole : (item : ℕ) → Member item node.later → stands_with records node.prefix item ≡ true
      → (token : Token) × Member token said.tokens × (token.item.0 ≡ item)
  pub cut : (token : Token) → Member token said.tokens → (bound : ℤ) → token.bound ≡ Some bound → token_bound records node token <ℤ least

wrong_child-none-cons : (later : List ℕ) (token : Token) (tokens : List Token)
    → (wrong_child (after token.item.0 later) tokens ≡ None → Follows (after token.item.0 later) (map (λ t. t.item.0) tokens))
    → (b : Bool) → is_among token.item.0 later ≡ b → cond b (wrong_child (after token.item.0 later) tokens) (Some token.item.0) ≡ None
    → Follows later (map (λ t. t.item.0) (token ∷ tokens))
wrong_child-none-cons later token tokens ih true e h = (among-member token.item.0 later e, ih h)
wrong_child-none-cons later token tokens ih false e h = cc

pub wrong_child-none : (later : List ℕ) (tokens : List Token) → wrong_child later tokens ≡ None → Follows later (map (λ token. token.item.0) tokens)
wrong_child-none later [] h = tt
wrong_child-none later (token ∷ tokens) h =
    wrong_child-none-cons later token tokens (wrong_child-none (after token.item.0 later) tokens) (is_among token.item.0 later) refl h

-- a test of two parts, of which the second holds, fails by the first
named : (a b : Bool) → (not a && b) ≡ false → b ≡ true → a ≡ true
named true b h e = refl
named false b h e = let odd : true ≡ false = sym e ∙ h in cc

bound-below : (records : List (List (ℕ × ℤ))) (least : ℤ) (line : ℕ) (node : Node) (token : Token) (bound : ℤ)
    → wrong_bound line records node token ≡ None → not_cut line least token ≡ None → token.bound ≡ Some bound → token_bound records node token <ℤ least
bound-below records least line node token bound wrong reaches e =
    let sum = token_bound records node token in
    let told : then_some (not (int_eq bound sum)) (CheckFault.WrongBound line token.item bound sum) ≡ None = rw e at wrong in
    let same : bound ≡ sum = (Decides-int_eq bound sum).0 (not-false (int_eq bound sum) (none-then_some _ _ told)) in
    let under : then_some (int_le least bound) (CheckFault.NotCut line token.item bound) ≡ None = rw e at reaches in
    let low : int_le least bound ≡ false = none-then_some _ _ under in
    let below : bound <ℤ least = grind (arith, ints) in
    subst (λ b. b <ℤ least) same below

-- the six options of a line
record None6 (a b c d e f : Option CheckFault) : Type 0 where
  prefix : a ≡ None
  utility : b ≡ None
  child : c ≡ None
  left : d ≡ None
  bounds : e ≡ None
  cuts : f ≡ None

none-six : (a b c d e f : Option CheckFault) → first_some (a ∷ b ∷ c ∷ d ∷ e ∷ f ∷ []) ≡ None → None6 a b c d e f
none-six None None None None None None h = record { prefix = refl; utility = refl; child = refl; left = refl; bounds = refl; cuts = refl }
none-six (Some x) b c d e f h = cc
none-six None (Some x) c d e f h = cc
none-six None None (Some x) d e f h = cc
none-six None None None (Some x) e f h = cc
none-six None None None None (Some x) f h = cc
none-six None None None None None (Some x) h = cc

pub checked : (records : List (List (ℕ × ℤ))) (least : ℤ) (line : ℕ) (node : Node) (said : Said)
    → first_some (faults_of records least line node said) ≡ None → Checked records least node said
checked records least line node said h =
    let none = none-six (prefix_fault line node said) (utility_fault line said.utility (utility records node.prefix)) (child_fault line node said)
    (left_fault records line node said) (bound_fault records line node said) (cut_fault least line said) h in
    let present = λ (item : ℕ). not (list_any (λ (token : Token). eqb item token.item.0) said.tokens) && stands_with records node.prefix item in
    record {
      prefix = (bytes_eq-Decides said.prefix node.prefix).0 (not-false (bytes_eq said.prefix node.prefix)
          (none-then_some (not (bytes_eq said.prefix node.prefix)) (CheckFault.WrongPrefix line) none.prefix));
      follows = wrong_child-none node.later said.tokens (none-option_map (λ item. CheckFault.WrongChild line (record { 0 = item }))
          (wrong_child node.later said.tokens) none.child);
      whole = λ item m stands.
          let test = none-such present node.later (none-option_map (λ item. CheckFault.LeftOut line (record { 0 = item }))
          (left_out records node said.tokens) none.left) item m in
          let r = any-member (λ (token : Token). eqb item token.item.0) said.tokens
          (named (list_any (λ (token : Token). eqb item token.item.0) said.tokens) (stands_with records node.prefix item) test stands) in
          (r.0, r.1, sym (eqb-true item r.0.item.0 r.2));
      cut = λ token m bound e. bound-below records least line node token bound
          (none-each (wrong_bound line records node) said.tokens none.bounds token m) (none-each (not_cut line least) said.tokens none.cuts token m) e;
    }

-- ---- what is opened

-- a prefix and its later items, none twice
abbrev pub Good : Node → Type 0
Good node = Apart (node.prefix ++ node.later)

token_bound-children : (node : Node) (later : List ℕ) (tokens : List Token) → ((x : ℕ) → Member x later → Member x node.later) → Good node
    → Follows later (map (λ token. token.item.0) tokens) → AllByRecursion Good (children node tokens)
token_bound-children node later [] w good f = tt
token_bound-children node later (token ∷ tokens) w good f =
    let rest = token_bound-children node (after token.item.0 later) tokens (λ x m. w x (Member-after x token.item.0 later m)) good f.1 in
    let first : Good (grown node token.item.0) = Apart-grown node.prefix node.later token.item.0 good (w token.item.0 f.0) in
    cond_both (is_none token.bound) (token ∷ filter (λ t. is_none t.bound) tokens) (filter (λ t. is_none t.bound) tokens)
    (λ ts. AllByRecursion Good (map (λ t. grown node t.item.0) ts))
    (λ e. (first, rest))
    (λ e. rest)

Good-children : (node : Node) (tokens : List Token) → Good node → Follows node.later (map (λ token. token.item.0) tokens)
    → AllByRecursion Good (children node tokens)
Good-children node tokens good f = token_bound-children node node.later tokens (λ x m. m) good f

Member-children : (node : Node) (tokens : List Token) (token : Token) → Member token tokens → token.bound ≡ None
    → Member (grown node token.item.0) (children node tokens)
Member-children node tokens token m e =
    Member-map (λ t. grown node t.item.0) token (filter (λ t. is_none t.bound) tokens) (Member-filter (λ t. is_none t.bound) token tokens m (ap is_none e))

-- all that the prefixes of nodes earn with later items is found among these prefixes
abbrev pub Finds : List (List (ℕ × ℤ)) → ℤ → List Node → List (List ℕ) → Type 0
Finds records least nodes prefixes = (node : Node) (xs : List ℕ) → Member node nodes → Follows node.later xs
    → least ≤ℤ utility records (node.prefix ++ xs) → Member (node.prefix ++ xs) prefixes

-- what a line opens is found, or is the line's own prefix
found-below : (records : List (List (ℕ × ℤ))) (least : ℤ) (node : Node) (said : Said) (nodes : List Node) (prefixes : List (List ℕ)) → pos 1 ≤ℤ least
    → Good node
    → Checked records least node said → Finds records least (children node said.tokens ++ nodes) prefixes
    → (xs : List ℕ) → Follows node.later xs → least ≤ℤ utility records (node.prefix ++ xs) → Member (node.prefix ++ xs) (said.prefix ∷ prefixes)
found-below records least node said nodes prefixes some good line ih [] f reaches = inl (line.prefix ∙ sym (append-nil node.prefix))
found-below records least node said nodes prefixes some good line ih (x ∷ xs) f reaches =
    let same : (node.prefix ++ x ∷ []) ++ xs ≡ node.prefix ++ x ∷ xs = append_assoc node.prefix (x ∷ []) xs in
    let high : least ≤ℤ utility records ((node.prefix ++ x ∷ []) ++ xs) = subst (λ s. least ≤ℤ utility records s) (sym same) reaches in
    let stands = stands_with-grown records node.prefix x xs (omega (arith, ints)) in
    let named = line.whole x f.0 stands in
    inr (subst (λ s. Member s prefixes) same (by named.0 named.1 named.2 named.0.bound refl high))
  where
    by : (token : Token) → Member token said.tokens → token.item.0 ≡ x → (bound : Option ℤ) → token.bound ≡ bound
        → least ≤ℤ utility records ((node.prefix ++ x ∷ []) ++ xs) → Member ((node.prefix ++ x ∷ []) ++ xs) prefixes
    by token m e None is high =
        ih (grown node x) xs (Member-append_left (grown node x) (children node said.tokens) nodes
        (subst (λ i. Member (grown node i) (children node said.tokens)) e (Member-children node said.tokens token m is))) f.1 high
    by token m e (Some bound) is high =
        let below = line.cut token m bound is in
        let upper = utility-cut_bound records (node.prefix ++ x ∷ []) (after x node.later) xs
        (Apart-after x node.later (Apart-right node.prefix node.later good)) f.1 in
        let low = subst (λ i. cut_bound records (node.prefix ++ i ∷ []) (after i node.later) <ℤ least) e below in
        absurd (omega (arith, ints))

finds-step : (records : List (List (ℕ × ℤ))) (least : ℤ) (node : Node) (said : Said) (nodes : List Node) (prefixes : List (List ℕ)) → pos 1 ≤ℤ least
    → Good node
    → Checked records least node said → Finds records least (children node said.tokens ++ nodes) prefixes
    → Finds records least (node ∷ nodes) (said.prefix ∷ prefixes)
finds-step records least node said nodes prefixes some good line ih other xs (inl e) f reaches =
    subst (λ (n : Node). Follows n.later xs → least ≤ℤ utility records (n.prefix ++ xs) → Member (n.prefix ++ xs) (said.prefix ∷ prefixes)) e
    (found-below records least node said nodes prefixes some good line ih xs) f reaches
finds-step records least node said nodes prefixes some good line ih other xs (inr m) f reaches =
    inr (ih other xs (Member-append_right other (children node said.tokens) nodes m) f reaches)

pub prefixes-cons : (piece : List ℕ) (rest : List (List ℕ)) (said : Said) → said_of piece ≡ Some said
    → prefixes_in (piece ∷ rest) ≡ said.prefix ∷ prefixes_in rest
prefixes-cons piece rest said e = rw e refl

-- a walk without a fault: what these nodes lead to is found, and no prefix has an item twice
pub record Walked (records : List (List (ℕ × ℤ))) (least : ℤ) (nodes : List Node) (pieces : List (List ℕ)) : Type 0 where
  pub finds : Finds records least nodes (prefixes_in pieces)
  pub apart : AllByRecursion Apart (prefixes_in pieces)

walked-line : (records : List (List (ℕ × ℤ))) (least : ℤ) (line : ℕ) (node : Node) (nodes : List Node) (piece : List ℕ) (rest : List (List ℕ))
    → pos 1 ≤ℤ least → AllByRecursion Good (node ∷ nodes)
    → ((next : List Node) → AllByRecursion Good next → walk records least (line + 1) next rest ≡ None → Walked records least next rest)
    → (o : Option Said) → said_of piece ≡ o → first_some (line_fault records least line node o ∷ walk records least (line + 1)
    (opened_by node o ++ nodes) rest ∷ []) ≡ None
    → Walked records least (node ∷ nodes) (piece ∷ rest)
walked-line records least line node nodes piece rest some good ih None e h = cc
walked-line records least line node nodes piece rest some good ih (Some said) e h =
    let parts = none-parts (first_some (faults_of records least line node said))
    (walk records least (line + 1) (children node said.tokens ++ nodes) rest ∷ []) h in
    let line' = checked records least line node said parts.0 in
    let next = each-append Good (children node said.tokens) nodes (Good-children node said.tokens good.0 line'.follows) good.1 in
    let deep = ih (children node said.tokens ++ nodes) next (none-parts (walk records least (line + 1) (children node said.tokens ++ nodes) rest) []
    parts.1).0 in
    let same = sym (prefixes-cons piece rest said e) in
    record {
      finds = subst (Finds records least (node ∷ nodes)) same (finds-step records least node said nodes (prefixes_in rest) some good.0 line' deep.finds);
      apart = subst (AllByRecursion Apart) same (subst Apart (sym line'.prefix) (Apart-left node.prefix node.later good.0), deep.apart);
    }

pub walked : (records : List (List (ℕ × ℤ))) (least : ℤ) (line : ℕ) (nodes : List Node) (pieces : List (List ℕ)) → pos 1 ≤ℤ least
    → AllByRecursion Good nodes → walk records least line nodes pieces ≡ None
    → Walked records least nodes pieces
walked records least line nodes [] some good h = cc
walked records least line [] ([] ∷ []) some good h = record { finds = λ node xs m f reaches. absurd m; apart = tt }
walked records least line [] ((b ∷ bs) ∷ []) some good h = cc
walked records least line (node ∷ nodes) (piece ∷ []) some good h = cc
walked records least line [] (piece ∷ next ∷ rest) some good h = cc
walked records least line (node ∷ nodes) (piece ∷ next ∷ rest) some good h =
    walked-line records least line node nodes piece (next ∷ rest) some good (λ ns g w. walked records least (line + 1) ns (next ∷ rest) some g w)
    (said_of piece) refl h
