-- What calls of keepers come to.
use Rattle.std.proofs.Common.{◌≡◌, ℕ, ◌≤◌, List, [], ◌∷◌, map, Bool, true, false, Result, Ok, Err, Option, Some, String}
use Rattle.std.proofs.Common.{unwrap_or, refl, ap, sym, ◌∙◌, arith, min, cond, length, ◌==◌, if◌then◌else◌, ◌+◌, ◌-◌}
use Rattle.std.proofs.Common.{◌^◌}
use mathlib.Core.Path.{fun_ext}
use Rattle.std.specs.BTreeMap.{BTreeMap, UpdatesBy, get_by_text}
use Rattle.std.specs.Cmp.Lexicographic.{slice_cmp}
use Rattle.std.specs.Option.{option_map}
use Rattle.std.specs.Ordering.{is_eq, nat_cmp}
use Rattle.std.specs.Map.{lookup}
use Rattle.std.specs.List.{list_any}
use Rattle.std.proofs.lemmas.Bool.Decides.{nat_tests}
use Rattle.hu_io.specs.Files.{content_in, content_or_empty}
use Rattle.std.specs.Prelude.{Vec}
use Rattle.std.specs.Str.{bytes_eq}
use Rattle.std.specs.String.{string_bytes, string_cmp}
use Rattle.std.proofs.lemmas.Map.Text.{btree_map_updates_text, is_eq-slice_cmp}
use Rattle.hu_shelf.specs.declared.keeper.KeepFault.{KeepFault}
use Rattle.hu_shelf.specs.declared.keeper.KeepFault.TheVariants.{Failed, NoMemory}
use Rattle.hu_io.specs.Count.{Counts}
use Rattle.hu_shelf.specs.DiskKeeper.{system_keeper}
use Rattle.hu_io.specs.Count.{one_more}
use Rattle.hu_io.specs.Plan.{after_call, next_fails}
use Rattle.hu_shelf.specs.MemoryKeeper.{KeeperView, after_load, keeper_faults, keeper_state}
use Rattle.hu_shelf.specs.Keeper.{Fails, Loads, Replaces, with_text}

-- a count that rose, and texts that aren't told
rose_untold : (old new : ℕ) (name : List ℕ) → min (old + 1) (2 ^ 64 - 1) ≤ new → old ≤ new → Fails (system_keeper old) (system_keeper new) name
rose_untold old new name rose later = record { rose = rose; stays = record { texts = refl; later = λ _. later; plan = refl } }

pub Loads-counted : {E : Type 0} (result : Result ℕ E) (old new : ℕ) (name : List ℕ) (at : ℕ) (into : List ℕ) → Counts result old new
    → Loads (system_keeper old) (system_keeper new) name at into result
Loads-counted (Ok n) old new name at into counts = record { told = tt; same = ap system_keeper counts }
Loads-counted (Err _) old new name at into counts = rose_untold old new name (omega (arith, counts.0)) counts.1

pub Replaces-counted : (result : Result (Unit {0}) KeepFault) (old new : ℕ) (name text : List ℕ) → Counts result old new
    → Replaces (system_keeper old) (system_keeper new) name text result
Replaces-counted (Ok _) old new name text counts = ap system_keeper counts
Replaces-counted (Err Failed) old new name text counts = rose_untold old new name (omega (arith, counts.0)) counts.1
Replaces-counted (Err NoMemory) old new name text counts = record { texts = refl; later = λ _. counts.1; plan = refl }

-- the pairs (name, text) of a map's entries
abbrev pub pairs_of : {Y X : Type 0} → List (String Y × Vec ℕ X) → List (List ℕ × List ℕ)
pairs_of es = map (λ e. (string_bytes e.0, e.1.items)) es

-- the text that was found, or the empty one
abbrev pub items_in : {X : Type 0} → Option (Vec ℕ X) → List ℕ
items_in found = unwrap_or (option_map (λ v. v.items) found) []

-- the pairs find by its bytes what the entries find by the order of texts
lookup-pairs : {Y X : Type 0} (name : List ℕ) (es : List (String Y × Vec ℕ X))
    → content_in (pairs_of es) name ≡ option_map (λ v. v.items) (lookup (λ k. is_eq (slice_cmp nat_cmp name (string_bytes k))) es)
lookup-pairs name [] = refl
lookup-pairs name ((k, v) ∷ es) = rw is_eq-slice_cmp (chosen (bytes_eq name (string_bytes k)) v _ _ (lookup-pairs name es))
  where
    chosen : {X : Type 0} (b : Bool) (v : Vec ℕ X) (p : Option (List ℕ)) (q : Option (Vec ℕ X)) → p ≡ option_map (λ w. w.items) q
        → cond b (Some v.items) p ≡ option_map (λ w. w.items) (cond b (Some v) q)
    chosen true v p q same = refl
    chosen false v p q same = same

pub text-pairs : {Y X : Type 0} (m : BTreeMap (String Y) (Vec ℕ X)) (name : List ℕ)
    → content_or_empty (pairs_of m.entries) name ≡ items_in (get_by_text m name)
text-pairs m name = ap (λ found. unwrap_or found []) (lookup-pairs name m.entries)

items-chosen : {X : Type 0} (b : Bool) (v : Vec ℕ X) (found : Option (Vec ℕ X)) → items_in (cond b (Some v) found) ≡ cond b v.items (items_in found)
items-chosen true v found = refl
items-chosen false v found = refl

-- a text that is set at a name stands there, and the other names are as before
pub texts-set : {Y X : Type 0} (name : List ℕ) (m n : BTreeMap (String Y) (Vec ℕ X)) (v : Vec ℕ X)
    → UpdatesBy string_cmp (λ k. slice_cmp nat_cmp name (string_bytes k)) m n (Some v)
    → content_or_empty (pairs_of n.entries) ≡ with_text name v.items (content_or_empty (pairs_of m.entries))
texts-set name m n v updates = fun_ext (λ other.
    text-pairs n other
    ∙ ap items_in (btree_map_updates_text name m n (Some v) updates other)
    ∙ items-chosen (bytes_eq name other) v (get_by_text m other)
    ∙ ap (cond (bytes_eq name other) v.items) (sym (text-pairs m other)))

-- a call that is to fail
failed_call : KeeperView → KeeperView
failed_call m = record m { plan = after_call m.plan; failed = one_more m.failed }

rose_by_plan : (failing : List ℕ) (calls failed : ℕ) → list_any (λ call. call == one_more calls) failing ≡ true
    → one_more (if length failing == 0 then 0 else failed) ≤ (if length failing == 0 then 0 else one_more failed)
rose_by_plan [] calls failed fails = absurd (cc)
rose_by_plan (call ∷ more) calls failed fails = grind (arith, nat_tests)

fails_by_plan : (m : KeeperView) (name : List ℕ) → next_fails m.plan ≡ true → keeper_faults m ≤ keeper_faults (failed_call m)
    → Fails (keeper_state m) (keeper_state (failed_call m)) name
unfolding failed_call
fails_by_plan m name fails later = record {
  rose = rose_by_plan m.plan.failing m.plan.calls m.failed fails;
  stays = record { texts = refl; later = λ _. later; plan = refl };
}

pub Fails-planned : (m new : KeeperView) (name : List ℕ) → next_fails m.plan ≡ true → new ≡ after_load m → keeper_faults m ≤ keeper_faults new
    → Fails (keeper_state m) (keeper_state new) name
unfolding failed_call
Fails-planned m new name fails after later =
    let is : new ≡ failed_call m = after ∙ rw fails refl in
    rw is (fails_by_plan m name fails (rw is at later))
