-- Numbers of records, and the refusals of functions and coroutines.
use Rattle.std.proofs.Common.{◌≡◌, ℕ, zero, suc, ◌+◌, ◌≤◌, List, [], ◌∷◌, Option, Some, None, length, map, take, Bool, true, false, cond, refl, sym, ap, ◌∙◌, arith, ⊎_elim}
use Rattle.std.specs.Prelude.{nat_eq, slice_get, position, ◌||◌}
use Rattle.std.specs.List.{list_any, position_from}
use Rattle.std.specs.Option.{option_map}
use Rattle.std.proofs.lemmas.Bool.Decides.{eqb_tells}
use Rattle.std.proofs.lemmas.Iterator.Adapters.{position_from-zero}
use Rattle.std.proofs.lemmas.Option.{slice_get_past}
use Rattle.std.proofs.lemmas.List.{length-map}
use Rattle.list_laws.proofs.Items.{some_same}
use Rattle.table_core.specs.declared.value.FuncId.{FuncId}
use Rattle.machine_sound.proofs.Lists.{get_map}
use Rattle.image_core.specs.Visit.{place}
use Rattle.image_core.specs.Records.{same_part}
use Rattle.lua_heap.specs.declared.world.Coro.{Coro}
use Rattle.lua_heap.specs.Plain.{coroutine}
use Rattle.graph_core.specs.declared.object.Object.{Object}
use Rattle.graph_core.specs.Objects.{part}
use Rattle.graph_core.proofs.Meeting.{object_eq, object_same}
use Rattle.eris_write.specs.Refusals.{Cause, active, if_found}

abbrev Found : List Object → Object → Option ℕ
Found keys o = place same_part (map part keys) (part o)

one_on : (i : ℕ) (p : Option ℕ) → option_map (λ n. (i + 1) + n) p ≡ option_map (λ n. i + n) (option_map suc p)
one_on i None = refl
one_on i (Some n) = let e : (i + 1) + n ≡ i + suc n = omega arith in ap Some e

from : (keys : List Object) (o : Object) (i : ℕ) → position_from (object_eq o) i keys ≡ option_map (λ n. i + n) (Found keys o)
from [] o i = refl
from (x ∷ xs) o i = rw (object_same o x) (go (same_part (part x) (part o)) (from xs o (i + 1) ∙ one_on i (Found xs o)))
  where
    go : (b : Bool) → position_from (object_eq o) (i + 1) xs ≡ option_map (λ n. i + n) (option_map suc (Found xs o))
        → cond b (Some i) (position_from (object_eq o) (i + 1) xs) ≡ option_map (λ n. i + n) (cond b (Some 0) (option_map suc (Found xs o)))
    go true h = let e : i ≡ i + 0 = omega arith in ap Some e
    go false h = h

from_zero : (p : Option ℕ) → option_map (λ n. 0 + n) p ≡ p
from_zero None = refl
from_zero (Some n) = let e : 0 + n ≡ n = omega arith in ap Some e

pub place_is : (keys : List Object) (o : Object) → position (object_eq o) keys ≡ place same_part (map part keys) (part o)
place_is keys o = position_from-zero (object_eq o) keys ∙ (from keys o 0 ∙ from_zero (Found keys o))

-- functions among some

abbrev numbers : List FuncId → List ℕ
numbers fs = map (λ (f : FuncId). f.0) fs

pub any_found : (n at : ℕ) (fs : List FuncId) (f : FuncId) → slice_get fs at ≡ Some f → f.0 ≡ n → true ≡ list_any (nat_eq n) (numbers fs)
any_found n at [] f g e = absurd (cc)
any_found n zero (x ∷ xs) f g e = let k : n ≡ x.0 = sym e ∙ ap (λ (f : FuncId). f.0) (some_same f x (sym g)) in ⊎_elim (λ s. ap (λ b. b || list_any (nat_eq n) (numbers xs)) (sym s.0)) (λ s. absurd (s.1 k)) (eqb_tells n x.0)
any_found n (suc at) (x ∷ xs) f g e = go (nat_eq n x.0) (any_found n at xs f g e)
  where
    go : (b : Bool) → true ≡ list_any (nat_eq n) (numbers xs) → true ≡ b || list_any (nat_eq n) (numbers xs)
    go true h = refl
    go false h = h

pub any_next : (n at : ℕ) (fs : List FuncId) (f : FuncId) → slice_get fs at ≡ Some f → (f.0 ≡ n → ⊥) → list_any (nat_eq n) (numbers (take at fs)) ≡ false → list_any (nat_eq n) (numbers (take (suc at) fs)) ≡ false
any_next n at [] f g e h = absurd (cc)
any_next n zero (x ∷ xs) f g e h = ⊎_elim (λ s. absurd (e (ap (λ (f : FuncId). f.0) (some_same f x (sym g)) ∙ sym s.1))) (λ s. ap (λ b. b || false) s.0) (eqb_tells n x.0)
any_next n (suc at) (x ∷ xs) f g e h = go (nat_eq n x.0) h (λ k. any_next n at xs f g e k)
  where
    go : (b : Bool) → b || list_any (nat_eq n) (numbers (take at xs)) ≡ false → (list_any (nat_eq n) (numbers (take at xs)) ≡ false → list_any (nat_eq n) (numbers (take (suc at) xs)) ≡ false)
        → b || list_any (nat_eq n) (numbers (take (suc at) xs)) ≡ false
    go true h k = absurd (cc)
    go false h k = k h

-- coroutines

pub no_coroutine : (texts : List (List ℕ)) (cs : List Coro) (n : ℕ) → length cs ≤ n → None ≡ if_found active (slice_get (map (coroutine texts) cs) n)
no_coroutine texts cs n l = let m = length-map cs (coroutine texts) in sym (ap (if_found active) (slice_get_past (map (coroutine texts) cs) n (omega (arith, l, m))))

pub coroutine_there : (texts : List (List ℕ)) (cs : List Coro) (n : ℕ) (c : Coro) (r : Option Cause) → slice_get cs n ≡ Some c → r ≡ active (coroutine texts c) → r ≡ if_found active (slice_get (map (coroutine texts) cs) n)
coroutine_there texts cs n c r g e = e ∙ sym (ap (if_found active) (get_map (coroutine texts) cs n c g))
