-- Names of values: the prelude's environment, and permanents.
use Rattle.std.proofs.Common.{◌≡◌, ℕ, ℤ, List, [], ◌∷◌, ◌++◌, Option, Some, None, map, Bool, true, false, cond, refl, sym, ap, ◌∙◌}
use Rattle.std.specs.Prelude.{◌||◌, is_some}
use Rattle.std.specs.Borrow.{Bor}
use Rattle.std.specs.Option.{option_map, option_copied}
use Rattle.std.specs.Map.{lookup}
use Rattle.int_core.specs.Value.{nil, boolean, integer, string, a_table, Value, known, object, same}
use Rattle.table_core.specs.declared.value.Value.{Value as Kept}
use Rattle.table_core.specs.declared.value.Value.TheVariants as kept
use Rattle.image_core.specs.Image.{PermKey, Perm, Item, permanent as permanent_item, environment}
use Rattle.image_core.specs.Records.{Part, key_of, named, sort_of, unless_named}
use Rattle.lua_heap.specs.Reading.{value}
use Rattle.graph_core.specs.declared.permanents.Permanent.{Permanent}
use Rattle.graph_core.specs.declared.permanents.PermanentKey.{PermanentKey}
use Rattle.graph_core.specs.declared.permanents.PermanentSort.{PermanentSort}
use Rattle.graph_core.specs.declared.permanents.PermanentSort.TheVariants.{Primitive, Table, Func, Coro}
use Rattle.graph_core.specs.contracts.permanents.PermanentPartialEq.TheImpl as permanent_impl
use Rattle.graph_core.specs.Permanents.{value_of, object_read, key_read, permanent, stands_for}
use Rattle.graph_core.proofs.Meeting.{equal_turned, map_more}

abbrev pub permanent_eq : Permanent → Permanent → Bool
permanent_eq = (permanent_impl.ghosts).eq

pub read_same : (o p : Permanent) → permanent_eq o p ≡ same (object_read p) (object_read o)
read_same o p = go o.sort p.sort o.number p.number
  where
    go : (s t : PermanentSort) (m n : ℕ) → permanent_eq (record { sort = s; number = m }) (record { sort = t; number = n }) ≡ same (value_of t n) (value_of s m)
    go Primitive Primitive m n = equal_turned m n
    go Table Table m n = equal_turned m n
    go Func Func m n = equal_turned m n
    go Coro Coro m n = equal_turned m n
    go _ _ m n = refl

pub found : (es : List (Permanent × PermanentKey)) (o : Permanent) → option_map key_read (lookup (permanent_eq o) es) ≡ key_of (map permanent es) (object_read o)
found [] o = refl
found (e ∷ es) o = rw (read_same o e.0) (go (same (object_read e.0) (object_read o)) (found es o))
  where
    go : (b : Bool) → option_map key_read (lookup (permanent_eq o) es) ≡ key_of (map permanent es) (object_read o)
        → option_map key_read (cond b (Some e.1) (lookup (permanent_eq o) es)) ≡ cond b (Some (key_read e.1)) (key_of (map permanent es) (object_read o))
    go true h = refl
    go false h = h

no_key : (es : List (Permanent × PermanentKey)) (v : Value) → ((s : PermanentSort) (n : ℕ) → same (value_of s n) v ≡ false) → None ≡ key_of (map permanent es) v
no_key [] v h = refl
no_key (e ∷ es) v h = no_key es v h ∙ sym (ap (λ b. cond b (Some (key_read e.1)) (key_of (map permanent es) v)) (h e.0.sort e.0.number))

not_nil : (s : PermanentSort) (n : ℕ) → same (value_of s n) (known nil) ≡ false
not_nil Primitive n = refl
not_nil _ n = refl

not_truth : (b : Bool) (s : PermanentSort) (n : ℕ) → same (value_of s n) (known (boolean b)) ≡ false
not_truth b Primitive n = refl
not_truth b _ n = refl

not_integer : (k : ℤ) (s : PermanentSort) (n : ℕ) → same (value_of s n) (known (integer k)) ≡ false
not_integer k Primitive n = refl
not_integer k _ n = refl

not_text : (t : List ℕ) (s : PermanentSort) (n : ℕ) → same (value_of s n) (known (string t)) ≡ false
not_text t Primitive n = refl
not_text t _ n = refl

-- the key of what a value stands for
abbrev pub key_at : List (Permanent × PermanentKey) → Option Permanent → Option PermKey
key_at es None = None
key_at es (Some o) = option_map key_read (lookup (permanent_eq o) es)

pub key_found : (es : List (Permanent × PermanentKey)) (texts : List (List ℕ)) (v : Kept) → key_at es (stands_for v) ≡ key_of (map permanent es) (value texts v)
key_found es texts kept.Nil = no_key es (known nil) not_nil
key_found es texts (kept.Bool b) = no_key es (known (boolean b)) (not_truth b)
key_found es texts (kept.Int n) = no_key es (known (integer n)) (not_integer n)
key_found es texts (kept.Str id) = no_key es (value texts (kept.Str id)) (not_text _)
key_found es texts (kept.Prim n) = found es (record { sort = Primitive; number = n })
key_found es texts (kept.Table id) = found es (record { sort = Table; number = id.0 })
key_found es texts (kept.Func id) = found es (record { sort = Func; number = id.0 })
key_found es texts (kept.Coro id) = found es (record { sort = Coro; number = id.0 })

pub is_named : (env : ℕ) (ps : List Perm) (v : Value) (b c : Bool) → b ≡ same (object a_table env) v → c ≡ is_some (key_of ps v) → b || c ≡ is_some (named env ps v)
is_named env ps v b c e f = ap (λ x. x || c) e ∙ ap (λ x. same (object a_table env) v || x) f ∙ go (same (object a_table env) v) (key_of ps v)
  where
    go : (s : Bool) (k : Option PermKey) → s || is_some k ≡ is_some (cond s (Some environment) (option_map (permanent_item (sort_of v)) k))
    go true k = refl
    go false None = refl
    go false (Some k) = refl

pub mapped_some : {A B : Type 0} (f : A → B) (o : Option A) → is_some o ≡ is_some (option_map f o)
mapped_some f None = refl
mapped_some f (Some x) = refl

pub named_parts : (o : Option Item) (ps : List Part) → is_some o ≡ true → [] ≡ unless_named o ps
named_parts None ps h = absurd (cc)
named_parts (Some i) ps h = refl

pub unnamed_parts : (o : Option Item) (ps : List Part) → is_some o ≡ false → ps ≡ unless_named o ps
unnamed_parts None ps h = refl
unnamed_parts (Some i) ps h = absurd (cc)

pub no_parts : (o : Option Item) → unless_named o [] ≡ []
no_parts None = refl
no_parts (Some i) = refl

pub known_key : (es : List (Permanent × PermanentKey)) (o : Permanent) (b : Bool) → is_some (lookup (permanent_eq o) es) ≡ b → is_some (key_of (map permanent es) (object_read o)) ≡ b
known_key es o b h = sym (ap is_some (found es o)) ∙ (sym (mapped_some key_read (lookup (permanent_eq o) es)) ∙ h)

pub none_is : {A : Type 0} (o : Option A) → is_some o ≡ false → o ≡ None
none_is None h = refl
none_is (Some x) h = absurd (cc)

pub added : (es : List (Permanent × PermanentKey)) (e : Permanent × PermanentKey) → map permanent (es ++ e ∷ []) ≡ map permanent es ++ permanent e ∷ []
added es e = map_more permanent es (e ∷ [])

pub key_copied : (r : Option (Bor PermanentKey)) → option_map (λ k. key_read k.now) r ≡ option_map key_read (option_copied r)
key_copied None = refl
key_copied (Some k) = refl
