-- Permanents by their keys: of several with one key the first counts.
use Rattle.std.proofs.Common.{◌≡◌, ℕ, zero, suc, ◌+◌, ◌<◌, ◌≤◌, List, [], ◌∷◌, ◌++◌, Some, map, take, length, Bool, true, false, cond, refl, sym, ap, ◌∙◌, append_assoc, append-nil, arith}
use Rattle.std.specs.Prelude.{slice_get}
use Rattle.std.specs.Option.{option_map}
use Rattle.code_core.specs.Prototype.{Prototype}
use Rattle.std.proofs.lemmas.List.{length-map}
use Rattle.code_core.specs.Check.{IsChecked}
use Rattle.int_core.specs.Value.{a_function, object}
use Rattle.machine_core.specs.World.{World}
use Rattle.machine_sound.specs.Sound.{Valid, sizes}
use Rattle.lua_heap.specs.declared.world.World.{World as Memory}
use Rattle.lua_heap.specs.declared.world.Func.{Func}
use Rattle.lua_heap.specs.Codes.{functions, no_code, prototype_at, code_or_none}
use Rattle.lua_heap.specs.Plain.{plain, function}
use Rattle.lua_heap.proofs.Added.{take_over}
use Rattle.image_core.specs.Image.{PermKey, Perm}
use Rattle.image_saved.specs.Permanents.{same_key, object_named}
use Rattle.image_saved.proofs.Equal.{key_is}
use Rattle.graph_core.specs.declared.permanents.Permanent.{Permanent}
use Rattle.graph_core.specs.declared.permanents.PermanentSort.{PermanentSort}
use Rattle.graph_core.specs.declared.permanents.PermanentSort.TheVariants as sort
use Rattle.graph_core.specs.Permanents.{value_of, object_read}
use Rattle.image_records.specs.declared.record.Key.{Key}
use Rattle.image_records.specs.declared.known.Named.{Named}
use Rattle.image_records.specs.Views.{key}
use Rattle.image_records.specs.Names.{perm, object_of, proto_of, code_in, has_key, added}
use Rattle.eris_read.specs.Unpersist.{CanRead, code_of}
use Rattle.eris_read.specs.Known.{IsFunction, IsObject, IsPermanent, IsSmall, IsSmallNumber}
use Rattle.lua_heap.proofs.Numbered.{checked_there}
use Rattle.image_reading.proofs.Fronts.{map_last}

-- a permanent of another key does not count
passed_by : (ps : List Perm) (p : Perm) (rest : List Perm) (name : PermKey) → same_key p.key name ≡ false → object_named (ps ++ p ∷ rest) name ≡ object_named (ps ++ rest) name
passed_by [] p rest name h = ap (λ b. cond b p.object (object_named rest name)) h
passed_by (x ∷ ps) p rest name h = ap (cond (same_key x.key name) x.object) (passed_by ps p rest name h)

kept : (es : List (Key × Named)) (e : Key × Named) → has_key es (key e.0) ≡ true → (rest : List Perm) (name : PermKey) → object_named (map perm es ++ perm e ∷ rest) name ≡ object_named (map perm es ++ rest) name
kept [] e there rest name = absurd (cc)
kept (x ∷ es) e there rest name = by (same_key (key x.0) (key e.0)) refl (λ again. kept es e again rest name)
  where
    by_name : same_key (key x.0) (key e.0) ≡ true → (b : Bool) → same_key (key x.0) name ≡ b
        → cond b (object_of x.1.object) (object_named (map perm es ++ perm e ∷ rest) name) ≡ cond b (object_of x.1.object) (object_named (map perm es ++ rest) name)
    by_name same true h = refl
    by_name same false h = passed_by (map perm es) (perm e) rest name (ap (λ k. same_key k name) (sym (key_is (key x.0) (key e.0) same)) ∙ h)

    by : (b : Bool) → same_key (key x.0) (key e.0) ≡ b → (has_key es (key e.0) ≡ true → object_named (map perm es ++ perm e ∷ rest) name ≡ object_named (map perm es ++ rest) name)
        → object_named (map perm (x ∷ es) ++ perm e ∷ rest) name ≡ object_named (map perm (x ∷ es) ++ rest) name
    by true same again = by_name same (same_key (key x.0) name) refl
    by false other again = ap (cond (same_key (key x.0) name) (object_of x.1.object)) (again (sym (ap (λ b. cond b true (has_key es (key e.0))) other) ∙ there))

pub object_added : (es : List (Key × Named)) (e : Key × Named) (rest : List Perm) (name : PermKey) → object_named (map perm (added es e) ++ rest) name ≡ object_named (map perm es ++ perm e ∷ rest) name
object_added es e rest name = by (has_key es (key e.0)) refl
  where
    by : (b : Bool) → has_key es (key e.0) ≡ b → object_named (map perm (cond b es (es ++ e ∷ [])) ++ rest) name ≡ object_named (map perm es ++ perm e ∷ rest) name
    by true h = sym (kept es e h rest name)
    by false h = ap (λ ps. object_named (ps ++ rest) name) (map_last perm es e) ∙ ap (λ ps. object_named ps name) (append_assoc (map perm es) (perm e ∷ []) rest)

-- the code that is kept of each is that of its object
abbrev pub HaveCode : World → List (Key × Named) → Type 0
HaveCode V [] = Unit {0}
HaveCode V (e ∷ es) = (proto_of e.1.code ≡ code_of V (object_of e.1.object)) × HaveCode V es

code_last : (V : World) (es : List (Key × Named)) (e : Key × Named) → HaveCode V es → proto_of e.1.code ≡ code_of V (object_of e.1.object) → HaveCode V (es ++ e ∷ [])
code_last V [] e h is = (is, tt)
code_last V (x ∷ es) e h is = (h.0, code_last V es e h.1 is)

pub code_added : (V : World) (es : List (Key × Named)) (e : Key × Named) → HaveCode V es → proto_of e.1.code ≡ code_of V (object_of e.1.object) → HaveCode V (added es e)
code_added V es e h is = by (has_key es (key e.0))
  where
    by : (b : Bool) → HaveCode V (cond b es (es ++ e ∷ []))
    by true = h
    by false = code_last V es e h is

pub code_is : (V : World) (es : List (Key × Named)) (name : PermKey) → HaveCode V es → code_in es name ≡ code_of V (object_named (map perm es) name)
code_is V [] name h = refl
code_is V (e ∷ es) name h = by (same_key (key e.0) name) (code_is V es name h.1)
  where
    by : (b : Bool) → code_in es name ≡ code_of V (object_named (map perm es) name)
        → cond b (proto_of e.1.code) (code_in es name) ≡ code_of V (cond b (object_of e.1.object) (object_named (map perm es) name))
    by true r = h.0
    by false r = r

take-zero : {A : Type 0} (xs : List A) → take 0 xs ≡ []
take-zero [] = refl
take-zero (x ∷ xs) = refl

take_more : {A : Type 0} (xs : List A) (n : ℕ) (x : A) → slice_get xs n ≡ Some x → take (suc n) xs ≡ take n xs ++ x ∷ []
take_more [] n x e = absurd (cc)
take_more (y ∷ xs) zero x e = ap (λ z. z ∷ []) (some_so e)
  where
    some_so : {A : Type 0} {a b : A} → Some a ≡ Some b → a ≡ b
    some_so e = cc
take_more (y ∷ xs) (suc n) x e = ap (λ ys. y ∷ ys) (take_more xs n x e)

-- each key stands for what it stands for among the first permanents, also where others follow
abbrev pub Alike : List (Key × Named) → List Perm → Type 0
Alike es ps = (rest : List Perm) (name : PermKey) → object_named (map perm es ++ rest) name ≡ object_named (ps ++ rest) name

pub alike_more : (es new : List (Key × Named)) (e : Key × Named) (ps : List Perm) (n : ℕ) → new ≡ added es e → Some (perm e) ≡ slice_get ps n → Alike es (take n ps) → Alike new (take (n + 1) ps)
alike_more es new e ps n is there alike rest name =
    let on : n + 1 ≡ suc n = omega arith in
    ap (λ es. object_named (map perm es ++ rest) name) is
    ∙ (object_added es e rest name
    ∙ (alike (perm e ∷ rest) name
    ∙ (sym (ap (λ qs. object_named qs name) (append_assoc (take n ps) (perm e ∷ []) rest))
    ∙ sym (ap (λ qs. object_named (qs ++ rest) name) (ap (λ k. take k ps) on ∙ take_more ps n (perm e) (sym there))))))

pub alike_none : (es : List (Key × Named)) (ps : List Perm) → es ≡ [] → Alike es (take 0 ps)
alike_none es ps e rest name = ap (λ (es : List (Key × Named)). object_named (map perm es ++ rest) name) e ∙ ap (λ (qs : List Perm). object_named (qs ++ rest) name) (sym (take-zero ps))

pub alike_all : (es : List (Key × Named)) (ps : List Perm) (n : ℕ) → length ps ≤ n → Alike es (take n ps) → (name : PermKey) → object_named (map perm es) name ≡ object_named ps name
alike_all es ps n e alike name =
    ap (λ qs. object_named qs name) (sym (append-nil (map perm es)))
    ∙ (alike [] name ∙ ap (λ qs. object_named qs name) (append-nil (take n ps) ∙ take_over n ps e))

-- a permanent is there, with its code

get_there : {A : Type 0} (xs : List A) (n : ℕ) → n < length xs → (x : A) × (slice_get xs n ≡ Some x)
get_there [] n h = absurd (omega (arith, h))
get_there (x ∷ xs) zero h = (x, refl)
get_there (x ∷ xs) (suc n) h = get_there xs n (omega (arith, h))

get_mapped : {A B : Type 0} (f : A → B) (xs : List A) (n : ℕ) (x : A) → slice_get xs n ≡ Some x → slice_get (map f xs) n ≡ Some (f x)
get_mapped f [] n x e = absurd (cc)
get_mapped f (y ∷ xs) zero x e = ap (option_map f) e
get_mapped f (y ∷ xs) (suc n) x e = get_mapped f xs n x e

not_checked : IsChecked no_code → ⊥
unfolding no_code
not_checked h = let e : false ≡ true = h.code.sized in absurd (cc)

module _ (W : Memory) (perms : List Perm) (can : CanRead W perms) where
  function_there : (n : ℕ) → n < length (plain W 0).functions → IsFunction W n
  function_there n h =
      let lt : n < length W.funcs.objects = omega (arith, h, length-map W.funcs.objects (function (functions W.codes))) in
      let f = get_there W.funcs.objects n lt in
      let ok = can.sound.solid.functions n (function (functions W.codes) f.0) (get_mapped (function (functions W.codes)) W.funcs.objects n f.0 f.1) in
      record { function = f.0; there = f.1; code = checked_there (functions W.codes) f.0.code.0 ok.code }

  there : (s : PermanentSort) (n : ℕ) → Valid (sizes can.primitives (plain W 0)) (value_of s n) → IsObject W s n
  there sort.Primitive n h = let few = can.few in omega (arith, h, few)
  there sort.Table n h = tt
  there sort.Func n h = function_there n h
  there sort.Coro n h = tt

  pub permanent_there : (at : ℕ) (o : Permanent) (name : PermKey) → Some (record { object = object_read o; key = name }) ≡ slice_get perms at → IsPermanent W o
  permanent_there at o name e = there o.sort o.number (can.there.each at (record { object = object_read o; key = name }) (sym e))

  pub small_there : (at : ℕ) (o : Permanent) (name : PermKey) → Some (record { object = object_read o; key = name }) ≡ slice_get perms at → IsSmall o
  small_there at o name e = by o.sort o.number (permanent_there at o name e)
    where
      by : (s : PermanentSort) (n : ℕ) → IsObject W s n → IsSmallNumber s n
      by sort.Primitive n h = h
      by sort.Table n h = tt
      by sort.Func n h = tt
      by sort.Coro n h = tt

-- the code of a function that is there
pub code_there : (W : Memory) (n : ℕ) (f : Func) (p : Prototype) → slice_get W.funcs.objects n ≡ Some f → slice_get (functions W.codes) f.code.0 ≡ Some p → Some p ≡ code_of (plain W 0) (object a_function n)
code_there W n f p e is = ap Some (sym (ap code_or_none is)) ∙ sym (ap (option_map (λ f. f.code)) (get_mapped (function (functions W.codes)) W.funcs.objects n f e))
