-- What is read by what permanents stand for: the reader, the code, and that what is accepted leaves a sound world.
use Rattle.std.proofs.Common.{◌≡◌, ◌<◌, ◌+◌, ◌++◌, length, ℕ, zero, suc, length-append, List, [], ◌∷◌, Option, Some, None, Bool, true, false, cond, map, refl, ap, ap₂, sym, subst, ◌∙◌, arith}
use Rattle.std.specs.Prelude.{is_some, slice_get, Result, Ok, Err, IsTrue, nat_eq}
use Rattle.std.specs.List.{list_any}
use Rattle.std.proofs.Math.Path.{fun_ext}
use Rattle.chunk_check.specs.Faults.{first_fault}
use Rattle.chunk_check.proofs.Exact.{checked_without_faults}
use Rattle.code_core.specs.Prototype.{Prototype}
use Rattle.int_core.specs.Value.{Kind, a_table, a_function, a_coroutine, Value, known, object, primitive, string, integer, boolean, nil, bind}
use Rattle.int_core.specs.Operations.{is_function}
use Rattle.list_laws.proofs.Items.{some_same}
use Rattle.machine_sound.proofs.Lists.{get_within}
use Rattle.image_core.proofs.Lists.{chosen_get, map_some}
use Rattle.machine_core.specs.World.{Function, World}
use Rattle.machine_sound.specs.Sound.{Each, Sizes, sizes, Valid, Solid}
use Rattle.image_core.specs.Image.{PermKey, Perm, Item, plain, numbered, permanent, environment, Image, Record}
use Rattle.image_core.specs.Loading.{Target, kind_in, is_of, rank, new_number, numbered_value, value_made, table_made, function_made, coroutine_made, chosen, loaded}
use Rattle.image_core.proofs.Making.{table_told, table_makes, function_told, function_makes, coroutine_told, coroutine_makes}
use Rattle.image_bytes.specs.Bytes.{Reader, is_sort, sort_at, sort_byte, with_sorts, read_image}
use Rattle.image_bytes.specs.Format.{read}
use Rattle.image_sound.specs.Fitting.{IsReaderOf, reads}
use Rattle.image_sound.specs.Reads.{All, ItemRead}
use Rattle.image_sound.proofs.Given.{read_images_right, numbers_name_records}
use Rattle.image_sound.specs.SoundImage.{Host, IsSoundImage, IsTarget}
use Rattle.image_sound.proofs.Deciding.{accepted_is_sound}
use Rattle.image_sound.proofs.Loads.{loaded_sound}
use Rattle.image_saved.specs.Permanents.{same_key, object_named, target}
use Rattle.image_records.specs.Names.{sort_of_object, perms_of, code_of as code_kept}
use Rattle.image_records.specs.declared.known.Known.{Known}
use Rattle.image_records.specs.declared.record.Image.{Image as KeptImage}
use Rattle.image_reading.specs.Reader.{of_value, same_row_key, no_fault, row_key, reader, reader_of}
use Rattle.image_reading.specs.Reads.{Reads as ReadsKnown}
use Rattle.image_reading.specs.declared.fault.ReadFault.{ReadFault}
use Rattle.image_reading.specs.declared.fault.ReadFault.TheVariants.{Refused, Memory as NoMemory}
use Rattle.image_sound.proofs.Fitted.{fitted}
use Rattle.lua_heap.specs.declared.world.World.{World as Memory}
use Rattle.lua_heap.specs.Plain.{plain as shown}
use Rattle.eris_read.specs.Known.{IsKnown}
use Rattle.eris_read.specs.Unpersist.{code_of, code_named, reads_for, AreThere, Reads}

-- the reader of what is known is that of the permanents

abbrev reader_by : (PermKey → Option Kind) → (Item → Item → Bool) → Reader
reader_by sort same = record {
  sorts = [];
  sort_named = sort;
  same_key = same;
  is_checked = λ p. no_fault (first_fault p);
}

module _ (ps qs : List Perm) (env : ℕ) (same : (name : PermKey) → object_named ps name ≡ object_named qs name) where
  same_row : (i : Item) → row_key ps env i ≡ row_key qs env i
  same_row (plain p) = refl
  same_row (numbered n) = refl
  same_row (permanent kind name) = ap of_value (same name)
  same_row environment = refl

  same_reader : reader ps env ≡ reader qs env
  same_reader =
      ap (λ (s : PermKey → Option Kind). reader_by s (λ a b. same_row_key (row_key ps env a) (row_key ps env b))) (fun_ext (λ name. ap sort_of_object (same name)))
      ∙ ap (reader_by (λ name. sort_of_object (object_named qs name))) (fun_ext (λ a. fun_ext (λ b. ap₂ same_row_key (same_row a) (same_row b))))

module _ (W : Memory) (perms : List Perm) (known : Known) (is : IsKnown W perms known) (roots : ℕ) (bytes : List ℕ) where
  reader_is : reader_of known ≡ reader perms W.prelude.env.0
  reader_is = ap (reader (perms_of known)) is.environment ∙ same_reader (perms_of known) perms W.prelude.env.0 is.objects

  code_is : code_kept known ≡ code_named (shown W 0) perms
  code_is = fun_ext is.codes

  reads_are : reads (reader_of known) (code_kept known) roots bytes ≡ reads_for (shown W 0) perms roots bytes
  reads_are = ap (λ (R : Reader). reads R (code_kept known) roots bytes) reader_is ∙ ap (λ (c : PermKey → Option Prototype). reads (reader perms W.prelude.env.0) c roots bytes) code_is

  pub reads_known : (result : Result KeptImage ReadFault) → ReadsKnown known roots bytes result → Reads W perms roots bytes result
  reads_known (Ok I) h = (h.0, sym reads_are ∙ h.1)
  reads_known (Err (Refused why)) h = sym reads_are ∙ h
  reads_known (Err NoMemory) h = tt

-- what a reader was handed is there

abbrev host : ℕ → World → List Perm → Image → Host
host primitives V perms I = record { primitives = primitives; world = V; target = target V perms; records = I.records }

no_fault_is : {A : Type 0} (o : Option A) → no_fault o ≡ true → o ≡ None
no_fault_is None h = refl
no_fault_is (Some x) h = absurd (cc)

valid_named : (z : Sizes) (perms : List Perm) (key : PermKey) → Each (λ p. Valid z p.object) perms → Valid z (object_named perms key)
valid_named z [] key h = tt
valid_named z (p ∷ ps) key h = by (same_key p.key key) (h 0 p refl) (valid_named z ps key (λ i q e. h (suc i) q e))
  where
    by : (b : Bool) → Valid z p.object → Valid z (object_named ps key) → Valid z (cond b p.object (object_named ps key))
    by true v w = v
    by false v w = w

function_sort : (v : Value) → is_sort a_function (sort_of_object v) ≡ true → IsTrue (is_function v)
function_sort (known (primitive n)) h = refl
function_sort (object a_function n) h = refl
function_sort _ h = absurd (cc)

code_there : (V : World) (v : Value) (p : Prototype) → code_of V v ≡ Some p → (n : ℕ) × (f : Function) × (v ≡ object a_function n) × (slice_get V.functions n ≡ Some f) × (f.code ≡ p)
code_there V (known q) p h = absurd (cc)
code_there V (object a_table n) p h = absurd (cc)
code_there V (object a_coroutine n) p h = absurd (cc)
code_there V (object a_function n) p h = let m = map_some (λ (f : Function). f.code) (slice_get V.functions n) p h in (n, m.0, refl, m.1, m.2)

is_reader : (primitives : ℕ) (V : World) (perms : List Perm) (I : Image) → AreThere primitives V perms → IsReaderOf (reader perms V.prelude_environment) (code_named V perms) (host primitives V perms I)
is_reader primitives V perms I there = record {
  checked = λ p h. checked_without_faults p (no_fault_is (first_fault p) h);
  there = λ kind key h. valid_named (sizes primitives V) perms key there.each;
  functions = λ key h. function_sort (object_named perms key) h;
  code = λ key p h. code_there V (object_named perms key) p h;
}

pub sound_image : (primitives : ℕ) (V : World) (perms : List Perm) (I : Image) (roots met : ℕ) (bytes : List ℕ) → AreThere primitives V perms → reads_for V perms roots bytes ≡ read I met []
    → IsSoundImage (host primitives V perms I)
sound_image primitives V perms I roots met bytes there e =
    accepted_is_sound (reader perms V.prelude_environment) (code_named V perms) (host primitives V perms I) roots met I bytes (is_reader primitives V perms I there) refl e

-- what is made of a record stands behind what was there
below_new : {B : Type 0} (rs : List Record) (made : Record → Option B) (is : Record → Bool) → ((r : Record) → is r ≡ is_some (made r))
    → (old : List B) (count n : ℕ) (r : Record) → count ≡ length old → slice_get rs n ≡ Some r → (t : B) × (made r ≡ Some t) → count + rank is rs n < length (old ++ chosen made rs)
below_new rs made is told old count n r same g t =
    let w = get_within (chosen made rs) (rank is rs n) t.0 (chosen_get is made told rs n r t.0 g t.1) in
    let l = length-append old (chosen made rs) in
    omega (arith, w, l, same)

-- the roots of what is loaded are there

module _ (primitives : ℕ) (V : World) (T : Target) (rs : List Record) (is : IsTarget T V) (solid : Solid primitives V) where
  new_there : (n : ℕ) (r : Record) (kind : Kind) → slice_get rs n ≡ Some r → kind_in r ≡ Some kind → Valid (sizes primitives (loaded T rs V)) (object kind (new_number T rs kind n))
  new_there n r a_table g e = below_new rs (table_made T rs) (is_of a_table) (table_told T rs) V.heap.tables T.tables n r is.tables g (table_makes T rs r e)
  new_there n r a_function g e = below_new rs (function_made T rs) (is_of a_function) (function_told T rs) V.functions T.functions n r is.functions g (function_makes T rs r e)
  new_there n r a_coroutine g e = below_new rs (coroutine_made T rs) (is_of a_coroutine) (coroutine_told T rs) V.coroutines T.coroutines n r is.coroutines g (coroutine_makes T rs r e)

  old_there : (v : Value) → Valid (sizes primitives V) v → Valid (sizes primitives (loaded T rs V)) v
  old_there (known p) h = h
  old_there (object a_table n) h = let l = length-append V.heap.tables (chosen (table_made T rs) rs) in omega (arith, l, h)
  old_there (object a_function n) h = let l = length-append V.functions (chosen (function_made T rs) rs) in omega (arith, l, h)
  old_there (object a_coroutine n) h = let l = length-append V.coroutines (chosen (coroutine_made T rs) rs) in omega (arith, l, h)

  item_there : (R : Reader) → R.sorts ≡ map sort_byte rs → ((kind : Kind) (key : PermKey) → is_sort kind (R.sort_named key) ≡ true → Valid (sizes primitives V) (T.named kind key)) → (i : Item) → ItemRead R i
      → Valid (sizes primitives (loaded T rs V)) (value_made T rs i)
  item_there R sorts there (plain nil) h = tt
  item_there R sorts there (plain (boolean b)) h = tt
  item_there R sorts there (plain (integer n)) h = tt
  item_there R sorts there (plain (string s)) h = h
  item_there R sorts there (plain (primitive n)) h = absurd h
  item_there R sorts there (numbered n) h =
      let k = numbers_name_records rs n (subst (λ s. list_any (nat_eq (sort_at s n)) (1 ∷ 2 ∷ 4 ∷ []) ≡ true) sorts h) in
      subst (λ o. Valid (sizes primitives (loaded T rs V)) (numbered_value T rs n o)) (sym (ap (λ o. bind o kind_in) k.2 ∙ k.3)) (new_there n k.0 k.1 k.2 k.3)
  item_there R sorts there (permanent kind key) h = old_there (T.named kind key) (there kind key h)
  item_there R sorts there environment h =
      let l = length-append V.heap.tables (chosen (table_made T rs) rs) in
      let e = is.environment in
      let o = solid.roots.prelude_environment in
      omega (arith, l, e, o)

  all_there : (R : Reader) → R.sorts ≡ map sort_byte rs → ((kind : Kind) (key : PermKey) → is_sort kind (R.sort_named key) ≡ true → Valid (sizes primitives V) (T.named kind key)) → (is : List Item) → All (ItemRead R) is
      → Each (Valid (sizes primitives (loaded T rs V))) (map (value_made T rs) is)
  all_there R sorts there [] h i v e = absurd (cc)
  all_there R sorts there (x ∷ xs) h zero v e = subst (Valid (sizes primitives (loaded T rs V))) (some_same _ v e) (item_there R sorts there x h.0)
  all_there R sorts there (x ∷ xs) h (suc i) v e = all_there R sorts there xs h.1 i v e

pub is_target : (V : World) (perms : List Perm) → IsTarget (target V perms) V
is_target V perms = record { tables = refl; functions = refl; coroutines = refl; cells = refl; environment = refl }

pub solid_loaded : (primitives : ℕ) (V : World) (perms : List Perm) (I : Image) (roots met : ℕ) (bytes : List ℕ) → Solid primitives V → AreThere primitives V perms → reads_for V perms roots bytes ≡ read I met []
    → Solid primitives (loaded (target V perms) I.records V)
solid_loaded primitives V perms I roots met bytes solid there e =
    loaded_sound (host primitives V perms I) (is_target V perms) solid (sound_image primitives V perms I roots met bytes there e)

pub roots_loaded : (primitives : ℕ) (V : World) (perms : List Perm) (I : Image) (roots met : ℕ) (bytes : List ℕ) → Solid primitives V → AreThere primitives V perms → reads_for V perms roots bytes ≡ read I met []
    → Each (Valid (sizes primitives (loaded (target V perms) I.records V))) (map (value_made (target V perms) I.records) I.roots)
roots_loaded primitives V perms I roots met bytes solid there e =
    let R : Reader = reader perms V.prelude_environment in
    let h = read_images_right R roots met I bytes (fitted (code_named V perms) (read_image R roots bytes) I met e) in
    all_there primitives V (target V perms) I.records (is_target V perms) solid (with_sorts R (map sort_byte I.records)) refl (λ kind key k. valid_named (sizes primitives V) perms key there.each) I.roots h.roots_read
