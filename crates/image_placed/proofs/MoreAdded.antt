-- Strings and code that are added: what one call after another adds.
use Rattle.std.proofs.Common.{◌≡◌, ℕ, zero, suc, ◌+◌, ◌<◌, List, [], ◌∷◌, ◌++◌, Option, Some, None, map, length, refl, ap, sym, subst, ◌∙◌, arith, length-append}
use Rattle.std.specs.Prelude.{slice_get}
use Rattle.std.specs.List.{AllZip}
use Rattle.code_core.specs.Prototype.{Prototype}
use Rattle.machine_sound.specs.Sound.{Sound}
use Rattle.machine_sound.proofs.Lists.{get_front}
use Rattle.image_core.specs.Image.{Record, function_record}
use Rattle.image_records.specs.Views.{record_read}
use Rattle.image_records.specs.declared.record.Record.{Record as KeptRecord}
use Rattle.lua_heap.specs.declared.codes.Code.{Code}
use Rattle.lua_heap.specs.declared.codes.Codes.{Codes}
use Rattle.lua_heap.specs.declared.codes.Tree.{Tree}
use Rattle.lua_heap.specs.declared.world.World.{World as Memory}
use Rattle.lua_heap.specs.Adding.{Begins, AddsCode, KeepsCode}
use Rattle.lua_heap.specs.Changes.{Interns}
use Rattle.lua_heap.specs.Codes.{functions, functions_in, preorder, prototype_at, code_or_none, AreCodes}
use Rattle.lua_heap.specs.Plain.{plain}
use Rattle.lua_heap.proofs.Added.{begins_same, begins_more, begins_interned}
use Rattle.std.specs.declared.vec.Vec.{Vec}
use Rattle.std.specs.declared.alloc.Global.{Global}
use Rattle.table_core.specs.declared.value.ProtoId.{ProtoId}
use Rattle.image_placed.specs.declared.texts.Part.{Part}
use Rattle.image_placed.specs.declared.texts.Part.TheVariants.{Function, Other}
use Rattle.image_placed.specs.Placing.{AddsMore, part_read, HasCode, IsPart, ArePartsOf}

pub begins_is : {A : Type 0} (xs ys : List A) → ys ≡ xs → Begins A xs ys
begins_is xs ys e = subst (λ zs. Begins _ xs zs) (sym e) (begins_same xs)

pub adds_none : (W : Memory) → AddsMore W W
adds_none W = record {
  strings = begins_same W.strings;
  trees = begins_same W.codes.trees.items;
  list = begins_same W.codes.list.items;
  functions = begins_same (functions W.codes);
  rest = refl;
  plain = λ primitives fuel sound. refl;
  codes = λ h. h;
}

pub adds_is : (a b : Memory) → b ≡ a → AddsMore a b
adds_is a b e = subst (AddsMore a) (sym e) (adds_none a)

pub adds_then : (a b c : Memory) → AddsMore a b → AddsMore b c → AddsMore a c
adds_then a b c g h = record {
  strings = begins_more a.strings b.strings c.strings g.strings h.strings;
  trees = begins_more a.codes.trees.items b.codes.trees.items c.codes.trees.items g.trees h.trees;
  list = begins_more a.codes.list.items b.codes.list.items c.codes.list.items g.list h.list;
  functions = begins_more (functions a.codes) (functions b.codes) (functions c.codes) g.functions h.functions;
  rest = h.rest ∙ ap (λ (W : Memory). record W { strings = c.strings; codes = c.codes }) g.rest;
  plain = λ primitives fuel sound. h.plain primitives fuel (subst (Sound primitives) (sym (g.plain primitives fuel sound)) sound) ∙ g.plain primitives fuel sound;
  codes = λ k. h.codes (g.codes k);
}

pub adds_text : (old new : Memory) (text : List ℕ) → Interns old new text → AddsMore old new
adds_text old new text i =
    let same : new.codes ≡ old.codes = ap (λ (W : Memory). W.codes) i.rest in
    record {
      strings = begins_interned old.strings new.strings text i.strings;
      trees = begins_is old.codes.trees.items new.codes.trees.items (ap (λ (c : Codes). c.trees.items) same);
      list = begins_is old.codes.list.items new.codes.list.items (ap (λ (c : Codes). c.list.items) same);
      functions = begins_is (functions old.codes) (functions new.codes) (ap functions same);
      rest = i.rest ∙ ap (λ (c : Codes). record old { strings = new.strings; codes = c }) (sym same);
      plain = i.plain;
      codes = i.codes;
    }

pub adds_code : (old new : Memory) (p : Prototype) → AddsCode old new p → AddsMore old new
adds_code old new p a = record {
  strings = a.strings;
  trees = a.trees;
  list = a.list;
  functions = record { more = p ∷ preorder p.inner; is = a.functions };
  rest = a.rest;
  plain = a.plain;
  codes = λ h. a.codes;
}

pub keeps_code : (old new : Memory) → KeepsCode old new → AddsMore old new
keeps_code old new k =
    let strings : new.strings ≡ old.strings = ap (λ (W : Memory). W.strings) k.rest in
    record {
      strings = begins_is old.strings new.strings strings;
      trees = begins_is old.codes.trees.items new.codes.trees.items k.trees;
      list = begins_is old.codes.list.items new.codes.list.items k.list;
      functions = begins_is (functions old.codes) (functions new.codes) (ap functions_in k.trees);
      rest = k.rest ∙ ap (λ (texts : List (List ℕ)). record old { strings = texts; codes = new.codes }) (sym strings);
      plain = λ primitives fuel sound. k.plain fuel;
      codes = k.codes;
    }

-- the part of a function whose code was added

get_middle : {A : Type 0} (xs ys : List A) (x : A) → slice_get (xs ++ x ∷ ys) (length xs) ≡ Some x
get_middle [] ys x = refl
get_middle (z ∷ xs) ys x = get_middle xs ys x

pub code_part : (old new : Memory) (p : Prototype) (id : ProtoId) (cells : Vec ℕ Global) (r : Record) → AddsCode old new p → id.0 ≡ length (functions old.codes)
    → function_record p cells.items ≡ r → IsPart (functions new.codes) (Function id cells) r
code_part old new p id cells r a e is =
    let there : slice_get (functions new.codes) id.0 ≡ Some p =
    ap (λ ps. slice_get ps id.0) a.functions ∙ ap (slice_get (functions old.codes ++ p ∷ preorder p.inner)) e ∙ get_middle (functions old.codes) (preorder p.inner) p in
    let l = length-append (functions old.codes) (p ∷ preorder p.inner) in
    let m = ap length a.functions in
    record {
      is = ap (λ q. function_record q cells.items) (ap code_or_none there) ∙ is;
      there = omega (arith, e, l, m);
    }

pub other_part : (ps : List Prototype) (r : KeptRecord) → IsPart ps (Other r) (record_read r)
other_part ps r = record { is = refl; there = tt }

part_grows : (ps more : List Prototype) (part : Part) (r : Record) → IsPart ps part r → IsPart (ps ++ more) part r
part_grows ps more (Function code cells) r h =
    let l = length-append ps more in
    let lt = h.there in
    record {
      is = ap (λ q. function_record q cells.items) (ap code_or_none (get_front ps more code.0 lt)) ∙ h.is;
      there = omega (arith, l, lt);
    }
part_grows ps more (Other x) r h = record { is = h.is; there = tt }

parts_by : (ps more : List Prototype) (parts : List Part) (rs : List Record) → ArePartsOf ps parts rs → ArePartsOf (ps ++ more) parts rs
parts_by ps more [] [] h = tt
parts_by ps more [] (r ∷ rs) h = absurd h
parts_by ps more (p ∷ parts) [] h = absurd h
parts_by ps more (p ∷ parts) (r ∷ rs) h = (part_grows ps more p r h.0, parts_by ps more parts rs h.1)

zip_push : {A B : Type 0} (R : A → B → Type 0) (xs : List A) (ys : List B) (x : A) (y : B) → AllZip R xs ys → R x y → AllZip R (xs ++ x ∷ []) (ys ++ y ∷ [])
zip_push R [] [] x y h r = (r, tt)
zip_push R [] (b ∷ ys) x y h r = absurd h
zip_push R (a ∷ xs) [] x y h r = absurd h
zip_push R (a ∷ xs) (b ∷ ys) x y h r = (h.0, zip_push R xs ys x y h.1 r)

pub map_push : {A B : Type 0} (f : A → B) (xs : List A) (x : A) → map f (xs ++ x ∷ []) ≡ map f xs ++ f x ∷ []
map_push f [] x = refl
map_push f (y ∷ xs) x = ap (λ l. f y ∷ l) (map_push f xs x)

pub parts_more : (a b : Memory) (parts new : List Part) (rs : List KeptRecord) (part : Part) (r : KeptRecord) → AddsMore a b → ArePartsOf (functions a.codes) parts (map record_read rs)
    → IsPart (functions b.codes) part (record_read r) → new ≡ parts ++ part ∷ [] → ArePartsOf (functions b.codes) new (map record_read (rs ++ r ∷ []))
parts_more a b parts new rs part r g h k e =
    let grown : ArePartsOf (functions b.codes) parts (map record_read rs) =
    subst (λ ps. ArePartsOf ps parts (map record_read rs)) (sym g.functions.is) (parts_by (functions a.codes) g.functions.more parts (map record_read rs) h) in
    subst (λ l. ArePartsOf (functions b.codes) l (map record_read (rs ++ r ∷ []))) (sym e)
    (subst (ArePartsOf (functions b.codes) (parts ++ part ∷ [])) (sym (map_push record_read rs r)) (zip_push (IsPart (functions b.codes)) parts (map record_read rs) part (record_read r) grown k))
