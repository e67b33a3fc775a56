-- What a new string leaves as it was.
use Rattle.std.proofs.Common.{◌≡◌, ℕ, List, [], ◌∷◌, ◌++◌, map, Bool, true, false, Result, Ok, Err, refl, ap, sym, subst, ◌∙◌, append_assoc}
use Rattle.std.specs.Prelude.{bytes_eq, if◌then◌else◌, OnErr}
use Rattle.std.specs.List.{list_any}
use Rattle.int_core.specs.Heap.{Heap}
use Rattle.library_rows.specs.Look.{Look, looked}
use Rattle.list_laws.proofs.Items.{append_nil}
use Rattle.machine_core.specs.World.{World}
use Rattle.machine_sound.specs.Sound.{Each, Valid, Sizes, sizes, Sound}
use Rattle.table_core.specs.declared.value.Value.{Value as Kept}
use Rattle.lua_heap.specs.declared.world.World.{World as Memory}
use Rattle.lua_heap.specs.Changes.{Interns}
use Rattle.lua_heap.specs.Codes.{AreCodes}
use Rattle.lua_heap.specs.Law.{NewStringsKeep}
use Rattle.lua_heap.specs.Plain.{plain}
use Rattle.lua_heap.specs.Reading.{value}
use Rattle.lua_heap.specs.Strings.{interned}
use Rattle.pure_functions.specs.Answers.{heap_of, Stands, OnlyStrings, Changes}

arguments_stay : NewStringsKeep → (z : Sizes) (texts : List (List ℕ)) (text : List ℕ) (vs : List Kept) → Each (Valid z) (map (value texts) vs) →
    map (value (interned texts text)) vs ≡ map (value texts) vs
arguments_stay keep z texts text vs h = by (list_any (bytes_eq text) texts)
  where
    by : (b : Bool) → map (value (if b then texts else texts ++ text ∷ [])) vs ≡ map (value texts) vs
    by true = refl
    by false = (keep z texts text).values vs h

grown_by : List (List ℕ) → List ℕ → List (List ℕ)
grown_by texts text = if list_any (bytes_eq text) texts then [] else text ∷ []

grown : (texts : List (List ℕ)) (text : List ℕ) → interned texts text ≡ texts ++ grown_by texts text
unfolding grown_by
grown texts text = by (list_any (bytes_eq text) texts)
  where
    by : (b : Bool) → (if b then texts else texts ++ text ∷ []) ≡ texts ++ (if b then [] else text ∷ [])
    by true = sym (append_nil texts)
    by false = refl

pub only_strings : NewStringsKeep → (old new : Memory) (text : List ℕ) (arguments : List Kept) → Stands old arguments → Interns old new text → OnlyStrings old new arguments
only_strings keep old new text arguments s i =
    let e : plain new s.fuel ≡ plain old s.fuel = i.plain s.primitives s.fuel s.sound in
    let a : map (value new.strings) arguments ≡ map (value old.strings) arguments
    = ap (λ texts. map (value texts) arguments) i.strings ∙ arguments_stay keep (sizes s.primitives (plain old s.fuel)) old.strings text arguments s.valid in
    record {
      stands = record {
        primitives = s.primitives;
        fuel = s.fuel;
        sound = subst (Sound s.primitives) (sym e) s.sound;
        valid = subst (λ W. Each (Valid (sizes s.primitives W)) (map (value new.strings) arguments)) (sym e)
            (subst (λ vs. Each (Valid (sizes s.primitives (plain old s.fuel))) vs) (sym a) s.valid);
      };
      read = a;
      plain = λ fuel. ap {A = World} (λ W. record W { fuel = fuel }) e;
      codes = i.codes;
      rest = i.rest;
      more = grown_by old.strings text;
      grown = i.strings ∙ grown old.strings text;
    }

pub nothing : (W : Memory) (arguments : List Kept) → Stands W arguments → OnlyStrings W W arguments
nothing W arguments s = record { stands = s; read = refl; plain = λ fuel. refl; codes = λ h. h; rest = refl; more = []; grown = sym (append_nil W.strings) }

-- one after another
pub then_strings : (old mid new : Memory) (arguments : List Kept) → OnlyStrings old mid arguments → OnlyStrings mid new arguments → OnlyStrings old new arguments
then_strings old mid new arguments a b = record {
  stands = b.stands;
  read = b.read ∙ a.read;
  plain = λ fuel. b.plain fuel ∙ a.plain fuel;
  codes = λ h. b.codes (a.codes h);
  rest = b.rest ∙ ap {A = Memory} (λ W. record W { strings = new.strings }) a.rest;
  more = a.more ++ b.more;
  grown = b.grown ∙ ap (λ texts. texts ++ b.more) a.grown ∙ append_assoc old.strings a.more b.more;
}

pub same_heap : (old new : Memory) (arguments : List Kept) → OnlyStrings old new arguments → heap_of old ≡ heap_of new
same_heap old new arguments k = ap {A = World} (λ W. W.heap) (sym (k.plain 0))

-- a row comes to the same before and after
pub as_before : (row : Look) (old new : Memory) (arguments : List Kept) → OnlyStrings old new arguments →
    looked row (map (value old.strings) arguments) (heap_of old) ≡ looked row (map (value new.strings) arguments) (heap_of new)
as_before row old new arguments k =
    ap (λ vs. looked row vs (heap_of old)) (sym k.read) ∙ ap (λ H. looked row (map (value new.strings) arguments) H) (same_heap old new arguments k)

-- what is changed beside strings

pub changes_strings : (old new : Memory) (arguments : List Kept) → OnlyStrings old new arguments → Changes old new arguments
changes_strings old new arguments k = record {
  read = k.read;
  plain = λ fuel. k.plain fuel ∙ ap {A = Heap} (λ H. record (plain old fuel) { heap = H }) (same_heap old new arguments k);
  codes = k.codes;
  rest = k.rest ∙ ap {A = Memory} (λ W. record old { strings = new.strings; tables = W.tables }) (sym k.rest);
}

pub changes_tables : (old new : Memory) (arguments : List Kept) → new ≡ record old { tables = new.tables } → Changes old new arguments
changes_tables old new arguments e = record {
  read = ap {A = Memory} (λ W. map (value W.strings) arguments) e;
  plain = λ fuel. ap {A = Memory} (λ W. plain W fuel) e ∙ ap {A = Heap} (λ H. record (plain old fuel) { heap = H }) (sym (ap heap_of e));
  codes = λ h. subst {A = Memory} (λ W. AreCodes W.strings W.codes) (sym e) h;
  rest = e ∙ ap {A = Memory} (λ W. record old { strings = W.strings; tables = new.tables }) (sym e);
}

pub changes_both : (old mid new : Memory) (arguments : List Kept) → OnlyStrings old mid arguments → new ≡ record mid { tables = new.tables } → Changes old new arguments
changes_both old mid new arguments k e =
    let t = changes_tables mid new arguments e in
    record {
      read = t.read ∙ k.read;
      plain = λ fuel. t.plain fuel ∙ ap {A = World} (λ W. record W { heap = heap_of new }) (k.plain fuel);
      codes = λ h. t.codes (k.codes h);
      rest = e ∙ ap {A = Memory} (λ W. record W { tables = new.tables }) k.rest ∙ ap {A = Memory} (λ W. record old { strings = W.strings; tables = new.tables }) (sym e);
    }

pub same_world : (old new : Memory) → new ≡ old → new ≡ record old { tables = new.tables }
same_world old new e = e ∙ ap {A = Memory} (λ W. record old { tables = W.tables }) (sym e)

pub changes_nothing : (W : Memory) (arguments : List Kept) → Stands W arguments → Changes W W arguments
changes_nothing W arguments s = changes_strings W W arguments (nothing W arguments s)

pub same_strings : (old new : Memory) (arguments : List Kept) → Stands old arguments → new ≡ old → OnlyStrings old new arguments
same_strings old new arguments s e = subst (λ W. OnlyStrings old W arguments) (sym e) (nothing old arguments s)

pub whatever : {A E P : Type 0} (r : Result A E) → P → OnErr r P
whatever (Ok x) p = tt
whatever (Err e) p = p
