-- Functions that are added one after another, and the world that they and the libraries' tables make.
use Rattle.std.proofs.Common.{◌≡◌, ◌<◌, ℕ, zero, suc, ◌+◌, List, [], ◌∷◌, ◌++◌, map, length, take, replicate, Some, refl, ap, sym, subst, ◌∙◌, arith}
use Rattle.std.specs.Prelude.{slice_get, get_or}
use Rattle.std.proofs.lemmas.Option.{slice_get-get_or}
use Rattle.std.proofs.lemmas.List.{map_push}
use Rattle.code_core.specs.Prototype.{Prototype, prototypes, list_of}
use Rattle.code_core.specs.declared.proto.UpDesc.{UpDesc}
use Rattle.table_core.specs.declared.value.CellId.{CellId}
use Rattle.list_laws.proofs.Items.{get_old, length_more}
use Rattle.machine_core.specs.World.{Function}
use Rattle.machine_runs.specs.Opening.{numbers}
use Rattle.lua_heap.specs.declared.world.Func.{Func}
use Rattle.lua_heap.specs.declared.world.World.{World as Memory}
use Rattle.lua_heap.specs.Adding.{Begins, AddsCode}
use Rattle.lua_heap.specs.Codes.{functions, preorder, no_code, code_or_none, prototype_at, AreCodes}
use Rattle.lua_heap.specs.Plain.{function}
use Rattle.lua_opening.specs.Functions.{shares, AddsOne, AddsFunctions}

-- code is added, and no function of it yet
pub added_none : (a b : Memory) (cell : ℕ) (p : Prototype) → AddsCode a b p → a.funcs.objects ≡ [] → a.prelude.funcs.items ≡ [] → AddsFunctions a b cell []
added_none a b cell p c f n =
    let none : b.funcs.objects ≡ [] = ap (λ (W : Memory). W.funcs.objects) c.rest ∙ f in
    record {
      extends = record { strings = c.strings; codes = c.codes; rest = c.rest ∙ ap (λ (W : Memory). record a { strings = b.strings; codes = b.codes; funcs = W.funcs; prelude = record a.prelude { funcs = W.prelude.funcs } }) (sym c.rest) };
      count = ap length none;
      read = λ more. ap (map (function (functions b.codes ++ more))) none;
      named = ap (λ (W : Memory). map (λ f. f.0) W.prelude.funcs.items) c.rest ∙ ap (map (λ f. f.0)) n;
    }

get_middle : {A : Type 0} (xs ys : List A) (x : A) → slice_get (xs ++ x ∷ ys) (length xs) ≡ Some x
get_middle [] ys x = refl
get_middle (z ∷ xs) ys x = get_middle xs ys x

numbers_next : (from n : ℕ) → numbers from n ++ (from + n) ∷ [] ≡ numbers from (suc n)
numbers_next from zero = let e : from + 0 ≡ from = omega arith in ap (λ m. m ∷ []) e
numbers_next from (suc n) = let e : from + suc n ≡ suc from + n = omega arith in ap (λ m. from ∷ (numbers (suc from) n ++ m ∷ [])) e ∙ ap (λ l. from ∷ l) (numbers_next (suc from) n)

-- the function at a place of the code that was added
text_is : (a b : Memory) (p : Prototype) → AddsCode a b p → prototype_at (functions b.codes) (length (functions a.codes)) ≡ p
text_is a b p c = ap (λ codes. prototype_at codes (length (functions a.codes))) c.functions ∙ ap code_or_none (get_middle (functions a.codes) (preorder p.inner) p)

made_is : (codes : List Prototype) (p : Prototype) (n : ℕ) (made : Func) (cell : ℕ) → made.code.0 ≡ n → slice_get codes n ≡ Some p → map (λ c. c.0) made.cells.items ≡ map (λ _. cell) (prototype_at codes n).own.upvalues
    → (more : List Prototype) → function (codes ++ more) made ≡ shares cell p
made_is codes p n made cell e g c more =
    ap (λ (n : ℕ). record { code = prototype_at (codes ++ more) n; cells = map (λ c. c.0) made.cells.items }) e
    ∙ ap (λ (q : Prototype). record { code = q; cells = map (λ c. c.0) made.cells.items }) (ap code_or_none (get_old codes more n p g))
    ∙ ap (λ (cs : List ℕ). record { code = p; cells = cs }) (c ∙ ap (λ (q : Prototype). map (λ _. cell) q.own.upvalues) (ap code_or_none g))

pub added_more : (a b c : Memory) (cell n : ℕ) (ps : List Prototype) (p : Prototype) → AddsFunctions a b cell ps → AddsOne b c cell n → slice_get (functions b.codes) n ≡ Some p → AddsFunctions a c cell (ps ++ p ∷ [])
added_more a b c cell n ps p r o g =
    let codes : functions c.codes ≡ functions b.codes = ap (λ (W : Memory). functions W.codes) o.rest in
    record {
      extends = record {
        strings = subst (λ (W : Memory). Begins (List ℕ) a.strings W.strings) (sym o.rest) r.extends.strings;
        codes = subst (λ (W : Memory). AreCodes W.strings W.codes) (sym o.rest) r.extends.codes;
        rest = o.rest ∙ ap (λ (W : Memory). record W { funcs = c.funcs; prelude = record W.prelude { funcs = c.prelude.funcs } }) r.extends.rest
            ∙ ap (λ (W : Memory). record a { strings = W.strings; codes = W.codes; funcs = c.funcs; prelude = record a.prelude { funcs = c.prelude.funcs } }) (sym o.rest);
      };
      count =
          let x = ap length o.objects in
          let y = length_more b.funcs.objects o.made in
          let z = length_more ps p in
          let n = r.count in
          omega (arith, x, y, z, n);
      read = λ more.
          ap (map (function (functions c.codes ++ more))) o.objects
          ∙ map_push (function (functions c.codes ++ more)) b.funcs.objects o.made
          ∙ ap (λ codes. map (function (codes ++ more)) b.funcs.objects ++ function (codes ++ more) o.made ∷ []) codes
          ∙ ap (λ (l : List Function). l ++ function (functions b.codes ++ more) o.made ∷ []) (r.read more)
          ∙ ap (λ f. map (shares cell) ps ++ f ∷ []) (made_is (functions b.codes) p n o.made cell o.code g o.cells more)
          ∙ sym (map_push (shares cell) ps p);
      named =
          let e : length b.funcs.objects ≡ 0 + length ps = (let n = r.count in omega (arith, n)) in
          o.named ∙ ap (λ l. l ++ length b.funcs.objects ∷ []) r.named ∙ ap (λ n. numbers 0 (length ps) ++ n ∷ []) e ∙ numbers_next 0 (length ps) ∙ ap (numbers 0) (sym (length_more ps p));
    }

pub text_there : (a b W : Memory) (p : Prototype) (text : ℕ) → AddsCode a b p → text ≡ length (functions a.codes) → W.codes ≡ b.codes → prototype_at (functions W.codes) text ≡ p
text_there a b W p text c n e = ap (λ codes. prototype_at (functions codes) text) e ∙ ap (prototype_at (functions b.codes)) n ∙ text_is a b p c

-- functions are as many as are listed
listed_count : (ps : List Prototype) → length (list_of (prototypes ps)) ≡ length ps
listed_count [] = refl
listed_count (p ∷ ps) = ap suc (listed_count ps)

pub counted : (ps : List Prototype) (n m : ℕ) (p q : Prototype) → n ≡ m → m ≡ length ps → p ≡ q → p.inner ≡ prototypes ps → n ≡ length (list_of q.inner)
counted ps n m p q a b e f = a ∙ b ∙ sym (listed_count ps) ∙ ap (λ ps. length (list_of ps)) (sym f) ∙ ap (λ (p : Prototype). length (list_of p.inner)) e

-- a place within a list has something
pub at_place : (xs : List Prototype) (n : ℕ) → n < length xs → (p : Prototype) × (slice_get xs n ≡ Some p)
at_place xs n l = (get_or xs n no_code, slice_get-get_or xs n no_code l)

-- some of the functions of a text are added
pub record AreAdded (first coded W : Memory) (cell : ℕ) (p : Prototype) (count : ℕ) : Type 0 where
  pub added : AddsFunctions first W cell (take count (list_of p.inner))
  pub codes : W.codes ≡ coded.codes
  pub strings : W.strings ≡ coded.strings

pub copies : (us : List UpDesc) (x : CellId) → map (λ (c : CellId). c.0) (replicate (length us) x) ≡ map (λ (_ : UpDesc). x.0) us
copies [] x = refl
copies (u ∷ us) x = ap (λ l. x.0 ∷ l) (copies us x)
