-- What is kept of code says the same among more strings.
use Rattle.std.proofs.Common.{◌≡◌, ℕ, List, [], ◌∷◌, ◌++◌, map, true, ap, ◌∙◌}
use Rattle.std.specs.List.{list_all}
use Rattle.int_core.specs.Value.{known, string}
use Rattle.code_core.specs.declared.proto.Const.{Const}
use Rattle.code_core.specs.declared.proto.Const.TheVariants.{Nil, False, True, Int, Str as Text}
use Rattle.code_core.specs.Writable.{constant_fits}
use Rattle.machine_core.specs.Text.{constant}
use Rattle.machine_sound.proofs.Values.{both_of, le_of}
use Rattle.table_core.specs.declared.value.Value.{Value as Kept}
use Rattle.table_core.specs.declared.value.Value.TheVariants.{Nil as NilValue, Bool, Int as Integer, Str, Prim, Table, Func, Coro}
use Rattle.lua_heap.specs.declared.codes.Codes.{Codes}
use Rattle.lua_heap.specs.Reading.{value}
use Rattle.lua_heap.specs.Codes.{AreCodes}
use Rattle.lua_heap.proofs.Growing.{constants_fit}
use Rattle.lua_opening.proofs.Worlds.{still_read}

constant_still : (texts more : List (List ℕ)) (v : Kept) (k : Const) → constant_fits k ≡ true → value texts v ≡ known (constant k) → value (texts ++ more) v ≡ known (constant k)
constant_still texts more NilValue k f e = e
constant_still texts more (Bool b) k f e = e
constant_still texts more (Integer n) k f e = e
constant_still texts more (Prim n) k f e = e
constant_still texts more (Table n) k f e = absurd (cc)
constant_still texts more (Func n) k f e = absurd (cc)
constant_still texts more (Coro n) k f e = absurd (cc)
constant_still texts more (Str id) Nil f e = absurd (cc)
constant_still texts more (Str id) False f e = absurd (cc)
constant_still texts more (Str id) True f e = absurd (cc)
constant_still texts more (Str id) (Int n) f e = absurd (cc)
constant_still texts more (Str id) (Text bytes) f e = ap (λ text. known (string text)) (still_read texts more id.0 bytes (cc) (le_of _ _ f))

constants_still : (texts more : List (List ℕ)) (vs : List Kept) (ks : List Const) → list_all constant_fits ks ≡ true
    → map (value texts) vs ≡ map (λ k. known (constant k)) ks → map (value (texts ++ more)) vs ≡ map (λ k. known (constant k)) ks
constants_still texts more [] ks f e = e
constants_still texts more (v ∷ vs) [] f e = absurd (cc)
constants_still texts more (v ∷ vs) (k ∷ ks) f e =
    let here : value texts v ≡ known (constant k) = cc in
    let rest : map (value texts) vs ≡ map (λ k. known (constant k)) ks = cc in
    let b = both_of _ _ f in
    ap (λ w. w ∷ map (value (texts ++ more)) vs) (constant_still texts more v k b.0 here) ∙ ap (λ l. known (constant k) ∷ l) (constants_still texts more vs ks b.1 rest)

pub codes_still : (texts more : List (List ℕ)) (codes : Codes) → AreCodes texts codes → AreCodes (texts ++ more) codes
codes_still texts more codes h = record {
  count = h.count;
  firsts = h.firsts;
  each = λ n p code e f.
      let k = h.each n p code e f in
      record {
        checked = k.checked;
        words = k.words;
        constants = constants_still texts more code.constants.items p.own.constants (constants_fit p k.checked) k.constants;
        stack = k.stack;
        params = k.params;
        vararg = k.vararg;
        upvalues = k.upvalues;
        inner = k.inner;
      };
}
