-- The world before a script has the prelude, and so has one in which a script begins.
use Rattle.std.proofs.Common.{arith, ℕ, zero, suc, ◌≡◌, ◌<◌, ◌≤◌, List, [], ◌∷◌, Some, None, refl, subst, sym, ◌∙◌, ⊎_elim, length, map}
use Rattle.std.specs.Prelude.{slice_get}
use Rattle.code_core.specs.Prototype.{Prototype}
use Rattle.int_core.specs.Value.{a_table, object}
use Rattle.library_rows.specs.Library.{Entry}
use Rattle.lua_meaning.specs.Libraries.{environment_table}
use Rattle.machine_core.specs.World.{Function, closed, World}
use Rattle.machine_sound.proofs.Lists.{get_map, map_get, get_within, get_push_old, push_cases}
use Rattle.machine_runs.specs.Opening.{numbers, prelude_function, opening, main_cells, main_function, begun}
use Rattle.session_images.specs.Prelude.{HasPrelude}
use Rattle.session_images.specs.Laws.{OpeningHasPrelude, BegunHasPrelude, FunctionsAreKept}

none_past : (prelude : List (Entry Prototype)) (n : ℕ) (f : Function) → length prelude ≤ n → slice_get (map prelude_function prelude) n ≡ Some f → ⊥
none_past prelude n f past e =
    let m = map_get prelude_function prelude n f e in
    let w : n < length prelude = get_within prelude n m.0 m.1 in
    absurd (omega (arith, w, past))

pub opening_has_prelude : OpeningHasPrelude
unfolding opening
opening_has_prelude prelude = record {
  known = record { number = refl; names = refl; functions = λ n e h. get_map prelude_function prelude n e h };
  untouched = record { table = refl; cell = refl; apart = λ n f past e i c. none_past prelude n f past e };
}

-- numbers from one on are no less
numbers_from : (from count i m : ℕ) → slice_get (numbers from count) i ≡ Some m → from ≤ m
numbers_from from zero i m e = absurd (cc)
numbers_from from (suc count) zero m e = let same : from ≡ m = cc in omega (arith, same)
numbers_from from (suc count) (suc i) m e = let k = numbers_from (suc from) count i m e in omega (arith, k)

pub begun_has_prelude : BegunHasPrelude
unfolding begun
begun_has_prelude prelude W main h = record {
  known = record {
    number = h.known.number;
    names = h.known.names;
    functions = λ n e k. get_push_old W.functions (main_function W main ∷ []) n (prelude_function e) (h.known.functions n e k);
  };
  untouched = record {
    table = h.untouched.table;
    cell = get_push_old W.cells (main_cells W.globals (length main.own.upvalues)) 0 (closed (object a_table environment_table)) h.untouched.cell;
    apart = λ n f past k i c. ⊎_elim (λ old. h.untouched.apart n f past old i c) (λ new. main_apart f new.1 i c) (push_cases W.functions (main_function W main) f n k);
  };
}
  where
    main_apart : (f : Function) → main_function W main ≡ f → (i : ℕ) → slice_get f.cells i ≡ Some 0 → ⊥
    main_apart f is i c =
        let k = numbers_from (length W.cells) (length main.own.upvalues) i 0 (subst (λ (g : Function). slice_get g.cells i ≡ Some 0) (sym is) c) in
        let w = get_within W.cells 0 (closed (object a_table environment_table)) h.untouched.cell in
        absurd (omega (arith, k, w))

-- functions that stay
pub keeps_functions : FunctionsAreKept
keeps_functions prelude W V h k = record {
  number = k.environment ∙ h.number;
  names = k.prelude ∙ h.names;
  functions = λ n e is. subst (λ (fs : List Function). slice_get fs n ≡ Some (prelude_function e)) (sym k.functions) (get_push_old W.functions k.made n (prelude_function e) (h.functions n e is));
}
